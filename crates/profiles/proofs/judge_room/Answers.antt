-- `profiles::judge_room` meets its contract: the test picks the ground.
use Rattle.framing.proofs.RefusalLaws.{last_not_below, last_below}
use Rattle.profiles.proofs.judge_room.Goals as goal

pub returns-then-room-bytes : goal.returns-then-room-bytes
returns-then-room-bytes c = last_below c.args.room c.args.bytes _ c.if-room-bytes.true

pub returns : goal.returns
returns c = last_not_below c.args.room c.args.bytes _ c.if-room-bytes.false
