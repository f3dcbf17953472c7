-- The frame of the first sub-packet as C sees it: the refusal and its place, and the offset and length of the payload.
use Rattle.std.specs.Prelude.{List, ℕ, length}
use Rattle.framing.specs.Framing.{frame_refusal, frame_of}
use Rattle.host.specs.declared.radio.FrameAnswer.{FrameAnswer}

-- the payload is the first bytes of those that were lent, so its offset is 0; of a refusal its length is 0 too
unfoldable pub frame_answer : List ℕ → FrameAnswer
frame_answer s = record { answer = (frame_refusal s).number; place = (frame_refusal s).place; offset = 0; length = length (frame_of s) }
