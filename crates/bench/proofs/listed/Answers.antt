-- `bench::listed` meets its contract: what the turns of a play come to is the listing.
use mathlib.Core.Path.{refl}
use Rattle.bench.specs.Playing.{bytes}
use Rattle.bench.proofs.PlayLaws.{all_listed}
use Rattle.bench.proofs.listed.Goals as goal

pub returns : goal.returns
returns g c =
    let ended = c.with_end in
    let played = c.played-play in
    let after = bytes played.new.session played.new.input played.new.output in
    record {
      play = played.result;
      after = after;
      played = played.ensures;
      ended = ended.ensures;
      same = refl;
      listed = all_listed {after = after} c.args.output.now played.ensures c.requires.0 refl c.requires.1 ended.ensures;
    }
