-- EVERY PROFILE KEEPS THE PROMISE that is regular, and whose header can say what is written, and no more.
use mathlib.Core.Path.{ap, ◌∙◌}
use Prim.Native.Nat.{ℕ, ◌*◌}
use lib.ListN.{length, drop}
use lib.Seq.{drop_at}
use Rattle.framing.proofs.RefusalLaws.{unless-none}
use Rattle.profiles.specs.Profiles.{Profile, count_of}
use Rattle.profiles.specs.Reading.{entries_of, read_into}
use Rattle.profiles.specs.Writing.{entries_in, size_for, write_into}
use Rattle.profiles.specs.Promised.{Promised}
use Rattle.profiles.proofs.ProfileLaws.{Regular}
use Rattle.profiles.proofs.ReadingLaws.{length_entries}
use Rattle.profiles.proofs.BehindLaws.{Headers, read-unread}
use Rattle.profiles.proofs.PlaceLaws.{runs_past}
use Rattle.profiles.proofs.RoundTrip.{Sayable, Full, one_reading, there_and_back, back_and_there, written_past}

pub promised : (f : Profile) (most : ℕ) → Regular f → Headers f → Sayable f most → Full f most → Promised f most
unfolding read_into write_into
promised f most reg small ok full = record {
  there_and_back = there_and_back f reg most full;
  back_and_there = back_and_there f reg most ok;
  one_reading = λ s t o u. one_reading f reg s t (length o) (length u);
  unread = read-unread f small;
  runs_past = runs_past f;
  behind_read = λ s o e. ap (drop (f.pieces * count_of f s)) (unless-none _ _ _ e) ∙ drop_at (entries_of f s) _ (f.pieces * count_of f s) (length_entries f reg s);
  behind_written = λ list o ho e. ap (drop (size_for f list (entries_in f list))) (unless-none _ _ _ e) ∙ written_past f list o ho;
}
