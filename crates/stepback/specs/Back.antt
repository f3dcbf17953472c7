-- STEP-BACK of lent bytes, for all bytes and all k; and what is answered where the bytes are no session.
use mathlib.Core.{Bool.cond, List.List}
use Rattle.std.specs.Prelude.{ℕ, ◌-◌, ltb}
use Rattle.rules.specs.{Refusals.wrong_length, Refusals.too_far_back, Ruling.accepted_with, Ruling.refused_with, declared.ruling.Answer.Answer}
use Rattle.store.specs.{Layout.is_session, Stands.kept_of}
use Rattle.ledger.specs.Back.{stepped_in}

-- an answer where the lent bytes are as long as a session; any other length is refused
unfoldable pub of_session : List ℕ → Answer → Answer
of_session bs answer = cond (is_session bs) answer (refused_with wrong_length)

-- the answer to a step back of k: the entries kept then
unfoldable pub back_answer : List ℕ → ℕ → Answer
back_answer bs k = of_session bs (cond (ltb (kept_of bs) k) (refused_with too_far_back) (accepted_with (kept_of bs - k) 0 0))

-- the bytes after a step back of k
unfoldable pub back_after : List ℕ → ℕ → List ℕ
back_after bs k = cond (ltb (kept_of bs) k) bs (stepped_in k bs)
