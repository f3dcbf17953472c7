-- DEMAND 3 OF A HOST: operations and records mixed in any order do to a session what the calls that they make do, so demand 3 holds of those.
use mathlib.Core.Path.{◌≡◌, refl, sym, subst}
use mathlib.Core.Bool.{Bool, true, false, cond}
use mathlib.Core.List.{List, [], ◌∷◌}
use Prim.Native.Nat.{ℕ}
use lib.ListN.{length}
use Rattle.replay.specs.Demand3.{Call, Demand3}
use Rattle.rules.specs.Rules.{Op}
use Rattle.store.specs.Layout.{session_bytes}
use Rattle.standing.specs.Calls.{history, bytes_after_all}
use Rattle.standing.specs.Functions.{start_came}
use Rattle.standing.specs.Ordered.{Ordered}
use Rattle.standing.specs.Standing.{bytes_left, session}
use Rattle.standing.proofs.OrderedLaws.{ordered_from_start}
use Rattle.standing.proofs.Theorem.{demand3_from_start}
use Rattle.records.specs.Form.{is_run, call_of}
use Rattle.recording.specs.Running.{bytes_after_record}
use Rattle.host.specs.Mixed.{Did, called, ran, left_by, left_by_all, calls_by}

-- a record, by whether it is run
run_or_not : (b : Bool) (bs : List ℕ) (c : Call Op) (ds : List Did) → left_by_all (bytes_left bs c) ds ≡ bytes_after_all (bytes_left bs c) (calls_by ds)
    → left_by_all bs ds ≡ bytes_after_all bs (calls_by ds)
    → left_by_all (cond b (bytes_left bs c) bs) ds ≡ bytes_after_all bs (cond b (c ∷ calls_by ds) (calls_by ds))
unfolding bytes_after_all
run_or_not true bs c ds run not_run_lem = run
run_or_not false bs c ds run not_run_lem = not_run_lem

-- the bytes are those that the calls leave
pub mixed_bytes : (bs : List ℕ) (ds : List Did) → left_by_all bs ds ≡ bytes_after_all bs (calls_by ds)
unfolding left_by_all left_by calls_by bytes_after_all bytes_after_record
mixed_bytes bs [] = refl
mixed_bytes bs (called c ∷ ds) = mixed_bytes (bytes_left bs c) ds
mixed_bytes bs (ran held before ∷ ds) =
    run_or_not (is_run held before) bs (call_of held) ds (mixed_bytes (bytes_left bs (call_of held)) ds) (mixed_bytes bs ds)

module _ (bs : List ℕ) (size : length bs ≡ session_bytes) (ds : List Did) where
  -- DEMAND 3 FROM THE EMPTY SESSION, whatever a host does
  pub mixed_demand3 : Demand3 session (start_came bs).after (history (start_came bs).after (calls_by ds)) (left_by_all (start_came bs).after ds)
  mixed_demand3 =
      subst (Demand3 session (start_came bs).after (history (start_came bs).after (calls_by ds))) (sym (mixed_bytes (start_came bs).after ds))
      (demand3_from_start bs size (calls_by ds))

  -- and the session is in order
  pub mixed_ordered : Ordered (left_by_all (start_came bs).after ds)
  mixed_ordered = subst Ordered (sym (mixed_bytes (start_came bs).after ds)) (ordered_from_start bs size (calls_by ds))
