-- `profiles::arrays::judge_write` meets its contract: the law for each way out.
use Rattle.std.proofs.Common.{◌≡◌, ◌%◌, ◌/◌, ℕ, List, length, ap, ◌∙◌, arith}
use Rattle.framing.proofs.RefusalLaws.{below, not_below, last_below, last_not_below}
use Rattle.framing.proofs.ToldLaws.{passed, stops, goes_on}
use Rattle.profiles.specs.Writing.{size_for, list_refusal, write_refusal}
use Rattle.profiles.proofs.arrays.judge_write.Goals as goal

-- the bytes of an entry are as many as the profile's pieces
module _ (list : List ℕ) {bytes pieces : ℕ} (are : bytes ≡ pieces) where
  rest : length list % bytes ≡ length list % pieces
  rest = ap (λ (k : ℕ). length list % k) are

  count : length list / bytes ≡ length list / pieces
  count = ap (λ (k : ℕ). length list / k) are

pub returns-then-list-gt0 : goal.returns-then-list-gt0
unfolding write_refusal
returns-then-list-gt0 g c =
    let list = c.args.list.now in
    let whole = rest list g.met.E.Entry.bytes_are in
    below _ _ _ (omega (arith, whole))

pub returns-then-MOST-n : goal.returns-then-MOST-n
unfolding write_refusal
returns-then-MOST-n g c =
    let list = c.args.list.now in
    let whole = rest list g.met.E.Entry.bytes_are in
    let n = count list g.met.E.Entry.bytes_are in
    not_below _ _ _ _ (omega (arith, whole)) (below _ _ _ (omega (arith, n, c.MOST.ensures)))

pub returns-in_err-judge_list : goal.returns-in_err-judge_list
unfolding write_refusal
returns-in_err-judge_list g c =
    let list = c.args.list.now in
    let whole = rest list g.met.E.Entry.bytes_are in
    let n = count list g.met.E.Entry.bytes_are in
    passed _ _ c.from_residual.ensures.1
    ∙ not_below _ _ _ _ (omega (arith, whole))
    (not_below _ _ _ _ (omega (arith, n, c.MOST.ensures)) (stops _ _ _ (c.in_err-judge_list.ensures ∙ ap (list_refusal g.E.Entry.profile list) n)))

pub returns-then-room-size : goal.returns-then-room-size
unfolding write_refusal
returns-then-room-size g c =
    let list = c.args.list.now in
    let whole = rest list g.met.E.Entry.bytes_are in
    let n = count list g.met.E.Entry.bytes_are in
    let size = c.size.ensures ∙ ap (size_for g.E.Entry.profile list) n in
    not_below _ _ _ _ (omega (arith, whole))
    (not_below _ _ _ _ (omega (arith, n, c.MOST.ensures))
    (goes_on _ _ (c.in_ok-judge_list.ensures ∙ ap (list_refusal g.E.Entry.profile list) n)
    (last_below _ _ _ (omega (arith, c.if-room-size.true, size)))))

pub returns : goal.returns
unfolding write_refusal
returns g c =
    let list = c.args.list.now in
    let whole = rest list g.met.E.Entry.bytes_are in
    let n = count list g.met.E.Entry.bytes_are in
    let size = c.size.ensures ∙ ap (size_for g.E.Entry.profile list) n in
    not_below _ _ _ _ (omega (arith, whole))
    (not_below _ _ _ _ (omega (arith, n, c.MOST.ensures))
    (goes_on _ _ (c.in_ok-judge_list.ensures ∙ ap (list_refusal g.E.Entry.profile list) n)
    (last_not_below _ _ _ (omega (arith, c.if-room-size.false, size)))))
