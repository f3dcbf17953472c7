-- `raising::raise` meets its contract.
use Rattle.std.specs.Prelude.{false}
use Rattle.std.specs.declared.result.Result.TheVariants.{Ok}
use mathlib.Core.Path.{◌≡◌, sym, ap, ◌∙◌}
use Rattle.sos.specs.declared.shares.Share.{Share}
use Rattle.grids.specs.Cells.{cell_of, aspect_of}
use Rattle.rules.specs.{Effect.change, Effect.effect, Effect.no_slot, Ruling.accepted_with, Ruling.ruling}
use Rattle.rules.specs.Raising.{share_taken, trains_ground}
use Rattle.rules.specs.Meant.{ruling_meant, both_live, side_meant}
use Rattle.rules.proofs.ChainLaws.{met, refuses_by, allows}
use Rattle.raising.proofs.SosLaws.{sos_refused, sos_of_trains, raised_for, looked_up}
use Rattle.raising.proofs.raise.Goals as goal

pub returns-in_err-live2 : goal.returns-in_err-live2
returns-in_err-live2 c =
    let a = c.args in
    ap (ruling_meant a.counter) (met _ _ c.from_residual.ensures.1)
    ∙ refuses_by a.counter _ _ _ (sos_refused a.margin a.grid a.l2 a.l1 _ (sym c.both.ensures ∙ c.in_err-live2.was))

pub returns-in_err-judge : goal.returns-in_err-judge
returns-in_err-judge c =
    let a = c.args in
    let t2 = c.in_ok-live2.live2 in
    let t1 = c.in_ok-live2.live1 in
    let cell = c.cell-cell.ensures ∙ ap (cell_of a.grid) c.class_of.ensures in
    let k = looked_up a.margin a.grid _ _ _ _ t2 t1 cell c.measure-measure.ensures c.share_of_l2-share2.ensures c.share_of_l1-share1.ensures in
    ap (ruling_meant a.counter) (met _ _ c.from_residual-in_err-judge.ensures.1)
    ∙ refuses_by a.counter _ _ _
    (c.in_err-judge.ensures
    ∙ (λ i. trains_ground a.grid (cell i) (side_meant t2 (k.1 i) t1.train.ticket) (side_meant t1 (k.2 i) t2.train.ticket))
    ∙ sos_of_trains a.margin a.grid a.l2 a.l1 t2 t1 (sym c.both.ensures ∙ c.in_ok-live2.was))

pub returns : goal.returns
returns c =
    let a = c.args in
    let t2 = c.in_ok-live2.live2 in
    let t1 = c.in_ok-live2.live1 in
    let q : both_live a.l2 a.l1 ≡ Ok (t2, t1) = sym c.both.ensures ∙ c.in_ok-live2.was in
    let cell = c.cell-cell.ensures ∙ ap (cell_of a.grid) c.class_of.ensures in
    let k = looked_up a.margin a.grid _ _ _ _ t2 t1 cell c.measure-measure.ensures c.share_of_l2-share2.ensures c.share_of_l1-share1.ensures in
    let x2 = c.take_share.ensures ∙ ap (λ (s : Share). share_taken s t1.train.ticket t2.train) k.1 in
    let x1 = c.take_share-2.ensures ∙ ap (λ (s : Share). share_taken s t2.train.ticket t1.train) k.2 in
    (λ i. ruling (accepted_with c.measure-measure.result c.aspect.result 0) a.counter (c.on_two_rows.ensures i))
    ∙ (λ i. ruling (accepted_with (k.0 i) ((c.aspect.ensures ∙ ap aspect_of cell) i) 0) a.counter
    (effect no_slot 0 false (change t2.row (x2 i)) (change t1.row (x1 i))))
    ∙ raised_for a.margin a.grid a.counter a.l2 a.l1 t2 t1 q
    ∙ allows a.counter _ _
    (c.in_ok-judge.ensures
    ∙ (λ i. trains_ground a.grid (cell i) (side_meant t2 (k.1 i) t1.train.ticket) (side_meant t1 (k.2 i) t2.train.ticket))
    ∙ sos_of_trains a.margin a.grid a.l2 a.l1 t2 t1 q)
