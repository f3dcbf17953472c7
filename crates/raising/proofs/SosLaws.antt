-- What the two names of an SOS give to its ground and to what it does.
use Rattle.std.specs.Prelude.{Option, None, Some, ℕ, Bool, true, false, cond, not, ◌&&◌, ◌||◌}
use Rattle.std.specs.declared.result.Result.TheVariants.{Ok, Err}
use mathlib.Core.Path.{◌≡◌, refl, ap, ◌∙◌}
use Rattle.kinds.specs.declared.Loco.{Loco}
use Rattle.kinds.specs.declared.Ticket.{Ticket}
use Rattle.kinds.specs.Kinds.{loco_in_range}
use Rattle.sos.specs.declared.shares.Share.{Share}
use Rattle.sos.specs.Shares.{share_of_l1, share_of_l2}
use Rattle.rules.specs.declared.refusals.Refusal.{Refusal}
use Rattle.rules.specs.declared.refusals.Refusal.TheVariants.{BadLoco, NoLiveTrain}
use Rattle.rules.specs.{declared.named.Live.Live, declared.named.Named.Named as NamedSaid}
use Rattle.rules.specs.{Refusals.number_of, Effect.change, Effect.effect, Effect.no_slot, Ruling.accepted_with, Ruling.ruling, Ruling.when}
use Rattle.grids.specs.Cells.{measure_of, aspect_of}
use Rattle.rules.specs.Raising.{cell_for, share_for_2, share_for_1, share_taken, side_of, names_ground, trains_ground, sos_ground, raised}
use Rattle.rules.specs.Meant.{name_of, named_meant, pair_live, both_live, side_meant}

-- a loco is the one that was named, whether a live train was found or not
named_loco : (loco : Loco) (f : Option Live) → (name_of loco f).loco ≡ loco
named_loco loco None = refl
named_loco loco (Some l) = refl

-- a name that is refused is the first ground
pub names_refused : (l2 l1 : NamedSaid) (e : Refusal) (s2 s1 : Share) (o2 o1 : Ticket) (next : ℕ) → both_live l2 l1 ≡ Err e
    → number_of e ≡ names_ground (side_of (named_meant l2) s2 o2) (side_of (named_meant l1) s1 o1) next
unfolding both_live when number_of
names_refused l2 l1 e s2 s1 o2 o1 next q =
    rw (named_loco l2.loco l2.live, named_loco l1.loco l1.live) (go (loco_in_range l2.loco) (loco_in_range l1.loco) l2.live l1.live q)
  where
    go : (b2 b1 : Bool) (f2 f1 : Option Live) → cond (b2 && b1) (pair_live f2 f1) (Err BadLoco) ≡ Err e
        → number_of e ≡ when (not b2 || not b1) 10 (when (not (name_of l2.loco f2).live || not (name_of l1.loco f1).live) 16 next)
    go true true (Some a) (Some b) h = cc
    go true true (Some a) None h = let z : NoLiveTrain ≡ e = cc in rw (← z) refl
    go true true None (Some b) h = let z : NoLiveTrain ≡ e = cc in rw (← z) refl
    go true true None None h = let z : NoLiveTrain ≡ e = cc in rw (← z) refl
    go true false f2 f1 h = let z : BadLoco ≡ e = cc in rw (← z) refl
    go false b1 f2 f1 h = let z : BadLoco ≡ e = cc in rw (← z) refl

pub sos_refused : (margin grid : ℕ) (l2 l1 : NamedSaid) (e : Refusal) → both_live l2 l1 ≡ Err e
    → number_of e ≡ sos_ground margin grid (named_meant l2) (named_meant l1)
unfolding sos_ground
sos_refused margin grid l2 l1 e q =
    let t2 = (named_meant l2).train in
    let t1 = (named_meant l1).train in
    names_refused l2 l1 e (share_for_2 margin grid t2 t1) (share_for_1 grid t2 t1) t1.ticket t2.ticket _ q

-- names that are not refused are those of two live trains
pub names_live : (l2 l1 : NamedSaid) (t2 t1 : Live) → both_live l2 l1 ≡ Ok (t2, t1)
    → (l2.live ≡ Some t2) × (l1.live ≡ Some t1) × (loco_in_range l2.loco ≡ true) × (loco_in_range l1.loco ≡ true)
unfolding both_live
names_live l2 l1 t2 t1 q = go (loco_in_range l2.loco) (loco_in_range l1.loco) l2.live l1.live q
  where
    go : (b2 b1 : Bool) (f2 f1 : Option Live) → cond (b2 && b1) (pair_live f2 f1) (Err BadLoco) ≡ Ok (t2, t1)
        → (f2 ≡ Some t2) × (f1 ≡ Some t1) × (b2 ≡ true) × (b1 ≡ true)
    go true true (Some a) (Some b) h =
        let e : ◌≡◌ {A = Live × Live} (a, b) (t2, t1) = cc in
        (ap (λ (p : Live × Live). Some p.0) e, ap (λ (p : Live × Live). Some p.1) e, refl, refl)
    go true true (Some a) None h = cc
    go true true None f1 h = cc
    go true false f2 f1 h = cc
    go false b1 f2 f1 h = cc

-- then the ground is theirs
pub sos_of_trains : (margin grid : ℕ) (l2 l1 : NamedSaid) (t2 t1 : Live) → both_live l2 l1 ≡ Ok (t2, t1)
    → trains_ground grid (cell_for grid t2.train) (side_meant t2 (share_for_2 margin grid t2.train t1.train) t1.train.ticket)
    (side_meant t1 (share_for_1 grid t2.train t1.train) t2.train.ticket)
    ≡ sos_ground margin grid (named_meant l2) (named_meant l1)
unfolding sos_ground when
sos_of_trains margin grid l2 l1 t2 t1 q =
    let k = names_live l2 l1 t2 t1 q in
    rw (k.0, k.1, k.2, k.3) refl

-- and so is what is done
pub raised_for : (margin grid : ℕ) (counter : Ticket) (l2 l1 : NamedSaid) (t2 t1 : Live) → both_live l2 l1 ≡ Ok (t2, t1)
    → ruling (accepted_with (measure_of (cell_for grid t2.train)) (aspect_of (cell_for grid t2.train)) 0) counter
    (effect no_slot 0 false (change t2.row (share_taken (share_for_2 margin grid t2.train t1.train) t1.train.ticket t2.train))
    (change t1.row (share_taken (share_for_1 grid t2.train t1.train) t2.train.ticket t1.train)))
    ≡ raised margin grid counter (named_meant l2) (named_meant l1)
unfolding raised
raised_for margin grid counter l2 l1 t2 t1 q =
    let k = names_live l2 l1 t2 t1 q in
    rw (k.0, k.1) refl

-- the cell and the shares that are looked up are those of the rule
pub looked_up : (margin grid cell measure : ℕ) (s2 s1 : Share) (t2 t1 : Live) → cell ≡ cell_for grid t2.train → measure ≡ measure_of cell
    → s2 ≡ share_of_l2 measure t1.train t2.train margin → s1 ≡ share_of_l1 measure t1.train
    → (measure ≡ measure_of (cell_for grid t2.train)) × (s2 ≡ share_for_2 margin grid t2.train t1.train) × (s1 ≡ share_for_1 grid t2.train t1.train)
looked_up margin grid cell measure s2 s1 t2 t1 c m e f =
    let k : measure ≡ measure_of (cell_for grid t2.train) = m ∙ ap measure_of c in
    (k, e ∙ ap (λ (n : ℕ). share_of_l2 n t1.train t2.train margin) k, f ∙ ap (λ (n : ℕ). share_of_l1 n t1.train) k)
