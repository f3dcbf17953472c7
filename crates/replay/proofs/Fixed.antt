-- The demand leaves nothing open: the start and the history fix the view, the counter and the number of entries kept.
use Prim.Native.Nat.{ℕ}
use mathlib.Core.Path.{◌≡◌, sym, ◌∙◌, subst}
use mathlib.Core.List.{List, [], ◌∷◌}
use Rattle.replay.specs.Rules.{Rules, Outcome, accept}
use Rattle.replay.specs.Demand3.{Done, History, Session, Issued, tickets, standing, Replay, view_in, counter_in, kept_in, Demand3}

module _ (R : Rules) where
  open R use {View, Op, Reply}

  -- tickets issued from one counter lead to one counter
  issued_fixed : (c d d' : ℕ) (ts : List ℕ) → Issued R c ts d → Issued R c ts d' → d ≡ d'
  issued_fixed c d d' [] p q = sym p ∙ q
  issued_fixed c d d' (t ∷ ts) p q = issued_fixed t d d' ts p.2 q.2

  accept_fixed : (x : Outcome View Reply) (r : Reply) (m m' : View) → x ≡ accept r m → x ≡ accept r m' → m ≡ m'
  accept_fixed x r m m' p q = cc

  -- a replay from one view leads to one view
  pub replay_fixed : (d : List (Done Op Reply)) (v w w' : View) → Replay R v d w → Replay R v d w' → w ≡ w'
  replay_fixed [] v w w' p q = sym p ∙ q
  replay_fixed (x ∷ d) v w w' p q =
      replay_fixed d p.0 w w' p.2 (subst (λ (m : View). Replay R m d w') (sym (accept_fixed _ x.reply p.0 q.0 p.1 q.1)) q.2)

module _ {R : Rules} (S : Session R) where
  open S use {Bytes}

  pub demand3_fixes : (b b' b'' : Bytes) (h : History R) → Demand3 S b h b' → Demand3 S b h b''
      → (view_in S b' ≡ view_in S b'') × (counter_in S b' ≡ counter_in S b'') × (kept_in S b' ≡ kept_in S b'')
  demand3_fixes b b' b'' h p q = (
    replay_fixed R (standing h) (view_in S b) (view_in S b') (view_in S b'') p.replayed q.replayed,
    issued_fixed R (counter_in S b) (counter_in S b') (counter_in S b'') (tickets R h) p.tickets_rise q.tickets_rise,
    p.kept_is ∙ sym q.kept_is,
  )
