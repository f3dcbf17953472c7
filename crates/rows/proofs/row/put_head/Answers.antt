-- `rows::row::put_head` meets its contract.
use mathlib.Core.Path.{refl}
use mathlib.Core.List.{[], ◌∷◌}
use Rattle.rows.proofs.Bytewise.{put_next, put-done}
use Rattle.rows.proofs.row.put_head.Goals as goal

pub returns : goal.returns
returns c =
    put_next 4 0 4 (4 ∷ 1 ∷ 1 ∷ 1 ∷ 1 ∷ []) _ _ _ _ _ c.put_word.ensures refl
    (put_next 4 4 8 (1 ∷ 1 ∷ 1 ∷ 1 ∷ []) _ _ _ _ _ c.put_word-2.ensures refl
    (put_next 1 8 9 (1 ∷ 1 ∷ 1 ∷ []) _ _ _ _ _ c.put_byte.ensures refl
    (put_next 1 9 10 (1 ∷ 1 ∷ []) _ _ _ _ _ c.put_byte-2.ensures refl
    (put_next 1 10 11 (1 ∷ []) _ _ _ _ _ c.put_byte-3.ensures refl
    (put_next 1 11 12 [] _ _ _ _ _ c.put_byte-4.ensures refl (put-done _ _))))))
