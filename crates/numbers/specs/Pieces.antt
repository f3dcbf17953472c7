-- Pieces: fields one behind the other, given by their widths; read off a list of bytes, and written into one.
use Rattle.std.specs.Prelude.{ℕ, zero, suc, ◌+◌, List, [], ◌∷◌, ◌++◌}
use Rattle.numbers.specs.Fields.{field, put}

-- the bits that pieces take
unfoldable pub total : List ℕ → ℕ
total [] = 0
total (w ∷ ws) = w + total ws

-- pieces n times over
unfoldable pub times : ℕ → List ℕ → List ℕ
times zero ws = []
times (suc n) ws = ws ++ times n ws

-- the values of the pieces that start at bit p of s
unfoldable pub unpack : List ℕ → ℕ → List ℕ → List ℕ
unpack s p [] = []
unpack s p (w ∷ ws) = field s p w ∷ unpack s (p + w) ws

-- s with the pieces that start at bit p made the values vs; where values run out, s stays
unfoldable pub pack : List ℕ → ℕ → List ℕ → List ℕ → List ℕ
pack s p [] vs = s
pack s p (w ∷ ws) [] = s
pack s p (w ∷ ws) (v ∷ vs) = pack (put s p w v) (p + w) ws vs
