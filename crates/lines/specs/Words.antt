-- Words as text: a byte for each of their characters, which are ASCII.
use Rattle.std.specs.Prelude.{List, [] as none, ◌∷◌ as ◌then◌, ℕ}
use Prim.Native.Char.{code}
use Prim.Native.String.{String, [], ◌∷◌}

-- the bytes of words
unfoldable pub words : String → List ℕ
words [] = none
words (c ∷ s) = code c then words s
