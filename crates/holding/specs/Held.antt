-- What is held of an input: a stretch of a buffer. `longest` is the bytes of the longest item.
use mathlib.Core.{Bool.Bool, Bool.true, Bool.false, Bool.◌||◌, List.List, List.[], List.◌++◌, Path.◌≡◌}
use Rattle.std.specs.Prelude.{ℕ, zero, suc, ◌+◌, ◌-◌, ◌≤◌, min, Ok, Err}
use Rattle.std.specs.declared.result.Result.{Result}
use lib.{Dec.eqb, Dec.ltb, ListN.length, ListN.take, ListN.drop}
use Rattle.holding.specs.declared.Held.{Held}

-- the bytes of a buffer from one offset up to another
unfoldable pub stretch : List ℕ → ℕ → ℕ → List ℕ
stretch buffer at end = take (end - at) (drop at buffer)

-- the bytes that are held
abbrev pub held_bytes : List ℕ → Held → List ℕ
held_bytes buffer h = stretch buffer h.at h.end

-- where they stand in a buffer of so many bytes
abbrev pub held_at : ℕ → Held → ℕ
held_at size h = min h.at (min h.end size)

-- nothing is held, and more may come
abbrev pub nothing_held : Held
nothing_held = record { at = 0; end = 0; ended = false; failed = false }

-- the first bytes up to `end` are held, and nothing more comes, whether or not that is since a read failed
abbrev pub last_held : ℕ → Bool → Held
last_held end failed = record { at = 0; end = end; ended = true; failed = failed }

-- what a read that gave so many bytes behind the first `end` is taken for: none is the end of the input, and no failure
abbrev pub given_by : ℕ → ℕ → Result ℕ Held
given_by zero end = Err (last_held end false)
given_by (suc n) end = Ok (suc n)

-- of the same bytes, the first `used` are not held any more
abbrev pub behind_by : ℕ → Held → Held
behind_by used h = record { at = min (h.at + used) h.end; end = h.end; ended = h.ended; failed = h.failed }

-- there is no item: nothing can be read, or nothing is left
unfoldable pub is_end : Held → List ℕ → Bool
is_end h bytes = h.failed || eqb (length bytes) 0

-- what reading behind the first `kept` bytes of a buffer does: they stay, what is held begins with them, and the input has ended where fewer
-- bytes are held than the longest item has
pub record ReadOn (longest kept : ℕ) (before after : List ℕ) (r : Held) : Type 0 where
  pub front : r.at ≡ 0
  pub more : kept ≤ r.end
  pub inside : r.end ≤ length after
  pub same : take kept after ≡ take kept before
  pub ended : r.ended ≡ ltb r.end longest
  pub failed : r.ended ≡ false → r.failed ≡ false

-- what is held made ready for a turn: `more` is read behind it, as much as the longest item needs; nothing where the input has ended
pub record IsReady (longest : ℕ) (before : List ℕ) (h : Held) (after : List ℕ) (r : Held) : Type 0 where
  pub more : List ℕ
  pub kept : held_bytes after r ≡ held_bytes before h ++ more
  pub closed : h.ended ≡ true → (more ≡ []) × (r ≡ h)
  pub enough : r.ended ≡ false → longest ≤ length (held_bytes after r)
  pub failed : h.failed ≡ false → r.ended ≡ false → r.failed ≡ false
