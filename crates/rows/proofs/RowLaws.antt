-- Laws of rows.
use Prim.Native.Nat.{ℕ, zero, suc, ◌+◌, ◌-◌, ◌*◌, ◌≤◌, ◌<◌, min}
use mathlib.Core.List.{List, [], ◌++◌}
use mathlib.Core.Logic.{⊎_elim, ◌⊎◌, inl, inr}
use mathlib.Core.Path.{◌≡◌, refl, sym, ap, ◌∙◌}
use native.Mathlib.Omega.{arith}
use lib.ListN.{length, get_or, take, drop, replicate, length-take, length-drop, length-replicate, get_or-eq_default}
use lib.Seq.{sets, length-sets, ext_get_or, get_or-take, get_or-drop}
use Rattle.numbers.proofs.CopyLaws.{sets_out, sets_in}
use Rattle.numbers.specs.Fields.{bit_at, field}
use Rattle.numbers.specs.Pieces.{total, unpack, pack}
use Rattle.numbers.proofs.FieldLaws.{Bytes, same_byte, field-byte, lt_or_le}
use Rattle.numbers.proofs.PieceLaws.{length-pack, bytes-pack, bit_pack_out, unpack-pack}
use Rattle.trains.specs.declared.record.Order.{Order}
use Rattle.trains.specs.declared.record.Train.{Train}
use Rattle.trains.specs.Record.{order_count, order_at, blank_train}
use Rattle.rows.specs.Parts.{bits, track_sizes, order_sizes, orders_sizes, track_of, orders_of, track_values, order_values, orders_values, optional_of, position_of}
use Rattle.rows.specs.Row.{row_bytes, track_start, orders_start, head_sizes, head_values, row_at, put_row, row_sizes, row_values, train_of}
use Rattle.rows.proofs.Bytewise.{unpack_past, field-same, unpack-same, pack-same, bit_of_byte}
use Rattle.rows.proofs.FitLaws.{Fits, row_fit, train-back}

-- ---- a row by its parts

-- a row whose numbers and parts stand at these bits
abbrev row_from : List ℕ → ℕ → ℕ → ℕ → ℕ → ℕ → ℕ → ℕ → ℕ → Train
row_from s a b c d e f g h = record {
  loco = record { 0 = field s a 32 };
  ticket = record { 0 = field s b 32 };
  start = record { 0 = field s c 8 };
  slots = field s d 8;
  mode = field s e 8;
  left = field s f 8;
  track = track_of (unpack s g (bits track_sizes));
  orders = orders_of (unpack s h (bits orders_sizes));
}

-- where the parts of a row start
pub row_parts : (s : List ℕ) (at : ℕ)
    → row_at s at
    ≡ row_from s (8 * at) (8 * (at + 4)) (8 * (at + 8)) (8 * (at + 9)) (8 * (at + 10)) (8 * (at + 11)) (8 * (at + 12)) (8 * (at + 31))
unfolding row_at unpack optional_of position_of
row_parts s at =
    let p : ℕ = 8 * at in
    let b : p + 32 ≡ 8 * (at + 4) = omega arith in
    let c : p + 32 + 32 ≡ 8 * (at + 8) = omega arith in
    let d : p + 32 + 32 + 8 ≡ 8 * (at + 9) = omega arith in
    let e : p + 32 + 32 + 8 + 8 ≡ 8 * (at + 10) = omega arith in
    let f : p + 32 + 32 + 8 + 8 + 8 ≡ 8 * (at + 11) = omega arith in
    let g : p + 32 + 32 + 8 + 8 + 8 + 8 ≡ 8 * (at + 12) = omega arith in
    let h : p + 32 + 32 + 8 + 8 + 8 + 8 + 8 + 32 + 32 + 8 + 32 + 8 + 32 ≡ 8 * (at + 31) = omega arith in
    λ i. row_from s p (b i) (c i) (d i) (e i) (f i) (g i) (h i)

-- the sizes of the last n orders
unfoldable pub sizes_left : ℕ → List ℕ
sizes_left zero = []
sizes_left (suc n) = order_sizes ++ sizes_left n

-- the numbers of the orders from place k on, n of them
unfoldable pub values_left : List Order → ℕ → ℕ → List ℕ
values_left os k zero = []
values_left os k (suc n) = order_values (order_at os k) ++ values_left os (suc k) n

-- the order at place k put, and then those behind it
pub order-next : (os : List Order) (k : ℕ) (s t : List ℕ) → k < order_count
    → t ≡ pack s (8 * (orders_start + 9 * k)) (bits order_sizes) (order_values (order_at os k))
    → pack s (8 * (orders_start + 9 * k)) (bits (sizes_left (order_count - k))) (values_left os k (order_count - k))
    ≡ pack t (8 * (orders_start + 9 * (k + 1))) (bits (sizes_left (order_count - (k + 1)))) (values_left os (k + 1) (order_count - (k + 1)))
unfolding pack sizes_left values_left
order-next os k s t h e =
    let n : ℕ = order_count - (k + 1) in
    let z : order_count - k ≡ suc n = omega arith in
    let p : ℕ = 8 * (orders_start + 9 * k) in
    let q : p + 32 + 8 + 32 ≡ 8 * (orders_start + 9 * (k + 1)) = omega arith in
    let l : suc k ≡ k + 1 = omega arith in
    (λ i. pack s p (bits (sizes_left (z i))) (values_left os k (z i)))
    ∙ (λ i. pack (sym e i) (q i) (bits (sizes_left n)) (values_left os (l i) n))

-- where none is left nothing is put
pub order-end : (os : List Order) (k : ℕ) (s : List ℕ) (p : ℕ) → order_count ≤ k
    → pack s p (bits (sizes_left (order_count - k))) (values_left os k (order_count - k)) ≡ s
unfolding pack sizes_left values_left
order-end os k s p h = let z : order_count - k ≡ 0 = omega arith in λ i. pack s p (bits (sizes_left (z i))) (values_left os k (z i))

-- ---- past the end

-- a row past the end reads as blank
pub row_past : (s : List ℕ) (at : ℕ) → length s ≤ at → row_at s at ≡ blank_train
unfolding row_at optional_of position_of
row_past s at h = ap train_of (unpack_past s (8 * at) (bits row_sizes) (omega arith))

-- ---- a row is fixed by its 67 bytes

-- the bits of a row fill its bytes
row-bits : total (bits row_sizes) ≡ 8 * row_bytes
unfolding total
row-bits = refl

-- the same 67 bytes read as the same record
pub row_same : (s t : List ℕ) (a b : ℕ) → ((k : ℕ) → k < row_bytes → get_or s (a + k) 0 ≡ get_or t (b + k) 0) → row_at s a ≡ row_at t b
unfolding row_at
row_same s t a b h =
    ap train_of
    (unpack-same s t (8 * a) (8 * b) (bits row_sizes) (λ q l. bit_of_byte s t a b row_bytes h q (omega (arith, row-bits))))

-- the stretch of 67 bytes alone reads as the same record
pub row-stretch : (s : List ℕ) (at : ℕ) → row_at (take row_bytes (drop at s)) 0 ≡ row_at s at
row-stretch s at =
    row_same (take row_bytes (drop at s)) s 0 at
    (λ k l. ap (λ (n : ℕ). get_or (take row_bytes (drop at s)) n 0) (omega arith) ∙ get_or-take row_bytes (drop at s) k 0 l ∙ get_or-drop at s k 0)

-- a row of zeros is blank
pub row-zeros : (s : List ℕ) (at : ℕ) → ((k : ℕ) → k < row_bytes → get_or s (at + k) 0 ≡ 0) → row_at s at ≡ blank_train
row-zeros s at h = row_same s [] at 0 h ∙ row_past [] 0 (omega arith)

-- ---- a row that was put

pub length-put_row : (s : List ℕ) (at : ℕ) (t : Train) → length (put_row s at t) ≡ length s
unfolding put_row
length-put_row s at t = length-pack s (8 * at) (bits row_sizes) (row_values t)

-- bytes stay bytes
pub bytes-put_row : (s : List ℕ) (at : ℕ) (t : Train) → Bytes s → Bytes (put_row s at t)
unfolding put_row
bytes-put_row s at t h = bytes-pack s (8 * at) (bits row_sizes) (row_values t) h

-- a row that was put reads as the record
pub row_back_lem : (s : List ℕ) (at : ℕ) (t : Train) → Fits t → at + row_bytes ≤ length s → row_at (put_row s at t) at ≡ t
unfolding row_at put_row
row_back_lem s at t f h =
    ap train_of (unpack-pack s (8 * at) (row_fit t f) (omega (arith, row-bits))) ∙ train-back t f

-- a row that stands elsewhere stays
pub row_apart : (s : List ℕ) (at : ℕ) (t : Train) (b : ℕ) → (b + row_bytes ≤ at) ⊎ (at + row_bytes ≤ b) → row_at (put_row s at t) b ≡ row_at s b
unfolding row_at put_row
row_apart s at t b h =
    ap train_of
    (unpack-same (pack s (8 * at) (bits row_sizes) (row_values t)) s (8 * b) (8 * b) (bits row_sizes)
    (λ q l. bit_pack_out s (8 * at) (bits row_sizes) (row_values t) (8 * b + q)
    (⊎_elim (λ m. inl (omega (arith, row-bits))) (λ m. inr (omega (arith, row-bits))) h)))

put_out : (s : List ℕ) (at : ℕ) (t : Train) (q : ℕ) → (q < 8 * at) ⊎ (8 * (at + row_bytes) ≤ q) → bit_at (put_row s at t) q ≡ bit_at s q
unfolding put_row
put_out s at t q h =
    bit_pack_out s (8 * at) (bits row_sizes) (row_values t) q (⊎_elim (λ m. inl m) (λ m. inr (omega (arith, row-bits))) h)

-- a byte outside the row stays
pub byte-apart : (s : List ℕ) (at : ℕ) (t : Train) (i : ℕ) → Bytes s → (i < at) ⊎ (at + row_bytes ≤ i) → get_or (put_row s at t) i 0 ≡ get_or s i 0
byte-apart s at t i hs h =
    same_byte (put_row s at t) s i (bytes-put_row s at t hs) hs (λ q l m. out q l m h)
  where
    out : (q : ℕ) → 8 * i ≤ q → q < 8 * i + 8 → (i < at) ⊎ (at + row_bytes ≤ i) → bit_at (put_row s at t) q ≡ bit_at s q
    out q l m h = put_out s at t q (⊎_elim (λ k. inl (omega arith)) (λ k. inr (omega arith)) h)

-- the bytes of a record's row, by themselves
abbrev pub row_image : Train → List ℕ
row_image t = put_row (replicate row_bytes 0) 0 t

image_long : (t : Train) → length (row_image t) ≡ row_bytes
image_long t = length-put_row (replicate row_bytes 0) 0 t ∙ length-replicate {A = ℕ} row_bytes 0

-- they are put by their parts, one behind the other: x is the head, y the track behind it, z the orders behind both
module _ (t : Train) (x y z : List ℕ) (ex : x ≡ pack (replicate row_bytes 0) 0 (bits head_sizes) (head_values t))
    (ey : y ≡ pack x (8 * track_start) (bits track_sizes) (track_values t.track))
    (ez : z ≡ pack y (8 * orders_start) (bits orders_sizes) (orders_values t.orders)) where
  pub row_made : z ≡ row_image t
  unfolding put_row pack
  row_made =
      ez
      ∙ (λ k. pack ((ey ∙ (λ j. pack (ex j) (8 * track_start) (bits track_sizes) (track_values t.track))) k)
      (8 * orders_start) (bits orders_sizes) (orders_values t.orders))

  pub made_long : row_bytes ≡ length z
  made_long = sym (ap length row_made ∙ image_long t)

put_bit_lem : (s u : List ℕ) (a b : ℕ) (t : Train) (i k : ℕ) → a + i < length s → b + i < length u → i < row_bytes → k < 8
    → bit_at (put_row s a t) (8 * (a + i) + k) ≡ bit_at (put_row u b t) (8 * (b + i) + k)
unfolding put_row
put_bit_lem s u a b t i k ls lu l m =
    let e : 8 * (a + i) + k ≡ 8 * a + (8 * i + k) = omega arith in
    let f : 8 * (b + i) + k ≡ 8 * b + (8 * i + k) = omega arith in
    rw (e, f)
    (pack-same s u (8 * a) (8 * b) (bits row_sizes) (row_values t) (8 * i + k) refl
    (omega arith) (omega arith) (omega (arith, row-bits)))

get_d_replicate : (n i : ℕ) → ◌≡◌ {A = ℕ} (get_or (replicate n 0) i 0) 0
get_d_replicate zero i = refl
get_d_replicate (suc n) zero = refl
get_d_replicate (suc n) (suc i) = get_d_replicate n i

zeros-bytes : (n : ℕ) → Bytes (replicate n 0)
zeros-bytes zero i = omega arith
zeros-bytes (suc n) zero = omega arith
zeros-bytes (suc n) (suc i) = zeros-bytes n i

image_byte : (s u : List ℕ) (a b : ℕ) (t : Train) (i : ℕ) → Bytes s → Bytes u → a + i < length s → b + i < length u → i < row_bytes
    → get_or (put_row s a t) (a + i) 0 ≡ get_or (put_row u b t) (b + i) 0
image_byte s u a b t i hs hu ls lu l =
    sym (field-byte (put_row s a t) (a + i) (bytes-put_row s a t hs (a + i)))
    ∙ field-same (put_row s a t) (put_row u b t) (8 * (a + i)) (8 * (b + i)) 8 (λ k m. put_bit_lem s u a b t i k ls lu l m)
    ∙ field-byte (put_row u b t) (b + i) (bytes-put_row u b t hu (b + i))

-- the 67 bytes of a row that was put are those of the record's row, whatever stood there
pub row_image_lem : (s : List ℕ) (at : ℕ) (t : Train) → Bytes s → at + row_bytes ≤ length s → take row_bytes (drop at (put_row s at t)) ≡ row_image t
row_image_lem s at t hs h =
    let z : List ℕ = replicate row_bytes 0 in
    let lz : length z ≡ row_bytes = length-replicate {A = ℕ} row_bytes 0 in
    let lp : length (put_row s at t) ≡ length s = length-put_row s at t in
    let lt : length (take row_bytes (drop at (put_row s at t))) ≡ row_bytes =
    length-take row_bytes (drop at (put_row s at t)) ∙ rw (length-drop, lp) (omega arith) in
    ext_get_or 0 (take row_bytes (drop at (put_row s at t))) (row_image t) (lt ∙ sym (image_long t))
    (λ i l.
    let m : i < row_bytes = omega arith in
    get_or-take row_bytes (drop at (put_row s at t)) i 0 m
    ∙ get_or-drop at (put_row s at t) i 0
    ∙ image_byte s z at 0 t i hs (zeros-bytes row_bytes) (omega arith) (omega arith) m
    ∙ ap (λ (n : ℕ). get_or (row_image t) n 0) (omega arith))

-- ---- a row read and put through a copy of its bytes

-- the bytes of a row copied over zeros read as the same record
pub row_copied_lem : (s : List ℕ) (at : ℕ) → row_at (sets (replicate row_bytes 0) 0 (take row_bytes (drop at s))) 0 ≡ row_at s at
row_copied_lem s at = row_same (sets z 0 v) s 0 at (λ k l. byte k l (lt_or_le k (length v)))
  where
    z : List ℕ
    z = replicate row_bytes 0

    v : List ℕ
    v = take row_bytes (drop at s)

    byte : (k : ℕ) → k < row_bytes → (k < length v) ⊎ (length v ≤ k) → get_or (sets z 0 v) (0 + k) 0 ≡ get_or s (at + k) 0
    byte k l (inl m) =
        sets_in z 0 v k (rw (length-replicate {A = ℕ} row_bytes 0) (omega arith)) m ∙ get_or-take row_bytes (drop at s) k 0 l ∙ get_or-drop at s k 0
    byte k l (inr m) =
        let lv : length v ≡ min row_bytes (length s - at) = length-take row_bytes (drop at s) ∙ ap (min row_bytes) (length-drop at s) in
        sets_out z 0 v (0 + k) (inr (omega arith))
        ∙ get_d_replicate row_bytes (0 + k)
        ∙ sym (get_or-eq_default s 0 {n = at + k} (omega arith))

-- a record's row copied to where it goes is the record put there; what would be past the end is dropped
pub image_copied : (s : List ℕ) (at : ℕ) (t : Train) → Bytes s → sets s at (take row_bytes (drop 0 (row_image t))) ≡ put_row s at t
image_copied s at t hs =
    ext_get_or 0 (sets s at v) (put_row s at t) (length-sets s at v ∙ sym (length-put_row s at t))
    (λ j l. byte j (rw length-sets at l) (lt_or_le j at) (lt_or_le j (at + row_bytes)))
  where
    z : List ℕ
    z = replicate row_bytes 0

    v : List ℕ
    v = take row_bytes (drop 0 (row_image t))

    lz : length z ≡ row_bytes
    lz = length-replicate {A = ℕ} row_bytes 0

    lv : length v ≡ row_bytes
    lv = length-take row_bytes (row_image t) ∙ rw (image_long t) refl

    byte : (j : ℕ) → j < length s → (j < at) ⊎ (at ≤ j) → (j < at + row_bytes) ⊎ (at + row_bytes ≤ j)
        → get_or (sets s at v) j 0 ≡ get_or (put_row s at t) j 0
    byte j l (inl a) b = sets_out s at v j (inl a) ∙ sym (byte-apart s at t j hs (inl a))
    byte j l (inr a) (inr b) = sets_out s at v j (inr (omega (arith, lv))) ∙ sym (byte-apart s at t j hs (inr b))
    byte j l (inr a) (inl b) =
        let d : ℕ = j - at in
        let f : j ≡ at + d = omega arith in
        rw f
        (sets_in s at v d (omega arith) (omega (arith, lv))
        ∙ get_or-take row_bytes (row_image t) d 0 (omega arith)
        ∙ ap (λ (n : ℕ). get_or (row_image t) n 0) (omega arith)
        ∙ sym (image_byte s z at 0 t d hs (zeros-bytes row_bytes) (omega arith) (omega (arith, lz)) (omega arith)))
