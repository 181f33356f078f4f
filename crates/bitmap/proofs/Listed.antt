-- The fields present, listed a byte at a time, and in each byte a set bit at a time. Assumes nothing.
use Prim.Native.Nat.{ℕ, zero, suc, ◌+◌, ◌-◌, ◌*◌, ◌/◌, ◌%◌, ◌^◌, ◌≤◌, ◌<◌, min}
use mathlib.Core.Path.{◌≡◌, refl, sym, ap, ◌∙◌}
use mathlib.Core.Bool.{Bool, true, false, not}
use mathlib.Core.List.{List, [], ◌∷◌, ◌++◌, map, append-nil}
use native.Mathlib.Omega.{arith}
use native.Mathlib.Nat.{add-zero}
use lib.Count.{count_leading_zeros}
use Rattle.std.specs.Prelude.{bit_xor}
use lib.Dec.{T, eqb, ltb, eqb→eq, ltb→lt}
use lib.ListN.{length, take, get_or, set, replicate, length-map, length-append, length-drop}
use borrow.Rule.Slice.PartMut.{mid_of, put_mid}
use borrow.Author.Tests.{eq-eqb, ne_eqb}
use Rattle.octets.specs.Lists.{both, either, between, lay, placed}
use Rattle.octets.proofs.Cases.{false_true, by_bool, by_eq, by_le}
use Rattle.octets.proofs.Tables.{below, at, passed_left, passed_right}
use Rattle.octets.proofs.Lists.{placed_done}
use Rattle.octets.proofs.Parts.{part_rest, Written, written_none, written_room, written_byte, written_more, written_end}
use Rattle.bitmap.specs.Bits.{bit_in, bit_of}
use Rattle.bitmap.specs.Bitmaps.{is_field, has_field, fields_from, fields_of, unchained, bit_numbers}
use Rattle.bitmap.proofs.Fields.{fields_most, fields_split, fields_past}
use Rattle.bitmap.proofs.Maps.{field_not_65}
use Rattle.bitmap.proofs.ByBits.{bit_on, bit_off}

-- The first set bit of a byte, and the byte without it, as the code has them: its other set bits are those of the byte. Computed at each byte.
abbrev pub first : ℕ → ℕ
first x = count_leading_zeros 8 x

abbrev pub others : ℕ → ℕ
others x = bit_xor x (128 / 2 ^ first x)

same_list : List ℕ → List ℕ → Bool
same_list [] [] = true
same_list [] (y ∷ ys) = false
same_list (x ∷ xs) [] = false
same_list (x ∷ xs) (y ∷ ys) = both (eqb x y) (same_list xs ys)

same : (xs ys : List ℕ) → T (same_list xs ys) → xs ≡ ys
unfolding same_list
same [] [] t = refl
same [] (y ∷ ys) t = absurd t
same (x ∷ xs) [] t = absurd t
same (x ∷ xs) (y ∷ ys) t =
    rw (eqb→eq x y (passed_left (eqb x y) (same_list xs ys) t), same xs ys (passed_right (eqb x y) (same_list xs ys) t))

or_else : (a b : Bool) → a ≡ false → T (either a b) → T b
or_else true b e t = absurd (false_true (sym e))
or_else false b e t = t

module _ (x : ℕ) (small : x < 256) (some : x ≡ 0 → ⊥) where
  checked : (p : ℕ → Bool) → T (below (λ y. either (eqb y 0) (p y)) 256) → T (p x)
  checked p t = or_else (eqb x 0) (p x) (ne_eqb x 0 some) (at (λ (y : ℕ). either (eqb y 0) (p y)) 256 t x small)

  pub first_below : first x < 8
  unfolding count_leading_zeros
  first_below = ltb→lt (first x) 8 (checked (λ y. ltb (first y) 8) tt)

  pub others_below : others x < x
  unfolding count_leading_zeros
  others_below = ltb→lt (others x) x (checked (λ y. ltb (others y) y) tt)

  numbers_more : (f : ℕ) → bit_numbers x f ≡ (f + first x) ∷ bit_numbers (others x) f
  unfolding bit_numbers fields_from count_leading_zeros same_list
  numbers_more f =
      ap (map (λ i. f + i))
      (same (fields_from (bit_in x) 8 0) (first x ∷ fields_from (bit_in (others x)) 8 0)
      (checked (λ y. same_list (fields_from (bit_in y) 8 0) (first y ∷ fields_from (bit_in (others y)) 8 0)) tt))

numbers_none : (x f : ℕ) → x ≡ 0 → bit_numbers x f ≡ []
unfolding bit_numbers fields_from
numbers_none x f z = rw z

numbers_few : (x f : ℕ) → length (bit_numbers x f) ≤ 8
unfolding bit_numbers
numbers_few x f = omega (arith, length-map (fields_from (bit_in x) 8 0) (λ i. f + i), fields_most (bit_in x) 8 0)

-- The loop over the set bits of b, with n of their numbers written and the bits in rest still to come; d is the output as it was, o as it is now.
pub record Listing (b f : ℕ) (d o : List ℕ) (rest n : ℕ) : Type 0 where
  pub small : rest < 256
  pub written : Written (bit_numbers b f) d o (bit_numbers rest f) n

pub listing_none : (b f : ℕ) (d : List ℕ) → b < 256 → Listing b f d d b 0
listing_none b f d h = record { small = h; written = written_none (bit_numbers b f) d }

module _ (b f : ℕ) (d o : List ℕ) (rest n : ℕ) (c : Listing b f d o rest n) where
  pub listing_end : 8 ≤ length d → rest ≡ 0 → (n ≡ length (bit_numbers b f)) × (o ≡ placed (bit_numbers b f) d)
  listing_end room z =
      let e = written_end (bit_numbers b f) d o (bit_numbers rest f) n c.written (numbers_none rest f z) in
      (e.0, placed_done (bit_numbers b f) d (length (bit_numbers b f)) refl o (omega (arith, numbers_few b f)) e.1)

  module _ (some : rest ≡ 0 → ⊥) (room : 8 ≤ length d) where
    listing_room : n < 8
    listing_room =
        let e = ap length (numbers_more rest c.small some f) in
        omega (arith, numbers_few b f, written_room (bit_numbers b f) d o (bit_numbers rest f) n c.written)

    pub listing_fits : n < length o
    listing_fits = omega (arith, listing_room, c.written.size)

    pub listing_more : Listing b f d (set o n (f + first rest)) (others rest) (n + 1)
    listing_more =
        record {
          small = omega (arith, c.small, others_below rest c.small some);
          written = written_byte (bit_numbers b f) d o (bit_numbers (others rest) f) n (f + first rest) (rw (numbers_more rest c.small some f) at c.written) listing_fits;
        }

-- The fields among the bits of byte i are the numbers of its set bits without 1 and 65.
bit_at : (s : List ℕ) (i j : ℕ) → j < 8 → bit_of s (8 * i + 1 + j) ≡ bit_in (get_or s i 0) j
unfolding bit_of
bit_at s i j h =
    let q : (8 * i + 1 + j - 1) / 8 ≡ i = omega arith in
    let r : (8 * i + 1 + j - 1) % 8 ≡ j = omega arith in
    rw (ne_eqb (8 * i + 1 + j) 0 (λ (z : 8 * i + 1 + j ≡ 0). omega arith), q, r)

unchained_bit : (i j x : ℕ) → i < 24 → j < 8 → both (is_field (8 * i + 1 + j)) (bit_in x j) ≡ bit_in (unchained i x) j
unfolding is_field between unchained
unchained_bit i j x hi hj =
    by_eq (8 * i + 1 + j) 1
    (λ e. let z : i ≡ 0 = omega arith in let w : j ≡ 0 = omega arith in rw (z, w) (sym (bit_on false x)))
    (λ n1. by_eq (8 * i + 1 + j) 65
    (λ e. let z : i ≡ 8 = omega arith in let w : j ≡ 0 = omega arith in rw (z, w) (sym (bit_on false x)))
    (λ n65. rw (field n1 n65) (rest n1 n65)))
  where
    field : (8 * i + 1 + j ≡ 1 → ⊥) → (8 * i + 1 + j ≡ 65 → ⊥) → is_field (8 * i + 1 + j) ≡ true
    field n1 n65 = sym (field_not_65 (8 * i + 1 + j) (omega arith) (omega arith)) ∙ ap not (ne_eqb (8 * i + 1 + j) 65 n65)

    rest : (8 * i + 1 + j ≡ 1 → ⊥) → (8 * i + 1 + j ≡ 65 → ⊥) → bit_in x j ≡ bit_in (unchained i x) j
    rest n1 n65 =
        by_eq i 0
        (λ z. rw (eq-eqb i 0 z) (sym (bit_off false x j (omega arith) hj)))
        (λ n. by_eq i 8 (λ z. rw (ne_eqb i 0 n, eq-eqb i 8 z) (sym (bit_off false x j (omega arith) hj))) (λ m. rw (ne_eqb i 0 n, ne_eqb i 8 m)))

fields_placed : (p q : ℕ → Bool) (f k j : ℕ) → ((i : ℕ) → j ≤ i → i < j + k → p (f + i) ≡ q i) → fields_from p k (f + j) ≡ map (λ i. f + i) (fields_from q k j)
unfolding fields_from
fields_placed p q f zero j h = refl
fields_placed p q f (suc k) j h =
    let e = h j (omega arith) (omega arith) in
    let z : f + j + 1 ≡ f + (j + 1) = omega arith in
    let r : fields_from p k (f + j + 1) ≡ map (λ i. f + i) (fields_from q k (j + 1)) = rw z (fields_placed p q f k (j + 1) (λ i l u. h i (omega arith) (omega arith))) in
    by_bool (q j)
    (λ t. rw (fields_from, e, t) (ap (λ (l : List ℕ). (f + j) ∷ l) r))
    (λ t. rw (fields_from, e, t) r)

-- The fields from byte i on, a byte at a time.
module _ (s : List ℕ) where
  abbrev pub left : ℕ → List ℕ
  left i = fields_from (has_field s) (192 - 8 * i) (8 * i + 1)

  fields_byte : (i : ℕ) → i < 24 → fields_from (has_field s) 8 (8 * i + 1) ≡ bit_numbers (unchained i (get_or s i 0)) (8 * i + 1)
  unfolding bit_numbers has_field
  fields_byte i h =
      ap (fields_from (has_field s) 8) (sym (add-zero (8 * i + 1)))
      ∙ fields_placed (has_field s) (bit_in (unchained i (get_or s i 0))) (8 * i + 1) 8 0
      (λ j l u. ap (both (is_field (8 * i + 1 + j))) (bit_at s i j u) ∙ unchained_bit i j (get_or s i 0) h u)

  left_more : (i x : ℕ) → i < 24 → x ≡ unchained i (get_or s i 0) → left i ≡ bit_numbers x (8 * i + 1) ++ left (i + 1)
  left_more i x h e =
      let n : 192 - 8 * i ≡ 8 + (192 - 8 * (i + 1)) = omega arith in
      let f : 8 * i + 1 + 8 ≡ 8 * (i + 1) + 1 = omega arith in
      rw n (fields_split (has_field s) 8 (192 - 8 * (i + 1)) (8 * i + 1) ∙ rw (f, fields_byte i h, e))

  left_end : (i : ℕ) → min (length s) 24 ≤ i → left i ≡ []
  unfolding fields_from
  left_end i h =
      by_le 24 i
      (λ l. let z : 192 - 8 * i ≡ 0 = omega arith in rw z)
      (λ l. fields_past s i (192 - 8 * i) (omega arith))

-- The loop over the bytes of s, come to byte i: the n fields written in o and those from there on make the list.
pub record Filling (s o : List ℕ) (i n : ℕ) : Type 0 where
  pub early : i ≤ 24
  pub written : Written (fields_of s 3) (replicate 192 0) o (left s i) n

pub filling_none : (s : List ℕ) → Filling s (replicate 192 0) 0 0
unfolding fields_of
filling_none s = record { early = omega arith; written = written_none (fields_of s 3) (replicate 192 0) }

module _ (s o : List ℕ) (i n : ℕ) (c : Filling s o i n) where
  filling_size : length o ≡ 192
  filling_size = c.written.size

  filling_room : n ≤ 8 * i
  unfolding fields_of
  filling_room =
      let h = c.early in
      let e : 192 ≡ 8 * i + (192 - 8 * i) = omega arith in
      let f : 1 + 8 * i ≡ 8 * i + 1 = omega arith in
      let l : length (fields_of s 3) ≡ length (fields_from (has_field s) (8 * i) 1) + length (left s i) =
      ap (λ (k : ℕ). length (fields_from (has_field s) k 1)) e
      ∙ ap length (fields_split (has_field s) (8 * i) (192 - 8 * i) 1)
      ∙ length-append (fields_from (has_field s) (8 * i) 1) (fields_from (has_field s) (192 - 8 * i) (1 + 8 * i)) ∙ rw f in
      omega (arith, l, written_room (fields_of s 3) (replicate 192 0) o (left s i) n c.written, fields_most (has_field s) (8 * i) 1)

  pub filling_end : min (length s) 24 ≤ i → (n ≡ length (fields_of s 3)) × (o ≡ lay (fields_of s 3) (replicate 192 0))
  filling_end h = written_end (fields_of s 3) (replicate 192 0) o (left s i) n c.written (left_end s i h)

  filling_front : min (length s) 24 ≤ i → take n o ≡ fields_of s 3
  filling_front h = let w = rw (left_end s i h) at c.written in sym (append-nil (take n o)) ∙ w.front

  -- they are the list, as its type has it
  pub filling_list : min (length s) 24 ≤ i → ((n ≤ 192) × (o ≡ lay (take n o) (replicate 192 0))) × (take n o ≡ fields_of s 3)
  filling_list h =
      let few : n ≤ 192 = omega (arith, (filling_end h).0, fields_most (has_field s) 192 1) in
      ((few, rw (filling_front h) (filling_end h).1), filling_front h)

  module _ (more : i < min (length s) 24) where
    pub filling_lent : 8 ≤ length (mid_of n (192 - n) o)
    filling_lent =
        let z : 192 - n ≡ length o - n = omega (arith, filling_size) in
        rw (z, part_rest n o) (omega (arith, filling_room, filling_size, length-drop n o))

    pub filling_sum : (x k : ℕ) → k ≡ length (bit_numbers x (8 * i + 1)) → n + k ≤ 192
    filling_sum x k h = omega (arith, filling_room, numbers_few x (8 * i + 1))

    pub filling_more : (x k : ℕ) (f : List ℕ) → x ≡ unchained i (get_or s i 0) → k ≡ length (bit_numbers x (8 * i + 1))
        → f ≡ placed (bit_numbers x (8 * i + 1)) (mid_of n (192 - n) o) → Filling s (put_mid n (192 - n) o f) (i + 1) (n + k)
    filling_more x k f hx hk hf =
        let z : 192 - n ≡ length o - n = omega (arith, filling_size) in
        record {
          early = omega arith;
          written =
              rw z (written_more (fields_of s 3) (replicate 192 0) o (left s i) (bit_numbers x (8 * i + 1)) (left s (i + 1)) f n k
              c.written (left_more s i x (omega arith) hx) (sym hk) (omega (arith, filling_size, filling_sum x k hk)) (rw z at hf));
        }
