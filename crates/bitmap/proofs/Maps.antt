-- Fields by their numbers, how many bitmaps there are, and the bytes that are made of them. Assumes nothing.
use Prim.Native.Nat.{ℕ, zero, suc, ◌+◌, ◌*◌, ◌≤◌, ◌<◌}
use mathlib.Core.Path.{◌≡◌, refl, sym, ap, ◌∙◌}
use mathlib.Core.Bool.{true, false, not}
use mathlib.Core.List.{List}
use native.Mathlib.Omega.{arith}
use native.Mathlib.Nat.{zero-add}
use lib.Dec.{eqb, leb}
use lib.ListN.{length, get_or}
use borrow.Author.Tests.{le-leb, lt-leb, eq-eqb, ne_eqb}
use Rattle.octets.specs.Lists.{between}
use Rattle.octets.proofs.Cases.{by_bool, both_left}
use Rattle.octets.proofs.Lists.{is_between, below_low, above_high, between_low, between_high}
use Rattle.bitmap.specs.Bits.{bit_of}
use Rattle.bitmap.specs.Bitmaps.{is_field, count_of, chain, map_byte, maps_from}

-- is_field as facts
pub low_no_field : (f : ℕ) → f < 2 → false ≡ is_field f
unfolding is_field
low_no_field f h = rw (below_low 2 192 f h)

pub high_no_field : (f : ℕ) → 2 ≤ f → 192 < f → false ≡ is_field f
unfolding is_field
high_no_field f h k = rw (above_high 2 192 f h k)

pub field_not_65 : (f : ℕ) → 2 ≤ f → f ≤ 192 → not (eqb f 65) ≡ is_field f
unfolding is_field
field_not_65 f h k = rw (is_between 2 192 f h k)

pub field_low : (f : ℕ) → is_field f ≡ true → 2 ≤ f
unfolding is_field
field_low f t = between_low 2 192 f (both_left (between 2 192 f) (not (eqb f 65)) t)

pub field_high : (f : ℕ) → is_field f ≡ true → f ≤ 192
unfolding is_field
field_high f t = between_high 2 192 f (both_left (between 2 192 f) (not (eqb f 65)) t)

-- how many bitmaps there are
pub count_most : (s : List ℕ) → count_of s ≤ 3
unfolding count_of
count_most s =
    by_bool (bit_of s 1)
    (λ a. by_bool (bit_of s 65) (λ b. rw (a, b) (omega arith)) (λ b. rw (a, b) (omega arith)))
    (λ a. rw a (omega arith))

pub count_least : (s : List ℕ) → 1 ≤ count_of s
unfolding count_of
count_least s =
    by_bool (bit_of s 1)
    (λ a. by_bool (bit_of s 65) (λ b. rw (a, b) (omega arith)) (λ b. rw (a, b) (omega arith)))
    (λ a. rw a (omega arith))

-- the bytes of the bitmaps, one by one
maps_from_length : (m : ℕ) (s : List ℕ) (k i : ℕ) → length (maps_from m s k i) ≡ k
unfolding maps_from
maps_from_length m s zero i = refl
maps_from_length m s (suc k) i = ap suc (maps_from_length m s k (suc i))

maps_from_at : (m : ℕ) (s : List ℕ) (k i j : ℕ) → j < k → get_or (maps_from m s k i) j 0 ≡ map_byte m (i + j) (get_or s (i + j) 0)
unfolding maps_from
maps_from_at m s zero i j h = absurd (omega arith)
maps_from_at m s (suc k) i zero h = let e : i ≡ i + 0 = omega arith in ap (λ (n : ℕ). map_byte m n (get_or s n 0)) e
maps_from_at m s (suc k) i (suc j) h =
    let e : suc i + j ≡ i + suc j = omega arith in
    maps_from_at m s k (suc i) j (omega arith) ∙ ap (λ (n : ℕ). map_byte m n (get_or s n 0)) e

pub maps_length : (m : ℕ) (s : List ℕ) → length (maps_from m s 24 0) ≡ 24
maps_length m s = maps_from_length m s 24 0

pub maps_at : (m : ℕ) (s : List ℕ) (i v : ℕ) → i < 24 → v ≡ map_byte m i (get_or s i 0) → v ≡ get_or (maps_from m s 24 0) i 0
maps_at m s i v h e = e ∙ sym (maps_from_at m s 24 0 i h ∙ ap (λ (n : ℕ). map_byte m n (get_or s n 0)) (zero-add i))

-- `map_byte` by cases
module _ (m i x : ℕ) where
  pub byte_beyond : 8 * m ≤ i → 0 ≡ map_byte m i x
  unfolding map_byte
  byte_beyond h = rw (le-leb (8 * m) i h)

  module _ (inside : i < 8 * m) where
    pub byte_first : (v : ℕ) → i ≡ 0 → v ≡ chain (leb 2 m) x → v ≡ map_byte m i x
    unfolding map_byte
    byte_first v e h = rw (lt-leb (8 * m) i inside, eq-eqb i 0 e) h

    pub byte_second : (v : ℕ) → (i ≡ 0 → ⊥) → i ≡ 8 → v ≡ chain (leb 3 m) x → v ≡ map_byte m i x
    unfolding map_byte
    byte_second v n e h = rw (lt-leb (8 * m) i inside, ne_eqb i 0 n, eq-eqb i 8 e) h

    pub byte_other : (i ≡ 0 → ⊥) → (i ≡ 8 → ⊥) → x ≡ map_byte m i x
    unfolding map_byte
    byte_other n k = rw (lt-leb (8 * m) i inside, ne_eqb i 0 n, ne_eqb i 8 k)
