-- What it means that bitmaps of an input are found. Assumes nothing.
use Prim.Native.Nat.{ℕ, ◌+◌, ◌-◌, ◌*◌, ◌/◌, ◌≤◌, ◌<◌}
use mathlib.Core.Path.{◌≡◌, sym, ◌∙◌}
use mathlib.Core.Bool.{true, false}
use mathlib.Core.List.{List}
use native.Mathlib.Omega.{arith}
use lib.ListN.{length, take, drop}
use lib.Seq.{get_or-take}
use lib.Dec.{leb}
use borrow.Author.Tests.{lt-ltb, le-ltb, le-leb, leb-true}
use Rattle.std.specs.Prelude.{Result, Ok, Err}
use Rattle.octets.proofs.Cases.{by_bool, by_lt}
use Rattle.refusal.specs.Numbers.{bitmap_incomplete, bitmap_over_most}
use Rattle.refusal.specs.Refusals.{refusal}
use Rattle.refusal.specs.declared.Refusal.{Refusal}
use Rattle.bitmap.specs.Bits.{bit_of}
use Rattle.bitmap.specs.Bitmaps.{count_of}
use Rattle.bitmap.proofs.Maps.{count_least, count_most}
use Rattle.bitmap_read.specs.Found.{maps_of, bitmaps_read}

-- What it means that k bitmaps are found, the first at a, where at most m are taken.
pub record FoundMaps (a m : ℕ) (s : List ℕ) (k : ℕ) : Type 0 where
  pub chained : k ≡ count_of (maps_of a s k)
  pub long : a + 8 * k ≤ length s
  pub few : k ≤ m

-- there is one, and there are no more than three
pub maps_least : (a m : ℕ) (s : List ℕ) (k : ℕ) → FoundMaps a m s k → 1 ≤ k
maps_least a m s k h = omega (arith, h.chained, count_least (maps_of a s k))

pub maps_most : (a m : ℕ) (s : List ℕ) (k : ℕ) → FoundMaps a m s k → k ≤ 3
maps_most a m s k h = omega (arith, h.chained, count_most (maps_of a s k))

-- the first bits of a front are those of the whole
pub bit_front : (s : List ℕ) (n f : ℕ) → (f - 1) / 8 < n → bit_of (take n s) f ≡ bit_of s f
unfolding bit_of
bit_front s n f h = rw (get_or-take n s ((f - 1) / 8) 0 h)

never : (o : Result ℕ Refusal) (r : Refusal) (k : ℕ) → o ≡ Err r → o ≡ Ok k → ⊥
never o r k p q = let z : ◌≡◌ {A = ℕ} 0 1 = cc in omega arith

same : (o : Result ℕ Refusal) (j k : ℕ) → o ≡ Ok j → o ≡ Ok k → j ≡ k
same o j k p q = cc

module _ (a m : ℕ) (s : List ℕ) where
  -- the count that the bitmaps ask for, by their two chaining bits
  count_1 : bit_of (drop a s) 1 ≡ false → 1 ≡ count_of (maps_of a s 1)
  unfolding count_of maps_of
  count_1 b = rw (bit_front (drop a s) (8 * 1) 1 (omega arith), b)

  count_2 : bit_of (drop a s) 1 ≡ true → bit_of (drop a s) 65 ≡ false → 2 ≡ count_of (maps_of a s 2)
  unfolding count_of maps_of
  count_2 b c = rw (bit_front (drop a s) (8 * 2) 1 (omega arith), bit_front (drop a s) (8 * 2) 65 (omega arith), b, c)

  count_3 : bit_of (drop a s) 1 ≡ true → bit_of (drop a s) 65 ≡ true → 3 ≡ count_of (maps_of a s 3)
  unfolding count_of maps_of
  count_3 b c = rw (bit_front (drop a s) (8 * 3) 1 (omega arith), bit_front (drop a s) (8 * 3) 65 (omega arith), b, c)

  pub maps_found : (k : ℕ) → 2 ≤ m → bitmaps_read a m s ≡ Ok k → FoundMaps a m s k
  unfolding bitmaps_read
  maps_found k most e =
      by_lt (length s) (a + 8) (λ h. absurd (never _ (refusal bitmap_incomplete 0 a) k (rw (lt-ltb (length s) (a + 8) h)) e))
      (λ one. by_bool (bit_of (drop a s) 1)
      (λ b. by_lt (length s) (a + 16) (λ h. absurd (never _ (refusal bitmap_incomplete 0 (a + 8)) k (rw (le-ltb (length s) (a + 8) one, b, lt-ltb (length s) (a + 16) h)) e))
      (λ two. by_bool (bit_of (drop a s) 65)
      (λ c. by_bool (leb 3 m)
      (λ t. by_lt (length s) (a + 24) (λ h. absurd (never _ (refusal bitmap_incomplete 0 (a + 16)) k (rw (le-ltb (length s) (a + 8) one, b, le-ltb (length s) (a + 16) two, c, t, lt-ltb (length s) (a + 24) h)) e))
      (λ three.
      let j : 3 ≡ k = same _ 3 k (rw (le-ltb (length s) (a + 8) one, b, le-ltb (length s) (a + 16) two, c, t, le-ltb (length s) (a + 24) three)) e in
      rw (← j) (record { chained = count_3 b c; long = three; few = leb-true 3 m t })))
      (λ t. absurd (never _ (refusal bitmap_over_most 0 (a + 8)) k (rw (le-ltb (length s) (a + 8) one, b, le-ltb (length s) (a + 16) two, c, t)) e)))
      (λ c.
      let j : 2 ≡ k = same _ 2 k (rw (le-ltb (length s) (a + 8) one, b, le-ltb (length s) (a + 16) two, c)) e in
      rw (← j) (record { chained = count_2 b c; long = two; few = most }))))
      (λ b.
      let j : 1 ≡ k = same _ 1 k (rw (le-ltb (length s) (a + 8) one, b)) e in
      rw (← j) (record { chained = count_1 b; long = one; few = omega arith })))

  pub maps_read : (k : ℕ) → FoundMaps a m s k → bitmaps_read a m s ≡ Ok k
  unfolding bitmaps_read count_of maps_of
  maps_read k h =
      by_bool (bit_of (maps_of a s k) 1)
      (λ b. by_bool (bit_of (maps_of a s k) 65)
      (λ c.
      let j : k ≡ 3 = h.chained ∙ rw (b, c) in
      let l : a + 24 ≤ length s = omega (arith, h.long) in
      let b' : bit_of (drop a s) 1 ≡ true = sym (bit_front (drop a s) (8 * k) 1 (omega arith)) ∙ b in
      let c' : bit_of (drop a s) 65 ≡ true = sym (bit_front (drop a s) (8 * k) 65 (omega arith)) ∙ c in
      rw (j, le-ltb (length s) (a + 8) (omega arith), b', le-ltb (length s) (a + 16) (omega arith), c', le-leb 3 m (omega (arith, h.few)), le-ltb (length s) (a + 24) l))
      (λ c.
      let j : k ≡ 2 = h.chained ∙ rw (b, c) in
      let l : a + 16 ≤ length s = omega (arith, h.long) in
      let b' : bit_of (drop a s) 1 ≡ true = sym (bit_front (drop a s) (8 * k) 1 (omega arith)) ∙ b in
      let c' : bit_of (drop a s) 65 ≡ false = sym (bit_front (drop a s) (8 * k) 65 (omega arith)) ∙ c in
      rw (j, le-ltb (length s) (a + 8) (omega arith), b', le-ltb (length s) (a + 16) l, c')))
      (λ b.
      let j : k ≡ 1 = h.chained ∙ rw b in
      let l : a + 8 ≤ length s = omega (arith, h.long) in
      let b' : bit_of (drop a s) 1 ≡ false = sym (bit_front (drop a s) (8 * k) 1 (omega arith)) ∙ b in
      rw (j, le-ltb (length s) (a + 8) l, b'))
