-- The bitmaps, made byte by byte, have the bits that they should. Assumes nothing.
use Prim.Native.Nat.{ℕ, zero, suc, ◌+◌, ◌-◌, ◌*◌, ◌/◌, ◌%◌, ◌^◌, ◌≤◌, ◌<◌}
use mathlib.Core.Path.{◌≡◌, refl, sym, ap, ◌∙◌}
use mathlib.Core.Bool.{Bool, true, false, not}
use mathlib.Core.List.{List, [], ◌∷◌}
use native.Mathlib.Omega.{arith}
use lib.Dec.{eqb, leb}
use lib.ListN.{length, take, drop, get_or, set, replicate, length-drop, take-append-drop, length-replicate, get_or-replicate}
use lib.Seq.{get_or-take, get_or-drop, length-take-le, ext_get_or}
use borrow.Author.Tests.{eq-eqb, ne_eqb}
use Rattle.octets.specs.Lists.{between, all}
use Rattle.octets.proofs.Cases.{by_eq, both_left, both_right}
use Rattle.octets.proofs.Lists.{laid}
use Rattle.bitmap.specs.Bits.{bit_in, bit_of, bytes_of}
use Rattle.bitmap.specs.Bitmaps.{is_field, has_field, no_fields, map_bit, maps_for, chain, map_byte, maps_from}
use Rattle.bitmap.proofs.Bits.{bytes_of_bits}
use Rattle.bitmap.proofs.Maps.{field_not_65, maps_length, maps_at, byte_beyond, byte_first, byte_second, byte_other}

-- every element passes still when one that passes is stored, and in a front
pub all_set : (p : ℕ → Bool) (l : List ℕ) (i v : ℕ) → all p l ≡ true → p v ≡ true → all p (set l i v) ≡ true
all_set p [] i v a h = refl
all_set p (x ∷ l) zero v a h = rw (h, both_right (p x) (all p l) a)
all_set p (x ∷ l) (suc i) v a h = rw (both_left (p x) (all p l) a) (all_set p l i v (both_right (p x) (all p l) a) h)

all_take : (p : ℕ → Bool) (l : List ℕ) (n : ℕ) → all p l ≡ true → all p (take n l) ≡ true
all_take p l zero a = refl
all_take p [] (suc n) a = refl
all_take p (x ∷ l) (suc n) a = rw (both_left (p x) (all p l) a) (all_take p l n (both_right (p x) (all p l) a))

-- a byte's first bit is as it was chained, and the others are the set's
pub bit_on : (on : Bool) (x : ℕ) → bit_in (chain on x) 0 ≡ on
bit_on true x = ap (λ (n : ℕ). eqb n 1) (let e : (128 * 1 + x % 128) / 128 % 2 ≡ 1 = omega arith in e)
bit_on false x = ap (λ (n : ℕ). eqb n 1) (let e : (128 * 0 + x % 128) / 128 % 2 ≡ 0 = omega arith in e)

other_bit : (b x : ℕ) (j : ℕ) → b ≤ 1 → 1 ≤ j → j < 8 → (128 * b + x % 128) / 2 ^ (7 - j) % 2 ≡ x / 2 ^ (7 - j) % 2
other_bit b x zero h l u = absurd (omega arith)
other_bit b x (suc zero) h l u = omega arith
other_bit b x (suc (suc zero)) h l u = omega arith
other_bit b x (suc (suc (suc zero))) h l u = omega arith
other_bit b x (suc (suc (suc (suc zero)))) h l u = omega arith
other_bit b x (suc (suc (suc (suc (suc zero))))) h l u = omega arith
other_bit b x (suc (suc (suc (suc (suc (suc zero)))))) h l u = omega arith
other_bit b x (suc (suc (suc (suc (suc (suc (suc zero))))))) h l u = omega arith
other_bit b x (suc (suc (suc (suc (suc (suc (suc (suc j)))))))) h l u = absurd (omega arith)

pub bit_off : (on : Bool) (x j : ℕ) → 1 ≤ j → j < 8 → bit_in (chain on x) j ≡ bit_in x j
bit_off true x j l u = ap (λ (n : ℕ). eqb n 1) (other_bit 1 x j (omega arith) l u)
bit_off false x j l u = ap (λ (n : ℕ). eqb n 1) (other_bit 0 x j (omega arith) l u)

zeros : (m : ℕ) → m ≤ 3 → drop (8 * m) no_fields ≡ replicate (24 - 8 * m) 0
zeros zero h = refl
zeros (suc zero) h = refl
zeros (suc (suc zero)) h = refl
zeros (suc (suc (suc zero))) h = refl
zeros (suc (suc (suc (suc m)))) h = absurd (omega arith)

module _ (m : ℕ) (s : List ℕ) (few : m ≤ 3) where
  abbrev made : List ℕ
  made = maps_from m s 24 0

  module _ (f : ℕ) (low : 1 ≤ f) (high : f ≤ 64 * m) where
    abbrev i : ℕ
    i = (f - 1) / 8

    abbrev j : ℕ
    j = (f - 1) % 8

    abbrev x : ℕ
    x = get_or s i 0

    in_set : (f ≡ 1 → ⊥) → (f ≡ 65 → ⊥) → map_bit m s f ≡ bit_in x j
    unfolding map_bit has_field bit_of
    in_set n1 n65 =
        let y : is_field f ≡ true = sym (field_not_65 f (omega arith) (omega arith)) ∙ ap not (ne_eqb f 65 n65) in
        rw (ne_eqb f 1 n1, ne_eqb f 65 n65, y, ne_eqb f 0 (λ (z : f ≡ 0). omega arith))

    byte_bit : bit_in (map_byte m i x) j ≡ map_bit m s f
    unfolding map_bit
    byte_bit =
        by_eq f 1
        (λ e.
        let z : (f - 1) / 8 ≡ 0 = omega arith in
        let w : (f - 1) % 8 ≡ 0 = omega arith in
        ap (λ (n : ℕ). bit_in n j) (sym (byte_first m i x (omega arith) (chain (leb 2 m) x) z refl))
        ∙ ap (bit_in (chain (leb 2 m) x)) w ∙ bit_on (leb 2 m) x ∙ rw (eq-eqb f 1 e))
        (λ n1. by_eq f 65
        (λ e.
        let z : (f - 1) / 8 ≡ 8 = omega arith in
        let w : (f - 1) % 8 ≡ 0 = omega arith in
        ap (λ (n : ℕ). bit_in n j) (sym (byte_second m i x (omega arith) (chain (leb 3 m) x) (λ (q : (f - 1) / 8 ≡ 0). omega arith) z refl))
        ∙ ap (bit_in (chain (leb 3 m) x)) w ∙ bit_on (leb 3 m) x ∙ rw (ne_eqb f 1 n1, eq-eqb f 65 e))
        (λ n65. others n1 n65 ∙ sym (in_set n1 n65)))
      where
        others : (f ≡ 1 → ⊥) → (f ≡ 65 → ⊥) → bit_in (map_byte m ((f - 1) / 8) (get_or s ((f - 1) / 8) 0)) ((f - 1) % 8) ≡ bit_in (get_or s ((f - 1) / 8) 0) ((f - 1) % 8)
        others n1 n65 =
            by_eq ((f - 1) / 8) 0
            (λ z.
            ap (λ (n : ℕ). bit_in n ((f - 1) % 8)) (sym (byte_first m ((f - 1) / 8) (get_or s ((f - 1) / 8) 0) (omega arith) (chain (leb 2 m) (get_or s ((f - 1) / 8) 0)) z refl))
            ∙ bit_off (leb 2 m) (get_or s ((f - 1) / 8) 0) ((f - 1) % 8) (omega arith) (omega arith))
            (λ nz. by_eq ((f - 1) / 8) 8
            (λ z.
            ap (λ (n : ℕ). bit_in n ((f - 1) % 8)) (sym (byte_second m ((f - 1) / 8) (get_or s ((f - 1) / 8) 0) (omega arith) (chain (leb 3 m) (get_or s ((f - 1) / 8) 0)) nz z refl))
            ∙ bit_off (leb 3 m) (get_or s ((f - 1) / 8) 0) ((f - 1) % 8) (omega arith) (omega arith))
            (λ n8. ap (λ (n : ℕ). bit_in n ((f - 1) % 8)) (sym (byte_other m ((f - 1) / 8) (get_or s ((f - 1) / 8) 0) (omega arith) nz n8))))

    pub made_bit : map_bit m s f ≡ bit_of (take (8 * m) made) f
    unfolding bit_of
    made_bit =
        sym
        (rw (ne_eqb f 0 (λ (z : f ≡ 0). omega arith), get_or-take (8 * m) made ((f - 1) / 8) 0 (omega arith), sym (maps_at m s ((f - 1) / 8) (map_byte m ((f - 1) / 8) (get_or s ((f - 1) / 8) 0)) (omega arith) refl))
        byte_bit)

  tail_zero : (n : ℕ) → n < 24 - 8 * m → get_or (drop (8 * m) made) n 0 ≡ 0
  tail_zero n h =
      get_or-drop (8 * m) made n 0
      ∙ sym (maps_at m s (8 * m + n) 0 (omega arith) (byte_beyond m (8 * m + n) (get_or s (8 * m + n) 0) (omega arith)))

  beyond : drop (8 * m) made ≡ replicate (24 - 8 * m) 0
  beyond =
      let d : length (drop (8 * m) made) ≡ 24 - 8 * m = length-drop (8 * m) made ∙ omega (arith, maps_length m s) in
      ext_get_or 0 (drop (8 * m) made) (replicate (24 - 8 * m) 0) (d ∙ sym (length-replicate (24 - 8 * m) 0))
      (λ k h. tail_zero k (omega (arith, d)) ∙ sym (get_or-replicate (24 - 8 * m) k 0 0 (omega (arith, d))))

  -- behind the last bitmap there are zeros already
  pub maps_done : (e : List ℕ) (i : ℕ) → e ≡ laid made no_fields i → i ≤ 8 * m → 8 * m ≤ i → e ≡ made
  unfolding laid
  maps_done e i h l u =
      let n : i ≡ 8 * m = omega arith in
      h ∙ rw (n, zeros m few, ← beyond) (take-append-drop (8 * m) made)

  pub maps_made : all (between 0 255) made ≡ true → made ≡ maps_for m s
  unfolding maps_for
  maps_made a =
      let n : length (take (8 * m) made) ≡ 8 * m = length-take-le (8 * m) made (omega (arith, maps_length m s)) in
      let front : bytes_of (map_bit m s) (8 * m) 1 ≡ take (8 * m) made =
      ap (λ (k : ℕ). bytes_of (map_bit m s) k 1) (sym n)
      ∙ bytes_of_bits (map_bit m s) (take (8 * m) made) (all_take (between 0 255) made (8 * m) a) (λ f l u. made_bit f l (omega (arith, n))) in
      sym (take-append-drop (8 * m) made) ∙ rw (← front, beyond)
