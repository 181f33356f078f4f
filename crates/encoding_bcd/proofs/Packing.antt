-- Digits into bytes, over the digit count. Assumes nothing.
use Prim.Native.Nat.{ℕ, zero, suc, ◌+◌, ◌-◌, ◌*◌, ◌%◌, ◌<◌, ◌≤◌}
use mathlib.Core.Path.{◌≡◌, refl, sym, ap, ◌∙◌}
use mathlib.Core.List.{List, [], ◌∷◌}
use mathlib.Core.Logic.{◌⊎◌, ⊎_elim}
use native.Mathlib.Nat.{add-suc, suc-add, eq-or-lt_of_le}
use native.Mathlib.Omega.{arith}
use lib.ListN.{length, get_or}
use borrow.Author.Tests.{eq-eqb, ne_eqb}
use Rattle.encoding_bcd.specs.Bcd.{bytes_of, evened, paired, packed}

-- a count is odd or even
pub parity : (n : ℕ) → (n % 2 ≡ 1) ⊎ (n % 2 < 1)
parity n = eq-or-lt_of_le (omega arith)

evened_even : (s : List ℕ) → length s % 2 ≡ 0 → evened s ≡ s
unfolding evened
evened_even s e = rw (eq-eqb (length s % 2) 0 e)

evened_odd : (s : List ℕ) → length s % 2 ≡ 1 → evened s ≡ 48 ∷ s
unfolding evened
evened_odd s e = rw (ne_eqb (length s % 2) 0 (λ z. omega arith))

pub evened_length : (s : List ℕ) → length (evened s) ≡ length s % 2 + length s
evened_length s =
    ⊎_elim (λ (o : length s % 2 ≡ 1). rw (evened_odd s o) (omega arith))
    (λ (z : length s % 2 < 1). rw (evened_even s (omega arith)) (omega arith))
    (parity (length s))

-- the spare digit is worth 0, and the others are those of s
pub value_spare : (s : List ℕ) (j : ℕ) → j < length s % 2 → 0 ≡ get_or (evened s) j 0 - 48
value_spare s j h =
    let z : j ≡ 0 = omega arith in
    rw (evened_odd s (omega arith), z)

pub value_real : (s : List ℕ) (j : ℕ) → length s % 2 ≤ j → get_or (evened s) j 0 ≡ get_or s (j - length s % 2) 0
value_real s j h =
    ⊎_elim
    (λ (o : length s % 2 ≡ 1).
    let e : j ≡ suc (j - length s % 2) = omega arith in
    rw (evened_odd s o) (ap (λ (m : ℕ). get_or (48 ∷ s) m 0) e))
    (λ (z : length s % 2 < 1).
    let e : j ≡ j - length s % 2 = omega arith in
    rw (evened_even s (omega arith)) (ap (λ (m : ℕ). get_or s m 0) e))
    (parity (length s))

-- k pairs of digits are k bytes
paired_length : (s : List ℕ) (k : ℕ) → length s ≡ k + k → length (paired s) ≡ k
unfolding paired
paired_length [] zero h = refl
paired_length [] (suc k) h = absurd (omega arith)
paired_length (a ∷ []) zero h = absurd (omega arith)
paired_length (a ∷ []) (suc k) h = absurd (omega (arith, suc-add k (suc k), add-suc k k))
paired_length (a ∷ (b ∷ s)) zero h = absurd (omega arith)
paired_length (a ∷ (b ∷ s)) (suc k) h = ap suc (paired_length s k (omega arith))

paired_at : (s : List ℕ) (k : ℕ) → 2 * k + 1 < length s → (get_or s (2 * k) 0 - 48) * 16 + (get_or s (2 * k + 1) 0 - 48) ≡ get_or (paired s) k 0
unfolding paired
paired_at [] k h = absurd (omega arith)
paired_at (a ∷ []) k h = absurd (omega arith)
paired_at (a ∷ (b ∷ s)) zero h = refl
paired_at (a ∷ (b ∷ s)) (suc k) h =
    let e : 2 * suc k ≡ suc (suc (2 * k)) = omega arith in
    let f : 2 * suc k + 1 ≡ suc (suc (2 * k + 1)) = omega arith in
    rw (f, e) (paired_at s k (omega arith))

pub packed_length : (s : List ℕ) → length (packed s) ≡ bytes_of (length s)
unfolding packed
packed_length s = paired_length (evened s) (bytes_of (length s)) (omega (arith, evened_length s))

-- the same, where the code has called the length m
pub packed_sized : (s : List ℕ) (m : ℕ) → m ≡ bytes_of (length s) → length (packed s) ≡ m
packed_sized s m e = packed_length s ∙ sym e

-- the byte at k, from the worth h and l of its two digits
pub packed_at : (s : List ℕ) (k h l : ℕ) → k < bytes_of (length s) → h ≡ get_or (evened s) (2 * k) 0 - 48 → l ≡ get_or (evened s) (2 * k + 1) 0 - 48 → h * 16 + l ≡ get_or (packed s) k 0
unfolding packed
packed_at s k h l b eh el = rw (eh, el) (paired_at (evened s) k (omega (arith, evened_length s)))

-- an odd count is packed with a leading 0, an even one as it is
pub packed_odd : (s : List ℕ) → length s % 2 ≡ 1 → packed s ≡ paired (48 ∷ s)
unfolding packed
packed_odd s o = ap paired (evened_odd s o)

pub packed_even : (s : List ℕ) → length s % 2 < 1 → packed s ≡ paired s
unfolding packed
packed_even s z = ap paired (evened_even s (omega arith))
