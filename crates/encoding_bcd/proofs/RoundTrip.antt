-- What is encoded is decoded again, and what is decoded is encoded again, at any digit count. Assumes nothing.
use Prim.Native.Nat.{ℕ, zero, suc, ◌+◌, ◌-◌, ◌*◌, ◌/◌, ◌%◌, ◌<◌, ◌≤◌}
use mathlib.Core.Path.{◌≡◌, refl, sym}
use mathlib.Core.Bool.{true}
use mathlib.Core.List.{List, [], ◌∷◌}
use mathlib.Core.Logic.{⊎_elim}
use native.Mathlib.Omega.{arith}
use lib.ListN.{length, drop, get_or, length-drop}
use lib.Dec.{eqb}
use borrow.Author.Tests.{eq-eqb, ne_eqb, eqb-true}
use Rattle.octets.specs.Lists.{both, between, all}
use Rattle.octets.specs.Numbers.{is_digit}
use Rattle.octets.proofs.Cases.{both_left, both_right}
use Rattle.octets.proofs.Lists.{is_between, between_low, between_high}
use Rattle.refusal.specs.Refusals.{good}
use Rattle.encoding_bcd.specs.Bcd.{bytes_of, paired, packed, spread, unpacked, is_bcd, spare_zero, decode_fault}
use Rattle.encoding_bcd.proofs.Packing.{parity, packed_odd, packed_even, packed_length}
use Rattle.encoding_bcd.proofs.Unpacking.{spread_length, none_over, high_most, low_most}
use Rattle.encoding_bcd.proofs.Faults.{decode_clean, decode_good, decode_spare}

-- Two digits and more: what holds of each, and of the two halves of the byte that they make.
module _ (a b : ℕ) (s : List ℕ) (digits : all is_digit (a ∷ (b ∷ s)) ≡ true) where
  others : both (is_digit b) (all is_digit s) ≡ true
  others = both_right (is_digit a) (both (is_digit b) (all is_digit s)) digits

  first : is_digit a ≡ true
  first = both_left (is_digit a) (both (is_digit b) (all is_digit s)) digits

  second : is_digit b ≡ true
  second = both_left (is_digit b) (all is_digit s) others

  rest : all is_digit s ≡ true
  rest = both_right (is_digit b) (all is_digit s) others

  high : ((a - 48) * 16 + (b - 48)) / 16 ≡ a - 48
  high = omega (arith, between_low 48 57 a first, between_high 48 57 a first, between_low 48 57 b second, between_high 48 57 b second)

  low : ((a - 48) * 16 + (b - 48)) % 16 ≡ b - 48
  low = omega (arith, between_low 48 57 a first, between_high 48 57 a first, between_low 48 57 b second, between_high 48 57 b second)

spread_paired : (s : List ℕ) (k : ℕ) → length s ≡ k + k → all is_digit s ≡ true → spread (paired s) ≡ s
unfolding spread paired
spread_paired [] k h t = refl
spread_paired (a ∷ []) k h t = absurd (omega arith)
spread_paired (a ∷ (b ∷ s)) zero h t = absurd (omega arith)
spread_paired (a ∷ (b ∷ s)) (suc k) h t =
    let ea : 48 + (a - 48) ≡ a = omega (arith, between_low 48 57 a (first a b s t)) in
    let eb : 48 + (b - 48) ≡ b = omega (arith, between_low 48 57 b (second a b s t)) in
    rw (high a b s t, low a b s t, ea, eb, spread_paired s k (omega arith) (rest a b s t))

paired_bcd : (s : List ℕ) → all is_digit s ≡ true → all is_bcd (paired s) ≡ true
unfolding paired
paired_bcd [] t = refl
paired_bcd (a ∷ []) t = refl
paired_bcd (a ∷ (b ∷ s)) t =
    rw (none_over ((a - 48) * 16 + (b - 48)) (omega (arith, high a b s t, between_high 48 57 a (first a b s t))) (omega (arith, low a b s t, between_high 48 57 b (second a b s t))))
    (paired_bcd s (rest a b s t))

zero_digit : (s : List ℕ) → all is_digit s ≡ true → all is_digit (48 ∷ s) ≡ true
unfolding between
zero_digit s t = t

packed_bcd : (s : List ℕ) → all is_digit s ≡ true → all is_bcd (packed s) ≡ true
packed_bcd s t =
    ⊎_elim (λ (o : length s % 2 ≡ 1). rw (packed_odd s o) (paired_bcd (48 ∷ s) (zero_digit s t)))
    (λ (z : length s % 2 < 1). rw (packed_even s z) (paired_bcd s t))
    (parity (length s))

leading_zero : (s : List ℕ) → length s % 2 ≡ 1 → all is_digit s ≡ true → eqb (get_or (paired (48 ∷ s)) 0 0 / 16) 0 ≡ true
unfolding paired
leading_zero [] o t = absurd (omega arith)
leading_zero (b ∷ s) o t = eq-eqb _ 0 (high 48 b s (zero_digit (b ∷ s) t))

packed_spare : (s : List ℕ) → all is_digit s ≡ true → spare_zero (length s) (packed s) ≡ true
unfolding spare_zero
packed_spare s t =
    ⊎_elim (λ (o : length s % 2 ≡ 1). rw (ne_eqb (length s % 2) 0 (λ e. omega arith), packed_odd s o) (leading_zero s o t))
    (λ (z : length s % 2 < 1). rw (eq-eqb (length s % 2) 0 (omega arith)))
    (parity (length s))

-- n digits, unpacked from their own BCD, are the same n digits.
pub unpacked_packed : (s : List ℕ) → all is_digit s ≡ true → unpacked (length s) (packed s) ≡ s
unfolding unpacked
unpacked_packed s t =
    ⊎_elim
    (λ (o : length s % 2 ≡ 1). rw (packed_odd s o, spread_paired (48 ∷ s) (bytes_of (length s)) (omega arith) (zero_digit s t), o))
    (λ (z : length s % 2 < 1).
    let e : length s % 2 ≡ 0 = omega arith in
    rw (packed_even s z, spread_paired s (bytes_of (length s)) (omega arith) t, e))
    (parity (length s))

-- The BCD of n digits is never refused as a source of n digits.
pub packed_decodes : (s : List ℕ) → all is_digit s ≡ true → decode_fault (length s) (packed s) ≡ good
unfolding decode_fault
packed_decodes s t = rw (eq-eqb (length (packed s)) (bytes_of (length s)) (packed_length s), packed_bcd s t, packed_spare s t)

spread_digits : (s : List ℕ) → all is_bcd s ≡ true → all is_digit (spread s) ≡ true
unfolding spread
spread_digits [] t = refl
spread_digits (b ∷ s) t =
    let g = both_left (is_bcd b) (all is_bcd s) t in
    let h = high_most b g in
    let l = low_most b g in
    rw (is_between 48 57 (48 + b / 16) (omega arith) (omega arith), is_between 48 57 (48 + b % 16) (omega arith) (omega arith))
    (spread_digits s (both_right (is_bcd b) (all is_bcd s) t))

all_rest : (s : List ℕ) (k : ℕ) → k ≤ 1 → all is_digit s ≡ true → all is_digit (drop k s) ≡ true
all_rest s zero h t = t
all_rest [] (suc k) h t = refl
all_rest (x ∷ s) (suc zero) h t = both_right (is_digit x) (all is_digit s) t
all_rest (x ∷ s) (suc (suc k)) h t = absurd (omega arith)

-- What comes out of a source that is not refused are digits.
pub unpacked_digits : (n : ℕ) (s : List ℕ) → decode_fault n s ≡ good → all is_digit (unpacked n s) ≡ true
unfolding unpacked
unpacked_digits n s z =
    all_rest (spread s) (n % 2) (omega arith) (spread_digits s (both_left (all is_bcd s) (spare_zero n s) (decode_good n s z)))

paired_spread : (s : List ℕ) → paired (spread s) ≡ s
unfolding paired spread
paired_spread [] = refl
paired_spread (b ∷ s) =
    let e : (48 + b / 16 - 48) * 16 + (48 + b % 16 - 48) ≡ b = omega arith in
    rw (e, paired_spread s)

spread_spare : (s : List ℕ) → 0 < length s → eqb (get_or s 0 0 / 16) 0 ≡ true → 48 ∷ drop 1 (spread s) ≡ spread s
unfolding spread
spread_spare [] h t = absurd (omega arith)
spread_spare (b ∷ s) h t = rw (eqb-true (b / 16) 0 t)

-- Bytes that are not refused as a source of n digits are the BCD of the digits that come out: no two such sources give the same digits.
pub packed_unpacked : (n : ℕ) (s : List ℕ) → decode_fault n s ≡ good → packed (unpacked n s) ≡ s
unfolding unpacked
packed_unpacked n s z =
    let sized : length s ≡ bytes_of n = decode_clean good n s (sym z) refl in
    let long = spread_length s in
    ⊎_elim
    (λ (o : n % 2 ≡ 1).
    rw (packed_odd (drop (n % 2) (spread s)) (simp length-drop (omega arith)), o, spread_spare s (omega arith) (decode_spare n s o z)) (paired_spread s))
    (λ (e : n % 2 < 1).
    let k : n % 2 ≡ 0 = omega arith in
    rw (packed_even (drop (n % 2) (spread s)) (simp length-drop (omega arith)), k) (paired_spread s))
    (parity n)
