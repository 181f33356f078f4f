-- The tests of a source, at each of their ends and with the facts as the code has them. Assumes nothing.
use Prim.Native.Nat.{ℕ, ◌/◌, ◌%◌}
use mathlib.Core.Path.{◌≡◌, refl, sym, ◌∙◌}
use mathlib.Core.Bool.{true, Bool, false, not}
use mathlib.Core.List.{List, [], ◌∷◌}
use native.Mathlib.Omega.{arith}
use lib.ListN.{length, get_or}
use lib.Dec.{eqb}
use borrow.Author.Tests.{eq-eqb, ne_eqb}
use Rattle.octets.specs.Lists.{both, all}
use Rattle.octets.specs.Numbers.{is_digit}
use Rattle.octets.proofs.Cases.{by_bool, by_eq, both_right}
use Rattle.refusal.specs.Numbers.{not_digits, not_bcd, byte_count_wrong}
use Rattle.refusal.specs.Refusals.{Test, good}
use Rattle.refusal.proofs.Tests.{bad_good}
use Rattle.encoding_bcd.specs.Bcd.{bytes_of, unpacked, is_bcd, spare_zero, encode_fault, decode_fault}
use Rattle.encoding_bcd.proofs.Unpacking.{unpacked_length}

-- a source without fault is all digits
pub encode_clean : (fault : Test) (s : List ℕ) → fault ≡ encode_fault s → fault ≡ good → all is_digit s ≡ true
unfolding encode_fault
encode_clean fault s e z =
    by_bool (all is_digit s) (λ t. t)
    (λ t. bad_good not_digits (sym (e ∙ rw t) ∙ z))

-- decoding: a source without fault has the bytes that n digits take
pub decode_clean : (fault : Test) (n : ℕ) (s : List ℕ) → fault ≡ decode_fault n s → fault ≡ good → length s ≡ bytes_of n
unfolding decode_fault
decode_clean fault n s e z =
    by_eq (length s) (bytes_of n) (λ h. h)
    (λ h. bad_good byte_count_wrong (sym (e ∙ rw (ne_eqb (length s) (bytes_of n) h)) ∙ z))

-- no half-byte over 9, and no spare leading digit but 0
pub decode_good : (n : ℕ) (s : List ℕ) → decode_fault n s ≡ good → both (all is_bcd s) (spare_zero n s) ≡ true
unfolding decode_fault
decode_good n s z =
    by_bool (both (all is_bcd s) (spare_zero n s)) (λ t. t)
    (λ t. bad_good not_bcd (rw (eq-eqb (length s) (bytes_of n) (decode_clean good n s (sym z) refl), t) at z))

pub decode_spare : (n : ℕ) (s : List ℕ) → n % 2 ≡ 1 → decode_fault n s ≡ good → eqb (get_or s 0 0 / 16) 0 ≡ true
unfolding spare_zero
decode_spare n s o z = rw (ne_eqb (n % 2) 0 (λ e. omega arith)) at (both_right (all is_bcd s) _ (decode_good n s z))

-- n digits come out of a source without fault
pub unpacked_sized : (fault : Test) (n : ℕ) (s : List ℕ) → fault ≡ decode_fault n s → fault ≡ good → length (unpacked n s) ≡ n
unpacked_sized fault n s e z = unpacked_length n s (decode_clean fault n s e z)
