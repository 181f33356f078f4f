-- Digits in either script: what is spelt is read back, and what is read is spelt so again, at any digit count. Assumes nothing.
use Prim.Native.Nat.{ℕ, ◌≤◌}
use mathlib.Core.Path.{◌≡◌, refl, ap, ◌∙◌}
use mathlib.Core.Bool.{true}
use mathlib.Core.List.{List}
use native.Mathlib.Omega.{arith}
use lib.Dec.{eqb}
use lib.ListN.{length}
use borrow.Author.Tests.{eq-eqb, eqb-true}
use Rattle.std.specs.Result.{is_ok}
use Rattle.octets.specs.Lists.{all, placed}
use Rattle.octets.specs.Numbers.{is_digit, are_digits}
use Rattle.octets.proofs.Cases.{both_left, both_right, false_true}
use Rattle.refusal.specs.Refusals.{good, converted_into}
use Rattle.refusal.proofs.Tests.{by_test}
use Rattle.encoding_bcd.specs.Bcd.{encode_fault, decode_fault}
use Rattle.encoding_bcd.proofs.Packing.{packed_length}
use Rattle.encoding_bcd.proofs.Unpacking.{unpacked_length}
use Rattle.encoding_bcd.proofs.Faults.{decode_clean}
use Rattle.encoding_bcd.proofs.RoundTrip.{unpacked_packed, packed_decodes, unpacked_digits, packed_unpacked}
use Rattle.packed_field.specs.declared.Script.{Script}
use Rattle.packed_field.specs.declared.Script.TheVariants.{Plain, Packed}
use Rattle.packed_field.specs.Scripts.{other, size_of, is_spelt, digits_of, spelt_in, carried, carried_into}

module _ (n : ℕ) (s : List ℕ) where
  plain_long : are_digits n s ≡ true → length s ≡ n
  unfolding are_digits
  plain_long t = eqb-true (length s) n (both_left (eqb (length s) n) (all is_digit s) t)

  plain_digits : are_digits n s ≡ true → all is_digit s ≡ true
  unfolding are_digits
  plain_digits t = both_right (eqb (length s) n) (all is_digit s) t

  unfaulted : is_ok (decode_fault n s) ≡ true → decode_fault n s ≡ good
  unfaulted t = by_test (decode_fault n s) (λ h. h) (λ c h. absurd (false_true (rw h at t)))

-- bytes that are n digits
pub spelt_long : (S : Script) (n : ℕ) (s : List ℕ) → is_spelt S n s ≡ true → length s ≡ size_of S n
unfolding is_spelt size_of
spelt_long Plain n s t = plain_long n s t
spelt_long Packed n s t = decode_clean (decode_fault n s) n s refl (unfaulted n s t)

pub digits_long : (S : Script) (n : ℕ) (s : List ℕ) → is_spelt S n s ≡ true → length (digits_of S n s) ≡ n
unfolding is_spelt digits_of
digits_long Plain n s t = plain_long n s t
digits_long Packed n s t = unpacked_length n s (decode_clean (decode_fault n s) n s refl (unfaulted n s t))

pub digits_are : (S : Script) (n : ℕ) (s : List ℕ) → is_spelt S n s ≡ true → all is_digit (digits_of S n s) ≡ true
unfolding is_spelt digits_of
digits_are Plain n s t = plain_digits n s t
digits_are Packed n s t = unpacked_digits n s (unfaulted n s t)

pub spelt_again : (S : Script) (n : ℕ) (s : List ℕ) → is_spelt S n s ≡ true → spelt_in S (digits_of S n s) ≡ s
unfolding is_spelt digits_of spelt_in
spelt_again Plain n s t = refl
spelt_again Packed n s t = packed_unpacked n s (unfaulted n s t)

-- digits that are spelt
pub spelling_long : (S : Script) (d : List ℕ) → length (spelt_in S d) ≡ size_of S (length d)
unfolding size_of spelt_in
spelling_long Plain d = refl
spelling_long Packed d = packed_length d

pub spelling_good : (S : Script) (d : List ℕ) → all is_digit d ≡ true → is_spelt S (length d) (spelt_in S d) ≡ true
unfolding is_spelt spelt_in are_digits
spelling_good Plain d t = rw (eq-eqb (length d) (length d) refl) t
spelling_good Packed d t = rw (packed_decodes d t)

pub spelling_back : (S : Script) (d : List ℕ) → all is_digit d ≡ true → digits_of S (length d) (spelt_in S d) ≡ d
unfolding digits_of spelt_in
spelling_back Plain d t = refl
spelling_back Packed d t = unpacked_packed d t

-- digits that are carried over
pub carried_long : (S : Script) (n : ℕ) (s : List ℕ) → is_spelt S n s ≡ true → length (carried S n s) ≡ size_of (other S) n
unfolding carried
carried_long S n s t = spelling_long (other S) (digits_of S n s) ∙ ap (size_of (other S)) (digits_long S n s t)

pub carried_placed : (S : Script) (n : ℕ) (s o : List ℕ) → is_spelt S n s ≡ true → carried_into S n s o ≡ placed (carried S n s) o
unfolding is_spelt carried_into carried spelt_in digits_of converted_into encode_fault
carried_placed Plain n s o t = rw (plain_digits n s t)
carried_placed Packed n s o t = rw (unfaulted n s t)

-- no digits take no byte, and no script takes more than a byte for a digit
pub size_most_lem : (S : Script) (n : ℕ) → size_of S n ≤ n
unfolding size_of
size_most_lem Plain n = omega arith
size_most_lem Packed n = omega arith
