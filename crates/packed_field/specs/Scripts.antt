-- Digits as they stand in a message, in either script: plain, an ASCII byte for each, or packed, in BCD. 02, P3: "MTI in two BCD bytes, …
-- LL in one BCD byte and LLL in two, `n` contents in BCD with a leading zero half-byte when odd".
--
--   other S               == the other script
--   size_of S n           == how many bytes n digits take
--   is_spelt S n s        == the bytes s are n digits
--   is_part S x           == the byte x holds digits and nothing else
--   digits_of S n s       == the n digits that the bytes s spell, as ASCII bytes
--   spelt_in S d          == the bytes that spell the ASCII digits d
--   carried S n s         == the n digits of the bytes s, in the other script
--   carried_into S n s o  == o afterwards where they are to be written to its front: left as it is where the BCD conversion of s is refused, or they do not
--                           fit. In the plain script n is not asked
--
-- Assumes nothing: these are definitions.
use Rattle.std.specs.Prelude.{ℕ, Bool, List}
use Rattle.std.specs.Result.{is_ok}
use Rattle.octets.specs.Numbers.{is_digit, are_digits}
use Rattle.refusal.specs.Refusals.{converted_into}
use Rattle.encoding_bcd.specs.Bcd.{bytes_of, packed, unpacked, is_bcd, encode_fault, decode_fault}
use Rattle.packed_field.specs.declared.Script.{Script}
use Rattle.packed_field.specs.declared.Script.TheVariants.{Plain, Packed}

abbrev pub other : Script → Script
other Plain = Packed
other Packed = Plain

unfoldable pub size_of : Script → ℕ → ℕ
size_of Plain n = n
size_of Packed n = bytes_of n

unfoldable pub is_spelt : Script → ℕ → List ℕ → Bool
is_spelt Plain n s = are_digits n s
is_spelt Packed n s = is_ok (decode_fault n s)

unfoldable pub is_part : Script → ℕ → Bool
is_part Plain x = is_digit x
is_part Packed x = is_bcd x

unfoldable pub digits_of : Script → ℕ → List ℕ → List ℕ
digits_of Plain n s = s
digits_of Packed n s = unpacked n s

unfoldable pub spelt_in : Script → List ℕ → List ℕ
spelt_in Plain d = d
spelt_in Packed d = packed d

unfoldable pub carried : Script → ℕ → List ℕ → List ℕ
carried S n s = spelt_in (other S) (digits_of S n s)

unfoldable pub carried_into : Script → ℕ → List ℕ → List ℕ → List ℕ
carried_into Plain n s o = converted_into (encode_fault s) (packed s) o
carried_into Packed n s o = converted_into (decode_fault n s) (unpacked n s) o
