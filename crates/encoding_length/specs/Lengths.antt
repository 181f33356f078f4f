-- Length indicators, over the digit count and the encoding.
--
--   numbered n            == the encoding with the number n, or 25 where there is none
--   is_width w            == w is a digit count that an indicator may have
--   size_of e w           == how many bytes w digits take in the encoding e
--   spelt e t             == the ASCII digits t in the encoding e
--   text_of e w s         == the w characters that the bytes s spell in the encoding e, in ASCII
--   encode_fault w n      == what the test of the length n for w digits finds
--   alphabet_fault e w s  == what the test of s as text of the encoding e finds
--   decode_fault e w s    == what the tests of s as an indicator of w digits find, in their order
--   measured e w s        == what decoding s answers: the number that its digits spell, or a refusal
--
-- Assumes nothing: these are definitions.
use Rattle.std.specs.Prelude.{ℕ, ◌^◌, Bool, cond, List, map, length, eqb, ltb, Result, Ok, Err}
use Rattle.octets.specs.Lists.{both, either, all}
use Rattle.octets.specs.Numbers.{is_digit, decimal_of}
use Rattle.refusal.specs.Numbers.{length_needs_digits, byte_count_wrong, length_not_digits}
use Rattle.refusal.specs.Refusals.{plain, Test, good, bad}
use Rattle.refusal.specs.declared.Cause.{Cause}
use Rattle.refusal.specs.declared.Refusal.{Refusal}
use Rattle.encoding_bcd.specs.Bcd.{bytes_of, packed, unpacked, decode_fault as bcd_fault}
use Rattle.encoding_ebcdic.specs.Ebcdic.{ascii_of, ebcdic_of, encode_fault as ascii_fault, decode_fault as ebcdic_fault}
use Rattle.encoding_length.specs.declared.Encoding.{Encoding}
use Rattle.encoding_length.specs.declared.Encoding.TheVariants.{Ascii, Bcd, Ebcdic}

-- 01 has no refusal for a wrong number
abbrev pub numbered : ℕ → Result Encoding Cause
numbered n = cond (eqb n 0) (Ok Ascii) (cond (eqb n 1) (Ok Bcd) (cond (eqb n 2) (Ok Ebcdic) (Err length_needs_digits)))

-- 01: "have two or three digits"
unfoldable pub is_width : ℕ → Bool
is_width w = either (eqb w 2) (eqb w 3)

unfoldable pub size_of : Encoding → ℕ → ℕ
size_of Ascii w = w
size_of Bcd w = bytes_of w
size_of Ebcdic w = w

unfoldable pub spelt : Encoding → List ℕ → List ℕ
spelt Ascii t = t
spelt Bcd t = packed t
spelt Ebcdic t = map ebcdic_of t

unfoldable pub text_of : Encoding → ℕ → List ℕ → List ℕ
text_of Ascii w s = s
text_of Bcd w s = unpacked w s
text_of Ebcdic w s = map ascii_of s

-- 01: "length needs more digits than given, or these aren't 2 or 3"
unfoldable pub encode_fault : ℕ → ℕ → Test
encode_fault w n = cond (both (is_width w) (ltb n (10 ^ w))) good (bad length_needs_digits)

-- 01: "then BCD 22 or text 24"
unfoldable pub alphabet_fault : Encoding → ℕ → List ℕ → Test
alphabet_fault Ascii w s = ascii_fault s
alphabet_fault Bcd w s = bcd_fault w s
alphabet_fault Ebcdic w s = ebcdic_fault s

-- 01: "Decoding order: 25, 23, then BCD 22 or text 24, then 6."
unfoldable pub decode_fault : Encoding → ℕ → List ℕ → Test
decode_fault e w s =
    cond (is_width w)
    (cond (eqb (length s) (size_of e w))
    (elim (alphabet_fault e w s) [ Ok x ↦ cond (all is_digit (text_of e w s)) good (bad length_not_digits) | Err c ↦ bad c ])
    (bad byte_count_wrong))
    (bad length_needs_digits)

unfoldable pub measured : Encoding → ℕ → List ℕ → Result ℕ Refusal
measured e w s = elim (decode_fault e w s) [ Ok x ↦ Ok (decimal_of (text_of e w s)) | Err c ↦ Err (plain c) ]
