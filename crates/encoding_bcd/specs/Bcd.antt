-- BCD, over the digit count: two digits to a byte, the first of them in the high half.
--
--   bytes_of n        == how many bytes n digits take: half of n, rounded up
--   evened s          == the digits s, with a leading `0` where their count is odd
--   paired s          == two digits to a byte
--   packed s          == the digits s in BCD
--   spread s          == the digits of both halves of each byte of s
--   unpacked n s      == n digits from the bytes s
--   is_bcd b          == neither half of the byte b is over 9
--   spare_zero n s    == where n is odd, the spare leading digit of s is 0
--   encode_fault s    == what the test of s as a source of digits finds
--   decode_fault n s  == what the tests of s as a source of n digits in BCD find, the first that fails
--
-- Assumes nothing: these are definitions.
use Rattle.std.specs.Prelude.{ℕ, ◌+◌, ◌-◌, ◌*◌, ◌/◌, ◌%◌, Bool, cond, List, [], ◌∷◌, length, get_or, drop, eqb, leb}
use Rattle.octets.specs.Lists.{both, either, all}
use Rattle.octets.specs.Numbers.{is_digit}
use Rattle.refusal.specs.Numbers.{not_digits, not_bcd, byte_count_wrong}
use Rattle.refusal.specs.Refusals.{Test, good, bad}

-- 01: "exactly half of n, rounded up, bytes"
abbrev pub bytes_of : ℕ → ℕ
bytes_of n = n / 2 + n % 2

-- 01: "an odd digit count gets a leading 0"
unfoldable pub evened : List ℕ → List ℕ
evened s = cond (eqb (length s % 2) 0) s (48 ∷ s)

unfoldable pub paired : List ℕ → List ℕ
paired [] = []
paired (a ∷ []) = []
paired (a ∷ (b ∷ s)) = ((a - 48) * 16 + (b - 48)) ∷ paired s

unfoldable pub packed : List ℕ → List ℕ
packed s = paired (evened s)

unfoldable pub spread : List ℕ → List ℕ
spread [] = []
spread (b ∷ s) = (48 + b / 16) ∷ ((48 + b % 16) ∷ spread s)

-- 01: "gives back n": the spare leading digit is left out
unfoldable pub unpacked : ℕ → List ℕ → List ℕ
unpacked n s = drop (n % 2) (spread s)

-- 01: "BCD half-byte over 9, or spare leading digit not 0"
unfoldable pub is_bcd : ℕ → Bool
is_bcd b = both (leb (b / 16) 9) (leb (b % 16) 9)

unfoldable pub spare_zero : ℕ → List ℕ → Bool
spare_zero n s = either (eqb (n % 2) 0) (eqb (get_or s 0 0 / 16) 0)

-- 01: "BCD source not digits"
unfoldable pub encode_fault : List ℕ → Test
encode_fault s = cond (all is_digit s) good (bad not_digits)

-- 01: "BCD decoding 23, then 22"
unfoldable pub decode_fault : ℕ → List ℕ → Test
decode_fault n s = cond (eqb (length s) (bytes_of n)) (cond (both (all is_bcd s) (spare_zero n s)) good (bad not_bcd)) (bad byte_count_wrong)
