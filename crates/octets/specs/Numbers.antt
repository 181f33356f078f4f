-- Numbers written in bytes, over the base: decimal digits are the base 10 from 0x30 on, big-endian bytes the base 256 from 0 on.
--
--   digits b z w n   == n in w digits of the base b, the highest first, the digit d as the byte z + d
--   number b z a s   == the number that the bytes s spell in the base b, after the number a
--   is_digit x       == x is one of the ASCII digits, `0` to `9`
--   are_digits n s   == s is n bytes long, and each is an ASCII digit
--   is_ascii x       == x is an ASCII byte, up to 0x7F
--   decimal w n      == n in w ASCII digits
--   decimal_of s     == the number that the ASCII digits s spell
--   big_endian w n   == n in w bytes
--   big_endian_of s  == the number that the bytes s spell
--
-- Assumes nothing: these are definitions.
use Rattle.std.specs.Prelude.{ℕ, zero, suc, ◌+◌, ◌-◌, ◌*◌, ◌/◌, ◌%◌, Bool, List, [], ◌∷◌, ◌++◌, length, eqb}
use Rattle.octets.specs.Lists.{both, between, all}

unfoldable pub digits : ℕ → ℕ → ℕ → ℕ → List ℕ
digits b z zero n = []
digits b z (suc w) n = digits b z w (n / b) ++ ((z + n % b) ∷ [])

unfoldable pub number : ℕ → ℕ → ℕ → List ℕ → ℕ
number b z a [] = a
number b z a (x ∷ xs) = number b z (a * b + (x - z)) xs

abbrev pub is_digit : ℕ → Bool
is_digit = between 0x30 0x39

unfoldable pub are_digits : ℕ → List ℕ → Bool
are_digits n s = both (eqb (length s) n) (all is_digit s)

abbrev pub is_ascii : ℕ → Bool
is_ascii = between 0 0x7F

abbrev pub decimal : ℕ → ℕ → List ℕ
decimal = digits 10 0x30

abbrev pub decimal_of : List ℕ → ℕ
decimal_of = number 10 0x30 0

abbrev pub big_endian : ℕ → ℕ → List ℕ
big_endian = digits 256 0

abbrev pub big_endian_of : List ℕ → ℕ
big_endian_of = number 256 0 0
