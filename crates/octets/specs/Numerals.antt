-- A number as it is written for people: in decimal digits, with no leading zero.
--
--   digits_within k n  == how many decimal digits n has, at least one: no more than k are counted behind the first
--   digit_count n      == how many decimal digits n has, at least one; it never has more than n of them behind the first
--   numeral n          == n in so many ASCII digits
--
-- That numerals spell their number and have no leading zero is proved in proofs/Numerals.antt.
-- Assumes nothing: these are definitions.
use Rattle.std.specs.Prelude.{ℕ, zero, suc, ◌/◌, true, false, List, ltb}
use Rattle.octets.specs.Numbers.{decimal}

unfoldable pub digits_within : ℕ → ℕ → ℕ
digits_within zero n = 1
digits_within (suc k) n = elim (ltb n 10) [ true ↦ 1 | false ↦ suc (digits_within k (n / 10)) ]

unfoldable pub digit_count : ℕ → ℕ
digit_count n = digits_within n n

unfoldable pub numeral : ℕ → List ℕ
numeral n = decimal (digit_count n) n
