-- The check of a primary account number (PAN). 01: "drop every non-digit byte; 13 to 19 digits must remain; from the right, double each
-- second digit, less 9 when over 9; the sum is a multiple of 10" (Luhn's formula). 02, P1: "The PAN check shall take 12 to 19 digits, the
-- sum rule unchanged."
--
--   digits_in s    == the digits that remain of s when every byte that is none is dropped, as the numbers 0 to 9
--   doubled d      == twice d, less 9 when that is over 9
--   worth on d     == what the digit d adds to the sum: doubled where `on` says so
--   weighed on ds  == the sum over the digits ds, every second one doubled: from the second on, or from the first where `on` says so
--   luhn_sum ds    == the sum over the digits ds from the right; the last one is not doubled
--   least_digits   == how many digits a PAN has at least
--   most_digits    == how many it has at most
--   is_pan s       == the content s passes the PAN check
--   pan_fault s    == 17 where it does not, else 0
--
-- Assumes nothing: these are definitions.
use Rattle.std.specs.Prelude.{ℕ, ◌+◌, ◌-◌, ◌*◌, ◌%◌, Bool, false, not, cond, List, [], ◌∷◌, reverse, length, eqb, leb}
use Rattle.octets.specs.Lists.{both, between}
use Rattle.octets.specs.Numbers.{is_digit}
use Rattle.refusal.specs.Numbers.{pan_fails}
use Rattle.refusal.specs.Refusals.{Test, good, bad}

unfoldable pub digits_in : List ℕ → List ℕ
digits_in [] = []
digits_in (x ∷ s) = cond (is_digit x) ((x - 0x30) ∷ digits_in s) (digits_in s)

abbrev pub doubled : ℕ → ℕ
doubled d = cond (leb (2 * d) 9) (2 * d) (2 * d - 9)

unfoldable pub worth : Bool → ℕ → ℕ
worth on d = cond on (doubled d) d

unfoldable pub weighed : Bool → List ℕ → ℕ
weighed on [] = 0
weighed on (d ∷ ds) = worth on d + weighed (not on) ds

unfoldable pub luhn_sum : List ℕ → ℕ
luhn_sum ds = weighed false (reverse ds)

abbrev pub least_digits : ℕ
least_digits = 12

abbrev pub most_digits : ℕ
most_digits = 19

unfoldable pub is_pan : List ℕ → Bool
is_pan s = both (between least_digits most_digits (length (digits_in s))) (eqb (luhn_sum (digits_in s) % 10) 0)

unfoldable pub pan_fault : List ℕ → Test
pan_fault s = cond (is_pan s) good (bad pan_fails)
