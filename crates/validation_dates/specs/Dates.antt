-- The checks of a date and of a time of day. 01: "MMDD: four digits, month 1-12, day 1-31. hhmmss: six digits, 0-23, 0-59, 0-59."
--
--   pair i s      == the number that the two digits of s from i on spell
--   is_date s     == s is a date, as MMDD
--   is_time s     == s is a time of day, as hhmmss
--   date_fault s  == 20 where s is no date, else 0
--   time_fault s  == 20 where s is no time of day, else 0
--
-- Assumes nothing: these are definitions.
use Rattle.std.specs.Prelude.{ℕ, Bool, cond, List, take, drop}
use Rattle.octets.specs.Lists.{both, between}
use Rattle.octets.specs.Numbers.{are_digits, decimal_of}
use Rattle.refusal.specs.Numbers.{date_or_time_wrong}
use Rattle.refusal.specs.Refusals.{Test, good, bad}

unfoldable pub pair : ℕ → List ℕ → ℕ
pair i s = decimal_of (take 2 (drop i s))

unfoldable pub is_date : List ℕ → Bool
is_date s = both (are_digits 4 s) (both (between 1 12 (pair 0 s)) (between 1 31 (pair 2 s)))

unfoldable pub is_time : List ℕ → Bool
is_time s = both (are_digits 6 s) (both (between 0 23 (pair 0 s)) (both (between 0 59 (pair 2 s)) (between 0 59 (pair 4 s))))

unfoldable pub date_fault : List ℕ → Test
date_fault s = cond (is_date s) good (bad date_or_time_wrong)

unfoldable pub time_fault : List ℕ → Test
time_fault s = cond (is_time s) good (bad date_or_time_wrong)
