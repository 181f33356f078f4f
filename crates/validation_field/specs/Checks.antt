-- The field check. 01: "number (10), class (16), then length as for the exact writer (12), then for field 2 the PAN, for 4 and 5 the zero
-- rule."
--
--   Asked              == something asked of a content: whether it holds, and the cause of a refusal where it does not
--   asks b c           == b must hold, or the check fails with the cause c
--   first_failing l    == the cause of the first of the list l that does not hold; good where all do
--   is_pan_field f     == the content of field f is a PAN
--   is_amount_field f  == it is an amount that must not be all zeros
--   is_zeros s         == every byte of s is the digit `0`
--   value_tests f s    == what is asked of the value of s in field f
--   field_tests t f s  == what is asked of the content s of field f by the table t, in 01's order
--   field_fault t f s  == why it fails; good where it does not
--   is_currency s      == s is a currency code: three digits
--
-- Assumes nothing: these are definitions.
use Rattle.std.specs.Prelude.{ℕ, Bool, not, cond, List, [], ◌∷◌, length, eqb}
use Rattle.octets.specs.Lists.{both, either, between, all}
use Rattle.octets.specs.Numbers.{are_digits}
use Rattle.refusal.specs.Numbers.{number_not_allowed, length_not_allowed, class_broken, pan_fails, amount_zero}
use Rattle.refusal.specs.Refusals.{Test, good, bad}
use Rattle.refusal.specs.declared.Cause.{Cause}
use Rattle.bitmap.specs.Bitmaps.{is_field}
use Rattle.field_table.specs.Table.{Table}
use Rattle.field_class.specs.Classes.{conforms}
use Rattle.field_write.specs.Fields.{is_allowed_length}
use Rattle.validation_pan.specs.Pan.{is_pan}

pub record Asked : Type 0 where
  pub holds : Bool
  pub cause : Cause

abbrev pub asks : Bool → Cause → Asked
asks b c = record { holds = b; cause = c }

abbrev pub first_failing : List Asked → Test
first_failing [] = good
first_failing (a ∷ l) = cond a.holds (first_failing l) (bad a.cause)

abbrev pub is_pan_field : ℕ → Bool
is_pan_field f = eqb f 2

abbrev pub is_amount_field : ℕ → Bool
is_amount_field f = either (eqb f 4) (eqb f 5)

abbrev pub is_zeros : List ℕ → Bool
is_zeros = all (between 0x30 0x30)

unfoldable pub value_tests : ℕ → List ℕ → List Asked
value_tests f s =
    asks (either (not (is_pan_field f)) (is_pan s)) pan_fails ∷
    asks (not (both (is_amount_field f) (is_zeros s))) amount_zero ∷
    []

unfoldable pub field_tests : Table → ℕ → List ℕ → List Asked
field_tests t f s =
    asks (is_field f) number_not_allowed ∷
    asks (conforms (t.class f) s) class_broken ∷
    asks (is_allowed_length t f (length s)) length_not_allowed ∷
    value_tests f s

unfoldable pub field_fault : Table → ℕ → List ℕ → Test
field_fault t f s = first_failing (field_tests t f s)

-- 01: "the crate's currency check takes digits and decides"
abbrev pub is_currency : List ℕ → Bool
is_currency = are_digits 3
