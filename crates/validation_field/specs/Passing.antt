-- What it says of a content that it passes the field check.
--
--   TakenByWriter t      == a content that passes is one that the exact writer takes: its number is a field's, and neither 12 nor 8 is found
--   DecidesCurrency t    == in fields 49 to 51 exactly the currency codes pass
--   MeasuresChip t       == of field 55 nothing but the length is asked: up to 999 bytes pass, and more are 12, whatever they are
--
-- proofs/Passing.antt proves the first over any table, and the others of the house table.
use Rattle.std.specs.Prelude.{ℕ, ◌≡◌, true, cond, List, leb, length}
use Rattle.std.specs.Result.{is_ok}
use Rattle.octets.specs.Lists.{between}
use Rattle.refusal.specs.Numbers.{length_not_allowed}
use Rattle.refusal.specs.Refusals.{good, bad}
use Rattle.bitmap.specs.Bitmaps.{is_field}
use Rattle.field_table.specs.Table.{Table}
use Rattle.field_write.specs.Fields.{exact_fault}
use Rattle.validation_field.specs.Checks.{field_fault, is_currency}

unfoldable pub TakenByWriter : Table → Type 0
TakenByWriter t = (f : ℕ) (s : List ℕ) → field_fault t f s ≡ good → (is_field f ≡ true) × (exact_fault t f s ≡ good)

unfoldable pub DecidesCurrency : Table → Type 0
DecidesCurrency t = (f : ℕ) (s : List ℕ) → between 49 51 f ≡ true → is_ok (field_fault t f s) ≡ is_currency s

-- 02, P2: "Field 55 becomes binary, LLL, up to 999"; 01: class b is "anything"
unfoldable pub MeasuresChip : Table → Type 0
MeasuresChip t = (s : List ℕ) → field_fault t 55 s ≡ cond (leb (length s) 999) good (bad length_not_allowed)
