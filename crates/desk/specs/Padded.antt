-- The three words of a cleaning's answer lose nothing of its set of fields.
--
--   bytes_in c      == the 24 bytes that the words of the answer c spell
--   SpellThePadded  == they are the padded set that the cleaning writer names, whatever the dialect and the call
--
-- proofs/Spelling.antt proves it.
use Rattle.std.specs.Prelude.{ℕ, ◌≡◌, List, ◌++◌}
use Rattle.octets.specs.Numbers.{big_endian}
use Rattle.refusal.specs.Refusals.{Told}
use Rattle.message_notes.specs.Dialect.{Dialect}
use Rattle.message_write.specs.Written.{clean_padded}
use Rattle.desk_terms.specs.Terms.{cleaned}
use Rattle.desk_terms.specs.declared.Cleaned.{Cleaned}

unfoldable pub bytes_in : Cleaned → List ℕ
bytes_in c = big_endian 8 c.padded1 ++ (big_endian 8 c.padded2 ++ big_endian 8 c.padded3)

unfoldable pub SpellThePadded : Type 0
SpellThePadded = (told : Told) (d : Dialect) (v n out : List ℕ) → bytes_in (cleaned told (clean_padded d v n out)) ≡ clean_padded d v n out
