-- The array is the list of codes, and that decodes to the house table.
use mathlib.Core.Path.{refl}
use Rattle.field_table.specs.Codes.{house_codes}
use Rattle.field_table.proofs.Decoded.{house_decoded}
use Rattle.field_table.proofs.house_table.Goals as goal

pub returns : goal.returns
unfolding house_codes
returns c = record { codes = refl; means = house_decoded }
