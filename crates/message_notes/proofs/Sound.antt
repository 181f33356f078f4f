-- The desk's dialect is sound by every small table. Assumes nothing.
use mathlib.Core.Path.{◌≡◌}
use native.Mathlib.Omega.{arith}
use Rattle.field_table.specs.Table.{Table, Small}
use Rattle.field_table.specs.House.{house}
use Rattle.field_table.proofs.Rows.{house_small}
use Rattle.message_notes.specs.Dialect.{plain_form, end_kind, dialect, Sound}

pub plain_apart : plain_form.kind ≡ end_kind → ⊥
plain_apart z = omega arith

pub dialect_sound : (t : Table) → Small t → Sound (dialect t)
dialect_sound t small =
    record { small = small; least = omega arith; greatest = omega arith; apart = plain_apart; spelt = λ f. omega arith }

pub house_sound : Sound (dialect house)
house_sound = dialect_sound house house_small
