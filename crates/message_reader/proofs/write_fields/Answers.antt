-- The notes written and those of what is left from the place and the field that the loop has come to make the whole (Noting).
use Rattle.message_reader.proofs.Noting.{noted_met, noted_refused, noted_within, noted_read, noted_end}
use native.Mathlib.Omega.{arith}
use Rattle.message_reader.proofs.write_fields.Goals as goal

pub returns-in_default : goal.returns-in_default
returns-in_default c =
    let r = noted_refused c.loop-field.invariant (noted_met c.loop-field.invariant c.loop-field-test.true c.from-field.ensures c.place_field.ensures) c.in_default.is in
    record { size = r.0; writes = r.1 }

pub overflow_add-at : goal.overflow_add-at
overflow_add-at c = omega (arith, noted_within c.loop-field.invariant (noted_met c.loop-field.invariant c.loop-field-test.true c.from-field.ensures c.place_field.ensures) c.in-Ok.is)

pub overflow_add-at-in-loop-field : goal.overflow_add-at-in-loop-field
overflow_add-at-in-loop-field c = omega (arith, noted_within c.loop-field.invariant (noted_met c.loop-field.invariant c.loop-field-test.true c.from-field.ensures c.place_field.ensures) c.in-Ok.is)

pub overflow_add-at-in-loop-field-2 : goal.overflow_add-at-in-loop-field-2
overflow_add-at-in-loop-field-2 c = omega (arith, noted_within c.loop-field.invariant (noted_met c.loop-field.invariant c.loop-field-test.true c.from-field.ensures c.place_field.ensures) c.in-Ok.is)

pub loop-field-preserved : goal.loop-field-preserved
loop-field-preserved c = noted_read c.loop-field.invariant (noted_met c.loop-field.invariant c.loop-field-test.true c.from-field.ensures c.place_field.ensures) c.in-Ok.is c.put_field.ensures

pub returns : goal.returns
returns c = let r = noted_end c.loop-field.invariant c.loop-field-test.false in record { size = r.0; writes = r.1 }
