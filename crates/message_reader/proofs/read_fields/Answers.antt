-- Reading from the start is reading what is left from the place and the field that the loop has come to (Turns).
use Rattle.message_reader.specs.Reader.{read_fields}
use Rattle.message_reader.proofs.Turns.{met, scan_refused, scan_within, scan_read, scan_end}
use native.Mathlib.Omega.{arith}
use Rattle.message_reader.proofs.read_fields.Goals as goal

pub returns-in-Err : goal.returns-in-Err
returns-in-Err c = scan_refused c.loop-field.invariant (met _ _ _ _ _ _ _ c.loop-field-test.true c.from-field.ensures c.read_field.ensures) c.in-Err.is c.at.ensures

pub overflow_add-at : goal.overflow_add-at
overflow_add-at c = omega (arith, scan_within c.loop-field.invariant (met _ _ _ _ _ _ _ c.loop-field-test.true c.from-field.ensures c.read_field.ensures) c.in-Ok.is)

pub overflow_add-at-in-Ok : goal.overflow_add-at-in-Ok
overflow_add-at-in-Ok c = omega (arith, scan_within c.loop-field.invariant (met _ _ _ _ _ _ _ c.loop-field-test.true c.from-field.ensures c.read_field.ensures) c.in-Ok.is)

pub loop-field-preserved : goal.loop-field-preserved
loop-field-preserved c = scan_read c.loop-field.invariant (met _ _ _ _ _ _ _ c.loop-field-test.true c.from-field.ensures c.read_field.ensures) c.in-Ok.is

pub returns : goal.returns
unfolding read_fields
returns c = scan_end c.loop-field.invariant c.loop-field-test.false
