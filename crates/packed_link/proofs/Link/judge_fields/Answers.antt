-- Judging from the start is judging what is left from the place and the field that the loop has come to (Turns).
use native.Mathlib.Omega.{arith}
use Rattle.packed_link.specs.Link.{fields_judged}
use Rattle.packed_link.proofs.Turns.{met, scan_first, scan_refused, scan_within, scan_small, scan_good, scan_end}
use Rattle.packed_link.proofs.Link.judge_fields.Goals as goal

pub loop-field-init : goal.loop-field-init
loop-field-init c = scan_first c.requires.start_in_bounds

pub returns-in-Err : goal.returns-in-Err
returns-in-Err c = scan_refused c.loop-field.invariant (met _ _ _ _ _ _ _ _ c.loop-field-test.true c.from-field.ensures c.judge_item.ensures) c.in-Err.is c.at.ensures

pub overflow_add-at : goal.overflow_add-at
overflow_add-at c = omega (arith, scan_within c.loop-field.invariant (met _ _ _ _ _ _ _ _ c.loop-field-test.true c.from-field.ensures c.judge_item.ensures) c.in-Ok.is)

pub overflow_add-at-in-Ok : goal.overflow_add-at-in-Ok
overflow_add-at-in-Ok c = omega (arith, scan_within c.loop-field.invariant (met _ _ _ _ _ _ _ _ c.loop-field-test.true c.from-field.ensures c.judge_item.ensures) c.in-Ok.is)

pub overflow_add-written : goal.overflow_add-written
overflow_add-written c = omega (arith, scan_small c.loop-field.invariant (met _ _ _ _ _ _ _ _ c.loop-field-test.true c.from-field.ensures c.judge_item.ensures) c.in-Ok.is, c.loop-field-test.true, c.requires.before_bound, c.requires.few)

pub loop-field-preserved : goal.loop-field-preserved
loop-field-preserved c = scan_good c.loop-field.invariant (met _ _ _ _ _ _ _ _ c.loop-field-test.true c.from-field.ensures c.judge_item.ensures) c.in-Ok.is

pub returns : goal.returns
unfolding fields_judged
returns c = scan_end c.loop-field.invariant c.loop-field-test.false
