-- The fields written and those still to come make the whole (Carrying).
use native.Mathlib.Omega.{arith}
use Rattle.packed_link.proofs.Carrying.{carrying_first, carrying_met, carrying_refused, carrying_judged, carrying_within, carrying_room, carrying_part, carrying_good, carrying_end}
use Rattle.packed_link.proofs.Link.write_fields.Goals as goal

pub loop-field-init : goal.loop-field-init
loop-field-init c = carrying_first _ _ c.requires.start_in_bounds c.requires.judged.1.1 c.requires.room

pub shape_of-out-in_default : goal.shape_of-out-in_default
shape_of-out-in_default c = c.loop-field.invariant.written.size

pub returns-in_default : goal.returns-in_default
returns-in_default c = carrying_refused c.loop-field.invariant (carrying_met c.loop-field.invariant c.loop-field-test.true c.from-field.ensures c.place_item.ensures) c.in_default.is

pub slice_bounds-carry_item-count-in-loop-field : goal.slice_bounds-carry_item-count-in-loop-field
slice_bounds-carry_item-count-in-loop-field c = omega (arith, carrying_room c.loop-field.invariant (carrying_met c.loop-field.invariant c.loop-field-test.true c.from-field.ensures c.place_item.ensures) c.in-Ok.is)

pub slice_bounds-carry_item-start-in-loop-field : goal.slice_bounds-carry_item-start-in-loop-field
slice_bounds-carry_item-start-in-loop-field c = omega (arith, carrying_room c.loop-field.invariant (carrying_met c.loop-field.invariant c.loop-field-test.true c.from-field.ensures c.place_item.ensures) c.in-Ok.is)

pub carry_item-requires : goal.carry_item-requires
carry_item-requires c = record { judged = carrying_judged c.loop-field.invariant (carrying_met c.loop-field.invariant c.loop-field-test.true c.from-field.ensures c.place_item.ensures) c.in-Ok.is; room = carrying_part c.loop-field.invariant (carrying_met c.loop-field.invariant c.loop-field-test.true c.from-field.ensures c.place_item.ensures) c.in-Ok.is }

pub overflow_add-at : goal.overflow_add-at
overflow_add-at c = omega (arith, carrying_within c.loop-field.invariant (carrying_met c.loop-field.invariant c.loop-field-test.true c.from-field.ensures c.place_item.ensures) c.in-Ok.is)

pub overflow_add-at-in-loop-field : goal.overflow_add-at-in-loop-field
overflow_add-at-in-loop-field c = omega (arith, carrying_within c.loop-field.invariant (carrying_met c.loop-field.invariant c.loop-field-test.true c.from-field.ensures c.place_item.ensures) c.in-Ok.is)

pub overflow_add-written : goal.overflow_add-written
overflow_add-written c = omega (arith, carrying_room c.loop-field.invariant (carrying_met c.loop-field.invariant c.loop-field-test.true c.from-field.ensures c.place_item.ensures) c.in-Ok.is, c.loop-field.invariant.written.size)

pub loop-field-preserved : goal.loop-field-preserved
loop-field-preserved c = carrying_good c.loop-field.invariant (carrying_met c.loop-field.invariant c.loop-field-test.true c.from-field.ensures c.place_item.ensures) c.in-Ok.is c.carry_item.ensures

pub shape_of-out : goal.shape_of-out
shape_of-out c = c.loop-field.invariant.written.size

pub returns : goal.returns
returns c = carrying_end c.loop-field.invariant c.loop-field-test.false
