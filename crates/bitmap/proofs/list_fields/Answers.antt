-- The fields written and those from the byte that the loop has come to make the list (Listed).
use native.Mathlib.Omega.{arith}
use Rattle.bitmap.proofs.Listed.{filling_none, filling_lent, filling_sum, filling_more, filling_list}
use Rattle.bitmap.proofs.list_fields.Goals as goal

pub loop-at-init : goal.loop-at-init
loop-at-init c = filling_none _

pub list_bits-count-requires-clause-room : goal.list_bits-count-requires-clause-room
list_bits-count-requires-clause-room c = filling_lent _ _ _ _ c.loop-at.invariant (omega (arith, c.min-at-end.ensures))

pub overflow_add-count : goal.overflow_add-count
overflow_add-count c = omega (arith, filling_sum _ _ _ _ c.loop-at.invariant (omega (arith, c.min-at-end.ensures)) _ _ c.list_bits-count.ensures.count)

pub loop-at-preserved : goal.loop-at-preserved
loop-at-preserved c =
    filling_more _ _ _ _ c.loop-at.invariant (omega (arith, c.min-at-end.ensures)) _ _ _ c.unchain.ensures c.list_bits-count.ensures.count c.list_bits-count.ensures.writes

pub invariant_of-result : goal.invariant_of-result
invariant_of-result c = (filling_list _ _ _ _ c.loop-at.invariant (omega (arith, c.min-at-end.ensures))).0

pub returns : goal.returns
returns c = (filling_list _ _ _ _ c.loop-at.invariant (omega (arith, c.min-at-end.ensures))).1
