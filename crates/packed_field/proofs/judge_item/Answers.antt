-- A content that was found stands within the rest.
use Rattle.packed_field.proofs.Found.{placed_within}
use native.Mathlib.Omega.{arith}
use Rattle.packed_field.proofs.judge_item.Goals as goal

pub overflow_add-end : goal.overflow_add-end
overflow_add-end c = omega (arith, placed_within _ _ _ _ _ _ _ _ c.in_ok-item.ensures)

pub slice_bounds-is_content-end : goal.slice_bounds-is_content-end
slice_bounds-is_content-end c = omega (arith, placed_within _ _ _ _ _ _ _ _ c.in_ok-item.ensures)
