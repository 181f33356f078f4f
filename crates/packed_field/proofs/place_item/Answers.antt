-- What the field takes in the other script is small, as the table's numbers are.
use Rattle.packed_field.proofs.Ends.{most_small, across_small}
use native.Mathlib.Omega.{arith}
use Rattle.packed_field.proofs.place_item.Goals as goal

pub overflow_add-carried : goal.overflow_add-carried
overflow_add-carried c =
    omega (arith, across_small _ _ _ _ _ _ _ c.width_in-width.ensures.small (most_small _ _ _ c.most_in-most.ensures) c.if-most-count.false c.size_of.ensures c.content_size.ensures)
