-- A content that is found lies within the values.
use mathlib.Core.Path.{sym, ◌∙◌}
use native.Mathlib.Omega.{arith}
use Rattle.message_lookup.proofs.Finding.{looked_inside}
use Rattle.message_lookup.proofs.content.Goals as goal

pub overflow_add-end : goal.overflow_add-end
overflow_add-end c = omega (arith, looked_inside _ _ _ _ _ (sym c.look_up.ensures.answers ∙ c.in-Ok.is))

pub slice_bounds-result-end-2 : goal.slice_bounds-result-end-2
slice_bounds-result-end-2 c = omega (arith, looked_inside _ _ _ _ _ (sym c.look_up.ensures.answers ∙ c.in-Ok.is))
