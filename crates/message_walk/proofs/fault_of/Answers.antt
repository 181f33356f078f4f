-- The place first, and then the content.
use mathlib.Core.Path.{◌∙◌}
use Rattle.refusal.proofs.Tests.{handed_on}
use Rattle.message_walk.proofs.Ends.{fault_outside, fault_inside}
use Rattle.message_walk.proofs.fault_of.Goals as goal

pub returns-in_err-place_fault : goal.returns-in_err-place_fault
returns-in_err-place_fault g c = handed_on c.from_residual.ensures.1 ∙ fault_outside _ _ _ _ _ _ c.in_err-place_fault.ensures

pub returns : goal.returns
returns g c = fault_inside _ _ _ _ _ _ c.in_ok-place_fault.ensures c.fault.ensures
