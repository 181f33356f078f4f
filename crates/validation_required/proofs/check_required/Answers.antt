-- One law for each end, in Required.
use mathlib.Core.Path.{ap, ◌∙◌}
use Rattle.std.specs.Prelude.{Err}
use Rattle.refusal.specs.Refusals.{told_checked}
use Rattle.refusal.proofs.Tests.{handed_on}
use Rattle.validation_required.specs.Required.{missing_answer}
use Rattle.validation_required.proofs.Required.{required_malformed, required_walked}
use Rattle.validation_required.proofs.check_required.Goals as goal

pub returns-in_err-walk : goal.returns-in_err-walk
returns-in_err-walk c = let r = handed_on c.from_residual.ensures.1 ∙ required_malformed _ _ _ c.in_err-walk.ensures.end in record { answers = r; tells = ap told_checked r }

pub returns-in-None : goal.returns-in-None
unfolding missing_answer
returns-in-None c = let r = required_walked _ _ _ c.in_ok-walk.ensures.end c.mti_in.ensures.bytes c.in_ok-walk.ensures.fields c.in-None.ensures in record { answers = r; tells = ap told_checked r }

pub returns-in-Some : goal.returns-in-Some
unfolding missing_answer
returns-in-Some c = let r = ap Err c.at.ensures ∙ required_walked _ _ _ c.in_ok-walk.ensures.end c.mti_in.ensures.bytes c.in_ok-walk.ensures.fields c.in-Some.ensures in record { answers = r; tells = ap told_checked r }
