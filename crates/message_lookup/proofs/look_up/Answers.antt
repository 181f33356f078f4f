-- The whole walk is judged, and then the field is found.
use mathlib.Core.Path.{ap, ◌∙◌}
use Rattle.refusal.proofs.Tests.{handed_on}
use Rattle.message_lookup.specs.Lookup.{told_found}
use Rattle.message_lookup.proofs.Finding.{looked_refused, looked_head, looked_found}
use Rattle.message_lookup.proofs.look_up.Goals as goal

pub returns-in_err-walk : goal.returns-in_err-walk
returns-in_err-walk c =
    let r = handed_on c.from_residual.ensures.1 ∙ looked_refused _ _ _ _ c.in_err-walk.ensures.end in
    record { answers = r; tells = ap told_found r }

pub find-requires : goal.find-requires
find-requires c = looked_head _ _ _ c.in_ok-walk.ensures.end

pub returns : goal.returns
returns c =
    let r = looked_found _ _ _ c.in_ok-walk.ensures.end _ c.find.ensures in
    record { answers = r; tells = ap told_found r }
