-- By the numbers that are lent, which stand for the house table; what the exact writer takes, the cleaning one does.
use mathlib.Core.Path.{ap, ◌∙◌}
use Rattle.refusal.specs.Refusals.{told}
use Rattle.refusal.proofs.Tests.{handed_on}
use Rattle.field_write.proofs.Allowed.{exact_is_clean}
use Rattle.message_walk.specs.Faults.{asked}
use Rattle.message_write.proofs.Ends.{exact_answer_lem, exact_output_lem}
use Rattle.message_write.proofs.write_exact.Goals as goal

pub write_by-requires : goal.write_by-requires
unfolding asked
write_by-requires c = λ f s e. exact_is_clean _ f s e

pub returns-in_err-written : goal.returns-in_err-written
returns-in_err-written c =
    let a = handed_on c.from_residual.ensures.1 ∙ exact_answer_lem _ _ _ _ _ c.house_table-table.ensures.means _ c.in_err-written.ensures.answers in
    record { answers = a; tells = ap told a; writes = exact_output_lem _ _ _ _ _ c.house_table-table.ensures.means _ c.in_err-written.ensures.writes }

pub returns : goal.returns
returns c =
    let a = exact_answer_lem _ _ _ _ _ c.house_table-table.ensures.means _ c.in_ok-written.ensures.answers in
    record { answers = a; tells = ap told a; writes = exact_output_lem _ _ _ _ _ c.house_table-table.ensures.means _ c.in_ok-written.ensures.writes }
