-- The walk ends as the rest of it does from where the loop has come to, and what was gathered so far and what is still to come make the whole
-- (Weighing, and Loops of message_walk).
use mathlib.Core.Path.{ap, ◌∙◌}
use native.Mathlib.Omega.{arith}
use Rattle.std.specs.Prelude.{Ok, Err}
use Rattle.field_table.proofs.Decoded.{decoded_bounded}
use Rattle.message_walk.specs.Walk.{entries_in}
use Rattle.message_walk.specs.Faults.{fault_by}
use Rattle.message_walk.proofs.Ends.{counted}
use Rattle.message_walk.proofs.Loops.{walking_first, turn_refused, turn_end, turn_done, turn_good, turn_here, turn_next, turn_of}
use Rattle.message_walk.proofs.Naming.{numbers_are, entries_good}
use Rattle.message_write.specs.Written.{entries_by}
use Rattle.message_write.proofs.Weighing.{weighing_first, weighing_fits, weighing_next, weighed}
use Rattle.message_write.proofs.weigh_fields.Goals as goal

pub loop-flaw-init : goal.loop-flaw-init
unfolding entries_by entries_in
loop-flaw-init c = walking_first c.requires (weighing_first c.none-fields.ensures c.none-short.ensures)

pub returns-in-Err-clause-end : goal.returns-in-Err-clause-end
unfolding fault_by
returns-in-Err-clause-end c =
    let turn = turn_of c.loop-flaw.invariant (counted _ _ _ _ _ _ _ c.judge.ensures c.count_in-count.ensures) in
    ap Err c.at.ensures ∙ turn_refused turn c.in-Err.is

pub returns-in-Ok-End : goal.returns-in-Ok-End
unfolding fault_by entries_by
returns-in-Ok-End c =
    let turn = turn_of c.loop-flaw.invariant (counted _ _ _ _ _ _ _ c.judge.ensures c.count_in-count.ensures) in
    let is = c.in-Ok-End.is ∙ ap Ok c.in-Ok-End.field-0-is in
    record { end = turn_end turn is; sums = weighed (numbers_are _ _ _ (entries_good _ _ _)) (turn_done turn is) }

pub overflow_add-size : goal.overflow_add-size
unfolding fault_by
overflow_add-size c =
    let turn = turn_of c.loop-flaw.invariant (counted _ _ _ _ _ _ _ c.judge.ensures c.count_in-count.ensures) in
    let is = c.in-Ok-Passed.is ∙ ap Ok c.in-Ok-Passed.field-0-is in
    let fits = weighing_fits (decoded_bounded _) (turn_here turn is) (turn_good turn is) _ c.written_size-size.ensures in
    omega arith

pub loop-flaw-preserved : goal.loop-flaw-preserved
unfolding fault_by
loop-flaw-preserved c =
    let turn = turn_of c.loop-flaw.invariant (counted _ _ _ _ _ _ _ c.judge.ensures c.count_in-count.ensures) in
    let is = c.in-Ok-Passed.is ∙ ap Ok c.in-Ok-Passed.field-0-is in
    turn_next turn is
    (weighing_next (decoded_bounded _) (turn_here turn is) (turn_good turn is) _ c.written_size-size.ensures c.with-fields.ensures c.with_short-short.ensures)
