-- The walk ends as the rest of it does from where the loop has come to, and the set holds what was passed so far (Loops, Naming).
use mathlib.Core.Path.{refl, ap, ◌∙◌}
use Rattle.std.specs.Prelude.{Ok, Err}
use Rattle.message_walk.specs.Walk.{entries_in, fields_on}
use Rattle.message_walk.proofs.Ends.{counted}
use Rattle.message_walk.proofs.Loops.{walking_first, turn_refused, turn_end, turn_done, turn_here, turn_next, turn_of}
use Rattle.message_walk.proofs.Naming.{naming_first, naming_next, naming_done, numbers_are, entries_good}
use Rattle.message_walk.proofs.walk_fields.Goals as goal

pub loop-flaw-init : goal.loop-flaw-init
unfolding entries_in
loop-flaw-init c = walking_first c.requires (naming_first c.none-fields.ensures)

pub returns-in-Err : goal.returns-in-Err
unfolding fields_on
returns-in-Err c =
    let turn = turn_of c.loop-flaw.invariant (counted _ _ _ _ _ _ _ c.judge.ensures c.count_in-count.ensures) in
    record { end = ap Err c.at.ensures ∙ turn_refused turn c.in-Err.is; fields = refl }

pub returns-in-Ok-End : goal.returns-in-Ok-End
unfolding fields_on
returns-in-Ok-End c =
    let turn = turn_of c.loop-flaw.invariant (counted _ _ _ _ _ _ _ c.judge.ensures c.count_in-count.ensures) in
    let is = c.in-Ok-End.is ∙ ap Ok c.in-Ok-End.field-0-is in
    record { end = turn_end turn is; fields = naming_done (numbers_are _ _ _ (entries_good _ _ _)) (turn_done turn is) }

pub loop-flaw-preserved : goal.loop-flaw-preserved
loop-flaw-preserved c =
    let turn = turn_of c.loop-flaw.invariant (counted _ _ _ _ _ _ _ c.judge.ensures c.count_in-count.ensures) in
    let is = c.in-Ok-Passed.is ∙ ap Ok c.in-Ok-Passed.field-0-is in
    turn_next turn is (naming_next (turn_here turn is) c.with-fields.ensures)
