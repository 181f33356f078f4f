-- One law for each kind of note, in Steps; a note of 01's form has no mark.
use mathlib.Core.Path.{sym, ◌∙◌}
use Rattle.message_walk.proofs.Steps.{judged_malformed, judged_end}
use Rattle.message_walk.proofs.Ends.{judged_plain}
use Rattle.message_walk.proofs.judge.Goals as goal

pub returns-in-Malformed : goal.returns-in-Malformed
returns-in-Malformed g c = sym (judged_malformed _ _ _ _ _ (sym c.read_note.ensures ∙ c.in-Malformed.is))

pub returns-in-End : goal.returns-in-End
returns-in-End g c = sym (judged_end _ _ _ _ _ _ (sym c.read_note.ensures ∙ c.in-End.is))

pub returns-in-Field : goal.returns-in-Field
returns-in-Field g c = judged_plain _ _ _ _ _ _ _ _ _ (sym c.read_note.ensures ∙ c.in-Field.is) c.fault_of-fault.ensures c.judge_field.ensures
