-- One law for each end, in Ends.
use Rattle.message_walk.proofs.Ends.{not_above, no_number, in_bitmaps}
use borrow.Author.Rules.{rules}
use Rattle.message_walk.proofs.is_number_allowed.Goals as goal
use Rattle.message_walk.proofs.is_number_allowed.Goals.{then-last-number, else-last-number}

pub returns-then-is_field : goal.returns-then-is_field
returns-then-is_field c = elim c.if-last-number.branch [ then-last-number w ↦ search (in_bitmaps, rules) | else-last-number w ↦ search rules ]

pub returns-else-is_field : goal.returns-else-is_field
returns-else-is_field c = elim c.if-last-number.branch [ then-last-number w ↦ search (no_number, rules) | else-last-number w ↦ search (not_above, rules) ]
