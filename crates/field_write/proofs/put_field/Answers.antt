-- Too long, fixed and padded, or length digits and the content.
use Rattle.field_write.proofs.Padding.{put_long, put_fixed, put_variable}
use borrow.Author.Rules.{rules}
use Rattle.field_write.proofs.put_field.Goals as goal

pub returns-then-most_in-content : goal.returns-then-most_in-content
returns-then-most_in-content c = search (put_long, rules)

pub returns-then-width-eq0 : goal.returns-then-width-eq0
returns-then-width-eq0 c = search (put_fixed, rules)

pub returns-else-width-eq0 : goal.returns-else-width-eq0
returns-else-width-eq0 c = search (put_variable, rules)
