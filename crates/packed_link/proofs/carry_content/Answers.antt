-- By whether the content is digits.
use Rattle.packed_link.proofs.Items.{content_carried_lem, content_put}
use borrow.Author.Rules.{rules}
use Rattle.packed_link.proofs.carry_content.Goals as goal

pub returns-then-is_numeric : goal.returns-then-is_numeric
returns-then-is_numeric c = search (content_carried_lem, rules)

pub returns : goal.returns
returns c = search (content_put, rules)
