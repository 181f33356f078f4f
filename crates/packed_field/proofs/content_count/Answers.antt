-- By the script: the digits themselves, or those that they are unpacked to.
use Rattle.packed_field.proofs.Ends.{count_fixed, count_plain, count_packed}
use borrow.Author.Rules.{rules}
use Rattle.packed_field.proofs.content_count.Goals as goal

pub returns-then-width-eq0 : goal.returns-then-width-eq0
returns-then-width-eq0 c = search (count_fixed, rules)

pub returns-in-Plain : goal.returns-in-Plain
returns-in-Plain c = search (count_plain, rules)

pub returns-in-Packed : goal.returns-in-Packed
returns-in-Packed c = search (count_packed, rules)
