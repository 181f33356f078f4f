-- The bytes fit and are laid over the output, or they do not and it is left.
use Rattle.octets.proofs.Lists.{placed_short, placed_done}
use Rattle.octets.proofs.Numbers.{digits_length}
use borrow.Author.Rules.{rules}
use Rattle.octets.proofs.put_decimal.Goals as goal

pub returns-then-w-out : goal.returns-then-w-out
returns-then-w-out c = search (placed_done, digits_length, rules)

pub returns-else-w-out : goal.returns-else-w-out
returns-else-w-out c = search (placed_short, digits_length, rules)
