-- The sum of the digits from the right so far, modulo 10 (Digits).
use Rattle.validation_pan.proofs.Digits.{digit_least, weighing_first, weighing_digit, weighing_other, weighing_done}
use borrow.Author.Rules.{rules}
use Rattle.validation_pan.proofs.luhn_remainder.Goals as goal

pub loop-b-init : goal.loop-b-init
loop-b-init c = rw (c.into_iter-b-iterator.ensures.into_iter_gives, c.rev-b-items.ensures.source, c.iter.ensures.rest) (weighing_first _)

pub worth_of-requires : goal.worth_of-requires
worth_of-requires c = search (digit_least, rules)

pub loop-b-preserved-then-is_between : goal.loop-b-preserved-then-is_between
loop-b-preserved-then-is_between c = search (weighing_digit, rules)

pub loop-b-preserved : goal.loop-b-preserved
loop-b-preserved c = search (weighing_other, rules)

pub returns : goal.returns
returns c = weighing_done _ _ _ _ c.loop-b.invariant c.in-None.ensures.steps.0
