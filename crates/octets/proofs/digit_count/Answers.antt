-- The power of ten that n reaches is one less than its digits.
use borrow.Author.Rules.{rules}
use Rattle.octets.proofs.Numerals.{count_power}
use Rattle.octets.proofs.digit_count.Goals as goal

pub returns : goal.returns
returns c = search (count_power, rules)
