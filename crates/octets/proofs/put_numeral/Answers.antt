-- The digits are written in as many bytes as there are digits.
use borrow.Author.Rules.{rules}
use Rattle.octets.specs.Numerals.{numeral}
use Rattle.octets.proofs.Numerals.{numeral_length}
use Rattle.octets.proofs.put_numeral.Goals as goal

pub returns : goal.returns
unfolding numeral
returns c = search (numeral_length, rules)
