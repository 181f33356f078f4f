-- The numbers that are lent stand for the house table.
use Rattle.packed_link.proofs.Answers.{answer_by_lem, tells_by, output_by_lem}
use borrow.Author.Rules.{rules}
use Rattle.packed_link.proofs.pack.Goals as goal

pub returns : goal.returns
returns c = search (answer_by_lem, tells_by, output_by_lem, rules)
