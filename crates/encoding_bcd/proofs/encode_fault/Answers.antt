use borrow.Author.Rules.{rules}
use Rattle.encoding_bcd.specs.Bcd.{encode_fault}
use Rattle.encoding_bcd.proofs.encode_fault.Goals as goal

pub returns-then-not-all_between : goal.returns-then-not-all_between
unfolding encode_fault
returns-then-not-all_between c = search rules

pub returns : goal.returns
unfolding encode_fault
returns c = search rules
