-- Each call of the closure answers whether neither half of the byte is over 9.
use borrow.Author.Rules.{rules}
use Rattle.octets.proofs.Lists.{tested_all}
use Rattle.encoding_bcd.specs.Bcd.{is_bcd}
use Rattle.encoding_bcd.proofs.all_bcd.Goals as goal

pub returns : goal.returns
returns c = tested_all is_bcd c.args.src.now _ c.all.ensures.ran (cc) (λ x b q k. search rules)
