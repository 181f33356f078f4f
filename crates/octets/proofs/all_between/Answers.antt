-- Each call of the closure answers whether the byte lies between low and high.
use borrow.Author.Rules.{rules}
use Rattle.octets.specs.Lists.{between}
use Rattle.octets.proofs.Lists.{tested_all}
use Rattle.octets.proofs.all_between.Goals as goal

pub returns : goal.returns
returns c = tested_all (between c.args.low c.args.high) c.args.s.now _ c.all.ensures.ran (cc) (λ x b q k. search rules)
