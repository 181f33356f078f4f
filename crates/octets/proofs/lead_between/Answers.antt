-- Each call of the closure answers whether the byte lies between low and high.
use borrow.Author.Rules.{rules}
use Rattle.octets.specs.Lists.{between}
use Rattle.octets.proofs.Lists.{tested_lead}
use Rattle.octets.proofs.lead_between.Goals as goal

pub returns : goal.returns
returns c = tested_lead (between c.args.low c.args.high) c.args.s.now _ c.count.ensures.ran (cc) c.take_while.ensures.closure c.take_while.ensures.done (λ x b q k. search rules)
