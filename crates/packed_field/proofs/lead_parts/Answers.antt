-- Each call of the closure answers whether the byte holds digits and nothing else.
use borrow.Author.Rules.{rules}
use Rattle.octets.proofs.Lists.{tested_lead}
use Rattle.packed_field.specs.Scripts.{is_part}
use Rattle.packed_field.proofs.lead_parts.Goals as goal

pub returns : goal.returns
returns c = tested_lead (is_part c.args.script) c.args.s.now _ c.count.ensures.ran (cc) c.take_while.ensures.closure c.take_while.ensures.done (λ x b q k. search rules)
