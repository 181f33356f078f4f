-- The first k bytes of src are laid over the output; or they do not fit and it is left.
use mathlib.Core.Path.{refl}
use Rattle.octets.proofs.Lists.{placed_short, placed_done, laid_none, laid_step, laid_all}
use borrow.Author.Rules.{rules}
use Rattle.octets.proofs.put.Goals as goal

pub loop-k-init : goal.loop-k-init
loop-k-init c = search (laid_none, rules)

pub loop-k-preserved : goal.loop-k-preserved
loop-k-preserved c = laid_step _ _ _ _ _ c.loop-k.invariant (search rules) (search rules) refl

pub returns-after-loop-k : goal.returns-after-loop-k
returns-after-loop-k c = placed_done _ _ _ refl _ (search rules) (laid_all _ _ _ _ c.loop-k.invariant (search rules) (search rules))

pub returns-else-src-out : goal.returns-else-src-out
returns-else-src-out c = search (placed_short, rules)
