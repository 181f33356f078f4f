use mathlib.Core.Path.{◌≡◌}
use Rattle.octets.proofs.Lists.{laid}
use Rattle.octets.proofs.put.Given as goal

abbrev pub invariant-loop-k : goal.invariant-loop-k
invariant-loop-k l = l.out ≡ laid l.src l.initial.out l.k
