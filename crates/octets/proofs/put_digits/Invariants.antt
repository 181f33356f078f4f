use mathlib.Core.Path.{◌≡◌}
use Rattle.octets.specs.Lists.{lay}
use Rattle.octets.specs.Numbers.{digits}
use Rattle.octets.proofs.put_digits.Given as goal

abbrev pub invariant-loop-k : goal.invariant-loop-k
invariant-loop-k l = lay (digits l.base l.first l.w l.n) l.initial.out ≡ lay (digits l.base l.first l.k l.left) l.out
