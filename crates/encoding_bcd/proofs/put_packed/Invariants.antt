use mathlib.Core.Path.{◌≡◌}
use Rattle.octets.proofs.Lists.{laid}
use Rattle.encoding_bcd.specs.Bcd.{packed}
use Rattle.encoding_bcd.proofs.put_packed.Given as goal

abbrev pub invariant-loop-k : goal.invariant-loop-k
invariant-loop-k l = l.out ≡ laid (packed l.src) l.initial.out l.k
