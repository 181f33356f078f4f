use mathlib.Core.Path.{◌≡◌}
use Rattle.octets.proofs.Lists.{laid}
use Rattle.encoding_bcd.specs.Bcd.{unpacked}
use Rattle.encoding_bcd.proofs.put_unpacked.Given as goal

abbrev pub invariant-loop-i : goal.invariant-loop-i
invariant-loop-i l = l.out ≡ laid (unpacked l.digits l.src) l.initial.out l.i
