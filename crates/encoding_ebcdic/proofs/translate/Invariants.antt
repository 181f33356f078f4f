use mathlib.Core.Path.{◌≡◌}
use mathlib.Core.List.{map}
use Rattle.octets.proofs.Lists.{laid}
use Rattle.encoding_ebcdic.specs.Ebcdic.{entry_in}
use Rattle.encoding_ebcdic.proofs.translate.Given as goal

abbrev pub invariant-loop-k : goal.invariant-loop-k
invariant-loop-k l = l.out ≡ laid (map (entry_in l.entries) l.src) l.initial.out l.k
