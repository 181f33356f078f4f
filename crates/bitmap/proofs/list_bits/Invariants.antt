use Rattle.bitmap.proofs.Listed.{Listing}
use Rattle.bitmap.proofs.list_bits.Given as goal

abbrev pub invariant-loop-rest : goal.invariant-loop-rest
invariant-loop-rest l = Listing l.b l.first l.initial.numbers l.numbers l.rest l.n

abbrev pub decreases-loop-rest : goal.decreases-loop-rest
decreases-loop-rest l = l.rest
