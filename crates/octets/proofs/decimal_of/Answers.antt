-- Sixteen digits fit.
use lib.ListN.{length}
use native.Mathlib.Nat.{pow-le-pow_right}
use native.Mathlib.Omega.{arith}
use Rattle.octets.proofs.decimal_of.Goals as goal

pub number_of-requires-clause-fits : goal.number_of-requires-clause-fits
number_of-requires-clause-fits c = omega (arith, pow-le-pow_right {n = 10} (omega arith) {i = length c.args.s.now} {j = 16} c.if-s-le16.true)
