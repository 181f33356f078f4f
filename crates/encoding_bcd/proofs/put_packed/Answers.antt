-- The first k bytes are laid over the output.
use Rattle.octets.proofs.Lists.{laid_none, laid_step, laid_all}
use Rattle.encoding_bcd.proofs.Packing.{evened_length, packed_length, packed_at}
use borrow.Author.Rules.{rules}
use native.Mathlib.Omega.{arith}
use Rattle.encoding_bcd.proofs.put_packed.Goals as goal

pub loop-k-init : goal.loop-k-init
loop-k-init c = search (laid_none, rules)

pub value_at-high-requires-clause-j_in_bounds : goal.value_at-high-requires-clause-j_in_bounds
value_at-high-requires-clause-j_in_bounds c = omega (arith, evened_length c.args.src.now)

pub value_at-low-requires-clause-j_in_bounds : goal.value_at-low-requires-clause-j_in_bounds
value_at-low-requires-clause-j_in_bounds c = omega (arith, evened_length c.args.src.now)

pub loop-k-preserved : goal.loop-k-preserved
loop-k-preserved c =
    laid_step _ _ _ _ _ c.loop-k.invariant (omega (arith, packed_length c.args.src.now)) (search rules)
    (packed_at _ _ _ _ (search rules) c.value_at-high.ensures.value c.value_at-low.ensures.value)

pub returns : goal.returns
returns c = laid_all _ _ _ _ c.loop-k.invariant (omega (arith, packed_length c.args.src.now)) (omega (arith, packed_length c.args.src.now))
