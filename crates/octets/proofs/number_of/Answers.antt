-- The whole spells what n and the bytes from the index on spell; n is small enough for a byte more.
use mathlib.Core.Path.{◌∙◌}
use Rattle.octets.proofs.Numbers.{number_more, number_done, number_bound, number_fits}
use borrow.Author.Rules.{rules}
use native.Mathlib.Omega.{arith}
use Rattle.octets.proofs.number_of.Goals as goal

pub overflow_mul-n : goal.overflow_mul-n
overflow_mul-n c = omega (arith, number_fits _ _ 0 _ _ c.requires.digits c.loop-b.invariant.0 (omega arith) c.loop-b-test.true c.requires.fits)

pub overflow_add-n : goal.overflow_add-n
overflow_add-n c = omega (arith, number_fits _ _ c.wide.result _ _ c.requires.digits c.loop-b.invariant.0 (omega arith) c.loop-b-test.true c.requires.fits)

pub loop-b-preserved : goal.loop-b-preserved
loop-b-preserved c = (
  number_bound _ _ _ _ c.requires.digits c.loop-b.invariant.0 (omega arith),
  c.loop-b.invariant.1 ∙ number_more _ _ _ _ _ _ c.loop-b-test.true (grind arith),
)

pub returns : goal.returns
returns c = search (number_done, rules)
