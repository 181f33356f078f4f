-- The first i digits are laid over the output.
use mathlib.Core.Path.{◌∙◌}
use Rattle.octets.proofs.Lists.{laid_none, laid_step, laid_all}
use Rattle.encoding_bcd.proofs.Unpacking.{unpacked_length, unpacked_at}
use borrow.Author.Rules.{rules}
use native.Mathlib.Omega.{arith}
use Rattle.encoding_bcd.proofs.put_unpacked.Goals as goal

pub loop-i-init : goal.loop-i-init
loop-i-init c = search (laid_none, rules)

pub loop-i-preserved : goal.loop-i-preserved
loop-i-preserved c =
    laid_step _ _ _ _ _ c.loop-i.invariant (omega (arith, unpacked_length c.args.digits c.args.src.now (search rules))) (search rules)
    (c.digit_at.ensures ∙ unpacked_at _ _ _)

pub returns : goal.returns
returns c = search (laid_all, unpacked_length, rules)
