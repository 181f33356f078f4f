-- The first k bytes are laid over the output.
use lib.ListN.{get_or}
use Rattle.octets.proofs.Lists.{laid_none}
use Rattle.encoding_ebcdic.specs.Ebcdic.{entry_in}
use Rattle.encoding_ebcdic.proofs.Permutation.{entry_inside}
use Rattle.encoding_ebcdic.proofs.Mapping.{map_step, map_all}
use borrow.Author.Rules.{rules}
use native.Mathlib.Omega.{arith}
use Rattle.encoding_ebcdic.proofs.translate.Goals as goal

pub loop-k-init : goal.loop-k-init
loop-k-init c = search (laid_none, rules)

pub loop-k-preserved : goal.loop-k-preserved
loop-k-preserved c =
    map_step (entry_in c.args.entries.now) c.args.src.now _ _ _ c.loop-k.invariant _ (search rules) (search rules)
    (rw c.from.ensures (entry_inside c.args.entries.now (get_or c.args.src.now c.loop-k.k 0) (omega (arith, c.type_inv.src c.loop-k.k))))

pub returns : goal.returns
returns c = search (map_all, rules)
