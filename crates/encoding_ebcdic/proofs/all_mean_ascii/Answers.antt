-- Each call of the closure tests the byte's entry, which in the table is its meaning.
use mathlib.Core.Path.{◌∙◌}
use borrow.Author.Rules.{rules}
use native.Mathlib.Omega.{arith}
use Rattle.octets.proofs.Lists.{tested_all}
use Rattle.encoding_ebcdic.proofs.Faults.{entry_passes, entries_tell}
use Rattle.encoding_ebcdic.proofs.all_mean_ascii.Goals as goal

pub returns : goal.returns
returns c =
    tested_all (entry_passes c.args.meanings.now) c.args.src.now _ c.all.ensures.ran (cc) (λ x b q k. search rules)
    ∙ entries_tell c.args.meanings.now c.args.src.now c.requires (λ i. omega (arith, c.type_inv.src i))
