-- The byte count, then the half-bytes.
use mathlib.Core.Path.{◌∙◌}
use borrow.Author.Rules.{rules}
use borrow.Author.Tests.{eq-eqb}
use Rattle.encoding_bcd.specs.Bcd.{decode_fault}
use Rattle.encoding_bcd.proofs.decode_fault.Goals as goal

pub returns-then-src-bytes_of : goal.returns-then-src-bytes_of
unfolding decode_fault
returns-then-src-bytes_of c = search rules

pub returns-then-not-all_bcd : goal.returns-then-not-all_bcd
unfolding decode_fault
returns-then-not-all_bcd c = search rules

pub returns : goal.returns
unfolding decode_fault
returns c =
    let sized = c.if-src-bytes_of.false ∙ c.bytes_of.ensures in
    rw (eq-eqb _ _ sized, ← c.if-not-all_bcd.ensures, ← c.if-not-spare_zero.ensures)
