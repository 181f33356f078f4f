-- One law for each end, in Heads.
use mathlib.Core.Path.{sym}
use native.Mathlib.Omega.{arith}
use lib.Seq.{length-take-le}
use Rattle.packed_link.proofs.Heads.{mti_small, head_short, head_no_digit, head_maps}
use borrow.Author.Rules.{rules}
use Rattle.packed_link.proofs.Link.read_head.Goals as goal

pub overflow_add-start : goal.overflow_add-start
overflow_add-start c = omega (arith, mti_small c.args.self.now.script, c.size_of-start.ensures)

pub returns-then-input-start : goal.returns-then-input-start
returns-then-input-start c = search (head_short, rules)

pub slice_bounds-lead_parts-end : goal.slice_bounds-lead_parts-end
slice_bounds-lead_parts-end c = sym (length-take-le _ c.args.input.now (omega (arith, c.if-input-start.false)))

pub returns-then-good-start : goal.returns-then-good-start
returns-then-good-start c = search (head_no_digit, rules)

pub returns : goal.returns
returns c = search (head_maps, rules)
