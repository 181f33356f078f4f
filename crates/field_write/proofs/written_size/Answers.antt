-- No width is over 3, and no length of the table over 999.
use Rattle.field_table.specs.Codes.{decoded}
use Rattle.field_table.proofs.Decoded.{decoded_bounded}
use Rattle.field_write.proofs.Padding.{missing_most}
use native.Mathlib.Omega.{arith}
use Rattle.field_write.proofs.written_size.Goals as goal

pub overflow_add-result-then-length-le-LONGEST : goal.overflow_add-result-then-length-le-LONGEST
overflow_add-result-then-length-le-LONGEST c = let t = decoded c.args.table.now in
    omega (arith, missing_most t c.args.number c.args.length, (decoded_bounded c.args.table.now).most_small c.args.number, c.width_in.ensures.small, c.missing.ensures)
