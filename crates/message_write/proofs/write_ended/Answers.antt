-- One law for each end, in Ends.
use native.Mathlib.Omega.{arith}
use Rattle.field_table.proofs.Decoded.{decoded_bounded}
use Rattle.message_write.proofs.Ends.{asked_few, asked_size, ended_differs, differs_left, ended_short, short_left, ended_written, written_laid}
use borrow.Author.Rules.{rules}
use Rattle.message_write.proofs.write_ended.Goals as goal

pub overflow_mul-length : goal.overflow_mul-length
overflow_mul-length c = omega (arith, asked_few c.requires.asked c.count_in-count.ensures)

pub overflow_add-length : goal.overflow_add-length
overflow_add-length c = omega (arith, asked_few c.requires.asked c.count_in-count.ensures)

pub overflow_add-length-2 : goal.overflow_add-length-2
overflow_add-length-2 c = omega (arith, asked_few c.requires.asked c.count_in-count.ensures, c.requires.sums.small)

pub returns-then-said-length : goal.returns-then-said-length
returns-then-said-length c =
    let sized = asked_size c.requires.asked (decoded_bounded _) c.count_in-count.ensures c.requires.sums.sized in
    record { answers = search (ended_differs, rules); writes = search (differs_left, rules) }

pub returns-then-out-length : goal.returns-then-out-length
returns-then-out-length c =
    let sized = asked_size c.requires.asked (decoded_bounded _) c.count_in-count.ensures c.requires.sums.sized in
    record { answers = search (ended_short, rules); writes = search (short_left, rules) }

pub write_message-requires-clause-room : goal.write_message-requires-clause-room
write_message-requires-clause-room c = omega (arith, asked_size c.requires.asked (decoded_bounded _) c.count_in-count.ensures c.requires.sums.sized, c.if-out-length.false)

pub returns : goal.returns
returns c =
    let sized = asked_size c.requires.asked (decoded_bounded _) c.count_in-count.ensures c.requires.sums.sized in
    record { answers = search (ended_written, rules); writes = search (written_laid, rules) }
