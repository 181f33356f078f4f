-- What is written so far and what is still to come make the whole, and every content to come is one that may be written (Writing).
use native.Mathlib.Omega.{arith}
use Rattle.field_table.proofs.Decoded.{decoded_bounded}
use Rattle.message_walk.proofs.Loops.{reading_first, read_done, read_here, read_next, read_of}
use Rattle.message_write.proofs.Writing.{cleared, writing_first, writing_done, writing_taken, writing_fits, writing_more}
use Rattle.message_write.proofs.write_body.Goals as goal

pub loop-number-init : goal.loop-number-init
loop-number-init c = reading_first c.requires.head (writing_first (cleared _ _ _ _ c.requires.clean))

pub overflow_add-end : goal.overflow_add-end
overflow_add-end c =
    let read = read_of c.loop-number.invariant c.read_note.ensures in
    omega (arith, (writing_taken (decoded_bounded _) (read_here read c.in-Field.is)).place)

pub slice_bounds-put_field-end : goal.slice_bounds-put_field-end
slice_bounds-put_field-end c =
    let read = read_of c.loop-number.invariant c.read_note.ensures in
    (writing_taken (decoded_bounded _) (read_here read c.in-Field.is)).place

pub overflow_add-written : goal.overflow_add-written
overflow_add-written c =
    let read = read_of c.loop-number.invariant c.read_note.ensures in
    omega (arith, (writing_fits (decoded_bounded _) (read_here read c.in-Field.is) c.written_size-size.ensures c.requires.room))

pub loop-number-preserved : goal.loop-number-preserved
loop-number-preserved c =
    let read = read_of c.loop-number.invariant c.read_note.ensures in
    read_next read c.in-Field.is
    (writing_more (decoded_bounded _) (read_here read c.in-Field.is) c.written_size-size.ensures c.requires.room c.put_field.ensures)

pub returns : goal.returns
returns c =
    let read = read_of c.loop-number.invariant c.read_note.ensures in
    writing_done (read_done read c.in_default.not-Field)
