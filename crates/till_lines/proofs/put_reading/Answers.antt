-- What is written, the lines of the fields whose notes are left and the line of the end make the whole (Walking).
use mathlib.Core.Path.{◌≡◌, sym, ◌∙◌}
use lib.ListN.{drop}
use lib.Seq.{length-take-le}
use Rattle.message_notes.specs.declared.Note.TheVariants.{Field, End}
use Rattle.message_notes.specs.Dialect.{plain_form}
use Rattle.message_notes.specs.Notes.{note_at}
use Rattle.till_lines.proofs.Reading.{input_four, lines_room, mti_fits, begun_room, begun_size, maps_fits, headed_room, headed_size, headed_over, walked_first, headed_of, opened_of, begun_of}
use Rattle.till_lines.proofs.Walking.{note_part, walked_inside, field_room, field_within, field_inside, walked_field, end_room, walked_end, is_end}
use Rattle.till_lines.proofs.Writing.{as_long}
use native.Mathlib.Omega.{arith}
use Rattle.till_lines.proofs.put_reading.Goals as goal

pub slice_bounds-put_mti-end : goal.slice_bounds-put_mti-end
slice_bounds-put_mti-end c = sym (length-take-le 4 c.args.input.now (input_four (opened_of c.requires.short c.requires.read c.requires.room)))

pub put_mti-written-requires : goal.put_mti-written-requires
put_mti-written-requires c = mti_fits (opened_of c.requires.short c.requires.read c.requires.room)

pub slice_bounds-put_named-count : goal.slice_bounds-put_named-count
slice_bounds-put_named-count c =
    let begun = begun_of (opened_of c.requires.short c.requires.read c.requires.room) c.put_mti-written.ensures.size c.put_mti-written.ensures.writes in
    omega (arith, begun_size begun, begun_room begun, c.requires.room)

pub slice_bounds-put_named-start : goal.slice_bounds-put_named-start
slice_bounds-put_named-start c =
    let begun = begun_of (opened_of c.requires.short c.requires.read c.requires.room) c.put_mti-written.ensures.size c.put_mti-written.ensures.writes in
    omega (arith, begun_size begun, begun_room begun, c.requires.room)

pub put_named-written-requires : goal.put_named-written-requires
put_named-written-requires c =
    let begun = begun_of (opened_of c.requires.short c.requires.read c.requires.room) c.put_mti-written.ensures.size c.put_mti-written.ensures.writes in
    maps_fits begun

pub overflow_add-written : goal.overflow_add-written
overflow_add-written c =
    let begun = begun_of (opened_of c.requires.short c.requires.read c.requires.room) c.put_mti-written.ensures.size c.put_mti-written.ensures.writes in
    let headed = headed_of begun c.put_named-written.ensures.size c.put_named-written.ensures.writes in
    omega (arith, headed_room headed)

pub loop-number-init : goal.loop-number-init
loop-number-init c =
    let begun = begun_of (opened_of c.requires.short c.requires.read c.requires.room) c.put_mti-written.ensures.size c.put_mti-written.ensures.writes in
    let headed = headed_of begun c.put_named-written.ensures.size c.put_named-written.ensures.writes in
    walked_first headed c.args.notes.now c.requires.noted

pub put_field-written-requires : goal.put_field-written-requires
put_field-written-requires c =
    let is_here :
    (note_at plain_form (drop c.loop-number.at c.args.notes.now)) ≡ Field c.in-Field.number c.in-Field.offset c.in-Field.length =
    note_part c.args.notes.now c.loop-number.at _ _ c.read_note.ensures c.in-Field.is in
    field_room c.loop-number.invariant is_here

pub overflow_add-written-in-Field : goal.overflow_add-written-in-Field
overflow_add-written-in-Field c =
    let is_here :
    (note_at plain_form (drop c.loop-number.at c.args.notes.now)) ≡ Field c.in-Field.number c.in-Field.offset c.in-Field.length =
    note_part c.args.notes.now c.loop-number.at _ _ c.read_note.ensures c.in-Field.is in
    omega (arith, c.put_field-written.ensures.size, field_within c.loop-number.invariant is_here, lines_room (opened_of c.requires.short c.requires.read c.requires.room))

pub overflow_add-at : goal.overflow_add-at
overflow_add-at c =
    let is_here :
    (note_at plain_form (drop c.loop-number.at c.args.notes.now)) ≡ Field c.in-Field.number c.in-Field.offset c.in-Field.length =
    note_part c.args.notes.now c.loop-number.at _ _ c.read_note.ensures c.in-Field.is in
    omega (arith, field_inside c.loop-number.invariant is_here)

pub loop-number-smaller : goal.loop-number-smaller
loop-number-smaller c = omega (arith, walked_inside c.loop-number.invariant)

pub loop-number-preserved : goal.loop-number-preserved
loop-number-preserved c =
    let is_here :
    (note_at plain_form (drop c.loop-number.at c.args.notes.now)) ≡ Field c.in-Field.number c.in-Field.offset c.in-Field.length =
    note_part c.args.notes.now c.loop-number.at _ _ c.read_note.ensures c.in-Field.is in
    walked_field c.loop-number.invariant is_here c.put_field-written.ensures.size c.put_field-written.ensures.writes

pub slice_bounds-read_note-count : goal.slice_bounds-read_note-count
slice_bounds-read_note-count c = omega (arith, walked_inside c.loop-number.invariant)

pub slice_bounds-read_note-start : goal.slice_bounds-read_note-start
slice_bounds-read_note-start c = omega (arith, walked_inside c.loop-number.invariant)

pub put_named-requires : goal.put_named-requires
put_named-requires c = end_room c.loop-number.invariant (is_end c.loop-number.invariant _ c.read_note.ensures c.in_default.not-Field)

pub overflow_add-result : goal.overflow_add-result
overflow_add-result c =
    let here : note_at plain_form (drop c.loop-number.at c.args.notes.now) ≡ End c.args.used = is_end c.loop-number.invariant _ c.read_note.ensures c.in_default.not-Field in
    omega (arith, (walked_end c.loop-number.invariant here c.put_named.ensures.size c.put_named.ensures.writes).0, lines_room (opened_of c.requires.short c.requires.read c.requires.room))

pub shape_of-text : goal.shape_of-text
shape_of-text c =
    let begun = begun_of (opened_of c.requires.short c.requires.read c.requires.room) c.put_mti-written.ensures.size c.put_mti-written.ensures.writes in
    let headed = headed_of begun c.put_named-written.ensures.size c.put_named-written.ensures.writes in
    let here : note_at plain_form (drop c.loop-number.at c.args.notes.now) ≡ End c.args.used = is_end c.loop-number.invariant _ c.read_note.ensures c.in_default.not-Field in
    as_long _ _ _ (walked_end c.loop-number.invariant here c.put_named.ensures.size c.put_named.ensures.writes).1 c.loop-number.invariant.room ∙ headed_size headed

pub returns : goal.returns
returns c =
    let begun = begun_of (opened_of c.requires.short c.requires.read c.requires.room) c.put_mti-written.ensures.size c.put_mti-written.ensures.writes in
    let headed = headed_of begun c.put_named-written.ensures.size c.put_named-written.ensures.writes in
    let here : note_at plain_form (drop c.loop-number.at c.args.notes.now) ≡ End c.args.used = is_end c.loop-number.invariant _ c.read_note.ensures c.in_default.not-Field in
    let e = walked_end c.loop-number.invariant here c.put_named.ensures.size c.put_named.ensures.writes in
    record { size = e.0; writes = e.1 ∙ headed_over headed }
