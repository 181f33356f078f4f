-- The head is laid first, then the fields behind it, then the end.
use mathlib.Core.Path.{◌≡◌, sym, ap, ◌∙◌}
use mathlib.Core.List.{List, ◌++◌}
use Prim.Native.Nat.{ℕ, ◌+◌, ◌*◌}
use lib.ListN.{length, take, drop, length-append}
use lib.Seq.{length-take-le}
use Rattle.octets.specs.Lists.{lay}
use Rattle.field_table.specs.Codes.{decoded}
use mathlib.Core.List.{append_assoc}
use Rattle.octets.proofs.Lists.{placed_fits}
use Rattle.octets.proofs.Parts.{lay_part, placed_part}
use Rattle.message_language.specs.Language.{Entry}
use Rattle.message_notes.specs.Dialect.{plain_form, head_size, dialect}
use Rattle.message_notes.specs.Notes.{head_note, end_note, field_notes, notes_of}
use Rattle.message_notes.proofs.Sizes.{head_long, end_long}
use Rattle.message_reader.specs.Reader.{entries_of, reading_with}
use Rattle.message_reader.proofs.Noting.{body_is, entries_are, listed_few, written_few}
use native.Mathlib.Omega.{arith}
use Rattle.message_reader.proofs.write_notes.Goals as goal

pub slice_bounds-put_head-end : goal.slice_bounds-put_head-end
slice_bounds-put_head-end c = sym (length-take-le 4 c.args.message.now (omega arith))

pub overflow_mul-bitmaps : goal.overflow_mul-bitmaps
overflow_mul-bitmaps c = omega (arith, c.requires.few)

pub overflow_add-bitmaps : goal.overflow_add-bitmaps
overflow_add-bitmaps c = omega (arith, c.requires.few)

pub write_fields-written-requires : goal.write_fields-written-requires
write_fields-written-requires c = let t = decoded c.args.table.now in
    record {
      start_in_bounds = c.requires.whole;
      room = omega (arith, listed_few (dialect t) _ _ (omega arith) c.requires.few _ c.requires.listed, c.notes-1.given, c.requires.room);
      read = (_, body_is t _ _ _ c.requires.listed ∙ c.requires.read);
    }

pub overflow_add-end : goal.overflow_add-end
overflow_add-end c = omega (arith, written_few (decoded c.args.table.now) c.args.message.now c.args.fields.now c.args.bitmaps c.requires.listed _ c.requires.few c.write_fields-written.ensures.size)

pub slice_bounds-put_end-count : goal.slice_bounds-put_end-count
slice_bounds-put_end-count c =
    let few = written_few (decoded c.args.table.now) c.args.message.now c.args.fields.now c.args.bitmaps c.requires.listed _ c.requires.few c.write_fields-written.ensures.size in
    omega (arith, few, c.notes-2-1.given, c.notes-1.given, c.requires.room)

pub slice_bounds-put_end-start : goal.slice_bounds-put_end-start
slice_bounds-put_end-start c =
    let few = written_few (decoded c.args.table.now) c.args.message.now c.args.fields.now c.args.bitmaps c.requires.listed _ c.requires.few c.write_fields-written.ensures.size in
    omega (arith, few, c.notes-2-1.given, c.notes-1.given, c.requires.room)

pub returns : goal.returns
unfolding notes_of reading_with
returns c =
    let few = written_few (decoded c.args.table.now) c.args.message.now c.args.fields.now c.args.bitmaps c.requires.listed _ c.requires.few c.write_fields-written.ensures.size in
    let t = decoded c.args.table.now in
    let h = head_note (take 4 c.args.message.now) c.args.bitmaps in
    let n = field_notes plain_form (entries_of t (4 + 8 * c.args.bitmaps) c.args.fields.now (drop (4 + 8 * c.args.bitmaps) c.args.message.now)) in
    let u = end_note c.args.used in
    let l : length h ≡ head_size = head_long (take 4 c.args.message.now) c.args.bitmaps ∙ omega (arith, length-take-le 4 c.args.message.now (omega (arith, c.requires.whole))) in
    let e1 = c.put_head.ensures ∙ placed_fits h c.args.notes.now head_size l (omega (arith, c.requires.room)) in
    let e2 = lay_part h n c.args.notes.now _ _ head_size e1 l c.write_fields-written.ensures.writes in
    placed_part (h ++ n) u c.args.notes.now _ _ _ e2 (omega (arith, length-append h n)) (omega (arith, end_long c.args.used, few, c.requires.room)) c.put_end.ensures
    ∙ ap (λ (x : List ℕ). lay x c.args.notes.now) (append_assoc h n u)
    ∙ ap (λ (es : List Entry). lay (h ++ (field_notes plain_form es ++ u)) c.args.notes.now) (entries_are t c.args.message.now c.args.fields.now c.args.bitmaps c.requires.listed)
