-- The fields of the bitmaps are listed and read; one law for each end, in Answers, over the table that is lent.
use mathlib.Core.Path.{sym, ◌∙◌}
use native.Mathlib.Omega.{arith}
use Rattle.field_table.specs.Codes.{decoded}
use Rattle.message_reader.proofs.Answers.{head_few, head_room, ends_refused, ends_read, ends_passed}
use Rattle.message_reader.proofs.Noting.{list_is, body_is}
use Rattle.message_reader.proofs.read_by.Goals as goal

pub overflow_mul-start : goal.overflow_mul-start
overflow_mul-start c = omega (arith, head_few _ _ _ c.requires.headed (omega arith))

pub overflow_add-start : goal.overflow_add-start
overflow_add-start c = omega (arith, head_few _ _ _ c.requires.headed (omega arith))

pub slice_bounds-list_fields-end : goal.slice_bounds-list_fields-end
slice_bounds-list_fields-end c = omega (arith, head_room _ _ _ c.requires.headed (omega arith))

pub read_fields-requires : goal.read_fields-requires
read_fields-requires c = head_room _ _ _ c.requires.headed (omega arith)

pub write_notes-requires : goal.write_notes-requires
write_notes-requires c =
    let listed = c.as_slice-fields.ensures ∙ list_is _ _ _ (head_few _ _ _ c.requires.headed (omega arith)) c.list_fields-list.ensures in
    record {
      few = head_few _ _ _ c.requires.headed (omega arith);
      whole = head_room _ _ _ c.requires.headed (omega arith);
      listed = listed;
      room = c.requires.room;
      read = sym (c.read_fields.ensures ∙ body_is (decoded c.args.table.now) _ _ _ listed) ∙ c.in_ok-used.was;
    }

pub returns-in_err-used : goal.returns-in_err-used
returns-in_err-used c =
    let listed = c.as_slice-fields.ensures ∙ list_is _ _ _ (head_few _ _ _ c.requires.headed (omega arith)) c.list_fields-list.ensures in
    let read = sym (c.read_fields.ensures ∙ body_is (decoded c.args.table.now) _ _ _ listed) ∙ c.in_err-used.was in
    let e = ends_passed c.from_residual.ensures.1 (ends_refused _ _ _ c.requires.room _ _ c.requires.headed read) in
    record { answers = e.answer; writes = e.notes }

pub returns : goal.returns
returns c =
    let listed = c.as_slice-fields.ensures ∙ list_is _ _ _ (head_few _ _ _ c.requires.headed (omega arith)) c.list_fields-list.ensures in
    let read = sym (c.read_fields.ensures ∙ body_is (decoded c.args.table.now) _ _ _ listed) ∙ c.in_ok-used.was in
    let e = ends_read _ _ _ c.requires.room _ _ _ c.requires.headed read c.write_notes.ensures in
    record { answers = e.answer; writes = e.notes }
