-- One law for each end, in Answers, over the table that is lent.
use mathlib.Core.Path.{refl, sym, ap}
use native.Mathlib.Omega.{arith}
use lib.ListN.{length}
use Rattle.field_table.specs.Codes.{decoded}
use Rattle.bitmap.proofs.Fields.{fields_few}
use Rattle.bitmap_read.specs.Found.{maps_of}
use Rattle.packed_field.specs.Scripts.{size_of}
use Rattle.packed_link.proofs.Heads.{mti_small, head_few, head_room, list_is}
use Rattle.refusal.proofs.Conversions.{room_fits}
use Rattle.packed_link.proofs.Answers.{ends_head, ends_refused, ends_short, ends_done, body_said}
use Rattle.packed_link.proofs.Link.translate.Goals as goal

pub returns-in_err-bitmaps : goal.returns-in_err-bitmaps
returns-in_err-bitmaps c = let e = ends_head _ _ _ _ _ c.from_residual.ensures.1 c.in_err-bitmaps.ensures in
    record { answers = e.answer; writes = e.output }

pub overflow_mul-maps : goal.overflow_mul-maps
overflow_mul-maps c = omega (arith, head_few _ _ _ _ (omega arith) (sym c.in_ok-bitmaps.ensures))

pub overflow_add-end : goal.overflow_add-end
overflow_add-end c = omega (arith, head_few _ _ _ _ (omega arith) (sym c.in_ok-bitmaps.ensures), mti_small c.args.self.now.script, c.size_of-start.ensures)

pub slice_bounds-list_fields-end : goal.slice_bounds-list_fields-end
slice_bounds-list_fields-end c = omega (arith, head_room _ _ _ _ (omega arith) (sym c.in_ok-bitmaps.ensures), c.size_of-start.ensures)

pub overflow_add-before : goal.overflow_add-before
overflow_add-before c = omega (arith, head_few _ _ _ _ (omega arith) (sym c.in_ok-bitmaps.ensures), mti_small c.other.result, c.size_of.ensures)

pub judge_fields-requires : goal.judge_fields-requires
judge_fields-requires c =
    let few = head_few _ _ _ _ (omega arith) (sym c.in_ok-bitmaps.ensures) in
    record {
      start_in_bounds = omega (arith, head_room _ _ _ _ (omega arith) (sym c.in_ok-bitmaps.ensures), c.size_of-start.ensures);
      before_bound = omega (arith, few, mti_small c.other.result, c.size_of.ensures);
      few = omega (arith, few, ap length (list_is _ _ _ _ _ _ (sym c.in_ok-bitmaps.ensures) c.size_of-start.ensures c.list_fields-list.ensures c.as_slice-fields.ensures), fields_few (maps_of (size_of c.args.self.now.script 4) c.args.input.now c.in_ok-bitmaps.bitmaps) c.in_ok-bitmaps.bitmaps 3 (omega arith) few);
    }

pub returns-in_err-judged : goal.returns-in_err-judged
returns-in_err-judged c =
    let listed = list_is _ _ _ _ _ _ (sym c.in_ok-bitmaps.ensures) c.size_of-start.ensures c.list_fields-list.ensures c.as_slice-fields.ensures in
    let e = ends_refused _ _ _ _ _ _ (sym c.in_ok-bitmaps.ensures) c.from_residual-in_err-judged.ensures.1 (body_said _ (decoded c.args.self.now.table.now) _ _ _ listed _ _ _ _ c.size_of-start.ensures c.other.ensures c.size_of.ensures c.in_err-judged.ensures) in
    record { answers = e.answer; writes = e.output }

pub returns-in_err-check_room : goal.returns-in_err-check_room
returns-in_err-check_room c =
    let listed = list_is _ _ _ _ _ _ (sym c.in_ok-bitmaps.ensures) c.size_of-start.ensures c.list_fields-list.ensures c.as_slice-fields.ensures in
    let e = ends_short _ _ _ _ _ _ (sym c.in_ok-bitmaps.ensures) _ (body_said _ (decoded c.args.self.now.table.now) _ _ _ listed _ _ _ _ c.size_of-start.ensures c.other.ensures c.size_of.ensures c.in_ok-judged.ensures) c.from_residual-in_err-check_room.ensures.1 c.in_err-check_room.ensures in
    record { answers = e.answer; writes = e.output }

pub write_message-requires : goal.write_message-requires
write_message-requires c =
    let listed = list_is _ _ _ _ _ _ (sym c.in_ok-bitmaps.ensures) c.size_of-start.ensures c.list_fields-list.ensures c.as_slice-fields.ensures in
    record {
      headed = (sym c.in_ok-bitmaps.ensures);
      listed = listed;
      judged = (_, ((body_said _ (decoded c.args.self.now.table.now) _ _ _ listed _ _ _ _ c.size_of-start.ensures c.other.ensures c.size_of.ensures c.in_ok-judged.ensures), room_fits _ _ c.in_ok-check_room.ensures));
    }

pub returns : goal.returns
returns c =
    let listed = list_is _ _ _ _ _ _ (sym c.in_ok-bitmaps.ensures) c.size_of-start.ensures c.list_fields-list.ensures c.as_slice-fields.ensures in
    let e = ends_done _ _ _ _ _ _ (sym c.in_ok-bitmaps.ensures) _ (body_said _ (decoded c.args.self.now.table.now) _ _ _ listed _ _ _ _ c.size_of-start.ensures c.other.ensures c.size_of.ensures c.in_ok-judged.ensures) refl (room_fits _ _ c.in_ok-check_room.ensures) _ c.write_message.ensures in
    record { answers = e.answer; writes = e.output }
