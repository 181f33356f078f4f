-- MTI, bitmaps and fields are laid one behind the other (Writing).
use mathlib.Core.Path.{refl, sym}
use native.Mathlib.Omega.{arith}
use lib.Seq.{length-take-le}
use Rattle.field_table.specs.Codes.{decoded}
use Rattle.packed_link.proofs.Writing.{few, inside, fields_good, fields_room, message_written}
use Rattle.packed_link.proofs.Link.write_message.Goals as goal

pub overflow_mul-maps : goal.overflow_mul-maps
overflow_mul-maps c = omega (arith, few _ (decoded c.args.self.now.table.now) _ _ c.args.out.now _ c.requires.headed c.requires.listed _ c.size_of-start.ensures)

pub overflow_add-end : goal.overflow_add-end
overflow_add-end c = omega (arith, (inside _ (decoded c.args.self.now.table.now) _ _ c.args.out.now _ c.requires.headed c.requires.listed _ c.size_of-start.ensures))

pub slice_bounds-carry-end : goal.slice_bounds-carry-end
slice_bounds-carry-end c = sym (length-take-le _ c.args.input.now (omega (arith, (inside _ (decoded c.args.self.now.table.now) _ _ c.args.out.now _ c.requires.headed c.requires.listed _ c.size_of-start.ensures))))

pub slice_bounds-put-end : goal.slice_bounds-put-end
slice_bounds-put-end c = omega (arith, (inside _ (decoded c.args.self.now.table.now) _ _ c.args.out.now _ c.requires.headed c.requires.listed _ c.size_of-start.ensures))

pub slice_bounds-put-count-2 : goal.slice_bounds-put-count-2
slice_bounds-put-count-2 c = omega (arith, (fields_room _ (decoded c.args.self.now.table.now) _ _ c.args.out.now _ c.requires.headed c.requires.listed _ c.size_of-start.ensures _ c.other.ensures _ c.size_of-first.ensures _ c.requires.judged.1.0 c.requires.judged.1.1), c.out-1.given)

pub slice_bounds-put-start-2 : goal.slice_bounds-put-start-2
slice_bounds-put-start-2 c = omega (arith, (fields_room _ (decoded c.args.self.now.table.now) _ _ c.args.out.now _ c.requires.headed c.requires.listed _ c.size_of-start.ensures _ c.other.ensures _ c.size_of-first.ensures _ c.requires.judged.1.0 c.requires.judged.1.1), c.out-1.given)

pub overflow_add-behind : goal.overflow_add-behind
overflow_add-behind c = omega (arith, (fields_room _ (decoded c.args.self.now.table.now) _ _ c.args.out.now _ c.requires.headed c.requires.listed _ c.size_of-start.ensures _ c.other.ensures _ c.size_of-first.ensures _ c.requires.judged.1.0 c.requires.judged.1.1))

pub slice_bounds-write_fields-count : goal.slice_bounds-write_fields-count
slice_bounds-write_fields-count c = omega (arith, (fields_room _ (decoded c.args.self.now.table.now) _ _ c.args.out.now _ c.requires.headed c.requires.listed _ c.size_of-start.ensures _ c.other.ensures _ c.size_of-first.ensures _ c.requires.judged.1.0 c.requires.judged.1.1), c.out-2-1.given, c.out-1.given)

pub slice_bounds-write_fields-start : goal.slice_bounds-write_fields-start
slice_bounds-write_fields-start c = omega (arith, (fields_room _ (decoded c.args.self.now.table.now) _ _ c.args.out.now _ c.requires.headed c.requires.listed _ c.size_of-start.ensures _ c.other.ensures _ c.size_of-first.ensures _ c.requires.judged.1.0 c.requires.judged.1.1), c.out-2-1.given, c.out-1.given)

pub write_fields-requires : goal.write_fields-requires
write_fields-requires c = let g = fields_good _ _ _ _ c.args.out.now _ c.requires.headed c.requires.listed _ c.size_of-start.ensures _ c.other.ensures _ c.size_of-first.ensures _ c.requires.judged.1.0 c.requires.judged.1.1 in
    record {
      start_in_bounds = (inside _ (decoded c.args.self.now.table.now) _ _ c.args.out.now _ c.requires.headed c.requires.listed _ c.size_of-start.ensures);
      judged = (_, (_, g));
      room = omega (arith, (fields_room _ (decoded c.args.self.now.table.now) _ _ c.args.out.now _ c.requires.headed c.requires.listed _ c.size_of-start.ensures _ c.other.ensures _ c.size_of-first.ensures _ c.requires.judged.1.0 c.requires.judged.1.1), c.write_fields-arg-1.given, c.out-2-1.given, c.out-1.given);
    }

pub returns : goal.returns
returns c = message_written _ (decoded c.args.self.now.table.now) _ _ c.args.out.now _ c.requires.headed c.requires.listed _ c.size_of-start.ensures _ c.other.ensures _ c.size_of-first.ensures _ c.requires.judged.1.0 c.requires.judged.1.1 _ _ _
    c.carry.ensures c.put.ensures _ refl c.write_fields.ensures
