-- The byte and the side as the class has them: two parts, the second in the rest of the output.
use mathlib.Core.Path.{refl}
use lib.ListN.{replicate, length-replicate}
use native.Mathlib.Omega.{arith}
use Rattle.field_write.proofs.Cleaned.{padded_length}
use Rattle.field_write.proofs.Padding.{padded_left, padded_right}
use Rattle.field_write.proofs.Writing.{none_placed, both_placed}
use Rattle.field_write.proofs.put_padded.Goals as goal

pub returns-then-not-have_room : goal.returns-then-not-have_room
returns-then-not-have_room c = none_placed _ _ _ (padded_length c.args.class _ _) _ c.have_room.ensures c.if-not-have_room.true

pub returns-then-pads_left : goal.returns-then-pads_left
returns-then-pads_left c =
    padded_left _ _ _ _ _ _ _ c.pad_byte-b.ensures c.pads_left.ensures c.if-pads_left.true
    (both_placed (replicate c.args.pad c.pad_byte-b.result) c.args.content.now _ _ _ (length-replicate _ _) refl (omega (arith, c.have_room.ensures.0 c.if-not-have_room.false)) _ _ c.fill.ensures c.put.ensures)

pub returns-else-pads_left : goal.returns-else-pads_left
returns-else-pads_left c =
    padded_right _ _ _ _ _ _ _ c.pad_byte-b.ensures c.pads_left.ensures c.if-pads_left.false
    (both_placed c.args.content.now (replicate c.args.pad c.pad_byte-b.result) _ _ _ refl (length-replicate _ _) (c.have_room.ensures.0 c.if-not-have_room.false) _ _ c.put-else-pads_left.ensures c.fill-else-pads_left.ensures)
