-- Two parts, the second in the rest of the output.
use mathlib.Core.Path.{refl}
use lib.ListN.{length}
use Rattle.octets.specs.Numbers.{decimal}
use Rattle.octets.proofs.Numbers.{digits_length}
use Rattle.field_write.proofs.Writing.{none_placed, both_long, both_placed}
use Rattle.field_write.proofs.put_counted.Goals as goal

pub returns-then-have_room : goal.returns-then-have_room
returns-then-have_room c = both_placed (decimal c.args.width (length c.args.content.now)) c.args.content.now _ _ _ (digits_length _ _ _ _) refl (c.have_room.ensures.0 c.if-have_room.true) _ _ c.put_decimal.ensures c.put.ensures

pub returns-else-have_room : goal.returns-else-have_room
returns-else-have_room c =
    none_placed _ _ _ (both_long (decimal c.args.width (length c.args.content.now)) c.args.content.now c.args.out.now _ _ (digits_length _ _ _ _) refl) _ c.have_room.ensures c.if-have_room.false
