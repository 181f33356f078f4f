-- MTI, bitmaps and fields are laid one behind the other (`message_written`). The bounds of the parts need nothing of the bytes:
-- the output stays as long as it was.
use mathlib.Core.Path.{◌∙◌}
use native.Mathlib.Omega.{arith}
use Rattle.message_write.proofs.Ends.{asked_head, asked_room, made_long, message_written}
use Rattle.message_write.proofs.write_message.Goals as goal

pub overflow_mul-size : goal.overflow_mul-size
overflow_mul-size c =
    let few = asked_room c.requires.asked c.count_in-count.ensures c.requires.room in
    omega (arith, few)

pub overflow_add-start : goal.overflow_add-start
overflow_add-start c =
    let few = asked_room c.requires.asked c.count_in-count.ensures c.requires.room in
    omega (arith, few)

pub slice_bounds-put-end : goal.slice_bounds-put-end
slice_bounds-put-end c =
    let few = asked_room c.requires.asked c.count_in-count.ensures c.requires.room in
    omega (arith, few, made_long _ _ _ (c.to_bytes-maps.ensures ∙ c.of.ensures.bytes) (omega arith))

pub slice_bounds-put-count-2 : goal.slice_bounds-put-count-2
slice_bounds-put-count-2 c =
    let few = asked_room c.requires.asked c.count_in-count.ensures c.requires.room in
    omega (arith, few, c.out-1.given)

pub slice_bounds-put-start-2 : goal.slice_bounds-put-start-2
slice_bounds-put-start-2 c =
    let few = asked_room c.requires.asked c.count_in-count.ensures c.requires.room in
    omega (arith, few, c.out-1.given)

pub slice_bounds-write_body-count : goal.slice_bounds-write_body-count
slice_bounds-write_body-count c =
    let few = asked_room c.requires.asked c.count_in-count.ensures c.requires.room in
    omega (arith, few, c.out-1.given, c.out-2-1.given)

pub slice_bounds-write_body-start : goal.slice_bounds-write_body-start
slice_bounds-write_body-start c =
    let few = asked_room c.requires.asked c.count_in-count.ensures c.requires.room in
    omega (arith, few, c.out-1.given, c.out-2-1.given)

pub write_body-requires : goal.write_body-requires
write_body-requires c =
    let few = asked_room c.requires.asked c.count_in-count.ensures c.requires.room in
    record {
      head = (asked_head c.requires.asked).whole;
      clean = c.requires.asked.clean;
      room = omega (arith, few, c.out-1.given, c.out-2-1.given, c.write_body-arg-1.given.1);
    }

pub returns : goal.returns
returns c = message_written c.requires.asked c.count_in-count.result c.count_in-count.ensures _ c.mti_in.ensures.bytes _ (c.to_bytes-maps.ensures ∙ c.of.ensures.bytes)
    _ _ _ _
    c.requires.room
    c.put.ensures
    c.put-2.ensures
    c.write_body.ensures
