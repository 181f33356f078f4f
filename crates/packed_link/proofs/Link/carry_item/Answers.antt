-- The length digits are laid first, then the content behind them (Items).
use mathlib.Core.Path.{sym}
use native.Mathlib.Omega.{arith}
use lib.Seq.{length-take-le}
use Rattle.packed_link.proofs.Items.{item_within, first_left, content_asked, item_carried_lem}
use Rattle.packed_link.proofs.Link.carry_item.Goals as goal

pub slice_bounds-carry-end : goal.slice_bounds-carry-end
slice_bounds-carry-end c = sym (length-take-le _ c.args.rest.now (omega (arith, item_within _ _ _ _ _ c.requires.judged)))

pub overflow_add-end : goal.overflow_add-end
overflow_add-end c = omega (arith, item_within _ _ _ _ _ c.requires.judged)

pub slice_bounds-carry_content-end : goal.slice_bounds-carry_content-end
slice_bounds-carry_content-end c = omega (arith, item_within _ _ _ _ _ c.requires.judged)

pub slice_bounds-carry_content-count-2 : goal.slice_bounds-carry_content-count-2
slice_bounds-carry_content-count-2 c = omega (
  arith,
  (first_left _ _ _ _ _ c.requires.judged _ _ _ _ c.width_in-width.ensures.value
      c.other.ensures c.size_of-first.ensures c.class_in-class.ensures),
  c.requires.room,
  c.out-1.given,
)

pub slice_bounds-carry_content-start-2 : goal.slice_bounds-carry_content-start-2
slice_bounds-carry_content-start-2 c = omega (
  arith,
  (first_left _ _ _ _ _ c.requires.judged _ _ _ _ c.width_in-width.ensures.value
      c.other.ensures c.size_of-first.ensures c.class_in-class.ensures),
  c.requires.room,
  c.out-1.given,
)

pub carry_content-requires : goal.carry_content-requires
carry_content-requires c = let q = content_asked _ _ _ _ _ c.requires.judged _ c.class_in-class.ensures in
    record {
      good = q.0;
      whole = q.1;
      room = omega (
        arith,
        (first_left _ _ _ _ _ c.requires.judged _ _ _ _ c.width_in-width.ensures.value
            c.other.ensures c.size_of-first.ensures c.class_in-class.ensures),
        c.requires.room,
        c.out-1.given,
        c.carry_content-arg-2-1.given,
      );
    }

pub returns : goal.returns
returns c = item_carried_lem _ _ _ _ _ c.requires.judged _ _ _ _ _ _ _ c.requires.room c.width_in-width.ensures.value
    c.other.ensures c.size_of-first.ensures c.class_in-class.ensures c.carry.ensures c.carry_content.ensures
