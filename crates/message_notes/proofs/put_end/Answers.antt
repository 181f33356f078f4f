-- The kind is stored, and the number laid behind it.
use mathlib.Core.Path.{refl}
use mathlib.Core.List.{[], ◌∷◌}
use lib.ListN.{set}
use Rattle.octets.specs.Numbers.{big_endian}
use Rattle.octets.proofs.Lists.{placed_short, placed_done}
use Rattle.octets.proofs.Parts.{lay_one, placed_part}
use Rattle.message_notes.specs.Notes.{end_note}
use Rattle.message_notes.proofs.Sizes.{bytes_long, end_long}
use native.Mathlib.Omega.{arith}
use Rattle.message_notes.proofs.put_end.Goals as goal

pub returns-then-out-lt-END_SIZE : goal.returns-then-out-lt-END_SIZE
returns-then-out-lt-END_SIZE c = placed_short _ _ _ (end_long _) c.if-out-lt-END_SIZE.true

pub returns : goal.returns
unfolding end_note
returns c = let e = placed_part (4 ∷ []) (big_endian 4 c.args.used) c.args.out.now (set c.args.out.now 0 4) _ 1 (lay_one 4 c.args.out.now (omega arith)) refl (omega (arith, bytes_long 4 c.args.used))
    c.put_big_endian.ensures in
    placed_done _ _ _ (end_long _) _ (omega arith) e
