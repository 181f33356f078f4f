-- The kind is stored, then the MTI and the count are laid behind it.
use mathlib.Core.Path.{refl}
use mathlib.Core.List.{[], ◌∷◌}
use Prim.Native.Nat.{◌+◌}
use lib.ListN.{length, set}
use Rattle.octets.specs.Numbers.{big_endian}
use Rattle.octets.proofs.Lists.{placed_short, placed_done}
use Rattle.octets.proofs.Parts.{lay_one, placed_part}
use Rattle.message_notes.specs.Notes.{head_note}
use Rattle.message_notes.proofs.Sizes.{bytes_long, head_long}
use native.Mathlib.Omega.{arith}
use Rattle.message_notes.proofs.put_head.Goals as goal

pub returns-then-saturating_sub-lt2 : goal.returns-then-saturating_sub-lt2
returns-then-saturating_sub-lt2 c = placed_short _ _ _ (head_long _ _) (omega arith)

pub returns : goal.returns
unfolding head_note
returns c = let n = big_endian 1 c.args.count in
    let n1 = bytes_long 1 c.args.count in
    let e1 = placed_part (1 ∷ []) c.args.mti.now c.args.out.now (set c.args.out.now 0 1) _ 1 (lay_one 1 c.args.out.now (omega arith)) refl (omega arith) c.put.ensures in
    let e2 = placed_part (1 ∷ c.args.mti.now) n c.args.out.now _ _ (1 + length c.args.mti.now) e1 (omega arith) (omega arith) c.put_big_endian.ensures in
    placed_done _ c.args.out.now _ (head_long c.args.mti.now c.args.count) _ (omega arith) e2
