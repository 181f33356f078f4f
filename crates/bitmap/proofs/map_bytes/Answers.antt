-- The first i bytes are made, and all of them are bytes.
use mathlib.Core.Path.{refl}
use native.Mathlib.Omega.{arith}
use Rattle.octets.specs.Lists.{between}
use Rattle.octets.proofs.Lists.{laid_none, laid_step, is_between}
use Rattle.bitmap.proofs.ByBits.{all_set, maps_done}
use Rattle.bitmap.proofs.Maps.{maps_length, maps_at}
use Rattle.bitmap.proofs.map_bytes.Goals as goal

pub loop-i-init : goal.loop-i-init
unfolding between
loop-i-init c = (laid_none _ _, refl)

pub loop-i-preserved : goal.loop-i-preserved
loop-i-preserved c = (
  laid_step _ _ _ _ _ c.loop-i.invariant.0 (omega (arith, maps_length c.args.count c.args.bits)) (omega arith) (maps_at _ _ _ _ (omega arith) c.map_byte.ensures),
  all_set (between 0 255) _ _ _ c.loop-i.invariant.1 (is_between 0 255 _ (omega arith) (omega (arith, c.map_byte.type_inv))),
)

pub returns : goal.returns
returns c = record { made = maps_done _ _ c.requires _ _ c.loop-i.invariant.0 c.loop-i.auto.i-end c.loop-i-test.false; bytes = c.loop-i.invariant.1 }
