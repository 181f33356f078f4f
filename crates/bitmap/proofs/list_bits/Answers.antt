-- The numbers written and those of the bits still to come make the whole (Listing); each turn takes the first bit from what is left.
use native.Mathlib.Omega.{arith}
use Rattle.bitmap.proofs.Listed.{listing_more, listing_end}
use Rattle.bitmap.proofs.list_bits.Goals as goal

pub loop-rest-preserved : goal.loop-rest-preserved
loop-rest-preserved c = listing_more _ _ _ _ _ _ c.loop-rest.invariant (λ z. omega arith) c.requires.room

pub returns : goal.returns
returns c = let r = listing_end _ _ _ _ _ _ c.loop-rest.invariant c.requires.room (omega arith) in record { count = r.0; writes = r.1 }
