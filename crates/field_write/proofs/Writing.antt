-- A writer that tests whether two parts fit and then writes them one behind the other: its ends, with the facts as the code has them.
-- Assumes nothing.
use Prim.Native.Nat.{ℕ, ◌+◌, ◌-◌, ◌≤◌}
use mathlib.Core.Path.{◌≡◌, sym, ◌∙◌}
use mathlib.Core.Bool.{Bool, true, false}
use mathlib.Core.List.{List, ◌++◌}
use native.Mathlib.Omega.{arith}
use lib.ListN.{length, length-append}
use Rattle.std.proofs.Common.{IsTrue, ◌↔◌}
use borrow.Rule.Slice.PartMut.{mid_of, put_mid}
use Rattle.octets.specs.Lists.{placed}
use Rattle.octets.proofs.Cases.{by_le}
use Rattle.octets.proofs.Lists.{placed_short, placed_fits}
use Rattle.octets.proofs.Parts.{placed_part}

-- where there is no room for the n bytes of r
pub none_placed : (r d : List ℕ) (n : ℕ) → length r ≡ n → (flag : Bool) → IsTrue flag ↔ (n ≤ length d) → flag ≡ false → d ≡ placed r d
none_placed r d n long flag room t =
    by_le n (length d)
    (λ h. let y : flag ≡ true = room.1 h in cc)
    (λ h. placed_short r d n long h)

-- a is n bytes long, and b is k bytes long
module _ (a b d : List ℕ) (n k : ℕ) (first : length a ≡ n) (second : length b ≡ k) where
  pub both_long : length (a ++ b) ≡ n + k
  both_long = omega (arith, length-append a b)

  -- e is the output once a is placed, and f its rest once b is placed there
  pub both_placed : n + k ≤ length d → (e f : List ℕ) → e ≡ placed a d → f ≡ placed b (mid_of n (length e - n) e) → put_mid n (length e - n) e f ≡ placed (a ++ b) d
  both_placed h e f one two =
      placed_part a b d e f n (one ∙ placed_fits a d n first (omega arith)) first (omega arith) two
      ∙ sym (placed_fits (a ++ b) d (n + k) both_long h)
