-- The fields of a message, where they lie in the input: their entries pass the exact writer's walk, and their bytes are written again.
-- Assumes nothing.
use Prim.Native.Nat.{ℕ, ◌+◌, ◌≤◌}
use mathlib.Core.Path.{◌≡◌, refl, sym, ap, ◌∙◌}
use mathlib.Core.Bool.{true}
use mathlib.Core.List.{List, [], ◌∷◌, ◌++◌, append_assoc}
use native.Mathlib.Omega.{arith}
use lib.ListN.{length, length-append}
use Rattle.octets.specs.Numbers.{decimal}
use Rattle.field_table.specs.Table.{Table}
use Rattle.field_write.specs.Fields.{exact_fault}
use Rattle.field_write.proofs.Cleaned.{exact_unpadded}
use Rattle.message_language.specs.Language.{Item, Entry, entry, Fields, none, more}
use Rattle.message_contents.specs.Contents.{contents_in, numbers_in, number_allowed, spelt}
use Rattle.message_contents.proofs.Items.{item_exact, item_bytes, content_at}
use Rattle.message_contents.proofs.Made.{Rising, next}
use Rattle.message_walk.specs.Faults.{within}
use Rattle.message_walk.proofs.Within.{inside_passes}
use Rattle.message_walk.proofs.Written.{Walkable, none as walked_none, more as walked_more}

-- what the fields of a message are, in an input v
pub record Back (t : Table) (v : List ℕ) (m last : ℕ) (fs bs : List ℕ) (es : List Entry) : Type 0 where
  pub walk : Walkable (within v (exact_fault t)) m last es
  pub body : spelt t (contents_in v es) ≡ bs
  pub numbers : numbers_in (contents_in v es) ≡ fs

back_none : (t : Table) (v : List ℕ) (m last : ℕ) → Back t v m last [] [] []
unfolding spelt numbers_in contents_in
back_none t v m last = record { walk = walked_none; body = refl; numbers = refl }

-- where they stand at the place at, behind pre and before post
back_more : (t : Table) (v : List ℕ) (m last at f : ℕ) (fs ds c rest pre post : List ℕ) (es : List Entry) → number_allowed m last f ≡ true → Item t f ds c
    → length pre ≡ at → v ≡ pre ++ (ds ++ (c ++ (rest ++ post))) → Back t v m f fs rest es
    → Back t v m last (f ∷ fs) (ds ++ (c ++ rest)) (entry f (at + length ds) (length c) ∷ es)
unfolding spelt numbers_in contents_in
back_more t v m last at f fs ds c rest pre post es al i l e b =
    let k = content_at pre ds c (rest ++ post) v at l e in
    let x = item_exact t f ds c i in
    let spelled : decimal (t.width f) (length c) ++ c ≡ ds ++ c = sym (exact_unpadded t f c x) ∙ item_bytes t f ds c i in
    let long : at + length ds + length c ≤ length v = omega (arith, simp length-append at (ap length e)) in
    record {
      walk =
          walked_more {f = f} {a = at + length ds} {n = length c}
          (record { allowed = al; ruled = inside_passes v (exact_fault t) (entry f (at + length ds) (length c)) long (rw k x) })
          b.walk;
      body =
          rw (k, b.body)
          (sym (append_assoc (decimal (t.width f) (length c)) c rest) ∙ ap (λ (q : List ℕ). q ++ rest) spelled ∙ append_assoc ds c rest);
      numbers = ap (λ (q : List ℕ). f ∷ q) b.numbers;
    }

pub back : (t : Table) (v : List ℕ) (m : ℕ) {at : ℕ} {fs bs : List ℕ} {es : List Entry} → Fields t at fs bs es → (last : ℕ) → Rising m last fs
    → (pre post : List ℕ) → length pre ≡ at → v ≡ pre ++ (bs ++ post) → Back t v m last fs bs es
back t v m none last r pre post l e = back_none t v m last
back t v m (more {at = at} {f = f} {fs = fs} {bs = bs} {es = es} ds c rest i b g) last (next a r) pre post l e =
    let j : v ≡ pre ++ (ds ++ (c ++ (rest ++ post))) = e ∙ rw b (simp append_assoc) in
    let n : length (pre ++ (ds ++ c)) ≡ at + (length ds + length c) = simp length-append (omega arith) in
    rw b (back_more t v m last at f fs ds c rest pre post es a i l j (back t v m g f r (pre ++ (ds ++ c)) post n (j ∙ simp append_assoc)))
