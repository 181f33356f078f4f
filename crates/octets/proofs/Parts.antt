-- Writing on from where an output ends: the laws of `&mut out[n..]`. Assumes nothing.
use Prim.Native.Nat.{ℕ, suc, ◌+◌, ◌-◌, ◌≤◌, ◌<◌}
use mathlib.Core.Path.{◌≡◌, refl, sym, ap, ◌∙◌}
use mathlib.Core.List.{List, [], ◌∷◌, ◌++◌, append_assoc, append-nil}
use native.Mathlib.Omega.{arith}
use native.Mathlib.Numerals.{add-one}
use lib.ListN.{length, take, drop, get_or, set, length-set, length-append, length-take, length-drop, take-append-drop, drop_of_length-le}
use lib.Seq.{take-append_seam, drop-append_seam, take_all, drop-cons, drop-drop, drop-set-lt, take-suc-set, take_at, drop_at, set_at}
use borrow.Rule.Slice.PartMut.{mid_of, put_mid}
use Rattle.octets.specs.Lists.{lay, placed}
use Rattle.octets.proofs.Fronts.{lay_length}
use Rattle.octets.proofs.Lists.{placed_fits}

-- a part to the end
pub to_end : (n : ℕ) (s : List ℕ) → take (length s - n) (drop n s) ≡ drop n s
to_end n s = take_all (length s - n) (drop n s) (omega (arith, length-drop n s))

-- what `&mut out[n..]` lends is the rest, and what comes back stands after the front
pub part_rest : (n : ℕ) (e : List ℕ) → mid_of n (length e - n) e ≡ drop n e
part_rest n e = to_end n e

pub part_back : (n : ℕ) (e f : List ℕ) → put_mid n (length e - n) e f ≡ take n e ++ f
part_back n e f = rw (drop_of_length-le (drop n e) {i = length e - n} (omega (arith, length-drop n e)), append-nil)

-- a at the front, then b in the rest: a ++ b at the front
lay_on : (a b d e o : List ℕ) (n : ℕ) → e ≡ lay a d → length a ≡ n → o ≡ take n e ++ lay b (drop n e) → o ≡ lay (a ++ b) d
unfolding lay
lay_on a b d e o n he hn ho =
    ho ∙ rw (he, ← hn, take-append_seam, drop-append_seam, append_assoc, length-append, drop-drop)

-- the same as the code has it: e is the output once a is written, and f the rest once b is written there
pub lay_part : (a b d e f : List ℕ) (n : ℕ) → e ≡ lay a d → length a ≡ n → f ≡ lay b (mid_of n (length e - n) e) → put_mid n (length e - n) e f ≡ lay (a ++ b) d
lay_part a b d e f n he hn hf =
    lay_on a b d e _ n he hn (part_back n e f ∙ ap (λ (l : List ℕ). take n e ++ l) (hf ∙ ap (lay b) (part_rest n e)))

-- the first byte stored
pub lay_one : (x : ℕ) (d : List ℕ) → 0 < length d → set d 0 x ≡ lay (x ∷ []) d
unfolding lay
lay_one x [] h = absurd (omega arith)
lay_one x (y ∷ d) h = refl

-- a at the front, then a byte stored behind it
pub lay_byte : (a d e : List ℕ) (n x : ℕ) → e ≡ lay a d → length a ≡ n → n < length d → set e n x ≡ lay (a ++ (x ∷ [])) d
unfolding lay
lay_byte a d e n x he hn h =
    rw (he, drop-cons d (length a) 0 (omega arith), length-append a (x ∷ []), ← drop-drop 1 (length a) d, drop-cons d (length a) 0 (omega arith))
    (set_at a (get_or d (length a) 0) (drop (suc (length a)) d) x n hn ∙ sym (append_assoc a (x ∷ []) (drop (suc (length a)) d)))

-- as the code has it, where the writer of the rest tests by itself whether b fits
pub placed_part : (a b d e f : List ℕ) (n : ℕ) → e ≡ lay a d → length a ≡ n → n + length b ≤ length d → f ≡ placed b (mid_of n (length e - n) e)
    → put_mid n (length e - n) e f ≡ lay (a ++ b) d
placed_part a b d e f n he hn room hf =
    let l : length e ≡ length d = ap length he ∙ lay_length a d (omega arith) in
    let m : length (mid_of n (length e - n) e) ≡ length e - n = ap length (part_rest n e) ∙ length-drop n e in
    lay_part a b d e f n he hn (hf ∙ placed_fits b (mid_of n (length e - n) e) (length b) refl (omega arith))

-- A writing loop: the output o has been written up to `at`. What stands there and what is still to come make the whole,
-- and what lies behind is as it was in d.
pub record Written (whole d o rest : List ℕ) (at : ℕ) : Type 0 where
  pub front : take at o ++ rest ≡ whole
  pub back : drop at o ≡ drop at d
  pub size : length o ≡ length d
  pub within : at ≤ length o

pub written_none : (whole d : List ℕ) → Written whole d d whole 0
written_none whole d = record { front = refl; back = refl; size = refl; within = omega arith }

pub written_room : (whole d o rest : List ℕ) (at : ℕ) → Written whole d o rest at → at + length rest ≡ length whole
written_room whole d o rest at w = omega (arith, simp (length-append, length-take) at (ap length w.front), w.within)

module _ (whole d o r rest : List ℕ) (at : ℕ) (w : Written whole d o (r ++ rest) at) (room : at + length r ≤ length o) where
  grown : List ℕ
  grown = take at o ++ lay r (drop at o)

  parts : grown ≡ (take at o ++ r) ++ drop (at + length r) d
  unfolding grown lay
  parts = rw (append_assoc, drop-drop (length r) at o, ← drop-drop (length r) at o, w.back, drop-drop (length r) at d)

  front_length : length (take at o ++ r) ≡ at + length r
  front_length = let h = w.within in simp (length-append, length-take) (omega arith)

  grown_written : Written whole d grown rest (at + length r)
  grown_written =
      let h = w.within in
      let s = w.size in
      let l : length grown ≡ length d =
      ap length parts ∙ length-append (take at o ++ r) (drop (at + length r) d) ∙ omega (arith, front_length, length-drop (at + length r) d) in
      record {
        front =
            ap (λ (x : List ℕ). take (at + length r) x ++ rest) parts
            ∙ ap (λ (x : List ℕ). x ++ rest) (take_at (take at o ++ r) (drop (at + length r) d) (at + length r) front_length)
            ∙ append_assoc (take at o) r rest ∙ w.front;
        back = ap (drop (at + length r)) parts ∙ drop_at (take at o ++ r) (drop (at + length r) d) (at + length r) front_length;
        size = l;
        within = omega arith;
      }

-- as the code has it: a writer was lent the rest of o, and placed r at its front
pub written_more : (whole d o old r rest f : List ℕ) (at k : ℕ) → Written whole d o old at → old ≡ r ++ rest → length r ≡ k → at + k ≤ length o
    → f ≡ placed r (mid_of at (length o - at) o) → Written whole d (put_mid at (length o - at) o f) rest (at + k)
unfolding grown
written_more whole d o old r rest f at k w he hk room hf =
    let m : length (mid_of at (length o - at) o) ≡ length o - at = ap length (part_rest at o) ∙ length-drop at o in
    let p : f ≡ lay r (mid_of at (length o - at) o) = hf ∙ placed_fits r (mid_of at (length o - at) o) k hk (omega arith) in
    rw (part_back at o f, p, part_rest at o, ← hk) (grown_written whole d o r rest at (rw he at w) (omega arith))

-- one byte stored
pub written_byte : (whole d o rest : List ℕ) (at x : ℕ) → Written whole d o (x ∷ rest) at → at < length o → Written whole d (set o at x) rest (at + 1)
written_byte whole d o rest at x w room =
    record {
      front = rw (add-one, take-suc-set o at x room, append_assoc) w.front;
      back = drop-set-lt (at + 1) o at x (omega arith) ∙ sym (drop-drop 1 at o) ∙ ap (drop 1) w.back ∙ drop-drop 1 at d;
      size = length-set o at x ∙ w.size;
      within = omega (arith, length-set o at x);
    }

pub written_end : (whole d o rest : List ℕ) (at : ℕ) → Written whole d o rest at → rest ≡ [] → (at ≡ length whole) × (o ≡ lay whole d)
unfolding lay
written_end whole d o rest at w e =
    let v = rw e at w in
    let n : at ≡ length whole = omega (arith, written_room whole d o [] at v) in
    (n, sym (take-append-drop at o) ∙ rw (v.back, ← append-nil (take at o), v.front, n))
