-- The loop that judges the fields fs of the input s, on plain values: the first is at start, with so much output before it; the loop has come
-- to the place at, to w bytes of output and to number i of the list. Assumes nothing.
use Prim.Native.Nat.{ℕ, ◌+◌, ◌-◌, ◌*◌, ◌≤◌, ◌<◌}
use mathlib.Core.Path.{◌≡◌, refl, sym, ap, ◌∙◌}
use mathlib.Core.List.{List, [], ◌∷◌}
use native.Mathlib.Omega.{arith}
use lib.ListN.{length, take, drop, get_or, length-drop, drop_of_length-le}
use lib.Seq.{drop-cons, drop-drop}
use native.Mathlib.Numerals.{add-one}
use Rattle.std.specs.Prelude.{Result, Ok, Err}
use Rattle.octets.proofs.Parts.{to_end}
use Rattle.refusal.specs.Refusals.{refusal}
use Rattle.refusal.specs.declared.Cause.{Cause}
use Rattle.refusal.specs.declared.Refusal.{Refusal}
use Rattle.field_table.specs.Codes.{decoded}
use Rattle.packed_field.specs.declared.Script.{Script}
use Rattle.packed_field.specs.declared.Item.{Item}
use Rattle.packed_field.specs.Items.{judge_item}
use Rattle.packed_link.specs.Link.{fields_judged}
use Rattle.packed_link.proofs.Items.{item_within, item_small}
use Rattle.packed_link.proofs.Fields.{fields_refused, fields_good}

-- A turn for the field f: judged at the place `at`, it gives o. The table is lent, as the codes cs.
pub record Met (S : Script) (cs s fs : List ℕ) (at i f : ℕ) (o : Result Item Cause) : Type 0 where
  pub here : drop i fs ≡ f ∷ drop (i + 1) fs
  pub gives : o ≡ judge_item S (decoded cs) f (drop at s)

pub met : (S : Script) (cs s fs : List ℕ) (at i f : ℕ) (o : Result Item Cause) → i < length fs → f ≡ get_or fs i 0
    → o ≡ judge_item S (decoded cs) f (take (length s - at) (drop at s)) → Met S cs s fs at i f o
met S cs s fs at i f o low e r =
    record { here = rw (e, add-one) (drop-cons fs i 0 low); gives = r ∙ ap (judge_item S (decoded cs) f) (to_end at s) }

-- Judging from the start is judging what is left from where the loop has come to.
pub record Scanned (S : Script) (cs s fs : List ℕ) (start before at w i : ℕ) : Type 0 where
  pub inside : at ≤ length s
  pub small : w ≤ before + 1026 * i
  pub whole : fields_judged S (decoded cs) start before fs (drop start s) ≡ fields_judged S (decoded cs) at w (drop i fs) (drop at s)

pub scan_first : {S : Script} {cs s fs : List ℕ} {start before : ℕ} → start ≤ length s → Scanned S cs s fs start before start before 0
scan_first h = record { inside = h; small = omega arith; whole = refl }

module _ {S : Script} {cs s fs : List ℕ} {start before at w i : ℕ} (c : Scanned S cs s fs start before at w i) where
  pub scan_end : length fs ≤ i → fields_judged S (decoded cs) at w [] (drop at s) ≡ fields_judged S (decoded cs) start before fs (drop start s)
  scan_end h = sym (c.whole ∙ rw (drop_of_length-le fs h))

  module _ {f : ℕ} {o : Result Item Cause} (k : Met S cs s fs at i f o) where
    begins : fields_judged S (decoded cs) start before fs (drop start s) ≡ fields_judged S (decoded cs) at w (f ∷ drop (i + 1) fs) (drop at s)
    begins = c.whole ∙ ap (λ (l : List ℕ). fields_judged S (decoded cs) at w l (drop at s)) k.here

    pub scan_refused : {c : Cause} {r : Refusal} → o ≡ Err c → r ≡ refusal c f at → Err r ≡ fields_judged S (decoded cs) start before fs (drop start s)
    scan_refused is e = ap Err e ∙ sym (begins ∙ fields_refused S (decoded cs) f (drop (i + 1) fs) (drop at s) at w _ (sym k.gives ∙ is))

    module _ {x : Item} (is : o ≡ Ok x) where
      judged : judge_item S (decoded cs) f (drop at s) ≡ Ok x
      judged = sym k.gives ∙ is

      pub scan_within : at + (x.start + x.size) ≤ length s
      scan_within = omega (arith, item_within S (decoded cs) f (drop at s) x judged, length-drop at s, c.inside)

      pub scan_small : w + x.carried ≤ before + 1026 * (i + 1)
      scan_small = omega (arith, item_small S cs f (drop at s) x judged, c.small)

      pub scan_good : Scanned S cs s fs start before (at + (x.start + x.size)) (w + x.carried) (i + 1)
      scan_good =
          record {
            inside = scan_within;
            small = scan_small;
            whole =
                begins ∙ fields_good S (decoded cs) f (drop (i + 1) fs) (drop at s) x judged at w
                ∙ ap (fields_judged S (decoded cs) (at + (x.start + x.size)) (w + x.carried) (drop (i + 1) fs)) (drop-drop (x.start + x.size) at s);
          }
