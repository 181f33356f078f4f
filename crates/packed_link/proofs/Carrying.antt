-- The loop that writes the fields fs of the input s in the other script, on plain values. Assumes nothing.
use Prim.Native.Nat.{ℕ, ◌+◌, ◌-◌, ◌≤◌, ◌<◌}
use mathlib.Core.Path.{◌≡◌, refl, sym, ap, ◌∙◌}
use mathlib.Core.List.{List, [], ◌∷◌, ◌++◌}
use native.Mathlib.Omega.{arith}
use lib.ListN.{length, take, drop, get_or, length-append, length-drop, drop_of_length-le}
use lib.Seq.{drop-drop}
use borrow.Rule.Slice.PartMut.{mid_of, put_mid}
use Rattle.std.specs.Prelude.{Result, Ok, Err}
use Rattle.octets.specs.Lists.{lay, placed}
use Rattle.octets.proofs.Lists.{placed_fits}
use Rattle.octets.proofs.Parts.{to_end, part_rest, Written, written_none, written_room, written_more, written_end}
use Rattle.refusal.specs.declared.Cause.{Cause}
use Rattle.field_table.specs.Codes.{decoded}
use Rattle.packed_field.specs.declared.Script.{Script}
use Rattle.packed_field.specs.declared.Item.{Item}
use Rattle.packed_field.specs.Items.{place_item, judge_item}
use Rattle.packed_link.specs.declared.Translated.{Translated}
use Rattle.packed_link.specs.Link.{item_carried, fields_judged, fields_carried}
use Rattle.packed_link.proofs.Items.{item_within, item_long}
use Rattle.packed_link.proofs.Fields.{fields_good, carried_refused, carried_good, first_placed}
use Rattle.packed_link.proofs.Turns.{Met, met}

-- those of the list that are still to be written, from the place at on
abbrev coming : Script → List ℕ → List ℕ → ℕ → List ℕ → List ℕ
coming S cs s at fs = fields_carried S (decoded cs) fs (drop at s)

-- The output o has w bytes of fields, d is as it was where the loop began.
pub record Carrying (S : Script) (cs s fs : List ℕ) (start : ℕ) (d o : List ℕ) (at w i : ℕ) : Type 0 where
  pub inside : at ≤ length s
  pub written : Written (coming S cs s start fs) d o (coming S cs s at (drop i fs)) w
  pub room : length (coming S cs s start fs) ≤ length d
  pub before : ℕ
  pub whole : Translated
  pub accepted : fields_judged S (decoded cs) at before (drop i fs) (drop at s) ≡ Ok whole

pub carrying_first : {S : Script} {cs s fs : List ℕ} {start : ℕ} {d : List ℕ} (x : ℕ) (v : Translated) → start ≤ length s
    → fields_judged S (decoded cs) start x fs (drop start s) ≡ Ok v → length (fields_carried S (decoded cs) fs (drop start s)) ≤ length d → Carrying S cs s fs start d d start 0 0
carrying_first {S} {cs} {s} {fs} {start} {d} x v h good r =
    record { inside = h; written = written_none (coming S cs s start fs) d; room = r; before = x; whole = v; accepted = good }

module _ {S : Script} {cs s fs : List ℕ} {start : ℕ} {d o : List ℕ} {at w i : ℕ} (c : Carrying S cs s fs start d o at w i) where
  -- where nothing more is coming, all is written
  carrying_done : coming S cs s at (drop i fs) ≡ [] → o ≡ lay (coming S cs s start fs) d
  carrying_done e = (written_end (coming S cs s start fs) d o (coming S cs s at (drop i fs)) w c.written e).1

  pub carrying_end : length fs ≤ i → o ≡ lay (coming S cs s start fs) d
  unfolding fields_carried
  carrying_end h = carrying_done (rw (drop_of_length-le fs h))

  -- a field is met: its place, as the code finds it
  pub carrying_met : {f : ℕ} {r : Result Item Cause} → i < length fs → f ≡ get_or fs i 0 → r ≡ place_item S (decoded cs) f (take (length s - at) (drop at s)) → Met S cs s fs at i f r
  carrying_met {f} low e r =
      let k = met S cs s fs at i f (judge_item S (decoded cs) f (take (length s - at) (drop at s))) low e refl in
      let all : fields_judged S (decoded cs) at c.before (f ∷ drop (i + 1) fs) (take (length s - at) (drop at s)) ≡ Ok c.whole = rw (to_end at s, ← k.here) c.accepted in
      met S cs s fs at i f _ low e (r ∙ first_placed S (decoded cs) at c.before f (drop (i + 1) fs) (take (length s - at) (drop at s)) c.whole all)

  module _ {f : ℕ} {r : Result Item Cause} (k : Met S cs s fs at i f r) where
    pub carrying_refused : {e : Cause} → r ≡ Err e → o ≡ lay (coming S cs s start fs) d
    carrying_refused is = carrying_done (rw k.here (carried_refused S (decoded cs) f (drop (i + 1) fs) (drop at s) _ (sym k.gives ∙ is)))

    module _ {x : Item} (is : r ≡ Ok x) where
      judged : judge_item S (decoded cs) f (drop at s) ≡ Ok x
      judged = sym k.gives ∙ is

      -- as the code has the rest
      pub carrying_judged : judge_item S (decoded cs) f (take (length s - at) (drop at s)) ≡ Ok x
      carrying_judged = ap (judge_item S (decoded cs) f) (to_end at s) ∙ judged

      abbrev here : List ℕ
      here = item_carried S (decoded cs) f x.start x.count x.size (drop at s)

      abbrev after : List ℕ
      after = coming S cs s (at + (x.start + x.size)) (drop (i + 1) fs)

      pub carrying_within : at + (x.start + x.size) ≤ length s
      carrying_within = omega (arith, item_within S (decoded cs) f (drop at s) x judged, length-drop at s, c.inside)

      next : coming S cs s at (drop i fs) ≡ here ++ after
      next = rw (k.here, carried_good S (decoded cs) f (drop (i + 1) fs) (drop at s) x judged, drop-drop (x.start + x.size) at s)

      here_long : length here ≡ x.carried
      here_long = item_long S (decoded cs) f (drop at s) x judged

      pub carrying_room : w + x.carried ≤ length o
      carrying_room =
          omega (arith, written_room (coming S cs s start fs) d o (coming S cs s at (drop i fs)) w c.written, ap length next ∙ length-append here after, here_long, c.room, c.written.size)

      pub carrying_part : x.carried ≤ length (mid_of w (length o - w) o)
      carrying_part = omega (arith, carrying_room, ap length (part_rest w o) ∙ length-drop w o)

      pub carrying_good : {p : List ℕ} → p ≡ lay (item_carried S (decoded cs) f x.start x.count x.size (take (length s - at) (drop at s))) (mid_of w (length o - w) o)
          → Carrying S cs s fs start d (put_mid w (length o - w) o p) (at + (x.start + x.size)) (w + x.carried) (i + 1)
      carrying_good {p} h =
          let q : p ≡ placed here (mid_of w (length o - w) o) =
          h ∙ ap (λ (y : List ℕ). lay (item_carried S (decoded cs) f x.start x.count x.size y) (mid_of w (length o - w) o)) (to_end at s)
          ∙ sym (placed_fits here (mid_of w (length o - w) o) x.carried here_long carrying_part) in
          record {
            inside = carrying_within;
            written = written_more (coming S cs s start fs) d o (coming S cs s at (drop i fs)) here after p w x.carried c.written next here_long carrying_room q;
            room = c.room;
            before = c.before + x.carried;
            whole = c.whole;
            accepted =
                ap (fields_judged S (decoded cs) (at + (x.start + x.size)) (c.before + x.carried) (drop (i + 1) fs)) (sym (drop-drop (x.start + x.size) at s))
                ∙ sym (fields_good S (decoded cs) f (drop (i + 1) fs) (drop at s) x judged at c.before)
                ∙ ap (λ (y : List ℕ). fields_judged S (decoded cs) at c.before y (drop at s)) (sym k.here)
                ∙ c.accepted;
          }
