-- The message that is written, MTI, bitmaps and fields, each behind the last, on plain values. Assumes nothing.
use Prim.Native.Nat.{ℕ, ◌+◌, ◌-◌, ◌*◌, ◌≤◌}
use mathlib.Core.Path.{◌≡◌, sym, ap, ◌∙◌}
use mathlib.Core.List.{List, ◌++◌, append_assoc}
use native.Mathlib.Nat.{add-sub_cancel_left}
use native.Mathlib.Omega.{arith}
use lib.ListN.{length, take, drop, length-append, length-drop}
use lib.Seq.{length-take-le}
use borrow.Rule.Slice.PartMut.{mid_of, put_mid}
use Rattle.std.specs.Prelude.{Ok}
use Rattle.octets.specs.Lists.{lay, placed}
use Rattle.octets.proofs.Lists.{placed_fits}
use Rattle.octets.proofs.Parts.{lay_part, placed_part}
use Rattle.field_table.specs.Table.{Table}
use Rattle.bitmap.specs.Bitmaps.{fields_of}
use Rattle.bitmap_read.specs.Found.{maps_of}
use Rattle.packed_field.specs.declared.Script.{Script}
use Rattle.packed_field.specs.Scripts.{other, size_of, carried, carried_into}
use Rattle.packed_field.proofs.Scripts.{carried_long, carried_placed}
use Rattle.packed_link.specs.declared.Translated.{Translated}
use Rattle.packed_link.specs.Link.{link_head, fields_judged, fields_carried, body_judged, body_carried}
use Rattle.packed_link.proofs.Fields.{carried_counted}
use Rattle.packed_link.proofs.Heads.{mti_small, head_few, head_room, head_mti}
use Rattle.packed_link.proofs.Answers.{body_is, carried_is}

-- a is where the bitmaps start, x where they do in the other script, as the code has them
module _ (S : Script) (t : Table) (s fs out : List ℕ) (k : ℕ) (head : link_head S 3 s ≡ Ok k) (listed : fs ≡ fields_of (maps_of (size_of S 4) s k) k) (a : ℕ) (is-a : a ≡ size_of S 4) where
  pub few : k ≤ 3
  few = head_few S 3 s k (omega arith) head

  pub start_small : a ≤ 4
  start_small = omega (arith, mti_small S, is-a)

  pub inside : a + 8 * k ≤ length s
  inside = omega (arith, head_room S 3 s k (omega arith) head, is-a)

  module _ (X : Script) (is-X : X ≡ other S) (x : ℕ) (is_x : x ≡ size_of X 4) (d : Translated) (good : body_judged S t s k ≡ Ok d) (room : d.written ≤ length out) where
    x_is : x ≡ size_of (other S) 4
    x_is = is_x ∙ ap (λ (y : Script). size_of y 4) is-X

    pub first_small : x ≤ 4
    first_small = omega (arith, mti_small (other S), x_is)

    abbrev fields : List ℕ
    fields = fields_carried S t fs (drop (a + 8 * k) s)

    pub fields_good : fields_judged S t (a + 8 * k) (x + 8 * k) fs (drop (a + 8 * k) s) ≡ Ok d
    fields_good = body_is S t s fs k listed (a + 8 * k) (x + 8 * k) (ap (λ (y : ℕ). y + 8 * k) is-a) (ap (λ (y : ℕ). y + 8 * k) x_is) ∙ good

    pub fields_room : x + 8 * k + length fields ≤ length out
    fields_room = omega (arith, carried_counted S t (a + 8 * k) (x + 8 * k) fs (drop (a + 8 * k) s) d fields_good, room)

    abbrev mti : List ℕ
    mti = carried S 4 (take (size_of S 4) s)

    abbrev maps : List ℕ
    maps = take (a + 8 * k - a) (drop a s)

    mti_long : length mti ≡ x
    mti_long = carried_long S 4 (take (size_of S 4) s) (head_mti S 3 s k (omega arith) head) ∙ sym x_is

    maps_long : length maps ≡ 8 * k
    maps_long = ap (λ (n : ℕ). length (take n (drop a s))) (add-sub_cancel_left a (8 * k)) ∙ length-take-le (8 * k) (drop a s) (omega (arith, length-drop a s, inside))

    maps_are : maps ≡ maps_of (size_of S 4) s k
    unfolding maps_of
    maps_are = rw (add-sub_cancel_left a (8 * k), is-a)

    pub message_written : (o p q : List ℕ) → o ≡ carried_into S 4 (take a s) out → p ≡ placed maps (mid_of x (length o - x) o)
        → (e : List ℕ) → e ≡ put_mid x (length o - x) o p → q ≡ lay fields (mid_of (x + 8 * k) (length e - (x + 8 * k)) e)
        → put_mid (x + 8 * k) (length e - (x + 8 * k)) e q ≡ lay (body_carried S t s k) out
    message_written o p q ho hp e he hq =
        let m = head_mti S 3 s k (omega arith) head in
        let r = fields_room in
        let l : o ≡ lay mti out =
        ho ∙ ap (λ (y : ℕ). carried_into S 4 (take y s) out) is-a ∙ carried_placed S 4 (take (size_of S 4) s) out m ∙ placed_fits mti out x mti_long (omega arith) in
        let n : e ≡ lay (mti ++ maps) out = he ∙ placed_part mti maps out o p x l mti_long (omega (arith, maps_long)) hp in
        lay_part (mti ++ maps) fields out e q (x + 8 * k) n (length-append mti maps ∙ omega (arith, mti_long, maps_long)) hq
        ∙ ap (λ (y : List ℕ). lay y out) (append_assoc mti maps fields ∙ ap (λ (y : List ℕ). mti ++ (y ++ fields)) maps_are ∙ carried_is S t s fs k listed (a + 8 * k) (ap (λ (y : ℕ). y + 8 * k) is-a))
