-- The ends of the link, with the facts as its code has them: answer and output together. Assumes nothing.
use Prim.Native.Nat.{ℕ, ◌+◌, ◌*◌, ◌≤◌}
use mathlib.Core.Path.{◌≡◌, sym, ap, ◌∙◌}
use mathlib.Core.List.{List, ◌++◌}
use lib.ListN.{length, take, drop}
use borrow.Author.Tests.{le-leb, lt-leb}
use Rattle.std.specs.Prelude.{Result, Ok, Err}
use Rattle.std.specs.Result.{IsErrAnd}
use Rattle.octets.specs.Lists.{lay}
use Rattle.refusal.specs.Numbers.{output_too_short}
use Rattle.refusal.specs.Refusals.{plain, bad, room}
use Rattle.refusal.specs.declared.Cause.{Cause}
use Rattle.refusal.specs.declared.Refusal.{Refusal}
use Rattle.field_table.specs.Table.{Table}
use Rattle.bitmap.specs.Bitmaps.{fields_of}
use Rattle.bitmap_read.specs.Found.{maps_of}
use Rattle.refusal.proofs.Tests.{handed_on}
use Rattle.refusal.proofs.Conversions.{room_short}
use Rattle.packed_field.specs.declared.Script.{Script}
use Rattle.packed_field.specs.Scripts.{other, size_of, carried}
use Rattle.packed_link.specs.declared.Translated.{Translated}
use Rattle.packed_link.specs.Link.{told_link, link_head, fields_judged, fields_carried, body_judged, body_carried, link_judged, link_carried, link_answer, link_output}

pub record Ends (S : Script) (t : Table) (m : ℕ) (s out : List ℕ) (r : Result Translated Refusal) (after : List ℕ) : Type 0 where
  pub answer : r ≡ link_answer S t m s out
  pub output : after ≡ link_output S t m s out

head_judged : (S : Script) (t : Table) (m : ℕ) (s : List ℕ) (k : ℕ) → link_head S m s ≡ Ok k → link_judged S t m s ≡ body_judged S t s k
unfolding link_judged
head_judged S t m s k head = rw (link_judged, head)

module _ (S : Script) (t : Table) (m : ℕ) (s out : List ℕ) {a : Result Translated Refusal} where
  refused : (r : Refusal) → a ≡ Err r → link_answer S t m s out ≡ Err r → Ends S t m s out a out
  unfolding link_output
  refused r h e = record { answer = h ∙ sym e; output = rw (link_output, e) }

  bad_judged : (r : Refusal) → a ≡ Err r → link_judged S t m s ≡ Err r → Ends S t m s out a out
  unfolding link_answer
  bad_judged r h e = refused r h (rw (link_answer, e))

  pub ends_head : {r : Refusal} → IsErrAnd a (λ x. x ≡ r) → Err r ≡ link_head S m s → Ends S t m s out a out
  unfolding link_judged
  ends_head {r} h e = bad_judged r (handed_on h) (rw (link_judged, ← e))

  module _ (k : ℕ) (head : link_head S m s ≡ Ok k) where
    pub ends_refused : {r : Refusal} → IsErrAnd a (λ x. x ≡ r) → body_judged S t s k ≡ Err r → Ends S t m s out a out
    ends_refused {r} h e = bad_judged r (handed_on h) (head_judged S t m s k head ∙ e)

    module _ (d : Translated) (clean : body_judged S t s k ≡ Ok d) where
      pub ends_short : {c : Cause} → IsErrAnd a (λ x. x ≡ plain c) → bad c ≡ room d.written (length out) → Ends S t m s out a out
      unfolding link_answer
      ends_short {c} h e =
          let short = room_short d.written (length out) e in
          refused (plain output_too_short) (handed_on h ∙ ap (λ (x : Cause). Err (plain x)) short.0)
          (rw (link_answer, head_judged S t m s k head ∙ clean, lt-leb d.written (length out) short.1))

      pub ends_done : a ≡ Ok d → d.written ≤ length out → (after : List ℕ) → after ≡ lay (body_carried S t s k) out → Ends S t m s out a after
      unfolding link_answer link_output link_carried
      ends_done q h after e =
          let done : link_answer S t m s out ≡ Ok d = rw (link_answer, head_judged S t m s k head ∙ clean, le-leb d.written (length out) h) in
          record { answer = q ∙ sym done; output = e ∙ sym (rw (link_output, done, link_carried, head)) }

-- the fields that the code has listed are those of the bitmaps
module _ (S : Script) (t : Table) (s fs : List ℕ) (k : ℕ) (is : fs ≡ fields_of (maps_of (size_of S 4) s k) k) where
  pub body_is : (a b : ℕ) → a ≡ size_of S 4 + 8 * k → b ≡ size_of (other S) 4 + 8 * k → fields_judged S t a b fs (drop a s) ≡ body_judged S t s k
  unfolding body_judged
  body_is a b ea eb = rw (is, ea, eb)

  -- r is what judging the fields answered; x and y are the sizes of the MTI in either script, of which o is the other
  pub body_said : (r : Result Translated Refusal) (x y : ℕ) (o : Script) → x ≡ size_of S 4 → o ≡ other S → y ≡ size_of o 4
      → r ≡ fields_judged S t (x + 8 * k) (y + 8 * k) fs (drop (x + 8 * k) s) → body_judged S t s k ≡ r
  body_said r x y o ex eo ey e =
      sym (
      e
      ∙ body_is (x + 8 * k) (y + 8 * k) (ap (λ (z : ℕ). z + 8 * k) ex)
      (ap (λ (z : ℕ). z + 8 * k) (ey ∙ ap (λ (q : Script). size_of q 4) eo))
      )

  pub carried_is : (a : ℕ) → a ≡ size_of S 4 + 8 * k → carried S 4 (take (size_of S 4) s) ++ (maps_of (size_of S 4) s k ++ fields_carried S t fs (drop a s)) ≡ body_carried S t s k
  unfolding body_carried
  carried_is a ea = rw (is, ea)

-- the numbers that are lent stand for another table
module _ (S : Script) (t u : Table) (m : ℕ) (s out : List ℕ) (same : t ≡ u) where
  pub answer_by_lem : (r : Result Translated Refusal) → r ≡ link_answer S t m s out → r ≡ link_answer S u m s out
  answer_by_lem r e = e ∙ ap (λ (x : Table). link_answer S x m s out) same

  pub tells_by : (r : Result Translated Refusal) → r ≡ link_answer S t m s out → told_link r ≡ told_link (link_answer S u m s out)
  tells_by r e = ap told_link (answer_by_lem r e)

  pub output_by_lem : (after : List ℕ) → after ≡ link_output S t m s out → after ≡ link_output S u m s out
  output_by_lem after e = e ∙ ap (λ (x : Table). link_output S x m s out) same
