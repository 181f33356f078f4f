-- The ends of `read`, with the facts as its code has them. Assumes nothing.
use Prim.Native.Nat.{ℕ, ◌+◌, ◌*◌, ◌≤◌, ◌<◌}
use mathlib.Core.Path.{◌≡◌, sym, ap, ◌∙◌}
use mathlib.Core.List.{List}
use lib.ListN.{length}
use borrow.Author.Tests.{lt-ltb, le-ltb}
use Rattle.std.specs.Prelude.{Result, Ok, Err}
use Rattle.refusal.proofs.Tests.{handed_on}
use Rattle.std.specs.Result.{IsErrAnd}
use Rattle.octets.specs.Lists.{lay}
use Rattle.refusal.specs.Numbers.{notes_too_short}
use Rattle.refusal.specs.Refusals.{plain}
use Rattle.refusal.specs.declared.Refusal.{Refusal}
use Rattle.field_table.specs.Table.{Table}
use Rattle.message_notes.specs.Dialect.{Dialect, dialect, notes_room}
use Rattle.message_notes.specs.Notes.{notes_of}
use Rattle.message_reader.specs.declared.Accepted.{Accepted}
use Rattle.message_reader.specs.Reader.{acceptance, told_read, head_read, read_body, read_message, reading_with, read_answer, notes_after}
use Rattle.message_reader.proofs.Heads.{head_found}
use Rattle.message_reader.proofs.Language.{message_head_refused, message_refused, message_read}

-- what a head that is read says of its bitmaps
module _ (m : ℕ) (s : List ℕ) (k : ℕ) (e : head_read m s ≡ Ok k) (least : 2 ≤ m) where
  pub head_few : k ≤ m
  head_few = (head_found m s k least e).maps.few

  pub head_room : 4 + 8 * k ≤ length s
  head_room = (head_found m s k least e).maps.long

-- the answer and the notes together
pub record Ends (d : Dialect) (s b : List ℕ) (r : Result Accepted Refusal) (after : List ℕ) : Type 0 where
  pub answer : r ≡ read_answer d s b
  pub notes : after ≡ notes_after d s b

module _ (d : Dialect) (s b : List ℕ) where
  pub ends_short : {r : Refusal} → length b < notes_room d → r ≡ plain notes_too_short → Ends d s b (Err r) b
  unfolding read_answer notes_after
  ends_short h is =
      let e : read_answer d s b ≡ Err (plain notes_too_short) = rw (lt-ltb (length b) (notes_room d) h) in
      record { answer = ap Err is ∙ sym e; notes = rw (notes_after, e) }

  module _ (room : notes_room d ≤ length b) where
    answer_is : read_answer d s b ≡ read_message d.table d.most s
    unfolding read_answer
    answer_is = rw (le-ltb (length b) (notes_room d) room)

    refused : (r : Refusal) → read_message d.table d.most s ≡ Err r → Ends d s b (Err r) b
    unfolding notes_after
    refused r h =
        let e : read_answer d s b ≡ Err r = answer_is ∙ h in
        record { answer = sym e; notes = rw (notes_after, e) }

    pub ends_head : (r : Refusal) → head_read d.most s ≡ Err r → Ends d s b (Err r) b
    ends_head r h = refused r (message_head_refused d.table d.most s r h)

    pub ends_refused : (k : ℕ) (r : Refusal) → head_read d.most s ≡ Ok k → read_body d.table s k ≡ Err r → Ends d s b (Err r) b
    ends_refused k r h f = refused r (message_refused d.table d.most s k h r f)

    pub ends_read : (k u : ℕ) (after : List ℕ) → head_read d.most s ≡ Ok k → read_body d.table s k ≡ Ok u
        → after ≡ lay (notes_of d.form (reading_with d.table s k) u) b → Ends d s b (Ok (acceptance u k)) after
    unfolding notes_after
    ends_read k u after h f w =
        let e : read_answer d s b ≡ Ok (acceptance u k) = answer_is ∙ message_read d.table d.most s k h u f in
        record { answer = sym e; notes = rw (notes_after, e) w }

-- a refusal that is handed on as it is
pub ends_passed : {d : Dialect} {s b after : List ℕ} {a : Result Accepted Refusal} {r : Refusal} → IsErrAnd a (λ x. x ≡ r) → Ends d s b (Err r) after → Ends d s b a after
ends_passed h e =
    record { answer = handed_on h ∙ e.answer; notes = e.notes }

-- the numbers that `read` lends stand for another table
module _ (t u : Table) (s b : List ℕ) (same : t ≡ u) where
  pub answer_by_lem : (r : Result Accepted Refusal) → r ≡ read_answer (dialect t) s b → r ≡ read_answer (dialect u) s b
  answer_by_lem r e = e ∙ ap (λ (x : Table). read_answer (dialect x) s b) same

  pub notes_by : (after : List ℕ) → after ≡ notes_after (dialect t) s b → after ≡ notes_after (dialect u) s b
  notes_by after e = e ∙ ap (λ (x : Table). notes_after (dialect x) s b) same

  pub tells_by : (r : Result Accepted Refusal) → r ≡ read_answer (dialect t) s b → told_read r ≡ told_read (read_answer (dialect u) s b)
  tells_by r e = ap told_read (answer_by_lem r e)
