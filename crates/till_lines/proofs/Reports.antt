-- The ends of `report`, with the facts as the code has them. Assumes nothing.
use Prim.Native.Nat.{ℕ, ◌≤◌, ◌<◌}
use mathlib.Core.Path.{◌≡◌}
use mathlib.Core.List.{List}
use native.Mathlib.Omega.{arith}
use lib.ListN.{length, take, replicate, length-replicate}
use lib.Seq.{take-append_seam}
use borrow.Author.Tests.{lt-ltb, le-ltb}
use Rattle.std.specs.Prelude.{Result, Ok, Err}
use Rattle.octets.specs.Lists.{lay}
use Rattle.refusal.specs.Numbers.{input_too_long}
use Rattle.refusal.specs.Refusals.{plain}
use Rattle.refusal.specs.declared.Refusal.{Refusal}
use Rattle.message_notes.specs.Dialect.{Dialect, notes_room}
use Rattle.message_notes.specs.Notes.{notes_of}
use Rattle.message_reader.specs.Reader.{acceptance, read_message, read_answer, reading_with, notes_after}
use Rattle.message_reader.specs.declared.Accepted.{Accepted}
use Rattle.till_lines.specs.Lines.{input_most, text_room, refused_line, reading_lines, answer_lines, report_of, report_size, report_text}

-- what the reader answers and notes, given a blank buffer with room
abbrev pub blank : Dialect → List ℕ
blank d = replicate (notes_room d) 0

module _ (d : Dialect) (s : List ℕ) where
  pub answered : (a : Result Accepted Refusal) → read_answer d s (blank d) ≡ a → read_message d.table d.most s ≡ a
  unfolding read_answer
  answered a e =
      rw (le-ltb (length (blank d)) (notes_room d) (omega (arith, length-replicate {A = ℕ} (notes_room d) 0))) at e

  pub noted : (u k : ℕ) (o : List ℕ) → read_answer d s (blank d) ≡ Ok (acceptance u k) → o ≡ notes_after d s (blank d)
      → take (length (notes_of d.form (reading_with d.table s k) u)) o ≡ notes_of d.form (reading_with d.table s k) u
  unfolding notes_after lay
  noted u k o e h = rw (h, notes_after, e) (take-append_seam (notes_of d.form (reading_with d.table s k) u) _)

module _ (d : Dialect) (s : List ℕ) where
  pub too_long : {r : Refusal} → input_most < length s → r ≡ plain input_too_long → report_of d s ≡ refused_line r
  unfolding report_of
  too_long h e = rw (lt-ltb input_most (length s) h, e)

  within : length s ≤ input_most → (a : Result Accepted Refusal) → read_message d.table d.most s ≡ a → report_of d s ≡ answer_lines d.table s a
  unfolding report_of
  within h a e = rw (le-ltb input_most (length s) h, e)

  pub refused_lines : length s ≤ input_most → (r : Refusal) → read_message d.table d.most s ≡ Err r → report_of d s ≡ refused_line r
  unfolding answer_lines
  refused_lines h r e = within h (Err r) e

  pub accepted_lines : length s ≤ input_most → (u k : ℕ) → read_message d.table d.most s ≡ Ok (acceptance u k) → report_of d s ≡ reading_lines (reading_with d.table s k) u
  unfolding answer_lines
  accepted_lines h u k e = within h (Ok (acceptance u k)) e

  -- a text with too little room, and one with enough in which the lines were written
  module _ (b : List ℕ) where
    pub report_short : length b < text_room → (0 ≡ report_size d s b) × (b ≡ report_text d s b)
    unfolding report_size report_text
    report_short h = (rw (lt-ltb (length b) text_room h), rw (lt-ltb (length b) text_room h))

    pub report_written : text_room ≤ length b → (lines after : List ℕ) (k : ℕ) → report_of d s ≡ lines → k ≡ length lines → after ≡ lay lines b
        → (k ≡ report_size d s b) × (after ≡ report_text d s b)
    unfolding report_size report_text
    report_written h lines after k e hk ha =
        (rw (le-ltb (length b) text_room h, e) hk, rw (le-ltb (length b) text_room h, e) ha)
