-- 8 is never given for a binary field (specs/Binary.antt): of the reader by message_reader/proofs/Binary.antt, of the writers by what their
-- walk asks of a field. Assumes nothing.
use Prim.Native.Nat.{ℕ, zero, suc, ◌≤◌}
use mathlib.Core.Path.{◌≡◌, refl}
use mathlib.Core.Bool.{Bool, true}
use mathlib.Core.List.{List}
use native.Mathlib.Omega.{arith}
use lib.ListN.{length}
use Rattle.std.proofs.lemmas.Bool.Decides.{nat_tests}
use borrow.Author.Tests.{le-leb}
use Rattle.std.specs.Prelude.{Err}
use Rattle.octets.specs.Numbers.{decimal}
use Rattle.refusal.specs.Numbers.{text_not_ascii}
use Rattle.refusal.specs.Refusals.{refusal, Test, bad}
use Rattle.field_table.specs.Table.{Table, is_binary, table_of}
use Rattle.field_table.specs.House.{house, house_rows}
use Rattle.field_table.proofs.Rows.{house_small}
use Rattle.field_write.specs.Fields.{is_allowed_length, text_fault, exact_fault, clean_fault}
use Rattle.message_language.specs.Language.{Item, entry}
use Rattle.message_contents.proofs.Items.{item}
use Rattle.message_notes.specs.Dialect.{Form, Dialect, dialect}
use Rattle.message_notes.specs.Notes.{count_in}
use Rattle.message_reader.proofs.Binary.{read_not}
use Rattle.message_walk.specs.Walk.{flaw, Fault, head_number, judged_field, judged, ending, walked}
use Rattle.message_walk.specs.Faults.{within}
use Rattle.message_write.specs.Written.{exactly, cleanly, exact_message, clean_message, answered, exact_answer, clean_answer}
use Rattle.round_trip.specs.Binary.{BinaryNeverText, HouseChip}

head_number_not : (m : ℕ) (n : List ℕ) → head_number m n ≡ bad text_not_ascii → ⊥
unfolding head_number
head_number_not m n e = grind (arith, nat_tests)

-- A walk that asks of field f nothing that is 8.
module _ (q : Fault) (f : ℕ) (fine : (a n : ℕ) → q (entry f a n) ≡ bad text_not_ascii → ⊥) where
  judged_field_not : (b : Bool) (m last g a n : ℕ) → judged_field b q m last g a n ≡ Err (flaw text_not_ascii f) → ⊥
  unfolding judged_field
  judged_field_not b m last g a n e = grind (arith, nat_tests, fine)

  module _ (F : Form) (m : ℕ) where
    judged_not : (last : ℕ) (s : List ℕ) → judged F q m last s ≡ Err (flaw text_not_ascii f) → ⊥
    unfolding judged
    judged_not last s e = grind (arith, nat_tests, judged_field_not)

    ending_not : (k last at : ℕ) (s : List ℕ) (p : ℕ) → ending F q m k last at s ≡ Err (refusal text_not_ascii f p) → ⊥
    unfolding ending
    ending_not zero last at s p e = grind (arith, nat_tests)
    ending_not (suc k) last at s p e = grind (arith, nat_tests, judged_not last s, ending_not k)

  walked_not : (d : Dialect) (n : List ℕ) (p : ℕ) → walked d q n ≡ Err (refusal text_not_ascii f p) → ⊥
  unfolding walked
  walked_not d n p e = grind (arith, nat_tests, head_number_not d.most n, ending_not d.form (count_in n))

  -- and a writer over it, whose own refusals are 13 and 14
  answered_not : (d : Dialect) (n bytes out : List ℕ) (p : ℕ) → answered (walked d q n) bytes out ≡ Err (refusal text_not_ascii f p) → ⊥
  unfolding answered
  answered_not d n bytes out p e = grind (arith, nat_tests, walked_not d n p)

-- What the writers ask of a binary field: 11, 12, or nothing.
module _ (t : Table) (f : ℕ) (binary : is_binary (t.class f) ≡ true) where
  exact_not : (c : List ℕ) → exact_fault t f c ≡ bad text_not_ascii → ⊥
  unfolding exact_fault text_fault
  exact_not c e = grind (arith, nat_tests)

  clean_not : (c : List ℕ) → clean_fault t f c ≡ bad text_not_ascii → ⊥
  unfolding clean_fault text_fault
  clean_not c e = grind (arith, nat_tests)

within_not : (v : List ℕ) (q : ℕ → List ℕ → Test) (f : ℕ) → ((c : List ℕ) → q f c ≡ bad text_not_ascii → ⊥) → (a n : ℕ)
    → within v q (entry f a n) ≡ bad text_not_ascii → ⊥
unfolding within
within_not v q f fine a n e = grind (arith, nat_tests, fine)

pub never_text : (d : Dialect) → BinaryNeverText d
unfolding BinaryNeverText exact_answer clean_answer exactly cleanly
never_text d f binary =
    record {
      reading = read_not d f binary;
      exact_writing =
          λ v n out p e.
          answered_not (exactly d v) f (within_not v (exact_fault d.table) f (exact_not d.table f binary)) d n (exact_message d v n) out p e;
      clean_writing =
          λ v n out p e.
          answered_not (cleanly d v) f (within_not v (clean_fault d.table) f (clean_not d.table f binary)) d n (clean_message d v n) out p e;
    }

-- Field 55 of the house.
chip_binary : is_binary (house.class 55) ≡ true
unfolding house house_rows table_of
chip_binary = refl

chip_any : (c : List ℕ) → length c ≤ 999 → Item house 55 (decimal 3 (length c)) c
unfolding house house_rows table_of exact_fault text_fault is_allowed_length
chip_any c h = item house house_small 55 c (rw (le-leb (length c) 999 h))

pub house_chip : HouseChip
unfolding BinaryNeverText
house_chip = record { binary = chip_binary; never_text = never_text (dialect house) 55 chip_binary; any_bytes = chip_any }
