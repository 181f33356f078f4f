-- Contents that are not text, by a dialect d: 8, "a text byte is over 0x7F", is never given for a field whose class is binary, whatever its
-- bytes. 02, P2: "Field 55 becomes binary, LLL, up to 999. The language of demand 3 now reads binary for 55 and 8 is never given for it."
--
--   NeverText d f       == of field f neither the reader nor a writer by the dialect d answers 8, whatever they are lent
--   BinaryNeverText d   == it of every field whose class is binary
--   HouseChip           == it of field 55 of the house, which is binary, and of which any bytes up to 999 are a content
--
-- Assumes nothing: these are statements; proved in proofs/Binary.antt, `BinaryNeverText` for every dialect.
use Rattle.std.specs.Prelude.{ℕ, ◌≤◌, ◌≡◌, true, List, length, Err}
use Rattle.octets.specs.Numbers.{decimal}
use Rattle.refusal.specs.Numbers.{text_not_ascii}
use Rattle.refusal.specs.Refusals.{refusal}
use Rattle.field_table.specs.Table.{is_binary}
use Rattle.field_table.specs.House.{house}
use Rattle.message_language.specs.Language.{Item}
use Rattle.message_notes.specs.Dialect.{Dialect, dialect}
use Rattle.message_reader.specs.Reader.{read_answer}
use Rattle.message_write.specs.Written.{exact_answer, clean_answer}

-- No input s and buffer b, no values v, notes n and output out give an 8 with that field, at any position.
pub record NeverText (d : Dialect) (f : ℕ) : Type 0 where
  pub reading : (s b : List ℕ) (at : ℕ) → read_answer d s b ≡ Err (refusal text_not_ascii f at) → ⊥
  pub exact_writing : (v n out : List ℕ) (at : ℕ) → exact_answer d v n out ≡ Err (refusal text_not_ascii f at) → ⊥
  pub clean_writing : (v n out : List ℕ) (at : ℕ) → clean_answer d v n out ≡ Err (refusal text_not_ascii f at) → ⊥

unfoldable pub BinaryNeverText : Dialect → Type 0
BinaryNeverText d = (f : ℕ) → is_binary (d.table.class f) ≡ true → NeverText d f

pub record HouseChip : Type 0 where
  pub binary : is_binary (house.class 55) ≡ true
  pub never_text : NeverText (dialect house) 55
  -- The language asks nothing of the bytes: any content of up to 999, behind its length in three digits, is field 55.
  pub any_bytes : (c : List ℕ) → length c ≤ 999 → Item house 55 (decimal 3 (length c)) c
