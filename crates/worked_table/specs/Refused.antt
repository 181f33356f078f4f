-- 01's worked messages that are refused begin no message of the language, whatever its length and its reading.
--
--   RefusedMessages  == cases 4 to 6 and 9, where 01 says that they are refused
--   RefusedText      == `text_ends` of `OtherMessages` with the byte behind the last that text may hold
--
-- The accepted ones are in message_language/specs/Worked.antt. proofs/Refused.antt proves this. Assumes nothing: this is a statement.
use Rattle.std.specs.Prelude.{ℕ, [], ◌∷◌, ◌++◌, replicate}
use Rattle.field_table.specs.House.{house}
use Rattle.message_language.specs.Language.{Reading, Begins}
use Rattle.message_language.specs.Worked.{mti, bitmap}
use Rattle.message_notes.specs.Dialect.{dialect}

pub record RefusedMessages : Type 0 where
  -- 4: "same bitmap, `20` and 20 digits"
  pub case_4 : (u : ℕ) (r : Reading) → Begins house (dialect house).most (mti ++ (bitmap 0x40 ++ (0x32 ∷ 0x30 ∷ replicate 20 0x31))) u r → ⊥
  -- 5: "same bitmap, `+5` and `12345`"
  pub case_5 : (u : ℕ) (r : Reading) → Begins house (dialect house).most (mti ++ (bitmap 0x40 ++ (0x2B ∷ 0x35 ∷ 0x31 ∷ 0x32 ∷ 0x33 ∷ 0x34 ∷ 0x35 ∷ []))) u r → ⊥
  -- 6: "bitmap 80 + 7 zeros, then nothing"
  pub case_6 : (u : ℕ) (r : Reading) → Begins house (dialect house).most (mti ++ bitmap 0x80) u r → ⊥
  -- 9: "eleven bytes"
  pub case_9 : (u : ℕ) (r : Reading) → Begins house (dialect house).most (mti ++ replicate 7 0) u r → ⊥

-- 01: "text is any bytes up to 0x7F"
pub record RefusedText : Type 0 where
  pub text_over : (u : ℕ) (r : Reading) → Begins house (dialect house).most (mti ++ ((0 ∷ 0 ∷ 0 ∷ 0 ∷ 0x02 ∷ 0 ∷ 0 ∷ 0 ∷ []) ++ (0x00 ∷ 0x80 ∷ []))) u r → ⊥
