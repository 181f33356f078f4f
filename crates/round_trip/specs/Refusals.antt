-- 01: "No refusal changes a lent buffer", of the reader, both writers and the conversions.
--
--   Keeps d   == whatever they refuse, by the dialect d, the buffer's bytes afterwards are its bytes before
--
-- Assumes nothing: these are statements; proved in proofs/Refusals.antt for every dialect.
use Rattle.std.specs.Prelude.{ℕ, ◌≡◌, List, Err}
use Rattle.refusal.specs.Refusals.{Test, converted, converted_into}
use Rattle.refusal.specs.declared.Refusal.{Refusal}
use Rattle.message_notes.specs.Dialect.{Dialect}
use Rattle.message_reader.specs.Reader.{read_answer, notes_after}
use Rattle.message_write.specs.Written.{exact_answer, exact_output, clean_answer, clean_output}

pub record Keeps (d : Dialect) : Type 0 where
  pub notes : (s b : List ℕ) (r : Refusal) → read_answer d s b ≡ Err r → notes_after d s b ≡ b
  pub exact_output_lem : (v n out : List ℕ) (r : Refusal) → exact_answer d v n out ≡ Err r → exact_output d v n out ≡ out
  pub clean_output_lem : (v n out : List ℕ) (r : Refusal) → clean_answer d v n out ≡ Err r → clean_output d v n out ≡ out
  -- A conversion to the bytes c, where the test of its source finds t.
  pub conversion : (t : Test) (c out : List ℕ) (r : Refusal) → converted t c out ≡ Err r → converted_into t c out ≡ out
