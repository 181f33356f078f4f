-- What a refusal holds, what a test finds, what a conversion answers and leaves in its output, and what a check answers.
--
--   refusal c f p           == the cause c, field f, position p
--   plain c                 == the cause c, with no field and position 0
--   Test                    == what a test finds: that nothing is wrong, or the cause of a refusal
--   good, bad c             == nothing is wrong, or c is
--   room n k                == bad 14 where n bytes do not fit in k, else good
--   Told                    == what an answer tells: 01's number, field and position (all 0 where nothing is refused), and its values
--   tell vs                 == the values vs of an answer that refuses nothing
--   tell_refused r vs       == the refusal r, and the values vs
--   told a                  == what a conversion's answer tells; its value is the length written
--   converted t r out       == the answer of a conversion to the bytes r: `plain c` where the test of its source finds c,
--                              14 where r does not fit in out, else the length of r
--   converted_into t r out  == each byte of its output afterwards
--   told_checked a          == what a check's answer tells; it has no values
--   checked t f             == the answer of a check that finds t, for the field f: position 0
--
-- Assumes nothing: these are definitions.
use Rattle.std.specs.Prelude.{ℕ, cond, List, [], ◌∷◌, length, leb, Result, Ok, Err}
use Rattle.octets.specs.Lists.{placed}
use Rattle.refusal.specs.Numbers.{number_of, output_too_short}
use Rattle.refusal.specs.declared.Cause.{Cause}
use Rattle.refusal.specs.declared.Refusal.{Refusal}

abbrev pub refusal : Cause → ℕ → ℕ → Refusal
refusal c f p = record { cause = c; field = f; position = p }

abbrev pub plain : Cause → Refusal
plain c = refusal c 0 0

abbrev pub Test : Type 0
Test = Result Unit Cause

abbrev pub good : Test
good = Ok tt

abbrev pub bad : Cause → Test
bad c = Err c

abbrev pub room : ℕ → ℕ → Test
room n k = cond (leb n k) good (bad output_too_short)

-- 01: "For enum answers, a definition gives this paper's number and values for each case"; "a length or count in a refusal is 0"
pub record Told : Type 0 where
  pub number : ℕ
  pub field : ℕ
  pub position : ℕ
  pub values : List ℕ

abbrev pub tell : List ℕ → Told
tell vs = record { number = 0; field = 0; position = 0; values = vs }

abbrev pub tell_refused : Refusal → List ℕ → Told
tell_refused r vs = record { number = number_of r.cause; field = r.field; position = r.position; values = vs }

abbrev pub told : Result ℕ Refusal → Told
told (Ok n) = tell (n ∷ [])
told (Err r) = tell_refused r (0 ∷ [])

-- 01: "Conversions test their source first …, then 14."
unfoldable pub converted : Test → List ℕ → List ℕ → Result ℕ Refusal
converted (Ok x) r out = cond (leb (length r) (length out)) (Ok (length r)) (Err (plain output_too_short))
converted (Err c) r out = Err (plain c)

-- 01: "No refusal changes a lent buffer"; "touches no byte beyond it".
unfoldable pub converted_into : Test → List ℕ → List ℕ → List ℕ
converted_into (Ok x) r out = placed r out
converted_into (Err c) r out = out

abbrev pub told_checked : Result Unit Refusal → Told
told_checked (Ok x) = tell []
told_checked (Err r) = tell_refused r []

-- 01: "Positions: … All else 0."
unfoldable pub checked : Test → ℕ → Result Unit Refusal
checked (Ok x) f = Ok x
checked (Err c) f = Err (refusal c f 0)
