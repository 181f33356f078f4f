-- The required fields. 01: "Required, in this order: 3, 11, 12, 13; then 2 and 4 when the MTI's second digit is 1 or 2 and its third 0;
-- then 39 when its third is 1. Malformed notes are answered as by lookup."
--
--   second_digit m          == the second byte of the MTI m
--   third_digit m           == the third
--   is_card_request m       == m is a request of an authorisation or of a financial transaction: these need card and amount
--   is_response m           == m is a response
--   required_by m           == the fields required of a message with the MTI m, in 01's order
--   required_more m         == those behind the four that every message needs
--   required_of_response m  == the last of them
--   is_found r              == lookup's answer r found the field
--   is_present d v n f      == lookup finds field f, by the dialect d
--   first_missing p fs      == the first of the fields fs that does not pass p, where one does not
--   missing_answer m        == the answer where the field m is missing, if one is
--   required_after w m      == the answer after a walk that ended as w says, where the field m is missing, if one is
--   required_in d v n       == the answer of the check of the notes n and the values v, by the dialect d
--
-- Assumes nothing: these are definitions.
use Rattle.std.specs.Prelude.{ℕ, Bool, not, cond, List, [], ◌∷◌, ◌++◌, get_or, find, eqb, Option, Some, None, Result, Ok, Err}
use Rattle.std.specs.Result.{is_ok}
use Rattle.octets.specs.Lists.{both, either}
use Rattle.refusal.specs.Numbers.{required_missing}
use Rattle.refusal.specs.Refusals.{refusal}
use Rattle.refusal.specs.declared.Refusal.{Refusal}
use Rattle.message_notes.specs.Dialect.{Dialect}
use Rattle.message_notes.specs.Notes.{mti_in}
use Rattle.message_walk.specs.declared.Ended.{Ended}
use Rattle.message_walk.specs.Walk.{walked}
use Rattle.message_walk.specs.Faults.{any, within}
use Rattle.message_lookup.specs.Lookup.{looked_up}
use Rattle.message_lookup.specs.declared.Place.{Place}

abbrev pub second_digit : List ℕ → ℕ
second_digit m = get_or m 1 0

abbrev pub third_digit : List ℕ → ℕ
third_digit m = get_or m 2 0

unfoldable pub is_card_request : List ℕ → Bool
is_card_request m = both (either (eqb (second_digit m) 0x31) (eqb (second_digit m) 0x32)) (eqb (third_digit m) 0x30)

unfoldable pub is_response : List ℕ → Bool
is_response m = eqb (third_digit m) 0x31

unfoldable pub required_of_response : List ℕ → List ℕ
required_of_response m = cond (is_response m) (39 ∷ []) []

unfoldable pub required_more : List ℕ → List ℕ
required_more m = cond (is_card_request m) (2 ∷ 4 ∷ []) [] ++ required_of_response m

unfoldable pub required_by : List ℕ → List ℕ
required_by m = (3 ∷ 11 ∷ 12 ∷ 13 ∷ []) ++ required_more m

abbrev pub is_found : Result Place Refusal → Bool
is_found = is_ok

unfoldable pub is_present : Dialect → List ℕ → List ℕ → ℕ → Bool
is_present d v n f = is_found (looked_up d v n f)

unfoldable pub first_missing : (ℕ → Bool) → List ℕ → Option ℕ
first_missing p fs = find (λ f. not (p f)) fs

-- 01: "Field is given for … 15-20"; positions: "All else 0."
unfoldable pub missing_answer : Option ℕ → Result Unit Refusal
missing_answer None = Ok tt
missing_answer (Some f) = Err (refusal required_missing f 0)

unfoldable pub required_after : Result Ended Refusal → Option ℕ → Result Unit Refusal
required_after (Err r) m = Err r
required_after (Ok e) m = missing_answer m

unfoldable pub required_in : Dialect → List ℕ → List ℕ → Result Unit Refusal
required_in d v n = required_after (walked d (within v any) n) (first_missing (is_present d v n) (required_by (mti_in n)))
