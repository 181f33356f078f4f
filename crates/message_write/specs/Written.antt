-- What the exact and the cleaning writer answer, write and name as padded, by the dialect d, from the values v and the notes n, where the
-- output holds out.
--
--   exactly d v, cleanly d v  == what their walks ask of a field that a note names
--   exact_message d v n       == the message that the exact writer is to write: the contents that the notes name, as they are
--   clean_message d v n       == the same of the cleaning writer: each content padded where it is short
--   cleaned_answer r          == what the cleaning writer answers, of its padded set: the length written
--   cleaned_padded r          == the set of fields that it names as padded: none on refusal
--   answered w bytes out      == the answer of a writer whose walk ended as w says and which is to write the bytes
--   laid_out w bytes out      == each byte of its output
--   exact_answer d v n out    == what the exact writer answers
--   exact_output d v n out    == each byte of its output
--   clean_answer d v n out    == what the cleaning writer answers
--   clean_output d v n out    == each byte of its output
--   padded_on o s             == the fields padded by a writer that answered o and was to pad the set s: none on refusal
--   clean_padded d v n out    == the set of fields that the cleaning writer padded, as 24 bytes of bits; all zero on refusal
--
--   body_of t v es               == the fields of the entries es with their contents padded where they are short, one after the other
--   message_of t v mti m es      == the message of them
--   message_in t v n             == the message, contents padded where they are short, of the fields that the notes n list in the desk's form, with their
--                                  head's MTI and count
--   entries_by t v r n, answer_by t v r n out, output_by t v r n out, padded_by t v r n out
--                               == what a writer by the rule r passes, answers, leaves in its output and pads, by the table t
--   size_in t es                 == how many bytes they take, reckoned from their lengths; a length that no note can hold counts as 0
--   size_most                    == no fields take more than that: 67,000 bytes for each of 192 numbers
--   weighed_end r                == how the first walk of a writer ended that gathered r
--   Asked t v n s                == the notes n have a good head, every content that they list may be written, and s is the set of their fields
--   Sums t es s q size           == s is the set of the fields of the entries es, q that of the short ones among them, and size what they take
--
-- Assumes nothing: these are definitions.
use Rattle.std.specs.Prelude.{◌≡◌, ℕ, ◌+◌, ◌*◌, ◌≤◌, cond, List, [], ◌∷◌, eqb, leb, length, Result, Ok, Err}
use Rattle.octets.specs.Lists.{placed}
use Rattle.refusal.specs.Numbers.{end_differs, output_too_short}
use Rattle.refusal.specs.Refusals.{refusal, good}
use Rattle.refusal.specs.declared.Refusal.{Refusal}
use Rattle.field_table.specs.Table.{Table}
use Rattle.field_write.specs.Fields.{exact_fault, clean_fault, written_size, longest}
use Rattle.bitmap.specs.Bitmaps.{no_fields, set_of}
use Rattle.message_language.specs.Language.{Entry}
use Rattle.message_contents.specs.Contents.{contents_in, numbers_of, spelt, message_with, cleaned_in, short_in}
use Rattle.message_notes.specs.Dialect.{Dialect, dialect, plain_form}
use Rattle.message_notes.specs.Notes.{mti_in, count_in}
use Rattle.message_walk.specs.declared.Rule.{Rule}
use Rattle.message_walk.specs.declared.Rule.TheVariants.{Clean}
use Rattle.message_walk.specs.declared.Ended.{Ended}
use Rattle.message_walk.specs.Walk.{Fault, head_number, walked, entries_in, listed_in}
use Rattle.message_walk.specs.Faults.{within, fault_by}
use Rattle.message_write.specs.declared.Cleaned.{Cleaned}
use Rattle.message_write.specs.declared.Weighed.{Weighed}

-- 01: "field: 9, 10, 11, 12, 8", of which 11, 12 and 8 are asked of the field
unfoldable pub exactly : Dialect → List ℕ → Fault
exactly d v = within v (exact_fault d.table)

unfoldable pub cleanly : Dialect → List ℕ → Fault
cleanly d v = within v (clean_fault d.table)

unfoldable pub exact_message : Dialect → List ℕ → List ℕ → List ℕ
exact_message d v n = message_with d.table (mti_in n) (count_in n) (contents_in v (entries_in d (exactly d v) n))

unfoldable pub body_of : Table → List ℕ → List Entry → List ℕ
body_of t v es = spelt t (cleaned_in t (contents_in v es))

unfoldable pub message_of : Table → List ℕ → List ℕ → ℕ → List Entry → List ℕ
message_of t v mti m es = message_with t mti m (cleaned_in t (contents_in v es))

abbrev pub message_in : Table → List ℕ → List ℕ → List ℕ
message_in t v n = message_of t v (mti_in n) (count_in n) (listed_in plain_form n)

unfoldable pub clean_message : Dialect → List ℕ → List ℕ → List ℕ
clean_message d v n = message_of d.table v (mti_in n) (count_in n) (entries_in d (cleanly d v) n)

abbrev pub cleaned_answer : Result Cleaned Refusal → Result ℕ Refusal
cleaned_answer (Ok c) = Ok c.length
cleaned_answer (Err r) = Err r

abbrev pub cleaned_padded : Result Cleaned Refusal → List ℕ
cleaned_padded (Ok c) = c.padded.bits
cleaned_padded (Err r) = no_fields

-- 01: "end: 9, 13, 14"; 13 is "end note differs from the length to be written"; positions are the end note's
unfoldable pub answered : Result Ended Refusal → List ℕ → List ℕ → Result ℕ Refusal
answered (Err r) bytes out = Err r
answered (Ok end) bytes out =
    cond (eqb end.said (length bytes))
    (cond (leb (length bytes) (length out)) (Ok (length bytes)) (Err (refusal output_too_short 0 end.at)))
    (Err (refusal end_differs 0 end.at))

unfoldable pub laid_out : Result Ended Refusal → List ℕ → List ℕ → List ℕ
laid_out (Err r) bytes out = out
laid_out (Ok end) bytes out = cond (eqb end.said (length bytes)) (placed bytes out) out

unfoldable pub exact_answer : Dialect → List ℕ → List ℕ → List ℕ → Result ℕ Refusal
exact_answer d v n out = answered (walked d (exactly d v) n) (exact_message d v n) out

unfoldable pub exact_output : Dialect → List ℕ → List ℕ → List ℕ → List ℕ
exact_output d v n out = laid_out (walked d (exactly d v) n) (exact_message d v n) out

unfoldable pub clean_answer : Dialect → List ℕ → List ℕ → List ℕ → Result ℕ Refusal
clean_answer d v n out = answered (walked d (cleanly d v) n) (clean_message d v n) out

unfoldable pub clean_output : Dialect → List ℕ → List ℕ → List ℕ → List ℕ
clean_output d v n out = laid_out (walked d (cleanly d v) n) (clean_message d v n) out

-- 01: "It answers the exact set of fields padded, as 24 bytes of bits placed as in the bitmaps, all zero on refusal."
unfoldable pub padded_on : Result ℕ Refusal → List ℕ → List ℕ
padded_on (Ok k) s = s
padded_on (Err r) s = no_fields

unfoldable pub clean_padded : Dialect → List ℕ → List ℕ → List ℕ → List ℕ
clean_padded d v n out = padded_on (clean_answer d v n out) (set_of (short_in d.table (entries_in d (cleanly d v) n)))

-- Both at once, by a rule.
unfoldable pub entries_by : Table → List ℕ → Rule → List ℕ → List Entry
entries_by t v r n = entries_in (dialect t) (fault_by t v r) n

unfoldable pub answer_by : Table → List ℕ → Rule → List ℕ → List ℕ → Result ℕ Refusal
answer_by t v r n out = answered (walked (dialect t) (fault_by t v r) n) (message_of t v (mti_in n) (count_in n) (entries_by t v r n)) out

unfoldable pub output_by : Table → List ℕ → Rule → List ℕ → List ℕ → List ℕ
output_by t v r n out = laid_out (walked (dialect t) (fault_by t v r) n) (message_of t v (mti_in n) (count_in n) (entries_by t v r n)) out

unfoldable pub padded_by : Table → List ℕ → Rule → List ℕ → List ℕ → List ℕ
padded_by t v r n out = padded_on (answer_by t v r n out) (set_of (short_in t (entries_by t v r n)))

-- What the first walk of a writer gathers.
unfoldable pub size_in : Table → List Entry → ℕ
size_in t [] = 0
size_in t (e ∷ es) = cond (leb e.size longest) (written_size t e.number e.size) 0 + size_in t es

abbrev pub size_most : ℕ
size_most = 67000 * 192

abbrev pub weighed_end : Result Weighed Refusal → Result Ended Refusal
weighed_end (Ok w) = Ok w.end
weighed_end (Err r) = Err r

-- What is known of notes where their message is to be written.
pub record Asked (t : Table) (v n s : List ℕ) : Type 0 where
  pub head : head_number 3 n ≡ good
  pub clean : listed_in plain_form n ≡ entries_by t v Clean n
  pub named : s ≡ set_of (numbers_of (listed_in plain_form n))

pub record Sums (t : Table) (es : List Entry) (s q : List ℕ) (size : ℕ) : Type 0 where
  pub named : s ≡ set_of (numbers_of es)
  pub short : q ≡ set_of (short_in t es)
  pub sized : size ≡ size_in t es
  pub small : size ≤ size_most
