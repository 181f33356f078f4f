-- What the till program prints for an input. 01: "reads standard input (at most 60,000 bytes) and prints, for case 2 below, these
-- four lines: `mti 0800`, `bitmaps 1`, `field 3 at 12 length 6`, `used 18`. A refusal is one line: `refused 7 field 2 at 12`."
--
--   newline              == the byte that ends a line
--   space                == the byte between words
--   named w n e          == the word w, a space, the number n in decimal and the byte e
--   tripled a x b y c z  == a line of three words, each with its number
--   mti_line mti         == the line of an MTI
--   field_line e         == the line of a field: its number, and where its content is and how long, as in its note
--   field_lines es       == a line for each entry, in order
--   reading_lines r u    == the lines of the reading r of a message u bytes long
--   refused_line r       == the line of a refusal
--   answer_lines t s a   == the lines for the reader's answer a to the input s, by the table t
--   input_most           == how long an input may be
--   report_of d s        == the lines for the input s, read by the dialect d
--   text_room            == what any report fits in
--   report_size d s b    == how many bytes are written to a text that holds b: none where it lacks that room
--   report_text d s b    == each byte of that text afterwards
--
-- Assumes nothing: these are definitions.
use Rattle.std.specs.Prelude.{ℕ, cond, List, [], ◌∷◌, ◌++◌, ltb, length, Result, Ok, Err}
use Rattle.octets.specs.Lists.{lay}
use Rattle.octets.specs.Numerals.{numeral}
use Rattle.octets.specs.Texts.{text}
use Rattle.refusal.specs.Numbers.{number_of, input_too_long}
use Rattle.refusal.specs.Refusals.{plain}
use Rattle.refusal.specs.declared.Refusal.{Refusal}
use Rattle.field_table.specs.Table.{Table}
use Rattle.message_language.specs.Language.{Entry, Reading}
use Rattle.message_notes.specs.Dialect.{Dialect}
use Rattle.message_reader.specs.Reader.{read_message, reading_with}
use Rattle.message_reader.specs.declared.Accepted.{Accepted}

abbrev pub space : ℕ
space = 32

abbrev pub newline : ℕ
newline = 10

unfoldable pub named : List ℕ → ℕ → ℕ → List ℕ
named w n e = w ++ (space ∷ (numeral n ++ (e ∷ [])))

unfoldable pub tripled : List ℕ → ℕ → List ℕ → ℕ → List ℕ → ℕ → List ℕ
tripled a x b y c z = named a x space ++ (named b y space ++ named c z newline)

unfoldable pub mti_line : List ℕ → List ℕ
mti_line mti = text "mti " ++ (mti ++ (newline ∷ []))

unfoldable pub field_line : Entry → List ℕ
field_line e = tripled (text "field") e.number (text "at") e.offset (text "length") e.size

unfoldable pub field_lines : List Entry → List ℕ
field_lines [] = []
field_lines (e ∷ es) = field_line e ++ field_lines es

unfoldable pub reading_lines : Reading → ℕ → List ℕ
reading_lines r u =
    mti_line r.mti ++ (named (text "bitmaps") r.count newline ++ (field_lines r.entries ++ named (text "used") u newline))

unfoldable pub refused_line : Refusal → List ℕ
refused_line r = tripled (text "refused") (number_of r.cause) (text "field") r.field (text "at") r.position

unfoldable pub answer_lines : Table → List ℕ → Result Accepted Refusal → List ℕ
answer_lines t s (Err r) = refused_line r
answer_lines t s (Ok x) = reading_lines (reading_with t s x.bitmaps) x.used

abbrev pub input_most : ℕ
input_most = 60000

-- 26: "till program's input over 60,000 bytes", whatever they are
unfoldable pub report_of : Dialect → List ℕ → List ℕ
report_of d s =
    cond (ltb input_most (length s)) (refused_line (plain input_too_long)) (answer_lines d.table s (read_message d.table d.most s))

abbrev pub text_room : ℕ
text_room = 8192

unfoldable pub report_size : Dialect → List ℕ → List ℕ → ℕ
report_size d s b = cond (ltb (length b) text_room) 0 (length (report_of d s))

unfoldable pub report_text : Dialect → List ℕ → List ℕ → List ℕ
report_text d s b = cond (ltb (length b) text_room) b (lay (report_of d s) b)
