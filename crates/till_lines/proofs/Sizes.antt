-- How long the lines are: any report fits in its room. Assumes nothing.
use Prim.Native.Nat.{ℕ, suc, ◌+◌, ◌-◌, ◌*◌, ◌^◌, ◌≤◌, ◌<◌}
use mathlib.Core.Path.{◌≡◌}
use mathlib.Core.List.{List, [], ◌∷◌, ◌++◌}
use native.Mathlib.Omega.{arith}
use lib.ListN.{length, length-append}
use Rattle.octets.specs.Texts.{text}
use Rattle.octets.proofs.Numerals.{numeral_most}
use Rattle.refusal.specs.Numbers.{number_of}
use Rattle.refusal.specs.declared.Refusal.{Refusal}
use Rattle.field_table.specs.House.{house}
use Rattle.message_language.specs.Language.{Entry, Reading}
use Rattle.message_notes.specs.Dialect.{dialect}
use Rattle.message_notes.proofs.Spelling.{Fits, AllFit}
use Rattle.till_lines.specs.Lines.{space, newline, named, mti_line, field_line, field_lines, reading_lines, refused_line, input_most, text_room}
use Rattle.till_lines.proofs.Writing.{named_long, tripled_long, mti_line_long}

named_most : (w : List ℕ) (n e k : ℕ) → n < 10 ^ suc k → length (named w n e) ≤ length w + (suc k + 2)
named_most w n e k h = omega (arith, named_long w n e, numeral_most k n h)

-- a refusal whose numbers are those of a machine
pub refused_most : (r : Refusal) → number_of r.cause < 256 → r.field < 18446744073709551616 → r.position < 18446744073709551616 → length (refused_line r) ≤ text_room
unfolding refused_line
refused_most r n f p =
    omega (
      arith,
      tripled_long (text "refused") (number_of r.cause) (text "field") r.field (text "at") r.position,
      named_most (text "refused") (number_of r.cause) space 2 (omega arith),
      named_most (text "field") r.field space 19 (omega arith),
      named_most (text "at") r.position newline 19 (omega arith),
    )

-- a field whose numbers fit in its note
pub field_most : (e : Entry) → Fits e → length (field_line e) ≤ 37
unfolding field_line
field_most e f =
    omega (
      arith,
      tripled_long (text "field") e.number (text "at") e.offset (text "length") e.size,
      named_most (text "field") e.number space 2 (omega (arith, f.number)),
      named_most (text "at") e.offset space 9 (omega (arith, f.offset)),
      named_most (text "length") e.size newline 4 (omega (arith, f.size)),
    )

pub fields_most : (es : List Entry) → AllFit es → length (field_lines es) ≤ 37 * length es
unfolding field_lines AllFit
fields_most [] a = omega arith
fields_most (e ∷ es) a =
    omega (arith, length-append (field_line e) (field_lines es), field_most e a.0, fields_most es a.1)

-- a reading of the desk's dialect, of a message that is no longer than an input may be
pub reading_most : (r : Reading) (u : ℕ) → length r.mti ≡ 4 → r.count ≤ (dialect house).most → length r.entries ≤ 64 * (dialect house).most - 2 → AllFit r.entries → u ≤ input_most
    → length (reading_lines r u) ≤ text_room
unfolding reading_lines
reading_most r u four three few fit short =
    let b = named (text "bitmaps") r.count newline in
    let f = field_lines r.entries in
    let e = named (text "used") u newline in
    omega (
      arith,
      length-append (mti_line r.mti) (b ++ (f ++ e)),
      length-append b (f ++ e),
      length-append f e,
      mti_line_long r.mti,
      named_most (text "bitmaps") r.count newline 0 (omega arith),
      fields_most r.entries fit,
      named_most (text "used") u newline 4 (omega arith),
    )
