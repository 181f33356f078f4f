-- An input that is accepted: what is known of its reading, and the first two lines of its report, behind which the walk of the notes
-- begins. Assumes nothing.
use Prim.Native.Nat.{ℕ, ◌+◌, ◌-◌, ◌≤◌}
use mathlib.Core.Path.{◌≡◌, refl, sym, ap, ◌∙◌}
use mathlib.Core.List.{List, ◌++◌, append_assoc}
use native.Mathlib.Omega.{arith}
use lib.ListN.{length, take, drop, length-append, length-take, take-append-drop}
use lib.Seq.{take_at, drop_at, drop-drop, drop-append-add}
use borrow.Rule.Slice.PartMut.{mid_of, put_mid}
use Rattle.std.specs.Prelude.{Ok}
use Rattle.octets.specs.Lists.{lay}
use Rattle.octets.specs.Texts.{text}
use Rattle.octets.proofs.Parts.{Written, lay_part}
use Rattle.field_table.specs.House.{house}
use Rattle.message_language.specs.Language.{Reading, Begins}
use Rattle.message_notes.specs.Dialect.{head_size, plain_form, dialect}
use Rattle.message_notes.specs.Notes.{head_note, field_notes, end_note, notes_of}
use Rattle.message_notes.proofs.Sizes.{head_long}
use Rattle.message_notes.proofs.Spelling.{AllFit}
use Rattle.message_notes.proofs.Sound.{house_sound}
use Rattle.message_reader.specs.Reader.{acceptance, read_message, reading_with}
use Rattle.message_reader.proofs.Language.{accepts}
use Rattle.message_reader.proofs.Noting.{entries_few}
use Rattle.message_reader.proofs.Small.{entries_fit}
use Rattle.till_lines.specs.Lines.{newline, named, mti_line, field_lines, reading_lines, input_most, text_room}
use Rattle.till_lines.proofs.Sizes.{reading_most}
use Rattle.till_lines.proofs.Writing.{as_long, part_size}
use Rattle.till_lines.proofs.Walking.{Walked}

-- bytes laid over their own front are laid over what was there before
lay_over : (a b d : List ℕ) → lay (a ++ b) (lay a d) ≡ lay (a ++ b) d
unfolding lay
lay_over a b d =
    ap (λ (l : List ℕ). (a ++ b) ++ l)
    (ap (λ (n : ℕ). drop n (a ++ drop (length a) d)) (length-append a b)
    ∙ drop-append-add a (drop (length a) d) (length b)
    ∙ drop-drop (length b) (length a) d
    ∙ ap (λ (n : ℕ). drop n d) (sym (length-append a b)))

-- An input that is not too long was accepted, and the text d has the room of any report.
pub record Opened (s : List ℕ) (u m : ℕ) (d : List ℕ) : Type 0 where
  pub short : length s ≤ input_most
  pub read : read_message house (dialect house).most s ≡ Ok (acceptance u m)
  pub room : text_room ≤ length d

pub opened_of :
    {s : List ℕ} {u m : ℕ} {d : List ℕ} →
    length s ≤ input_most →
    read_message house (dialect house).most s ≡ Ok (acceptance u m) →
    text_room ≤ length d →
    Opened s u m d
opened_of short read room = record { short = short; read = read; room = room }

module _ {s : List ℕ} {u m : ℕ} {d : List ℕ} (c : Opened s u m d) where
  abbrev reading : Reading
  reading = reading_with house s m

  begins : Begins house (dialect house).most s u reading
  begins = accepts (dialect house) house_sound s u m c.read

  count_most : m ≤ (dialect house).most
  unfolding reading_with
  count_most = begins.is.few

  mti_four : length (take 4 s) ≡ 4
  unfolding reading_with
  mti_four = begins.is.four

  pub input_four : 4 ≤ length s
  input_four = omega (arith, mti_four, length-take 4 s)

  used_most : u ≤ input_most
  used_most = omega (arith, begins.long, ap length begins.joined, length-append begins.message begins.after, c.short)

  fit : AllFit reading.entries
  fit = entries_fit (dialect house) house_sound begins.message reading begins.is

  pub lines_room : length (reading_lines reading u) ≤ text_room
  lines_room = reading_most reading u begins.is.four begins.is.few (entries_few (dialect house) s m house_sound.least count_most) fit used_most

  abbrev mti : List ℕ
  mti = mti_line (take 4 s)

  abbrev maps : List ℕ
  maps = named (text "bitmaps") m newline

  abbrev rest : List ℕ
  rest = field_lines reading.entries ++ named (text "used") u newline

  lines_are : reading_lines reading u ≡ (mti ++ maps) ++ rest
  unfolding reading_lines reading_with
  lines_are = sym (append_assoc mti maps rest)

  lines_long : length mti + (length maps + length rest) ≡ length (reading_lines reading u)
  lines_long = omega (arith, ap length lines_are, length-append (mti ++ maps) rest, length-append mti maps)

  pub mti_fits : length mti ≤ length d
  mti_fits = omega (arith, lines_room, lines_long, c.room)

-- o is the text once the line of the MTI is written, in n bytes
pub record Begun (s : List ℕ) (u m : ℕ) (d o : List ℕ) (n : ℕ) : Type 0 where
  pub opened : Opened s u m d
  pub count : n ≡ length (mti_line (take 4 s))
  pub laid : o ≡ lay (mti_line (take 4 s)) d

pub begun_of :
    {s : List ℕ} {u m : ℕ} {d o : List ℕ} {n : ℕ} →
    Opened s u m d →
    n ≡ length (mti_line (take 4 s)) →
    o ≡ lay (mti_line (take 4 s)) d →
    Begun s u m d o n
begun_of opened count laid = record { opened = opened; count = count; laid = laid }

module _ {s : List ℕ} {u m : ℕ} {d o : List ℕ} {n : ℕ} (c : Begun s u m d o n) where
  pub begun_room : n + length (maps c.opened) ≤ text_room
  begun_room = omega (arith, lines_room c.opened, lines_long c.opened, c.count)

  pub begun_size : length o ≡ length d
  begun_size = as_long (mti c.opened) d o c.laid (mti_fits c.opened)

  pub maps_fits : length (maps c.opened) ≤ length (mid_of n (length o - n) o)
  maps_fits = omega (arith, begun_room, c.opened.room, begun_size, part_size n o)

-- f is the rest behind it once the line of the bitmaps is written there, in k bytes
pub record Headed (s : List ℕ) (u m : ℕ) (d o : List ℕ) (n : ℕ) (f : List ℕ) (k : ℕ) : Type 0 where
  pub begun : Begun s u m d o n
  pub count : k ≡ length (named (text "bitmaps") m newline)
  pub laid : f ≡ lay (named (text "bitmaps") m newline) (mid_of n (length o - n) o)

pub headed_of :
    {s : List ℕ} {u m : ℕ} {d o : List ℕ} {n : ℕ} {f : List ℕ} {k : ℕ} →
    Begun s u m d o n →
    k ≡ length (named (text "bitmaps") m newline) →
    f ≡ lay (named (text "bitmaps") m newline) (mid_of n (length o - n) o) →
    Headed s u m d o n f k
headed_of begun count laid = record { begun = begun; count = count; laid = laid }

module _ {s : List ℕ} {u m : ℕ} {d o : List ℕ} {n : ℕ} {f : List ℕ} {k : ℕ} (c : Headed s u m d o n f k) where
  abbrev given : Opened s u m d
  given = c.begun.opened

  abbrev front : List ℕ
  front = mti given ++ maps given

  abbrev two : List ℕ
  two = put_mid n (length o - n) o f

  front_long : length front ≡ n + k
  front_long = omega (arith, length-append (mti given) (maps given), c.begun.count, c.count)

  front_laid : two ≡ lay front d
  front_laid = lay_part (mti given) (maps given) d o f n c.begun.laid (sym c.begun.count) c.laid

  pub headed_room : n + k ≤ text_room
  headed_room = omega (arith, begun_room c.begun, c.count)

  pub headed_size : length two ≡ length d
  headed_size = as_long front d two front_laid (omega (arith, headed_room, front_long, given.room))

  -- what is laid over the text from here on is laid over it as it was
  pub headed_over : lay (reading_lines (reading given) u) two ≡ lay (reading_lines (reading given) u) d
  headed_over =
      ap (λ (l : List ℕ). lay (reading_lines (reading given) u) l) front_laid
      ∙ ap (λ (l : List ℕ). lay l (lay front d)) (lines_are given)
      ∙ lay_over front (rest given) d
      ∙ ap (λ (l : List ℕ). lay l d) (sym (lines_are given))

  front_is : take (n + k) two ≡ front
  unfolding lay
  front_is = ap (take (n + k)) front_laid ∙ take_at front _ (n + k) front_long

  front_written : Written (reading_lines (reading given) u) two two (rest given) (n + k)
  front_written =
      record {
        front = ap (λ (l : List ℕ). l ++ rest given) front_is ∙ sym (lines_are given);
        back = refl;
        size = refl;
        within = omega (arith, headed_room, headed_size, given.room);
      }

  module _ (notes : List ℕ) (noted : take (length (notes_of plain_form (reading given) u)) notes ≡ notes_of plain_form (reading given) u) where
    after : List ℕ
    after = drop (length (notes_of plain_form (reading given) u)) notes

    notes_are : notes ≡ head_note (take 4 s) m ++ (field_notes plain_form (reading given).entries ++ (end_note u ++ after))
    unfolding notes_of reading_with after
    notes_are =
        sym (take-append-drop (length (notes_of plain_form (reading given) u)) notes) ∙ ap (λ (l : List ℕ). l ++ after) noted ∙ simp append_assoc

    pub walked_first : Walked (reading_lines (reading given) u) two notes u two head_size (n + k)
    walked_first =
        record {
          small = omega (arith, used_most given);
          room = omega (arith, lines_room given, headed_size, given.room);
          left = (reading given).entries;
          after = after;
          fit = fit given;
          rest = ap (drop head_size) notes_are ∙ drop_at (head_note (take 4 s) m) _ head_size (omega (arith, head_long (take 4 s) m, mti_four given));
          written = front_written;
        }
