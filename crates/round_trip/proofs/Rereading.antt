-- What either writer writes is the message with the contents that the notes name, cleaned by the cleaning writer; and reading it back
-- gives them again. Assumes nothing.
use Prim.Native.Nat.{ℕ, ◌+◌, ◌*◌, ◌≤◌}
use mathlib.Core.Path.{◌≡◌, refl, sym, ap, ◌∙◌}
use mathlib.Core.List.{List, ◌++◌}
use lib.ListN.{length, take, drop, take-append-drop}
use lib.Seq.{take_at}
use Rattle.std.specs.Prelude.{Ok}
use Rattle.octets.specs.Lists.{lay}
use Rattle.refusal.specs.Refusals.{good}
use Rattle.field_table.specs.Table.{Table}
use Rattle.field_write.specs.Fields.{exact_fault, clean_fault}
use Rattle.field_write.proofs.Cleaned.{cleaned_exact}
use Rattle.message_language.specs.Language.{Entry, entry, Message, Begins}
use Rattle.message_contents.specs.Contents.{Content, content_of, contents_in, numbers_of, bitmaps_with, message_with, standing, reading_of, cleaned_in}
use Rattle.message_contents.proofs.Contents.{Taken, none, more, makes_message, maps_are, contents_stand}
use Rattle.message_notes.specs.Dialect.{Dialect, notes_room, Sound}
use Rattle.message_notes.specs.Notes.{mti_in, count_in}
use Rattle.message_reader.proofs.Demand3.{reads}
use Rattle.message_walk.specs.Walk.{ended, Fault, walked, entries_in}
use Rattle.message_walk.specs.Faults.{any, within}
use Rattle.message_walk.proofs.Heads.{Head, ended_head, good_head}
use Rattle.message_walk.proofs.Weaker.{weaker_entries}
use Rattle.message_walk.proofs.Within.{is_inside, within_weaker}
use Rattle.message_walk.proofs.Written.{Walkable, entries_walkable, none as walked_none, more as walked_more}
use Rattle.message_write.specs.Written.{exactly, cleanly, exact_message, clean_message, message_of, answered, laid_out, exact_answer, exact_output, clean_answer, clean_output}
use Rattle.message_write.proofs.Answered.{Answered, written_answered, answered_laid}
use Rattle.round_trip.specs.RoundTrip.{contents_named, ReadsAs, WritesMessages}

-- both writers ask more of a field than that its content lies within the values
pub exact_inside : (d : Dialect) (v : List ℕ) (e : Entry) → exactly d v e ≡ good → within v any e ≡ good
unfolding exactly
exact_inside d v e h = within_weaker v (exact_fault d.table) any (λ f c z. refl) e h

clean_inside : (d : Dialect) (v : List ℕ) (e : Entry) → cleanly d v e ≡ good → within v any e ≡ good
unfolding cleanly
clean_inside d v e h = within_weaker v (clean_fault d.table) any (λ f c z. refl) e h

-- the exact writer takes the contents of entries that pass its walk, and of those that pass the cleaning writer's once they are cleaned
module _ (t : Table) (v : List ℕ) (m : ℕ) where
  exact_taken : {last : ℕ} {es : List Entry} → Walkable (within v (exact_fault t)) m last es → Taken t m last (contents_in v es)
  unfolding contents_in
  exact_taken walked_none = none
  exact_taken (walked_more {f = f} {a = a} {n = n} g w) = more g.allowed (is_inside v (exact_fault t) (entry f a n) g.ruled).fault (exact_taken w)

  clean_taken : {last : ℕ} {es : List Entry} → Walkable (within v (clean_fault t)) m last es → Taken t m last (cleaned_in t (contents_in v es))
  unfolding contents_in cleaned_in
  clean_taken walked_none = none
  clean_taken (walked_more {f = f} {a = a} {n = n} g w) =
      more g.allowed (cleaned_exact t f (content_of v a n) (is_inside v (clean_fault t) (entry f a n) g.ruled).fault) (clean_taken w)

-- A writer whose walk asks p of a field answers u and leaves o: it was to write the message of the fields cs, which the exact writer takes.
pub record Wrote (d : Dialect) (p : Fault) (n out o : List ℕ) (u : ℕ) (cs : List Content) : Type 0 where
  pub answer : answered (walked d p n) (message_with d.table (mti_in n) (count_in n) cs) out ≡ Ok u
  pub output : o ≡ laid_out (walked d p n) (message_with d.table (mti_in n) (count_in n) cs) out
  pub taken : Taken d.table (count_in n) 0 cs

module _ (d : Dialect) (p : Fault) (n out o : List ℕ) (u : ℕ) (cs : List Content) (w : Wrote d p n out o u cs) where
  abbrev t : Table
  t = d.table

  abbrev bytes : List ℕ
  bytes = message_with t (mti_in n) (count_in n) cs

  was : Answered (walked d p n) bytes out u
  was = written_answered (walked d p n) bytes out u w.answer

  head : Head d.most n
  head = good_head d.most n (ended_head d p n (ended was.at u) was.ended)

  pub written : o ≡ lay (message_with d.table (mti_in n) (count_in n) cs) out
  written = w.output ∙ answered_laid (walked d p n) bytes out u was

  front : take u o ≡ bytes
  unfolding lay
  front = ap (take u) written ∙ take_at bytes (drop (length bytes) out) u was.long

  module _ (sound : Sound d) where
    message : Message t d.most bytes (reading_of t (mti_in n) (count_in n) cs)
    message = makes_message t sound.small (mti_in n) (count_in n) cs head.four head.digits head.least head.three w.taken d.most head.few

    pub messages : Message d.table d.most (take u o) (reading_of d.table (mti_in n) (count_in n) cs)
    messages = rw front message

    module _ (s : List ℕ) (same : take u s ≡ take u o) where
      joined : s ≡ bytes ++ drop u s
      joined = sym (take-append-drop u s) ∙ ap (λ (l : List ℕ). l ++ drop u s) (same ∙ front)

      pub begins : Begins d.table d.most s u (reading_of d.table (mti_in n) (count_in n) cs)
      begins = record { message = bytes; after = drop u s; joined = joined; long = was.long; is = message }

      pub begins_maps : bitmaps_with (count_in n) (numbers_of (standing d.table (4 + 8 * count_in n) cs)) ≡ begins.is.maps
      unfolding begins message
      begins_maps = maps_are t sound.small (mti_in n) (count_in n) cs head.four head.digits head.least head.three w.taken d.most head.few

      pub reads_as : (b : List ℕ) → notes_room d ≤ length b → ReadsAs d s b u (mti_in n) (count_in n) cs
      reads_as b room =
          record {
            accepts = (reads d sound).all_messages s b u (reading_of t (mti_in n) (count_in n) cs) room begins;
            notes = (reads d sound).notes_are s b u (reading_of t (mti_in n) (count_in n) cs) room begins;
            contents =
                ap (λ (l : List ℕ). contents_in l (standing t (4 + 8 * count_in n) cs)) joined
                ∙ contents_stand t sound.small (mti_in n) (count_in n) cs head.four head.digits head.least head.three w.taken (drop u s);
          }

-- A writer whose walk asks p of a field, and which writes the contents as `put` has them, takes all that the notes name.
module _ (d : Dialect) (v n out : List ℕ) (u : ℕ) (p : Fault) (put : List Content → List Content) (inside : (e : Entry) → p e ≡ good → within v any e ≡ good) where
  abbrev of : List Entry → List ℕ
  of es = message_with d.table (mti_in n) (count_in n) (put (contents_in v es))

  module _ (h : answered (walked d p n) (of (entries_in d p n)) out ≡ Ok u) where
    named : entries_in d (within v any) n ≡ entries_in d p n
    named =
        let was = written_answered (walked d p n) (of (entries_in d p n)) out u h in
        weaker_entries d p n (ended was.at u) was.ended (within v any) inside

    wrote : Taken d.table (count_in n) 0 (put (contents_in v (entries_in d p n)))
        → Wrote d p n out (laid_out (walked d p n) (of (entries_in d p n)) out) u (put (contents_named d v n))
    wrote taken = record { answer = rw named h; output = rw named; taken = rw named taken }

-- Either of the two is one.
module _ (d : Dialect) (v n out : List ℕ) (u : ℕ) where
  module _ (h : exact_answer d v n out ≡ Ok u) where
    pub exact_named : entries_in d (within v any) n ≡ entries_in d (exactly d v) n
    unfolding exact_answer exact_message
    exact_named = named d v n out u (exactly d v) (λ cs. cs) (exact_inside d v) h

    pub exact_wrote : Wrote d (exactly d v) n out (exact_output d v n out) u (contents_named d v n)
    unfolding exact_answer exact_output exact_message exactly
    exact_wrote =
        wrote d v n out u (exactly d v) (λ cs. cs) (exact_inside d v) h (exact_taken d.table v (count_in n) (entries_walkable d (exactly d v) n))

  module _ (h : clean_answer d v n out ≡ Ok u) where
    pub clean_named : entries_in d (within v any) n ≡ entries_in d (cleanly d v) n
    unfolding clean_answer clean_message message_of
    clean_named = named d v n out u (cleanly d v) (cleaned_in d.table) (clean_inside d v) h

    pub clean_wrote : Wrote d (cleanly d v) n out (clean_output d v n out) u (cleaned_in d.table (contents_named d v n))
    unfolding clean_answer clean_output clean_message message_of cleanly
    clean_wrote =
        wrote d v n out u (cleanly d v) (cleaned_in d.table) (clean_inside d v) h (clean_taken d.table v (count_in n) (entries_walkable d (cleanly d v) n))

pub writes_messages : (d : Dialect) → Sound d → WritesMessages d
writes_messages d sound =
    record {
      is_message = λ v n out u h. messages d (exactly d v) n out (exact_output d v n out) u (contents_named d v n) (exact_wrote d v n out u h) sound;
      reads_back =
          λ v n out s b u h same room.
          reads_as d (exactly d v) n out (exact_output d v n out) u (contents_named d v n) (exact_wrote d v n out u h) sound s same b room;
    }
