-- The walk over notes that lookup, both writers and the required check share. 01: "Writers walk the notes; head: 9 then 3; field: 9, 10,
-- 11, …; end: 9, …"; "Lookup walks head 9, 3, fields 9, 10, 11, end 9". What is asked of a field besides its note is a parameter.
--
--   flaw c f         == a note is refused for the cause c, at field f
--   ended at u       == a walk has come to the end note, at the place `at`, which says the length u
--   gathered_end r   == how a walk ended that gathered r
--   gathered_fields r  == the set of the fields that it gathered: empty on refusal
--   Fault            == what is asked of a field that a note names: from its entry to a test, that nothing is wrong or why it is refused
--   head_number m n  == good where the notes n begin with a good head and at most m bitmaps, else 9, 27 or 3
--   judged_field b p m last f o n
--                             == what a field's note is found to be by p, with the number f, the offset o and the length n, where there are
--                                m bitmaps and last is the number before it; b: its mark is that of its field
--   judged F p m last s       == what the note at the front of s is found to be, by the form F
--   passed F p m k last s     == the entries of the notes from s on that pass, up to the first that does not, or the end note; k bounds their
--                                count, and the length of the notes is always enough
--   ending F p m k last at s  == how the walk ends, where s stands at the place `at`; k bounds the notes still to be judged, as in `passed`
--   walked d p n              == how the walk over the notes n ends, by the dialect d
--   entries_in d p n          == the entries that it passes
--   fields_on w es            == the set of the fields of the entries es, where the walk that passed them ended as w says: empty on refusal
--   fields_in d p n           == the set of the fields that the walk over n passes
--   listed_from F k s         == the entries of the field notes at the front of s, k at most, up to the first note that is none: nothing is judged
--   listed_in F n             == those behind the head of the notes n
--
-- Assumes nothing: these are definitions.
use Rattle.std.specs.Prelude.{ℕ, zero, suc, ◌+◌, Bool, cond, List, [], ◌∷◌, length, drop, leb, Result, Ok, Err}
use Rattle.octets.specs.Lists.{both, between, all}
use Rattle.octets.specs.Numbers.{is_digit}
use Rattle.refusal.specs.Numbers.{mti_not_digits, note_malformed, number_not_allowed, bitmap_over_most}
use Rattle.refusal.specs.Refusals.{refusal, plain, Test, good, bad}
use Rattle.refusal.specs.declared.Cause.{Cause}
use Rattle.refusal.specs.declared.Refusal.{Refusal}
use Rattle.bitmap.specs.Bitmaps.{no_fields, set_of}
use Rattle.message_language.specs.Language.{Entry, entry}
use Rattle.message_contents.specs.Contents.{numbers_of, number_allowed}
use Rattle.message_notes.specs.Dialect.{Form, note_size, head_size, Dialect}
use Rattle.message_notes.specs.Notes.{is_head, mti_in, count_in, is_marked, note_at}
use Rattle.message_notes.specs.declared.Note.TheVariants.{Field as FieldNote, End as EndNote, Malformed}
use Rattle.message_walk.specs.declared.Judged.{Judged}
use Rattle.message_walk.specs.declared.Judged.TheVariants.{Passed, End}
use Rattle.message_walk.specs.declared.Flaw.{Flaw}
use Rattle.message_walk.specs.declared.Ended.{Ended}
use Rattle.message_walk.specs.declared.Gathered.{Gathered}

abbrev pub flaw : Cause → ℕ → Flaw
flaw c f = record { cause = c; field = f }

abbrev pub ended : ℕ → ℕ → Ended
ended at u = record { at = at; said = u }

abbrev pub gathered_end : Result Gathered Refusal → Result Ended Refusal
gathered_end (Ok g) = Ok g.end
gathered_end (Err r) = Err r

abbrev pub gathered_fields : Result Gathered Refusal → List ℕ
gathered_fields (Ok g) = g.fields.bits
gathered_fields (Err r) = no_fields

abbrev pub Fault : Type 0
Fault = Entry → Test

-- 01: "note missing, cut, wrong kind, or count not 1-3", then "MTI has a non-digit"
unfoldable pub head_number : ℕ → List ℕ → Test
head_number m n =
    cond (both (is_head n) (between 1 3 (count_in n)))
    (cond (leb (count_in n) m) (cond (all is_digit (mti_in n)) good (bad mti_not_digits)) (bad bitmap_over_most))
    (bad note_malformed)

-- 01: "number not above the last; or 0, 1, 65; or … over 64 × count"
unfoldable pub judged_field : Bool → Fault → ℕ → ℕ → ℕ → ℕ → ℕ → Result Judged Flaw
judged_field b p m last f o n =
    cond (number_allowed m last f)
    (cond b
    (elim (p (entry f o n)) [ Ok x ↦ Ok (Passed f o n) | Err c ↦ Err (flaw c f) ])
    (Err (flaw note_malformed 0)))
    (Err (flaw number_not_allowed f))

unfoldable pub judged : Form → Fault → ℕ → ℕ → List ℕ → Result Judged Flaw
judged F p m last s =
    elim (note_at F s) [
      | Malformed ↦ Err (flaw note_malformed 0)
      | EndNote u ↦ Ok (End u)
      | FieldNote f o n ↦ judged_field (is_marked F f s) p m last f o n
    ]

unfoldable pub passed : Form → Fault → ℕ → ℕ → ℕ → List ℕ → List Entry
passed F p m zero last s = []
passed F p m (suc k) last s =
    elim (judged F p m last s) [
      | Err x ↦ []
      | Ok (End u) ↦ []
      | Ok (Passed f o n) ↦ entry f o n ∷ passed F p m k f (drop (note_size F) s)
    ]

unfoldable pub ending : Form → Fault → ℕ → ℕ → ℕ → ℕ → List ℕ → Result Ended Refusal
ending F p m zero last at s = Err (refusal note_malformed 0 at)
ending F p m (suc k) last at s =
    elim (judged F p m last s) [
      | Err x ↦ Err (refusal x.cause x.field at)
      | Ok (End u) ↦ Ok (ended at u)
      | Ok (Passed f o n) ↦ ending F p m k f (at + note_size F) (drop (note_size F) s)
    ]

-- 01: positions are the "start of the note in question, or where it should start"; a bad head is at 0
unfoldable pub walked : Dialect → Fault → List ℕ → Result Ended Refusal
walked d p n =
    elim (head_number d.most n) [
      | Ok x ↦ ending d.form p (count_in n) (length n) 0 head_size (drop head_size n)
      | Err c ↦ Err (plain c)
    ]

unfoldable pub entries_in : Dialect → Fault → List ℕ → List Entry
entries_in d p n = passed d.form p (count_in n) (length n) 0 (drop head_size n)

unfoldable pub fields_on : Result Ended Refusal → List Entry → List ℕ
fields_on (Ok e) es = set_of (numbers_of es)
fields_on (Err r) es = no_fields

unfoldable pub fields_in : Dialect → Fault → List ℕ → List ℕ
fields_in d p n = fields_on (walked d p n) (entries_in d p n)

unfoldable pub listed_from : Form → ℕ → List ℕ → List Entry
listed_from F zero s = []
listed_from F (suc k) s =
    elim (note_at F s) [
      | Malformed ↦ []
      | EndNote u ↦ []
      | FieldNote f o n ↦ entry f o n ∷ listed_from F k (drop (note_size F) s)
    ]

unfoldable pub listed_in : Form → List ℕ → List Entry
listed_in F n = listed_from F (length n) (drop head_size n)
