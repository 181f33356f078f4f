-- Bytes behind the notes of a message, as the reader writes them, change nothing of the required check's answer. 01: "bytes after it are ignored". Lookup and
-- the writers ignore them too (`IgnoresBehind` in round_trip/specs/RoundTrip.antt).
--
-- `Begins d.table d.most s u r`: the input s begins with a message of the language that is u bytes long and has the reading r.
-- `notes_of d.form r u` are then its notes.
--
--   ChecksNotesAlone d  == bytes behind the notes of a message change nothing of what the check answers by the dialect d. Proved in
--                          proofs/Behind.antt for every sound dialect
--   HouseChecks         == it of the desk's dialect by the house table, by which `check_required` answers
--
-- Assumes nothing: these are statements.
use Rattle.std.specs.Prelude.{ℕ, ◌≡◌, List, ◌++◌}
use Rattle.field_table.specs.House.{house}
use Rattle.message_language.specs.Language.{Reading, Begins}
use Rattle.message_notes.specs.Dialect.{Dialect, dialect}
use Rattle.message_notes.specs.Notes.{notes_of}
use Rattle.validation_required.specs.Required.{required_in}

-- The values v are any, so that a walk may be refused as well, and is then refused alike.
pub record ChecksNotesAlone (d : Dialect) : Type 0 where
  pub same_answer :
      (s v rest : List ℕ) (u : ℕ) (r : Reading) →
      Begins d.table d.most s u r →
      required_in d v (notes_of d.form r u ++ rest) ≡ required_in d v (notes_of d.form r u)

pub record HouseChecks : Type 0 where
  pub notes_alone : ChecksNotesAlone (dialect house)
