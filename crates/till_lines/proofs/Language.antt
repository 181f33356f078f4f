-- The lines for an input that begins with a message of the language tell its one reading, whatever reads it. Assumes nothing.
use Prim.Native.Nat.{ℕ, ◌≤◌}
use mathlib.Core.Path.{◌≡◌, ap, ◌∙◌}
use mathlib.Core.List.{List}
use lib.ListN.{length}
use Rattle.message_language.specs.Language.{Reading, Begins}
use Rattle.message_notes.specs.Dialect.{Dialect}
use Rattle.message_reader.proofs.Language.{accepted, reading_is}
use Rattle.till_lines.specs.Lines.{input_most, reading_lines, report_of}
use Rattle.till_lines.proofs.Reports.{accepted_lines}

pub lines_of_message : (d : Dialect) (s : List ℕ) (u : ℕ) (r : Reading) → length s ≤ input_most → Begins d.table d.most s u r → report_of d s ≡ reading_lines r u
lines_of_message d s u r h x =
    accepted_lines d s h u r.count (accepted d s u r x) ∙ ap (λ (q : Reading). reading_lines q u) (reading_is d s u r x)
