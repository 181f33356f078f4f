-- What the walks ask of a field besides its note.
--
--   any f c         == nothing is asked of a content, as by lookup
--   asked t r       == what the rule r asks of the content of a field, by the table t: from its number and content to a test
--   within v q      == the content must lie within the values v, and is then asked about by q
--   fault_by t v r  == both, by the rule r
--
-- Assumes nothing: these are definitions.
use Rattle.std.specs.Prelude.{ℕ, ◌+◌, cond, List, leb, length}
use Rattle.refusal.specs.Numbers.{outside_values}
use Rattle.refusal.specs.Refusals.{Test, good, bad}
use Rattle.field_table.specs.Table.{Table}
use Rattle.field_write.specs.Fields.{exact_fault, clean_fault}
use Rattle.message_contents.specs.Contents.{content_of}
use Rattle.message_walk.specs.declared.Rule.{Rule}
use Rattle.message_walk.specs.declared.Rule.TheVariants.{Exact, Clean}
use Rattle.message_walk.specs.Walk.{Fault}

abbrev pub any : ℕ → List ℕ → Test
any f c = good

-- 01: the writers ask 12 and 8, "cleaning: too long only"
unfoldable pub asked : Table → Rule → ℕ → List ℕ → Test
asked t Exact = exact_fault t
asked t Clean = clean_fault t

-- 01: "offset plus length is over the values' size"
unfoldable pub within : List ℕ → (ℕ → List ℕ → Test) → Fault
within v q e = cond (leb (e.offset + e.size) (length v)) (q e.number (content_of v e.offset e.size)) (bad outside_values)

unfoldable pub fault_by : Table → List ℕ → Rule → Fault
fault_by t v r = within v (asked t r)
