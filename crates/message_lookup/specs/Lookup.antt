-- Lookup: a field's content, given values, notes and a number. 01: "Lookup walks head 9, 3, fields 9, 10, 11, end 9, then 15."
--
--   place o n            == n bytes at o
--   found_in f at es     == where the entries es have field f; 15 at the end note's place `at` where they do not
--   found_by w f es      == the answer after a walk that ended as w says and passed the entries es
--   looked_up d v n f    == what lookup answers, by the dialect d: the whole walk is judged first, wherever the field was met
--   told_found r         == what the answer tells; its values are the content's offset and length
--   start_of r           == where the part that is handed back starts: at the content, or at the values' front where it is refused
--   size_of r            == how long it is: as long as the content, or empty
--
-- Assumes nothing: these are definitions.
use Rattle.std.specs.Prelude.{ℕ, cond, List, [], ◌∷◌, eqb, Result, Ok, Err}
use Rattle.refusal.specs.Numbers.{field_absent}
use Rattle.refusal.specs.Refusals.{refusal, Told, tell, tell_refused}
use Rattle.refusal.specs.declared.Refusal.{Refusal}
use Rattle.message_language.specs.Language.{Entry}
use Rattle.message_notes.specs.Dialect.{Dialect}
use Rattle.message_walk.specs.declared.Ended.{Ended}
use Rattle.message_walk.specs.Walk.{walked, entries_in}
use Rattle.message_walk.specs.Faults.{any, within}
use Rattle.message_lookup.specs.declared.Place.{Place}

abbrev pub place : ℕ → ℕ → Place
place o n = record { offset = o; length = n }

-- 01: "15 the end note"
unfoldable pub found_in : ℕ → ℕ → List Entry → Result Place Refusal
found_in f at [] = Err (refusal field_absent f at)
found_in f at (e ∷ es) = cond (eqb e.number f) (Ok (place e.offset e.size)) (found_in f at es)

unfoldable pub found_by : Result Ended Refusal → ℕ → List Entry → Result Place Refusal
found_by (Err r) f es = Err r
found_by (Ok end) f es = found_in f end.at es

unfoldable pub looked_up : Dialect → List ℕ → List ℕ → ℕ → Result Place Refusal
looked_up d v n f = found_by (walked d (within v any) n) f (entries_in d (within v any) n)

abbrev pub told_found : Result Place Refusal → Told
told_found (Ok p) = tell (p.offset ∷ p.length ∷ [])
told_found (Err r) = tell_refused r (0 ∷ 0 ∷ [])

-- 01: "handed back as a part of the caller's own buffer; when refused it is the empty part at its front"
abbrev pub start_of : Result Place Refusal → ℕ
start_of (Ok p) = p.offset
start_of (Err r) = 0

abbrev pub size_of : Result Place Refusal → ℕ
size_of (Ok p) = p.length
size_of (Err r) = 0
