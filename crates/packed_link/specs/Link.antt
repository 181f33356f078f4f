-- What the packed link answers, and what it leaves in its output, on any input: a message in the script S, carried over into the other. 02,
-- P3: "translation either way into a lent output, answering bytes used and bytes written. 1 isn't tested; a packed input under 10 bytes is
-- 2; …; 14 comes last. Other refusals, positions and order are the reader's".
--
--   translated u w               == u bytes used, and w bytes that the other script takes
--   told_link a                  == what its answer tells; its values are the bytes used and the bytes written
--   mti_fault S                  == the refusal of an MTI that is not digits
--   link_head S m s              == how many bitmaps an input has, at most m, or the refusal of its length, its MTI or its bitmaps
--   content_carried S c n x      == the content x of class c, n digits or bytes long, in the other script
--   item_carried S t f a n k s   == field f in the other script: its length digits take a bytes of s, its content the next k
--   fields_judged S t at w fs s  == judging the fields fs one after the other, the first at the place `at`, where s begins, and w bytes of
--                                output before them: the places after the last
--   fields_carried S t fs s      == those that are judged before a refusal, in the other script
--   body_judged S t s k          == judging all fields of an input with k bitmaps
--   body_carried S t s k         == such an input in the other script: MTI, bitmaps as they are, fields
--   link_judged S t m s          == judging an input with at most m bitmaps: the bytes used and to be written, or the refusal
--   link_carried S t m s         == its message in the other script
--   link_answer S t m s out      == the answer, where the output holds out
--   link_output S t m s out      == each byte of the output afterwards
--
-- Assumes nothing: these are definitions.
use Rattle.std.specs.Prelude.{ℕ, ◌+◌, ◌*◌, cond, List, [], ◌∷◌, ◌++◌, length, take, drop, ltb, leb, Result, Ok, Err}
use Rattle.octets.specs.Lists.{lead, lay}
use Rattle.refusal.specs.Numbers.{message_too_short, mti_not_digits, output_too_short}
use Rattle.refusal.specs.Refusals.{refusal, plain, Told, tell, tell_refused}
use Rattle.refusal.specs.declared.Cause.{Cause}
use Rattle.refusal.specs.declared.Refusal.{Refusal}
use Rattle.field_table.specs.Table.{Table}
use Rattle.field_table.specs.declared.Class.{Class}
use Rattle.bitmap.specs.Bitmaps.{fields_of}
use Rattle.bitmap_read.specs.Found.{maps_of, bitmaps_read}
use Rattle.packed_field.specs.declared.Script.{Script}
use Rattle.packed_field.specs.Scripts.{other, size_of, is_part, carried}
use Rattle.packed_field.specs.Items.{fault_in, is_numeric, judge_item}
use Rattle.packed_link.specs.declared.Translated.{Translated}

abbrev pub translated : ℕ → ℕ → Translated
translated u w = record { used = u; written = w }

-- 01: "For enum answers, a definition gives this paper's number and values for each case"; "a length or count in a refusal is 0"
abbrev pub told_link : Result Translated Refusal → Told
told_link (Ok d) = tell (d.used ∷ d.written ∷ [])
told_link (Err r) = tell_refused r (0 ∷ 0 ∷ [])

abbrev pub mti_fault : Script → Cause
mti_fault S = fault_in S mti_not_digits

-- 02: "22 in the places (field and position too; for the MTI, the bad byte) of 3"
unfoldable pub link_head : Script → ℕ → List ℕ → Result ℕ Refusal
link_head S m s =
    cond (ltb (length s) (size_of S 4 + 8)) (Err (plain message_too_short))
    (cond (ltb (lead (is_part S) (take (size_of S 4) s)) (size_of S 4)) (Err (refusal (mti_fault S) 0 (lead (is_part S) (take (size_of S 4) s))))
    (bitmaps_read (size_of S 4) m s))

unfoldable pub content_carried : Script → Class → ℕ → List ℕ → List ℕ
content_carried S c n x = cond (is_numeric c) (carried S n x) x

unfoldable pub item_carried : Script → Table → ℕ → ℕ → ℕ → ℕ → List ℕ → List ℕ
item_carried S t f a n k s = carried S (t.width f) (take a s) ++ content_carried S (t.class f) n (take k (drop a s))

unfoldable pub fields_judged : Script → Table → ℕ → ℕ → List ℕ → List ℕ → Result Translated Refusal
fields_judged S t at w [] s = Ok (translated at w)
fields_judged S t at w (f ∷ fs) s =
    elim (judge_item S t f s) [
      | Err c ↦ Err (refusal c f at)
      | Ok i ↦ fields_judged S t (at + (i.start + i.size)) (w + i.carried) fs (drop (i.start + i.size) s)
    ]

unfoldable pub fields_carried : Script → Table → List ℕ → List ℕ → List ℕ
fields_carried S t [] s = []
fields_carried S t (f ∷ fs) s =
    elim (judge_item S t f s) [
      | Err c ↦ []
      | Ok i ↦ item_carried S t f i.start i.count i.size s ++ fields_carried S t fs (drop (i.start + i.size) s)
    ]

unfoldable pub body_judged : Script → Table → List ℕ → ℕ → Result Translated Refusal
body_judged S t s k =
    fields_judged S t (size_of S 4 + 8 * k) (size_of (other S) 4 + 8 * k) (fields_of (maps_of (size_of S 4) s k) k) (drop (size_of S 4 + 8 * k) s)

unfoldable pub body_carried : Script → Table → List ℕ → ℕ → List ℕ
body_carried S t s k =
    carried S 4 (take (size_of S 4) s)
    ++ (maps_of (size_of S 4) s k ++ fields_carried S t (fields_of (maps_of (size_of S 4) s k) k) (drop (size_of S 4 + 8 * k) s))

unfoldable pub link_judged : Script → Table → ℕ → List ℕ → Result Translated Refusal
link_judged S t m s = elim (link_head S m s) [ Err r ↦ Err r | Ok k ↦ body_judged S t s k ]

unfoldable pub link_carried : Script → Table → ℕ → List ℕ → List ℕ
link_carried S t m s = elim (link_head S m s) [ Err r ↦ [] | Ok k ↦ body_carried S t s k ]

-- 02: "14 comes last"; docs/DECISIONS.md P3: without a field, and at 0
unfoldable pub link_answer : Script → Table → ℕ → List ℕ → List ℕ → Result Translated Refusal
link_answer S t m s out =
    elim (link_judged S t m s) [
      | Err r ↦ Err r
      | Ok d ↦ cond (leb d.written (length out)) (Ok d) (Err (plain output_too_short))
    ]

unfoldable pub link_output : Script → Table → ℕ → List ℕ → List ℕ → List ℕ
link_output S t m s out = elim (link_answer S t m s out) [ Err r ↦ out | Ok d ↦ lay (link_carried S t m s) out ]
