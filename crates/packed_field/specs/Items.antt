-- One field in either script, at the front of the rest of a message. 02, P3: "`n` contents in BCD …, lengths counting digits, all other
-- classes as in the plain form"; "Other refusals, positions and order are the reader's, with 22 in the places … of 3 and 6 and, for packed
-- `n` contents, of 8; 21 likewise of 8 for plain ones".
--
--   is_numeric c        == contents of class c are digits: class n and no other
--   content_size S c n  == how many bytes a content of n digits (class n) or n bytes takes
--   is_content S c n s  == the bytes s are such a content: digits, text or any bytes, as the class has it
--   fault_in S c        == the refusal of digits that are none, c where they are plain
--   length_fault S      == the refusal of length digits that are none
--   digits_fault S      == the refusal of a content of class n that is no digits
--   content_fault S c   == the refusal of a content that is none of its class
--   item_at a n k j     == the length digits take a bytes, the content has n digits or bytes and takes the next k, and in the other script both
--                          take j
--   place_by S w m c s  == where a field with w length digits, length or greatest length m, and class c stands at the front of s; no byte of
--                         the content is asked about
--   place_sized ..      == the same once the content's length n is known
--   place_item S t f s  == the same of field f of the table t
--   judged_as S c s i   == the item i, once its content is asked about too
--   judge_item S t f s  == that of field f of the table t
--
-- Assumes nothing: these are definitions.
use Rattle.std.specs.Prelude.{ℕ, ◌+◌, ◌-◌, Bool, true, false, cond, List, ltb, length, take, drop, Result, Ok, Err}
use Rattle.octets.specs.Lists.{either, all}
use Rattle.octets.specs.Numbers.{is_ascii}
use Rattle.refusal.specs.Numbers.{past_the_end, length_not_digits, length_over_table, text_not_ascii, not_digits, not_bcd}
use Rattle.refusal.specs.declared.Cause.{Cause}
use Rattle.field_table.specs.Table.{Table, is_binary}
use Rattle.field_table.specs.declared.Class.{Class}
use Rattle.field_table.specs.declared.Class.TheVariants.{N, A, An, Ans, Ns, Z, Xn, B}
use Rattle.field_read.specs.Items.{length_of}
use Rattle.packed_field.specs.declared.Script.{Script}
use Rattle.packed_field.specs.declared.Script.TheVariants.{Plain, Packed}
use Rattle.packed_field.specs.declared.Item.{Item}
use Rattle.packed_field.specs.Scripts.{other, size_of, is_spelt, digits_of}

-- docs/DECISIONS.md P3: x+n, ns and z are not n
abbrev pub is_numeric : Class → Bool
is_numeric N = true
is_numeric A = false
is_numeric An = false
is_numeric Ans = false
is_numeric Ns = false
is_numeric Z = false
is_numeric Xn = false
is_numeric B = false

unfoldable pub content_size : Script → Class → ℕ → ℕ
content_size S c n = cond (is_numeric c) (size_of S n) n

unfoldable pub is_content : Script → Class → ℕ → List ℕ → Bool
is_content S c n s = cond (is_numeric c) (is_spelt S n s) (either (is_binary c) (all is_ascii s))

abbrev pub fault_in : Script → Cause → Cause
fault_in Plain c = c
fault_in Packed c = not_bcd

abbrev pub length_fault : Script → Cause
length_fault S = fault_in S length_not_digits

abbrev pub digits_fault : Script → Cause
digits_fault S = fault_in S not_digits

unfoldable pub content_fault : Script → Class → Cause
content_fault S c = cond (is_numeric c) (digits_fault S) text_not_ascii

abbrev pub item_at : ℕ → ℕ → ℕ → ℕ → Item
item_at a n k j = record { start = a; count = n; size = k; carried = j }

unfoldable pub place_sized : Script → ℕ → ℕ → ℕ → Class → List ℕ → Result Item Cause
place_sized S w n m c s =
    cond (ltb m n) (Err length_over_table)
    (cond (ltb (length s - size_of S w) (content_size S c n)) (Err past_the_end)
    (Ok (item_at (size_of S w) n (content_size S c n) (size_of (other S) w + content_size (other S) c n))))

unfoldable pub place_by : Script → ℕ → ℕ → Class → List ℕ → Result Item Cause
place_by S w m c s =
    cond (ltb (length s) (size_of S w)) (Err past_the_end)
    (cond (is_spelt S w (take (size_of S w) s)) (place_sized S w (length_of w m (digits_of S w (take (size_of S w) s))) m c s)
    (Err (length_fault S)))

unfoldable pub place_item : Script → Table → ℕ → List ℕ → Result Item Cause
place_item S t f s = place_by S (t.width f) (t.most f) (t.class f) s

abbrev pub judged_as : Script → Class → List ℕ → Result Item Cause → Result Item Cause
judged_as S c s (Err n) = Err n
judged_as S c s (Ok i) = cond (is_content S c i.count (take i.size (drop i.start s))) (Ok i) (Err (content_fault S c))

unfoldable pub judge_item : Script → Table → ℕ → List ℕ → Result Item Cause
judge_item S t f s = judged_as S (t.class f) s (place_item S t f s)
