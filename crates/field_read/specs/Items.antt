-- What reading one field finds at the front of the rest of a message.
--
--   content_at a n       == the content of n bytes that starts at a in the rest
--   length_of w m ds     == how long the content is: m where the field is fixed (w is 0), else what the length digits ds spell
--   read_sized w n m c s == the answer once the content's length n is known
--   read_item w m c s    == the answer for a field with w length digits, length or greatest length m, and class c
--   read_field t f s     == the answer for field f of the table t
--   place_field t f s    == the same where no byte of the content is asked about, as if it were binary
--
-- 01: "in a field: 5 for length digits, 6, 7, 5 for content, 8". Assumes nothing: these are definitions.
use Rattle.std.specs.Prelude.{ℕ, ◌-◌, cond, List, length, take, drop, eqb, ltb, Result, Ok, Err}
use Rattle.octets.specs.Lists.{either, all}
use Rattle.octets.specs.Numbers.{is_digit, is_ascii, decimal_of}
use Rattle.refusal.specs.Numbers.{past_the_end, length_not_digits, length_over_table, text_not_ascii}
use Rattle.refusal.specs.declared.Cause.{Cause}
use Rattle.field_table.specs.Table.{Table, is_binary}
use Rattle.field_table.specs.declared.Class.{Class}
use Rattle.field_table.specs.declared.Class.TheVariants.{B}
use Rattle.field_read.specs.declared.Content.{Content}

abbrev pub content_at : ℕ → ℕ → Content
content_at a n = record { start = a; length = n }

unfoldable pub length_of : ℕ → ℕ → List ℕ → ℕ
length_of w m ds = cond (eqb w 0) m (decimal_of ds)

unfoldable pub read_sized : ℕ → ℕ → ℕ → Class → List ℕ → Result Content Cause
read_sized w n m c s =
    cond (ltb m n) (Err length_over_table)
    (cond (ltb (length s - w) n) (Err past_the_end)
    (cond (either (is_binary c) (all is_ascii (take n (drop w s)))) (Ok (content_at w n))
    (Err text_not_ascii)))

unfoldable pub read_item : ℕ → ℕ → Class → List ℕ → Result Content Cause
read_item w m c s =
    cond (ltb (length s) w) (Err past_the_end)
    (cond (all is_digit (take w s)) (read_sized w (length_of w m (take w s)) m c s)
    (Err length_not_digits))

unfoldable pub read_field : Table → ℕ → List ℕ → Result Content Cause
read_field t f s = read_item (t.width f) (t.most f) (t.class f) s

unfoldable pub place_field : Table → ℕ → List ℕ → Result Content Cause
place_field t f s = read_item (t.width f) (t.most f) B s
