-- Writing one field of a table t: whether its content s may be written, what it takes, and its bytes.
--
--   is_allowed_length t f n  == a content of field f may be n bytes long: exactly the table's length where it is fixed, else up to that
--   text_fault c s           == 8 where s is text by its class c and has a byte over 0x7F, else good
--   exact_fault t f s        == why the exact writer refuses the content s of field f: 12, then 8; good where it does not
--   clean_fault t f s        == the same of the cleaning writer
--   is_short t f n           == field f is fixed, and n is under its length
--   missing t f n            == by how many bytes a content of n bytes is too short; a variable one never is
--   pad_byte c               == the byte that contents of class c are padded with
--   pads_left c              == they are padded on the left
--   padded c k s             == s with k bytes of padding, as its class c has it
--   cleaned t f s            == s as it stands in field f once it is written: padded by what is missing
--   field_bytes t f s        == the bytes of field f with the content s: its length digits, of which a fixed field has none, then the content
--   field_into t f s out     == out afterwards where field f is to be written to its front: left as it is where s is too long, or the bytes do not fit
--   written_size t f n       == how many bytes field f takes with a content of n bytes
--   longest                  == the greatest length of a content that a note can hold, in two bytes
--
-- Assumes nothing: these are definitions.
use Rattle.std.specs.Prelude.{ℕ, ◌+◌, ◌-◌, Bool, true, false, cond, List, ◌++◌, eqb, leb, ltb, length, replicate}
use Rattle.octets.specs.Lists.{both, either, all, placed}
use Rattle.octets.specs.Numbers.{is_ascii, decimal}
use Rattle.refusal.specs.Numbers.{length_not_allowed, text_not_ascii}
use Rattle.refusal.specs.Refusals.{Test, good, bad}
use Rattle.field_table.specs.Table.{Table, is_binary}
use Rattle.field_table.specs.declared.Class.{Class}
use Rattle.field_table.specs.declared.Class.TheVariants.{N, A, An, Ans, Ns, Z, Xn, B}

-- 01: "each content must have an allowed length"; "Variable contents may be empty."
unfoldable pub is_allowed_length : Table → ℕ → ℕ → Bool
is_allowed_length t f n = cond (eqb (t.width f) 0) (eqb n (t.most f)) (leb n (t.most f))

-- 01: "text is any bytes up to 0x7F, binary is any bytes"
unfoldable pub text_fault : Class → List ℕ → Test
text_fault c s = cond (either (is_binary c) (all is_ascii s)) good (bad text_not_ascii)

-- 01: "field: 9, 10, 11, 12, 8", of which 9 to 11 are the notes'; 12 is "length not allowed (cleaning: too long only)"
unfoldable pub exact_fault : Table → ℕ → List ℕ → Test
exact_fault t f s = cond (is_allowed_length t f (length s)) (text_fault (t.class f) s) (bad length_not_allowed)

unfoldable pub clean_fault : Table → ℕ → List ℕ → Test
clean_fault t f s = cond (leb (length s) (t.most f)) (text_fault (t.class f) s) (bad length_not_allowed)

-- 01: "a fixed content that is too short is padded"
unfoldable pub is_short : Table → ℕ → ℕ → Bool
is_short t f n = both (eqb (t.width f) 0) (ltb n (t.most f))

unfoldable pub missing : Table → ℕ → ℕ → ℕ
missing t f n = cond (eqb (t.width f) 0) (t.most f - n) 0

-- 01: "`n` with `0` on the left, `b` with zero bytes on the right, all others with spaces on the right"
abbrev pub pad_byte : Class → ℕ
pad_byte N = 0x30
pad_byte A = 0x20
pad_byte An = 0x20
pad_byte Ans = 0x20
pad_byte Ns = 0x20
pad_byte Z = 0x20
pad_byte Xn = 0x20
pad_byte B = 0x00

abbrev pub pads_left : Class → Bool
pads_left N = true
pads_left A = false
pads_left An = false
pads_left Ans = false
pads_left Ns = false
pads_left Z = false
pads_left Xn = false
pads_left B = false

unfoldable pub padded : Class → ℕ → List ℕ → List ℕ
padded c k s = cond (pads_left c) (replicate k (pad_byte c) ++ s) (s ++ replicate k (pad_byte c))

-- 01: "Nothing is cut."
unfoldable pub cleaned : Table → ℕ → List ℕ → List ℕ
cleaned t f s = padded (t.class f) (missing t f (length s)) s

unfoldable pub field_bytes : Table → ℕ → List ℕ → List ℕ
field_bytes t f s = decimal (t.width f) (length s) ++ cleaned t f s

-- 01: "Nothing is cut."
unfoldable pub field_into : Table → ℕ → List ℕ → List ℕ → List ℕ
field_into t f s out = cond (leb (length s) (t.most f)) (placed (field_bytes t f s) out) out

unfoldable pub written_size : Table → ℕ → ℕ → ℕ
written_size t f n = t.width f + n + missing t f n

-- 01: "length of its content (2)"
abbrev pub longest : ℕ
longest = 65535
