-- 01's worked cases 1 to 12, as one table. The MTI is `0800` where 01 gives none.
--
--   Case              == an input, what is told of it, and the bytes of the buffer lent for writing afterwards
--   reading s t b     == reading the message s by the desk's dialect, with a notes buffer of just its room, all zeros
--   packing s t b     == the digits s to BCD, into four zeros
--   unpacking k s t b == k digits from the BCD s, into four zeros
--   carrying s t      == the PAN check of the content s
--   translating s t b == the text s to EBCDIC, into four zeros
--   outcome c         == the case c with all but its input made afresh by the definitions that the routines promise
--   filled r k        == the bytes r and then k zeros
--   noted r           == a notes buffer with the bytes r at its front
--   cases             == what 01 says of each
--
-- Assumes nothing: these are definitions; proofs/Worked.antt shows that they agree.
use Rattle.std.specs.Prelude.{ℕ, ◌-◌, List, [], ◌∷◌, ◌++◌, map, replicate, length}
use Rattle.refusal.specs.Numbers.{message_too_short, bitmap_incomplete, length_not_digits, length_over_table, pan_fails}
use Rattle.refusal.specs.declared.Cause.{Cause}
use Rattle.refusal.specs.Refusals.{Told, tell, tell_refused, plain, refusal, converted, converted_into, told, checked, told_checked}
use Rattle.encoding_bcd.specs.Bcd.{packed, unpacked, encode_fault as pack_fault, decode_fault as unpack_fault}
use Rattle.encoding_ebcdic.specs.Ebcdic.{ebcdic_of, encode_fault as translate_fault}
use Rattle.field_table.specs.House.{house}
use Rattle.message_language.specs.Worked.{mti, bitmap}
use Rattle.message_notes.specs.Dialect.{dialect, notes_room}
use Rattle.message_reader.specs.Reader.{told_read, read_answer, notes_after}
use Rattle.validation_pan.specs.Pan.{pan_fault}

pub data Case : Type 0 where
  reading : List ℕ → Told → List ℕ → Case
  packing : List ℕ → Told → List ℕ → Case
  unpacking : ℕ → List ℕ → Told → List ℕ → Case
  carrying : List ℕ → Told → Case
  translating : List ℕ → Told → List ℕ → Case

abbrev zeros : ℕ → List ℕ
zeros k = replicate k 0

abbrev room : ℕ
room = notes_room (dialect house)

unfoldable pub outcome : Case → Case
outcome (reading s t b) =
    reading s (told_read (read_answer (dialect house) s (zeros room))) (notes_after (dialect house) s (zeros room))
outcome (packing s t b) =
    packing s (told (converted (pack_fault s) (packed s) (zeros 4))) (converted_into (pack_fault s) (packed s) (zeros 4))
outcome (unpacking k s t b) =
    unpacking k s (told (converted (unpack_fault k s) (unpacked k s) (zeros 4))) (converted_into (unpack_fault k s) (unpacked k s) (zeros 4))
outcome (carrying s t) = carrying s (told_checked (checked (pan_fault s) 0))
outcome (translating s t b) =
    translating s (told (converted (translate_fault s) (map ebcdic_of s) (zeros 4))) (converted_into (translate_fault s) (map ebcdic_of s) (zeros 4))

abbrev filled : List ℕ → ℕ → List ℕ
filled r k = r ++ zeros k

abbrev noted : List ℕ → List ℕ
noted r = filled r (room - length r)

abbrev done : ℕ → Told
done n = tell (n ∷ [])

abbrev head : ℕ → List ℕ
head m = 1 ∷ (mti ++ (m ∷ []))

abbrev used : ℕ → List ℕ
used n = 4 ∷ 0 ∷ 0 ∷ 0 ∷ n ∷ []

abbrev accepted : ℕ → ℕ → Told
accepted u m = tell (u ∷ m ∷ [])

abbrev refused : Cause → ℕ → ℕ → Told
refused c f p = tell_refused (refusal c f p) (0 ∷ 0 ∷ [])

unfoldable pub cases : List Case
cases =
    -- 1: eight zero bytes: used 12; notes 01 30 38 30 30 01 04 00 00 00 0C
    reading (mti ++ bitmap 0) (accepted 12 1) (noted (0x01 ∷ 0x30 ∷ 0x38 ∷ 0x30 ∷ 0x30 ∷ 0x01 ∷ 0x04 ∷ 0x00 ∷ 0x00 ∷ 0x00 ∷ 0x0C ∷ [])) ∷
    -- 2: 20 + 7 zeros, `000000`: used 18; field note 02 03 00 00 00 0C 00 06
    reading (mti ++ (bitmap 0x20 ++ replicate 6 0x30)) (accepted 18 1) (noted (head 1 ++ (0x02 ∷ 0x03 ∷ 0x00 ∷ 0x00 ∷ 0x00 ∷ 0x0C ∷ 0x00 ∷ 0x06 ∷ used 18))) ∷
    -- "With `X` after it: still 18."
    reading (mti ++ (bitmap 0x20 ++ (replicate 6 0x30 ++ (0x58 ∷ [])))) (accepted 18 1) (noted (head 1 ++ (0x02 ∷ 0x03 ∷ 0x00 ∷ 0x00 ∷ 0x00 ∷ 0x0C ∷ 0x00 ∷ 0x06 ∷ used 18))) ∷
    -- 3: bitmap 40 + 7 zeros, `00`: field 2 empty, used 14
    reading (mti ++ (bitmap 0x40 ++ (0x30 ∷ 0x30 ∷ []))) (accepted 14 1) (noted (head 1 ++ (2 ∷ 2 ∷ 0 ∷ 0 ∷ 0 ∷ 14 ∷ 0 ∷ 0 ∷ used 14))) ∷
    -- 4: same bitmap, `20` and 20 digits: 7, field 2, position 12
    reading (mti ++ (bitmap 0x40 ++ (0x32 ∷ 0x30 ∷ replicate 20 0x31))) (refused length_over_table 2 12) (noted []) ∷
    -- "With `19` and 19 digits: accepted."
    reading (mti ++ (bitmap 0x40 ++ (0x31 ∷ 0x39 ∷ replicate 19 0x31))) (accepted 33 1) (noted (head 1 ++ (2 ∷ 2 ∷ 0 ∷ 0 ∷ 0 ∷ 14 ∷ 0 ∷ 19 ∷ used 33))) ∷
    -- 5: same bitmap, `+5` and `12345`: 6
    reading (mti ++ (bitmap 0x40 ++ (0x2B ∷ 0x35 ∷ 0x31 ∷ 0x32 ∷ 0x33 ∷ 0x34 ∷ 0x35 ∷ []))) (refused length_not_digits 2 12) (noted []) ∷
    -- 6: bitmap 80 + 7 zeros, then nothing: 4 at 12
    reading (mti ++ bitmap 0x80) (refused bitmap_incomplete 0 12) (noted []) ∷
    -- "then 8 zeros: used 20, two bitmaps"
    reading (mti ++ (bitmap 0x80 ++ bitmap 0)) (accepted 20 2) (noted (head 2 ++ used 20)) ∷
    -- 7: 80 + 7 zeros, 04 + 7 zeros, `301`: field 70, used 23
    reading (mti ++ (bitmap 0x80 ++ (bitmap 0x04 ++ (0x33 ∷ 0x30 ∷ 0x31 ∷ [])))) (accepted 23 2) (noted (head 2 ++ (2 ∷ 70 ∷ 0 ∷ 0 ∷ 0 ∷ 20 ∷ 0 ∷ 3 ∷ used 23))) ∷
    -- 8: two bitmaps 80 + 7 zeros each, then 8 zeros: used 28, three bitmaps
    reading (mti ++ (bitmap 0x80 ++ (bitmap 0x80 ++ bitmap 0))) (accepted 28 3) (noted (head 3 ++ used 28)) ∷
    -- 9: eleven bytes: 2
    reading (mti ++ replicate 7 0) (refused message_too_short 0 0) (noted []) ∷
    -- 10: 123 in BCD is 01 23 and back
    packing (0x31 ∷ 0x32 ∷ 0x33 ∷ []) (done 2) (filled (0x01 ∷ 0x23 ∷ []) 2) ∷
    unpacking 3 (0x01 ∷ 0x23 ∷ []) (done 3) (filled (0x31 ∷ 0x32 ∷ 0x33 ∷ []) 1) ∷
    -- 11: 4111111111111111 passes, 4111111111111112 doesn't
    carrying (0x34 ∷ replicate 15 0x31) (tell []) ∷
    carrying (0x34 ∷ (replicate 14 0x31 ++ (0x32 ∷ []))) (tell_refused (plain pan_fails) []) ∷
    -- 12: `A1` is C1 F1 in EBCDIC
    translating (0x41 ∷ 0x31 ∷ []) (done 2) (filled (0xC1 ∷ 0xF1 ∷ []) 2) ∷
    []
