-- The answers that other languages are handed: what an answer tells (01's number, field and position, and its values), member by member.
--
--   reading t               == what a reading told, t, in numbers
--   written t               == what a writing or a conversion told
--   cleaned t s             == what a cleaning told that padded the set of fields s: what a writing tells, and s in three words
--   found t                 == what a lookup told
--   translation t           == what carrying a message over the packed link told
--   measurement t           == what the decoding of a length told
--   judgement t             == what a check told
--   word_at s i             == the eight bytes of s from i on, as one number, the first the highest
--   encoded_by e w n out    == the answer of writing the length n in w digits in the encoding of the number e
--   encoded_into e w n out  == each byte of its output
--   decoded_by e w s        == the answer of reading s as a length of w digits in the encoding of the number e
--
-- Assumes nothing: these are definitions.
use Rattle.std.specs.Prelude.{ℕ, List, get_or, take, drop, Result, Ok, Err}
use Rattle.octets.specs.Numbers.{decimal, big_endian_of}
use Rattle.refusal.specs.Refusals.{plain, Told, converted, converted_into}
use Rattle.refusal.specs.declared.Refusal.{Refusal}
use Rattle.encoding_length.specs.Lengths.{numbered, spelt, encode_fault, measured}
use Rattle.desk_terms.specs.declared.Reading.{Reading}
use Rattle.desk_terms.specs.declared.Written.{Written}
use Rattle.desk_terms.specs.declared.Cleaned.{Cleaned}
use Rattle.desk_terms.specs.declared.Found.{Found}
use Rattle.desk_terms.specs.declared.Translation.{Translation}
use Rattle.desk_terms.specs.declared.Measurement.{Measurement}
use Rattle.desk_terms.specs.declared.Judgement.{Judgement}

unfoldable pub reading : Told → Reading
reading t =
    record {
      number = t.number;
      field = t.field;
      position = t.position;
      used = get_or t.values 0 0;
      bitmaps = get_or t.values 1 0;
    }

unfoldable pub written : Told → Written
written t =
    record {
      number = t.number;
      field = t.field;
      position = t.position;
      length = get_or t.values 0 0;
    }

-- 01: "the exact set of fields padded, as 24 bytes of bits placed as in the bitmaps"
unfoldable pub word_at : List ℕ → ℕ → ℕ
word_at s i = big_endian_of (take 8 (drop i s))

unfoldable pub cleaned : Told → List ℕ → Cleaned
cleaned t s =
    record {
      number = (written t).number;
      field = (written t).field;
      position = (written t).position;
      length = (written t).length;
      padded1 = word_at s 0;
      padded2 = word_at s 8;
      padded3 = word_at s 16;
    }

unfoldable pub found : Told → Found
found t =
    record {
      number = t.number;
      field = t.field;
      position = t.position;
      offset = get_or t.values 0 0;
      length = get_or t.values 1 0;
    }

unfoldable pub translation : Told → Translation
translation t =
    record {
      number = t.number;
      field = t.field;
      position = t.position;
      used = get_or t.values 0 0;
      written = get_or t.values 1 0;
    }

unfoldable pub measurement : Told → Measurement
measurement t =
    record {
      number = t.number;
      field = t.field;
      position = t.position;
      value = get_or t.values 0 0;
    }

unfoldable pub judgement : Told → Judgement
judgement t = record { number = t.number; field = t.field; position = t.position }

-- An encoding is a number here, and 01 has no refusal for a wrong one: 25, before every other test.
unfoldable pub encoded_by : ℕ → ℕ → ℕ → List ℕ → Result ℕ Refusal
encoded_by e w n out =
    elim (numbered e) [
      | Ok c ↦ converted (encode_fault w n) (spelt c (decimal w n)) out
      | Err x ↦ Err (plain x)
    ]

unfoldable pub encoded_into : ℕ → ℕ → ℕ → List ℕ → List ℕ
encoded_into e w n out =
    elim (numbered e) [
      | Ok c ↦ converted_into (encode_fault w n) (spelt c (decimal w n)) out
      | Err x ↦ out
    ]

unfoldable pub decoded_by : ℕ → ℕ → List ℕ → Result ℕ Refusal
decoded_by e w s = elim (numbered e) [ Ok c ↦ measured c w s | Err x ↦ Err (plain x) ]
