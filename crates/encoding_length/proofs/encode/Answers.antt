-- The digits of the length are the front of the text, and no encoding refuses them.
use mathlib.Core.Path.{refl}
use Rattle.refusal.proofs.Conversions.{source_refused, ends}
use Rattle.encoding_length.proofs.Texts.{text_room_lem, text_count, text_digits, encoded_answer, encoded_output}
use Rattle.encoding_length.proofs.encode.Goals as goal

pub returns-in_err-encode_fault : goal.returns-in_err-encode_fault
returns-in_err-encode_fault c =
    let r = source_refused c.in_err-encode_fault.ensures c.from_residual.ensures.1 in
    record { answers = r.answers; tells = r.tells; writes = r.writes }

pub slice_bounds-text-end : goal.slice_bounds-text-end
slice_bounds-text-end c = text_room_lem _ _ _ c.encode_fault.ensures c.in_ok-encode_fault.was _ _ refl c.put_decimal.ensures

pub slice_bounds-put_spelt-end : goal.slice_bounds-put_spelt-end
slice_bounds-put_spelt-end c = text_count _ _ _ c.encode_fault.ensures c.in_ok-encode_fault.was _ _ refl c.put_decimal.ensures

pub put_spelt-requires : goal.put_spelt-requires
put_spelt-requires c = text_digits _ _ _ c.encode_fault.ensures c.in_ok-encode_fault.was _ _ refl c.put_decimal.ensures

pub returns : goal.returns
returns c =
    let answer = encoded_answer _ _ _ c.encode_fault.ensures c.in_ok-encode_fault.was _ _ refl c.put_decimal.ensures _ _ _ c.put_spelt.ensures.answers in
    let output = encoded_output _ _ _ c.encode_fault.ensures c.in_ok-encode_fault.was _ _ refl c.put_decimal.ensures _ _ _ c.put_spelt.ensures.writes in
    let r = ends answer output in
    record { answers = r.answers; tells = r.tells; writes = r.writes }
