-- A conversion has three ends: the source fails, the output is too short, or the bytes are written.
use Rattle.refusal.proofs.Conversions.{source_refused, room_refused, done}
use Rattle.encoding_bcd.proofs.Packing.{packed_sized}
use Rattle.encoding_bcd.proofs.Faults.{encode_clean}
use borrow.Author.Rules.{rules}
use Rattle.encoding_bcd.proofs.encode.Goals as goal

pub returns-in_err-encode_fault : goal.returns-in_err-encode_fault
returns-in_err-encode_fault c =
    let r = source_refused c.in_err-encode_fault.ensures c.from_residual.ensures.1 in
    record { answers = r.answers; tells = r.tells; writes = r.writes }

pub returns-in_err-check_room : goal.returns-in_err-check_room
returns-in_err-check_room c =
    let r = room_refused c.in_ok-encode_fault.ensures (search (packed_sized, rules)) c.in_err-check_room.ensures c.from_residual-in_err-check_room.ensures.1 in
    record { answers = r.answers; tells = r.tells; writes = r.writes }

pub put_packed-requires-clause-digits : goal.put_packed-requires-clause-digits
put_packed-requires-clause-digits c = encode_clean _ _ c.encode_fault.ensures c.in_ok-encode_fault.was

pub returns : goal.returns
returns c =
    let r = done c.in_ok-encode_fault.ensures (search (packed_sized, rules)) c.in_ok-check_room.ensures c.put_packed.ensures in
    record { answers = r.answers; tells = r.tells; writes = r.writes }
