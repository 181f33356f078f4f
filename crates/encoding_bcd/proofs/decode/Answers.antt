-- A conversion has three ends: the source fails, the output is too short, or the bytes are written.
use Rattle.refusal.proofs.Conversions.{source_refused, room_refused, done}
use Rattle.encoding_bcd.proofs.Faults.{decode_clean, unpacked_sized}
use Rattle.encoding_bcd.proofs.decode.Goals as goal

pub returns-in_err-decode_fault : goal.returns-in_err-decode_fault
returns-in_err-decode_fault c =
    let r = source_refused c.in_err-decode_fault.ensures c.from_residual.ensures.1 in
    record { answers = r.answers; tells = r.tells; writes = r.writes }

pub returns-in_err-check_room : goal.returns-in_err-check_room
returns-in_err-check_room c =
    let r = room_refused c.in_ok-decode_fault.ensures (unpacked_sized _ _ _ c.decode_fault.ensures c.in_ok-decode_fault.was) c.in_err-check_room.ensures c.from_residual-in_err-check_room.ensures.1 in
    record { answers = r.answers; tells = r.tells; writes = r.writes }

pub put_unpacked-requires-clause-whole : goal.put_unpacked-requires-clause-whole
put_unpacked-requires-clause-whole c = decode_clean _ _ _ c.decode_fault.ensures c.in_ok-decode_fault.was

pub returns : goal.returns
returns c =
    let r = done c.in_ok-decode_fault.ensures (unpacked_sized _ _ _ c.decode_fault.ensures c.in_ok-decode_fault.was) c.in_ok-check_room.ensures c.put_unpacked.ensures in
    record { answers = r.answers; tells = r.tells; writes = r.writes }
