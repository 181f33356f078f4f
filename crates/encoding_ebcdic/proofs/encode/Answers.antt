-- A conversion has three ends: the source fails, the output is too short, or the bytes are written.
use lib.ListN.{length-map}
use Rattle.refusal.proofs.Conversions.{source_refused, room_refused, done}
use Rattle.encoding_ebcdic.proofs.InverseTable.{inverse, inverse_lays}
use Rattle.encoding_ebcdic.proofs.encode.Goals as goal

pub returns-in_err-encode_fault : goal.returns-in_err-encode_fault
returns-in_err-encode_fault c =
    let r = source_refused c.in_err-encode_fault.ensures c.from_residual.ensures.1 in
    record { answers = r.answers; tells = r.tells; writes = r.writes }

pub returns-in_err-check_room : goal.returns-in_err-check_room
returns-in_err-check_room c =
    let r = room_refused c.in_ok-encode_fault.ensures (length-map _ _) c.in_err-check_room.ensures c.from_residual-in_err-check_room.ensures.1 in
    record { answers = r.answers; tells = r.tells; writes = r.writes }

pub returns : goal.returns
unfolding inverse
returns c =
    let r = done c.in_ok-encode_fault.ensures (length-map _ _) c.in_ok-check_room.ensures (inverse_lays _ _ _ c.translate.ensures) in
    record { answers = r.answers; tells = r.tells; writes = r.writes }
