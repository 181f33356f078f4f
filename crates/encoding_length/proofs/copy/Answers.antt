-- A conversion has three ends: the source fails, the output is too short, or the bytes are written.
use mathlib.Core.Path.{refl}
use Rattle.refusal.proofs.Conversions.{source_refused, room_refused, done}
use Rattle.encoding_length.proofs.Texts.{copied}
use Rattle.encoding_length.proofs.copy.Goals as goal

pub returns-in_err-encode_fault : goal.returns-in_err-encode_fault
returns-in_err-encode_fault c =
    let r = source_refused c.in_err-encode_fault.ensures c.from_residual.ensures.1 in
    record { answers = r.answers; writes = r.writes }

pub returns-in_err-check_room : goal.returns-in_err-check_room
returns-in_err-check_room c =
    let r = room_refused c.in_ok-encode_fault.ensures refl c.in_err-check_room.ensures c.from_residual-in_err-check_room.ensures.1 in
    record { answers = r.answers; writes = r.writes }

pub returns : goal.returns
returns c =
    let r = done c.in_ok-encode_fault.ensures refl c.in_ok-check_room.ensures (copied _ _ _ c.put.ensures c.in_ok-check_room.ensures) in
    record { answers = r.answers; writes = r.writes }
