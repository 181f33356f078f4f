-- A conversion has three ends: the source fails, the output is too short, or the bytes are written.
use lib.ListN.{length-map}
use Rattle.refusal.proofs.Conversions.{source_refused, room_refused, done}
use borrow.Author.Rules.{rules}
use Rattle.encoding_ebcdic.specs.Ebcdic.{table}
use Rattle.encoding_ebcdic.proofs.Permutation.{table_lays}
use Rattle.encoding_ebcdic.proofs.decode.Goals as goal

pub decode_fault-requires : goal.decode_fault-requires
unfolding table
decode_fault-requires c = search rules

pub returns-in_err-decode_fault : goal.returns-in_err-decode_fault
returns-in_err-decode_fault c =
    let r = source_refused c.in_err-decode_fault.ensures c.from_residual.ensures.1 in
    record { answers = r.answers; tells = r.tells; writes = r.writes }

pub returns-in_err-check_room : goal.returns-in_err-check_room
returns-in_err-check_room c =
    let r = room_refused c.in_ok-decode_fault.ensures (length-map _ _) c.in_err-check_room.ensures c.from_residual-in_err-check_room.ensures.1 in
    record { answers = r.answers; tells = r.tells; writes = r.writes }

pub returns : goal.returns
unfolding table
returns c =
    let r = done c.in_ok-decode_fault.ensures (length-map _ _) c.in_ok-check_room.ensures (table_lays _ _ _ c.translate.ensures) in
    record { answers = r.answers; tells = r.tells; writes = r.writes }
