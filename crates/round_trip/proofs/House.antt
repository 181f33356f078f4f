-- The desk's dialect is sound by the house table, and so all of it holds. Assumes nothing.
use Rattle.field_table.specs.House.{house}
use Rattle.message_notes.specs.Dialect.{dialect}
use Rattle.message_notes.proofs.Sound.{house_sound}
use Rattle.round_trip.specs.House.{HouseTrips}
use Rattle.round_trip.proofs.Cleaning.{agrees_with_exact, pads_short_alone}
use Rattle.round_trip.proofs.Ignoring.{ignores_behind}
use Rattle.round_trip.proofs.LookedUp.{looks_up}
use Rattle.round_trip.proofs.Refusals.{keeps}
use Rattle.round_trip.proofs.Rereading.{writes_messages}
use Rattle.round_trip.proofs.RoundTrip.{gives_back}

pub house_trips : HouseTrips
house_trips =
    record {
      gives_back = gives_back (dialect house) house_sound;
      writes_messages = writes_messages (dialect house) house_sound;
      agrees = agrees_with_exact (dialect house);
      pads = pads_short_alone (dialect house) house_sound;
      looks_up = looks_up (dialect house) house_sound;
      ignores_behind = ignores_behind (dialect house) house_sound;
      keeps = keeps (dialect house);
    }
