-- The desk's dialect by the house table: all that RoundTrip.antt and Refusals.antt say of a dialect holds of it. Proved in
-- proofs/House.antt.
--
--   HouseTrips   == it of reading, lookup, exact and cleaning writing, and the conversions
--
-- Assumes nothing: this is a statement.
use Rattle.field_table.specs.House.{house}
use Rattle.message_notes.specs.Dialect.{dialect}
use Rattle.round_trip.specs.RoundTrip.{GivesBack, WritesMessages, AgreesWithExact, PadsShortAlone, LooksUp, IgnoresBehind}
use Rattle.round_trip.specs.Refusals.{Keeps}

pub record HouseTrips : Type 0 where
  pub gives_back : GivesBack (dialect house)
  pub writes_messages : WritesMessages (dialect house)
  pub agrees : AgreesWithExact (dialect house)
  pub pads : PadsShortAlone (dialect house)
  pub looks_up : LooksUp (dialect house)
  pub ignores_behind : IgnoresBehind (dialect house)
  pub keeps : Keeps (dialect house)
