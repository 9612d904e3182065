-- What carries frames over a connection.
use Rattle.net_ends.specs.Ends.{Stops}
use Rattle.net_peers.specs.declared.carrier.Carrier.{Carrier}
use Rattle.net_peers.specs.declared.carrier.Carrier.TheVariants.{Plain, Sealed}

-- how often nothing came for now, and how often it was told that nothing comes any more
abbrev pub stops_coming : Carrier → Stops
stops_coming (Plain records) = record { pauses = records.inner.stops.pauses; ends = records.ends }
stops_coming (Sealed records) = record { pauses = records.inner.stops.pauses; ends = records.ends }

-- how often nothing went for now, and how often it was told that nothing goes any more
abbrev pub stops_going : Carrier → Stops
stops_going (Plain records) = records.inner.stops
stops_going (Sealed records) = record { pauses = records.inner.stops.pauses; ends = records.ends }
