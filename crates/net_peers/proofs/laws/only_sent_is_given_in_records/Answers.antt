use Rattle.std.proofs.Common.{◌++◌, sym}
use Rattle.std.specs.List.{flat_map}
use Rattle.vr_wire.specs.Frames.{frame_of}
use Rattle.net_records.specs.declared.place.Place.TheVariants.{Length}
use Rattle.net_records.specs.Records.{bodies_from}
use Rattle.net_peers.proofs.Sent.{came_first}
use Rattle.net_peers.proofs.laws.only_sent_is_given_in_records.Goals as goal

pub returns : goal.returns
returns c = λ came more took rest sent given ending whole framed is split.
    let first = came_first c.know_records.ensures came more took rest (flat_map frame_of sent) whole is in
    c.only_sent_is_given.ensures (bodies_from Length came) first.0 sent given ending framed first.1 split
