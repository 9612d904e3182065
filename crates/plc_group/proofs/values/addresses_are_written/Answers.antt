use Rattle.plc_group.proofs.Addresses.{sound, written}
use Rattle.plc_group.proofs.values.addresses_are_written.Goals as goal

pub returns : goal.returns
returns c text a = (sound text a, written text a)
