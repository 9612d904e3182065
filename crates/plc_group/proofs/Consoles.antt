-- What a group says of consoles has the faults that its table has.
use Rattle.std.proofs.Common.{◌≡◌, ℕ, List, [], ◌∷◌, Option, Some, None, String, Global, string_bytes, option_map, refl}
use Rattle.std.specs.Prelude.{is_some}
use Rattle.toml.specs.Data.{Members}
use Rattle.plc_group.specs.declared.group.Machine.{Machine}
use Rattle.plc_group.specs.declared.key.Key.TheVariants as keys
use Rattle.plc_group.specs.Faults.{beside_faults, consoles_faults}
use Rattle.plc_group.specs.Values.{path_of, machines_said, value_at}

pub consoles_are : (table : Members) (sockets : Option (String Global)) (machines : List Machine) → value_at path_of keys.ConsoleSockets table ≡ option_map string_bytes sockets
    → machines_said table ≡ Some machines → consoles_faults table ≡ beside_faults (is_some sockets) machines
consoles_are table None machines e m = rw e refl
consoles_are table (Some s) machines e m = rw (e, m) refl
