-- A group's identity in its file.
use Rattle.std.specs.Prelude.{ℕ, Bool, true, false, List, ◌++◌, codes}
use Rattle.hex.specs.Hex.{encode_lower}
use Rattle.plc_group.specs.declared.fault.GroupFault.{GroupFault}
use Rattle.plc_group.specs.declared.fault.GroupFault.TheVariants as told
use Rattle.plc_group.specs.declared.fault.Why.TheVariants.{Missing}
use Rattle.plc_group.specs.declared.key.Key.TheVariants as keys

-- identity = "..", of 32 digits
abbrev pub identity_line : List ℕ → List ℕ
identity_line identity = codes "identity = \"" ++ (encode_lower identity ++ codes "\"\n")

abbrev pub lacks_identity : GroupFault → Bool
lacks_identity (told.At machine keys.Identity Missing) = true
lacks_identity fault = false
