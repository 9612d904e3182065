-- The numbers of the faults that an image may have, and of want of memory.
use Rattle.std.specs.Prelude.{ℕ}
use Rattle.il_records.specs.declared.fault.LoadFault.TheVariants.{Truncated, BadMagic, BadVersion, BadCount, BadWord}
use Rattle.il_records.specs.declared.fault.LoadFault.TheVariants.{BadType, BadTarget, Trailing}
use Rattle.il_records.specs.declared.fault.LoadError.{LoadError}
use Rattle.il_records.specs.declared.fault.LoadError.TheVariants as errors

abbrev pub error_number : LoadError → ℕ
error_number (errors.Fault Truncated) = 1
error_number (errors.Fault BadMagic) = 2
error_number (errors.Fault BadVersion) = 3
error_number (errors.Fault BadCount) = 4
error_number (errors.Fault (BadWord position)) = 5
error_number (errors.Fault (BadType position)) = 6
error_number (errors.Fault (BadTarget position)) = 7
error_number (errors.Fault Trailing) = 8
error_number errors.Memory = 9
