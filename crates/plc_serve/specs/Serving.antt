-- What a served controller tells, how it ends, and the line that tells why it was served to no good end.
use Rattle.std.specs.Prelude.{◌≡◌, ℕ, List, ◌++◌, codes, Result, Ok, Err, ◌⊎◌}
use Rattle.std.specs.Fmt.{decimal}
use Rattle.io_model.specs.declared.counted.CountedWrite.{Ghosts as CountedWriter}
use Rattle.il_text.specs.declared.fault.Fault.{Fault}
use Rattle.il_text.specs.declared.fault.Fault.TheVariants as faults
use Rattle.il_text.specs.Telling.{status_of, WentOut, fault_line, numbered, IsTold}
use Rattle.il_text.specs.Meaning.{IsTextFault}
use Rattle.plc_host.specs.declared.failed.Failed.{Failed}
use Rattle.plc_host.specs.declared.failed.Failed.TheVariants as failures
use Rattle.plc_status.specs.Notices.{IsAtMostServingTold}
use Rattle.plc_serve.specs.declared.failing.Unserved.{Unserved}
use Rattle.plc_serve.specs.declared.failing.Unserved.TheVariants as unserved

-- ---- the line that tells why

-- a line that ends with a number
abbrev pub numbered_line : List ℕ → ℕ → List ℕ
numbered_line text number = numbered text number ++ codes "\n"

-- a port by its number, a store by that of its replica
abbrev pub failed_line : Failed → List ℕ
failed_line failures.Device = codes "plc: device\n"
failed_line failures.Thread = codes "plc: device no thread\n"
failed_line failures.Connection = codes "plc: device no connection\n"
failed_line failures.Majority = codes "plc: device no majority\n"
failed_line (failures.Port port) = numbered_line (codes "plc: device port ") port
failed_line (failures.Store replica) = numbered_line (codes "plc: device store ") replica
failed_line failures.Socket = codes "plc: device socket\n"
failed_line failures.Report = codes "plc: device report\n"
failed_line failures.Output = codes "plc: device output\n"
failed_line failures.Memory = codes "plc: memory\n"

-- the status of no good end: that of the fault by which something was refused, or that of a device and of memory
abbrev pub status_by : Unserved → ℕ
status_by (unserved.Refused fault) = status_of fault
status_by (unserved.Failed failed) = 2

abbrev pub line_by : Unserved → List ℕ
line_by (unserved.Refused fault) = fault_line fault
line_by (unserved.Failed failed) = failed_line failed

-- how it ends, by the status: well, and nothing is told; or with the line that tells why not
abbrev pub EndsBy : {W : Type 0} → CountedWriter W → Result (Unit {0}) Unserved → ℕ → W → W → Type 0
EndsBy w (Ok done) status old new = (status ≡ 0) × (new ≡ old)
EndsBy w (Err why) status old new = (status ≡ status_by why) × WentOut w (line_by why) old new

-- ---- what is told

-- the line that tells how many scans there were
abbrev pub scans_line : ℕ → List ℕ
scans_line scans = (codes "scans " ++ decimal scans) ++ codes "\n"

-- why nothing is started: a fault of the text, or the directory was used or is in use
abbrev pub IsWhyRefused : List ℕ → Fault → Type 0
IsWhyRefused text fault = IsTextFault text fault ⊎ (fault ≡ faults.Store)

-- the same of what a controller wasn't served by
abbrev pub IsRefusal : List ℕ → Unserved → Type 0
IsRefusal text (unserved.Refused fault) = IsWhyRefused text fault
IsRefusal text (unserved.Failed failed) = ⊥

-- The last that was told is the line of a fault of memory or of a device, or of what failed; before it the lines of
-- serving were, or nothing.
pub record IsToldAtLast {W : Type 0} (w : CountedWriter W) (old new : W) : Type 0 where
  pub before : W
  pub at_most : IsAtMostServingTold w old before
  pub told : IsTold w (λ fault. ⊥) 2 before new ⊎ ((failed : Failed) × WentOut w (failed_line failed) before new)
