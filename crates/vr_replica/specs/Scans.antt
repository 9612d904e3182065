-- The scans in a log.
use Rattle.std.specs.Prelude.{List, [], ◌∷◌, Option, Some, None}
use Rattle.il_model.specs.declared.command.Command.{Command}
use Rattle.il_model.specs.declared.command.Command.TheVariants.{Scan}
use Rattle.vr_model.specs.Logs.{Request}
use Rattle.vr_replica.specs.declared.scans.ScanInputs.{ScanInputs}

-- what a command was submitted with, if it is a Scan
abbrev pub scan_in : Command → Option ScanInputs
scan_in (Scan inputs moment) = Some (record { inputs = inputs; moment = moment })
scan_in _ = None

-- the later one of two that may be missing
abbrev pub later_of : Option ScanInputs → Option ScanInputs → Option ScanInputs
later_of first None = first
later_of first (Some second) = Some second

-- what the last Scan of a log was submitted with, if it has one
abbrev pub last_scan_of : List (Request Command) → Option ScanInputs
last_scan_of [] = None
last_scan_of (m ∷ ms) = later_of (scan_in m.command) (last_scan_of ms)
