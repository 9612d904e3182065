-- How a fault is told: its number and place, its line, the status that is ended with, and what that does to a writer.
use Rattle.std.specs.Prelude.{ℕ, ◌≡◌, ◌≤◌, ◌⊎◌, List, ◌++◌, codes, Option, Result, Ok, Err, OnOk, OnErr, take}
use Rattle.std.specs.Prelude.{MatchResult, IfErr}
use Rattle.std.specs.declared.io.ErrorKind.{ErrorKind}
use Rattle.std.specs.declared.io.ErrorKind.TheVariants.{OutOfMemory}
use Rattle.std.specs.Fmt.{decimal}
use Rattle.std.specs.Io.KnownBytes.{Appends}
use Rattle.io_model.specs.declared.counted.CountedWrite.{Ghosts as CountedWriter}
use Rattle.io_model.specs.declared.counted.DeviceFault.{DeviceFault}
use Rattle.io_model.specs.Streams.{Failed}
use Rattle.il_model.specs.Checking.{fault_number}
use Rattle.il_reader.specs.declared.fault.ReadError.{ReadError}
use Rattle.il_reader.specs.declared.fault.ReadError.TheVariants as reads
use Rattle.il_reader.specs.FirstFault.{kind_number}
use Rattle.il_declarations.specs.declared.fault.DeclError.{DeclError}
use Rattle.il_declarations.specs.declared.fault.DeclError.TheVariants as declarations
use Rattle.il_declarations.specs.FirstFault as Kinds
use Rattle.il_assembler.specs.declared.fault.AsmError.{AsmError}
use Rattle.il_assembler.specs.declared.fault.AsmError.TheVariants as assemblies
use Rattle.il_records.specs.declared.fault.LoadError.{LoadError}
use Rattle.il_records.specs.declared.fault.LoadFault.{LoadFault}
use Rattle.il_records.specs.declared.fault.LoadFault.TheVariants.{Truncated, BadMagic, BadVersion, BadCount, BadWord}
use Rattle.il_records.specs.declared.fault.LoadFault.TheVariants.{BadType, BadTarget, Trailing}
use Rattle.il_records.specs.declared.fault.LoadError.TheVariants as loads
use Rattle.il_text.specs.declared.fault.Fault.{Fault}
use Rattle.il_text.specs.declared.fault.Fault.TheVariants as faults

-- ---- the printed fault of each layer's error: its number and its place

abbrev pub of_read : ReadError → Fault
of_read (reads.Fault f) = faults.Read (kind_number f.kind) f.place.line f.place.column
of_read reads.Memory = faults.Memory

abbrev pub of_assembly : AsmError → Fault
of_assembly (assemblies.Fault fault instruction) = faults.Assembly (fault_number fault) instruction
of_assembly assemblies.Memory = faults.Memory

abbrev pub of_bytes : LoadFault → Fault
of_bytes Truncated = faults.Load 1
of_bytes BadMagic = faults.Load 2
of_bytes BadVersion = faults.Load 3
of_bytes BadCount = faults.Load 4
of_bytes (BadWord position) = faults.LoadAt 5 position
of_bytes (BadType position) = faults.LoadAt 6 position
of_bytes (BadTarget position) = faults.LoadAt 7 position
of_bytes Trailing = faults.Load 8

abbrev pub of_load : LoadError → Fault
of_load (loads.Fault f) = of_bytes f
of_load loads.Memory = faults.Memory

abbrev pub of_declaration : DeclError → Fault
of_declaration (declarations.Fault f) = faults.Declaration (Kinds.kind_number f.kind) f.place.line f.place.column
of_declaration declarations.Memory = faults.Memory

-- ---- the statuses that the program ends with: 0 good, 1 refused input, 2 a device or memory

abbrev pub status_of : Fault → ℕ
status_of (faults.Read number line column) = 1
status_of (faults.Declaration number line column) = 1
status_of (faults.Assembly number instruction) = 1
status_of (faults.Type number line column) = 1
status_of (faults.Load number) = 1
status_of (faults.LoadAt number position) = 1
status_of faults.Commands = 1
status_of faults.Schedule = 1
status_of (faults.ScheduleAt index reason) = 1
status_of faults.Store = 1
status_of faults.Device = 2
status_of faults.Memory = 2

-- the fault of a stream: want of memory, or its device failed
abbrev pub stream_fault : ErrorKind → Fault
stream_fault OutOfMemory = faults.Memory
stream_fault kind = faults.Device

-- ---- the line of a fault, and what telling it does to a counted writer

-- a number behind a text
abbrev pub numbered : List ℕ → ℕ → List ℕ
numbered text number = text ++ decimal number

-- two numbers behind their texts, as those of a fault and of its place: 3 at 7
abbrev pub pair_text : List ℕ → ℕ → List ℕ → ℕ → List ℕ
pair_text text number between other = numbered text number ++ (numbered between other ++ codes "\n")

-- the number of a fault, and its line and column: 3 at 7:1
abbrev pub placed_text : List ℕ → ℕ → ℕ → ℕ → List ℕ
placed_text text number line column =
    numbered text number ++ (numbered (codes " at ") line ++ (numbered (codes ":") column ++ codes "\n"))

abbrev pub fault_line : Fault → List ℕ
fault_line (faults.Read number line column) = placed_text (codes "plc: read ") number line column
fault_line (faults.Declaration number line column) = placed_text (codes "plc: decl ") number line column
fault_line (faults.Assembly number instruction) = pair_text (codes "plc: asm ") number (codes " at ") instruction
fault_line (faults.Type number line column) = placed_text (codes "plc: type ") number line column
fault_line (faults.Load number) = numbered (codes "plc: load ") number ++ codes "\n"
fault_line (faults.LoadAt number position) = pair_text (codes "plc: load ") number (codes " at ") position
fault_line faults.Commands = codes "plc: commands\n"
fault_line faults.Schedule = codes "plc: schedule\n"
fault_line (faults.ScheduleAt index reason) = pair_text (codes "plc: schedule ") index (codes " ") reason
fault_line faults.Store = codes "plc: store\n"
fault_line faults.Device = codes "plc: device\n"
fault_line faults.Memory = codes "plc: memory\n"

-- all of the text went out; an error is answered where the writer failed in the call
pub record Sends {W : Type 0} (w : CountedWriter W) (text : List ℕ) (old new : W)
    (result : Result (Unit {0}) DeviceFault) : Type 0 where
  pub sent : OnOk result (Appends (w.held old) (w.held new) text)
  pub device : OnErr result (Failed (w.faults old) (w.faults new))
  pub counts : w.faults old ≤ w.faults new

-- all of the text went out, unless the writer failed in the call
abbrev pub WentOut : {W : Type 0} → CountedWriter W → List ℕ → W → W → Type 0
WentOut w text old new = Appends (w.held old) (w.held new) text ⊎ Failed (w.faults old) (w.faults new)

-- how a call ends, by the status: well, and nothing is told; or with the line of its fault
abbrev pub Ends : {W : Type 0} → CountedWriter W → Result (Unit {0}) Fault → ℕ → W → W → Type 0
Ends w (Ok done) status old new = (status ≡ 0) × (new ≡ old)
Ends w (Err fault) status old new = (status ≡ status_of fault) × WentOut w (fault_line fault) old new

-- a fault was told by its line, and its status answered; of input that is refused it is one of these
pub record IsTold {W : Type 0} (w : CountedWriter W) (IsFault : Fault → Type 0) (status : ℕ) (old new : W)
    : Type 0 where
  pub fault : Fault
  pub answered : status ≡ status_of fault
  pub is : status_of fault ≡ 1 → IsFault fault
  pub line : WentOut w (fault_line fault) old new

-- the call ended well, and nothing was told; or its fault was
abbrev pub EndsTold : {W : Type 0} → CountedWriter W → (Fault → Type 0) → ℕ → W → W → Type 0
EndsTold w IsFault status old new = ((status ≡ 0) × (new ≡ old)) ⊎ IsTold w IsFault status old new

-- A call stopped short: this is how a device's failure left it, and the device is told; or that is how want of memory
-- did, and it is told.
abbrev pub StopsShort : {W : Type 0} → CountedWriter W → Type 0 → Type 0 → W → W → Type 0
StopsShort w IsLeftByDevice IsLeftByMemory old new =
    (IsLeftByDevice × WentOut w (fault_line faults.Device) old new)
    ⊎ (IsLeftByMemory × WentOut w (fault_line faults.Memory) old new)

-- ---- what the lines of a call do to a counted writer

-- all of the text went out, or a prefix of it where the writer failed or memory ran out
pub record Puts {W : Type 0} (w : CountedWriter W) (text : List ℕ) (old new : W)
    (result : Result (Unit {0}) Fault) : Type 0 where
  pub sent : MatchResult result
      (λ _. Appends (w.held old) (w.held new) text)
      (λ _. (n : ℕ) × Appends (w.held old) (w.held new) (take n text))
  pub why : IfErr result (λ e. ((e ≡ faults.Device) × Failed (w.faults old) (w.faults new)) ⊎ (e ≡ faults.Memory))
  pub counts : w.faults old ≤ w.faults new

-- why a call stopped: the writer failed in it, or memory ran out
abbrev pub IsWhyStopped : Fault → ℕ → ℕ → Type 0
IsWhyStopped fault before after = ((fault ≡ faults.Device) × Failed before after) ⊎ (fault ≡ faults.Memory)
