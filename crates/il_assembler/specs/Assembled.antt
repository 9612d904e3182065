-- What an assembler gives for a program: its bytes, or its first fault.
use Rattle.std.specs.Prelude.{◌≡◌, ℕ, suc, [], true, Option, Some, None, Ok, slice_get, List, Result, Err}
use Rattle.il_model.specs.declared.program.Instr.{Instr}
use Rattle.il_model.specs.declared.typing.TypeFault.{TypeFault}
use Rattle.il_model.specs.declared.typing.TypeFault.TheVariants.{Unbalanced}
use Rattle.il_model.specs.Program.{Program}
use Rattle.il_model.specs.Typing.{Shape}
use Rattle.il_model.specs.Checking.{after_line, fault_number}
use Rattle.il_model.specs.Settled.{settled_line, IsTypedProgramOf}
use Rattle.il_model.specs.InstructionFaults.{IsFirst, applies, is_open}
use Rattle.il_model.specs.Image.{spelling}
use Rattle.il_model.specs.Fits.{IsImage}
use Rattle.il_assembler.specs.declared.fault.AsmError.{AsmError}
use Rattle.il_assembler.specs.declared.fault.AsmError.TheVariants as errors

-- ---- the first fault: at the least instruction that has one, and of its faults the first in the order of their ranks

-- No instruction before this one has a fault, and the program comes to it with these types: each bare number on the way
-- has the type that its place asks for.
pub data Arrives (P : Program) : ℕ → Shape → Type 0 where
  begins : Arrives P 0 (record { cr = None; kept = [] })
  passes : (n : ℕ) (types next : Shape) (line : Instr) → Arrives P n types → slice_get P.code n ≡ Some line
      → after_line P n types (settled_line types.cr line) ≡ Ok next → Arrives P (suc n) next

-- of the faults that an instruction has the first; behind the last instruction a parenthesis is open
abbrev pub IsFaultHere : Program → ℕ → Shape → Option Instr → TypeFault → Type 0
IsFaultHere P n types (Some line) f = IsFirst (applies P n types (settled_line types.cr line)) f
IsFaultHere P n types None f = (is_open types ≡ true) × (f ≡ Unbalanced)

-- the fault of the least instruction that has one
pub record IsFirstFault (P : Program) (n : ℕ) (f : TypeFault) : Type 0 where
  pub types : Shape
  pub arrives : Arrives P n types
  pub here : IsFaultHere P n types (slice_get P.code n) f

-- ---- what is answered

-- the bytes are the one spelling of the program's typed program
abbrev pub IsSpelled : Program → List ℕ → Type 0
IsSpelled P bytes = (Q : Program) × IsTypedProgramOf P Q × (bytes ≡ spelling Q)

-- the bytes spell a program that has an image, and so are loaded again
abbrev pub IsImageBytes : List ℕ → Type 0
IsImageBytes bytes = (Q : Program) × IsImage Q × (bytes ≡ spelling Q)

-- what a call answered, its bytes seen by view, is this, unless memory ran out
abbrev pub Answers : {X : Type 0} → (X → List ℕ) → Result X AsmError → Result (List ℕ) (TypeFault × ℕ) → Type 0
Answers view (Ok x) r = r ≡ Ok (view x)
Answers view (Err (errors.Fault f n)) r = r ≡ Err (f, n)
Answers view (Err errors.Memory) r = Unit {0}

-- what a typed program spells is given, unless memory runs out
abbrev pub IsGiven : {X : Type 0} → Program → (X → List ℕ) → Result X AsmError → Type 0
IsGiven P view r = (Q : Program) → IsTypedProgramOf P Q → Answers view r (Ok (spelling Q))

-- a fault that is told is the first of the program
abbrev pub TellsFirst : {X : Type 0} → Program → Result X AsmError → Type 0
TellsFirst P (Err (errors.Fault f n)) = IsFirstFault P n f
TellsFirst P r = Unit {0}

-- the first fault of the program is told, unless memory runs out
abbrev pub IsTold : {X : Type 0} → Program → (X → List ℕ) → Result X AsmError → Type 0
IsTold P view r = (n : ℕ) (f : TypeFault) → IsFirstFault P n f → Answers view r (Err (f, n))

abbrev pub error_number : AsmError → ℕ
error_number (errors.Fault fault instruction) = fault_number fault
error_number errors.Memory = 9
