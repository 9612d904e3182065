-- The controller as a machine, and programs whose instructions are the lines of an expansion.
use Rattle.std.specs.Prelude.{◌≡◌, ℕ, suc, ◌<◌, Option, Some, None, List, [], ◌∷◌, ◌++◌, Result, Ok, Err}
use Rattle.std.specs.List.{AllByRecursion}
use Rattle.std.specs.Option.{option_map, option_and_then}
use Rattle.il_values.specs.declared.value.Ty.{Ty}
use Rattle.il_values.specs.Values.{ty_of}
use Rattle.il_model.specs.Typing.{Shape, Arrives, IsTyped}
use Rattle.ctl_model.specs.Suits.{Suits}
use Rattle.il_values.specs.declared.op.Op.{Op}
use Rattle.il_values.specs.declared.op.Op.TheVariants as ops
use Rattle.il_values.specs.declared.value.Stop.{Stop}
use Rattle.il_values.specs.declared.value.Stop.TheVariants as stops
use Rattle.il_model.specs.declared.program.Instr.{Instr}
use Rattle.il_model.specs.declared.program.Operand.TheVariants as operands
use Rattle.il_model.specs.declared.fetched.Fetched.{Fetched}
use Rattle.il_model.specs.Program.{Program}
use Rattle.il_model.specs.Resolved.{target_of, resolved_line}
use Rattle.il_units.specs.declared.word.Word.{Word}
use Rattle.il_units.specs.declared.word.Line.{Line}
use Rattle.il_units.specs.Units.{UnitText}
use Rattle.ctl_model.specs.State.{State}
use Rattle.ctl_model.specs.Step as steps
use Rattle.ctl_model.specs.Step.{Outcome, act, truth_in}
use Rattle.ctl_model.specs.Scan as scans
use Rattle.ctl_model.specs.Runs.{Runs}
use Rattle.laws_calls.specs.Machines.{Machine, RunEnd, Done, Stopped, ComesIn, Comes}
use Rattle.laws_calls.specs.Lines.{Control, Nothing, Jump, Return, Performs, control_of, line_step}
use Rattle.laws_calls.specs.Calls.{call_step, begun}
use Rattle.laws_calls.specs.Laws.{IsPlainUnit, expanded_lines}

-- ---- the controller

-- the same state at the first instruction
abbrev pub at_start : State → State
at_start s = record s { position = 0 }

-- what a program declares
abbrev pub without_code : Program → Program
without_code Q = record Q { code = [] }

-- what an instruction does to the state, wherever it stands
abbrev pub deed : Outcome → Option (Result State Stop)
deed (steps.Next s) = Some (Ok (at_start s))
deed (steps.Stopped stop s) = Some (Err stop)
deed (steps.End s) = None
deed steps.Stuck = None

abbrev pub acted : Program → ℕ → State → Option Fetched → Option (Result State Stop)
acted Q now s None = None
acted Q now s (Some f) = deed (act (without_code Q) now s f.op f.modifier f.source f.arguments)

-- With the words read as instructions in some way, beside what a program declares, at the moment of a scan. The reading
-- may look at the type of the current result, of which a bare number is.
abbrev pub controller : (Option Ty → List Word → Option Instr) → Program → ℕ → Machine State
controller reads Q now = record {
  does = λ ws s. acted Q now s (option_and_then (resolved_line Q) (reads (option_map ty_of s.cr) ws));
  truth = λ s. option_and_then truth_in s.cr;
  forgets = λ s. record s { cr = None };
}

-- ---- a program that says lines

abbrev pub label_text : Option Word → Option (List ℕ)
label_text None = None
label_text (Some w) = Some w.text

-- neither a jump nor a return
abbrev pub IsPerformed : Op → Type 0
IsPerformed ops.Jmp = ⊥
IsPerformed ops.Ret = ⊥
IsPerformed op = Unit {0}

-- a label alone, a jump to a label that is there, a return, or what the words are read as behind what comes to the k-th
-- instruction
abbrev pub SaysWords : (Option Ty → List Word → Option Instr) → Program → ℕ → List Word → Control → Instr → Type 0
SaysWords reads Q k ws Nothing i = (i.op ≡ ops.Empty) × (i.operand ≡ operands.Absent) × (i.arguments ≡ [])
SaysWords reads Q k ws (Jump m name) i = (i.op ≡ ops.Jmp) × (i.modifier ≡ m) × (i.operand ≡ operands.Label name)
    × (i.arguments ≡ []) × ((n : ℕ) × (target_of Q name ≡ Some n))
SaysWords reads Q k ws (Return m) i =
    (i.op ≡ ops.Ret) × (i.modifier ≡ m) × (i.operand ≡ operands.Absent) × (i.arguments ≡ [])
SaysWords reads Q k ws Performs i = IsPerformed i.op
    × ((shape : Shape) → Arrives Q k shape → reads shape.cr ws ≡ Some (record i { label = None }))

pub record SaysLine (reads : Option Ty → List Word → Option Instr) (Q : Program) (k : ℕ) (l : Line) (i : Instr)
    : Type 0 where
  pub label : i.label ≡ label_text l.label
  pub words : SaysWords reads Q k l.words (control_of l.words) i

-- one by one, from the k-th on
abbrev pub SayAll : (Option Ty → List Word → Option Instr) → Program → ℕ → List Line → List Instr → Type 0
SayAll reads Q k [] [] = Unit {0}
SayAll reads Q k (l ∷ ls) (i ∷ code) = SaysLine reads Q k l i × SayAll reads Q (suc k) ls code
SayAll reads Q k ls code = ⊥

-- ---- the laws

-- a scan comes to that end
abbrev pub EndsAs : RunEnd State → scans.RunEnd → Type 0
EndsAs (Done s) (scans.Done t) = at_start t ≡ s
EndsAs (Stopped stop s) (scans.Stopped other t) = (stop ≡ other) × (at_start t ≡ s)
EndsAs end r = ⊥

-- the budget didn't stop it
abbrev pub IsReached : scans.RunEnd → Type 0
IsReached (scans.Stopped stops.Budget s) = ⊥
IsReached r = Unit {0}

-- Of a typed program, from a state that a scan begins with: where the lines come to an end within the budget, the scan
-- of the program that says them comes to that end; and where the scan comes to an end, the lines come to it.
abbrev pub RunsAsItsLines : Type 0
RunsAsItsLines = (reads : Option Ty → List Word → Option Instr) (Q : Program) (now budget : ℕ) (ls : List Line)
    (s : State)
    → IsTyped Q → Suits Q s → SayAll reads Q 0 ls Q.code → s.cr ≡ None → s.position ≡ 0
    → ((n : ℕ) (end : RunEnd State) → ComesIn (line_step (controller reads Q now) ls) n ls s end → n < budget
    → (r : scans.RunEnd) × Runs Q now [] budget 0 s r × EndsAs end r)
    × ((r : scans.RunEnd) → Runs Q now [] budget 0 s r → IsReached r
    → (end : RunEnd State) × Comes (line_step (controller reads Q now) ls) ls s end × EndsAs end r)

-- The same of the calls of a text, where the program's instructions are the lines of its expansion; the budget is to be
-- over some number.
abbrev pub ScansAsItsCalls : Type 0
ScansAsItsCalls = (reads : Option Ty → List Word → Option Instr) (Q : Program) (now : ℕ) (text : List ℕ)
    (above : List UnitText) (program : UnitText) (s : State) → AllByRecursion IsPlainUnit (above ++ program ∷ [])
    → IsTyped Q → Suits Q s → SayAll reads Q 0 (expanded_lines text above program) Q.code → s.cr ≡ None
    → s.position ≡ 0
    → ((end : RunEnd State) → Comes (call_step (controller reads Q now) text) (begun above program) s end
    → (n : ℕ) × ((budget : ℕ) → n < budget → (r : scans.RunEnd) × Runs Q now [] budget 0 s r × EndsAs end r))
    × ((budget : ℕ) (r : scans.RunEnd) → Runs Q now [] budget 0 s r → IsReached r
    → (end : RunEnd State) × Comes (call_step (controller reads Q now) text) (begun above program) s end × EndsAs end r)
