-- A text of units means its calls: the program that it means has the lines of its expansion for instructions, and the
-- controller does as the calls.
use Rattle.std.specs.Prelude.{◌≡◌, ℕ, ◌<◌, List, [], ◌∷◌, ◌++◌, Option, None, true}
use Rattle.il_values.specs.declared.value.Ty.{Ty}
use Rattle.il_model.specs.declared.dialect.Dialect.TheVariants as dialects
use Rattle.il_model.specs.declared.program.Instr.{Instr}
use Rattle.il_model.specs.Program.{Program}
use Rattle.il_model.specs.Settled.{IsTypedProgramOf}
use Rattle.il_reader.specs.Texts.{SourceText, Reads}
use Rattle.il_declarations.specs.Declaring as Declaring
use Rattle.il_declarations.specs.Declaring.{names_of}
use Rattle.il_units.specs.declared.word.Word.{Word}
use Rattle.il_units.specs.Units.{UnitText}
use Rattle.il_units.specs.Spelling.{has_units, SaysUnits}
use Rattle.il_units.specs.Flats.{FlatUnit}
use Rattle.il_units.specs.Expansion.{text_of}
use Rattle.il_text.specs.Meaning.{IsTypedProgramOfText}
use Rattle.ctl_model.specs.Suits.{Suits}
use Rattle.ctl_model.specs.State.{State}
use Rattle.ctl_model.specs.Scan as scans
use Rattle.ctl_model.specs.Runs.{Runs}
use Rattle.laws_calls.specs.Machines.{RunEnd, Comes}
use Rattle.laws_calls.specs.Calls.{call_step, begun}
use Rattle.laws_calls.specs.Controller.{controller, SayAll, EndsAs, IsReached}
use Rattle.laws_reading.specs.Laws.{flat_in, lines_of}
use Rattle.laws_meaning.specs.Instructions.{read_by}

-- what a flat unit's text is read as, the program that this declares, and its typed program
pub record HasProgram (u : FlatUnit) (source : SourceText) (Q : Program) : Type 0 where
  pub program : Program
  pub read : Reads (text_of u) source
  pub declared : Declaring.IsProgramOf dialects.Extended source.says program
  pub settled : IsTypedProgramOf program Q

-- of each unit of a text: the instructions of its typed program are the lines of its expansion, one by one, each read
-- beside what that declares
abbrev pub SaysItsInstructions : Type 0
SaysItsInstructions = (text : List ℕ) (before : List UnitText) (unit : UnitText) (behind : List UnitText)
    (source : SourceText) (Q : Program) → SaysUnits text (before ++ unit ∷ behind)
    → HasProgram (flat_in text before unit) source Q
    → SayAll (read_by (names_of source.says)) Q 0 (lines_of (flat_in text before unit)) Q.code

-- The controller, from some state, does as the calls of a program do: where these come to an end, so does the scan,
-- with the budget over some number; and where the scan comes to an end that isn't its budget's, the calls come to it.
abbrev pub DoesAsItsCalls : (Option Ty → List Word → Option Instr) → Program → ℕ → List ℕ → List UnitText → UnitText
    → State → Type 0
DoesAsItsCalls reads Q now text above program s =
    ((end : RunEnd State) → Comes (call_step (controller reads Q now) text) (begun above program) s end
    → (n : ℕ) × ((budget : ℕ) → n < budget → (r : scans.RunEnd) × Runs Q now [] budget 0 s r × EndsAs end r))
    × ((budget : ℕ) (r : scans.RunEnd) → Runs Q now [] budget 0 s r → IsReached r
    → (end : RunEnd State) × Comes (call_step (controller reads Q now) text) (begun above program) s end × EndsAs end r)

-- The typed program of a text of units does so, from each state that a scan begins with. What words name is looked up
-- in what the program's expansion declares.
abbrev pub MeansItsCalls : Type 0
MeansItsCalls = (text : List ℕ) (above : List UnitText) (program : UnitText) (Q : Program) (now : ℕ) (s : State)
    → SaysUnits text (above ++ program ∷ []) → IsTypedProgramOfText text Q → has_units text ≡ true
    → Suits Q s → s.cr ≡ None → s.position ≡ 0
    → (source : SourceText) × Reads (text_of (flat_in text above program)) source
    × DoesAsItsCalls (read_by (names_of source.says)) Q now text above program s
