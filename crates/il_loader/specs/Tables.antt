-- The tables of an image, as they are read.
use Rattle.std.specs.Prelude.{Bool, true, false, List, [], ◌∷◌, Option, ℕ, ◌++◌, Some, None}
use Rattle.il_model.specs.declared.codes.Version.{Version}
use Rattle.il_values.specs.declared.value.Value.{Value}
use Rattle.il_model.specs.declared.kind.BlockKind.{BlockKind}
use Rattle.il_model.specs.declared.program.Variable.{Variable}
use Rattle.il_model.specs.declared.program.Instance.{Instance}
use Rattle.il_model.specs.declared.program.Operand.{Operand}
use Rattle.il_model.specs.declared.program.Argument.{Argument}
use Rattle.il_model.specs.declared.program.Instr.{Instr}
use Rattle.il_model.specs.declared.program.Side.{Side}
use Rattle.il_model.specs.Program.{Declarations}
use Rattle.il_model.specs.Resolved.{kind_in}
use Rattle.il_model.specs.Marks.{Mark}
use Rattle.il_model.specs.Codes.{argument_name}
use Rattle.il_loader.specs.declared.word.Word.{Word}
use Rattle.il_loader.specs.declared.word.Content.{Content}
use Rattle.il_loader.specs.declared.word.Content.TheVariants as contents

pub record Tables : Type 0 where
  pub version : Version
  pub variables : List Variable
  pub instances : List Instance
  pub labels : List Mark
  pub constants : List Value
  pub words : List Word

abbrev pub declared_in : Tables → Declarations
declared_in t = record { variables = t.variables; instances = t.instances }

abbrev pub operand_in : Content → Operand
operand_in (contents.Instruction line) = line.operand
operand_in (contents.Argument side number operand) = operand

abbrev pub is_argument : Content → Bool
is_argument (contents.Instruction line) = false
is_argument (contents.Argument side number operand) = true

-- the arguments that the words begin with, of a call to a block of that kind; in front of the other arguments and of
-- none
abbrev pub with_argument : Option BlockKind → Content → List Argument → List Argument
with_argument kind (contents.Instruction line) more = []
with_argument kind (contents.Argument side number operand) more =
    record { field = argument_name kind number; side = side; operand = operand } ∷ more

abbrev pub front_arguments : Option BlockKind → List Word → List Argument
front_arguments kind [] = []
front_arguments kind (w ∷ ws) = with_argument kind w.content (front_arguments kind ws)

-- an instruction takes the arguments behind it
abbrev pub with_line : List Instance → Content → List Word → List Instr → List Instr
with_line xs (contents.Instruction line) ws more =
    record line { arguments = front_arguments (kind_in xs line.operand) ws } ∷ more
with_line xs (contents.Argument side number operand) ws more = more

-- the instructions that the words stand for; an argument in front of all of them is in none, and is refused
abbrev pub lines_of : List Instance → List Word → List Instr
lines_of xs [] = []
lines_of xs (w ∷ ws) = with_line xs w.content ws (lines_of xs ws)

-- ---- instructions, while their words are gone over

-- the last instruction, if one has begun
abbrev pub last_line : Option Instr → List Instr
last_line None = []
last_line (Some line) = line ∷ []

-- an instruction with one argument more
abbrev pub line_with : List Instance → Side → ℕ → Operand → Instr → Instr
line_with xs side number operand line =
    record line {
      arguments = line.arguments
          ++ record { field = argument_name (kind_in xs line.operand) number; side = side; operand = operand } ∷ [];
    }
