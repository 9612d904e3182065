-- A program as its definitions see it: declarations and instructions, with names; and how many it may have.
use Rattle.std.specs.Prelude.{◌≡◌, List, ◌≤◌, false, length, Option, Some, None, if◌then◌else◌}
use Rattle.il_model.specs.declared.program.Variable.{Variable}
use Rattle.il_model.specs.declared.program.Instance.{Instance}
use Rattle.il_model.specs.declared.program.Instr.{Instr}
use Rattle.il_model.specs.declared.limits.TheConstants.{MOST_VARIABLES, MOST_INSTANCES, MOST_INSTRUCTIONS}
use Rattle.il_model.specs.declared.codes.Version.{Version}
use Rattle.il_model.specs.Marks.{words_in}
use Rattle.il_model.specs.Limits.{is_crowded, has_room}

pub record Program : Type 0 where
  pub variables : List Variable
  pub instances : List Instance
  pub code : List Instr

-- what a program declares
pub record Declarations : Type 0 where
  pub variables : List Variable
  pub instances : List Instance

abbrev pub declared_by : Program → Declarations
declared_by Q = record { variables = Q.variables; instances = Q.instances }

-- ---- how many there may be

-- the program of these parts, where an image of the version has room for them
abbrev pub program_of : Version → List Variable → List Instance → List Instr → Option Program
program_of version variables instances code = if has_room version variables instances code
    then Some (record { variables = variables; instances = instances; code = code }) else None

-- as much as there is room for in any version
pub record IsSmall (Q : Program) : Type 0 where
  pub variables : length Q.variables ≤ MOST_VARIABLES
  pub instances : length Q.instances ≤ MOST_INSTANCES
  pub code : length Q.code ≤ MOST_INSTRUCTIONS
  pub words : is_crowded (length Q.code) (words_in Q.code) ≡ false
