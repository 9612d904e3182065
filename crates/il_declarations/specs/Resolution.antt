-- What the words of a declaration and of an instruction stand for, and what a call answered.
use Rattle.std.specs.Prelude.{◌≡◌, ℕ, List, map, Option, Some, None, Result, Ok, Err, Bool, true, false, not}
use Rattle.std.specs.Prelude.{if◌then◌else◌, codes, ◌||◌, nat_lt}
use Rattle.il_model.specs.declared.dialect.Dialect.{Dialect}
use Rattle.il_model.specs.declared.dialect.Dialect.TheVariants as dialects
use Rattle.il_model.specs.Dialects.{literal_in, newest}
use Rattle.il_model.specs.Limits.{most_instructions, is_crowded}
use Rattle.il_values.specs.declared.value.Ty.{Ty}
use Rattle.il_values.specs.declared.value.Ty.TheVariants as types
use Rattle.il_values.specs.declared.value.Value.{Value}
use Rattle.il_model.specs.declared.literal.Literal.{Literal}
use Rattle.il_model.specs.declared.literal.Literal.TheVariants.{Bare, Typed}
use Rattle.il_values.specs.declared.op.Modifier.{Modifier}
use Rattle.il_model.specs.declared.program.Loc.{Loc}
use Rattle.il_model.specs.declared.program.Variable.{Variable}
use Rattle.il_model.specs.declared.kind.BlockKind.{BlockKind}
use Rattle.il_model.specs.Program.{Program}
use Rattle.il_model.specs.Kinds.{kind_of_name}
use Rattle.il_values.specs.Spelled.{upper, spells}
pub use Rattle.il_model.specs.Words.{plain}
pub use Rattle.il_model.specs.Row.{same_type}
use Rattle.il_values.specs.Values.{ty_of, number_of, typed_value, bare_value}
use Rattle.il_model.specs.Locations.{area_of, seen_as}
use Rattle.il_model.specs.Typing.{loc_type, is_writable_area}
use Rattle.il_model.specs.Codes.{is_type}
use Rattle.il_reader.specs.Tokens.{Token}
use Rattle.il_reader.specs.Grammar.{BehindText, Opened}
use Rattle.il_declarations.specs.declared.variables.DeclaredType.{DeclaredType}
use Rattle.il_declarations.specs.declared.variables.DeclaredType.TheVariants as declared
use Rattle.il_declarations.specs.declared.fault.Fault.{Fault}
use Rattle.il_declarations.specs.declared.fault.DeclError.{DeclError}
use Rattle.il_declarations.specs.declared.fault.DeclError.TheVariants as errors

abbrev pub capitals : List ℕ → List ℕ
capitals name = map upper name

-- the types that an extended text alone has
abbrev pub new_type : Dialect → List ℕ → Option Ty
new_type dialects.Plain word = None
new_type dialects.Extended word =
    if spells (codes "REAL") word then Some types.Real
    else if spells (codes "WORD") word then Some types.Word
    else if spells (codes "DWORD") word then Some types.Dword
    else None

abbrev pub type_of : Dialect → List ℕ → Option Ty
type_of dialect word =
    if spells (codes "BOOL") word then Some types.Bool
    else if spells (codes "INT") word then Some types.Int
    else if spells (codes "DINT") word then Some types.Dint
    else if spells (codes "TIME") word then Some types.Time
    else if spells (codes "LINT") word then Some types.Lint
    else new_type dialect word

-- what a type word stands for: an elementary type or the kind of a function block
abbrev pub kind_by : Option BlockKind → Option DeclaredType
kind_by None = None
kind_by (Some kind) = Some (declared.Block kind)

abbrev pub type_by : Option Ty → Option BlockKind → Option DeclaredType
type_by None kind = kind_by kind
type_by (Some type) kind = Some (declared.Elementary type)

abbrev pub declared_type : Dialect → List ℕ → Option DeclaredType
declared_type dialect word = type_by (type_of dialect word) (kind_of_name (capitals word))

-- a bit is BOOL, a word INT or WORD, a double word DINT, TIME, REAL or DWORD, and no instance has a location; an
-- unknown type is a fault of its own
abbrev pub suits : Option DeclaredType → Loc → Bool
suits None loc = true
suits (Some (declared.Elementary type)) loc = is_type type (loc_type (seen_as type loc))
suits (Some (declared.Block kind)) loc = false

-- the location of a variable of that type: a word or a double word is of the same
abbrev pub place_as : DeclaredType → Loc → Loc
place_as (declared.Elementary type) loc = seen_as type loc
place_as (declared.Block kind) loc = loc

abbrev pub variable : Bool → List ℕ → Ty → Option Loc → Value → Variable
variable retained name type location initial =
    record { name = name; ty = type; location = location; initial = initial; retained = retained }

-- a literal as a value of a type: a bare number that fits it, or a value of that type
abbrev pub fitting : Ty → Option Literal → Option Value
fitting type None = None
fitting type (Some (Bare z)) = bare_value type z
fitting type (Some (Typed v)) = if same_type (ty_of v) type then typed_value type (number_of v) else None

abbrev pub is_input : Option Loc → Bool
is_input None = false
is_input (Some loc) = not (is_writable_area (area_of loc))

-- the value that a literal gives a variable; an input has no first value of its own
abbrev pub written_value : Dialect → Ty → Option Loc → Token → Option Value
written_value dialect type loc t = if is_input loc then None else fitting type (literal_in dialect t.text)

abbrev pub opens : BehindText → Bool
opens (Opened o) = true
opens b = false

abbrev pub with_opening : Bool → Modifier → Modifier
with_opening o m = record { negated = m.negated; conditional = m.conditional; opens = o }

-- What a call answered is this, unless memory ran out.
abbrev pub Refuses : DeclError → Result Program Fault → Type 0
Refuses errors.Memory given = Unit {0}
Refuses (errors.Fault f) given = given ≡ Err f

abbrev pub Answers : {X : Type 0} → (X → Program) → Result X DeclError → Result Program Fault → Type 0
Answers view (Ok x) given = given ≡ Ok (view x)
Answers view (Err e) given = Refuses e given

-- ---- how much a program may have

-- so many instructions, with so many words, are more than a text of the dialect may have
abbrev pub are_too_many : Dialect → ℕ → ℕ → Bool
are_too_many dialect instructions words =
    nat_lt (most_instructions (newest dialect)) instructions || is_crowded instructions words
