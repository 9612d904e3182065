-- The walk over a text that private functions take: declarations before instructions, and what is asked of a name or of
-- a location is asked of those before it. No public clause cites it: what `resolve` answers is said by Declaring and
-- FirstFault.
use Rattle.std.specs.Prelude.{◌≡◌, ℕ, suc, ◌+◌, List, [], ◌∷◌, ◌++◌, length, Option, Some, None, is_some, unwrap_or, Result, Ok}
use Rattle.std.specs.Prelude.{Err, Bool, false, ◌||◌, nat_le, if◌then◌else◌}
use Rattle.il_model.specs.declared.dialect.Dialect.{Dialect}
use Rattle.il_reader.specs.Grammar.{dialect_of}
use Rattle.il_model.specs.Dialects.{literal_in, location_in, newest}
use Rattle.il_model.specs.Limits.{most_variables, most_instances}
use Rattle.il_values.specs.declared.value.Ty.{Ty}
use Rattle.il_values.specs.declared.value.Ty.TheVariants as types
use Rattle.il_values.specs.declared.value.Value.{Value}
use Rattle.il_values.specs.declared.value.Value.TheVariants as values
use Rattle.il_model.specs.declared.literal.Literal.{Literal}
use Rattle.il_model.specs.declared.literal.Literal.TheVariants.{Bare, Typed}
use Rattle.il_values.specs.declared.op.Op.TheVariants as ops
use Rattle.il_model.specs.declared.program.Loc.{Loc}
use Rattle.il_model.specs.declared.program.Variable.{Variable}
use Rattle.il_model.specs.declared.program.Operand.{Operand}
use Rattle.il_model.specs.declared.program.Operand.TheVariants as operands
use Rattle.il_model.specs.declared.program.Instance.{Instance}
use Rattle.il_model.specs.declared.program.Argument.{Argument}
use Rattle.il_model.specs.declared.program.Instr.{Instr}
use Rattle.il_model.specs.Program.{Program, Declarations}
use Rattle.il_model.specs.Resolved.{instance_in}
use Rattle.il_model.specs.Marks.{words_in}
use Rattle.std.specs.List.{list_any}
use Rattle.il_model.specs.Words.{is_reserved, split_last, stands_under}
use Rattle.il_values.specs.Values.{zero_of}
use Rattle.il_model.specs.Codes.{is_number, has_under, is_overlapped}
use Rattle.il_reader.specs.Tokens.{Token}
use Rattle.il_reader.specs.Grammar.{OperandText, Constant, Direct, Named, Field, BehindText, Nothing, Given, Target}
use Rattle.il_reader.specs.Grammar.{Opened, Called, ArgumentText, arguments_of, OperationText, LineText, Labelled}
use Rattle.il_reader.specs.Grammar.{Plain, NamesText, Located, More, BlockText, ProgramText}
use Rattle.il_reader.specs.Texts.{place_at, SourceText}
use Rattle.il_declarations.specs.declared.variables.Plan.{Plan}
use Rattle.il_declarations.specs.declared.variables.DeclaredType.{DeclaredType}
use Rattle.il_declarations.specs.declared.variables.DeclaredType.TheVariants as declared
use Rattle.il_declarations.specs.declared.fault.DeclKind.{DeclKind}
use Rattle.il_declarations.specs.declared.fault.DeclKind.TheVariants as kinds
use Rattle.il_declarations.specs.declared.fault.FaultAt.{FaultAt}
use Rattle.il_declarations.specs.declared.fault.Failure.{Failure}
use Rattle.il_declarations.specs.declared.fault.Failure.TheVariants as failures
use Rattle.il_declarations.specs.declared.fault.Fault.{Fault}
use Rattle.il_declarations.specs.Resolution.{capitals, declared_type, suits, place_as, variable, written_value, opens}
use Rattle.il_declarations.specs.Resolution.{with_opening, plain, are_too_many}
use Rattle.il_declarations.specs.Declaring.{BlockDeclaration, declarations_in, operation_words}

infixl 10 ◌>>=◌
abbrev pub ◌>>=◌ : {A B : Type 0} → Result A FaultAt → (A → Result B FaultAt) → Result B FaultAt
(Ok x) >>= f = f x
(Err e) >>= f = Err e

-- What a function returned, seen by view, is what is given, unless memory ran out.
abbrev pub Fails : {Y : Type 0} → Failure → Result Y FaultAt → Type 0
Fails failures.Memory given = Unit {0}
Fails (failures.Refused f) given = given ≡ Err f

abbrev pub Gives : {X Y : Type 0} → (X → Y) → Result X Failure → Result Y FaultAt → Type 0
Gives view (Ok x) given = given ≡ Ok (view x)
Gives view (Err e) given = Fails e given

-- each of them in order, or the first fault
unfoldable pub each : {X Y : Type 0} → (Y → X → Result Y FaultAt) → Y → List X → Result Y FaultAt
each step y [] = Ok y
each step y (x ∷ xs) = step y x >>= λ z. each step z xs

abbrev pub refused : {A : Type 0} → DeclKind → Token → Result A FaultAt
refused kind t = Err (record { kind = kind; left = t.left })

-- ---- declarations

-- no names yet
abbrev pub nothing : Declarations
nothing = record { variables = []; instances = [] }

-- a variable has the name
abbrev pub has_name : Declarations → List ℕ → Bool
has_name known name = is_some (is_number known.variables name)

-- an instance has the name
abbrev pub has_instance : Declarations → List ℕ → Bool
has_instance known name = is_some (instance_in known.instances name)

-- there are as many variables, or instances, as a program may have; behind an unknown type nothing stands
abbrev pub is_full : Dialect → Option DeclaredType → Declarations → Bool
is_full dialect None known = false
is_full dialect (Some (declared.Elementary type)) known =
    nat_le (most_variables (newest dialect)) (length known.variables)
is_full dialect (Some (declared.Block kind)) known =
    nat_le (most_instances (newest dialect)) (length known.instances)

-- a variable and an instance under whose name it stands
abbrev pub is_shadowed : Option DeclaredType → Declarations → List ℕ → Bool
is_shadowed (Some (declared.Block kind)) known name = has_under known.variables name
is_shadowed type known name = list_any (λ (x : Instance). stands_under x.name name) known.instances

-- a name in capital letters, which no variable and no instance before it has, nor a variable under an instance
unfoldable pub new_name : Dialect → Option DeclaredType → Declarations → Token → Result (List ℕ) FaultAt
new_name dialect type known t =
    if has_name known (capitals t.text) || has_instance known (capitals t.text)
    || is_shadowed type known (capitals t.text) then refused kinds.Duplicate t
    else if is_reserved (capitals t.text) then refused kinds.ReservedName t
    else if is_full dialect type known then refused kinds.TooMany t
    else Ok (capitals t.text)

abbrev pub free_loc : Option DeclaredType → Declarations → Token → Option Loc → Result Loc FaultAt
free_loc type known t None = refused kinds.BadLocation t
free_loc type known t (Some loc) =
    if suits type loc then (if is_overlapped known.variables loc then refused kinds.Overlap t else Ok loc)
    else refused kinds.BadLocation t

-- a location of the type of which none of the variables before has a part
abbrev pub free_location : Dialect → Option DeclaredType → Declarations → Token → Result Loc FaultAt
free_location dialect type known t = free_loc type known t (location_in dialect t.text)

abbrev pub found_type : Token → Option DeclaredType → Result DeclaredType FaultAt
found_type t None = refused kinds.UnknownType t
found_type t (Some type) = Ok type

abbrev pub known_type : Dialect → Token → Result DeclaredType FaultAt
known_type dialect t = found_type t (declared_type dialect t.text)

-- ---- initial values

abbrev pub fitted : Token → Option Value → Result Value FaultAt
fitted t None = refused kinds.BadInitial t
fitted t (Some v) = Ok v

-- where none is written it is that of the type
abbrev pub elementary_value : Dialect → Ty → Option Loc → Option Token → Result Value FaultAt
elementary_value dialect type loc None = Ok (zero_of type)
elementary_value dialect type loc (Some t) = fitted t (written_value dialect type loc t)

-- an instance has no first value
abbrev pub first_value : Dialect → DeclaredType → Option Loc → Option Token → Result Value FaultAt
first_value dialect (declared.Elementary type) loc initial = elementary_value dialect type loc initial
first_value dialect (declared.Block kind) loc None = Ok (values.Bool false)
first_value dialect (declared.Block kind) loc (Some t) = refused kinds.BadInitial t

-- Whatever stands here for an unknown type, an instance or a bad value, that is the fault behind the names, or isn't
-- used.
abbrev pub planned_value : Dialect → Option DeclaredType → Option Token → Value
planned_value dialect (Some (declared.Elementary type)) None = zero_of type
planned_value dialect (Some (declared.Elementary type)) (Some t) =
    unwrap_or (written_value dialect type None t) (values.Bool false)
planned_value dialect type initial = values.Bool false

abbrev pub plan_of : Dialect → BlockDeclaration → Plan
plan_of dialect d = record {
  ty = declared_type dialect d.text.ty.text;
  initial = planned_value dialect (declared_type dialect d.text.ty.text) d.text.initial;
  retained = d.retained;
}

-- ---- variables and instances

abbrev pub with_variable : Declarations → Variable → Declarations
with_variable known v = record known { variables = known.variables ++ v ∷ [] }

abbrev pub with_instance : Declarations → Instance → Declarations
with_instance known x = record known { instances = known.instances ++ x ∷ [] }

-- one name more, of a variable or of an instance
abbrev pub with_declared : Plan → Declarations → List ℕ → Option Loc → Option DeclaredType → Declarations
with_declared plan known name loc None =
    with_variable known (variable plan.retained name types.Bool loc plan.initial)
with_declared plan known name loc (Some (declared.Elementary type)) =
    with_variable known (variable plan.retained name type loc plan.initial)
with_declared plan known name loc (Some (declared.Block kind)) =
    with_instance known (record { name = name; kind = kind; retained = plan.retained })

-- a name of a list
unfoldable pub declare_name : Dialect → Plan → Declarations → Token → Result Declarations FaultAt
declare_name dialect plan known t =
    new_name dialect plan.ty known t >>= λ name. Ok (with_declared plan known name None plan.ty)

unfoldable pub declare_located : Dialect → Declarations → BlockDeclaration → Token → Result Declarations FaultAt
declare_located dialect known d location = do
  name ← new_name dialect (declared_type dialect d.text.ty.text) known d.text.name
  loc ← free_location dialect (declared_type dialect d.text.ty.text) known location
  type ← known_type dialect d.text.ty
  initial ← first_value dialect type (Some loc) d.text.initial
  Ok (with_declared (record { ty = Some type; initial = initial; retained = d.retained }) known name
      (Some (place_as type loc)) (Some type))

unfoldable pub declare_listed : Dialect → Declarations → BlockDeclaration → List Token → Result Declarations FaultAt
declare_listed dialect known d more = do
  first ← declare_name dialect (plan_of dialect d) known d.text.name
  named ← each (declare_name dialect (plan_of dialect d)) first more
  type ← known_type dialect d.text.ty
  initial ← first_value dialect type None d.text.initial
  Ok named

abbrev pub declare_by : Dialect → Declarations → BlockDeclaration → NamesText → Result Declarations FaultAt
declare_by dialect known d (Located location) = declare_located dialect known d location
declare_by dialect known d (More more) = declare_listed dialect known d more

abbrev pub declare : Dialect → Declarations → BlockDeclaration → Result Declarations FaultAt
declare dialect known d = declare_by dialect known d d.text.names

abbrev pub declare_block : Dialect → Declarations → BlockText → Result Declarations FaultAt
declare_block dialect known b = each (declare dialect) known (declarations_in b)

-- ---- instructions

abbrev pub direct : Token → Option Loc → Result Operand FaultAt
direct t None = refused kinds.BadLocation t
direct t (Some loc) = Ok (operands.Direct loc)

-- a text that was read has no other literals
abbrev pub constant : Token → Option Literal → Result Operand FaultAt
constant t None = refused kinds.UnknownName t
constant t (Some (Bare z)) = Ok (operands.Bare z)
constant t (Some (Typed v)) = Ok (operands.Literal v)

-- the field of an instance, by what stands before its last dot and behind it
abbrev pub field_named : Declarations → Token → Option (List ℕ × List ℕ) → Result Operand FaultAt
field_named known t None = refused kinds.UnknownName t
field_named known t (Some (x, field)) =
    if has_instance known x then Ok (operands.Field x field) else refused kinds.UnknownName t

abbrev pub operand_of : Dialect → Declarations → OperandText → Result Operand FaultAt
operand_of dialect known (Constant t) = constant t (literal_in dialect t.text)
operand_of dialect known (Direct t) = direct t (location_in dialect t.text)
operand_of dialect known (Named t) = if has_name known (capitals t.text) then Ok (operands.Variable (capitals t.text))
    else field_named known t (split_last (capitals t.text))
operand_of dialect known (Field t f) = if has_instance known (capitals t.text)
    then Ok (operands.Field (capitals t.text) (capitals f.text)) else refused kinds.UnknownName t

abbrev pub optional_operand_of : Dialect → Declarations → Option OperandText → Result Operand FaultAt
optional_operand_of dialect known None = Ok operands.Absent
optional_operand_of dialect known (Some x) = operand_of dialect known x

-- what stands behind an operator; whether a jump's label stands somewhere is not asked here
abbrev pub behind_of : Dialect → Declarations → BehindText → Result Operand FaultAt
behind_of dialect known Nothing = Ok operands.Absent
behind_of dialect known (Given x) = operand_of dialect known x
behind_of dialect known (Target t) = Ok (operands.Label (capitals t.text))
behind_of dialect known (Opened o) = optional_operand_of dialect known o
behind_of dialect known (Called c) = if has_instance known (capitals c.instance.text)
    then Ok (operands.Instance (capitals c.instance.text)) else refused kinds.UnknownName c.instance

-- an argument of a call; whether the block has such a field is judged with the types
unfoldable pub argument_of : Dialect → Declarations → ArgumentText → Result Argument FaultAt
argument_of dialect known a = operand_of dialect known a.operand >>= λ x. Ok
    (record { field = capitals a.field.text; side = a.side; operand = x })

abbrev pub pushed_argument : Dialect → Declarations → List Argument → ArgumentText → Result (List Argument) FaultAt
pushed_argument dialect known found a = argument_of dialect known a >>= λ x. Ok (found ++ x ∷ [])

abbrev pub behind_arguments : Dialect → Declarations → BehindText → Result (List Argument) FaultAt
behind_arguments dialect known (Called c) = each (pushed_argument dialect known) [] (arguments_of c)
behind_arguments dialect known b = Ok []

-- the instruction of an operation, or the empty one
unfoldable pub instruction_of : Dialect → Declarations → Option (List ℕ) → Option OperationText → Result Instr FaultAt
instruction_of dialect known label None =
    Ok (record { label = label; op = ops.Empty; modifier = plain; operand = operands.Absent; arguments = [] })
instruction_of dialect known label (Some o) =
    behind_of dialect known o.behind >>= λ x. behind_arguments dialect known o.behind >>= λ arguments. Ok
    (record {
      label = label;
      op = o.operator.mnemonic.op;
      modifier = with_opening (opens o.behind) o.operator.mnemonic.modifier;
      operand = x;
      arguments = arguments;
    })

-- there is room for one instruction more, of so many words, where the line begins that many bytes before the end
abbrev pub room : Dialect → List Instr → ℕ → ℕ → Result (Unit {0}) FaultAt
room dialect code words left = if are_too_many dialect (suc (length code)) (words_in code + words)
    then Err (record { kind = kinds.TooMany; left = left }) else Ok tt

-- a label in capital letters; labels are a name space of their own, and a doubled one is found later
abbrev pub label_of : Token → Result (List ℕ) FaultAt
label_of t = if is_reserved (capitals t.text) then refused kinds.ReservedName t else Ok (capitals t.text)

unfoldable pub instruct_labelled : Dialect → Declarations → List Instr → Token → Option OperationText
    → Result (List Instr) FaultAt
instruct_labelled dialect known code t o = do
  label ← label_of t
  here ← room dialect code (operation_words o) t.left
  line ← instruction_of dialect known (Some label) o
  Ok (code ++ line ∷ [])

unfoldable pub instruct_plain : Dialect → Declarations → List Instr → OperationText → Result (List Instr) FaultAt
instruct_plain dialect known code o = do
  here ← room dialect code (operation_words (Some o)) o.operator.left
  line ← instruction_of dialect known None (Some o)
  Ok (code ++ line ∷ [])

abbrev pub instruct : Dialect → Declarations → List Instr → LineText → Result (List Instr) FaultAt
instruct dialect known code (Labelled t o) = instruct_labelled dialect known code t o
instruct dialect known code (Plain o) = instruct_plain dialect known code o

-- ---- the whole

unfoldable pub program_at : Dialect → ProgramText → Result Program FaultAt
program_at dialect p = do
  known ← each (declare_block dialect) nothing p.blocks
  code ← each (instruct dialect known) [] p.lines
  Ok (record { variables = known.variables; instances = known.instances; code = code })

abbrev pub told : List ℕ → Result Program FaultAt → Result Program Fault
told text (Ok Q) = Ok Q
told text (Err f) = Err (record { kind = f.kind; place = place_at text f.left })

-- the program of a text, or its first fault with its line and column
abbrev pub resolution_of : SourceText → Result Program Fault
resolution_of s = told s.text (program_at (dialect_of s.text) s.says)
