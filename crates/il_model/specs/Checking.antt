-- Which fault is told of a program that is not typed: its first. The instructions are gone through from left to right,
-- the faults of each in the order of their ranks. A program is typed where this finds no fault (`know_typed`).
use Rattle.std.specs.Prelude.{◌≡◌, ℕ, zero, suc, ◌+◌, Bool, true, false, not, List, [], ◌∷◌, ◌++◌, length, drop, Option}
use Rattle.std.specs.Prelude.{Some, None, Result, Ok, Err, nat_lt, nat_eq, slice_get, if◌then◌else◌}
use Rattle.std.specs.List.{list_any}
use Rattle.il_values.specs.declared.value.Ty.{Ty}
use Rattle.il_model.specs.declared.program.Argument.{Argument}
use Rattle.il_model.specs.declared.program.Side.{Side}
use Rattle.il_model.specs.declared.program.Side.TheVariants as sides
use Rattle.il_model.specs.declared.kind.BlockKind.{BlockKind}
use Rattle.il_model.specs.declared.kind.Field.{Field}
use Rattle.il_model.specs.declared.program.Operand.{Operand}
use Rattle.il_model.specs.declared.program.Operand.TheVariants as operands
use Rattle.il_model.specs.declared.program.Instr.{Instr}
use Rattle.il_model.specs.declared.fetched.Source.{Source}
use Rattle.il_model.specs.declared.fetched.Source.TheVariants as sources
use Rattle.il_model.specs.declared.typing.TypeFault.{TypeFault}
use Rattle.il_model.specs.declared.typing.TypeFault.TheVariants.{TypeMismatch, NoCurrentResult, UnknownLabel}
use Rattle.il_model.specs.declared.typing.TypeFault.TheVariants.{DuplicateLabel, Unbalanced, TooDeep, NotWritable}
use Rattle.il_model.specs.declared.typing.TypeFault.TheVariants.{BadField}
use Rattle.il_model.specs.declared.typing.OperandKind.{OperandKind}
use Rattle.il_model.specs.declared.typing.OperandKind.TheVariants as kinds
use Rattle.il_model.specs.declared.typing.Held.{Held}
use Rattle.il_model.specs.declared.typing.Effect.{Effect}
use Rattle.il_model.specs.declared.typing.Effect.TheVariants.{Sets, Opens, Closes}
use Rattle.il_model.specs.Program.{Program}
use Rattle.il_values.specs.Values.{ty_of}
use Rattle.il_model.specs.Kinds.{field_type, is_input}
use Rattle.il_model.specs.Words.{same_name}
use Rattle.il_model.specs.Resolved.{source_of, target_of, called_kind}
use Rattle.il_model.specs.Row.{row, same_type}
use Rattle.il_model.specs.Typing.{Shape, place_type, is_writable, kind_field, shape_on_arrival}

abbrev pub fault_number : TypeFault → ℕ
fault_number TypeMismatch = 1
fault_number NoCurrentResult = 2
fault_number UnknownLabel = 3
fault_number DuplicateLabel = 4
fault_number Unbalanced = 5
fault_number TooDeep = 6
fault_number NotWritable = 7
fault_number BadField = 8

infixl 10 ◌>>=◌
abbrev pub ◌>>=◌ : {A B E : Type 0} → Result A E → (A → Result B E) → Result B E
(Ok x) >>= f = f x
(Err e) >>= f = Err e

abbrev pub typed_kind : Option Ty → Bool → OperandKind
typed_kind (Some t) w = kinds.Typed t w
typed_kind None w = kinds.Misfit

abbrev pub source_kind : Program → Source → OperandKind
source_kind Q sources.Absent = kinds.Absent
source_kind Q (sources.Constant v) = kinds.Typed (ty_of v) false
source_kind Q (sources.Of p) = typed_kind (place_type Q p) (is_writable Q p)
source_kind Q (sources.Target n) = kinds.Target
source_kind Q (sources.Instance i) = kinds.Instance

-- of an operand that stands for nothing
abbrev pub missing_kind : Operand → OperandKind
missing_kind (operands.Label name) = kinds.NoTarget
missing_kind (operands.Field name field) = kinds.NoField
missing_kind operand = kinds.Misfit

abbrev pub top_of : List Held → Option Held
top_of [] = None
top_of (h ∷ hs) = Some h

abbrev pub without_effect : Result Effect TypeFault → Result Effect TypeFault
without_effect (Err f) = Err f
without_effect (Ok e) = Err TypeMismatch

abbrev pub source_row : Program → Option Ty → Option Held → ℕ → Instr → Option Source → Result Effect TypeFault
source_row Q cr top depth line (Some src) = row cr top depth line.op line.modifier (source_kind Q src)
source_row Q cr top depth line None =
    without_effect (row cr top depth line.op line.modifier (missing_kind line.operand))

-- ---- the arguments of a call

-- the order in which the faults of one instruction are tried
abbrev pub fault_rank : TypeFault → ℕ
fault_rank DuplicateLabel = 0
fault_rank Unbalanced = 1
fault_rank TooDeep = 2
fault_rank UnknownLabel = 3
fault_rank BadField = 4
fault_rank NotWritable = 5
fault_rank NoCurrentResult = 6
fault_rank TypeMismatch = 7

abbrev pub tried_first : TypeFault → TypeFault → TypeFault
tried_first f g = if nat_lt (fault_rank g) (fault_rank f) then g else f

abbrev pub first_fault : Option TypeFault → Option TypeFault → Option TypeFault
first_fault None o = o
first_fault (Some f) None = Some f
first_fault (Some f) (Some g) = Some (tried_first f g)

abbrev pub operand_kind : Program → Operand → OperandKind
operand_kind Q operand = elim (source_of Q operand) [ Some src ↦ source_kind Q src | None ↦ missing_kind operand ]

abbrev pub unless_same : Ty → Ty → Option TypeFault
unless_same t u = if same_type t u then None else Some TypeMismatch

-- what goes into an input or out of an output is of the field's type, and what an output is stored to can be written
abbrev pub passing_fault : Side → Ty → OperandKind → Option TypeFault
passing_fault side t kinds.NoField = Some BadField
passing_fault sides.Input t (kinds.Typed u w) = unless_same t u
passing_fault sides.Input t kind = Some TypeMismatch
passing_fault sides.Output t (kinds.Typed u true) = unless_same t u
passing_fault sides.Output t kind = Some NotWritable

abbrev pub goes_so : Side → Field → Bool
goes_so sides.Input field = is_input field
goes_so sides.Output field = not (is_input field)

abbrev pub field_fault : Program → Argument → Option Field → Option TypeFault
field_fault Q a None = Some BadField
field_fault Q a (Some field) = if goes_so a.side field
    then passing_fault a.side (field_type field) (operand_kind Q a.operand) else Some BadField

-- a field stands once among the arguments of a call; seen are those before it
abbrev pub argument_fault : Program → Option BlockKind → List Argument → Argument → Option TypeFault
argument_fault Q None seen a = Some BadField
argument_fault Q (Some kind) seen a = if list_any (λ (b : Argument). same_name b.field a.field) seen then Some BadField
    else field_fault Q a (kind_field kind a.field)

abbrev pub arguments_fault : Program → Option BlockKind → List Argument → List Argument → Option TypeFault
arguments_fault Q kind seen [] = None
arguments_fault Q kind seen (a ∷ more) =
    first_fault (argument_fault Q kind seen a) (arguments_fault Q kind (seen ++ a ∷ []) more)

-- an instruction's effect, where its arguments have that fault
abbrev pub with_fault : Result Effect TypeFault → Option TypeFault → Result Effect TypeFault
with_fault r None = r
with_fault (Ok e) (Some f) = Err f
with_fault (Err g) (Some f) = Err (tried_first g f)

-- what an instruction does to the types, or its first fault; where it is no call an argument is a bad field
abbrev pub line_row_of : Program → Option Ty → Option Held → ℕ → Instr → Result Effect TypeFault
line_row_of Q cr top depth line =
    with_fault (source_row Q cr top depth line (source_of Q line.operand))
    (arguments_fault Q (called_kind Q line.operand) [] line.arguments)

abbrev pub line_row : Program → Shape → Instr → Result Effect TypeFault
line_row Q sh line = line_row_of Q sh.cr (top_of sh.kept) (length sh.kept) line

-- a label stands once, and not while a parenthesis is open
abbrev pub label_at : Option ℕ → ℕ → ℕ → Result (Unit {0}) TypeFault
label_at None n depth = Err DuplicateLabel
label_at (Some first) n depth = if nat_eq first n then (if nat_lt 0 depth then Err Unbalanced else Ok tt)
    else Err DuplicateLabel

abbrev pub label_row : Program → ℕ → ℕ → Option (List ℕ) → Result (Unit {0}) TypeFault
label_row Q n depth None = Ok tt
label_row Q n depth (Some name) = label_at (target_of Q name) n depth

abbrev pub shape_after : Shape → Effect → Shape
shape_after sh (Sets cr) = record sh { cr = cr }
shape_after sh (Opens held cr) = record { cr = cr; kept = held ∷ sh.kept }
shape_after sh (Closes t) = record { cr = Some t; kept = drop 1 sh.kept }

abbrev pub after_line : Program → ℕ → Shape → Instr → Result Shape TypeFault
after_line Q n sh line =
    label_row Q n (length sh.kept) line.label >>= λ _. line_row Q sh line >>= λ e. Ok
    (shape_on_arrival Q (n + 1) (shape_after sh e))

abbrev pub with_number : {X : Type 0} → ℕ → Result X TypeFault → Result X (TypeFault × ℕ)
with_number n (Ok x) = Ok x
with_number n (Err f) = Err (f, n)

abbrev pub after_at : Program → ℕ → Shape → Option Instr → Result Shape (TypeFault × ℕ)
after_at Q n sh (Some line) = with_number n (after_line Q n sh line)
after_at Q n sh None = Ok sh

-- the types on arrival at a position, or the first fault before it with the instruction's number
abbrev pub shape_at : Program → ℕ → Result Shape (TypeFault × ℕ)
shape_at Q zero = Ok (shape_on_arrival Q 0 (record { cr = None; kept = [] }))
shape_at Q (suc n) = shape_at Q n >>= λ sh. after_at Q n sh (slice_get Q.code n)

-- no parenthesis is open at the end
abbrev pub typing_end : Program → Shape → Result (Unit {0}) (TypeFault × ℕ)
typing_end Q sh = if nat_lt 0 (length sh.kept) then Err (Unbalanced, length Q.code) else Ok tt

abbrev pub judgement_of : Program → Result (Unit {0}) (TypeFault × ℕ)
judgement_of Q = shape_at Q (length Q.code) >>= typing_end Q

-- no instruction has a fault, nor has the end
abbrev pub HasNoTypeFault : Program → Type 0
HasNoTypeFault Q = judgement_of Q ≡ Ok tt
