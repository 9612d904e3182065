-- The types that each instruction needs, and leaves; the faults in their order.
use Rattle.std.specs.Prelude.{ℕ, ◌<◌, Bool, true, false, not, ◌&&◌, ◌||◌, Option, Some, None, Result, Ok, Err, nat_lt}
use Rattle.std.specs.Prelude.{is_none, if◌then◌else◌}
use Rattle.il_values.specs.declared.value.Ty.{Ty}
use Rattle.il_values.specs.declared.value.Ty.TheVariants as types
use Rattle.il_values.specs.declared.op.Op.{Op}
use Rattle.il_values.specs.declared.op.Op.TheVariants as ops
use Rattle.il_values.specs.declared.op.Modifier.{Modifier}
use Rattle.il_model.specs.declared.typing.TypeFault.{TypeFault}
use Rattle.il_model.specs.declared.typing.TypeFault.TheVariants.{TypeMismatch, NoCurrentResult, UnknownLabel}
use Rattle.il_model.specs.declared.typing.TypeFault.TheVariants.{Unbalanced, TooDeep, NotWritable, BadField}
use Rattle.il_model.specs.declared.typing.OperandKind.{OperandKind}
use Rattle.il_model.specs.declared.typing.OperandKind.TheVariants as kinds
use Rattle.il_model.specs.declared.typing.Held.{Held}
use Rattle.il_model.specs.declared.typing.Effect.{Effect}
use Rattle.il_model.specs.declared.typing.Effect.TheVariants.{Sets, Opens, Closes}
use Rattle.il_model.specs.declared.limits.TheConstants.{MOST_OPEN_PARENTHESES}
use Rattle.il_values.specs.declared.function.Function.{Function}
use Rattle.il_values.specs.Values.{is_bit_string}
use Rattle.il_values.specs.Operators.{joined_type}
use Rattle.il_values.specs.Functions.{function_type}

abbrev pub same_type : Ty → Ty → Bool
same_type types.Bool types.Bool = true
same_type types.Int types.Int = true
same_type types.Dint types.Dint = true
same_type types.Lint types.Lint = true
same_type types.Time types.Time = true
same_type types.Real types.Real = true
same_type types.Word types.Word = true
same_type types.Dword types.Dword = true
same_type a b = false

abbrev pub is_bool : Ty → Bool
is_bool types.Bool = true
is_bool t = false

-- a letter N asks for a bit string
abbrev pub negatable : Bool → Ty → Bool
negatable negated t = not negated || is_bit_string t

-- An operand that is no field of its block is a bad field in each row.
abbrev pub load_row : Bool → OperandKind → Result Effect TypeFault
load_row negated kinds.NoField = Err BadField
load_row negated (kinds.Typed t w) = if negatable negated t then Ok (Sets (Some t)) else Err TypeMismatch
load_row negated kind = Err TypeMismatch

abbrev pub store_row : Option Ty → Bool → OperandKind → Result Effect TypeFault
store_row cr negated kinds.NoField = Err BadField
store_row None negated (kinds.Typed t true) = Err NoCurrentResult
store_row (Some c) negated (kinds.Typed t true) = if same_type c t && negatable negated t then Ok (Sets (Some c))
    else Err TypeMismatch
store_row cr negated kind = Err NotWritable

abbrev pub set_row : Option Ty → OperandKind → Result Effect TypeFault
set_row cr kinds.NoField = Err BadField
set_row None (kinds.Typed t true) = Err NoCurrentResult
set_row (Some c) (kinds.Typed t true) = if is_bool t && is_bool c then Ok (Sets (Some c)) else Err TypeMismatch
set_row cr kind = Err NotWritable

abbrev pub truth_row : Option Ty → Result Effect TypeFault
truth_row None = Err NoCurrentResult
truth_row (Some c) = if is_bool c then Ok (Sets (Some c)) else Err TypeMismatch

abbrev pub not_row : Option Ty → Result Effect TypeFault
not_row None = Err NoCurrentResult
not_row (Some c) = if is_bit_string c then Ok (Sets (Some c)) else Err TypeMismatch

abbrev pub leave_row : Option Ty → Bool → Result Effect TypeFault
leave_row cr conditional = if conditional then truth_row cr else Ok (Sets None)

abbrev pub closes_to : Option Ty → Result Effect TypeFault
closes_to (Some t) = Ok (Closes t)
closes_to None = Err TypeMismatch

abbrev pub close_row : Option Ty → Option Held → Result Effect TypeFault
close_row cr None = Err Unbalanced
close_row None (Some held) = Err NoCurrentResult
close_row (Some c) (Some held) = if negatable held.negated c then closes_to (joined_type held.op held.ty c)
    else Err TypeMismatch

abbrev pub convert_row : Option Ty → Ty → Ty → Result Effect TypeFault
convert_row None from to = Err NoCurrentResult
convert_row (Some c) from to = if same_type c from then Ok (Sets (Some to)) else Err TypeMismatch

abbrev pub opens_with : Held → OperandKind → Result Effect TypeFault
opens_with held kinds.Absent = Ok (Opens held None)
opens_with held (kinds.Typed t w) = Ok (Opens held (Some t))
opens_with held kind = Err TypeMismatch

-- the deferred operator has to take the type of the current result
abbrev pub opened_row : Option Ty → Op → Bool → OperandKind → Result Effect TypeFault
opened_row cr op negated kinds.NoField = Err BadField
opened_row None op negated kind = Err NoCurrentResult
opened_row (Some c) op negated kind = if is_none (joined_type op c c) then Err TypeMismatch
    else opens_with (record { op = op; negated = negated; ty = c }) kind

abbrev pub open_row : Option Ty → ℕ → Op → Bool → OperandKind → Result Effect TypeFault
open_row cr depth op negated kind = if nat_lt depth MOST_OPEN_PARENTHESES then opened_row cr op negated kind else Err TooDeep

abbrev pub sets_to : Option Ty → Result Effect TypeFault
sets_to (Some t) = Ok (Sets (Some t))
sets_to None = Err TypeMismatch

abbrev pub function_row : Option Ty → Function → Result Effect TypeFault
function_row None f = Err NoCurrentResult
function_row (Some c) f = sets_to (function_type f c)

abbrev pub combine_row : Option Ty → Op → Bool → OperandKind → Result Effect TypeFault
combine_row cr op negated kinds.NoField = Err BadField
combine_row None op negated kind = Err NoCurrentResult
combine_row (Some c) op negated (kinds.Typed t w) = if negatable negated t then sets_to (joined_type op c t)
    else Err TypeMismatch
combine_row (Some c) op negated kind = Err TypeMismatch

abbrev pub jump_row : Option Ty → Bool → OperandKind → Result Effect TypeFault
jump_row cr conditional kinds.Target = leave_row cr conditional
jump_row cr conditional kind = Err UnknownLabel

-- CAL leaves the current result as it was; its arguments are judged by rows of their own
abbrev pub call_row : Option Ty → Bool → OperandKind → Result Effect TypeFault
call_row cr conditional kinds.Instance = if conditional then truth_row cr else Ok (Sets cr)
call_row cr conditional kind = Err BadField

abbrev pub outside : ℕ → Result Effect TypeFault → Result Effect TypeFault
outside depth r = if nat_lt 0 depth then Err Unbalanced else r

-- what an instruction does to the types, or its first fault
abbrev pub row : Option Ty → Option Held → ℕ → Op → Modifier → OperandKind → Result Effect TypeFault
row cr top depth ops.Empty m kind = Ok (Sets cr)
row cr top depth ops.Ld m kind = load_row m.negated kind
row cr top depth ops.St m kind = store_row cr m.negated kind
row cr top depth ops.S m kind = set_row cr kind
row cr top depth ops.R m kind = set_row cr kind
row cr top depth ops.Not m kind = not_row cr
row cr top depth ops.Jmp m kind = outside depth (jump_row cr m.conditional kind)
row cr top depth ops.Cal m kind = outside depth (call_row cr m.conditional kind)
row cr top depth ops.Ret m kind = outside depth (leave_row cr m.conditional)
row cr top depth ops.Close m kind = close_row cr top
row cr top depth ops.IntToDint m kind = convert_row cr types.Int types.Dint
row cr top depth ops.DintToInt m kind = convert_row cr types.Dint types.Int
row cr top depth ops.DintToLint m kind = convert_row cr types.Dint types.Lint
row cr top depth ops.LintToDint m kind = convert_row cr types.Lint types.Dint
row cr top depth (ops.Apply f) m kind = function_row cr f
row cr top depth op m kind = if m.opens then open_row cr depth op m.negated kind else combine_row cr op m.negated kind

-- an operator is deferred only where there is room, and applied only where there is one
abbrev pub HasRoom : ℕ → Effect → Type 0
HasRoom depth (Opens held cr) = depth < MOST_OPEN_PARENTHESES
HasRoom depth e = Unit {0}
