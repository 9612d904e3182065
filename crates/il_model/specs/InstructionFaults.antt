-- Which faults an instruction has, each told by itself; of those it has, the one of least rank is told.
use Rattle.std.specs.Prelude.{◌≡◌, ℕ, ◌≤◌, Bool, true, false, not, ◌&&◌, ◌||◌, List, [], ◌∷◌, length, Option, Some}
use Rattle.std.specs.Prelude.{None, Result, Ok, Err, nat_lt, nat_eq, is_some, is_none, if◌then◌else◌}
use Rattle.std.specs.List.{list_any}
use Rattle.std.specs.Option.{option_and_then}
use Rattle.il_values.specs.declared.value.Ty.{Ty}
use Rattle.il_values.specs.declared.value.Ty.TheVariants as types
use Rattle.il_values.specs.declared.op.Op.{Op}
use Rattle.il_values.specs.declared.op.Op.TheVariants as ops
use Rattle.il_values.specs.declared.op.Modifier.{Modifier}
use Rattle.il_model.specs.declared.program.Argument.{Argument}
use Rattle.il_model.specs.declared.program.Side.{Side}
use Rattle.il_model.specs.declared.program.Side.TheVariants as sides
use Rattle.il_model.specs.declared.program.Instr.{Instr}
use Rattle.il_model.specs.declared.kind.BlockKind.{BlockKind}
use Rattle.il_model.specs.declared.kind.Field.{Field}
use Rattle.il_model.specs.declared.typing.TypeFault.{TypeFault}
use Rattle.il_model.specs.declared.typing.TypeFault.TheVariants.{TypeMismatch, NoCurrentResult, UnknownLabel}
use Rattle.il_model.specs.declared.typing.TypeFault.TheVariants.{DuplicateLabel, Unbalanced, TooDeep, NotWritable}
use Rattle.il_model.specs.declared.typing.TypeFault.TheVariants.{BadField}
use Rattle.il_model.specs.declared.typing.OperandKind.{OperandKind}
use Rattle.il_model.specs.declared.typing.OperandKind.TheVariants as kinds
use Rattle.il_model.specs.declared.typing.Held.{Held}
use Rattle.il_model.specs.declared.limits.TheConstants.{MOST_OPEN_PARENTHESES}
use Rattle.il_values.specs.Operators.{joined_type}
use Rattle.il_values.specs.Functions.{function_type}
use Rattle.il_model.specs.Kinds.{field_type}
use Rattle.il_model.specs.Words.{same_name}
use Rattle.il_model.specs.Codes.{is_jump, is_call}
use Rattle.il_model.specs.Program.{Program}
use Rattle.il_model.specs.Resolved.{source_of, target_of, called_kind}
use Rattle.il_model.specs.Row.{same_type, is_bool, negatable}
use Rattle.il_values.specs.Values.{is_bit_string}
use Rattle.il_model.specs.Typing.{Shape, kind_field}
use Rattle.il_model.specs.Checking.{top_of, operand_kind, goes_so, fault_rank}

-- ---- operators

-- a jump, a call or a return
abbrev pub leaves : Op → Bool
leaves ops.Jmp = true
leaves ops.Cal = true
leaves ops.Ret = true
leaves op = false

abbrev pub is_closing : Op → Bool
is_closing ops.Close = true
is_closing op = false

abbrev pub writes : Op → Bool
writes ops.St = true
writes ops.S = true
writes ops.R = true
writes op = false

-- an operator on the current result and an operand: such a one may have a parenthesis
abbrev pub combines : Op → Bool
combines ops.Empty = false
combines ops.Ld = false
combines ops.St = false
combines ops.S = false
combines ops.R = false
combines ops.Not = false
combines ops.Jmp = false
combines ops.Cal = false
combines ops.Ret = false
combines ops.Close = false
combines ops.IntToDint = false
combines ops.DintToInt = false
combines ops.DintToLint = false
combines ops.LintToDint = false
combines (ops.Apply f) = false
combines op = true

-- a value or a place follows it
abbrev pub has_operand : Op → Bool
has_operand ops.Ld = true
has_operand op = writes op || combines op

-- what leaves needs a current result only where it is conditional
abbrev pub needs_result : Op → Bool → Bool
needs_result ops.Empty conditional = false
needs_result ops.Ld conditional = false
needs_result ops.Jmp conditional = conditional
needs_result ops.Cal conditional = conditional
needs_result ops.Ret conditional = conditional
needs_result op conditional = true

-- ---- operands

abbrev pub is_target : OperandKind → Bool
is_target kinds.Target = true
is_target kind = false

abbrev pub is_instance : OperandKind → Bool
is_instance kinds.Instance = true
is_instance kind = false

abbrev pub is_no_field : OperandKind → Bool
is_no_field kinds.NoField = true
is_no_field kind = false

abbrev pub may_be_written : OperandKind → Bool
may_be_written (kinds.Typed t writable) = writable
may_be_written kind = false

-- ---- the types that each operator takes

abbrev pub result_is : (Ty → Bool) → Option Ty → Bool
result_is test (Some c) = test c
result_is test None = false

abbrev pub operand_is : (Ty → Bool) → OperandKind → Bool
operand_is test (kinds.Typed t writable) = test t
operand_is test kind = false

abbrev pub both_are : (Ty → Ty → Bool) → Option Ty → OperandKind → Bool
both_are test (Some c) (kinds.Typed t writable) = test c t
both_are test cr kind = false

abbrev pub joins : Op → Ty → Ty → Bool
joins op c t = is_some (joined_type op c t)

-- at a closing parenthesis the kept type and the current result fit the kept operator
abbrev pub fits_held : Option Held → Ty → Bool
fits_held (Some held) c = negatable held.negated c && joins held.op held.ty c
fits_held None c = false

-- an opening parenthesis has an operand or none
abbrev pub begins_inside : OperandKind → Bool
begins_inside kinds.Absent = true
begins_inside (kinds.Typed t writable) = true
begins_inside kind = false

abbrev pub takes : Option Ty → Option Held → Op → Modifier → OperandKind → Bool
takes cr held ops.Empty m kind = true
takes cr held ops.Ld m kind = operand_is (negatable m.negated) kind
takes cr held ops.St m kind = both_are (λ c t. same_type c t && negatable m.negated t) cr kind
takes cr held ops.S m kind = both_are (λ c t. is_bool t && is_bool c) cr kind
takes cr held ops.R m kind = both_are (λ c t. is_bool t && is_bool c) cr kind
takes cr held ops.Not m kind = result_is is_bit_string cr
takes cr held ops.Jmp m kind = if m.conditional then result_is is_bool cr else true
takes cr held ops.Cal m kind = if m.conditional then result_is is_bool cr else true
takes cr held ops.Ret m kind = if m.conditional then result_is is_bool cr else true
takes cr held ops.Close m kind = result_is (fits_held held) cr
takes cr held ops.IntToDint m kind = result_is (λ c. same_type c types.Int) cr
takes cr held ops.DintToInt m kind = result_is (λ c. same_type c types.Dint) cr
takes cr held ops.DintToLint m kind = result_is (λ c. same_type c types.Dint) cr
takes cr held ops.LintToDint m kind = result_is (λ c. same_type c types.Lint) cr
takes cr held (ops.Apply f) m kind = result_is (λ c. is_some (function_type f c)) cr
takes cr held op m kind =
    if m.opens then result_is (λ c. joins op c c) cr && begins_inside kind
    else both_are (λ c t. negatable m.negated t && joins op c t) cr kind

-- ---- the arguments of a call

abbrev pub if_goes_so : Side → Field → Option Field
if_goes_so side field = if goes_so side field then Some field else None

-- the field of the called kind that an argument goes to, or comes from
abbrev pub argument_field : Option BlockKind → Argument → Option Field
argument_field kind a = option_and_then (if_goes_so a.side) (option_and_then (λ k. kind_field k a.field) kind)

abbrev pub is_field_bad : Program → Option BlockKind → Argument → Bool
is_field_bad Q kind a = is_none (argument_field kind a) || is_no_field (operand_kind Q a.operand)

abbrev pub is_output_side : Side → Bool
is_output_side sides.Input = false
is_output_side sides.Output = true

-- what an output is stored to is written
abbrev pub is_unwritable : Program → Argument → Bool
is_unwritable Q a = is_output_side a.side && not (may_be_written (operand_kind Q a.operand))

abbrev pub is_of_field : Option Field → OperandKind → Bool
is_of_field (Some field) kind = operand_is (same_type (field_type field)) kind
is_of_field None kind = false

abbrev pub is_mismatched : Program → Option BlockKind → Argument → Bool
is_mismatched Q kind a = not (is_of_field (argument_field kind a) (operand_kind Q a.operand))

-- two arguments have one field
abbrev pub has_twins : List Argument → Bool
has_twins [] = false
has_twins (a ∷ more) = list_any (λ (b : Argument). same_name a.field b.field) more || has_twins more

-- ---- the faults of an instruction

-- its label stands first at another instruction
abbrev pub is_doubled : Program → ℕ → Option (List ℕ) → Bool
is_doubled Q n None = false
is_doubled Q n (Some name) = elim (target_of Q name) [ Some first ↦ not (nat_eq first n) | None ↦ true ]

abbrev pub is_open : Shape → Bool
is_open sh = nat_lt 0 (length sh.kept)

-- whether an instruction has a fault, where a program comes to it with these types
abbrev pub applies : Program → ℕ → Shape → Instr → TypeFault → Bool
applies Q n sh line DuplicateLabel = is_doubled Q n line.label
applies Q n sh line Unbalanced = if is_open sh then is_some line.label || leaves line.op else is_closing line.op
applies Q n sh line TooDeep = combines line.op && (line.modifier.opens && not (nat_lt (length sh.kept) MOST_OPEN_PARENTHESES))
applies Q n sh line UnknownLabel = is_jump line.op && not (is_target (operand_kind Q line.operand))
applies Q n sh line BadField =
    (has_operand line.op && is_no_field (operand_kind Q line.operand))
    || (is_call line.op && not (is_instance (operand_kind Q line.operand)))
    || (list_any (is_field_bad Q (called_kind Q line.operand)) line.arguments || has_twins line.arguments)
applies Q n sh line NotWritable = (writes line.op && not (may_be_written (operand_kind Q line.operand)))
    || list_any (is_unwritable Q) line.arguments
applies Q n sh line NoCurrentResult = needs_result line.op line.modifier.conditional && is_none sh.cr
applies Q n sh line TypeMismatch =
    (not (takes sh.cr (top_of sh.kept) line.op line.modifier (operand_kind Q line.operand))
    || is_none (source_of Q line.operand))
    || list_any (is_mismatched Q (called_kind Q line.operand)) line.arguments

-- of the faults that apply the one of least rank
pub record IsFirst (has : TypeFault → Bool) (f : TypeFault) : Type 0 where
  pub there : has f ≡ true
  pub least : (g : TypeFault) → has g ≡ true → fault_rank f ≤ fault_rank g

-- a fault is told exactly where it is the first of those that apply, and none where none applies
pub record TellsFirst {X : Type 0} (has : TypeFault → Bool) (r : Result X TypeFault) : Type 0 where
  pub told : (f : TypeFault) → r ≡ Err f → IsFirst has f
  pub only : (f : TypeFault) → IsFirst has f → r ≡ Err f
  pub passes : (x : X) → r ≡ Ok x → (f : TypeFault) → has f ≡ false
  pub none : ((f : TypeFault) → has f ≡ false) → (x : X) × (r ≡ Ok x)
