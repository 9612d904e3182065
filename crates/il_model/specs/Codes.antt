-- What the numbers in an image stand for: types, locations, operators, letters, operands.
use Rattle.std.specs.Prelude.{ℕ, zero, suc, ◌-◌, Bool, true, false, not, ◌&&◌, ◌||◌, List, [], ◌∷◌, slice_get, Option, Some}
use Rattle.std.specs.Prelude.{None, ℤ, is_some, is_none, nat_lt, nat_le, nat_eq, if◌then◌else◌}
use Rattle.std.specs.List.{position, list_any}
use Rattle.std.specs.Option.{option_map, option_and_then}
use Rattle.il_values.specs.declared.value.Ty.{Ty}
use Rattle.il_values.specs.declared.value.Ty.TheVariants as types
use Rattle.il_values.specs.declared.value.Value.{Value}
use Rattle.il_values.specs.declared.op.Op.{Op}
use Rattle.il_values.specs.declared.op.Op.TheVariants as ops
use Rattle.il_values.specs.declared.op.Modifier.{Modifier}
use Rattle.il_model.specs.declared.codes.TheConstants.{RETAINED}
use Rattle.il_model.specs.declared.codes.Version.{Version}
use Rattle.il_model.specs.declared.codes.Version.TheVariants as versions
use Rattle.il_model.specs.declared.program.Loc.{Loc}
use Rattle.il_model.specs.declared.program.Variable.{Variable}
use Rattle.il_model.specs.declared.program.Instance.{Instance}
use Rattle.il_model.specs.declared.program.Side.{Side}
use Rattle.il_model.specs.declared.program.Side.TheVariants as sides
use Rattle.il_model.specs.declared.kind.BlockKind.{BlockKind}
use Rattle.il_model.specs.declared.kind.Field.{Field}
use Rattle.il_model.specs.declared.program.Operand.{Operand}
use Rattle.il_model.specs.declared.program.Operand.TheVariants as operands
use Rattle.il_model.specs.declared.program.Instr.{Instr}
use Rattle.il_model.specs.declared.codes.LetterSet.{LetterSet}
use Rattle.il_model.specs.declared.codes.LetterSet.TheVariants as letters
use Rattle.il_model.specs.declared.codes.OperandForm.{OperandForm}
use Rattle.il_model.specs.declared.codes.OperandForm.TheVariants as forms
use Rattle.il_model.specs.declared.codes.Usage.{Usage}
use Rattle.il_values.specs.Values.{typed_value, number_of}
use Rattle.il_values.specs.Operators.{is_zero}
use Rattle.il_model.specs.declared.limits.TheConstants.{LONGEST_NAME, LONGEST_DOTTED_NAME}
use Rattle.il_model.specs.Words.{same_name, is_lawful_name, stands_under}
use Rattle.il_model.specs.Kinds.{kind_fields, field_name}
use Rattle.il_model.specs.Program.{Declarations}
use Rattle.il_model.specs.Resolved.{instance_in}
use Rattle.il_model.specs.Locations.{area_of, parts_of, is_nameable}
use Rattle.il_model.specs.Row.{same_type}
use Rattle.il_model.specs.Typing.{loc_type, is_writable_area}
use Rattle.il_model.specs.Marks.{Mark}
use Rattle.il_model.specs.Constants.{same_value}
use Rattle.il_model.specs.Image.{type_version, op_version, may_have, may_lie, may_retain, may_name}
use Rattle.il_model.specs.declared.coded_operand.CodedOperand.{CodedOperand}
use Rattle.il_model.specs.declared.coded_operand.CodedOperand.TheVariants as coded
use Rattle.il_model.specs.CodedOperands.{loc_code, with_code}
use Rattle.il_values.specs.OpCodes.{op_of}

abbrev pub if_passes : {A : Type 0} → (A → Bool) → A → Option A
if_passes test x = if test x then Some x else None

abbrev pub is_number : List Variable → List ℕ → Option ℕ
is_number seen name = position (λ (v : Variable). same_name v.name name) seen

-- a lawful name that wasn't there before
abbrev pub is_new_name : List Variable → List ℕ → Bool
is_new_name seen name = is_lawful_name name && not (is_some (is_number seen name))

-- a variable stands under the name: with an instance of that name `T.Q` would be two things
abbrev pub has_under : List Variable → List ℕ → Bool
has_under vs name = list_any (λ (v : Variable). stands_under name v.name) vs

-- a lawful name that no variable and no instance before it has, and under which no variable stands
abbrev pub is_new_instance : List Variable → List Instance → List ℕ → Bool
is_new_instance vs seen name =
    is_new_name vs name && not (is_some (instance_in seen name)) && not (has_under vs name)

-- a lawful name that no label before it has; labels are a name space of their own
abbrev pub is_new_label : List Mark → List ℕ → Bool
is_new_label seen name = is_lawful_name name && not (is_some (position (λ (m : Mark). same_name m.name name) seen))

-- how many bytes a name in an image of this version has at most
abbrev pub longest_name : Version → ℕ
longest_name versions.Three = LONGEST_DOTTED_NAME
longest_name version = LONGEST_NAME

-- the length of a name, if it is one
abbrev pub length_in : Version → ℕ → Option ℕ
length_in version n = if nat_lt 0 n && nat_le n (longest_name version) then Some n else None

abbrev pub type_of : ℕ → Option Ty
type_of zero = Some types.Bool
type_of (suc zero) = Some types.Int
type_of (suc (suc zero)) = Some types.Dint
type_of (suc (suc (suc zero))) = Some types.Time
type_of (suc (suc (suc (suc zero)))) = Some types.Lint
type_of (suc (suc (suc (suc (suc zero))))) = Some types.Real
type_of (suc (suc (suc (suc (suc (suc zero)))))) = Some types.Word
type_of (suc (suc (suc (suc (suc (suc (suc zero))))))) = Some types.Dword
type_of n = None

abbrev pub version_numbered : ℕ → Option Version
version_numbered (suc zero) = Some versions.One
version_numbered (suc (suc zero)) = Some versions.Two
version_numbered (suc (suc (suc zero))) = Some versions.Three
version_numbered n = None

-- the type of a code in an image of this version
abbrev pub type_in : Version → ℕ → Option Ty
type_in version n = option_and_then (if_passes (λ t. may_have version (type_version t))) (type_of n)

-- ---- a declaration's code: that of a type or of a kind, with RETAINED more where what is declared is retained

abbrev pub is_retained_code : ℕ → Bool
is_retained_code code = nat_le RETAINED code

-- whether it is retained, where an image of this version may have that
abbrev pub retained_in : Version → ℕ → Option Bool
retained_in version code = if_passes (may_retain version) (is_retained_code code)

-- the code itself
abbrev pub plain_code : ℕ → ℕ
plain_code code = if is_retained_code code then code - RETAINED else code

-- the bit or the word of this code is one of those that a location is
abbrev pub has_code : ℕ → Option Loc → Bool
has_code n None = false
has_code n (Some loc) = list_any (λ part. nat_eq (loc_code part) n) (parts_of loc)

abbrev pub is_taken : List Variable → ℕ → Bool
is_taken seen n = is_some (position (λ (v : Variable). has_code n v.location) seen)

-- a variable lies at one of the bits or words that a location is
abbrev pub is_overlapped : List Variable → Loc → Bool
is_overlapped seen loc = list_any (λ part. is_taken seen (loc_code part)) (parts_of loc)

abbrev pub is_type : Ty → Option Ty → Bool
is_type t None = false
is_type t (Some u) = same_type t u

-- a location of the type, of which no other variable has a part
abbrev pub is_free : List Variable → Ty → Loc → Bool
is_free seen t loc = is_type t (loc_type loc) && not (is_overlapped seen loc)

-- where a variable may lie: at no location, or at a free one
abbrev pub free_loc : List Variable → Ty → CodedOperand → Option (Option Loc)
free_loc seen t coded.Unused = Some None
free_loc seen t (coded.Location loc) = if is_free seen t loc then Some (Some loc) else None
free_loc seen t operand = None

abbrev pub coded_location : List Variable → Ty → ℕ → Option (Option Loc)
coded_location seen t n = option_and_then (free_loc seen t) (with_code n)

-- that, where an image of this version may have it
abbrev pub coded_location_in : Version → List Variable → Ty → ℕ → Option (Option Loc)
coded_location_in version seen t n = option_and_then (if_passes (may_lie version)) (coded_location seen t n)

-- an input has no first value of its own
abbrev pub may_start_with : Option Loc → Value → Bool
may_start_with None v = true
may_start_with (Some loc) v = is_writable_area (area_of loc) || is_zero (number_of v)

abbrev pub initial_of : Ty → Option Loc → ℤ → Option Value
initial_of type loc z = option_and_then (if_passes (may_start_with loc)) (typed_value type z)

abbrev pub is_known : List Value → Value → Bool
is_known seen v = is_some (position (same_value v) seen)

-- a constant that wasn't there before
abbrev pub constant_of : List Value → Ty → ℤ → Option Value
constant_of seen type z = option_and_then (if_passes (λ v. not (is_known seen v))) (typed_value type z)

-- the letters that a number stands for
abbrev pub modifier_of : ℕ → Option Modifier
modifier_of zero = Some (record { negated = false; conditional = false; opens = false })
modifier_of (suc zero) = Some (record { negated = true; conditional = false; opens = false })
modifier_of (suc (suc zero)) = Some (record { negated = false; conditional = true; opens = false })
modifier_of (suc (suc (suc zero))) = Some (record { negated = true; conditional = true; opens = false })
modifier_of (suc (suc (suc (suc zero)))) = Some (record { negated = false; conditional = false; opens = true })
modifier_of (suc (suc (suc (suc (suc zero))))) = Some (record { negated = true; conditional = false; opens = true })
modifier_of n = None

abbrev pub variable_named : Option Variable → Option Operand
variable_named None = None
variable_named (Some v) = Some (operands.Variable v.name)

abbrev pub instance_named : Option Instance → Option Operand
instance_named None = None
instance_named (Some x) = Some (operands.Instance x.name)

-- the field of an instance by its number
abbrev pub field_named : Option Instance → ℕ → Option Operand
field_named None n = None
field_named (Some x) n =
    option_map (λ (f : Field). operands.Field x.name (field_name f)) (slice_get (kind_fields x.kind) n)

-- ---- the table of operators: the letters that each takes, and the form of its operand

abbrev pub usage_of : Op → Usage
usage_of ops.Empty = record { letters = letters.None; form = forms.Absent }
usage_of ops.Ld = record { letters = letters.N; form = forms.Value }
usage_of ops.St = record { letters = letters.N; form = forms.Value }
usage_of ops.S = record { letters = letters.None; form = forms.Value }
usage_of ops.R = record { letters = letters.None; form = forms.Value }
usage_of ops.And = record { letters = letters.NOpens; form = forms.Value }
usage_of ops.Or = record { letters = letters.NOpens; form = forms.Value }
usage_of ops.Xor = record { letters = letters.NOpens; form = forms.Value }
usage_of ops.Not = record { letters = letters.None; form = forms.Absent }
usage_of ops.Add = record { letters = letters.Opens; form = forms.Value }
usage_of ops.Sub = record { letters = letters.Opens; form = forms.Value }
usage_of ops.Min = record { letters = letters.Opens; form = forms.Value }
usage_of ops.Max = record { letters = letters.Opens; form = forms.Value }
usage_of ops.Mul = record { letters = letters.Opens; form = forms.Value }
usage_of ops.Div = record { letters = letters.Opens; form = forms.Value }
usage_of ops.Mod = record { letters = letters.Opens; form = forms.Value }
usage_of ops.Gt = record { letters = letters.Opens; form = forms.Value }
usage_of ops.Ge = record { letters = letters.Opens; form = forms.Value }
usage_of ops.Eq = record { letters = letters.Opens; form = forms.Value }
usage_of ops.Ne = record { letters = letters.Opens; form = forms.Value }
usage_of ops.Le = record { letters = letters.Opens; form = forms.Value }
usage_of ops.Lt = record { letters = letters.Opens; form = forms.Value }
usage_of ops.Jmp = record { letters = letters.C; form = forms.Label }
usage_of ops.Cal = record { letters = letters.C; form = forms.Instance }
usage_of ops.Ret = record { letters = letters.C; form = forms.Absent }
usage_of ops.Close = record { letters = letters.None; form = forms.Absent }
usage_of ops.IntToDint = record { letters = letters.None; form = forms.Absent }
usage_of ops.DintToInt = record { letters = letters.None; form = forms.Absent }
usage_of ops.DintToLint = record { letters = letters.None; form = forms.Absent }
usage_of ops.LintToDint = record { letters = letters.None; form = forms.Absent }
usage_of (ops.Shift s) = record { letters = letters.None; form = forms.Value }
usage_of (ops.Apply f) = record { letters = letters.None; form = forms.Absent }

-- no letter; N or none; C, CN or none; a parenthesis or none; that with N or without
abbrev pub allows : LetterSet → Modifier → Bool
allows letters.None m = not m.negated && not m.conditional && not m.opens
allows letters.N m = not m.conditional && not m.opens
allows letters.C m = (m.conditional || not m.negated) && not m.opens
allows letters.Opens m = not m.negated && not m.conditional
allows letters.NOpens m = not m.conditional

-- an operator with a parenthesis needs no operand
abbrev pub has_form : OperandForm → Bool → Operand → Bool
has_form forms.Absent opens operands.Absent = true
has_form forms.Value opens (operands.Literal v) = true
has_form forms.Value opens (operands.Variable name) = true
has_form forms.Value opens (operands.Direct loc) = true
has_form forms.Value opens (operands.Field name field) = true
has_form forms.Value true operands.Absent = true
has_form forms.Label opens (operands.Label name) = true
has_form forms.Instance opens (operands.Instance name) = true
has_form form opens operand = false

abbrev pub allowed_by : Usage → Modifier → Bool
allowed_by usage m = allows usage.letters m

abbrev pub formed_by : Usage → Modifier → Operand → Bool
formed_by usage m o = has_form usage.form m.opens o

-- ---- words

-- the operator of a code in an image of this version
abbrev pub op_in : Version → ℕ → Option Op
op_in version n = option_and_then (if_passes (λ op. may_have version (op_version op))) (op_of n)

-- the letters of an operator
abbrev pub letters_of : Op → ℕ → Option Modifier
letters_of op n = option_and_then (if_passes (allowed_by (usage_of op))) (modifier_of n)

-- the operand that stands under those numbers, if the declarations and the constants have it
abbrev pub named_operand : Declarations → List Value → CodedOperand → Option Operand
named_operand ds constants (coded.Location loc) = if is_nameable loc then Some (operands.Direct loc) else None
named_operand ds constants (coded.Variable i) = variable_named (slice_get ds.variables i)
named_operand ds constants (coded.Field i n) = field_named (slice_get ds.instances i) n
named_operand ds constants (coded.Constant k) = option_map operands.Literal (slice_get constants k)
named_operand ds constants coded.Unused = Some operands.Absent

-- an operand that is neither a label nor an instance that is called, by its code
abbrev pub value_operand : Declarations → List Value → ℕ → Option Operand
value_operand ds constants n = option_and_then (named_operand ds constants) (with_code n)

-- the name of the first label at an address
abbrev pub label_there : List Mark → ℕ → Option (List ℕ)
label_there [] n = None
label_there (m ∷ ms) n = if nat_eq m.at n then Some m.name else label_there ms n

-- a jump to an address without a label goes to the empty name, which no label has
abbrev pub target_name : Option (List ℕ) → List ℕ
target_name (Some name) = name
target_name None = []

abbrev pub is_jump : Op → Bool
is_jump ops.Jmp = true
is_jump op = false

abbrev pub is_call : Op → Bool
is_call ops.Cal = true
is_call op = false

-- what a word's number stands for; any address may follow JMP, whether a label stands there is judged later; CAL has
-- the number of an instance
abbrev pub numbered_operand : Declarations → List Mark → List Value → Op → ℕ → Option Operand
numbered_operand ds marks constants op n =
    if is_jump op then Some (operands.Label (target_name (label_there marks n)))
    else if is_call op then instance_named (slice_get ds.instances n)
    else value_operand ds constants n

-- that, where the operator takes an operand of its form
abbrev pub word_operand : Declarations → List Mark → List Value → Op → Modifier → ℕ → Option Operand
word_operand ds marks constants op m n =
    option_and_then (if_passes (formed_by (usage_of op) m)) (numbered_operand ds marks constants op n)

-- that, where an image of this version may have it
abbrev pub word_operand_in : Version → Declarations → List Mark → List Value → Op → Modifier → ℕ → Option Operand
word_operand_in version ds marks constants op m n =
    option_and_then (if_passes (may_name version)) (word_operand ds marks constants op m n)

-- ---- the words of arguments

abbrev pub side_of : ℕ → Option Side
side_of n = if nat_eq n 26 then Some sides.Input else (if nat_eq n 27 then Some sides.Output else None)

-- any number below 8 may be a field's; whether the kind has it is judged later
abbrev pub argument_number : ℕ → Option ℕ
argument_number n = if nat_lt n 8 then Some n else None

-- an argument always has a value or a place
abbrev pub argument_operand : Declarations → List Value → ℕ → Option Operand
argument_operand ds constants n =
    option_and_then (if_passes (has_form forms.Value false)) (value_operand ds constants n)

-- that, where an image of this version may have it
abbrev pub argument_operand_in : Version → Declarations → List Value → ℕ → Option Operand
argument_operand_in version ds constants n =
    option_and_then (if_passes (may_name version)) (argument_operand ds constants n)

-- the name of the field with a number; a number that the kind hasn't is the empty name, which no field has
abbrev pub argument_name : Option BlockKind → ℕ → List ℕ
argument_name kind n = elim
    (option_and_then (λ k. slice_get (kind_fields k) n) kind) [ Some field ↦ field_name field | None ↦ [] ]

-- ---- empty instructions

-- an empty instruction stands only where a label stands
abbrev pub is_empty : Op → Bool
is_empty ops.Empty = true
is_empty op = false

abbrev pub is_pointless : Instr → Bool
is_pointless line = is_empty line.op && is_none line.label
