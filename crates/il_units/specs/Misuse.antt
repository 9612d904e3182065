-- The first fault of a unit beside those above it that its expansion doesn't show: of its name, then of each member,
-- then of each line.
use Rattle.std.specs.Prelude.{ℕ, ◌≡◌, suc, ◌+◌, List, [], ◌∷◌, ◌++◌, length, Option, Some, None, is_none, is_some}
use Rattle.std.specs.Prelude.{Bool, true}
use Rattle.std.specs.Prelude.{false, not, ◌&&◌, ◌||◌, nat_lt, nat_le, nat_eq, count_by, Result, Ok, Err, if◌then◌else◌}
use Rattle.std.specs.List.{list_any}
use Rattle.std.specs.Str.{bytes_eq}
use Rattle.il_model.specs.declared.limits.TheConstants.{MOST_INSTRUCTIONS}
use Rattle.il_values.specs.declared.value.Ty.{Ty}
use Rattle.il_values.specs.declared.op.Op.{Op}
use Rattle.il_values.specs.declared.op.Op.TheVariants as ops
use Rattle.il_model.specs.declared.program.Side.{Side}
use Rattle.il_model.specs.declared.program.Side.TheVariants as sides
use Rattle.il_model.specs.declared.dialect.Dialect.TheVariants as dialects
use Rattle.il_model.specs.Dialects.{operator_in}
use Rattle.il_model.specs.Kinds.{kind_of_name}
use Rattle.il_model.specs.Words.{has_dot, is_lawful_name, split_last}
use Rattle.il_reader.specs.Tokens.{Token}
use Rattle.il_reader.specs.Grammar.{OperandText, Constant, Direct, Named, Field, ArgumentText, CallText, arguments_of}
use Rattle.il_reader.specs.Grammar.{BehindText, Nothing, Given, Target, Opened, Called}
use Rattle.il_units.specs.declared.contents.UnitKind.{UnitKind}
use Rattle.il_units.specs.declared.contents.UnitKind.TheVariants as units
use Rattle.il_units.specs.declared.contents.SectionKind.{SectionKind}
use Rattle.il_units.specs.declared.contents.SectionKind.TheVariants as sections
use Rattle.il_units.specs.declared.fault.UnitFault.{UnitFault}
use Rattle.il_units.specs.declared.fault.UnitFault.TheVariants as kinds
use Rattle.il_units.specs.declared.fault.UnitError.{UnitError}
use Rattle.il_units.specs.declared.fault.UnitError.TheVariants as errors
use Rattle.il_units.specs.declared.fault.UnitFaultAt.{UnitFaultAt}
use Rattle.il_units.specs.declared.flat.TheConstants.{MOST_DEPTH}
use Rattle.il_units.specs.declared.misuse.TheConstants.{MOST_UNITS, MOST_MEMBERS}
use Rattle.il_units.specs.declared.choices.Choice.{Choice}
use Rattle.il_units.specs.declared.choices.Choice.TheVariants as choices
use Rattle.il_units.specs.declared.word.Word.{Word}
use Rattle.il_units.specs.declared.members.Member.{Member}
use Rattle.il_units.specs.Units.{UnitText, LineText, StepText, Operation, Function}
use Rattle.il_units.specs.Words.{capitals}
use Rattle.il_units.specs.Members.{members_of, member_named, type_named, type_word}
use Rattle.il_units.specs.Flats.{FlatUnit, unit_named, block_named, block_of, Body, no_lines, joined, begun_from}
use Rattle.il_units.specs.Calls.{argued, is_input}
use Rattle.il_units.specs.Choices.{choice_named, type_of_operand}
use Rattle.il_units.specs.Expansion.{ScopeText, line_body}

-- ---- the first of faults

-- this one, or where there is none that one
infixr 20 ◌<+>◌
abbrev pub ◌<+>◌ : Option UnitFaultAt → Option UnitFaultAt → Option UnitFaultAt
None <+> later = later
(Some fault) <+> later = Some fault

-- the first of what each of them has
unfoldable pub first_fault : {X : Type 0} → (X → Option UnitFaultAt) → List X → Option UnitFaultAt
first_fault fault [] = None
first_fault fault (x ∷ xs) = fault x <+> first_fault fault xs

abbrev pub fault_if : Bool → UnitFault → ℕ → Option UnitFaultAt
fault_if wrong kind left = if wrong then Some (record { kind = kind; left = left }) else None

abbrev pub misused_if : Bool → ℕ → Option UnitFaultAt
misused_if wrong left = fault_if wrong kinds.Misused left

-- what a call answered is this fault, or there is none, unless memory ran out
abbrev pub TellsError : UnitError → Option UnitFaultAt → Type 0
TellsError errors.Memory fault = Unit {0}
TellsError (errors.Fault f) fault = fault ≡ Some f

abbrev pub Tells : {X : Type 0} → Result X UnitError → Option UnitFaultAt → Type 0
Tells (Ok x) fault = fault ≡ None
Tells (Err e) fault = TellsError e fault

-- ---- the name of a unit

-- a line that begins with the word has a meaning without any unit: an operator, or a choice by operators
abbrev pub is_taken_word : List ℕ → Bool
is_taken_word name = is_some (operator_in dialects.Extended name) || is_some (choice_named name)

-- a unit is called by a name without a dot that no other unit has, and that is no type's and no word of a line
abbrev pub is_unit_name : List ℕ → Bool
is_unit_name name =
    is_lawful_name name && (not (has_dot name) && (is_none (type_named name) && not (is_taken_word name)))

abbrev pub name_fault : List FlatUnit → List ℕ → ℕ → Option UnitFaultAt
name_fault above name left = misused_if (not (is_unit_name name)) left
    <+> fault_if (is_some (unit_named above name)) kinds.Duplicate left
    <+> fault_if (nat_le MOST_UNITS (length above)) kinds.TooMany left

-- ---- members

-- which variables units have
abbrev pub may_have : UnitKind → SectionKind → Bool
may_have units.FunctionBlock section = true
may_have units.Function sections.Output = false
may_have units.Function sections.InOut = false
may_have units.Function section = true
may_have units.Program sections.Local = true
may_have units.Program sections.Constant = true
may_have units.Program section = false

-- AT stands in the program's variables alone
abbrev pub may_lie : UnitKind → SectionKind → Bool
may_lie units.Program sections.Local = true
may_lie unit section = false

-- variables, inputs and outputs may be retained, but not of a function, which has no memory
abbrev pub may_stay : UnitKind → SectionKind → Bool
may_stay units.Function section = false
may_stay unit sections.Constant = false
may_stay unit sections.InOut = false
may_stay unit section = true

-- a constant has a value, and a VAR_IN_OUT none
abbrev pub may_start : SectionKind → Option Word → Bool
may_start sections.Constant initial = is_some initial
may_start sections.InOut initial = is_none initial
may_start section initial = true

abbrev pub is_fitting : UnitKind → Member → Bool
is_fitting unit m = may_have unit m.kind && ((is_none m.place || may_lie unit m.kind)
    && ((not m.retained || may_stay unit m.kind) && may_start m.kind m.initial))

-- a unit's name is nothing else's, but that a function's result has the function's
abbrev pub is_taken : List FlatUnit → List ℕ → ℕ → Member → Bool
is_taken above unit left m = (not (nat_eq m.name.left left) && bytes_eq m.name.text unit)
    || is_some (unit_named above m.name.text)

abbrev pub is_local : SectionKind → Bool
is_local sections.Local = true
is_local section = false

abbrev pub is_constant : SectionKind → Bool
is_constant sections.Constant = true
is_constant section = false

abbrev pub is_function : UnitKind → Bool
is_function units.Function = true
is_function unit = false

-- an instance is a variable, and not of a function, which has no memory
abbrev pub may_be_instance : UnitKind → Member → Bool
may_be_instance unit m = is_local m.kind && not (is_function unit)

-- an instance of an own block has no place and no value
abbrev pub is_bare : Member → Bool
is_bare m = is_none m.place && is_none m.initial

-- a member that is an instance of an own block
abbrev pub own_fault : UnitKind → Member → FlatUnit → Option UnitFaultAt
own_fault unit m block = misused_if (not (may_be_instance unit m && is_bare m)) m.ty.left
    <+> misused_if (nat_le MOST_DEPTH block.depth) m.name.left

-- another one: a constant is of an elementary type
abbrev pub other_fault : UnitKind → Member → Option UnitFaultAt
other_fault unit m = misused_if (is_some (kind_of_name m.ty.text) && not (may_be_instance unit m)) m.ty.left
    <+> misused_if (is_constant m.kind && is_none (type_named m.ty.text)) m.ty.left

abbrev pub type_fault_by : Option FlatUnit → UnitKind → Member → Option UnitFaultAt
type_fault_by (Some block) unit m = own_fault unit m block
type_fault_by None unit m = other_fault unit m

abbrev pub type_fault : List FlatUnit → UnitKind → Member → Option UnitFaultAt
type_fault above unit m = type_fault_by (block_named above m.ty.text) unit m

-- a member behind those before it
abbrev pub member_fault : List FlatUnit → UnitKind → List ℕ → ℕ → List Member → Member → Option UnitFaultAt
member_fault above unit name left before m = misused_if (has_dot m.name.text) m.name.left
    <+> fault_if (is_some (member_named before m.name.text) || is_taken above name left m) kinds.Duplicate m.name.left
    <+> misused_if (not (is_fitting unit m)) m.name.left
    <+> type_fault above unit m
    <+> fault_if (nat_le MOST_MEMBERS (length before)) kinds.TooMany m.name.left

unfoldable pub members_fault : List FlatUnit → UnitKind → List ℕ → ℕ → List Member → List Member → Option UnitFaultAt
members_fault above unit name left before [] = None
members_fault above unit name left before (m ∷ ms) = member_fault above unit name left before m
    <+> members_fault above unit name left (before ++ m ∷ []) ms

-- ---- operands

-- what nothing in the unit writes
abbrev pub is_closed : SectionKind → Bool
is_closed sections.Constant = true
is_closed sections.Input = true
is_closed section = false

abbrev pub is_closed_member : Option Member → Bool
is_closed_member None = false
is_closed_member (Some m) = is_closed m.kind

-- texts that use a block see its inputs and outputs, and write inputs
abbrev pub is_seen_as : Bool → SectionKind → Bool
is_seen_as writes sections.Input = true
is_seen_as writes sections.Output = not writes
is_seen_as writes section = false

abbrev pub is_seen : Bool → Option Member → Bool
is_seen writes None = false
is_seen writes (Some m) = is_seen_as writes m.kind

abbrev pub hides_by : Bool → Option FlatUnit → List ℕ → Bool
hides_by writes None field = false
hides_by writes (Some block) field = not (is_seen writes (member_named block.members field))

abbrev pub field_fault : ScopeText → Bool → ℕ → List ℕ → List ℕ → Option UnitFaultAt
field_fault s writes left x field = fault_if (is_none (member_named s.members x)) kinds.Undeclared left
    <+> misused_if (hides_by writes (block_of s.above s.members x) field) left

-- a variable, or the field of an instance behind the last dot
abbrev pub path_fault : ScopeText → Bool → ℕ → List ℕ → Option (List ℕ × List ℕ) → Option UnitFaultAt
path_fault s writes left name None = misused_if (writes && is_closed_member (member_named s.members name)) left
path_fault s writes left name (Some (x, field)) = field_fault s writes left x field

abbrev pub operand_fault : ScopeText → Bool → OperandText → Option UnitFaultAt
operand_fault s writes (Constant t) = misused_if writes t.left
operand_fault s writes (Direct t) = None
operand_fault s writes (Named t) = path_fault s writes t.left (capitals t.text) (split_last (capitals t.text))
operand_fault s writes (Field t f) = field_fault s writes t.left (capitals t.text) (capitals f.text)

-- ---- calls

abbrev pub is_output : Side → Bool
is_output sides.Output = true
is_output side = false

-- an argument of a standard block: what the block has is judged with the types
abbrev pub standard_fault : ScopeText → ArgumentText → Option UnitFaultAt
standard_fault s a = operand_fault s (is_output a.side) a.operand

abbrev pub is_suited_as : Side → SectionKind → Bool
is_suited_as sides.Input sections.Input = true
is_suited_as sides.Input sections.InOut = true
is_suited_as sides.Output sections.Output = true
is_suited_as side section = false

abbrev pub is_suited : Side → Option Member → Bool
is_suited side None = false
is_suited side (Some m) = is_suited_as side m.kind

abbrev pub names_field : List ℕ → ArgumentText → Bool
names_field name a = bytes_eq (capitals a.field.text) name

-- an argument names what the block has on that side, and no other before it the same
abbrev pub argument_fault : FlatUnit → List ArgumentText → ArgumentText → Option UnitFaultAt
argument_fault block before a = misused_if (list_any (names_field (capitals a.field.text)) before
    || not (is_suited a.side (argued block a))) a.field.left

unfoldable pub arguments_fault : FlatUnit → List ArgumentText → List ArgumentText → Option UnitFaultAt
arguments_fault block before [] = None
arguments_fault block before (a ∷ more) =
    argument_fault block before a <+> arguments_fault block (before ++ a ∷ []) more

abbrev pub is_in_out : SectionKind → Bool
is_in_out sections.InOut = true
is_in_out section = false

-- a VAR_IN_OUT is written as well as read
abbrev pub is_written : Side → Option Member → Bool
is_written side None = is_output side
is_written side (Some m) = is_output side || is_in_out m.kind

-- where an operand stands
abbrev pub operand_left : OperandText → ℕ
operand_left (Constant t) = t.left
operand_left (Direct t) = t.left
operand_left (Named t) = t.left
operand_left (Field t f) = t.left

abbrev pub is_of_type : List ℕ → Option Ty → Bool
is_of_type word None = false
is_of_type word (Some ty) = bytes_eq word (type_word ty)

-- what is given for a VAR_IN_OUT, and isn't of that one's type
abbrev pub is_mismatched : Option Member → Option Ty → Bool
is_mismatched None given = false
is_mismatched (Some m) given = is_in_out m.kind && not (is_of_type m.ty.text given)

abbrev pub passed_fault : ScopeText → FlatUnit → ArgumentText → Option UnitFaultAt
passed_fault s block a = operand_fault s (is_written a.side (argued block a)) a.operand
    <+> misused_if (is_mismatched (argued block a) (type_of_operand s.above s.members a.operand))
    (operand_left a.operand)

abbrev pub is_missing : List ArgumentText → Member → Bool
is_missing args m = is_in_out m.kind && not (list_any (names_field m.name.text) args)

-- arguments, then what they give, then a VAR_IN_OUT that is missing
abbrev pub own_call_fault : ScopeText → FlatUnit → List ArgumentText → ℕ → Option UnitFaultAt
own_call_fault s block args left = arguments_fault block [] args
    <+> first_fault (passed_fault s block) args
    <+> misused_if (list_any (is_missing args) block.members) left

abbrev pub call_fault_by : Option FlatUnit → ScopeText → CallText → Option UnitFaultAt
call_fault_by None s c = first_fault (standard_fault s) (arguments_of c)
call_fault_by (Some block) s c = own_call_fault s block (arguments_of c) c.instance.left

-- an instance of the unit's own is called, and none that stands under one
abbrev pub call_fault : ScopeText → CallText → Option UnitFaultAt
call_fault s c = misused_if (has_dot (capitals c.instance.text)) c.instance.left
    <+> call_fault_by (block_of s.above s.members (capitals c.instance.text)) s c

-- ---- lines

abbrev pub writes_by : Op → Bool
writes_by ops.St = true
writes_by ops.S = true
writes_by ops.R = true
writes_by op = false

abbrev pub opened_fault : ScopeText → Option OperandText → Option UnitFaultAt
opened_fault s None = None
opened_fault s (Some x) = operand_fault s false x

-- a label has no dot
abbrev pub behind_fault : ScopeText → Op → BehindText → Option UnitFaultAt
behind_fault s op Nothing = None
behind_fault s op (Given x) = operand_fault s (writes_by op) x
behind_fault s op (Target t) = misused_if (has_dot t.text) t.left
behind_fault s op (Opened x) = opened_fault s x
behind_fault s op (Called c) = call_fault s c

-- LIMIT and SEL have two operands, MUX two to eight
abbrev pub takes_operands : Choice → ℕ → Bool
takes_operands choices.Limit n = nat_eq n 2
takes_operands choices.Sel n = nat_eq n 2
takes_operands choices.Mux n = nat_le 2 n && nat_le n 8

-- what a word is that is no unit
abbrev pub choice_fault : Option Choice → ℕ → ℕ → Option UnitFaultAt
choice_fault None n left = fault_if true kinds.Unknown left
choice_fault (Some choice) n left = misused_if (not (takes_operands choice n)) left

-- an own function takes an operand for each input but the first
abbrev pub is_used : FlatUnit → ℕ → Bool
is_used f n = is_function f.kind && (nat_lt f.depth MOST_DEPTH && nat_eq (count_by is_input f.members) (n + 1))

abbrev pub function_fault : Option FlatUnit → List ℕ → ℕ → ℕ → Option UnitFaultAt
function_fault (Some f) word n left = misused_if (not (is_used f n)) left
function_fault None word n left = choice_fault (choice_named word) n left

abbrev pub step_fault : ScopeText → StepText → Option UnitFaultAt
step_fault s (Operation o) = behind_fault s o.operator.mnemonic.op o.behind
step_fault s (Function t xs) =
    function_fault (unit_named s.above (capitals t.text)) (capitals t.text) (length xs) t.left
    <+> first_fault (operand_fault s false) xs

abbrev pub optional_step_fault : ScopeText → Option StepText → Option UnitFaultAt
optional_step_fault s None = None
optional_step_fault s (Some step) = step_fault s step

abbrev pub label_fault : Option Token → Option UnitFaultAt
label_fault None = None
label_fault (Some t) = misused_if (has_dot t.text) t.left

abbrev pub line_fault : ScopeText → LineText → Option UnitFaultAt
line_fault s l = label_fault l.label <+> optional_step_fault s l.step

-- where a line begins: at its label, its operator, or the name of its function
abbrev pub step_left : Option StepText → ℕ
step_left None = 0
step_left (Some (Operation o)) = o.operator.left
step_left (Some (Function t xs)) = t.left

abbrev pub begins_at : Option Token → Option StepText → ℕ
begins_at None step = step_left step
begins_at (Some t) step = t.left

-- more lines than a program may have
abbrev pub room_fault : Body → LineText → Option UnitFaultAt
room_fault b l = fault_if (nat_lt MOST_INSTRUCTIONS (length b.lines)) kinds.TooMany (begins_at l.label l.step)

-- the fault of a line, and behind it whether there are too many
unfoldable pub lines_fault : ScopeText → Body → ℕ → List LineText → Option UnitFaultAt
lines_fault s b k [] = None
lines_fault s b k (l ∷ ls) = let after = joined b (line_body s k l) in line_fault s l
    <+> room_fault after l
    <+> lines_fault s after (suc k) ls

-- ---- a unit

-- the fault of a unit beside those above it
abbrev pub fault_of : List ℕ → List FlatUnit → UnitText → Option UnitFaultAt
fault_of text above unit =
    let name = capitals unit.name.text in let left = unit.name.left in let members = members_of unit in
    let s : ScopeText = record { text = text; above = above; members = members } in
    name_fault above name left
    <+> members_fault above unit.kind name left [] members
    <+> lines_fault s (begun_from above no_lines members) 1 unit.lines

abbrev pub unit_fault_number : UnitFault → ℕ
unit_fault_number kinds.Duplicate = 1
unit_fault_number kinds.Unknown = 2
unit_fault_number kinds.Undeclared = 3
unit_fault_number kinds.TooMany = 8
unit_fault_number kinds.Misused = 10
