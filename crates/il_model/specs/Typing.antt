-- When a program is typed: what each instruction needs of the types on arrival, and what it leaves, from left to right.
use Rattle.std.specs.Prelude.{◌≡◌, ◌<◌, ℕ, zero, suc, Bool, true, false, List, [], ◌∷◌, length, map, Option, Some, None}
use Rattle.std.specs.Prelude.{is_some, nat_lt, slice_get, if◌then◌else◌}
use Rattle.std.specs.List.{AllByRecursion}
use Rattle.std.specs.Option.{option_map, option_and_then}
use Rattle.il_model.specs.declared.limits.TheConstants.{BITS, WORDS, MOST_OPEN_PARENTHESES}
use Rattle.il_values.specs.declared.value.Ty.{Ty}
use Rattle.il_values.specs.declared.value.Ty.TheVariants as types
use Rattle.il_values.specs.declared.op.Op.{Op}
use Rattle.il_values.specs.declared.op.Op.TheVariants as ops
use Rattle.il_values.specs.declared.op.Modifier.{Modifier}
use Rattle.il_model.specs.declared.program.Area.{Area}
use Rattle.il_model.specs.declared.program.Area.TheVariants as areas
use Rattle.il_model.specs.declared.program.Loc.{Loc}
use Rattle.il_model.specs.declared.program.Loc.TheVariants.{Bit, Word, Pattern, Double}
use Rattle.il_model.specs.declared.program.Place.{Place}
use Rattle.il_model.specs.declared.program.Place.TheVariants.{Own, At}
use Rattle.il_model.specs.declared.program.Place.TheVariants as places
use Rattle.il_model.specs.declared.program.Instance.{Instance}
use Rattle.il_model.specs.declared.program.Argument.{Argument}
use Rattle.il_model.specs.declared.program.Side.{Side}
use Rattle.il_model.specs.declared.program.Side.TheVariants as sides
use Rattle.il_model.specs.declared.kind.BlockKind.{BlockKind}
use Rattle.il_model.specs.declared.kind.Field.{Field}
use Rattle.il_model.specs.declared.program.Operand.{Operand}
use Rattle.il_model.specs.declared.program.Operand.TheVariants as operands
use Rattle.il_model.specs.declared.program.Instr.{Instr}
use Rattle.il_model.specs.declared.fetched.Source.{Source}
use Rattle.il_model.specs.declared.fetched.Source.TheVariants as sources
use Rattle.il_model.specs.declared.typing.Held.{Held}
use Rattle.il_model.specs.Program.{Program}
use Rattle.il_values.specs.Values.{ty_of, is_bit_string}
use Rattle.il_model.specs.Locations.{area_of, begins_double}
use Rattle.il_model.specs.Doubles.{double_type}
use Rattle.il_model.specs.Kinds.{kind_fields, field_number, field_type, is_input}
use Rattle.il_model.specs.Words.{AreDistinct}
use Rattle.il_values.specs.declared.function.Function.{Function}
use Rattle.il_values.specs.Operators.{joined_type}
use Rattle.il_values.specs.Functions.{function_type}
use Rattle.il_model.specs.Resolved.{source_of, target_of, is_labelled, called_kind}

-- ---- operands

abbrev pub loc_type : Loc → Option Ty
loc_type (Bit a n) = if nat_lt n BITS then Some types.Bool else None
loc_type (Word a n) = if nat_lt n WORDS then Some types.Int else None
loc_type (Pattern a n) = if nat_lt n WORDS then Some types.Word else None
loc_type (Double a n t) = if begins_double n then Some (double_type t) else None

-- the field of an instance by its number
abbrev pub field_at : Program → ℕ → ℕ → Option Field
field_at Q i n = option_and_then (λ (x : Instance). slice_get (kind_fields x.kind) n) (slice_get Q.instances i)

abbrev pub place_type : Program → Place → Option Ty
place_type Q (Own i) = option_map (λ v. v.ty) (slice_get Q.variables i)
place_type Q (At loc) = loc_type loc
place_type Q (places.Field i n) = option_map field_type (field_at Q i n)

abbrev pub is_writable_area : Area → Bool
is_writable_area areas.Input = false
is_writable_area a = true

abbrev pub is_input_field : Option Field → Bool
is_input_field None = false
is_input_field (Some field) = is_input field

-- neither an input location nor an output of a block
abbrev pub is_writable : Program → Place → Bool
is_writable Q (Own i) = true
is_writable Q (At loc) = is_writable_area (area_of loc)
is_writable Q (places.Field i n) = is_input_field (field_at Q i n)

abbrev pub source_type : Program → Source → Option Ty
source_type Q (sources.Constant v) = Some (ty_of v)
source_type Q (sources.Of place) = place_type Q place
source_type Q source = None

-- the operand has a value, which is of that type
abbrev pub HasType : Program → Operand → Ty → Type 0
HasType Q x t = option_and_then (source_type Q) (source_of Q x) ≡ Some t

-- a value of that type may be stored there: the operand is no constant, no input location and no output of a block
abbrev pub MayStore : Program → Operand → Ty → Type 0
MayStore Q x t = (place : Place) × (source_of Q x ≡ Some (sources.Of place)) × (place_type Q place ≡ Some t)
    × (is_writable Q place ≡ true)

-- ---- what an operator needs and leaves

-- the types at an instruction: of the current result, where there is one, and of the operators that wait for a closing
-- parenthesis, the innermost first
pub record Shape : Type 0 where
  pub cr : Option Ty
  pub kept : List Held

-- N asks for a bit string
abbrev pub AllowsN : Modifier → Ty → Type 0
AllowsN m t = m.negated ≡ true → is_bit_string t ≡ true

-- C asks for a current result that is BOOL
abbrev pub AllowsC : Modifier → Shape → Type 0
AllowsC m before = m.conditional ≡ true → before.cr ≡ Some types.Bool

-- a jump or a return stands in no parenthesis; behind one without C there is no current result
abbrev pub Leaves : Modifier → Shape → Shape → Type 0
Leaves m before after = (before.kept ≡ []) × AllowsC m before
    × (after ≡ record before { cr = if m.conditional then before.cr else None })

abbrev pub Converts : Ty → Ty → Shape → Shape → Type 0
Converts from to before after = (before.cr ≡ Some from) × (after ≡ record before { cr = Some to })

-- a function takes the current result and leaves another
abbrev pub Applies : Function → Shape → Shape → Type 0
Applies f before after = (from : Ty) × (to : Ty) × (before.cr ≡ Some from) × (function_type f from ≡ Some to)
    × (after ≡ record before { cr = Some to })

-- the current result inside a parenthesis is the operand behind it, if there is one
abbrev pub Begins : Program → Operand → Option Ty → Type 0
Begins Q x None = x ≡ operands.Absent
Begins Q x (Some t) = HasType Q x t

-- An operator takes the current result on its left and its operand on its right. With an opening parenthesis it waits,
-- with the current result on its left, which has to be of a type that it takes; only so many may wait.
abbrev pub Operates : Bool → Program → Op → Modifier → Operand → Shape → Shape → Type 0
Operates false Q op m x before after = (left : Ty) × (right : Ty) × (result : Ty) × (before.cr ≡ Some left)
    × HasType Q x right × AllowsN m right × (joined_type op left right ≡ Some result)
    × (after ≡ record before { cr = Some result })
Operates true Q op m x before after = (left : Ty) × (inside : Option Ty) × (before.cr ≡ Some left) × Begins Q x inside
    × (is_some (joined_type op left left) ≡ true) × (length before.kept < MOST_OPEN_PARENTHESES)
    × (after ≡ record { cr = inside; kept = record { op = op; negated = m.negated; ty = left } ∷ before.kept })

-- at a closing parenthesis the operator that waits for it takes the current result on its right
abbrev pub Closes : Shape → Shape → Type 0
Closes before after = (held : Held) × (rest : List Held) × (right : Ty) × (result : Ty) × (before.kept ≡ held ∷ rest)
    × (before.cr ≡ Some right) × (held.negated ≡ true → is_bit_string right ≡ true)
    × (joined_type held.op held.ty right ≡ Some result) × (after ≡ record { cr = Some result; kept = rest })

-- what an operator with its letters and its operand needs before it, and leaves after it; the last line is that of AND,
-- OR, XOR, of arithmetic and of comparisons
abbrev pub Takes : Program → Op → Modifier → Operand → Shape → Shape → Type 0
Takes Q ops.Empty m x before after = after ≡ before
Takes Q ops.Ld m x before after = (t : Ty) × HasType Q x t × AllowsN m t × (after ≡ record before { cr = Some t })
Takes Q ops.St m x before after = (t : Ty) × (before.cr ≡ Some t) × MayStore Q x t × AllowsN m t × (after ≡ before)
Takes Q ops.S m x before after = (before.cr ≡ Some types.Bool) × MayStore Q x types.Bool × (after ≡ before)
Takes Q ops.R m x before after = (before.cr ≡ Some types.Bool) × MayStore Q x types.Bool × (after ≡ before)
Takes Q ops.Not m x before after = (t : Ty) × (before.cr ≡ Some t) × (is_bit_string t ≡ true) × (after ≡ before)
Takes Q ops.Jmp m x before after = (n : ℕ) × (source_of Q x ≡ Some (sources.Target n)) × Leaves m before after
Takes Q ops.Ret m x before after = Leaves m before after
Takes Q ops.Cal m x before after = (i : ℕ) × (source_of Q x ≡ Some (sources.Instance i)) × (before.kept ≡ [])
    × AllowsC m before × (after ≡ before)
Takes Q ops.Close m x before after = Closes before after
Takes Q ops.IntToDint m x before after = Converts types.Int types.Dint before after
Takes Q ops.DintToInt m x before after = Converts types.Dint types.Int before after
Takes Q ops.DintToLint m x before after = Converts types.Dint types.Lint before after
Takes Q ops.LintToDint m x before after = Converts types.Lint types.Dint before after
Takes Q (ops.Apply f) m x before after = Applies f before after
Takes Q op m x before after = Operates m.opens Q op m x before after

-- ---- the arguments of a call

-- a value of the field's type goes into an input; what an output gives may be stored
abbrev pub Passes : Program → Side → Field → Operand → Type 0
Passes Q sides.Input field x = (is_input field ≡ true) × HasType Q x (field_type field)
Passes Q sides.Output field x = (is_input field ≡ false) × MayStore Q x (field_type field)

abbrev pub kind_field : BlockKind → List ℕ → Option Field
kind_field kind name = option_and_then (slice_get (kind_fields kind)) (field_number kind name)

abbrev pub IsPassed : Program → BlockKind → Argument → Type 0
IsPassed Q kind a = (field : Field) × (kind_field kind a.field ≡ Some field) × Passes Q a.side field a.operand

-- each names a field of the block that is called, and no two the same; only a call has any
abbrev pub ArePassed : Program → Option BlockKind → List Argument → Type 0
ArePassed Q None args = args ≡ []
ArePassed Q (Some kind) args = AllByRecursion (IsPassed Q kind) args
    × AreDistinct (map (λ (a : Argument). a.field) args)

-- ---- a whole program

-- a label is that of no earlier instruction, so that jumps to it come here, and it stands in no parenthesis
abbrev pub MayStand : Program → ℕ → Shape → Option (List ℕ) → Type 0
MayStand Q n before None = Unit {0}
MayStand Q n before (Some name) = (target_of Q name ≡ Some n) × (before.kept ≡ [])

-- the n-th instruction, with these types before it and those after it; what its operand names is there
pub record Leads (Q : Program) (n : ℕ) (line : Instr) (before after : Shape) : Type 0 where
  pub label : MayStand Q n before line.label
  pub named : is_some (source_of Q line.operand) ≡ true
  pub types : Takes Q line.op line.modifier line.operand before after
  pub arguments : ArePassed Q (called_kind Q line.operand) line.arguments

-- at a label there is no current result
abbrev pub shape_on_arrival : Program → ℕ → Shape → Shape
shape_on_arrival Q n sh = if is_labelled Q n then record sh { cr = None } else sh

-- the program arrives with these types at its n-th instruction, or at its end: with none at the first, then from each
-- to the next
abbrev pub Arrives : Program → ℕ → Shape → Type 0
Arrives Q zero sh = sh ≡ record { cr = None; kept = [] }
Arrives Q (suc n) sh = (line : Instr) × (before : Shape) × (after : Shape) × (slice_get Q.code n ≡ Some line)
    × Arrives Q n before × Leads Q n line before after × (sh ≡ shape_on_arrival Q (suc n) after)

-- it arrives at its end, where no parenthesis is open
abbrev pub IsTyped : Program → Type 0
IsTyped Q = (end : Shape) × Arrives Q (length Q.code) end × (end.kept ≡ [])
