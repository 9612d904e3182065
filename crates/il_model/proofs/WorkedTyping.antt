-- Worked rows of typed programs, step by step, and of others.
use Rattle.std.proofs.Common.{◌≡◌, ◌<◌, ℕ, true, false, List, [], ◌∷◌, Option, Some, None, Result, Ok, Err, refl, arith}
use Rattle.std.specs.Prelude.{pos, codes}
use Rattle.il_values.specs.declared.value.Ty.{Ty}
use Rattle.il_values.specs.declared.value.Ty.TheVariants as types
use Rattle.il_values.specs.declared.value.Value.TheVariants as values
use Rattle.il_values.specs.declared.op.Op.{Op}
use Rattle.il_values.specs.declared.op.Op.TheVariants as ops
use Rattle.il_values.specs.declared.op.Modifier.{Modifier}
use Rattle.il_model.specs.declared.kind.BlockKind.TheVariants as kinds
use Rattle.il_model.specs.declared.program.Area.TheVariants as areas
use Rattle.il_model.specs.declared.program.Loc.TheVariants.{Bit, Word}
use Rattle.il_model.specs.declared.program.Place.TheVariants.{At}
use Rattle.il_model.specs.declared.program.Side.TheVariants as sides
use Rattle.il_model.specs.declared.program.Argument.{Argument}
use Rattle.il_model.specs.declared.program.Operand.{Operand}
use Rattle.il_model.specs.declared.program.Operand.TheVariants as operands
use Rattle.il_model.specs.declared.program.Instr.{Instr}
use Rattle.il_model.specs.declared.typing.Held.{Held}
use Rattle.il_model.specs.declared.typing.TypeFault.{TypeFault}
use Rattle.il_model.specs.declared.typing.TypeFault.TheVariants.{TypeMismatch, NoCurrentResult, UnknownLabel, DuplicateLabel, Unbalanced, NotWritable, BadField}
use Rattle.il_model.specs.Program.{Program}
use Rattle.il_model.specs.Typing.{Shape, Takes, Leads, IsTyped}
use Rattle.il_model.specs.Checking.{judgement_of}
use Rattle.il_model.proofs.Judged.{is_typed, faultless}

abbrev plain : Modifier
plain = record { negated = false; conditional = false; opens = false }

abbrev conditional : Modifier
conditional = record { negated = false; conditional = true; opens = false }

abbrev opening : Modifier
opening = record { negated = false; conditional = false; opens = true }

abbrev opening_negated : Modifier
opening_negated = record { negated = true; conditional = false; opens = true }

abbrev line : Op → Modifier → Operand → Instr
line op m operand = record { label = None; op = op; modifier = m; operand = operand; arguments = [] }

abbrev at_label : List ℕ → Instr → Instr
at_label name l = record l { label = Some name }

abbrev code : List Instr → Program
code lines = record { variables = []; instances = []; code = lines }

abbrev input_bit : ℕ → Operand
input_bit n = operands.Direct (Bit areas.Input n)

abbrev output_bit : Operand
output_bit = operands.Direct (Bit areas.Output 0)

abbrev output_word : Operand
output_word = operands.Direct (Word areas.Output 0)

abbrev five : Operand
five = operands.Literal (values.Int (pos 5))

-- the types where no parenthesis is open
abbrev result : Option Ty → Shape
result cr = record { cr = cr; kept = [] }

-- ---- typed ones

-- a program without instructions
empty : IsTyped (code [])
empty = (result None, refl, refl)

-- LD %IX0.0; ST %QX0.0
abbrev copying : Program
copying = code (line ops.Ld plain (input_bit 0) ∷ line ops.St plain output_bit ∷ [])

loads : Leads copying 0 (line ops.Ld plain (input_bit 0)) (result None) (result (Some types.Bool))
loads = record { label = tt; named = refl; types = (types.Bool, refl, (λ negated. refl), refl); arguments = refl }

stores : Leads copying 1 (line ops.St plain output_bit) (result (Some types.Bool)) (result (Some types.Bool))
stores = record {
  label = tt;
  named = refl;
  types = (types.Bool, refl, (At (Bit areas.Output 0), refl, refl, refl), (λ negated. refl), refl);
  arguments = refl;
}

copying_typed : IsTyped copying
copying_typed = (
  result (Some types.Bool),
  (
    line ops.St plain output_bit,
    result (Some types.Bool),
    result (Some types.Bool),
    refl,
    (line ops.Ld plain (input_bit 0), result None, result (Some types.Bool), refl, refl, loads, refl),
    stores,
    refl,
  ),
  refl,
)

-- the same step by step: AND with N and a parenthesis waits with the BOOL that was there, and takes the operand first; a
-- closing parenthesis takes both
abbrev waiting : Held
waiting = record { op = ops.And; negated = true; ty = types.Bool }

opens : (Q : Program) → Takes Q ops.And opening_negated (input_bit 1) (result (Some types.Bool)) (record { cr = Some types.Bool; kept = waiting ∷ [] })
opens Q = (types.Bool, Some types.Bool, refl, refl, refl, (let room : 0 < 16 = omega arith in room), refl)

opens_empty : (Q : Program) → Takes Q ops.And opening operands.Absent (result (Some types.Bool)) (record { cr = None; kept = record { op = ops.And; negated = false; ty = types.Bool } ∷ [] })
opens_empty Q = (types.Bool, None, refl, refl, refl, (let room : 0 < 16 = omega arith in room), refl)

closes : (Q : Program) → Takes Q ops.Close plain operands.Absent (record { cr = Some types.Bool; kept = waiting ∷ [] }) (result (Some types.Bool))
closes Q = (waiting, [], types.Bool, types.Bool, refl, refl, (λ negated. refl), refl, refl)

-- LD %IX0.0; ANDN( %IX0.1; OR %IX0.2; ); ST %QX0.0
abbrev nesting : Program
nesting = code (line ops.Ld plain (input_bit 0) ∷ line ops.And opening_negated (input_bit 1) ∷ line ops.Or plain (input_bit 2) ∷ line ops.Close plain operands.Absent ∷ line ops.St plain output_bit ∷ [])

nested : IsTyped nesting
nested = is_typed nesting refl

-- LD 5; ST %QW0
abbrev storing_five : Program
storing_five = code (line ops.Ld plain five ∷ line ops.St plain output_word ∷ [])

word_stored : IsTyped storing_five
word_stored = is_typed storing_five refl

-- A: LD %IX0.0; JMPC A
abbrev looping : Program
looping = code (at_label (codes "A") (line ops.Ld plain (input_bit 0)) ∷ line ops.Jmp conditional (operands.Label (codes "A")) ∷ [])

looped : IsTyped looping
looped = is_typed looping refl

-- T : TON; CAL T(IN := %IX0.0, Q => %QX0.0)
abbrev passing : List ℕ → Operand → Argument
passing field operand = record { field = field; side = sides.Input; operand = operand }

abbrev giving : List ℕ → Operand → Argument
giving field operand = record { field = field; side = sides.Output; operand = operand }

abbrev calling : List Argument → Program
calling args = record {
  variables = [];
  instances = record { name = codes "T"; kind = kinds.Ton; retained = false } ∷ [];
  code = record { label = None; op = ops.Cal; modifier = plain; operand = operands.Instance (codes "T"); arguments = args } ∷ [];
}

abbrev calling_timer : Program
calling_timer = calling (passing (codes "IN") (input_bit 0) ∷ giving (codes "Q") output_bit ∷ [])

timer_called : IsTyped calling_timer
timer_called = is_typed calling_timer refl

-- ---- others, with the fault that is told of each and the number of its instruction

one_verdict : (verdict : Result (Unit {0}) (TypeFault × ℕ)) (fault : TypeFault × ℕ) → verdict ≡ Err fault → verdict ≡ Ok tt → ⊥
one_verdict verdict fault bad good = cc

other : (Q : Program) (fault : TypeFault) (n : ℕ) → judgement_of Q ≡ Err (fault, n) → IsTyped Q → ⊥
other Q fault n told typed = one_verdict (judgement_of Q) (fault, n) told (faultless Q typed)

-- ST without a current result, at the start and at a label
abbrev storing_nothing : Program
storing_nothing = code (line ops.St plain output_bit ∷ [])

nothing_stored : IsTyped storing_nothing → ⊥
nothing_stored = other storing_nothing NoCurrentResult 0 refl

abbrev storing_at_label : Program
storing_at_label = code (line ops.Ld plain (input_bit 0) ∷ at_label (codes "A") (line ops.St plain output_bit) ∷ [])

lost_at_label : IsTyped storing_at_label → ⊥
lost_at_label = other storing_at_label NoCurrentResult 1 refl

-- an INT where a BOOL is stored, and a BOOL with an INT
abbrev storing_another : Program
storing_another = code (line ops.Ld plain five ∷ line ops.St plain output_bit ∷ [])

other_type : IsTyped storing_another → ⊥
other_type = other storing_another TypeMismatch 1 refl

abbrev adding_unlike : Program
adding_unlike = code (line ops.Ld plain five ∷ line ops.Add plain (input_bit 0) ∷ [])

unlike : IsTyped adding_unlike → ⊥
unlike = other adding_unlike TypeMismatch 1 refl

-- a store to an input
abbrev storing_to_input : Program
storing_to_input = code (line ops.Ld plain (input_bit 0) ∷ line ops.St plain (input_bit 1) ∷ [])

input_stored : IsTyped storing_to_input → ⊥
input_stored = other storing_to_input NotWritable 1 refl

-- a closing parenthesis that nothing opened, one that is open at the end, and a return out of one
abbrev closing_alone : Program
closing_alone = code (line ops.Ld plain (input_bit 0) ∷ line ops.Close plain operands.Absent ∷ [])

never_opened : IsTyped closing_alone → ⊥
never_opened = other closing_alone Unbalanced 1 refl

abbrev opening_alone : Program
opening_alone = code (line ops.Ld plain (input_bit 0) ∷ line ops.And opening (input_bit 1) ∷ [])

left_open : IsTyped opening_alone → ⊥
left_open = other opening_alone Unbalanced 2 refl

abbrev returning_inside : Program
returning_inside = code (line ops.Ld plain (input_bit 0) ∷ line ops.And opening (input_bit 1) ∷ line ops.Ret conditional operands.Absent ∷ line ops.Close plain operands.Absent ∷ [])

returns_inside : IsTyped returning_inside → ⊥
returns_inside = other returning_inside Unbalanced 2 refl

-- a label that stands twice, one that stands nowhere
abbrev labelling_twice : Program
labelling_twice = code (at_label (codes "A") (line ops.Empty plain operands.Absent) ∷ at_label (codes "A") (line ops.Empty plain operands.Absent) ∷ [])

doubled : IsTyped labelling_twice → ⊥
doubled = other labelling_twice DuplicateLabel 1 refl

abbrev jumping_nowhere : Program
jumping_nowhere = code (line ops.Jmp plain (operands.Label (codes "A")) ∷ [])

unknown : IsTyped jumping_nowhere → ⊥
unknown = other jumping_nowhere UnknownLabel 0 refl

-- an input given twice, and an output to which something is passed
abbrev passing_twice : Program
passing_twice = calling (passing (codes "IN") (input_bit 0) ∷ passing (codes "IN") (input_bit 1) ∷ [])

given_twice : IsTyped passing_twice → ⊥
given_twice = other passing_twice BadField 0 refl

abbrev passing_to_output : Program
passing_to_output = calling (passing (codes "Q") (input_bit 0) ∷ [])

into_output : IsTyped passing_to_output → ⊥
into_output = other passing_to_output BadField 0 refl
