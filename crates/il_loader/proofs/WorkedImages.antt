-- Worked rows of well-formed programs, of others, and of what is read of bytes, by computing the definitions.
use Rattle.std.proofs.Common.{◌≡◌, ◌≤◌, ℕ, zero, suc, true, false, List, [], ◌∷◌, Option, Some, None, Ok, refl, sym, ap, subst, ◌∙◌, arith}
use Rattle.std.specs.Prelude.{pos, codes, get_or}
use Rattle.il_values.specs.declared.value.Value.{Value}
use Rattle.il_values.specs.declared.value.Value.TheVariants as values
use Rattle.il_values.specs.declared.value.Ty.{Ty}
use Rattle.il_values.specs.declared.value.Ty.TheVariants as types
use Rattle.il_values.specs.declared.op.Op.{Op}
use Rattle.il_values.specs.declared.op.Op.TheVariants as ops
use Rattle.il_values.specs.declared.op.Modifier.{Modifier}
use Rattle.il_model.specs.declared.kind.BlockKind.TheVariants as kinds
use Rattle.il_model.specs.declared.program.Area.TheVariants as areas
use Rattle.il_model.specs.declared.program.Loc.{Loc}
use Rattle.il_model.specs.declared.program.Loc.TheVariants.{Bit, Word}
use Rattle.il_model.specs.declared.program.Variable.{Variable}
use Rattle.il_model.specs.declared.program.Instance.{Instance}
use Rattle.il_model.specs.declared.program.Operand.{Operand}
use Rattle.il_model.specs.declared.program.Operand.TheVariants as operands
use Rattle.il_model.specs.declared.program.Instr.{Instr}
use Rattle.il_model.specs.Program.{Program}
use Rattle.il_model.specs.Words.{is_well_spelled, plain, letter_n, look, mnemonic_of}
use Rattle.il_values.specs.Spelled.{spells}
use Rattle.il_model.specs.Image.{spelling}
use Rattle.il_model.proofs.Judged.{is_typed, faultless}
use Rattle.il_loader.specs.Images.{IsName, MayLieAt, IsVariable, IsInstruction, IsWellFormed, Reading, AreBytes, ReadsImages}

abbrev variable : List ℕ → Ty → Option Loc → Value → Variable
variable name type loc first = record { name = name; ty = type; location = loc; initial = first; retained = false }

abbrev line : Op → Modifier → Operand → Instr
line op m operand = record { label = None; op = op; modifier = m; operand = operand; arguments = [] }

abbrev input_bit : Loc
input_bit = Bit areas.Input 0

abbrev output_bit : Loc
output_bit = Bit areas.Output 0

-- X AT %IX0.0 : BOOL; Y AT %QX0.0 : BOOL; LD X; ST Y
abbrev copying : Program
copying = record {
  variables = variable (codes "X") types.Bool (Some input_bit) (values.Bool false) ∷ variable (codes "Y") types.Bool (Some output_bit) (values.Bool false) ∷ [];
  instances = [];
  code = line ops.Ld plain (operands.Variable (codes "X")) ∷ line ops.St plain (operands.Variable (codes "Y")) ∷ [];
}

-- its image, 42 bytes
abbrev copying_bytes : List ℕ
copying_bytes = 73 ∷ 76 ∷ 80 ∷ 67 ∷ 0 ∷ 1 ∷ 0 ∷ 2 ∷ 0 ∷ 0 ∷ 0 ∷ 0 ∷ 0 ∷ 0 ∷ 0 ∷ 2
    ∷ 1 ∷ 88 ∷ 0 ∷ 0 ∷ 0 ∷ 0 ∷ 0 ∷ 0 ∷ 0
    ∷ 1 ∷ 89 ∷ 0 ∷ 16 ∷ 0 ∷ 0 ∷ 0 ∷ 0 ∷ 0
    ∷ 1 ∷ 0 ∷ 64 ∷ 0 ∷ 2 ∷ 0 ∷ 64 ∷ 1 ∷ []

x_named : IsName (codes "X")
unfolding is_well_spelled spells look mnemonic_of
x_named = record { lawful = refl; short = (let le : 1 ≤ 96 = omega arith in le) }

y_named : IsName (codes "Y")
unfolding is_well_spelled spells look mnemonic_of
y_named = record { lawful = refl; short = (let le : 1 ≤ 96 = omega arith in le) }

first_of : (a b : Loc) → (let o : Option Loc = Some a in o ≡ Some b) → a ≡ b
first_of a b e = cc

x_lies : (loc : Loc) → (let o : Option Loc = Some input_bit in o ≡ Some loc) → MayLieAt (variable (codes "X") types.Bool (Some input_bit) (values.Bool false)) loc
x_lies loc e = subst (MayLieAt (variable (codes "X") types.Bool (Some input_bit) (values.Bool false))) (first_of input_bit loc e) (record { type = refl; start = λ input. refl })

y_lies : (loc : Loc) → (let o : Option Loc = Some output_bit in o ≡ Some loc) → MayLieAt (variable (codes "Y") types.Bool (Some output_bit) (values.Bool false)) loc
y_lies loc e = subst (MayLieAt (variable (codes "Y") types.Bool (Some output_bit) (values.Bool false))) (first_of output_bit loc e) (record { type = refl; start = λ input. refl })

loads : (name : List ℕ) → IsInstruction (line ops.Ld plain (operands.Variable name))
loads name = record { label = λ n e. absurd cc; letters = refl; form = refl; operands = (tt, tt); labelled = λ e. absurd cc }

stores : (name : List ℕ) → IsInstruction (line ops.St plain (operands.Variable name))
stores name = record { label = λ n e. absurd cc; letters = refl; form = refl; operands = (tt, tt); labelled = λ e. absurd cc }

other_names : codes "X" ≡ codes "Y" → ⊥
other_names e = let first : 88 ≡ 89 = ap (λ (name : List ℕ). get_or name 0 0) e in absurd (omega (arith, first))

copying_is : IsWellFormed copying
copying_is = record {
  small = record { variables = (let le : 2 ≤ 4096 = omega arith in le); instances = (let le : 0 ≤ 1024 = omega arith in le); code = (let le : 2 ≤ 16384 = omega arith in le); words = refl };
  variables = (record { name = x_named; type = refl; range = refl; location = x_lies }, (record { name = y_named; type = refl; range = refl; location = y_lies }, tt));
  instances = tt;
  names = ((other_names, tt), (tt, tt));
  apart = tt;
  locations = (((λ e. cc), tt), (tt, tt));
  code = (loads (codes "X"), (stores (codes "Y"), tt));
  typed = is_typed copying refl;
}

copying_spelled : spelling copying ≡ copying_bytes
copying_spelled = refl

-- whatever reads images reads it
copying_read : (reading : Reading) → ReadsImages reading → reading copying_bytes ≡ Ok copying
copying_read reading is = ap reading (sym copying_spelled) ∙ is.read copying copying_is

-- and no program from a byte alone
one_byte : AreBytes (73 ∷ [])
one_byte zero = omega arith
one_byte (suc i) = omega arith

nothing_read : (reading : Reading) → ReadsImages reading → (Q : Program) → reading (73 ∷ []) ≡ Ok Q → ⊥
nothing_read reading is Q e = let spelled = (is.only (73 ∷ []) Q one_byte e).1 in cc

-- ---- programs that are not well-formed

abbrev declaring : List Variable → List Instance → Program
declaring vs xs = record { variables = vs; instances = xs; code = [] }

abbrev performing : Instr → Program
performing l = record { variables = []; instances = []; code = l ∷ [] }

abbrev bit : List ℕ → Variable
bit name = variable name types.Bool None (values.Bool false)

-- one name of two variables, or of a variable and an instance
doubled_name : IsWellFormed (declaring (bit (codes "A") ∷ bit (codes "A") ∷ []) []) → ⊥
doubled_name is = is.names.0.0 refl

shared_name : IsWellFormed (declaring (bit (codes "A") ∷ []) (record { name = codes "A"; kind = kinds.Ton; retained = false } ∷ [])) → ⊥
shared_name is = is.names.0.0 refl

-- two variables at one location, another one between them
overlapping : IsWellFormed (declaring (variable (codes "A") types.Bool (Some output_bit) (values.Bool false) ∷ bit (codes "B") ∷ variable (codes "C") types.Bool (Some output_bit) (values.Bool true) ∷ []) []) → ⊥
overlapping is = is.locations.0.0 refl

-- a keyword, and a name of 33 letters
reserved : IsName (codes "ADD") → ⊥
unfolding is_well_spelled spells look mnemonic_of
reserved is = let e = is.lawful in cc

long_name : IsName (codes "ABCDEFGHIJKLMNOPQRSTUVWXYZABCDEFG") → ⊥
unfolding is_well_spelled spells look mnemonic_of
long_name is = let e = is.lawful in cc

-- a first value of another type, and one out of its range
other_type : IsVariable (variable (codes "A") types.Dint None (values.Int (pos 1))) → ⊥
other_type is = let e = is.type in cc

out_of_range : IsVariable (variable (codes "A") types.Int None (values.Int (pos 32768))) → ⊥
out_of_range is = let e = is.range in cc

-- an input that begins as TRUE, a DINT in a word, and a bit that isn't there
started_input : IsVariable (variable (codes "A") types.Bool (Some input_bit) (values.Bool true)) → ⊥
started_input is = let e = (is.location input_bit refl).start refl in cc

long_word : IsVariable (variable (codes "A") types.Dint (Some (Word areas.Memory 0)) (values.Dint (pos 0))) → ⊥
long_word is = let e = (is.location (Word areas.Memory 0) refl).type in cc

no_bit : IsVariable (variable (codes "A") types.Bool (Some (Bit areas.Memory 512)) (values.Bool false)) → ⊥
no_bit is = let e = (is.location (Bit areas.Memory 512) refl).type in cc

-- ADDN; NOT with an operand; a literal and a location out of range; and an empty instruction without a label
negated_sum : IsInstruction (line ops.Add letter_n (operands.Literal (values.Int (pos 1)))) → ⊥
negated_sum is = let e = is.letters in cc

operand_of_not : IsInstruction (line ops.Not plain (operands.Literal (values.Bool true))) → ⊥
operand_of_not is = let e = is.form in cc

large_literal : IsInstruction (line ops.Ld plain (operands.Literal (values.Int (pos 40000)))) → ⊥
large_literal is = let e = is.operands.0 in cc

far_word : IsInstruction (line ops.Ld plain (operands.Direct (Word areas.Input 64))) → ⊥
far_word is = let e = is.operands.0 in cc

nothing_said : IsInstruction (line ops.Empty plain operands.Absent) → ⊥
nothing_said is = let e = is.labelled refl in cc

-- ST where there is no current result
untyped : IsWellFormed (performing (line ops.St plain (operands.Direct output_bit))) → ⊥
untyped is = let e = faultless (performing (line ops.St plain (operands.Direct output_bit))) is.typed in cc
