-- The walk over a program, which private functions alone cite; what `assemble` answers is in Assembled.
use Rattle.std.specs.Prelude.{ℕ, List, [], ◌∷◌, ◌++◌, ◌+◌, ◌≤◌, length, map, Option, Some, None, ◌≡◌, Result, Ok, Err}
use Rattle.std.specs.List.{flat_map}
use Rattle.std.specs.Option.{option_and_then}
use Rattle.il_values.specs.declared.value.Value.{Value}
use Rattle.il_model.specs.declared.program.Operand.{Operand}
use Rattle.il_model.specs.declared.program.Instr.{Instr}
use Rattle.il_model.specs.declared.program.Argument.{Argument}
use Rattle.il_model.specs.declared.kind.BlockKind.{BlockKind}
use Rattle.il_model.specs.Kinds.{field_number}
use Rattle.il_model.specs.Resolved.{called_kind}
use Rattle.il_model.specs.Program.{Program}
use Rattle.il_model.specs.Marks.{marks_from, words_in, word_count}
use Rattle.il_model.specs.Settled.{settled_argument, typed_program_of}
use Rattle.il_model.specs.Constants.{same_value, operand_literal, joined_constants}
use Rattle.il_model.specs.CodedOperands.{code_of}
use Rattle.il_model.specs.Image.{coded_literal, operand_code, coded_word, modifier_code, side_code}
use Rattle.il_values.specs.OpCodes.{op_code}
use Rattle.il_model.specs.Image.{field_number_code, version_with, header_bytes, variable_bytes, instance_bytes}
use Rattle.il_model.specs.Image.{mark_bytes, constant_bytes, spelling}
use Rattle.il_assembler.specs.declared.fault.AsmError.{AsmError}
use Rattle.il_assembler.specs.declared.fault.AsmError.TheVariants as errors

-- ---- the bytes of a typed program, by the program that it was before and the literals that its operands are now

-- for each instruction the literal that its operand is, if it is one
abbrev pub literals_of : List Instr → List (Option Value)
literals_of code = map (λ (line : Instr). operand_literal line.operand) code

-- the constants of the literals, in the order of their first use
abbrev pub constants_in : List Value → List (Option Value) → List Value
constants_in seen [] = seen
constants_in seen (literal ∷ literals) = constants_in (joined_constants same_value seen literal) literals

-- the literals that the operands of an instruction and of its arguments are, once bare numbers have their types
abbrev pub literals_in : Instr → Option Value → List (Option Value)
literals_in line literal = literal ∷ map (λ (a : Argument). operand_literal (settled_argument a).operand) line.arguments

-- those of all operands, in order
abbrev pub all_literals : List Instr → List (Option Value) → List (Option Value)
all_literals [] literals = []
all_literals (line ∷ code) [] = []
all_literals (line ∷ code) (literal ∷ literals) = literals_in line literal ++ all_literals code literals

-- a literal is its constant's number
abbrev pub settled_code : Program → List Value → Operand → Option Value → ℕ
settled_code P constants operand (Some v) = code_of (coded_literal constants v)
settled_code P constants operand None = operand_code P constants operand

abbrev pub settled_word : Program → List Value → Instr → Option Value → List ℕ
settled_word P constants line literal =
    coded_word (op_code line.op) (modifier_code line.modifier) (settled_code P constants line.operand literal)

abbrev pub settled_passing_word : Program → List Value → Option BlockKind → Argument → List ℕ
settled_passing_word P constants kind a =
    coded_word (side_code a.side)
    (field_number_code (option_and_then (λ k. field_number k a.field) kind))
    (settled_code P constants a.operand (operand_literal (settled_argument a).operand))

-- an instruction's word and those of its arguments
abbrev pub settled_instruction : Program → List Value → Instr → Option Value → List ℕ
settled_instruction P constants line literal =
    settled_word P constants line literal
    ++ flat_map (settled_passing_word P constants (called_kind P line.operand)) line.arguments

abbrev pub settled_words : Program → List Value → List Instr → List (Option Value) → List ℕ
settled_words P constants [] literals = []
settled_words P constants (line ∷ code) [] = []
settled_words P constants (line ∷ code) (literal ∷ literals) =
    settled_instruction P constants line literal ++ settled_words P constants code literals

abbrev pub settled_bytes : Program → List Value → List (Option Value) → List ℕ
settled_bytes P constants literals =
    let version = version_with P.variables P.instances constants P.code in
    let marks = marks_from 0 P.code in
    header_bytes version (length P.variables) (length P.instances) (length marks) (length constants) (words_in P.code)
    ++ (flat_map (variable_bytes version) P.variables
    ++ (flat_map instance_bytes P.instances
    ++ (flat_map mark_bytes marks
    ++ (flat_map (constant_bytes version) constants ++ settled_words P constants P.code literals))))

-- a call has no more arguments than its block has fields
abbrev pub HasFewArguments : Instr → Type 0
HasFewArguments line = length line.arguments ≤ 8

-- the addresses of instructions of which the first has that one
abbrev pub addresses_from : ℕ → List Instr → List ℕ
addresses_from n [] = []
addresses_from n (line ∷ code) = n ∷ addresses_from (n + word_count line) code

-- ---- from left to right: bare numbers get their types, and the first fault that is met ends it

abbrev pub Stops : Program → AsmError → Type 0
Stops P errors.Memory = Unit {0}
Stops P (errors.Fault f n) = typed_program_of P ≡ Err (f, n)

-- the literals of a program's typed program, or the fault at which the walk ends
abbrev pub GivesLiterals : {X : Type 0} → Program → (X → List (Option Value)) → Result X AsmError → Type 0
GivesLiterals P view (Ok x) = (Q : Program) × (typed_program_of P ≡ Ok Q) × (view x ≡ literals_of Q.code)
GivesLiterals P view (Err e) = Stops P e

-- the same with the bytes of its image
abbrev pub GivesImage : {X : Type 0} → Program → (X → List ℕ) → Result X AsmError → Type 0
GivesImage P view (Ok x) = (Q : Program) × (typed_program_of P ≡ Ok Q) × (view x ≡ spelling Q)
GivesImage P view (Err e) = Stops P e
