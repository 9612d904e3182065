-- The bytes told by a program and the literals of its typed program are the typed program's spelling.
use Rattle.std.proofs.Common.{◌≡◌, ℕ, suc, List, [], ◌∷◌, ◌++◌, length, Option, Some, None, Ok, refl, sym, ap, ◌∙◌}
use Rattle.std.specs.Prelude.{Bool, ◌&&◌, if◌then◌else◌, map, not, nat_le}
use Rattle.std.specs.List.{flat_map, list_all}
use Rattle.std.specs.Option.{option_map, option_and_then}
use Rattle.std.proofs.lemmas.List.{map-append}
use Rattle.il_values.specs.declared.value.Ty.{Ty}
use Rattle.il_values.specs.declared.value.Value.{Value}
use Rattle.il_model.specs.declared.codes.Version.{Version}
use Rattle.il_model.specs.declared.codes.Version.TheVariants as versions
use Rattle.il_model.specs.declared.kind.BlockKind.{BlockKind}
use Rattle.il_model.specs.declared.program.Variable.{Variable}
use Rattle.il_model.specs.declared.program.Instance.{Instance}
use Rattle.il_model.specs.declared.program.Argument.{Argument}
use Rattle.il_model.specs.declared.program.Operand.{Operand}
use Rattle.il_model.specs.declared.program.Operand.TheVariants as operands
use Rattle.il_model.specs.declared.program.Instr.{Instr}
use Rattle.il_model.specs.Program.{Program, Declarations, declared_by}
use Rattle.il_model.specs.Kinds.{field_number}
use Rattle.il_model.specs.Resolved.{target_of, instance_in, kind_in, called_kind}
use Rattle.il_model.specs.Marks.{Mark, marks_from, words_in, address_of}
use Rattle.il_model.specs.Constants.{same_value, operand_literal, joined_constants, constants_from, operands_in, operands_of}
use Rattle.il_model.specs.CodedOperands.{code_of}
use Rattle.il_model.specs.Limits.{most_variables, most_instances, most_instructions, is_crowded}
use Rattle.il_model.specs.Image.{number_or_unused, coded_operand, operand_code, coded_word, modifier_code, side_code, field_number_code, word_bytes, argument_bytes, instruction_bytes, may_declare, may_instantiate, may_keep, may_write, version_with, header_bytes, variable_bytes, instance_bytes, mark_bytes, constant_bytes, spelling}
use Rattle.il_values.specs.OpCodes.{op_code}
use Rattle.il_model.specs.Settled.{settled_argument, settled_line, typed_program_of}
use Rattle.il_model.proofs.ArgumentFaults.{settled_argument_none}
use Rattle.il_model.proofs.SettledPrograms.{Alike, literal_is, settled_none, called_settled, is_settling, settling_alike, target_alike, typed_program}
use Rattle.il_assembler.specs.Walk.{literals_of, constants_in, literals_in, all_literals, settled_code}
use Rattle.il_assembler.specs.Walk.{settled_passing_word, settled_instruction, settled_words, settled_bytes}
use Rattle.il_assembler.proofs.Gathered.{passing_literals}
use Rattle.il_assembler.proofs.SettledLines.{AreSettledLines, settled_lines, same_words, same_address, same_marks, same_writes}

-- ---- constants

settled_literals : (args : List Argument) → passing_literals args ≡ map operand_literal (map (λ (a : Argument). a.operand) (map settled_argument args))
settled_literals [] = refl
settled_literals (a ∷ args) = ap (λ (ls : List (Option Value)). operand_literal (settled_argument a).operand ∷ ls) (settled_literals args)

line_literals : (cr : Option Ty) (p q : Instr) → q ≡ settled_line cr p → literals_in p (operand_literal q.operand) ≡ map operand_literal (operands_in q)
line_literals cr p q e =
    ap (λ (x : Instr). literals_in p (operand_literal x.operand)) e
    ∙ ap (λ (ls : List (Option Value)). operand_literal (settled_line cr p).operand ∷ ls) (settled_literals p.arguments)
    ∙ ap (λ (x : Instr). map operand_literal (operands_in x)) (sym e)

same_literals : (ps qs : List Instr) → AreSettledLines ps qs → all_literals ps (literals_of qs) ≡ map operand_literal (operands_of qs)
same_literals [] [] are = refl
same_literals [] (q ∷ qs) are = absurd are
same_literals (p ∷ ps) [] are = absurd are
same_literals (p ∷ ps) (q ∷ qs) are =
    ap (λ (ls : List (Option Value)). ls ++ all_literals ps (literals_of qs)) (line_literals are.0.0 p q are.0.1)
    ∙ ap (λ (ls : List (Option Value)). map operand_literal (operands_in q) ++ ls) (same_literals ps qs are.1)
    ∙ sym (map-append operand_literal (operands_in q) (operands_of qs))

gathered : (seen : List Value) (os : List Operand) → constants_in seen (map operand_literal os) ≡ constants_from same_value seen os
gathered seen [] = refl
gathered seen (o ∷ os) = gathered (joined_constants same_value seen (operand_literal o)) os

same_constants : (ps qs : List Instr) → AreSettledLines ps qs → constants_in [] (all_literals ps (literals_of qs)) ≡ constants_from same_value [] (operands_of qs)
same_constants ps qs are = ap (constants_in []) (same_literals ps qs are) ∙ gathered [] (operands_of qs)

-- ---- words

-- programs with the same declarations, and the same labels at the same addresses
record AreAlike (P Q : Program) : Type 0 where
  alike : Alike P Q
  address : (n : ℕ) → address_of P.code n ≡ address_of Q.code n

declared_alike : (P Q : Program) → Alike P Q → declared_by P ≡ declared_by Q
declared_alike P Q a =
    ap (λ (vs : List Variable). let ds : Declarations = record { variables = vs; instances = P.instances } in ds) (sym a.variables)
    ∙ ap (λ (xs : List Instance). let ds : Declarations = record { variables = Q.variables; instances = xs } in ds) (sym a.instances)

coded_alike : (P Q : Program) (constants : List Value) (o : Operand) → AreAlike P Q → code_of (coded_operand (declared_by P) constants o) ≡ code_of (coded_operand (declared_by Q) constants o)
coded_alike P Q constants o a = ap (λ (ds : Declarations). code_of (coded_operand ds constants o)) (declared_alike P Q a.alike)

address_by : (P Q : Program) (o : Option ℕ) → AreAlike P Q → option_map (address_of P.code) o ≡ option_map (address_of Q.code) o
address_by P Q None a = refl
address_by P Q (Some n) a = ap (λ (k : ℕ). Some k) (a.address n)

code_alike : (P Q : Program) (constants : List Value) (o : Operand) → AreAlike P Q → operand_code P constants o ≡ operand_code Q constants o
code_alike P Q constants operands.Absent a = refl
code_alike P Q constants (operands.Literal v) a = refl
code_alike P Q constants (operands.Bare z) a = refl
code_alike P Q constants (operands.Variable name) a = coded_alike P Q constants (operands.Variable name) a
code_alike P Q constants (operands.Direct loc) a = refl
code_alike P Q constants (operands.Label name) a =
    ap number_or_unused (address_by P Q (target_of P name) a ∙ ap (option_map (address_of Q.code)) (sym (target_alike P Q name a.alike)))
code_alike P Q constants (operands.Field name field) a = coded_alike P Q constants (operands.Field name field) a
code_alike P Q constants (operands.Instance name) a = ap (λ (xs : List Instance). number_or_unused (instance_in xs name)) (sym a.alike.instances)

-- an operand that is no literal now stands in the program as it is
code_by : (P Q : Program) (constants : List Value) (p q : Operand) (literal : Option Value) → AreAlike P Q → operand_literal q ≡ literal → (operand_literal q ≡ None → q ≡ p) → settled_code P constants p literal ≡ operand_code Q constants q
code_by P Q constants p q (Some v) a e same = sym (ap (operand_code Q constants) (literal_is q v e))
code_by P Q constants p q None a e same = code_alike P Q constants p a ∙ sym (ap (operand_code Q constants) (same e))

same_code : (P Q : Program) (constants : List Value) (p q : Operand) → AreAlike P Q → (operand_literal q ≡ None → q ≡ p) → settled_code P constants p (operand_literal q) ≡ operand_code Q constants q
same_code P Q constants p q a same = code_by P Q constants p q (operand_literal q) a refl same

same_passing : (P Q : Program) (constants : List Value) (kind : Option BlockKind) (args : List Argument) → AreAlike P Q → flat_map (settled_passing_word P constants kind) args ≡ flat_map (argument_bytes Q constants kind) (map settled_argument args)
same_passing P Q constants kind [] a = refl
same_passing P Q constants kind (x ∷ args) a =
    let number = field_number_code (option_and_then (λ (k : BlockKind). field_number k x.field) kind) in
    ap (λ (k : ℕ). coded_word (side_code x.side) number k ++ flat_map (settled_passing_word P constants kind) args) (same_code P Q constants x.operand (settled_argument x).operand a (settled_argument_none x))
    ∙ ap (λ (bytes : List ℕ). argument_bytes Q constants kind (settled_argument x) ++ bytes) (same_passing P Q constants kind args a)

same_kind : (P Q : Program) (cr : Option Ty) (p : Instr) → Alike P Q → called_kind P p.operand ≡ called_kind Q (settled_line cr p).operand
same_kind P Q cr p a = sym (called_settled Q cr p.op p.modifier p.operand ∙ ap (λ (xs : List Instance). kind_in xs p.operand) a.instances)

same_instruction : (P Q : Program) (constants : List Value) (cr : Option Ty) (p q : Instr) → AreAlike P Q → q ≡ settled_line cr p → settled_instruction P constants p (operand_literal q.operand) ≡ instruction_bytes Q constants q
same_instruction P Q constants cr p q a e =
    let line = settled_line cr p in
    ap (λ (x : Instr). settled_instruction P constants p (operand_literal x.operand)) e
    ∙ ap (λ (k : ℕ). coded_word (op_code p.op) (modifier_code p.modifier) k ++ flat_map (settled_passing_word P constants (called_kind P p.operand)) p.arguments) (same_code P Q constants p.operand line.operand a (settled_none cr p.op p.modifier p.operand))
    ∙ ap (λ (kind : Option BlockKind). word_bytes Q constants line ++ flat_map (settled_passing_word P constants kind) p.arguments) (same_kind P Q cr p a.alike)
    ∙ ap (λ (bytes : List ℕ). word_bytes Q constants line ++ bytes) (same_passing P Q constants (called_kind Q line.operand) p.arguments a)
    ∙ ap (instruction_bytes Q constants) (sym e)

same_code_words : (P Q : Program) (constants : List Value) (ps qs : List Instr) → AreAlike P Q → AreSettledLines ps qs → settled_words P constants ps (literals_of qs) ≡ flat_map (instruction_bytes Q constants) qs
same_code_words P Q constants [] [] a are = refl
same_code_words P Q constants [] (q ∷ qs) a are = absurd are
same_code_words P Q constants (p ∷ ps) [] a are = absurd are
same_code_words P Q constants (p ∷ ps) (q ∷ qs) a are =
    ap (λ (bytes : List ℕ). bytes ++ settled_words P constants ps (literals_of qs)) (same_instruction P Q constants are.0.0 p q a are.0.1)
    ∙ ap (λ (bytes : List ℕ). instruction_bytes Q constants q ++ bytes) (same_code_words P Q constants ps qs a are.1)

-- ---- all of it

abbrev parts : Version → List Variable → List Instance → List Mark → List Value → ℕ → List ℕ → List ℕ
parts version variables instances marks constants count words =
    header_bytes version (length variables) (length instances) (length marks) (length constants) count
    ++ (flat_map (variable_bytes version) variables ++ (flat_map instance_bytes instances ++ (flat_map mark_bytes marks ++ (flat_map (constant_bytes version) constants ++ words))))

-- a version has room for so many instructions with so many words, and for the declarations
abbrev has_room_by : Version → List Variable → List Instance → ℕ → ℕ → Bool
has_room_by version vs xs n words =
    nat_le (length vs) (most_variables version) && (nat_le (length xs) (most_instances version) && (nat_le n (most_instructions version) && not (is_crowded n words)))

abbrev suffices_by : Version → List Variable → List Instance → List Value → ℕ → ℕ → Bool → Bool
suffices_by version vs xs cs n words writes =
    has_room_by version vs xs n words && (list_all (may_declare version) vs && (list_all (may_instantiate version) xs && (list_all (may_keep version) cs && writes)))

-- the first version that suffices, where the first two may have the instructions or not
abbrev first_sufficing : List Variable → List Instance → List Value → ℕ → ℕ → Bool → Bool → Version
first_sufficing vs xs cs n words one two = if suffices_by versions.One vs xs cs n words one then versions.One
    else (if suffices_by versions.Two vs xs cs n words two then versions.Two else versions.Three)

same_count : (ps qs : List Instr) → AreSettledLines ps qs → length ps ≡ length qs
same_count [] [] are = refl
same_count [] (q ∷ qs) are = absurd are
same_count (p ∷ ps) [] are = absurd are
same_count (p ∷ ps) (q ∷ qs) are = ap suc (same_count ps qs are.1)

-- a program and its typed program have one version
version_alike : (P Q : Program) (constants : List Value) → Alike P Q → AreSettledLines P.code Q.code → version_with P.variables P.instances constants P.code ≡ version_with Q.variables Q.instances constants Q.code
version_alike P Q constants a are =
    let writes = list_all (may_write versions.Two) P.code in
    ap (λ (vs : List Variable). version_with vs P.instances constants P.code) (sym a.variables)
    ∙ ap (λ (xs : List Instance). version_with Q.variables xs constants P.code) (sym a.instances)
    ∙ ap (λ (n : ℕ). first_sufficing Q.variables Q.instances constants n (words_in P.code) (list_all (may_write versions.One) P.code) writes) (same_count P.code Q.code are)
    ∙ ap (λ (n : ℕ). first_sufficing Q.variables Q.instances constants (length Q.code) n (list_all (may_write versions.One) P.code) writes) (same_words P.code Q.code are)
    ∙ ap (λ (b : Bool). first_sufficing Q.variables Q.instances constants (length Q.code) (words_in Q.code) b writes) (same_writes versions.One P.code Q.code are)
    ∙ ap (λ (b : Bool). first_sufficing Q.variables Q.instances constants (length Q.code) (words_in Q.code) (list_all (may_write versions.One) Q.code) b) (same_writes versions.Two P.code Q.code are)

spelled : (P Q : Program) → Alike P Q → AreSettledLines P.code Q.code → settled_bytes P (constants_in [] (all_literals P.code (literals_of Q.code))) (literals_of Q.code) ≡ spelling Q
spelled P Q a are =
    let cs : List Value = constants_in [] (all_literals P.code (literals_of Q.code)) in
    let words = settled_words P cs P.code (literals_of Q.code) in
    let version = version_with P.variables P.instances cs P.code in
    ap (λ (vs : List Variable). parts version vs P.instances (marks_from 0 P.code) cs (words_in P.code) words) (sym a.variables)
    ∙ ap (λ (xs : List Instance). parts version Q.variables xs (marks_from 0 P.code) cs (words_in P.code) words) (sym a.instances)
    ∙ ap (λ (ms : List Mark). parts version Q.variables Q.instances ms cs (words_in P.code) words) (same_marks 0 P.code Q.code are)
    ∙ ap (λ (k : ℕ). parts version Q.variables Q.instances (marks_from 0 Q.code) cs k words) (same_words P.code Q.code are)
    ∙ ap (parts version Q.variables Q.instances (marks_from 0 Q.code) cs (words_in Q.code)) (same_code_words P Q cs P.code Q.code (record { alike = a; address = λ n. same_address P.code Q.code n are }) are)
    ∙ ap (λ (v : Version). parts v Q.variables Q.instances (marks_from 0 Q.code) cs (words_in Q.code) (flat_map (instruction_bytes Q cs) Q.code)) (version_alike P Q cs a are)
    ∙ ap (λ (ks : List Value). parts (version_with Q.variables Q.instances ks Q.code) Q.variables Q.instances (marks_from 0 Q.code) ks (words_in Q.code) (flat_map (instruction_bytes Q ks) Q.code)) (same_constants P.code Q.code are)

-- the literals of a typed program tell its spelling
pub settled_spelling : (P Q : Program) (literals : List (Option Value)) → typed_program_of P ≡ Ok Q → literals ≡ literals_of Q.code → settled_bytes P (constants_in [] (all_literals P.code literals)) literals ≡ spelling Q
settled_spelling P Q literals e is =
    ap (λ (ls : List (Option Value)). settled_bytes P (constants_in [] (all_literals P.code ls)) ls) is
    ∙ spelled P Q (settling_alike P Q (is_settling P Q (typed_program P Q e))) (settled_lines P Q e)
