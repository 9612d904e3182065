-- The instructions of a program and of its typed program, side by side.
use Rattle.std.proofs.Common.{◌≡◌, ℕ, zero, suc, ◌+◌, ◌≤◌, List, [], ◌∷◌, length, Option, Some, Ok, refl, sym, ap, ◌∙◌, arith}
use Rattle.std.specs.Prelude.{slice_get, Bool, ◌&&◌, ℤ, None, map}
use Rattle.std.specs.List.{AllByRecursion, list_all}
use Rattle.std.specs.Option.{option_map}
use Rattle.std.proofs.lemmas.List.{length-map}
use Rattle.std.proofs.lemmas.Option.{slice_get_within}
use Rattle.il_values.specs.declared.value.Ty.{Ty}
use Rattle.il_values.specs.declared.value.Value.{Value}
use Rattle.il_values.specs.declared.op.Op.{Op}
use Rattle.il_values.specs.declared.op.Modifier.{Modifier}
use Rattle.il_model.specs.declared.kind.Field.{Field}
use Rattle.il_model.specs.declared.program.Operand.{Operand}
use Rattle.il_model.specs.declared.program.Operand.TheVariants as operands
use Rattle.il_model.specs.declared.program.Side.{Side}
use Rattle.il_model.specs.declared.program.Side.TheVariants as sides
use Rattle.il_model.specs.declared.program.Argument.{Argument}
use Rattle.il_model.specs.declared.program.Instr.{Instr}
use Rattle.il_model.specs.Program.{Program}
use Rattle.il_model.specs.Checking.{shape_at, typing_end}
use Rattle.il_model.specs.Marks.{with_mark, marks_from, word_count, words_in, address_of}
use Rattle.il_model.specs.declared.codes.Version.{Version}
use Rattle.il_model.specs.Image.{op_version, operand_version, may_have, may_label, may_name, may_write}
use Rattle.il_model.specs.Kinds.{any_field, field_type}
use Rattle.il_values.specs.Values.{typed_value}
use Rattle.il_model.proofs.Versions.{all_passed}
use Rattle.il_model.specs.Settled.{settled_as, settled_number, settled_operand, settled_passing, settled_argument, settled_line, typed_program_of, IsTypedProgramOf}
use Rattle.il_model.proofs.SettledPrograms.{some_is, typed_program}
use Rattle.il_model.proofs.TypedLines.{bind_ok, ok_before}
use Rattle.il_model.proofs.Calls.{IsTypedLine, typed_lines, words_few}
use Rattle.il_model.proofs.Judged.{arrives, faultless}
use Rattle.il_assembler.specs.Walk.{HasFewArguments}

-- each of the second is one of the first with its bare numbers typed
abbrev pub AreSettledLines : List Instr → List Instr → Type 0
AreSettledLines [] [] = Unit {0}
AreSettledLines (p ∷ ps) (q ∷ qs) = ((cr : Option Ty) × (q ≡ settled_line cr p)) × AreSettledLines ps qs
AreSettledLines ps qs = ⊥

abbrev IsSettledAt : List Instr → List Instr → Type 0
IsSettledAt ps qs = (n : ℕ) (p : Instr) → slice_get ps n ≡ Some p → (cr : Option Ty) × (slice_get qs n ≡ Some (settled_line cr p))

lines_by : (ps qs : List Instr) → length qs ≡ length ps → IsSettledAt ps qs → AreSettledLines ps qs
lines_by [] [] len at = tt
lines_by [] (q ∷ qs) len at = absurd (omega (arith, len))
lines_by (p ∷ ps) [] len at = absurd (omega (arith, len))
lines_by (p ∷ ps) (q ∷ qs) len at = let here = at zero p refl in ((here.0, some_is q (settled_line here.0 p) here.1), lines_by ps qs (omega (arith, len)) (λ n x e. at (suc n) x e))

settled_at : (P Q : Program) → IsTypedProgramOf P Q → IsSettledAt P.code Q.code
settled_at P Q is n p here =
    let all = bind_ok (shape_at Q (length Q.code)) (typing_end Q) tt (faultless Q is.typed) in
    let le : n ≤ length Q.code = omega (arith, slice_get_within P.code n p here, is.count) in
    let sh = ok_before Q (length Q.code) all.0 all.1 n le in
    (sh.0.cr, is.placed n sh.0 (arrives Q n sh.0 le sh.1) ∙ ap (option_map (settled_line sh.0.cr)) here)

pub settled_lines : (P Q : Program) → typed_program_of P ≡ Ok Q → AreSettledLines P.code Q.code
settled_lines P Q e = let is = typed_program P Q e in lines_by P.code Q.code is.count (settled_at P Q is)

-- ---- the same labels at the same addresses

same_count : (cr : Option Ty) (p q : Instr) → q ≡ settled_line cr p → word_count p ≡ word_count q
same_count cr p q e = sym (ap word_count e ∙ ap (λ (k : ℕ). 1 + k) (length-map p.arguments settled_argument))

pub same_words : (ps qs : List Instr) → AreSettledLines ps qs → words_in ps ≡ words_in qs
same_words [] [] are = refl
same_words [] (q ∷ qs) are = absurd are
same_words (p ∷ ps) [] are = absurd are
same_words (p ∷ ps) (q ∷ qs) are =
    ap (λ (k : ℕ). k + words_in ps) (same_count are.0.0 p q are.0.1) ∙ ap (λ (k : ℕ). word_count q + k) (same_words ps qs are.1)

pub same_address : (ps qs : List Instr) (n : ℕ) → AreSettledLines ps qs → address_of ps n ≡ address_of qs n
same_address [] [] n are = refl
same_address [] (q ∷ qs) n are = absurd are
same_address (p ∷ ps) [] n are = absurd are
same_address (p ∷ ps) (q ∷ qs) zero are = refl
same_address (p ∷ ps) (q ∷ qs) (suc n) are =
    ap (λ (k : ℕ). k + address_of ps n) (same_count are.0.0 p q are.0.1) ∙ ap (λ (k : ℕ). word_count q + k) (same_address ps qs n are.1)

pub same_marks : (n : ℕ) (ps qs : List Instr) → AreSettledLines ps qs → marks_from n ps ≡ marks_from n qs
same_marks n [] [] are = refl
same_marks n [] (q ∷ qs) are = absurd are
same_marks n (p ∷ ps) [] are = absurd are
same_marks n (p ∷ ps) (q ∷ qs) are =
    ap (λ (k : ℕ). with_mark n p.label (marks_from (n + k) ps)) (same_count are.0.0 p q are.0.1)
    ∙ ap (with_mark n p.label) (same_marks (n + word_count q) ps qs are.1)
    ∙ ap (λ (line : Instr). with_mark n line.label (marks_from (n + word_count q) qs)) (sym are.0.1)

-- ---- the same operators and locations

-- a number names no location
same_as : (z : ℤ) (o : Option Value) → operand_version (settled_as z o) ≡ operand_version (operands.Bare z)
same_as z (Some v) = refl
same_as z None = refl

same_operand : (cr : Option Ty) (op : Op) (m : Modifier) (x : Operand) → operand_version (settled_operand cr op m x) ≡ operand_version x
same_operand cr op m (operands.Bare z) = same_as z (settled_number cr op m.opens z)
same_operand cr op m operands.Absent = refl
same_operand cr op m (operands.Literal v) = refl
same_operand cr op m (operands.Variable name) = refl
same_operand cr op m (operands.Direct loc) = refl
same_operand cr op m (operands.Label name) = refl
same_operand cr op m (operands.Field name field) = refl
same_operand cr op m (operands.Instance name) = refl

same_passing : (side : Side) (field : Option Field) (x : Operand) → operand_version (settled_passing side field x) ≡ operand_version x
same_passing sides.Input (Some field) (operands.Bare z) = same_as z (typed_value (field_type field) z)
same_passing sides.Input (Some field) operands.Absent = refl
same_passing sides.Input (Some field) (operands.Literal v) = refl
same_passing sides.Input (Some field) (operands.Variable name) = refl
same_passing sides.Input (Some field) (operands.Direct loc) = refl
same_passing sides.Input (Some field) (operands.Label name) = refl
same_passing sides.Input (Some field) (operands.Field name f) = refl
same_passing sides.Input (Some field) (operands.Instance name) = refl
same_passing sides.Input None x = refl
same_passing sides.Output field x = refl

same_passings : (version : Version) (xs : List Argument) → list_all (λ (a : Argument). may_name version a.operand) (map settled_argument xs) ≡ list_all (λ (a : Argument). may_name version a.operand) xs
same_passings version [] = refl
same_passings version (a ∷ xs) =
    ap (λ (v : Version). may_have version v && list_all (λ (b : Argument). may_name version b.operand) (map settled_argument xs)) (same_passing a.side (any_field a.field) a.operand)
    ∙ ap (λ (b : Bool). may_name version a.operand && b) (same_passings version xs)

same_arguments : (version : Version) (xs : List Argument) → list_all (may_name version) (map (λ (a : Argument). a.operand) (map settled_argument xs)) ≡ list_all (may_name version) (map (λ (a : Argument). a.operand) xs)
same_arguments version xs = all_passed version (map settled_argument xs) ∙ same_passings version xs ∙ sym (all_passed version xs)

same_line : (version : Version) (cr : Option Ty) (line : Instr) → may_write version (settled_line cr line) ≡ may_write version line
same_line version cr line =
    ap (λ (v : Version). may_label version line.label && (may_have version (op_version line.op) && (may_have version v && list_all (may_name version) (map (λ (a : Argument). a.operand) (map settled_argument line.arguments))))) (same_operand cr line.op line.modifier line.operand)
    ∙ ap (λ (b : Bool). may_label version line.label && (may_have version (op_version line.op) && (may_name version line.operand && b))) (same_arguments version line.arguments)

pub same_writes : (version : Version) (ps qs : List Instr) → AreSettledLines ps qs → list_all (may_write version) ps ≡ list_all (may_write version) qs
same_writes version [] [] are = refl
same_writes version [] (q ∷ qs) are = absurd are
same_writes version (p ∷ ps) [] are = absurd are
same_writes version (p ∷ ps) (q ∷ qs) are =
    ap (λ (b : Bool). b && list_all (may_write version) ps) (sym (ap (may_write version) are.0.1 ∙ same_line version are.0.0 p)) ∙ ap (λ (b : Bool). may_write version q && b) (same_writes version ps qs are.1)

-- ---- few arguments

few_line : (Q : Program) (q : Instr) → IsTypedLine Q q → word_count q ≤ 9
few_line Q q is = let few = words_few Q (q ∷ []) (is, tt) in omega arith

few_lines : (Q : Program) (ps qs : List Instr) → AreSettledLines ps qs → AllByRecursion (IsTypedLine Q) qs → AllByRecursion HasFewArguments ps
few_lines Q [] [] are all = tt
few_lines Q [] (q ∷ qs) are all = absurd are
few_lines Q (p ∷ ps) [] are all = absurd are
few_lines Q (p ∷ ps) (q ∷ qs) are all =
    let few : length p.arguments ≤ 8 = omega (arith, few_line Q q all.0, same_count are.0.0 p q are.0.1) in
    (few, few_lines Q ps qs are.1 all.1)

-- a typed program's instructions have few arguments, and so have those of the program
pub few_arguments : (P Q : Program) → typed_program_of P ≡ Ok Q → AllByRecursion HasFewArguments P.code
few_arguments P Q e = few_lines Q P.code Q.code (settled_lines P Q e) (typed_lines Q (faultless Q (typed_program P Q e).typed))
