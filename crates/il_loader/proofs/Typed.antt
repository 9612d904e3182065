-- What a judgement tells, and where its fault stands.
use Rattle.std.proofs.Common.{◌≡◌, ℕ, zero, suc, ◌+◌, ◌≤◌, Bool, true, false, cond, List, [], ◌∷◌, ◌++◌, length, Option, Some, None, Result, Ok, Err, refl, arith}
use Rattle.std.specs.Prelude.{slice_get, is_some, ◌&&◌}
use Rattle.il_model.specs.declared.kind.BlockKind.{BlockKind}
use Rattle.il_model.specs.declared.program.Argument.{Argument}
use Rattle.il_model.specs.declared.program.Instr.{Instr}
use Rattle.il_model.specs.declared.typing.TypeFault.{TypeFault}
use Rattle.il_model.specs.Program.{Program}
use Rattle.il_model.specs.Resolved.{source_of, called_kind}
use Rattle.il_model.specs.Marks.{word_count, words_in, address_of}
use Rattle.il_model.specs.Typing.{Shape}
use Rattle.il_model.specs.Checking.{shape_at, top_of, source_row, label_row, argument_fault}
use Rattle.il_model.specs.Faulty.{faulty_argument, is_ok, faulty_in, faulty_at, faulty_by, faulty_word}

-- ---- the words of a program are enough for the address of its fault

one_by : (b : Bool) (n k : ℕ) → n ≤ k → cond b zero (suc n) ≤ suc k
one_by true n k le = omega arith
one_by false n k le = omega arith

argument_within : (Q : Program) (kind : Option BlockKind) (seen args : List Argument) → faulty_argument Q kind seen args ≤ length args
argument_within Q kind seen [] = omega arith
argument_within Q kind seen (a ∷ args) = one_by (is_some (argument_fault Q kind seen a)) (faulty_argument Q kind (seen ++ a ∷ []) args) (length args) (argument_within Q kind (seen ++ a ∷ []) args)

word_by : (b : Bool) (n k : ℕ) → n ≤ k → cond b (suc n) zero ≤ 1 + k
word_by true n k le = omega arith
word_by false n k le = omega arith

line_within : (Q : Program) (n : ℕ) (sh : Shape) (line : Instr) → faulty_in Q n sh line ≤ word_count line
line_within Q n sh line =
    word_by (is_ok (label_row Q n (length sh.kept) line.label) && is_ok (source_row Q sh.cr (top_of sh.kept) (length sh.kept) line (source_of Q line.operand)))
    (faulty_argument Q (called_kind Q line.operand) [] line.arguments) (length line.arguments) (argument_within Q (called_kind Q line.operand) [] line.arguments)

-- where each instruction's number is one of its words
within_by : (f : Option Instr → ℕ) (code : List Instr) (n : ℕ) → ((line : Instr) → f (Some line) ≤ word_count line) → f None ≡ 0 → address_of code n + f (slice_get code n) ≤ words_in code
within_by f [] n each none = omega (arith, none)
within_by f (line ∷ code) zero each none = omega (arith, each line)
within_by f (line ∷ code) (suc n) each none = let more = within_by f code n each none in omega arith

fault_by : (Q : Program) (n : ℕ) (r : Result Shape (TypeFault × ℕ)) → address_of Q.code n + faulty_by Q n r ≤ words_in Q.code
fault_by Q n (Err f) = within_by (λ o. 0) Q.code n (λ line. omega arith) refl
fault_by Q n (Ok sh) = within_by (λ (o : Option Instr). faulty_at Q n o sh) Q.code n (line_within Q n sh) refl

pub fault_within : (Q : Program) (n : ℕ) → address_of Q.code n + faulty_word Q n ≤ words_in Q.code
fault_within Q n = fault_by Q n (shape_at Q n)
