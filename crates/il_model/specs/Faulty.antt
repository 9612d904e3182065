-- In which of an instruction's words its first fault stands: its own, or that of an argument.
use Rattle.std.specs.Prelude.{ℕ, zero, suc, Bool, true, false, ◌&&◌, List, [], ◌∷◌, ◌++◌, length, Option, Some, None}
use Rattle.std.specs.Prelude.{Result, Ok, Err, is_some, slice_get, if◌then◌else◌}
use Rattle.il_model.specs.declared.kind.BlockKind.{BlockKind}
use Rattle.il_model.specs.declared.program.Argument.{Argument}
use Rattle.il_model.specs.declared.program.Instr.{Instr}
use Rattle.il_model.specs.declared.typing.TypeFault.{TypeFault}
use Rattle.il_model.specs.Program.{Program}
use Rattle.il_model.specs.Resolved.{source_of, called_kind}
use Rattle.il_model.specs.Typing.{Shape}
use Rattle.il_model.specs.Checking.{shape_at, top_of, source_row, label_row, argument_fault}

-- how many arguments there are before the first that has a fault
abbrev pub faulty_argument : Program → Option BlockKind → List Argument → List Argument → ℕ
faulty_argument Q kind seen [] = zero
faulty_argument Q kind seen (a ∷ more) = if is_some (argument_fault Q kind seen a) then zero
    else suc (faulty_argument Q kind (seen ++ a ∷ []) more)

abbrev pub is_ok : {X E : Type 0} → Result X E → Bool
is_ok (Ok x) = true
is_ok (Err e) = false

-- the faults of its label, its operator and its operand stand at its own word
abbrev pub faulty_in : Program → ℕ → Shape → Instr → ℕ
faulty_in Q n sh line =
    if is_ok (label_row Q n (length sh.kept) line.label)
    && is_ok (source_row Q sh.cr (top_of sh.kept) (length sh.kept) line (source_of Q line.operand))
    then suc (faulty_argument Q (called_kind Q line.operand) [] line.arguments) else zero

abbrev pub faulty_at : Program → ℕ → Option Instr → Shape → ℕ
faulty_at Q n None sh = zero
faulty_at Q n (Some line) sh = faulty_in Q n sh line

abbrev pub faulty_by : Program → ℕ → Result Shape (TypeFault × ℕ) → ℕ
faulty_by Q n (Err f) = zero
faulty_by Q n (Ok sh) = faulty_at Q n (slice_get Q.code n) sh

-- the number of the faulty word of the n-th instruction, which is the first that has a fault; behind the last
-- instruction it is the first
abbrev pub faulty_word : Program → ℕ → ℕ
faulty_word Q n = faulty_by Q n (shape_at Q n)
