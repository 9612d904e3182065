-- The numbers that stand for operators in images.
use Rattle.std.specs.Prelude.{ℕ, ◌-◌, List, [], ◌∷◌, slice_get, Option, Some, nat_lt, nat_eq, if◌then◌else◌}
use Rattle.std.specs.Option.{option_map}
use Rattle.il_values.specs.declared.op.Op.{Op}
use Rattle.il_values.specs.declared.op.Op.TheVariants as ops
use Rattle.il_values.specs.Functions.{function_list, function_code}
use Rattle.il_values.specs.BitStrings.{shift_list, shift_code}

abbrev pub op_code : Op → ℕ
op_code ops.Empty = 0
op_code ops.Ld = 1
op_code ops.St = 2
op_code ops.S = 3
op_code ops.R = 4
op_code ops.And = 5
op_code ops.Or = 6
op_code ops.Xor = 7
op_code ops.Not = 8
op_code ops.Add = 9
op_code ops.Sub = 10
op_code ops.Mul = 11
op_code ops.Div = 12
op_code ops.Mod = 13
op_code ops.Gt = 14
op_code ops.Ge = 15
op_code ops.Eq = 16
op_code ops.Ne = 17
op_code ops.Le = 18
op_code ops.Lt = 19
op_code ops.Jmp = 20
op_code ops.Cal = 21
op_code ops.Ret = 22
op_code ops.Close = 23
op_code ops.IntToDint = 24
op_code ops.DintToInt = 25
op_code ops.DintToLint = 28
op_code ops.LintToDint = 29
op_code ops.Min = 30
op_code ops.Max = 31
op_code (ops.Shift s) = shift_code s
op_code (ops.Apply f) = function_code f

-- the operators in the order of their codes; 26 and 27 are the codes of arguments, functions have those from 32, and
-- shifts those from 64
abbrev pub op_list : List Op
op_list =
    ops.Empty ∷ ops.Ld ∷ ops.St ∷ ops.S ∷ ops.R ∷ ops.And ∷ ops.Or ∷ ops.Xor ∷ ops.Not ∷
    ops.Add ∷ ops.Sub ∷ ops.Mul ∷ ops.Div ∷ ops.Mod ∷ ops.Gt ∷ ops.Ge ∷ ops.Eq ∷ ops.Ne ∷ ops.Le ∷ ops.Lt ∷
    ops.Jmp ∷ ops.Cal ∷ ops.Ret ∷ ops.Close ∷ ops.IntToDint ∷ ops.DintToInt ∷ []

abbrev pub low_op_of : ℕ → Option Op
low_op_of n = if nat_eq n 28 then Some ops.DintToLint
    else (if nat_eq n 29 then Some ops.LintToDint
    else (if nat_eq n 30 then Some ops.Min else (if nat_eq n 31 then Some ops.Max else slice_get op_list n)))

-- the operator of a code
abbrev pub op_of : ℕ → Option Op
op_of n = if nat_lt n 32 then low_op_of n
    else (if nat_lt n 64 then option_map ops.Apply (slice_get function_list (n - 32))
    else option_map ops.Shift (slice_get shift_list (n - 64)))
