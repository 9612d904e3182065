-- The standard functions of one input (IEC 61131-3:2003, 2.5.1.5): each takes the current result and leaves another.
use Rattle.std.specs.Prelude.{ℕ, List, [], ◌∷◌, ℤ, pos, unsigned_abs, Option, Some, None, Result, Ok, Err, codes}
use Rattle.std.specs.Prelude.{if◌then◌else◌, ◌^◌, ◌%◌}
use Rattle.std.specs.Int.{w16, w32, cast_signed, cast_unsigned}
use Rattle.il_real.specs.Reals.{real_of_whole, nearest_whole, whole_part, magnitude, root}
use Rattle.il_values.specs.declared.value.Ty.{Ty}
use Rattle.il_values.specs.declared.value.Ty.TheVariants as types
use Rattle.il_values.specs.declared.value.Value.{Value}
use Rattle.il_values.specs.declared.value.Value.TheVariants as values
use Rattle.il_values.specs.declared.value.Stop.{Stop}
use Rattle.il_values.specs.declared.value.Stop.TheVariants as stops
use Rattle.il_values.specs.declared.function.Function.{Function}
use Rattle.il_values.specs.declared.function.Function.TheVariants as functions
use Rattle.il_values.specs.Operators.{in_type, real_or_overflow}
use Rattle.il_values.specs.Spelled.{spells}

-- in the order of their codes, from 32
abbrev pub function_list : List Function
function_list =
    functions.IntToReal ∷ functions.DintToReal ∷ functions.LintToReal ∷ functions.TimeToReal ∷
    functions.RealToInt ∷ functions.RealToDint ∷ functions.RealToLint ∷ functions.RealToTime ∷
    functions.Trunc ∷ functions.Abs ∷ functions.Sqrt ∷ functions.TimeToDint ∷ functions.DintToTime ∷
    functions.Move ∷ functions.WordToInt ∷ functions.IntToWord ∷ functions.DwordToDint ∷ functions.DintToDword ∷
    functions.WordToDword ∷ functions.DwordToWord ∷ []

abbrev pub function_code : Function → ℕ
function_code functions.IntToReal = 32
function_code functions.DintToReal = 33
function_code functions.LintToReal = 34
function_code functions.TimeToReal = 35
function_code functions.RealToInt = 36
function_code functions.RealToDint = 37
function_code functions.RealToLint = 38
function_code functions.RealToTime = 39
function_code functions.Trunc = 40
function_code functions.Abs = 41
function_code functions.Sqrt = 42
function_code functions.TimeToDint = 43
function_code functions.DintToTime = 44
function_code functions.Move = 45
function_code functions.WordToInt = 46
function_code functions.IntToWord = 47
function_code functions.DwordToDint = 48
function_code functions.DintToDword = 49
function_code functions.WordToDword = 50
function_code functions.DwordToWord = 51

abbrev pub function_words : List (List ℕ × Function)
function_words =
    (codes "INT_TO_REAL", functions.IntToReal) ∷ (codes "DINT_TO_REAL", functions.DintToReal) ∷
    (codes "LINT_TO_REAL", functions.LintToReal) ∷ (codes "TIME_TO_REAL", functions.TimeToReal) ∷
    (codes "REAL_TO_INT", functions.RealToInt) ∷ (codes "REAL_TO_DINT", functions.RealToDint) ∷
    (codes "REAL_TO_LINT", functions.RealToLint) ∷ (codes "REAL_TO_TIME", functions.RealToTime) ∷
    (codes "TRUNC", functions.Trunc) ∷ (codes "ABS", functions.Abs) ∷ (codes "SQRT", functions.Sqrt) ∷
    (codes "TIME_TO_DINT", functions.TimeToDint) ∷ (codes "DINT_TO_TIME", functions.DintToTime) ∷
    (codes "MOVE", functions.Move) ∷
    (codes "WORD_TO_INT", functions.WordToInt) ∷ (codes "INT_TO_WORD", functions.IntToWord) ∷
    (codes "DWORD_TO_DINT", functions.DwordToDint) ∷ (codes "DINT_TO_DWORD", functions.DintToDword) ∷
    (codes "WORD_TO_DWORD", functions.WordToDword) ∷ (codes "DWORD_TO_WORD", functions.DwordToWord) ∷ []

-- the function of the first entry that is spelled so
unfoldable pub look_function : List (List ℕ × Function) → List ℕ → Option Function
look_function [] w = None
look_function (e ∷ es) w = if spells e.0 w then Some e.1 else look_function es w

-- the function that a word names, without regard to case
unfoldable pub function_named : List ℕ → Option Function
function_named w = look_function function_words w

-- the type that a function gives for a type, where it takes that
abbrev pub function_type : Function → Ty → Option Ty
function_type functions.IntToReal types.Int = Some types.Real
function_type functions.DintToReal types.Dint = Some types.Real
function_type functions.LintToReal types.Lint = Some types.Real
function_type functions.TimeToReal types.Time = Some types.Real
function_type functions.RealToInt types.Real = Some types.Int
function_type functions.RealToDint types.Real = Some types.Dint
function_type functions.RealToLint types.Real = Some types.Lint
function_type functions.RealToTime types.Real = Some types.Time
function_type functions.Trunc types.Real = Some types.Dint
function_type functions.Abs types.Int = Some types.Int
function_type functions.Abs types.Dint = Some types.Dint
function_type functions.Abs types.Lint = Some types.Lint
function_type functions.Abs types.Real = Some types.Real
function_type functions.Sqrt types.Real = Some types.Real
function_type functions.TimeToDint types.Time = Some types.Dint
function_type functions.DintToTime types.Dint = Some types.Time
function_type functions.Move t = Some t
function_type functions.WordToInt types.Word = Some types.Int
function_type functions.IntToWord types.Int = Some types.Word
function_type functions.DwordToDint types.Dword = Some types.Dint
function_type functions.DintToDword types.Dint = Some types.Dword
function_type functions.WordToDword types.Word = Some types.Dword
function_type functions.DwordToWord types.Dword = Some types.Word
function_type f t = None

-- the value of a type with a whole number, or the stop where the type doesn't hold it
abbrev pub whole_in : Ty → Option ℤ → Result Value Stop
whole_in t (Some z) = in_type t z
whole_in t None = Err stops.Overflow

-- the row of a function: a current result to a new one or a stop
abbrev pub function_result : Function → Value → Option (Result Value Stop)
function_result functions.IntToReal (values.Int z) = Some (real_or_overflow (real_of_whole z))
function_result functions.DintToReal (values.Dint z) = Some (real_or_overflow (real_of_whole z))
function_result functions.LintToReal (values.Lint z) = Some (real_or_overflow (real_of_whole z))
function_result functions.TimeToReal (values.Time z) = Some (real_or_overflow (real_of_whole z))
function_result functions.RealToInt (values.Real r) = Some (whole_in types.Int (nearest_whole r))
function_result functions.RealToDint (values.Real r) = Some (whole_in types.Dint (nearest_whole r))
function_result functions.RealToLint (values.Real r) = Some (whole_in types.Lint (nearest_whole r))
function_result functions.RealToTime (values.Real r) = Some (whole_in types.Time (nearest_whole r))
function_result functions.Trunc (values.Real r) = Some (whole_in types.Dint (whole_part r))
function_result functions.Abs (values.Int z) = Some (in_type types.Int (pos (unsigned_abs z)))
function_result functions.Abs (values.Dint z) = Some (in_type types.Dint (pos (unsigned_abs z)))
function_result functions.Abs (values.Lint z) = Some (in_type types.Lint (pos (unsigned_abs z)))
function_result functions.Abs (values.Real r) = Some (real_or_overflow (magnitude r))
function_result functions.Sqrt (values.Real r) = Some (real_or_overflow (root r))
function_result functions.TimeToDint (values.Time z) = Some (in_type types.Dint z)
function_result functions.DintToTime (values.Dint z) = Some (in_type types.Time z)
function_result functions.Move v = Some (Ok v)
function_result functions.WordToInt (values.Word n) = Some (Ok (values.Int (cast_signed w16 n)))
function_result functions.IntToWord (values.Int z) = Some (Ok (values.Word (cast_unsigned w16 z)))
function_result functions.DwordToDint (values.Dword n) = Some (Ok (values.Dint (cast_signed w32 n)))
function_result functions.DintToDword (values.Dint z) = Some (Ok (values.Dword (cast_unsigned w32 z)))
function_result functions.WordToDword (values.Word n) = Some (Ok (values.Dword n))
function_result functions.DwordToWord (values.Dword n) = Some (Ok (values.Word (n % 2 ^ 16)))
function_result f v = None
