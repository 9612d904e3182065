-- Words, without regard to case: those of operators (IEC 61131-3:2003, table 52), and which are names (2.1.2).
use Rattle.std.specs.Prelude.{ℕ, List, [], ◌∷◌, ◌++◌, Bool, true, false, ◌&&◌, ◌==◌, nat_le, Option, Some, None}
use Rattle.std.specs.Prelude.{if◌then◌else◌, codes, ◌≡◌, not, ◌||◌, length, is_some, nat_lt, nat_eq}
use Rattle.std.specs.List.{AllByRecursion, list_all, list_any}
use Rattle.std.specs.Str.{bytes_eq}
use Rattle.il_values.specs.declared.op.Op.{Op}
use Rattle.il_values.specs.declared.op.Modifier.{Modifier}
use Rattle.il_model.specs.declared.words.Mnemonic.{Mnemonic}
use Rattle.il_values.specs.declared.op.Op.TheVariants as ops
use Rattle.il_values.specs.declared.shift.Shift.TheVariants as shifts
use Rattle.il_model.specs.declared.limits.TheConstants.{LONGEST_NAME}
use Rattle.il_model.specs.Kinds.{kind_of_name}
use Rattle.il_values.specs.Spelled.{spells}

abbrev pub plain : Modifier
plain = record { negated = false; conditional = false; opens = false }

abbrev pub letter_n : Modifier
letter_n = record { negated = true; conditional = false; opens = false }

abbrev pub letter_c : Modifier
letter_c = record { negated = false; conditional = true; opens = false }

abbrev pub letters_cn : Modifier
letters_cn = record { negated = true; conditional = true; opens = false }

-- the operator words, each with its operator and letters
abbrev pub mnemonic_table : List (List ℕ × Op × Modifier)
mnemonic_table =
    (codes "LD", ops.Ld, plain) ∷ (codes "LDN", ops.Ld, letter_n) ∷ (codes "ST", ops.St, plain)
    ∷ (codes "STN", ops.St, letter_n) ∷
    (codes "S", ops.S, plain) ∷ (codes "R", ops.R, plain) ∷ (codes "NOT", ops.Not, plain) ∷
    (codes "AND", ops.And, plain) ∷ (codes "ANDN", ops.And, letter_n) ∷ (codes "&", ops.And, plain)
    ∷ (codes "&N", ops.And, letter_n) ∷
    (codes "OR", ops.Or, plain) ∷ (codes "ORN", ops.Or, letter_n) ∷ (codes "XOR", ops.Xor, plain)
    ∷ (codes "XORN", ops.Xor, letter_n) ∷
    (codes "ADD", ops.Add, plain) ∷ (codes "SUB", ops.Sub, plain) ∷ (codes "MUL", ops.Mul, plain)
    ∷ (codes "DIV", ops.Div, plain) ∷ (codes "MOD", ops.Mod, plain) ∷
    (codes "GT", ops.Gt, plain) ∷ (codes "GE", ops.Ge, plain) ∷ (codes "EQ", ops.Eq, plain)
    ∷ (codes "NE", ops.Ne, plain) ∷ (codes "LE", ops.Le, plain) ∷ (codes "LT", ops.Lt, plain) ∷
    (codes "JMP", ops.Jmp, plain) ∷ (codes "JMPC", ops.Jmp, letter_c) ∷ (codes "JMPCN", ops.Jmp, letters_cn) ∷
    (codes "CAL", ops.Cal, plain) ∷ (codes "CALC", ops.Cal, letter_c) ∷ (codes "CALCN", ops.Cal, letters_cn) ∷
    (codes "RET", ops.Ret, plain) ∷ (codes "RETC", ops.Ret, letter_c) ∷ (codes "RETCN", ops.Ret, letters_cn) ∷
    (codes "INT_TO_DINT", ops.IntToDint, plain) ∷ (codes "DINT_TO_INT", ops.DintToInt, plain) ∷
    (codes "DINT_TO_LINT", ops.DintToLint, plain) ∷ (codes "LINT_TO_DINT", ops.LintToDint, plain) ∷ []

-- the operators that extended texts have besides
abbrev pub extended_mnemonic_table : List (List ℕ × Op × Modifier)
extended_mnemonic_table = (codes "MIN", ops.Min, plain) ∷ (codes "MAX", ops.Max, plain) ∷
    (codes "SHL", ops.Shift shifts.Left, plain) ∷ (codes "SHR", ops.Shift shifts.Right, plain) ∷
    (codes "ROL", ops.Shift shifts.RotateLeft, plain) ∷ (codes "ROR", ops.Shift shifts.RotateRight, plain) ∷ []

-- the first entry that is spelled so
unfoldable pub look : List (List ℕ × Op × Modifier) → List ℕ → Option Mnemonic
look [] w = None
look (e ∷ es) w = if spells e.0 w then Some (record { op = e.1; modifier = e.2 }) else look es w

unfoldable pub mnemonic_of : List ℕ → Option Mnemonic
mnemonic_of w = look mnemonic_table w

unfoldable pub extended_mnemonic_of : List ℕ → Option Mnemonic
extended_mnemonic_of name = look extended_mnemonic_table name

-- ---- names

abbrev pub same_name : List ℕ → List ℕ → Bool
same_name a b = bytes_eq a b

-- none of them stands again behind
abbrev pub AreDistinct : {X : Type 0} → List X → Type 0
AreDistinct [] = Unit {0}
AreDistinct (x ∷ xs) = AllByRecursion (λ y. x ≡ y → ⊥) xs × AreDistinct xs

-- a capital letter or an underscore
abbrev pub is_first_byte : ℕ → Bool
is_first_byte b = (nat_le 65 b && nat_le b 90) || nat_eq b 95

-- those, and digits
abbrev pub is_name_byte : ℕ → Bool
is_name_byte b = is_first_byte b || (nat_le 48 b && nat_le b 57)

abbrev pub begins_name : List ℕ → Bool
begins_name [] = false
begins_name (b ∷ bs) = is_first_byte b

abbrev pub begins_with : ℕ → List ℕ → Bool
begins_with b [] = false
begins_with b (c ∷ cs) = nat_eq c b

-- no two underscores side by side, and none at the end
unfoldable pub is_well_spelled : List ℕ → Bool
is_well_spelled [] = true
is_well_spelled (b ∷ bs) = (if nat_eq b 95 then (if begins_with 95 bs then false else nat_lt 0 (length bs)) else true)
    && is_well_spelled bs

-- the words of types and keywords
abbrev pub reserved_words : List (List ℕ)
reserved_words =
    codes "BOOL" ∷ codes "INT" ∷ codes "DINT" ∷ codes "TIME" ∷
    codes "PROGRAM" ∷ codes "END_PROGRAM" ∷ codes "VAR" ∷ codes "END_VAR" ∷ codes "AT" ∷ codes "TRUE"
    ∷ codes "FALSE" ∷ []

-- the conversions of LINT, which came later: programs may use the words as names
abbrev pub unreserved_words : List (List ℕ)
unreserved_words = codes "DINT_TO_LINT" ∷ codes "LINT_TO_DINT" ∷ []

abbrev pub is_reserved_operator : List ℕ → Bool
is_reserved_operator name = is_some (mnemonic_of name) && not (list_any (λ word. bytes_eq word name) unreserved_words)

-- those, the operators with and without their letters, and the block kinds: what no variable, instance or label may be
-- called
abbrev pub is_reserved : List ℕ → Bool
is_reserved name = is_reserved_operator name || is_some (kind_of_name name)
    || list_any (λ word. bytes_eq word name) reserved_words

-- ---- names with dots: extended texts and images of version 3 have them

abbrev pub dot : ℕ
dot = 46

abbrev pub is_dot : ℕ → Bool
is_dot b = b == dot

abbrev pub has_dot : List ℕ → Bool
has_dot name = list_any is_dot name

-- a name under another: that one, a dot, and its own
abbrev pub under : List ℕ → List ℕ → List ℕ
under front name = front ++ dot ∷ name

-- a byte before the first part of some
abbrev pub onto_first : ℕ → List (List ℕ) → List (List ℕ)
onto_first b [] = (b ∷ []) ∷ []
onto_first b (part ∷ parts) = (b ∷ part) ∷ parts

-- what stands between the dots of a name: itself, where it has none
unfoldable pub name_parts : List ℕ → List (List ℕ)
name_parts [] = [] ∷ []
name_parts (b ∷ bs) = if is_dot b then [] ∷ name_parts bs else onto_first b (name_parts bs)

-- the parts of a name by its first and what stands behind the dot
abbrev pub parts_with : List ℕ → Option (List ℕ) → List (List ℕ)
parts_with part None = part ∷ []
parts_with part (Some rest) = part ∷ name_parts rest

-- the name stands under this one
unfoldable pub stands_under : List ℕ → List ℕ → Bool
stands_under [] name = begins_with dot name
stands_under (c ∷ cs) [] = false
stands_under (c ∷ cs) (b ∷ bs) = b == c && stands_under cs bs

-- a byte in front of what stands before the last dot; or the bytes before the dot that it is
abbrev pub before_last : ℕ → List ℕ → Option (List ℕ × List ℕ) → Option (List ℕ × List ℕ)
before_last b bs (Some (front, last)) = Some (b ∷ front, last)
before_last b bs None = if is_dot b then Some ([], bs) else None

-- what stands before the last dot of a name, and behind it
unfoldable pub split_last : List ℕ → Option (List ℕ × List ℕ)
split_last [] = None
split_last (b ∷ bs) = before_last b bs (split_last bs)

-- a word in capital letters that is spelled as a name is, be it reserved or not
abbrev pub is_part : List ℕ → Bool
is_part part =
    begins_name part && list_all is_name_byte part && is_well_spelled part && nat_le (length part) LONGEST_NAME

-- what a variable, an instance or a label may be called: a word that isn't reserved, or some words with dots between
abbrev pub is_lawful_name : List ℕ → Bool
is_lawful_name name = if has_dot name then list_all is_part (name_parts name) else is_part name && not (is_reserved name)
