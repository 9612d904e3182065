-- LIMIT, SEL and MUX (IEC 61131-3:2003, 2.5.1.5.4) by operators.
use Rattle.std.specs.Prelude.{ℕ, suc, ◌-◌, List, [], ◌∷◌, ◌++◌, length, Option, Some, None, option_map, option_and_then}
use Rattle.std.specs.Prelude.{false, codes, find}
use Rattle.std.specs.Fmt.{decimal}
use Rattle.std.specs.Str.{bytes_eq}
use Rattle.il_values.specs.declared.value.Ty.{Ty}
use Rattle.il_values.specs.declared.value.Ty.TheVariants as types
use Rattle.il_model.specs.declared.kind.BlockKind.{BlockKind}
use Rattle.il_model.specs.declared.literal.Literal.{Literal}
use Rattle.il_model.specs.declared.literal.Literal.TheVariants.{Typed}
use Rattle.il_model.specs.declared.dialect.Dialect.TheVariants as dialects
use Rattle.il_model.specs.Kinds.{kind_of_name, field_type}
use Rattle.il_model.specs.Typing.{loc_type, kind_field}
use Rattle.il_values.specs.Values.{ty_of}
use Rattle.il_model.specs.Words.{under, split_last}
use Rattle.il_model.specs.Dialects.{literal_in, location_in}
use Rattle.il_reader.specs.Grammar.{OperandText, Constant, Direct, Named, Field}
use Rattle.il_units.specs.declared.choices.Choice.{Choice}
use Rattle.il_units.specs.declared.choices.Choice.TheVariants as choices
use Rattle.il_units.specs.declared.word.Word.{Word}
use Rattle.il_units.specs.declared.word.Line.{Line}
use Rattle.il_units.specs.declared.word.Entry.{Entry}
use Rattle.il_units.specs.declared.members.Member.{Member}
use Rattle.il_units.specs.Words.{capitals, said, shared, mark}
use Rattle.il_units.specs.Members.{type_named, type_word, member_named, operand_word}
use Rattle.il_units.specs.Flats.{FlatUnit, Body, block_of, only_lines, no_lines}
use Rattle.il_units.specs.Calls.{with_operand, ld, st, jump, passed, back}

-- ---- the type of an operand; none of a bare number, and where it isn't known

abbrev pub literal_type : Option Literal → Option Ty
literal_type (Some (Typed v)) = Some (ty_of v)
literal_type literal = None

abbrev pub address_type : List ℕ → Option Ty
address_type text = option_and_then loc_type (location_in dialects.Extended text)

abbrev pub type_of_member : Option Member → Option Ty
type_of_member o = option_and_then (λ (m : Member). type_named m.ty.text) o

-- of a standard block's field
abbrev pub standard_type : List ℕ → Member → Option Ty
standard_type field m = option_map field_type
    (option_and_then (λ (kind : BlockKind). kind_field kind field) (kind_of_name m.ty.text))

-- of an own block's member, else of a standard block's field
abbrev pub field_type_by : Option FlatUnit → List Member → List ℕ → List ℕ → Option Ty
field_type_by (Some block) members x field = type_of_member (member_named block.members field)
field_type_by None members x field = option_and_then (standard_type field) (member_named members x)

abbrev pub type_of_field : List FlatUnit → List Member → List ℕ → List ℕ → Option Ty
type_of_field above members x field = field_type_by (block_of above members x) members x field

abbrev pub type_of_parts : List FlatUnit → List Member → Option (List ℕ × List ℕ) → Option Ty
type_of_parts above members None = None
type_of_parts above members (Some (x, field)) = type_of_field above members x field

-- of a variable, or of a field behind the last dot
abbrev pub type_of_name : List FlatUnit → List Member → List ℕ → Option Member → Option Ty
type_of_name above members name (Some m) = type_named m.ty.text
type_of_name above members name None = type_of_parts above members (split_last name)

abbrev pub type_of_operand : List FlatUnit → List Member → OperandText → Option Ty
type_of_operand above members (Constant t) = literal_type (literal_in dialects.Extended t.text)
type_of_operand above members (Direct t) = address_type t.text
type_of_operand above members (Named t) =
    type_of_name above members (capitals t.text) (member_named members (capitals t.text))
type_of_operand above members (Field t f) = type_of_field above members (capitals t.text) (capitals f.text)

abbrev pub type_or : Ty → Option Ty → Ty
type_or other None = other
type_or other (Some ty) = ty

-- the type of the first operand that has one, else INT
unfoldable pub type_of_choice : List FlatUnit → List Member → List OperandText → Ty
type_of_choice above members [] = types.Int
type_of_choice above members (x ∷ xs) =
    type_or (type_of_choice above members xs) (type_of_operand above members x)

-- ---- choices

-- what a choice leaves a value in; no unit and no instance is called LD
abbrev pub chosen : List ℕ → ℕ → Word
chosen part left = shared (under (codes "LD") part) left

abbrev pub chosen_entry : List ℕ → Ty → ℕ → Entry
chosen_entry part ty left = record {
  retained = false;
  name = chosen part left;
  words = said (codes ":") left ∷ said (type_word ty) left ∷ said (codes ";") left ∷ [];
}

-- the label of the n-th value
abbrev pub case_label : List ℕ → ℕ → List ℕ
case_label call n = under call (codes "I" ++ decimal n)

-- the n-th value, behind its label
abbrev pub case_of : List Member → List ℕ → Ty → ℕ → ℕ → OperandText → List Line
case_of members call ty left n x = mark (case_label call n) left
    ∷ (passed (type_word ty) (operand_word members x) (chosen (type_word ty) left) left
    ++ jump (codes "JMP") (back call) left ∷ [])

-- the values from the n-th on
unfoldable pub cases_from : List Member → List ℕ → Ty → ℕ → ℕ → List OperandText → List Line
cases_from members call ty left n [] = []
cases_from members call ty left n (x ∷ xs) =
    case_of members call ty left n x ++ cases_from members call ty left (suc n) xs

-- all of them, and behind them the one that was chosen
abbrev pub cases : List Member → List ℕ → Ty → List OperandText → ℕ → List Line
cases members call ty xs left = cases_from members call ty left 0 xs
    ++ mark (back call) left ∷ ld (chosen (type_word ty) left) left ∷ []

-- SEL in0, in1: with a current result that is TRUE the second
abbrev pub selected : List FlatUnit → List Member → List ℕ → List OperandText → ℕ → Body
selected above members call xs left = let ty = type_of_choice above members xs in record {
  shared = chosen_entry (type_word ty) ty left ∷ [];
  lines = jump (codes "JMPC") (case_label call 1) left ∷ cases members call ty xs left;
  depth = 0;
}

abbrev pub number_literal : ℕ → List ℕ
number_literal n = codes "INT#" ++ decimal n

-- where the number is n, to the n-th value
abbrev pub test_of : List ℕ → ℕ → ℕ → List Line
test_of call left n = ld (chosen (codes "K") left) left
    ∷ with_operand (codes "EQ") (said (number_literal n) left) left
    ∷ jump (codes "JMPC") (case_label call n) left ∷ []

unfoldable pub tests_from : List ℕ → ℕ → ℕ → List OperandText → List Line
tests_from call left n [] = []
tests_from call left n (x ∷ xs) = test_of call left n ++ tests_from call left (suc n) xs

-- MUX in0, .., in7: the one whose number the current result is, and the last where there is none
abbrev pub multiplexed : List FlatUnit → List Member → List ℕ → List OperandText → ℕ → Body
multiplexed above members call xs left = let ty = type_of_choice above members xs in record {
  shared = chosen_entry (codes "K") types.Int left ∷ chosen_entry (type_word ty) ty left ∷ [];
  lines = st (chosen (codes "K") left) left ∷ (tests_from call left 0 xs
      ++ (jump (codes "JMP") (case_label call (length xs - 1)) left ∷ cases members call ty xs left));
  depth = 0;
}

-- LIMIT in, mx: of the current result and IN the greater, of that and MX the less
abbrev pub limited : List Member → List OperandText → ℕ → Body
limited members (x ∷ y ∷ []) left = only_lines (with_operand (codes "MAX") (operand_word members x) left
    ∷ with_operand (codes "MIN") (operand_word members y) left ∷ [])
limited members xs left = no_lines

abbrev pub choice_word : Choice → List ℕ
choice_word choices.Limit = codes "LIMIT"
choice_word choices.Sel = codes "SEL"
choice_word choices.Mux = codes "MUX"

-- the choice that a word is
abbrev pub choice_named : List ℕ → Option Choice
choice_named word =
    find (λ (choice : Choice). bytes_eq (choice_word choice) word) (choices.Limit ∷ choices.Sel ∷ choices.Mux ∷ [])

abbrev pub made : Choice → List FlatUnit → List Member → List ℕ → List OperandText → ℕ → Body
made choices.Limit above members call xs left = limited members xs left
made choices.Sel above members call xs left = selected above members call xs left
made choices.Mux above members call xs left = multiplexed above members call xs left
