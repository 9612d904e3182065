-- What the tokens of a text of units are, by what it says: the productions of IEC 61131-3:2003, B.1.5, over those of
-- `il_reader`.
use Rattle.std.specs.Prelude.{◌≡◌, ℕ, List, [], ◌∷◌, ◌++◌, Option, Some, None, Bool, false, not, ◌&&◌, ◌||◌, is_none}
use Rattle.std.specs.Prelude.{codes, ◌≤◌, length}
use Rattle.std.specs.List.{flat_map}
use Rattle.il_model.specs.declared.dialect.Dialect.{Dialect}
use Rattle.il_model.specs.declared.dialect.Dialect.TheVariants as dialects
use Rattle.il_model.specs.Dialects.{operator_in}
use Rattle.il_reader.specs.declared.lexeme.Sign.TheVariants as signs
use Rattle.il_reader.specs.declared.source.TheConstants.{EXTENDED_TEXT_LIMIT}
use Rattle.il_reader.specs.Tokens.{Token, tokens_of}
use Rattle.il_reader.specs.Front.{first, others, is_sign, next_is, next_is_word, at_end, skip_breaks}
use Rattle.il_reader.specs.Grammar.{OperandText, is_line_stop, ends_block, begins_program}
use Rattle.il_reader.specs.Spelling.{Part, breaks, one, this, ahead, Spell, name, sign, word, listed, spelled_operand}
use Rattle.il_reader.specs.Spelling.{spelled_operation, spelled_declaration, spelled_qualifier}
use Rattle.il_units.specs.declared.contents.UnitKind.{UnitKind}
use Rattle.il_units.specs.declared.contents.UnitKind.TheVariants as units
use Rattle.il_units.specs.declared.contents.SectionKind.{SectionKind}
use Rattle.il_units.specs.declared.contents.SectionKind.TheVariants as sections
use Rattle.il_units.specs.Units.{SectionText, StepText, Operation, Function, LineText, UnitText}

-- ---- which texts are of units

-- FUNCTION or FUNCTION_BLOCK and a name, which begins no other text
abbrev pub begins_units : List Token → Bool
begins_units ts =
    (next_is_word (codes "FUNCTION") ts || next_is_word (codes "FUNCTION_BLOCK") ts) && next_is signs.Name (others ts)

abbrev pub has_units : List ℕ → Bool
has_units bytes = begins_units (skip_breaks (tokens_of dialects.Plain bytes))

-- ---- lines

-- a word that is no operator is a function's name
abbrev pub is_function : Dialect → Token → Bool
is_function dialect t = is_sign signs.Name t && is_none (operator_in dialect t.text)

abbrev pub before_function : Dialect → List Token → Bool
before_function dialect ts = is_function dialect (first ts)

abbrev pub before_no_function : Dialect → List Token → Bool
before_no_function dialect ts = not (before_function dialect ts)

abbrev pub spelled_other : OperandText → List Part
spelled_other x = sign signs.Comma ∷ spelled_operand x

unfoldable pub ends_others : List Token → Bool
ends_others ts = not (next_is signs.Comma ts)

-- the operands behind a function's name
abbrev pub spelled_others : List OperandText → List Part
spelled_others [] = ahead is_line_stop ∷ []
spelled_others (x ∷ xs) = spelled_operand x ++ (flat_map spelled_other xs ++ ahead ends_others ∷ [])

abbrev pub spelled_step : Dialect → StepText → List Part
spelled_step dialect (Operation o) = ahead (before_no_function dialect) ∷ spelled_operation dialect o
spelled_step dialect (Function t xs) = this (is_function dialect) t ∷ spelled_others xs

abbrev pub spelled_optional_step : Dialect → Option StepText → List Part
spelled_optional_step dialect None = ahead is_line_stop ∷ []
spelled_optional_step dialect (Some step) = spelled_step dialect step

-- a word before a colon
abbrev pub is_label : List Token → Bool
is_label ts = next_is signs.Name ts && next_is signs.Colon (others ts)

abbrev pub is_no_label : List Token → Bool
is_no_label ts = not (is_label ts)

abbrev pub spelled_content : Dialect → Option Token → Option StepText → List Part
spelled_content dialect (Some t) step = name t ∷ sign signs.Colon ∷ spelled_optional_step dialect step
spelled_content dialect None (Some step) = ahead is_no_label ∷ spelled_step dialect step
-- no line has neither
spelled_content dialect None None = one (λ t. false) ∷ []

abbrev pub spelled_line : Dialect → LineText → List Part
spelled_line dialect l = breaks ∷ (spelled_content dialect l.label l.step ++ ahead is_line_stop ∷ [])

-- ---- sections

abbrev pub before_constant : List Token → Bool
before_constant ts = next_is_word (codes "CONSTANT") ts

abbrev pub before_no_constant : List Token → Bool
before_no_constant ts = not (before_constant ts)

-- the word that opens a section, and CONSTANT, where it stands behind VAR
abbrev pub spelled_kind : SectionKind → List Part
spelled_kind sections.Local = word (codes "VAR") ∷ breaks ∷ ahead before_no_constant ∷ []
spelled_kind sections.Constant = word (codes "VAR") ∷ breaks ∷ word (codes "CONSTANT") ∷ []
spelled_kind sections.Input = word (codes "VAR_INPUT") ∷ []
spelled_kind sections.Output = word (codes "VAR_OUTPUT") ∷ []
spelled_kind sections.InOut = word (codes "VAR_IN_OUT") ∷ []

abbrev pub begins_section : List Token → Bool
begins_section ts = next_is_word (codes "VAR") ts || next_is_word (codes "VAR_INPUT") ts
    || next_is_word (codes "VAR_OUTPUT") ts || next_is_word (codes "VAR_IN_OUT") ts

unfoldable pub ends_sections : List Token → Bool
ends_sections ts = not (begins_section (skip_breaks ts))

abbrev pub spelled_section : Dialect → SectionText → List Part
spelled_section dialect s = breaks ∷ (spelled_kind s.kind
    ++ breaks ∷ (spelled_qualifier dialect s.qualifier
    ++ (listed ends_block spelled_declaration s.declarations ++ breaks ∷ word (codes "END_VAR") ∷ [])))

-- ---- units

abbrev pub unit_word : UnitKind → List ℕ
unit_word units.Function = codes "FUNCTION"
unit_word units.FunctionBlock = codes "FUNCTION_BLOCK"
unit_word units.Program = codes "PROGRAM"

abbrev pub end_word : UnitKind → List ℕ
end_word units.Function = codes "END_FUNCTION"
end_word units.FunctionBlock = codes "END_FUNCTION_BLOCK"
end_word units.Program = codes "END_PROGRAM"

unfoldable pub ends_unit : UnitKind → List Token → Bool
ends_unit kind ts = next_is_word (end_word kind) (skip_breaks ts)

-- only a function has a result
abbrev pub spelled_result : UnitKind → Option Token → List Part
spelled_result units.Function (Some t) = breaks ∷ sign signs.Colon ∷ breaks ∷ name t ∷ []
spelled_result units.FunctionBlock None = []
spelled_result units.Program None = []
spelled_result kind result = ahead (λ ts. false) ∷ []

-- what stands behind the word that opens a unit
abbrev pub spelled_behind_word : Dialect → UnitText → List Part
spelled_behind_word dialect u = name u.name ∷ (spelled_result u.kind u.result
    ++ (listed ends_sections (spelled_section dialect) u.sections
    ++ (listed (ends_unit u.kind) (spelled_line dialect) u.lines ++ breaks ∷ word (end_word u.kind) ∷ [])))

-- function_declaration, function_block_declaration and program_declaration (B.1.5.1 to B.1.5.3)
abbrev pub spelled_unit : Dialect → UnitText → List Part
spelled_unit dialect u = breaks ∷ word (unit_word u.kind) ∷ spelled_behind_word dialect u

-- units up to the word PROGRAM, then the program, and nothing behind it
abbrev pub spelled_units : Dialect → List UnitText → UnitText → List Part
spelled_units dialect above program = listed begins_program (spelled_unit dialect) above
    ++ (spelled_unit dialect program ++ breaks ∷ ahead at_end ∷ [])

-- the text says these units, from its first token to its last, which are the program's
pub record SaysUnits (text : List ℕ) (us : List UnitText) : Type 0 where
  pub short : length text ≤ EXTENDED_TEXT_LIMIT
  pub above : List UnitText
  pub program : UnitText
  pub all : us ≡ above ++ program ∷ []
  pub rest : List Token
  pub spelled : Spell (spelled_units dialects.Extended above program) (tokens_of dialects.Extended text) rest
