-- The walk over a text of units that private functions take, production by production of IEC 61131-3:2003, B.1.5:
-- what is read, or the first fault that is met. No public clause cites it: what `read` answers is said by Reading and
-- FirstFault.
use Rattle.std.specs.Prelude.{ℕ, List, [], ◌∷◌, ◌++◌, length, Option, Some, None, Result, Ok, Err, nat_lt, codes}
use Rattle.std.specs.Prelude.{if◌then◌else◌}
use Rattle.il_model.specs.declared.dialect.Dialect.{Dialect}
use Rattle.il_model.specs.declared.dialect.Dialect.TheVariants as dialects
use Rattle.il_reader.specs.declared.source.TheConstants.{EXTENDED_TEXT_LIMIT}
use Rattle.il_reader.specs.declared.fault.FaultAt.{FaultAt}
use Rattle.il_reader.specs.declared.fault.Fault.{Fault}
use Rattle.il_reader.specs.declared.lexeme.Sign.TheVariants as signs
use Rattle.il_reader.specs.declared.contents.Qualifier.{Qualifier}
use Rattle.il_reader.specs.Tokens.{Token, tokens_of}
use Rattle.il_reader.specs.Front.{first, others, fault_at, next_is_word}
use Rattle.il_reader.specs.Reading.{◌>>=◌, expect, keyword, many, Reading, pair, led, closed, mapped, choice}
use Rattle.il_reader.specs.Reading.{past, mark, stand}
use Rattle.il_reader.specs.Grammar.{OperandText, DeclarationText, is_line_stop, begins_program}
use Rattle.il_reader.specs.Walk.{operand_at, operation_at, qualifier_at, declared_at, end_at, together}
use Rattle.il_reader.specs.Texts.{placed, too_long}
use Rattle.il_units.specs.declared.contents.UnitKind.{UnitKind}
use Rattle.il_units.specs.declared.contents.UnitKind.TheVariants as units
use Rattle.il_units.specs.declared.contents.SectionKind.{SectionKind}
use Rattle.il_units.specs.declared.contents.SectionKind.TheVariants as sections
use Rattle.il_units.specs.Units.{SectionText, StepText, Operation, Function, LineText, UnitText}
use Rattle.il_units.specs.Spelling.{is_function, before_function, ends_others, is_label, before_constant}
use Rattle.il_units.specs.Spelling.{before_no_constant, ends_sections, ends_unit, unit_word, end_word}

-- ---- lines

unfoldable pub function_name_at : Dialect → Reading Token
function_name_at dialect ts =
    if is_function dialect (first ts) then Ok (first ts, others ts) else Err (fault_at (first ts))

unfoldable pub other_at : Reading OperandText
other_at ts = led (mark (expect signs.Comma)) operand_at ts

-- the operands behind the name of a function
unfoldable pub others_at : Reading (List OperandText)
others_at ts =
    choice is_line_stop
    (stand is_line_stop [])
    (mapped together (pair operand_at (many ends_others other_at))) ts

abbrev pub a_function : Token × List OperandText → StepText
a_function (t, xs) = Function t xs

unfoldable pub step_at : Dialect → Reading StepText
step_at dialect ts =
    choice (before_function dialect)
    (mapped a_function (pair (function_name_at dialect) others_at))
    (mapped Operation (operation_at dialect)) ts

unfoldable pub optional_step_at : Dialect → Reading (Option StepText)
optional_step_at dialect ts = choice is_line_stop (stand is_line_stop None) (mapped Some (step_at dialect)) ts

abbrev pub labelled : Token × Option StepText → LineText
labelled (t, step) = record { label = Some t; step = step }

abbrev pub unlabelled : StepText → LineText
unlabelled step = record { label = None; step = Some step }

unfoldable pub labelled_at : Dialect → Reading LineText
labelled_at dialect ts = mapped labelled
    (pair (expect signs.Name)
    (led (mark (expect signs.Colon)) (optional_step_at dialect))) ts

unfoldable pub content_at : Dialect → Reading LineText
content_at dialect ts = choice is_label (labelled_at dialect) (mapped unlabelled (step_at dialect)) ts

unfoldable pub line_at : Dialect → Reading LineText
line_at dialect ts = closed (past (content_at dialect)) (stand is_line_stop tt) ts

-- ---- sections

abbrev pub this_kind : List ℕ → SectionKind → Reading SectionKind
this_kind w kind ts = mapped (λ u. kind) (keyword w) ts

-- behind VAR the word CONSTANT may stand
unfoldable pub local_at : Reading SectionKind
local_at ts =
    choice before_constant
    (this_kind (codes "CONSTANT") sections.Constant)
    (stand before_no_constant sections.Local) ts

unfoldable pub output_kind_at : Reading SectionKind
output_kind_at ts = choice (next_is_word (codes "VAR_OUTPUT"))
    (this_kind (codes "VAR_OUTPUT") sections.Output)
    (this_kind (codes "VAR_IN_OUT") sections.InOut) ts

unfoldable pub other_kind_at : Reading SectionKind
other_kind_at ts = choice (next_is_word (codes "VAR_INPUT"))
    (this_kind (codes "VAR_INPUT") sections.Input)
    output_kind_at ts

-- the word that opens a section, and CONSTANT, where it stands behind VAR
unfoldable pub kind_at : Reading SectionKind
kind_at ts = choice (next_is_word (codes "VAR"))
    (led (keyword (codes "VAR")) (past local_at))
    other_kind_at ts

abbrev pub a_section : SectionKind × (Option Qualifier × List DeclarationText) → SectionText
a_section (kind, (qualifier, ds)) = record { kind = kind; qualifier = qualifier; declarations = ds }

unfoldable pub section_at : Dialect → Reading SectionText
section_at dialect ts = mapped a_section (pair (past kind_at) (pair (past (qualifier_at dialect)) declared_at)) ts

-- ---- units

-- the type of a function's result
unfoldable pub result_at : UnitKind → Reading (Option Token)
result_at units.Function ts =
    mapped Some (led (past (mark (expect signs.Colon))) (past (expect signs.Name))) ts
result_at kind ts = Ok (None, ts)

abbrev pub a_unit : UnitKind → Token × (Option Token × (List SectionText × List LineText)) → UnitText
a_unit kind (name, (result, (ss, ls))) =
    record { kind = kind; name = name; result = result; sections = ss; lines = ls }

-- what stands behind the word that opens a unit
unfoldable pub behind_word_at : Dialect → UnitKind → Reading UnitText
behind_word_at dialect kind ts = mapped (a_unit kind)
    (pair (expect signs.Name)
    (pair (result_at kind)
    (pair (many ends_sections (section_at dialect))
    (closed (many (ends_unit kind) (line_at dialect)) (past (keyword (end_word kind))))))) ts

abbrev pub this_unit : Dialect → UnitKind → Reading UnitText
this_unit dialect kind ts = led (keyword (unit_word kind)) (behind_word_at dialect kind) ts

unfoldable pub block_or_program_at : Dialect → Reading UnitText
block_or_program_at dialect ts = choice (next_is_word (codes "FUNCTION_BLOCK"))
    (this_unit dialect units.FunctionBlock)
    (this_unit dialect units.Program) ts

unfoldable pub solid_unit_at : Dialect → Reading UnitText
solid_unit_at dialect ts = choice (next_is_word (codes "FUNCTION"))
    (this_unit dialect units.Function)
    (block_or_program_at dialect) ts

unfoldable pub unit_at : Dialect → Reading UnitText
unit_at dialect ts = past (solid_unit_at dialect) ts

abbrev pub put_last : List UnitText × UnitText → List UnitText
put_last (above, program) = above ++ program ∷ []

-- the units up to the program, behind which nothing stands
unfoldable pub units_at : Dialect → Reading (List UnitText)
units_at dialect ts = mapped put_last
    (pair (many begins_program (unit_at dialect)) (closed (unit_at dialect) (past end_at))) ts

unfoldable pub units_of : List ℕ → Result (List UnitText) FaultAt
units_of bytes = units_at dialects.Extended (tokens_of dialects.Extended bytes) >>= λ x. Ok x.0

-- ---- a text as a whole

abbrev pub told : List ℕ → Result (List UnitText) FaultAt → Result (List UnitText) Fault
told bytes (Ok us) = Ok us
told bytes (Err f) = Err (placed bytes f)

-- a text over the limit is too long at its first byte, whatever it says
abbrev pub read_units : List ℕ → Result (List UnitText) Fault
read_units bytes = if nat_lt EXTENDED_TEXT_LIMIT (length bytes) then Err too_long else told bytes (units_of bytes)
