-- What a text of units says: functions, function blocks and the program (IEC 61131-3:2003, B.1.5).
use Rattle.std.specs.Prelude.{ℕ, List, map, Option, option_map}
use Rattle.il_reader.specs.Tokens.{Token, token}
use Rattle.il_reader.specs.declared.contents.Qualifier.{Qualifier}
use Rattle.il_reader.specs.Grammar.{OperandText, operand, OperationText, operation, DeclarationText, declarations}
use Rattle.il_units.specs.declared.contents.UnitKind.{UnitKind}
use Rattle.il_units.specs.declared.contents.SectionKind.{SectionKind}
use Rattle.il_units.specs.declared.contents.Section.{Section}
use Rattle.il_units.specs.declared.contents.Step.{Step}
use Rattle.il_units.specs.declared.contents.Step.TheVariants as steps
use Rattle.il_units.specs.declared.contents.UnitLine.{UnitLine}
use Rattle.il_units.specs.declared.contents.Unit.{Unit as UnitRead}

-- what its variables are, the qualifier behind the word that opens it, where there is one, and the declarations
pub record SectionText : Type 0 where
  pub kind : SectionKind
  pub qualifier : Option Qualifier
  pub declarations : List DeclarationText

-- an operation; or a function of a name, whose first input is the current result, with the others
pub data StepText : Type 0 where
  Operation : OperationText → StepText
  Function : Token → List OperandText → StepText

-- a label, a step, or both
pub record LineText : Type 0 where
  pub label : Option Token
  pub step : Option StepText

-- a function has the type of its result
pub record UnitText : Type 0 where
  pub kind : UnitKind
  pub name : Token
  pub result : Option Token
  pub sections : List SectionText
  pub lines : List LineText

-- ---- what was read, without where it lies in memory

abbrev pub section_text : Section → SectionText
section_text s =
    record { kind = s.kind; qualifier = s.qualifier; declarations = declarations s.declarations.items }

abbrev pub step_text : Step → StepText
step_text (steps.Operation o) = Operation (operation o)
step_text (steps.Function t xs) = Function (token t) (map operand xs.items)

abbrev pub line_text : UnitLine → LineText
line_text l = record { label = option_map token l.label; step = option_map step_text l.step }

abbrev pub unit_text : UnitRead → UnitText
unit_text u = record {
  kind = u.kind;
  name = token u.name;
  result = option_map token u.result;
  sections = map section_text u.sections.items;
  lines = map line_text u.lines.items;
}

-- a text, and the units that it says
pub record UnitsText : Type 0 where
  pub text : List ℕ
  pub units : List UnitText
