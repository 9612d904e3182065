-- What the words of a line are as an instruction, beside what a text declares.
use Rattle.std.specs.Prelude.{List, [], ◌∷◌, map, Option, Some, None, option_map, option_and_then}
use Rattle.il_values.specs.declared.value.Ty.{Ty}
use Rattle.il_model.specs.declared.dialect.Dialect.TheVariants as dialects
use Rattle.il_model.specs.declared.program.Argument.{Argument}
use Rattle.il_model.specs.declared.program.Instr.{Instr}
use Rattle.il_model.specs.Settled.{settled_line}
use Rattle.il_reader.specs.Grammar.{ArgumentText, OperationText}
use Rattle.il_declarations.specs.Resolution.{capitals, opens, with_opening}
use Rattle.il_declarations.specs.Declaring.{DeclaredName, operand_in, operand_behind, arguments_behind}
use Rattle.il_units.specs.declared.word.Word.{Word}
use Rattle.laws_reading.specs.Lines.{word_token, operation_of}

abbrev pub argument_of : List DeclaredName → ArgumentText → Option Argument
argument_of names a = option_map (λ x. record { field = capitals a.field.text; side = a.side; operand = x })
    (operand_in dialects.Extended names a.operand)

-- in the order written, where each names what is there
abbrev pub arguments_as : List DeclaredName → List ArgumentText → Option (List Argument)
arguments_as names [] = Some []
arguments_as names (a ∷ more) =
    option_and_then (λ x. option_map (λ xs. x ∷ xs) (arguments_as names more)) (argument_of names a)

-- the instruction of an operation, without a label
abbrev pub instruction_of : List DeclaredName → OperationText → Option Instr
instruction_of names o = option_and_then
    (λ x. option_map (λ args. record {
      label = None;
      op = o.operator.mnemonic.op;
      modifier = with_opening (opens o.behind) o.operator.mnemonic.modifier;
      operand = x;
      arguments = args;
    }) (arguments_as names (arguments_behind o.behind)))
    (operand_behind dialects.Extended names o.behind)

-- the instruction that words are: their names as they are declared, and a bare number of the type that its place asks
-- for, which may be that of the current result
abbrev pub read_by : List DeclaredName → Option Ty → List Word → Option Instr
read_by names cr ws =
    option_map (settled_line cr) (option_and_then (instruction_of names) (operation_of (map word_token ws)))
