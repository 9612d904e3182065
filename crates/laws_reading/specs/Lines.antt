-- What the words of a line say, read as tokens of an extended text, and what is read of a text apart from its places.
use Rattle.std.specs.Prelude.{List, [], ◌∷◌, ◌++◌, map, Option, Some, None, option_map, codes, if◌then◌else◌}
use Rattle.il_model.specs.declared.dialect.Dialect.TheVariants as dialects
use Rattle.il_model.specs.declared.program.Side.{Side}
use Rattle.il_model.specs.declared.program.Side.TheVariants as sides
use Rattle.il_reader.specs.declared.lexeme.Sign.TheVariants as signs
use Rattle.il_reader.specs.declared.contents.Operator.{Operator}
use Rattle.il_reader.specs.declared.operations.Form.{Form}
use Rattle.il_reader.specs.declared.operations.Form.TheVariants as forms
use Rattle.il_reader.specs.Tokens.{Token, tokens_of}
use Rattle.il_reader.specs.Front.{first, is_sign}
use Rattle.il_reader.specs.Grammar.{OperandText, Constant, Direct, Named, Field, ArgumentText, CallText, BehindText}
use Rattle.il_reader.specs.Grammar.{Nothing, Given, Target, Opened, Called, OperationText, LineText, Labelled, Plain}
use Rattle.il_reader.specs.Grammar.{is_variable, form_of, operator_of}
use Rattle.il_units.specs.declared.word.Word.{Word}
use Rattle.il_units.specs.declared.word.Line.{Line}

-- ---- apart from places

abbrev pub unplaced : Token → Token
unplaced t = record { class = t.class; text = t.text; left = 0 }

abbrev pub unplaced_operand : OperandText → OperandText
unplaced_operand (Constant t) = Constant (unplaced t)
unplaced_operand (Direct t) = Direct (unplaced t)
unplaced_operand (Named t) = Named (unplaced t)
unplaced_operand (Field t f) = Field (unplaced t) (unplaced f)

abbrev pub unplaced_argument : ArgumentText → ArgumentText
unplaced_argument a =
    record { field = unplaced a.field; side = a.side; operand = unplaced_operand a.operand }

abbrev pub unplaced_call : CallText → CallText
unplaced_call c =
    record { instance = unplaced c.instance; written = option_map (map unplaced_argument) c.written }

abbrev pub unplaced_behind : BehindText → BehindText
unplaced_behind Nothing = Nothing
unplaced_behind (Given x) = Given (unplaced_operand x)
unplaced_behind (Target t) = Target (unplaced t)
unplaced_behind (Opened o) = Opened (option_map unplaced_operand o)
unplaced_behind (Called c) = Called (unplaced_call c)

abbrev pub unplaced_operator : Operator → Operator
unplaced_operator o = record { mnemonic = o.mnemonic; left = 0 }

abbrev pub unplaced_operation : OperationText → OperationText
unplaced_operation o = record { operator = unplaced_operator o.operator; behind = unplaced_behind o.behind }

abbrev pub unplaced_line : LineText → LineText
unplaced_line (Labelled t o) = Labelled (unplaced t) (option_map unplaced_operation o)
unplaced_line (Plain o) = Plain (unplaced_operation o)

-- ---- the tokens of words

-- the first token of a text that begins with the word and a blank
abbrev pub word_token : Word → Token
word_token w =
    record { class = (first (tokens_of dialects.Extended (w.text ++ codes " "))).class; text = w.text; left = 0 }

-- TRUE and FALSE are constants, and so are all literals
abbrev pub operand_of : Token → OperandText
operand_of t = if is_sign signs.Address t then Direct t else if is_variable t then Named t else Constant t

abbrev pub side_of : Token → Side
side_of t = if is_sign signs.Arrow t then sides.Output else sides.Input

-- each argument has a field, a side, an operand, and a comma or the right parenthesis
abbrev pub arguments_in : List Token → List ArgumentText
arguments_in (field ∷ side ∷ x ∷ end ∷ more) =
    record { field = field; side = side_of side; operand = operand_of x } ∷ arguments_in more
arguments_in ts = []

-- what stands behind an operator of some form
abbrev pub behind_of : Form → List Token → Option BehindText
behind_of forms.Operand (x ∷ []) = Some (Given (operand_of x))
behind_of forms.Nothing [] = Some Nothing
behind_of forms.Label (x ∷ []) = Some (Target x)
behind_of forms.Call (x ∷ []) = Some (Called (record { instance = x; written = None }))
behind_of forms.Call (x ∷ opening ∷ ts) =
    Some (Called (record { instance = x; written = Some (arguments_in ts) }))
behind_of forms.Either (x ∷ []) =
    Some (if is_sign signs.Open x then Opened None else Given (operand_of x))
behind_of forms.Either (opening ∷ x ∷ []) = Some (Opened (Some (operand_of x)))
behind_of form ts = None

-- ---- lines

abbrev pub operation_with : List Token → Operator → Option OperationText
operation_with ts o =
    option_map (λ b. record { operator = o; behind = b }) (behind_of (form_of o.mnemonic.op) ts)

abbrev pub operation_by : List Token → Option Operator → Option OperationText
operation_by ts None = None
operation_by ts (Some o) = operation_with ts o

-- an operator, and what stands behind it
abbrev pub operation_of : List Token → Option OperationText
operation_of [] = None
operation_of (t ∷ ts) = operation_by ts (operator_of dialects.Extended t)

abbrev pub line_of : Option Token → List Token → Option LineText
line_of None ts = option_map Plain (operation_of ts)
line_of (Some label) [] = Some (Labelled label None)
line_of (Some label) (t ∷ ts) = option_map (λ o. Labelled label (Some o)) (operation_of (t ∷ ts))

-- what a line of an expansion says, where its words say something
abbrev pub line_said : Line → Option LineText
line_said l = line_of (option_map word_token l.label) (map word_token l.words)
