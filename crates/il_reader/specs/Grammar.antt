-- What a text says, and how the tokens in it are told apart, by IEC 61131-3:2003, Annex B.
use Rattle.std.specs.Prelude.{ℕ, List, [], map, Option, Some, None, is_none, option_map, Bool, true, false, not, ◌||◌}
use Rattle.std.specs.Prelude.{◌&&◌, if◌then◌else◌, codes}
use Rattle.il_model.specs.declared.dialect.Dialect.{Dialect}
use Rattle.il_model.specs.declared.dialect.Dialect.TheVariants as dialects
use Rattle.il_values.specs.declared.op.Op.{Op}
use Rattle.il_values.specs.declared.op.Op.TheVariants as ops
use Rattle.il_model.specs.declared.words.Mnemonic.{Mnemonic}
use Rattle.il_values.specs.Spelled.{spells}
use Rattle.il_model.specs.Dialects.{operator_in}
use Rattle.il_reader.specs.declared.lexeme.Sign.TheVariants as signs
use Rattle.il_reader.specs.declared.contents.Operator.{Operator}
use Rattle.il_reader.specs.declared.contents.Operand.{Operand}
use Rattle.il_reader.specs.declared.contents.Operand.TheVariants as operands
use Rattle.il_model.specs.declared.program.Side.{Side}
use Rattle.il_reader.specs.declared.contents.Argument.{Argument}
use Rattle.il_reader.specs.declared.contents.Call.{Call}
use Rattle.il_reader.specs.declared.contents.Behind.{Behind}
use Rattle.il_reader.specs.declared.contents.Behind.TheVariants as behinds
use Rattle.il_reader.specs.declared.contents.Operation.{Operation}
use Rattle.il_reader.specs.declared.contents.Line.{Line}
use Rattle.il_reader.specs.declared.contents.Line.TheVariants as lines
use Rattle.il_reader.specs.declared.operations.Form.{Form}
use Rattle.il_reader.specs.declared.operations.Form.TheVariants as forms
use Rattle.il_reader.specs.declared.contents.Names.{Names}
use Rattle.il_reader.specs.declared.contents.Names.TheVariants as names
use Rattle.il_reader.specs.declared.contents.Declaration.{Declaration}
use Rattle.il_reader.specs.declared.contents.Qualifier.{Qualifier}
use Rattle.il_reader.specs.declared.contents.Qualifier.TheVariants as qualifiers
use Rattle.il_reader.specs.declared.contents.Block.{Block}
use Rattle.il_reader.specs.declared.contents.Contents.{Contents}
use Rattle.il_reader.specs.Tokens.{Token, token, tokens_of}
use Rattle.il_reader.specs.Front.{first, others, is_sign, is_word_token, next_is, at_end, next_is_word, skip_breaks}

-- ---- what a text says, without where it lies in memory

pub data OperandText : Type 0 where
  Constant : Token → OperandText
  Direct : Token → OperandText
  Named : Token → OperandText
  -- of an instance its field
  Field : Token → Token → OperandText

-- field := operand or field => operand
pub record ArgumentText : Type 0 where
  pub field : Token
  pub side : Side
  pub operand : OperandText

-- an instance that is called, and the arguments, where it has parentheses
pub record CallText : Type 0 where
  pub instance : Token
  pub written : Option (List ArgumentText)

-- behind an operator: nothing, an operand, the label of a jump, a parenthesis with an operand or without, or a call
pub data BehindText : Type 0 where
  Nothing : BehindText
  Given : OperandText → BehindText
  Target : Token → BehindText
  Opened : Option OperandText → BehindText
  Called : CallText → BehindText

pub record OperationText : Type 0 where
  pub operator : Operator
  pub behind : BehindText

pub data LineText : Type 0 where
  Labelled : Token → Option OperationText → LineText
  Plain : OperationText → LineText

-- where a variable lies, or the other names of the declaration
pub data NamesText : Type 0 where
  Located : Token → NamesText
  More : List Token → NamesText

pub record DeclarationText : Type 0 where
  pub name : Token
  pub names : NamesText
  pub ty : Token
  pub initial : Option Token

-- a block of declarations, and the qualifier in front of them, where there is one
pub record BlockText : Type 0 where
  pub qualifier : Option Qualifier
  pub declarations : List DeclarationText

-- a program's name, its blocks of declarations and its instruction lines
pub record ProgramText : Type 0 where
  pub name : Option Token
  pub blocks : List BlockText
  pub lines : List LineText

abbrev pub operand : Operand → OperandText
operand (operands.Constant t) = Constant (token t)
operand (operands.Direct t) = Direct (token t)
operand (operands.Named t) = Named (token t)
operand (operands.Field t f) = Field (token t) (token f)

abbrev pub argument : Argument → ArgumentText
argument a = record { field = token a.field; side = a.side; operand = operand a.operand }

abbrev pub call : Call → CallText
call c = record { instance = token c.instance; written = option_map (λ xs. map argument xs.items) c.written }

-- no parentheses are no arguments
abbrev pub written_arguments : Option (List ArgumentText) → List ArgumentText
written_arguments None = []
written_arguments (Some xs) = xs

-- what a call is given, in the order written
abbrev pub arguments_of : CallText → List ArgumentText
arguments_of c = written_arguments c.written

abbrev pub behind : Behind → BehindText
behind behinds.Nothing = Nothing
behind (behinds.Given x) = Given (operand x)
behind (behinds.Target t) = Target (token t)
behind (behinds.Opened o) = Opened (option_map operand o)
behind (behinds.Called c) = Called (call c)

abbrev pub operation : Operation → OperationText
operation o = record { operator = o.operator; behind = behind o.behind }

abbrev pub line : Line → LineText
line (lines.Labelled t o) = Labelled (token t) (option_map operation o)
line (lines.Plain o) = Plain (operation o)

abbrev pub names_of : Names → NamesText
names_of (names.Located t) = Located (token t)
names_of (names.More ts) = More (map token ts.items)

abbrev pub declaration : Declaration → DeclarationText
declaration d = record {
  name = token d.name;
  names = names_of d.names;
  ty = token d.ty;
  initial = option_map token d.initial;
}

abbrev pub declarations : List Declaration → List DeclarationText
declarations ds = map declaration ds

abbrev pub block_text : Block → BlockText
block_text b = record { qualifier = b.qualifier; declarations = declarations b.declarations.items }

abbrev pub program_text : Contents → ProgramText
program_text c = record {
  name = option_map token c.name;
  blocks = map block_text c.blocks.items;
  lines = map line c.lines.items;
}

-- ---- operators and operands

-- what may stand behind an operator
abbrev pub form_of : Op → Form
form_of ops.Ld = forms.Operand
form_of ops.St = forms.Operand
form_of ops.S = forms.Operand
form_of ops.R = forms.Operand
form_of (ops.Shift s) = forms.Operand
form_of ops.Jmp = forms.Label
form_of ops.Cal = forms.Call
form_of ops.Not = forms.Nothing
form_of ops.Ret = forms.Nothing
form_of ops.Close = forms.Nothing
form_of ops.Empty = forms.Nothing
form_of ops.IntToDint = forms.Nothing
form_of ops.DintToInt = forms.Nothing
form_of ops.DintToLint = forms.Nothing
form_of ops.LintToDint = forms.Nothing
form_of (ops.Apply f) = forms.Nothing
form_of op = forms.Either

-- the right parenthesis
abbrev pub closing : Mnemonic
closing = record { op = ops.Close; modifier = record { negated = false; conditional = false; opens = false } }

abbrev pub operator_from : ℕ → Option Mnemonic → Option Operator
operator_from left None = None
operator_from left (Some m) = Some (record { mnemonic = m; left = left })

-- the operator that a token is
unfoldable pub operator_of : Dialect → Token → Option Operator
operator_of dialect t =
    if is_sign signs.Name t || is_sign signs.Ampersand t then operator_from t.left (operator_in dialect t.text)
    else if is_sign signs.Close t then Some (record { mnemonic = closing; left = t.left })
    else None

-- TRUE and FALSE are literals where an operand may stand
abbrev pub is_truth : Token → Bool
is_truth t = spells (codes "TRUE") t.text || spells (codes "FALSE") t.text

abbrev pub is_variable : Token → Bool
is_variable t = is_sign signs.Name t && not (is_truth t)

unfoldable pub is_constant : Token → Bool
is_constant t = if is_sign signs.Name t then is_truth t else is_sign signs.Literal t

abbrev pub no_dot : List Token → Bool
no_dot ts = not (next_is signs.Dot ts)

abbrev pub before_dot : List Token → Bool
before_dot ts = next_is signs.Dot (skip_breaks ts)

abbrev pub before_no_dot : List Token → Bool
before_no_dot ts = not (before_dot ts)

-- EOL (B.2.1), which is not taken, or the end of the text
abbrev pub is_line_stop : List Token → Bool
is_line_stop ts = next_is signs.Break ts || at_end ts

-- ---- what stands next, where something may end

unfoldable pub ends_arguments : List Token → Bool
ends_arguments ts = not (next_is signs.Comma (skip_breaks ts))

abbrev pub before_close : List Token → Bool
before_close ts = next_is signs.Close (skip_breaks ts)

abbrev pub no_open : List Token → Bool
no_open ts = not (next_is signs.Open ts)

-- label (B.2.1): a word before a colon, and also one that is no operator
unfoldable pub is_label : Dialect → List Token → Bool
is_label dialect ts =
    next_is signs.Name ts && (next_is signs.Colon (others ts) || is_none (operator_in dialect (first ts).text))

abbrev pub is_no_label : Dialect → List Token → Bool
is_no_label dialect ts = not (is_label dialect ts)

unfoldable pub ends_lines : List Token → Bool
ends_lines ts = at_end (skip_breaks ts)

-- what the lines of a program with a name end by
unfoldable pub ends_named : List Token → Bool
ends_named ts = next_is_word (codes "END_PROGRAM") (skip_breaks ts)

unfoldable pub ends_names : List Token → Bool
ends_names ts = not (next_is signs.Comma (skip_breaks ts))

abbrev pub no_value : List Token → Bool
no_value ts = not (next_is signs.Assign ts)

unfoldable pub ends_block : List Token → Bool
ends_block ts = next_is_word (codes "END_VAR") (skip_breaks ts)

-- the word that opens a block of declarations
abbrev pub block_word : Dialect → List ℕ
block_word dialects.Plain = codes "VAR"
block_word dialects.Extended = codes "VAR_GLOBAL"

-- a block begins: by VAR, or in an extended text by VAR_GLOBAL, which is a label where a colon follows
abbrev pub begins_block : Dialect → List Token → Bool
begins_block dialects.Plain ts = next_is_word (codes "VAR") ts
begins_block dialects.Extended ts = next_is_word (codes "VAR_GLOBAL") ts && not (next_is signs.Colon (others ts))

-- the word of a qualifier (2.4.3); it stands right behind the word that opens a block of an extended text, and in any
-- other place it is a name
abbrev pub qualifier_word : Qualifier → List ℕ
qualifier_word qualifiers.Retain = codes "RETAIN"
qualifier_word qualifiers.NonRetain = codes "NON_RETAIN"

abbrev pub is_no_qualifier : Dialect → Token → Bool
is_no_qualifier dialects.Plain t = true
is_no_qualifier dialects.Extended t =
    not (is_word_token (qualifier_word qualifiers.Retain) t || is_word_token (qualifier_word qualifiers.NonRetain) t)

abbrev pub no_qualifier : Dialect → List Token → Bool
no_qualifier dialect ts = is_no_qualifier dialect (first ts)

abbrev pub reads_as_qualifier : Dialect → List Token → Bool
reads_as_qualifier dialect ts = not (no_qualifier dialect ts)

-- what a block declares is retained where its qualifier says so
abbrev pub says_retained : Option Qualifier → Bool
says_retained (Some qualifiers.Retain) = true
says_retained qualifier = false

abbrev pub is_retained : BlockText → Bool
is_retained b = says_retained b.qualifier

unfoldable pub ends_blocks : Dialect → List Token → Bool
ends_blocks dialect ts = not (begins_block dialect (skip_breaks ts))

unfoldable pub begins_program : List Token → Bool
begins_program ts = next_is_word (codes "PROGRAM") (skip_breaks ts)

-- ---- dialects

-- a block of an extended text stands first
unfoldable pub begins_extended : List Token → Bool
begins_extended ts = begins_block dialects.Extended (skip_breaks ts)

-- A text is extended where its first word says so. The words alone tell that, whatever the dialect makes of them.
abbrev pub dialect_of : List ℕ → Dialect
dialect_of bytes =
    if begins_extended (tokens_of dialects.Plain bytes) then dialects.Extended else dialects.Plain
