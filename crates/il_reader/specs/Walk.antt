-- The walk over a text that private functions take, production by production of IEC 61131-3:2003, Annex B: what is
-- read, or the first fault that is met. No public clause cites it: what `read` answers is said by Texts and FirstFault.
use Rattle.std.specs.Prelude.{ℕ, List, [], ◌∷◌, length, Option, Some, None, Result, Ok, Err, Bool, nat_lt}
use Rattle.std.specs.Prelude.{if◌then◌else◌, codes}
use Rattle.il_model.specs.declared.dialect.Dialect.{Dialect}
use Rattle.il_reader.specs.declared.fault.FaultAt.{FaultAt}
use Rattle.il_reader.specs.declared.fault.Fault.{Fault}
use Rattle.il_reader.specs.declared.lexeme.Sign.TheVariants as signs
use Rattle.il_reader.specs.declared.contents.Operator.{Operator}
use Rattle.il_reader.specs.declared.contents.Qualifier.{Qualifier}
use Rattle.il_reader.specs.declared.contents.Qualifier.TheVariants as qualifiers
use Rattle.il_model.specs.declared.program.Side.{Side}
use Rattle.il_model.specs.declared.program.Side.TheVariants as sides
use Rattle.il_reader.specs.declared.operations.Form.{Form}
use Rattle.il_reader.specs.declared.operations.Form.TheVariants as forms
use Rattle.il_reader.specs.Tokens.{Token, tokens_of}
use Rattle.il_reader.specs.Front.{first, others, fault_at, next_is, at_end, next_is_word}
use Rattle.il_reader.specs.Reading.{◌>>=◌, expect, keyword, meaning, many, Reading, pair, led, closed, mapped, choice}
use Rattle.il_reader.specs.Reading.{past, mark, stand}
use Rattle.il_reader.specs.Grammar.{dialect_of, block_word}
use Rattle.il_reader.specs.Grammar.{OperandText, ArgumentText, CallText, BehindText, OperationText, LineText, NamesText}
use Rattle.il_reader.specs.Grammar.{DeclarationText, BlockText, ProgramText, form_of, operator_of, is_variable}
use Rattle.il_reader.specs.Grammar.{is_constant, qualifier_word, no_qualifier}
use Rattle.il_reader.specs.Grammar.{no_dot, before_dot, before_no_dot, is_line_stop, ends_arguments, before_close}
use Rattle.il_reader.specs.Grammar.{no_open, is_label, ends_lines, ends_named, ends_names, no_value, ends_block}
use Rattle.il_reader.specs.Grammar.{ends_blocks, begins_program, Constant, Direct, Named, Field, Nothing, Given, Target}
use Rattle.il_reader.specs.Grammar.{Opened, Called, Labelled, Plain, Located, More}
use Rattle.il_reader.specs.Texts.{SourceText, placed, too_long, text_limit}

-- ---- operators and operands

abbrev pub next_is_variable : List Token → Bool
next_is_variable ts = is_variable (first ts)

unfoldable pub operator_at : Dialect → Reading Operator
operator_at dialect ts = meaning (operator_of dialect) ts

unfoldable pub variable_at : Reading Token
variable_at ts = if is_variable (first ts) then Ok (first ts, others ts) else Err (fault_at (first ts))

unfoldable pub constant_at : Reading Token
constant_at ts = if is_constant (first ts) then Ok (first ts, others ts) else Err (fault_at (first ts))

-- '.' field_selector of a structured_variable (B.1.4.2), where a dot stands
unfoldable pub field_at : Reading (Option Token)
field_at ts =
    choice (next_is signs.Dot)
    (mapped Some (led (mark (expect signs.Dot)) (expect signs.Name)))
    (stand no_dot None) ts

-- the same between the parentheses of a call, where line ends are white space
unfoldable pub inner_field_at : Reading (Option Token)
inner_field_at ts =
    choice before_dot
    (mapped Some (led (past (mark (expect signs.Dot))) (past (expect signs.Name))))
    (stand before_no_dot None) ts

abbrev pub named_by : Token → Option Token → OperandText
named_by t None = Named t
named_by t (Some f) = Field t f

abbrev pub named : Token × Option Token → OperandText
named (name, field) = named_by name field

-- constant (B.1.2) and direct_variable (B.1.4.1)
unfoldable pub lone_at : Reading OperandText
lone_at ts =
    choice (next_is signs.Address)
    (mapped Direct (expect signs.Address))
    (mapped Constant constant_at) ts

-- il_operand (B.2.1)
unfoldable pub operand_at : Reading OperandText
operand_at ts = choice next_is_variable (mapped named (pair variable_at field_at)) lone_at ts

-- the same between the parentheses of a call
unfoldable pub inner_operand_at : Reading OperandText
inner_operand_at ts = choice next_is_variable (mapped named (pair variable_at inner_field_at)) lone_at ts

unfoldable pub optional_operand_at : Reading (Option OperandText)
optional_operand_at ts = choice is_line_stop (stand is_line_stop None) (mapped Some operand_at) ts

-- '(' [il_operand] of an il_expression (B.2.1)
unfoldable pub nested_at : Reading (Option OperandText)
nested_at ts = led (mark (expect signs.Open)) optional_operand_at ts

-- what stands behind an il_expr_operator, which is an il_simple_operator too (B.2.2)
unfoldable pub either_at : Reading BehindText
either_at ts = choice (next_is signs.Open) (mapped Opened nested_at) (mapped Given operand_at) ts

-- ---- calls

abbrev pub an_output : Unit {0} → Side
an_output u = sides.Output

abbrev pub an_input : Unit {0} → Side
an_input u = sides.Input

-- the sign of an il_assign_out_operator or of an il_assign_operator (B.2.2)
unfoldable pub side_at : Reading Side
side_at ts =
    choice (next_is signs.Arrow)
    (mapped an_output (mark (expect signs.Arrow)))
    (mapped an_input (mark (expect signs.Assign))) ts

abbrev pub an_argument : Token × (Side × OperandText) → ArgumentText
an_argument (field, (side, operand)) = record { field = field; side = side; operand = operand }

-- il_param_assignment and il_param_out_assignment (B.2.1), of an operand alone
unfoldable pub argument_at : Reading ArgumentText
argument_at ts = mapped an_argument
    (pair (past (expect signs.Name))
    (pair (past side_at) (past inner_operand_at))) ts

-- the next of an il_param_list (B.2.1)
unfoldable pub next_argument_at : Reading ArgumentText
next_argument_at ts = led (past (mark (expect signs.Comma))) argument_at ts

abbrev pub together : {X : Type 0} → X × List X → List X
together (x, more) = x ∷ more

-- il_param_list (B.2.1), or nothing
unfoldable pub inside_at : Reading (List ArgumentText)
inside_at ts =
    choice before_close
    (stand before_close [])
    (mapped together (pair argument_at (many ends_arguments next_argument_at))) ts

unfoldable pub arguments_at : Reading (Option (List ArgumentText))
arguments_at ts =
    choice (next_is signs.Open)
    (mapped Some (led (mark (expect signs.Open)) (closed inside_at (past (mark (expect signs.Close))))))
    (stand no_open None) ts

abbrev pub a_call : Token × Option (List ArgumentText) → CallText
a_call (instance, written) = record { instance = instance; written = written }

-- fb_name and what follows it in an il_fb_call (B.2.1)
unfoldable pub call_at : Reading CallText
call_at ts = mapped a_call (pair (expect signs.Name) arguments_at) ts

-- ---- operations and lines

-- what stands behind an il_simple_operator, an il_return_operator, an il_jump_operator, an il_expr_operator and
-- an il_call_operator (B.2.2)
unfoldable pub behind_at : Form → Reading BehindText
behind_at forms.Operand ts = mapped Given operand_at ts
behind_at forms.Nothing ts = Ok (Nothing, ts)
behind_at forms.Label ts = mapped Target (expect signs.Name) ts
behind_at forms.Either ts = either_at ts
behind_at forms.Call ts = mapped Called call_at ts

-- il_simple_operation, il_expression, il_jump_operation, il_fb_call or il_return_operator (B.2.1)
unfoldable pub operation_at : Dialect → Reading OperationText
operation_at dialect ts = do
  operator ← operator_at dialect ts
  behind ← behind_at (form_of operator.0.mnemonic.op) operator.1
  Ok (record { operator = operator.0; behind = behind.0 }, behind.1)

unfoldable pub optional_operation_at : Dialect → Reading (Option OperationText)
optional_operation_at dialect ts = choice is_line_stop (stand is_line_stop None) (mapped Some (operation_at dialect)) ts

abbrev pub labelled : Token × Option OperationText → LineText
labelled (label, operation) = Labelled label operation

-- label ':' and what may follow it in an il_instruction (B.2.1)
unfoldable pub labelled_at : Dialect → Reading LineText
labelled_at dialect ts = mapped labelled
    (pair (expect signs.Name)
    (led (mark (expect signs.Colon)) (optional_operation_at dialect))) ts

unfoldable pub plain_at : Dialect → Reading LineText
plain_at dialect ts = mapped Plain (operation_at dialect) ts

unfoldable pub either_line_at : Dialect → Reading LineText
either_line_at dialect ts = choice (is_label dialect) (labelled_at dialect) (plain_at dialect) ts

-- il_instruction (B.2.1)
unfoldable pub line_at : Dialect → Reading LineText
line_at dialect ts = closed (past (either_line_at dialect)) (stand is_line_stop tt) ts

-- ---- declarations

-- the next variable_name of a var1_list (B.1.4.3)
unfoldable pub name_at : Reading Token
name_at ts = led (past (mark (expect signs.Comma))) (past (expect signs.Name)) ts

-- location of a located_var_decl, or what follows the first name of a var1_list (B.1.4.3)
unfoldable pub names_at : Reading NamesText
names_at ts =
    choice (next_is_word (codes "AT"))
    (mapped Located (led (keyword (codes "AT")) (past (expect signs.Address))))
    (mapped More (many ends_names name_at)) ts

-- ':=' constant of a simple_spec_init (B.1.3.3), where it stands
unfoldable pub initial_at : Reading (Option Token)
initial_at ts =
    choice (next_is signs.Assign)
    (mapped Some (led (mark (expect signs.Assign)) (past constant_at)))
    (stand no_value None) ts

abbrev pub declared : Token × (NamesText × (Token × Option Token)) → DeclarationText
declared (name, (names, (ty, initial))) = record { name = name; names = names; ty = ty; initial = initial }

-- var1_init_decl, fb_name_decl or located_var_decl, and the semicolon behind it (B.1.4.3)
unfoldable pub declaration_at : Reading DeclarationText
declaration_at ts = mapped declared
    (pair (past (expect signs.Name))
    (pair (past names_at)
    (led (past (mark (expect signs.Colon)))
    (pair (past (expect signs.Name))
    (closed (past initial_at) (past (mark (expect signs.Semicolon)))))))) ts

abbrev pub this_qualifier : Qualifier → Reading Qualifier
this_qualifier q ts = mapped (λ u. q) (keyword (qualifier_word q)) ts

-- the one or the other word of a qualifier
unfoldable pub either_qualifier_at : Reading Qualifier
either_qualifier_at ts = choice (next_is_word (qualifier_word qualifiers.Retain)) (this_qualifier qualifiers.Retain)
    (this_qualifier qualifiers.NonRetain) ts

-- RETAIN or NON_RETAIN, where it stands: the one or the other of var_declarations, retentive_var_declarations and
-- located_var_declarations (B.1.4.3)
unfoldable pub qualifier_at : Dialect → Reading (Option Qualifier)
qualifier_at dialect ts =
    choice (no_qualifier dialect) (stand (no_qualifier dialect) None) (mapped Some either_qualifier_at) ts

-- declarations up to END_VAR
unfoldable pub declared_at : Reading (List DeclarationText)
declared_at ts = closed (many ends_block declaration_at) (past (keyword (codes "END_VAR"))) ts

abbrev pub blocked : Option Qualifier × List DeclarationText → BlockText
blocked (qualifier, ds) = record { qualifier = qualifier; declarations = ds }

-- var_declarations, retentive_var_declarations or located_var_declarations (B.1.4.3); declarations of all three sorts
-- may stand in one block
unfoldable pub block_at : Dialect → Reading BlockText
block_at dialect ts = led (past (keyword (block_word dialect)))
    (mapped blocked (pair (past (qualifier_at dialect)) declared_at)) ts

-- ---- programs

abbrev pub named_program : Token × (List BlockText × List LineText) → ProgramText
named_program (name, (blocks, lines)) = record { name = Some name; blocks = blocks; lines = lines }

abbrev pub bare_program : List BlockText × List LineText → ProgramText
bare_program (blocks, lines) = record { name = None; blocks = blocks; lines = lines }

unfoldable pub end_at : Reading (Unit {0})
end_at ts = stand at_end tt ts

-- END_PROGRAM, and nothing behind it
unfoldable pub finish_at : Reading (Unit {0})
finish_at ts = led (past (keyword (codes "END_PROGRAM"))) (past end_at) ts

-- program_declaration (B.1.5.3)
unfoldable pub named_at : Dialect → Reading ProgramText
named_at dialect ts =
    led (past (keyword (codes "PROGRAM")))
    (mapped named_program
    (pair (expect signs.Name)
    (pair (many (ends_blocks dialect) (block_at dialect)) (closed (many ends_named (line_at dialect)) finish_at)))) ts

-- the same without the words around it: declarations and an instruction_list (B.2.1)
unfoldable pub bare_at : Dialect → Reading ProgramText
bare_at dialect ts = mapped bare_program
    (pair (many (ends_blocks dialect) (block_at dialect)) (closed (many ends_lines (line_at dialect)) (past end_at))) ts

unfoldable pub program_at : Dialect → Reading ProgramText
program_at dialect ts = choice begins_program (named_at dialect) (bare_at dialect) ts

unfoldable pub text_of : Dialect → List ℕ → Result ProgramText FaultAt
text_of dialect bytes = program_at dialect (tokens_of dialect bytes) >>= λ x. Ok x.0

-- ---- a text as a whole

abbrev pub told : List ℕ → Result ProgramText FaultAt → Result SourceText Fault
told bytes (Ok p) = Ok (record { text = bytes; says = p })
told bytes (Err f) = Err (placed bytes f)

-- a text over the limit is too long at its first byte, whatever it says
abbrev pub source_of : List ℕ → Result SourceText Fault
source_of bytes =
    if nat_lt (text_limit (dialect_of bytes)) (length bytes)
    then Err too_long
    else told bytes (text_of (dialect_of bytes) bytes)
