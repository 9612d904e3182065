-- What the listing of a program says: its tokens with their kinds, their bytes and their places, in the order of the listing.
use Rattle.std.proofs.Common.{◌≡◌, ℕ, ◌+◌, ◌≤◌, Bool, true, false, List, [], ◌∷◌, ◌++◌, length, Option, Some, None, arith}
use Rattle.std.specs.Prelude.{codes, if◌then◌else◌, nat_lt, not}
use Rattle.std.specs.List.{flat_map}
use Rattle.std.proofs.lemmas.List.{length-append}
use Rattle.std.proofs.lemmas.Bool.{ltb-false}
use Rattle.il_model.specs.declared.dialect.Dialect.{Dialect}
use Rattle.il_model.specs.declared.dialect.Dialect.TheVariants as dialects
use Rattle.il_values.specs.declared.value.Value.{Value}
use Rattle.il_values.specs.declared.value.Value.TheVariants as values
use Rattle.il_model.specs.declared.program.Loc.{Loc}
use Rattle.il_model.specs.declared.program.Variable.{Variable}
use Rattle.il_model.specs.declared.program.Instance.{Instance}
use Rattle.il_model.specs.declared.program.Operand.{Operand}
use Rattle.il_model.specs.declared.program.Operand.TheVariants as operands
use Rattle.il_model.specs.declared.program.Argument.{Argument}
use Rattle.il_model.specs.declared.program.Instr.{Instr}
use Rattle.il_model.specs.Program.{Program}
use Rattle.il_values.specs.Values.{number_of}
use Rattle.il_values.specs.Operators.{is_zero}
use Rattle.il_model.specs.Kinds.{kind_name}
use Rattle.il_model.specs.declared.limits.TheConstants.{LONGEST_DOTTED_NAME}
use Rattle.il_model.specs.Words.{under}
use Rattle.il_model.specs.Codes.{is_empty}
use Rattle.il_reader.specs.declared.lexeme.Sign.{Sign}
use Rattle.il_reader.specs.declared.lexeme.Sign.TheVariants as signs
use Rattle.il_reader.specs.declared.lexeme.Class.TheVariants as classes
use Rattle.il_reader.specs.declared.contents.Qualifier.{Qualifier}
use Rattle.il_reader.specs.declared.contents.Qualifier.TheVariants as qualifiers
use Rattle.il_reader.specs.Tokens.{Token}
use Rattle.il_reader.specs.Grammar.{OperandText, Constant, Direct, Named, Field, ArgumentText, CallText, BehindText, Nothing, Given, Target, Opened, Called, OperationText, LineText, Labelled, Plain, NamesText, Located, More, DeclarationText, BlockText, ProgramText}
use Rattle.il_lister.specs.Listing.{literal_text, location_text, type_name, at_text, initial_text, variable_text, instance_text, operand_text, side_text, next_argument_text, arguments_text, operation_text, line_text, reads_as_qualifier, turn_text, first_retained, first_name}
use Rattle.laws_listing.proofs.OperatorTexts.{mnemonic}

-- a token with the bytes behind it
abbrev pub token_at : Sign → List ℕ → List ℕ → Token
token_at sign text rest = record { class = classes.Sign sign; text = text; left = length (text ++ rest) }

-- ---- operands, each with the bytes behind it

-- TRUE and FALSE are names
abbrev pub literal_sign : Value → Sign
literal_sign (values.Bool b) = signs.Name
literal_sign v = signs.Literal

abbrev pub literal_at : Value → List ℕ → Token
literal_at v rest = token_at (literal_sign v) (literal_text v) rest

-- whether an instance, a dot and a field have more bytes than a name may have
abbrev pub is_long_field : List ℕ → List ℕ → Bool
is_long_field name field = nat_lt LONGEST_DOTTED_NAME (length name + 1 + length field)

pub under_short : (name field : List ℕ) → is_long_field name field ≡ false → length (under name field) ≤ 96
under_short name field e =
    let le = ltb-false 96 (length name + 1 + length field) e in
    omega (arith, le, length-append name (46 ∷ field))

abbrev pub dot_by : Bool → List ℕ
dot_by long = if long then codes " ." else codes "."

-- in an extended text a field is one name, if it isn't too long for that
abbrev pub written_field : Dialect → Bool → List ℕ → List ℕ → List ℕ → OperandText
written_field dialects.Extended false name field rest = Named (token_at signs.Name (under name field) rest)
written_field dialects.Extended true name field rest = Field (token_at signs.Name name (dot_by true ++ (field ++ rest))) (token_at signs.Name field rest)
written_field dialects.Plain long name field rest = Field (token_at signs.Name name (dot_by long ++ (field ++ rest))) (token_at signs.Name field rest)

abbrev pub written_operand : Dialect → Operand → List ℕ → OperandText
written_operand dialect (operands.Literal v) rest = Constant (literal_at v rest)
written_operand dialect (operands.Variable name) rest = Named (token_at signs.Name name rest)
written_operand dialect (operands.Direct loc) rest = Direct (token_at signs.Address (location_text loc) rest)
written_operand dialect (operands.Field name field) rest = written_field dialect (is_long_field name field) name field rest
written_operand dialect operand rest = Named (token_at signs.Name [] rest)

-- ---- arguments

abbrev pub written_argument : Dialect → Argument → List ℕ → ArgumentText
written_argument dialect a rest = record { field = token_at signs.Name a.field (side_text a.side ++ (operand_text a.operand ++ rest)); side = a.side; operand = written_operand dialect a.operand rest }

-- those and the ones behind them
abbrev pub written_all : Dialect → List Argument → List ℕ → List ArgumentText
written_all dialect [] rest = []
written_all dialect (a ∷ more) rest = written_argument dialect a (flat_map next_argument_text more ++ rest) ∷ written_all dialect more rest

-- between parentheses, where there are any
abbrev pub written_arguments : Dialect → List Argument → List ℕ → Option (List ArgumentText)
written_arguments dialect [] rest = None
written_arguments dialect (a ∷ more) rest = Some (written_all dialect (a ∷ more) (41 ∷ rest))

abbrev pub written_call : Dialect → List ℕ → List Argument → List ℕ → CallText
written_call dialect name arguments rest = record { instance = token_at signs.Name name (arguments_text arguments ++ rest); written = written_arguments dialect arguments rest }

-- ---- operations

abbrev pub written_value : Bool → OperandText → BehindText
written_value true x = Opened (Some x)
written_value false x = Given x

abbrev pub written_absent : Bool → BehindText
written_absent true = Opened None
written_absent false = Nothing

abbrev pub written_behind : Dialect → Bool → Operand → List Argument → List ℕ → BehindText
written_behind dialect opens operands.Absent arguments rest = written_absent opens
written_behind dialect opens (operands.Label name) arguments rest = Target (token_at signs.Name name rest)
written_behind dialect opens (operands.Instance name) arguments rest = Called (written_call dialect name arguments rest)
written_behind dialect opens operand arguments rest = written_value opens (written_operand dialect operand rest)

abbrev pub written_operation : Dialect → Instr → List ℕ → OperationText
written_operation dialect line rest = record {
  operator = record { mnemonic = mnemonic line.op line.modifier; left = length (operation_text line ++ rest) };
  behind = written_behind dialect line.modifier.opens line.operand line.arguments rest;
}

abbrev pub unless_empty : Bool → OperationText → Option OperationText
unless_empty true x = None
unless_empty false x = Some x

-- ---- lines, of which each ends before a line end

abbrev pub colon_text : Bool → List ℕ
colon_text empty = if empty then codes ":" else codes ": "

abbrev pub labelled_line : Dialect → Option (List ℕ) → Instr → List ℕ → LineText
labelled_line dialect None line rest = Plain (written_operation dialect line rest)
labelled_line dialect (Some name) line rest = Labelled (token_at signs.Name name (colon_text (is_empty line.op) ++ (operation_text line ++ rest))) (unless_empty (is_empty line.op) (written_operation dialect line rest))

abbrev pub written_line : Dialect → Instr → List ℕ → LineText
written_line dialect line rest = labelled_line dialect line.label line rest

abbrev pub written_lines : Dialect → List Instr → List LineText
written_lines dialect [] = []
written_lines dialect (line ∷ code) = written_line dialect line (10 ∷ flat_map line_text code) ∷ written_lines dialect code

-- ---- declarations

abbrev pub written_names : Option Loc → List ℕ → NamesText
written_names None rest = More []
written_names (Some loc) rest = Located (token_at signs.Address (location_text loc) rest)

abbrev pub written_initial : Value → List ℕ → Option Token
written_initial v rest = if is_zero (number_of v) then None else Some (literal_at v rest)

-- what ends a declaration
abbrev pub ending : List ℕ → List ℕ
ending rest = 59 ∷ 10 ∷ rest

abbrev pub behind_type : Variable → List ℕ → List ℕ
behind_type v rest = initial_text v.initial ++ ending rest

abbrev pub behind_names : Variable → List ℕ → List ℕ
behind_names v rest = codes " : " ++ (type_name v.ty ++ behind_type v rest)

abbrev pub written_variable : Variable → List ℕ → DeclarationText
written_variable v rest = record {
  name = token_at signs.Name v.name (at_text v.location ++ behind_names v rest);
  names = written_names v.location (behind_names v rest);
  ty = token_at signs.Name (type_name v.ty) (behind_type v rest);
  initial = written_initial v.initial (ending rest);
}

abbrev pub written_instance : Instance → List ℕ → DeclarationText
written_instance x rest = record {
  name = token_at signs.Name x.name (codes " : " ++ (kind_name x.kind ++ ending rest));
  names = More [];
  ty = token_at signs.Name (kind_name x.kind) (ending rest);
  initial = None;
}

-- ---- what is declared: the variables, and then the instances

pub data Declared : Type 0 where
  OfVariable : Variable → Declared
  OfInstance : Instance → Declared

abbrev pub retained_of : Declared → Bool
retained_of (OfVariable v) = v.retained
retained_of (OfInstance x) = x.retained

abbrev pub name_of : Declared → List ℕ
name_of (OfVariable v) = v.name
name_of (OfInstance x) = x.name

abbrev pub text_of : Declared → List ℕ
text_of (OfVariable v) = variable_text v
text_of (OfInstance x) = instance_text x

abbrev pub written_declared : Declared → List ℕ → DeclarationText
written_declared (OfVariable v) rest = written_variable v rest
written_declared (OfInstance x) rest = written_instance x rest

abbrev pub of_instances : List Instance → List Declared
of_instances [] = []
of_instances (x ∷ xs) = OfInstance x ∷ of_instances xs

abbrev pub all_declared : List Variable → List Instance → List Declared
all_declared [] xs = of_instances xs
all_declared (v ∷ vs) xs = OfVariable v ∷ all_declared vs xs

-- ---- sections: where one is retained and the one before it isn't, or the other way round, one ends and another begins

-- both are retained, or neither is
abbrev pub both_alike : Bool → Bool → Bool
both_alike true retained = retained
both_alike false retained = not retained

-- these, behind a declaration that is retained or isn't, and the bytes behind them
abbrev pub declared_text : Bool → List Declared → List ℕ → List ℕ
declared_text before [] rest = rest
declared_text before (d ∷ ds) rest = turn_text before (retained_of d) (name_of d) ++ (text_of d ++ declared_text (retained_of d) ds rest)

abbrev pub written_qualifier : Bool → List ℕ → Option Qualifier
written_qualifier true name = Some qualifiers.Retain
written_qualifier false name = if reads_as_qualifier name then Some qualifiers.NonRetain else None

-- the declarations that still stand in the open section
abbrev pub written_open : Bool → List Declared → List ℕ → List DeclarationText
written_open before [] rest = []
written_open before (d ∷ ds) rest =
    if both_alike before (retained_of d) then (written_declared d (declared_text (retained_of d) ds rest) ∷ written_open (retained_of d) ds rest) else []

-- the sections behind that
abbrev pub written_sections : Bool → List Declared → List ℕ → List BlockText
written_sections before [] rest = []
written_sections before (d ∷ ds) rest =
    if both_alike before (retained_of d) then written_sections (retained_of d) ds rest
    else (record {
      qualifier = written_qualifier (retained_of d) (name_of d);
      declarations = written_declared d (declared_text (retained_of d) ds rest) ∷ written_open (retained_of d) ds rest;
    } ∷ written_sections (retained_of d) ds rest)

-- ---- the whole

-- the keyword and the lines behind the declarations
abbrev pub end_text : Program → List ℕ
end_text Q = codes "END_VAR\n" ++ flat_map line_text Q.code

abbrev pub declared_of : Program → List Declared
declared_of Q = all_declared Q.variables Q.instances

-- whether the first section is one of what is retained
abbrev pub begins_retained : Program → Bool
begins_retained Q = first_retained Q.variables Q.instances

-- a plain text has no qualifier
abbrev pub first_qualifier : Dialect → Program → Option Qualifier
first_qualifier dialects.Plain Q = None
first_qualifier dialects.Extended Q = written_qualifier (begins_retained Q) (first_name Q.variables Q.instances)

abbrev pub first_block : Dialect → Program → BlockText
first_block dialect Q = record {
  qualifier = first_qualifier dialect Q;
  declarations = written_open (begins_retained Q) (declared_of Q) (end_text Q);
}

abbrev pub written_blocks : Dialect → Program → List BlockText
written_blocks dialect Q = first_block dialect Q ∷ written_sections (begins_retained Q) (declared_of Q) (end_text Q)

abbrev pub written : Dialect → Program → ProgramText
written dialect Q = record { name = None; blocks = written_blocks dialect Q; lines = written_lines dialect Q.code }
