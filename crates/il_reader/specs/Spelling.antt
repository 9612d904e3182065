-- What the tokens of a text are, by what it says: the productions of IEC 61131-3:2003, Annex B, each named beside its
-- parts.
use Rattle.std.specs.Prelude.{◌≡◌, List, [], ◌∷◌, ◌++◌, not, Bool, true, false, Option, Some, None, ℕ, codes}
use Rattle.std.specs.Prelude.{if◌then◌else◌}
use Rattle.std.specs.List.{flat_map}
use Rattle.il_model.specs.declared.dialect.Dialect.{Dialect}
use Rattle.il_reader.specs.declared.contents.Operator.{Operator}
use Rattle.il_reader.specs.declared.contents.Qualifier.{Qualifier}
use Rattle.il_model.specs.declared.program.Side.{Side}
use Rattle.il_model.specs.declared.program.Side.TheVariants as sides
use Rattle.il_reader.specs.declared.operations.Form.{Form}
use Rattle.il_reader.specs.declared.operations.Form.TheVariants as forms
use Rattle.il_reader.specs.declared.lexeme.Sign.{Sign}
use Rattle.il_reader.specs.declared.lexeme.Sign.TheVariants as signs
use Rattle.il_reader.specs.Tokens.{Token, tokens_of}
use Rattle.il_reader.specs.Front.{skip_breaks, is_sign, is_word_token, next_is_word, at_end}
use Rattle.il_reader.specs.Grammar.{block_word}
use Rattle.il_reader.specs.Grammar.{OperandText, Constant, Direct, Named, Field, ArgumentText, CallText, no_dot}
use Rattle.il_reader.specs.Grammar.{before_no_dot, before_close, ends_arguments, no_open, BehindText, Nothing, Given}
use Rattle.il_reader.specs.Grammar.{Target, Opened, Called, OperationText, LineText, Labelled, Plain, NamesText}
use Rattle.il_reader.specs.Grammar.{Located, More, DeclarationText, BlockText, ProgramText, is_constant, is_variable}
use Rattle.il_reader.specs.Grammar.{form_of, qualifier_word, reads_as_qualifier, no_qualifier}
use Rattle.il_reader.specs.Grammar.{operator_of, is_line_stop, is_no_label, no_value, ends_names, ends_block}
use Rattle.il_reader.specs.Grammar.{ends_blocks, ends_lines, ends_named, begins_program}

-- what stands next: any number of line ends, a token of this sort, this token, a token that is this operator, or
-- nothing where this comes next
pub data Part : Type 0 where
  breaks : Part
  one : (Token → Bool) → Part
  this : (Token → Bool) → Token → Part
  operator : (Token → Option Operator) → Operator → Part
  ahead : (List Token → Bool) → Part

-- the tokens begin with these parts, and the rest follows
abbrev pub Spell : List Part → List Token → List Token → Type 0
Spell [] ts rest = ts ≡ rest
Spell (breaks ∷ ps) ts rest = Spell ps (skip_breaks ts) rest
Spell (ahead p ∷ ps) ts rest = (p ts ≡ true) × Spell ps ts rest
Spell (one p ∷ ps) [] rest = ⊥
Spell (one p ∷ ps) (t ∷ ts) rest = (p t ≡ true) × Spell ps ts rest
Spell (this p x ∷ ps) [] rest = ⊥
Spell (this p x ∷ ps) (t ∷ ts) rest = ((p t ≡ true) × (t ≡ x)) × Spell ps ts rest
Spell (operator f x ∷ ps) [] rest = ⊥
Spell (operator f x ∷ ps) (t ∷ ts) rest = (f t ≡ Some x) × Spell ps ts rest

abbrev pub name : Token → Part
name t = this (is_sign signs.Name) t

abbrev pub address : Token → Part
address t = this (is_sign signs.Address) t

abbrev pub sign : Sign → Part
sign s = one (is_sign s)

abbrev pub word : List ℕ → Part
word w = one (is_word_token w)

-- ---- instructions

-- constant (B.1.2), direct_variable (B.1.4.1), or a variable with a field or without (B.1.4.2): an il_operand (B.2.1)
abbrev pub spelled_operand : OperandText → List Part
spelled_operand (Constant t) = this is_constant t ∷ []
spelled_operand (Direct t) = address t ∷ []
spelled_operand (Named t) = this is_variable t ∷ ahead no_dot ∷ []
spelled_operand (Field t f) = this is_variable t ∷ sign signs.Dot ∷ name f ∷ []

-- the same between the parentheses of a call, where line ends are white space
abbrev pub spelled_inner_operand : OperandText → List Part
spelled_inner_operand (Constant t) = this is_constant t ∷ []
spelled_inner_operand (Direct t) = address t ∷ []
spelled_inner_operand (Named t) = this is_variable t ∷ ahead before_no_dot ∷ []
spelled_inner_operand (Field t f) =
    this is_variable t ∷ breaks ∷ sign signs.Dot ∷ breaks ∷ name f ∷ []

-- the sign of an il_assign_operator or of an il_assign_out_operator (B.2.2)
abbrev pub spelled_side : Side → List Part
spelled_side sides.Input = sign signs.Assign ∷ []
spelled_side sides.Output = sign signs.Arrow ∷ []

-- il_param_assignment and il_param_out_assignment (B.2.1), of an operand alone
abbrev pub spelled_argument : ArgumentText → List Part
spelled_argument a =
    breaks ∷ name a.field
    ∷ breaks ∷ (spelled_side a.side ++ breaks ∷ spelled_inner_operand a.operand)

-- the next of an il_param_list (B.2.1)
abbrev pub spelled_next : ArgumentText → List Part
spelled_next a = breaks ∷ sign signs.Comma ∷ spelled_argument a

-- il_param_list (B.2.1), or nothing
abbrev pub spelled_inside : List ArgumentText → List Part
spelled_inside [] = ahead before_close ∷ []
spelled_inside (a ∷ more) = spelled_argument a ++ (flat_map spelled_next more ++ ahead ends_arguments ∷ [])

abbrev pub spelled_arguments : Option (List ArgumentText) → List Part
spelled_arguments None = ahead no_open ∷ []
spelled_arguments (Some xs) = sign signs.Open ∷ (spelled_inside xs ++ breaks ∷ sign signs.Close ∷ [])

-- fb_name and what follows it in an il_fb_call (B.2.1)
abbrev pub spelled_call : CallText → List Part
spelled_call c = name c.instance ∷ spelled_arguments c.written

abbrev pub spelled_optional : Option OperandText → List Part
spelled_optional None = ahead is_line_stop ∷ []
spelled_optional (Some x) = spelled_operand x

-- an operator of this form takes this
abbrev pub accepts : Form → BehindText → Bool
accepts forms.Operand (Given x) = true
accepts forms.Nothing Nothing = true
accepts forms.Label (Target t) = true
accepts forms.Either (Given x) = true
accepts forms.Either (Opened o) = true
accepts forms.Call (Called c) = true
accepts form b = false

abbrev pub accepting : BehindText → Option Operator → Option Operator
accepting b None = None
accepting b (Some o) = if accepts (form_of o.mnemonic.op) b then Some o else None

-- the operator that a token is, where it takes this
abbrev pub operator_before : Dialect → BehindText → Token → Option Operator
operator_before dialect b t = accepting b (operator_of dialect t)

-- what stands behind an il_simple_operator, an il_return_operator, an il_jump_operator, an il_expr_operator and
-- an il_call_operator (B.2.2)
abbrev pub spelled_behind : BehindText → List Part
spelled_behind Nothing = []
spelled_behind (Given x) = spelled_operand x
spelled_behind (Target t) = name t ∷ []
spelled_behind (Opened o) = sign signs.Open ∷ spelled_optional o
spelled_behind (Called c) = spelled_call c

-- il_simple_operation, il_expression, il_jump_operation, il_fb_call or il_return_operator (B.2.1)
abbrev pub spelled_operation : Dialect → OperationText → List Part
spelled_operation dialect o = operator (operator_before dialect o.behind) o.operator ∷ spelled_behind o.behind

abbrev pub spelled_optional_operation : Dialect → Option OperationText → List Part
spelled_optional_operation dialect None = ahead is_line_stop ∷ []
spelled_optional_operation dialect (Some o) = spelled_operation dialect o

-- label ':' and what may follow it, or an operation (B.2.1)
abbrev pub spelled_content : Dialect → LineText → List Part
spelled_content dialect (Labelled t o) = name t ∷ sign signs.Colon ∷ spelled_optional_operation dialect o
spelled_content dialect (Plain o) = ahead (is_no_label dialect) ∷ spelled_operation dialect o

-- il_instruction (B.2.1)
abbrev pub spelled_line : Dialect → LineText → List Part
spelled_line dialect l = breaks ∷ (spelled_content dialect l ++ ahead is_line_stop ∷ [])

-- ---- declarations

-- the next variable_name of a var1_list (B.1.4.3)
abbrev pub spelled_name : Token → List Part
spelled_name t = breaks ∷ sign signs.Comma ∷ breaks ∷ name t ∷ []

abbrev pub is_not_at : List Token → Bool
is_not_at ts = not (next_is_word (codes "AT") ts)

-- location of a located_var_decl, or what follows the first name of a var1_list (B.1.4.3)
abbrev pub spelled_names : NamesText → List Part
spelled_names (Located t) = word (codes "AT") ∷ breaks ∷ address t ∷ []
spelled_names (More ts) = ahead is_not_at ∷ (flat_map spelled_name ts ++ ahead ends_names ∷ [])

-- ':=' constant of a simple_spec_init (B.1.3.3), where it stands
abbrev pub spelled_initial : Option Token → List Part
spelled_initial None = ahead no_value ∷ []
spelled_initial (Some t) = sign signs.Assign ∷ breaks ∷ this is_constant t ∷ []

-- var1_init_decl, fb_name_decl or located_var_decl, and the semicolon behind it (B.1.4.3)
abbrev pub spelled_declaration : DeclarationText → List Part
spelled_declaration d =
    breaks ∷ name d.name
    ∷ breaks ∷ (spelled_names d.names
    ++ breaks ∷ sign signs.Colon
    ∷ breaks ∷ name d.ty
    ∷ breaks ∷ (spelled_initial d.initial ++ breaks ∷ sign signs.Semicolon ∷ []))

-- a thing of a list, which does not begin where the list stops
abbrev pub going : {X : Type 0} → (List Token → Bool) → (X → List Part) → X → List Part
going stops s x = ahead (λ us. not (stops us)) ∷ s x

-- as many as there are
abbrev pub listed : {X : Type 0} → (List Token → Bool) → (X → List Part) → List X → List Part
listed stops s xs = flat_map (going stops s) xs ++ ahead stops ∷ []

-- RETAIN or NON_RETAIN, where it stands: the one or the other of var_declarations, retentive_var_declarations and
-- located_var_declarations (B.1.4.3)
abbrev pub spelled_qualifier : Dialect → Option Qualifier → List Part
spelled_qualifier dialect None = ahead (no_qualifier dialect) ∷ []
spelled_qualifier dialect (Some q) = ahead (reads_as_qualifier dialect) ∷ word (qualifier_word q) ∷ []

-- var_declarations, retentive_var_declarations or located_var_declarations (B.1.4.3); declarations of all three sorts
-- may stand in one block
abbrev pub spelled_block : Dialect → BlockText → List Part
spelled_block dialect b =
    breaks ∷ word (block_word dialect)
    ∷ breaks ∷ (spelled_qualifier dialect b.qualifier
    ++ (listed ends_block spelled_declaration b.declarations ++ breaks ∷ word (codes "END_VAR") ∷ []))

-- ---- programs

abbrev pub is_bare : List Token → Bool
is_bare ts = not (begins_program ts)

-- program_declaration (B.1.5.3)
abbrev pub spelled_named : Dialect → Token → ProgramText → List Part
spelled_named dialect t s =
    breaks ∷ word (codes "PROGRAM") ∷ name t
    ∷ (listed (ends_blocks dialect) (spelled_block dialect) s.blocks
    ++ (listed ends_named (spelled_line dialect) s.lines
    ++ breaks ∷ word (codes "END_PROGRAM") ∷ breaks ∷ ahead at_end ∷ []))

-- the same without the words around it: declarations and an instruction_list (B.2.1)
abbrev pub spelled_bare : Dialect → ProgramText → List Part
spelled_bare dialect s =
    listed (ends_blocks dialect) (spelled_block dialect) s.blocks
    ++ (listed ends_lines (spelled_line dialect) s.lines ++ breaks ∷ ahead at_end ∷ [])

abbrev pub spelled_by : Dialect → Option Token → ProgramText → List Part
spelled_by dialect None s = ahead is_bare ∷ spelled_bare dialect s
spelled_by dialect (Some t) s = spelled_named dialect t s

abbrev pub spelled_program : Dialect → ProgramText → List Part
spelled_program dialect s = spelled_by dialect s.name s

-- the tokens say this, from the first to the last
abbrev pub SaysTokens : Dialect → List Token → ProgramText → Type 0
SaysTokens dialect tokens s = (rest : List Token) × Spell (spelled_program dialect s) tokens rest

-- the text says this
abbrev pub Says : Dialect → List ℕ → ProgramText → Type 0
Says dialect bytes s = SaysTokens dialect (tokens_of dialect bytes) s
