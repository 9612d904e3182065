-- Where the fault of each part of the grammar stands.
use Rattle.std.proofs.Common.{◌≡◌, ℕ, zero, suc, length, ◌≤◌, eqb, ◌<◌, Bool, true, false, not, cond, List, [], ◌∷◌, ◌++◌, Option, Some, None, Result, Ok, Err, refl, sym, ap, ◌∙◌, arith, append_assoc, codes, ◌&&◌, ◌||◌}
use Rattle.std.specs.Prelude.{is_none}
use Rattle.std.specs.List.{AllByRecursion}
use Rattle.std.proofs.lemmas.Bool.{eqb-true}
use Rattle.il_model.specs.declared.dialect.Dialect.{Dialect}
use Rattle.il_model.specs.declared.dialect.Dialect.TheVariants as dialects
use Rattle.il_model.specs.declared.words.Mnemonic.{Mnemonic}
use Rattle.il_values.specs.Spelled.{spells, upper}
use Rattle.il_model.specs.Dialects.{operator_in}
use Rattle.il_reader.specs.declared.fault.FaultAt.{FaultAt}
use Rattle.il_reader.specs.declared.lexeme.Sign.{Sign}
use Rattle.il_reader.specs.declared.lexeme.Sign.TheVariants as signs
use Rattle.il_reader.specs.declared.lexeme.Class.{Class}
use Rattle.il_reader.specs.declared.lexeme.Class.TheVariants as classes
use Rattle.il_model.specs.declared.program.Side.{Side}
use Rattle.il_reader.specs.declared.contents.Qualifier.TheVariants as qualifiers
use Rattle.il_reader.specs.declared.contents.Operator.{Operator}
use Rattle.il_reader.specs.declared.operations.Form.{Form}
use Rattle.il_reader.specs.declared.operations.Form.TheVariants as forms
use Rattle.il_reader.specs.Tokens.{Token, goes_on, tokens_of}
use Rattle.il_reader.specs.Front.{is_class_of, is_end_class, no_token, is_sign, is_end, is_word_token, first, others, fault_at, skip_breaks}
use Rattle.il_reader.specs.Reading.{◌>>=◌, Reading, expect, keyword, pair, led, closed, choice, mapped, past, mark, stand, many, meant}
use Rattle.il_reader.specs.Grammar.{is_no_qualifier, no_qualifier, BlockText, block_word, begins_block, is_variable, is_constant, before_dot, Direct, Constant, OperandText, ArgumentText, ends_arguments, before_close, BehindText, Given, Target, Opened, Called, OperationText, form_of, operator_of, is_line_stop, operator_from, LineText, Plain, is_label, Located, More, DeclarationText, ends_names, ends_block, ends_blocks, ProgramText, ends_lines, ends_named, begins_program}
use Rattle.il_reader.specs.Walk.{this_qualifier, either_qualifier_at, qualifier_at, declared_at, blocked, variable_at, constant_at, named, field_at, inner_field_at, lone_at, operand_at, inner_operand_at, side_at, an_output, an_input, an_argument, argument_at, next_argument_at, together, inside_at, arguments_at, a_call, call_at, operator_at, optional_operand_at, nested_at, either_at, behind_at, operation_at, optional_operation_at, labelled, labelled_at, plain_at, either_line_at, line_at, name_at, names_at, initial_at, declared, declaration_at, block_at, end_at, finish_at, named_program, bare_program, named_at, bare_at, program_at}
use Rattle.il_reader.specs.FirstFault.{StandsAt}
use Rattle.il_reader.proofs.Programs.{next_shrinks, line_shrinks, name_shrinks, declaration_shrinks, block_shrinks, program_law}
use Rattle.il_reader.proofs.Written.{retain_makes, retain_written, non_retain_written, sign_goes, written, Written, token_of, a_dot, dot_makes, dot_written, comma_written, a_close, close_makes, close_written, an_open, open_makes, open_written, a_colon, colon_makes, colon_written, semicolon_written, an_assign, assign_makes, assign_written, arrow_written, an_address, address_makes, address_written, a_break, break_makes, a_name, name_makes, name_written, variable_written, a_truth, truth_makes, truth_written, an_at, at_makes, at_written, an_end_var, end_var_makes, end_var_written, var_written, program_written, an_end_program, end_program_makes, end_program_written, end_makes}
use Rattle.il_reader.proofs.Checks.{GoesOn, Check, good, bad, leaving, followed, FirstAt, Below, ReadsSome, Exact, here, farther, same_first, same_below, same_exact, fewer_below, fewer, taken_exact, chosen_by, choice_below, behind_breaks, no_break, skips_once, past_below, past_exact, past_taken_exact, tail, mapped_same, mapped_exact, mark_exact, mark_same, pair_exact, pair_same, led_exact, closed_exact, closed_same, choice_same, option_same, stop_same, stand_same, next, either_exact, option_exact, stop_exact, stand_exact, Blind, Listed, unrolls, turn, list_same, list_blind, Stopped, list_some, list_exact}

-- tokens

pub expect_exact : (dialect : Dialect) → (j : Sign) → Written dialect (is_sign j) → (n : ℕ) (k : Check) → Exact dialect n k → Exact dialect (suc n) (followed (expect j) k)
unfolding expect
expect_exact dialect j w n k e = taken_exact dialect (is_sign j) (λ t. t) w refl n k e

pub past_expect_exact : (dialect : Dialect) → (j : Sign) → Written dialect (is_sign j) → (n : ℕ) (k : Check) → Exact dialect n k → Exact dialect (suc n) (followed (past (expect j)) k)
unfolding expect
past_expect_exact dialect j w n k e = past_taken_exact dialect (is_sign j) (λ t. t) w refl n k e

pub sign_exact : (dialect : Dialect) → (j : Sign) → Written dialect (is_sign j) → (n : ℕ) (k : Check) → Exact dialect n k → Exact dialect (suc n) (followed (mark (expect j)) k)
sign_exact dialect j w n k e = mark_exact dialect (expect j) (suc n) k (expect_exact dialect j w n k e)

pub past_sign_exact : (dialect : Dialect) → (j : Sign) → Written dialect (is_sign j) → (n : ℕ) (k : Check) → Exact dialect n k → Exact dialect (suc n) (followed (past (mark (expect j))) k)
past_sign_exact dialect j w n k e = same_exact dialect (followed (past (mark (expect j))) k) (followed (past (expect j)) k) (suc n) (λ ts. mark_same (expect j) k (skip_breaks ts)) (past_expect_exact dialect j w n k e)

pub keyword_exact : (dialect : Dialect) → (w : List ℕ) → Written dialect (is_word_token w) → (n : ℕ) (k : Check) → Exact dialect n k → Exact dialect (suc n) (followed (keyword w) k)
unfolding keyword
keyword_exact dialect w made n k e = taken_exact dialect (is_word_token w) (λ t. tt) made refl n k e

pub past_keyword_exact : (dialect : Dialect) → (w : List ℕ) → Written dialect (is_word_token w) → (n : ℕ) (k : Check) → Exact dialect n k → Exact dialect (suc n) (followed (past (keyword w)) k)
unfolding keyword
past_keyword_exact dialect w made n k e = past_taken_exact dialect (is_word_token w) (λ t. tt) made refl n k e

-- what reads past line ends does not see them
pub past_blind : {X : Type 0} (a : Reading X) (k : Check) → Blind (followed (past a) k)
past_blind a k ts = ap (followed a k) (sym (skips_once ts))

-- operands

pub variable_exact : (dialect : Dialect) → (n : ℕ) (k : Check) → Exact dialect n k → Exact dialect (suc n) (followed variable_at k)
unfolding variable_at spells
variable_exact dialect n k e = taken_exact dialect is_variable (λ t. t) (variable_written dialect) refl n k e

pub constant_exact : (dialect : Dialect) → (n : ℕ) (k : Check) → Exact dialect n k → Exact dialect (suc n) (followed constant_at k)
unfolding constant_at is_constant
constant_exact dialect n k e = taken_exact dialect is_constant (λ t. t) (truth_written dialect) refl n k e

pub past_constant_exact : (dialect : Dialect) → (n : ℕ) (k : Check) → Exact dialect n k → Exact dialect (suc n) (followed (past constant_at) k)
unfolding constant_at is_constant
past_constant_exact dialect n k e = past_taken_exact dialect is_constant (λ t. t) (truth_written dialect) refl n k e

abbrev pub dotted : Reading Token
dotted = led (mark (expect signs.Dot)) (expect signs.Name)

pub field_exact : (dialect : Dialect) → (n : ℕ) (k : Check) → Exact dialect n k → Exact dialect n (followed field_at k)
unfolding field_at expect
field_exact dialect n k e = option_exact dialect (is_sign signs.Dot) (mapped Some dotted) None n k e.placed
    (fewer dialect (followed (mapped Some dotted) k) n (fewer dialect (followed (mapped Some dotted) k) (suc n) on)).placed
    (a_dot (a_name e.some.0)) (rw (dot_makes dialect (a_name e.some.0), name_makes dialect e.some.0) e.some.1)
  where
    on : Exact dialect (suc (suc n)) (followed (mapped Some dotted) k)
    on = mapped_exact dialect Some dotted _ k (led_exact dialect (mark (expect signs.Dot)) (expect signs.Name) _ k (sign_exact dialect signs.Dot (dot_written dialect) _ _ (expect_exact dialect signs.Name (name_written dialect) n k e)))

abbrev pub past_dotted : Reading Token
past_dotted = led (past (mark (expect signs.Dot))) (past (expect signs.Name))

-- the same, where the dot stands next
abbrev pub solid_dotted : Reading Token
solid_dotted = led (mark (expect signs.Dot)) (past (expect signs.Name))

pub inner_field_exact : (dialect : Dialect) → (n : ℕ) (k : Check) → Exact dialect n k → Blind k → Exact dialect n (followed inner_field_at k)
unfolding inner_field_at expect skip_breaks
inner_field_exact dialect n k e blind = same_exact dialect (followed inner_field_at k) (behind_breaks body) n same
    (past_exact dialect body n below (a_dot (a_name e.some.0)) (rw (dot_makes dialect (a_name e.some.0)) refl) (rw (dot_makes dialect (a_name e.some.0), name_makes dialect e.some.0) e.some.1))
  where
    body : Check
    body = chosen_by (is_sign signs.Dot) (followed (mapped Some solid_dotted) k) k

    on : Exact dialect (suc (suc n)) (followed (mapped Some solid_dotted) k)
    on = mapped_exact dialect Some solid_dotted _ k (led_exact dialect (mark (expect signs.Dot)) (past (expect signs.Name)) _ k (sign_exact dialect signs.Dot (dot_written dialect) _ _ (past_expect_exact dialect signs.Name (name_written dialect) n k e)))

    below : Below dialect n body
    below = choice_below dialect (is_sign signs.Dot) (followed (mapped Some solid_dotted) k) k n
        (fewer dialect (followed (mapped Some solid_dotted) k) n (fewer dialect (followed (mapped Some solid_dotted) k) (suc n) on)).placed e.placed
        (a_dot (a_name e.some.0), rw (dot_makes dialect (a_name e.some.0), name_makes dialect e.some.0) e.some.1)

    same : (ts : List Token) → followed inner_field_at k ts ≡ behind_breaks body ts
    same ts = option_same before_dot (mapped Some past_dotted) None k ts ∙ rw (blind ts) refl

pub lone_exact : (dialect : Dialect) → (n : ℕ) (k : Check) → Exact dialect n k → Exact dialect (suc n) (followed lone_at k)
unfolding lone_at expect
lone_exact dialect n k e = either_exact dialect (is_sign signs.Address) (mapped Direct (expect signs.Address)) (mapped Constant constant_at) (suc n) k
    (mapped_exact dialect Direct (expect signs.Address) _ k (expect_exact dialect signs.Address (address_written dialect) n k e)).placed
    (mapped_exact dialect Constant constant_at _ k (constant_exact dialect n k e)).placed
    (an_address e.some.0) (rw (address_makes dialect e.some.0) e.some.1)

-- an operand whose field is read so
pub by_field_exact : (dialect : Dialect) → (a : Reading (Option Token)) (n : ℕ) (k : Check) → Exact dialect n k → Exact dialect n (followed a k) → Exact dialect (suc n) (followed (choice (next is_variable) (mapped named (pair variable_at a)) lone_at) k)
unfolding lone_at expect
by_field_exact dialect a n k e f = either_exact dialect is_variable (mapped named (pair variable_at a)) lone_at (suc n) k
    (mapped_exact dialect named (pair variable_at a) _ k (pair_exact dialect variable_at a _ k (variable_exact dialect n _ f))).placed
    (lone_exact dialect n k e).placed
    (an_address e.some.0) (rw (address_makes dialect e.some.0) e.some.1)

pub operand_exact : (dialect : Dialect) → (n : ℕ) (k : Check) → Exact dialect n k → Exact dialect (suc n) (followed operand_at k)
unfolding operand_at
operand_exact dialect n k e = by_field_exact dialect field_at n k e (field_exact dialect n k e)

pub inner_operand_exact : (dialect : Dialect) → (n : ℕ) (k : Check) → Exact dialect n k → Blind k → Exact dialect (suc n) (followed inner_operand_at k)
unfolding inner_operand_at
inner_operand_exact dialect n k e blind = by_field_exact dialect inner_field_at n k e (inner_field_exact dialect n k e blind)

-- calls

pub side_exact : (dialect : Dialect) → (n : ℕ) (k : Check) → Exact dialect n k → Exact dialect (suc n) (followed side_at k)
unfolding side_at expect
side_exact dialect n k e = either_exact dialect (is_sign signs.Arrow) (mapped an_output (mark (expect signs.Arrow))) (mapped an_input (mark (expect signs.Assign))) (suc n) k
    (mapped_exact dialect an_output (mark (expect signs.Arrow)) _ k (sign_exact dialect signs.Arrow (arrow_written dialect) n k e)).placed
    (mapped_exact dialect an_input (mark (expect signs.Assign)) _ k (sign_exact dialect signs.Assign (assign_written dialect) n k e)).placed
    (an_assign e.some.0) (rw (assign_makes dialect e.some.0) e.some.1)

pub past_side_exact : (dialect : Dialect) → (n : ℕ) (k : Check) → Exact dialect n k → Exact dialect (suc n) (followed (past side_at) k)
unfolding side_at expect
past_side_exact dialect n k e = past_exact dialect (followed side_at k) (suc n) (side_exact dialect n k e).placed (an_assign e.some.0) (rw (assign_makes dialect e.some.0) refl) (rw (assign_makes dialect e.some.0) e.some.1)

pub past_inner_operand_exact : (dialect : Dialect) → (n : ℕ) (k : Check) → Exact dialect n k → Blind k → Exact dialect (suc n) (followed (past inner_operand_at) k)
unfolding inner_operand_at lone_at expect
past_inner_operand_exact dialect n k e blind = past_exact dialect (followed inner_operand_at k) (suc n) (inner_operand_exact dialect n k e blind).placed (an_address e.some.0) (rw (address_makes dialect e.some.0) refl) (rw (address_makes dialect e.some.0) e.some.1)

abbrev pub sided : Reading (Side × OperandText)
sided = pair (past side_at) (past inner_operand_at)

abbrev pub solid_argument : Reading ArgumentText
solid_argument = mapped an_argument (pair (expect signs.Name) sided)

pub sided_exact : (dialect : Dialect) → (n : ℕ) (k : Check) → Exact dialect n k → Blind k → Exact dialect (suc (suc n)) (followed sided k)
sided_exact dialect n k e blind = pair_exact dialect (past side_at) (past inner_operand_at) _ k (past_side_exact dialect _ _ (past_inner_operand_exact dialect n k e blind))

pub solid_argument_exact : (dialect : Dialect) → (n : ℕ) (k : Check) → Exact dialect n k → Blind k → Exact dialect (suc (suc (suc n))) (followed solid_argument k)
solid_argument_exact dialect n k e blind = mapped_exact dialect an_argument (pair (expect signs.Name) sided) _ k (pair_exact dialect (expect signs.Name) sided _ k (expect_exact dialect signs.Name (name_written dialect) _ _ (sided_exact dialect n k e blind)))

pub argument_exact : (dialect : Dialect) → (n : ℕ) (k : Check) → Exact dialect n k → Blind k → Exact dialect (suc (suc (suc n))) (followed argument_at k)
unfolding argument_at
argument_exact dialect n k e blind = mapped_exact dialect an_argument (pair (past (expect signs.Name)) sided) _ k (pair_exact dialect (past (expect signs.Name)) sided _ k (past_expect_exact dialect signs.Name (name_written dialect) _ _ (sided_exact dialect n k e blind)))

abbrev pub solid_next_argument : Reading ArgumentText
solid_next_argument = led (mark (expect signs.Comma)) argument_at

pub solid_next_exact : (dialect : Dialect) → (n : ℕ) (k : Check) → Exact dialect n k → Blind k → Exact dialect (suc (suc (suc (suc n)))) (followed solid_next_argument k)
solid_next_exact dialect n k e blind = led_exact dialect (mark (expect signs.Comma)) argument_at _ k (sign_exact dialect signs.Comma (comma_written dialect) _ _ (argument_exact dialect n k e blind))

abbrev pub no_comma : Token → Bool
no_comma t = not (is_sign signs.Comma t)

pub arguments_listed : Listed no_comma ends_arguments solid_next_argument next_argument_at
unfolding ends_arguments next_argument_at
arguments_listed = record { stop = λ ts. refl; past = λ ts. refl; less = next_shrinks }

abbrev pub closing_check : Check → Check
closing_check k = followed (past (mark (expect signs.Close))) k

pub more_exact : (dialect : Dialect) → (n : ℕ) (k : Check) → Exact dialect n k → Exact dialect (suc n) (followed (many ends_arguments next_argument_at) (closing_check k))
unfolding expect skip_breaks
more_exact dialect n k e = list_exact dialect no_comma ends_arguments solid_next_argument next_argument_at (suc n) (closing_check k) arguments_listed blind
    (record { text = a_close e.some.0; stop = rw (close_makes dialect e.some.0) refl; solid = rw (close_makes dialect e.some.0) refl; reads = rw (close_makes dialect e.some.0) e.some.1 })
    (past_sign_exact dialect signs.Close (close_written dialect) n k e).placed
    step
  where
    blind : Blind (closing_check k)
    blind = past_blind (mark (expect signs.Close)) k

    more : Check
    more = followed (many ends_arguments next_argument_at) (closing_check k)

    step : (p : ℕ) → Exact dialect p more → Below dialect (suc p) (followed solid_next_argument more)
    step p m =
        let seen : Blind more = list_blind no_comma ends_arguments solid_next_argument next_argument_at (closing_check k) arguments_listed blind in
        fewer_below dialect (followed solid_next_argument more) (suc p) (suc (suc (suc (suc p)))) (omega arith) (solid_next_exact dialect p more m seen).placed

abbrev pub solid_list : Reading (List ArgumentText)
solid_list = mapped together (pair solid_argument (many ends_arguments next_argument_at))

pub inside_exact : (dialect : Dialect) → (n : ℕ) (k : Check) → Exact dialect n k → Exact dialect (suc n) (followed inside_at (closing_check k))
unfolding inside_at argument_at expect skip_breaks
inside_exact dialect n k e = same_exact dialect (followed inside_at c) (behind_breaks body) (suc n) same
    (past_exact dialect body (suc n) below (a_close e.some.0) (rw (close_makes dialect e.some.0) refl) (rw (close_makes dialect e.some.0) e.some.1))
  where
    c : Check
    c = closing_check k

    body : Check
    body = chosen_by (is_sign signs.Close) c (followed solid_list c)

    blind : Blind (followed (many ends_arguments next_argument_at) c)
    blind = list_blind no_comma ends_arguments solid_next_argument next_argument_at c arguments_listed (past_blind (mark (expect signs.Close)) k)

    on : Exact dialect (suc (suc (suc (suc n)))) (followed solid_list c)
    on = mapped_exact dialect together (pair solid_argument (many ends_arguments next_argument_at)) _ c (pair_exact dialect solid_argument (many ends_arguments next_argument_at) _ c (solid_argument_exact dialect _ _ (more_exact dialect n k e) blind))

    below : Below dialect (suc n) body
    below = choice_below dialect (is_sign signs.Close) c (followed solid_list c) (suc n)
        (past_sign_exact dialect signs.Close (close_written dialect) n k e).placed
        (fewer_below dialect (followed solid_list c) (suc n) (suc (suc (suc (suc n)))) (omega arith) on.placed)
        (a_close e.some.0, rw (close_makes dialect e.some.0) e.some.1)

    same : (ts : List Token) → followed inside_at c ts ≡ behind_breaks body ts
    same ts = stop_same before_close [] (mapped together (pair argument_at (many ends_arguments next_argument_at))) c ts ∙ rw (past_blind (mark (expect signs.Close)) k ts) refl

abbrev in_parentheses : Reading (List ArgumentText)
in_parentheses = led (mark (expect signs.Open)) (closed inside_at (past (mark (expect signs.Close))))

pub arguments_exact : (dialect : Dialect) → (n : ℕ) (k : Check) → Exact dialect n k → Exact dialect n (followed arguments_at k)
unfolding arguments_at inside_at expect skip_breaks
arguments_exact dialect n k e = option_exact dialect (is_sign signs.Open) (mapped Some in_parentheses) None n k e.placed
    (fewer_below dialect (followed (mapped Some in_parentheses) k) n (suc (suc n)) (omega arith) on.placed)
    (an_open (a_close e.some.0)) (rw (open_makes dialect (a_close e.some.0), close_makes dialect e.some.0) e.some.1)
  where
    on : Exact dialect (suc (suc n)) (followed (mapped Some in_parentheses) k)
    on = mapped_exact dialect Some in_parentheses _ k (led_exact dialect (mark (expect signs.Open)) (closed inside_at (past (mark (expect signs.Close)))) _ k (sign_exact dialect signs.Open (open_written dialect) _ _ (closed_exact dialect inside_at (past (mark (expect signs.Close))) _ k (inside_exact dialect n k e))))

pub call_exact : (dialect : Dialect) → (n : ℕ) (k : Check) → Exact dialect n k → Exact dialect (suc n) (followed call_at k)
unfolding call_at
call_exact dialect n k e = mapped_exact dialect a_call (pair (expect signs.Name) arguments_at) _ k (pair_exact dialect (expect signs.Name) arguments_at _ k (expect_exact dialect signs.Name (name_written dialect) n _ (arguments_exact dialect n k e)))

-- operations

abbrev pub stops_line : Token → Bool
stops_line t = is_sign signs.Break t || is_end t

pub some_operand_exact : (dialect : Dialect) → (n : ℕ) (k : Check) → Exact dialect n k → Exact dialect (suc n) (followed (mapped Some operand_at) k)
some_operand_exact dialect n k e = mapped_exact dialect Some operand_at _ k (operand_exact dialect n k e)

pub optional_operand_exact : (dialect : Dialect) → (n : ℕ) (k : Check) → Exact dialect n k → Exact dialect n (followed optional_operand_at k)
unfolding optional_operand_at operand_at lone_at expect
optional_operand_exact dialect n k e = stop_exact dialect stops_line None (mapped Some operand_at) n k e.placed
    (fewer dialect (followed (mapped Some operand_at) k) n (some_operand_exact dialect n k e)).placed
    (an_address e.some.0) (rw (address_makes dialect e.some.0) e.some.1)

pub nested_exact : (dialect : Dialect) → (n : ℕ) (k : Check) → Exact dialect n k → Exact dialect (suc n) (followed nested_at k)
unfolding nested_at
nested_exact dialect n k e = led_exact dialect (mark (expect signs.Open)) optional_operand_at _ k (sign_exact dialect signs.Open (open_written dialect) _ _ (optional_operand_exact dialect n k e))

pub given_exact : (dialect : Dialect) → (n : ℕ) (k : Check) → Exact dialect n k → Exact dialect (suc n) (followed (mapped Given operand_at) k)
given_exact dialect n k e = mapped_exact dialect Given operand_at _ k (operand_exact dialect n k e)

pub opened_exact : (dialect : Dialect) → (n : ℕ) (k : Check) → Exact dialect n k → Exact dialect (suc n) (followed (mapped Opened nested_at) k)
opened_exact dialect n k e = mapped_exact dialect Opened nested_at _ k (nested_exact dialect n k e)

-- something that is read of it, and begins with no colon
pub record Plainly (dialect : Dialect) (m : Check) : Type 0 where
  pub text : List ℕ
  pub no_colon : is_sign signs.Colon (first (tokens_of dialect text)) ≡ false
  pub reads : m (tokens_of dialect text) ≡ good

pub either_behind_exact : (dialect : Dialect) → (n : ℕ) (k : Check) → Exact dialect n k → Exact dialect (suc n) (followed either_at k)
unfolding either_at operand_at lone_at expect
either_behind_exact dialect n k e = either_exact dialect (is_sign signs.Open) (mapped Opened nested_at) (mapped Given operand_at) (suc n) k
    (opened_exact dialect n k e).placed
    (given_exact dialect n k e).placed
    (an_address e.some.0) (rw (address_makes dialect e.some.0) e.some.1)

pub behind_exact : (dialect : Dialect) → (form : Form) (n : ℕ) (k : Check) → Exact dialect n k → Exact dialect n (followed (behind_at form) k)
unfolding behind_at
behind_exact dialect forms.Operand n k e = fewer dialect (followed (mapped Given operand_at) k) n (given_exact dialect n k e)
behind_exact dialect forms.Nothing n k e = e
behind_exact dialect forms.Label n k e = fewer dialect (followed (mapped Target (expect signs.Name)) k) n (mapped_exact dialect Target (expect signs.Name) _ k (expect_exact dialect signs.Name (name_written dialect) n k e))
behind_exact dialect forms.Either n k e = fewer dialect (followed either_at k) n (either_behind_exact dialect n k e)
behind_exact dialect forms.Call n k e = fewer dialect (followed (mapped Called call_at) k) n (mapped_exact dialect Called call_at _ k (call_exact dialect n k e))

pub behind_plainly : (dialect : Dialect) → (form : Form) (k : Check) → Plainly dialect k → Plainly dialect (followed (behind_at form) k)
unfolding behind_at either_at operand_at lone_at expect call_at arguments_at inside_at skip_breaks
behind_plainly dialect forms.Operand k p = record { text = an_address p.text; no_colon = rw (address_makes dialect p.text) refl; reads = rw (address_makes dialect p.text) p.reads }
behind_plainly dialect forms.Nothing k p = p
behind_plainly dialect forms.Label k p = record { text = a_name p.text; no_colon = rw (name_makes dialect p.text) refl; reads = rw (name_makes dialect p.text) p.reads }
behind_plainly dialect forms.Either k p = record { text = an_address p.text; no_colon = rw (address_makes dialect p.text) refl; reads = rw (address_makes dialect p.text) p.reads }
behind_plainly dialect forms.Call k p = record { text = a_name (an_open (a_close p.text)); no_colon = rw (name_makes dialect (an_open (a_close p.text))) refl; reads = rw (name_makes dialect (an_open (a_close p.text)), open_makes dialect (a_close p.text), close_makes dialect p.text) p.reads }

abbrev made : Operator → BehindText → OperationText
made x b = record { operator = x; behind = b }

-- what is checked behind the operator that stands next
abbrev pub by_operator : Check → Option Operator → Check
by_operator k None ts = bad (fault_at (first ts))
by_operator k (Some o) ts = followed (behind_at (form_of o.mnemonic.op)) k (others ts)

pub operation_same : (dialect : Dialect) → (k : Check) (ts : List Token) → followed (operation_at dialect) k ts ≡ by_operator k (operator_of dialect (first ts)) ts
unfolding operation_at operator_at
operation_same dialect k ts = by_case (operator_of dialect (first ts))
  where
    by_case : (o : Option Operator) → ((meant o ts >>= λ x. behind_at (form_of x.0.mnemonic.op) x.1 >>= λ b. leaving (made x.0 b.0) b.1) >>= (λ z. k z.1)) ≡ by_operator k o ts
    by_case None = refl
    by_case (Some x) = tail (behind_at (form_of x.mnemonic.op) (others ts)) (made x) k

abbrev some_operator : Operator → Option Operator
some_operator o = Some o

pub no_operator : (o : Operator) → None ≡ some_operator o → ⊥
no_operator o e = absurd cc

pub operator_goes : (dialect : Dialect) → (t : Token) (o : Operator) → operator_of dialect t ≡ Some o → goes_on t.class ≡ true
unfolding operator_of
operator_goes dialect t o e = by_class t.class refl
  where
    by_class : (c : Class) → t.class ≡ c → goes_on t.class ≡ true
    by_class classes.End is = let none : operator_of dialect t ≡ None = rw is refl in absurd (no_operator o (sym none ∙ e))
    by_class (classes.Broken f) is = let none : operator_of dialect t ≡ None = rw is refl in absurd (no_operator o (sym none ∙ e))
    by_class (classes.Sign s) is = rw is refl

pub operation_exact : (dialect : Dialect) → (n : ℕ) (k : Check) → Exact dialect n k → Exact dialect (suc n) (followed (operation_at dialect) k)
unfolding operator_of behind_at
operation_exact dialect n k e = same_exact dialect (followed (operation_at dialect) k) m (suc n) (operation_same dialect k) (record { placed = placed; some = some })
  where
    m : Check
    m ts = by_operator k (operator_of dialect (first ts)) ts

    some : ReadsSome dialect m
    some = (a_close e.some.0, rw (close_makes dialect e.some.0) e.some.1)

    by_case : (t : Token) (ts : List Token) (f : FaultAt) → length ts < n → (o : Option Operator) → operator_of dialect t ≡ o → by_operator k o (t ∷ ts) ≡ bad f → FirstAt dialect m (t ∷ ts) f
    by_case t ts f lt None is h = here dialect m (t ∷ ts) f h some (λ us. rw is refl)
    by_case t ts f lt (Some o) is h =
        let b = behind_exact dialect (form_of o.mnemonic.op) n k e in
        farther dialect m (followed (behind_at (form_of o.mnemonic.op)) k) t ts f (operator_goes dialect t o is) (λ us. rw is refl) (b.placed ts f lt h)

    placed : Below dialect (suc n) m
    placed [] f lt h = here dialect m [] f h some (λ us. refl)
    placed (t ∷ ts) f lt h = by_case t ts f (omega (arith, lt)) (operator_of dialect t) refl h

pub optional_operation_exact : (dialect : Dialect) → (n : ℕ) (k : Check) → Exact dialect n k → Exact dialect n (followed (optional_operation_at dialect) k)
unfolding optional_operation_at operation_at operator_at operator_of behind_at
optional_operation_exact dialect n k e = stop_exact dialect stops_line None (mapped Some (operation_at dialect)) n k e.placed
    (fewer dialect (followed (mapped Some (operation_at dialect)) k) n (mapped_exact dialect Some (operation_at dialect) _ k (operation_exact dialect n k e))).placed
    (a_close e.some.0) (rw (close_makes dialect e.some.0) e.some.1)

-- lines

-- a name before a colon, or one that is no operator
abbrev label_test : (dialect : Dialect) → Token → Token → Bool
label_test dialect t u = is_sign signs.Name t && (is_sign signs.Colon u || is_none (operator_in dialect t.text))

true_is_false : true ≡ false → ⊥
true_is_false e = absurd cc

never_false : (c : Bool) → (c || true) ≡ false → ⊥
never_false true e = true_is_false e
never_false false e = true_is_false e

label_name : (a b : Bool) → (a && b) ≡ true → a ≡ true
label_name true b e = refl
label_name false b e = absurd cc

-- what is no label stays none before what is no colon
still_none : (a c d n : Bool) → (a && (c || n)) ≡ false → d ≡ false → (a && (d || n)) ≡ false
still_none false c d n e z = refl
still_none true c d true e z = absurd (never_false c e)
still_none true c d false e z = rw z refl

-- what is neither a label nor an operator is no name
no_name : (dialect : Dialect) → (t u : Token) → operator_of dialect t ≡ None → label_test dialect t u ≡ false → is_sign signs.Name t ≡ false
unfolding operator_of
no_name dialect t u none e = by_name (is_sign signs.Name t) refl
  where
    by_word : (o : Option Mnemonic) → operator_from t.left o ≡ None → (is_sign signs.Colon u || is_none o) ≡ false → ⊥
    by_word None n f = never_false (is_sign signs.Colon u) f
    by_word (Some x) n f = absurd cc

    by_name : (b : Bool) → is_sign signs.Name t ≡ b → is_sign signs.Name t ≡ false
    by_name false is = is
    by_name true is = absurd (by_word (operator_in dialect t.text) (rw is at none) (rw is at e))

-- what a line may go on with: where it ends
pub record LineEnd (dialect : Dialect) (k : Check) : Type 0 where
  pub text : List ℕ
  pub stop : stops_line (first (tokens_of dialect text)) ≡ true
  pub no_colon : is_sign signs.Colon (first (tokens_of dialect text)) ≡ false
  pub reads : k (tokens_of dialect text) ≡ good

pub plain_end : (dialect : Dialect) → (k : Check) → LineEnd dialect k → Plainly dialect k
plain_end dialect k s = record { text = s.text; no_colon = s.no_colon; reads = s.reads }

abbrev behind_label : (dialect : Dialect) → Check → Check
behind_label dialect m = followed (led (mark (expect signs.Colon)) (optional_operation_at dialect)) m

-- what is checked of a line by its first two tokens
abbrev line_body : (dialect : Dialect) → Check → Check
line_body dialect m ts = cond (is_label dialect ts) (followed (expect signs.Name) (behind_label dialect m) ts) (by_operator m (operator_of dialect (first ts)) ts)

content_same : (dialect : Dialect) → (m : Check) (ts : List Token) → followed (either_line_at dialect) m ts ≡ line_body dialect m ts
unfolding either_line_at labelled_at plain_at
content_same dialect m ts =
    choice_same (is_label dialect) (labelled_at dialect) (plain_at dialect) m ts
    ∙ ap (λ (z : Result (Unit {0}) FaultAt). cond (is_label dialect ts) z (followed (plain_at dialect) m ts)) (mapped_same labelled (pair (expect signs.Name) (led (mark (expect signs.Colon)) (optional_operation_at dialect))) m ts ∙ pair_same (expect signs.Name) (led (mark (expect signs.Colon)) (optional_operation_at dialect)) m ts)
    ∙ ap (λ (z : Result (Unit {0}) FaultAt). cond (is_label dialect ts) (followed (expect signs.Name) (behind_label dialect m) ts) z) (mapped_same Plain (operation_at dialect) m ts ∙ operation_same dialect m ts)

pub content_exact : (dialect : Dialect) → (n : ℕ) (m : Check) → Exact dialect n m → LineEnd dialect m → Exact dialect (suc n) (followed (either_line_at dialect) m)
unfolding is_label operator_of behind_at expect optional_operation_at
content_exact dialect n m e s = same_exact dialect (followed (either_line_at dialect) m) body (suc n) (content_same dialect m) (record { placed = placed; some = some })
  where
    body : Check
    body = line_body dialect m

    some : ReadsSome dialect body
    some = (a_close e.some.0, rw (close_makes dialect e.some.0) e.some.1)

    colon : behind_label dialect m (token_of signs.Colon (codes ":") s.text ∷ tokens_of dialect s.text) ≡ good
    colon = rw s.stop s.reads

    behind_name : (t : Token) (ts : List Token) (f : FaultAt) → length ts < n → label_test dialect t (first ts) ≡ true → is_sign signs.Name t ≡ true → behind_label dialect m ts ≡ bad f → FirstAt dialect body (t ∷ ts) f
    behind_name t ts f lt is name h =
        let after : Check = λ us. body (t ∷ us) in
        let l : Exact dialect (suc n) (behind_label dialect m) = led_exact dialect (mark (expect signs.Colon)) (optional_operation_at dialect) _ m (sign_exact dialect signs.Colon (colon_written dialect) _ _ (optional_operation_exact dialect n m e)) in
        let reads : ReadsSome dialect after = (a_colon s.text, rw (colon_makes dialect s.text, name) colon) in
        let same : (us : List Token) → first us ≡ first ts → after us ≡ behind_label dialect m us = λ us q. let at : label_test dialect t (first us) ≡ true = ap (label_test dialect t) q ∙ is in rw (at, name) refl in
        farther dialect body after t ts f (sign_goes signs.Name t name) (λ us. refl) (same_first dialect after (behind_label dialect m) ts f same reads (l.placed ts f (omega (arith, lt)) h))

    by_operation : (t : Token) (ts : List Token) (f : FaultAt) → length ts < n → label_test dialect t (first ts) ≡ false → (o : Option Operator) → operator_of dialect t ≡ o → by_operator m o (t ∷ ts) ≡ bad f → FirstAt dialect body (t ∷ ts) f
    by_operation t ts f lt is None none h =
        let name = no_name dialect t (first ts) none is in
        here dialect body (t ∷ ts) f h some (λ us. rw (none, name) refl)
    by_operation t ts f lt is (Some o) found h =
        let after : Check = λ us. body (t ∷ us) in
        let k : Check = followed (behind_at (form_of o.mnemonic.op)) m in
        let b = behind_exact dialect (form_of o.mnemonic.op) n m e in
        let p = behind_plainly dialect (form_of o.mnemonic.op) m (plain_end dialect m s) in
        let none = still_none (is_sign signs.Name t) (is_sign signs.Colon (first ts)) (is_sign signs.Colon (first (tokens_of dialect p.text))) (is_none (operator_in dialect t.text)) is p.no_colon in
        let reads : ReadsSome dialect after = (p.text, rw (none, found) p.reads) in
        let same : (us : List Token) → first us ≡ first ts → after us ≡ k us = λ us q. let at : label_test dialect t (first us) ≡ false = ap (label_test dialect t) q ∙ is in rw (at, found) refl in
        farther dialect body after t ts f (operator_goes dialect t o found) (λ us. refl) (same_first dialect after k ts f same reads (b.placed ts f lt h))

    by_label : (t : Token) (ts : List Token) (f : FaultAt) → length ts < n → (b : Bool) → label_test dialect t (first ts) ≡ b → cond b (followed (expect signs.Name) (behind_label dialect m) (t ∷ ts)) (by_operator m (operator_of dialect t) (t ∷ ts)) ≡ bad f → FirstAt dialect body (t ∷ ts) f
    by_label t ts f lt true is h =
        let name = label_name (is_sign signs.Name t) _ is in
        behind_name t ts f lt is name (rw name at h)
    by_label t ts f lt false is h = by_operation t ts f lt is (operator_of dialect t) refl h

    placed : Below dialect (suc n) body
    placed [] f lt h = here dialect body [] f h some (λ us. refl)
    placed (t ∷ ts) f lt h = by_label t ts f (omega (arith, lt)) (label_test dialect t (first ts)) refl h

abbrev pub solid_line : (dialect : Dialect) → Reading LineText
solid_line dialect = closed (either_line_at dialect) (stand is_line_stop tt)

pub solid_line_exact : (dialect : Dialect) → (n : ℕ) (k : Check) → Below dialect n k → LineEnd dialect k → Exact dialect (suc n) (followed (solid_line dialect) k)
solid_line_exact dialect n k b s = closed_exact dialect (either_line_at dialect) (stand is_line_stop tt) (suc n) k (content_exact dialect n m
    (stand_exact dialect stops_line tt n k b s.text s.stop s.reads)
    (record { text = s.text; stop = s.stop; no_colon = s.no_colon; reads = stand_same is_line_stop tt k (tokens_of dialect s.text) ∙ rw s.stop s.reads }))
  where
    m : Check
    m = followed {X = Unit {0}} (stand is_line_stop tt) k

-- declarations

pub led_blind : {X : Type 0} (m : Reading (Unit {0})) (a : Reading X) (k : Check) → Blind (followed (led (past m) a) k)
led_blind m a k ts = ap (followed (led m a) k) (sym (skips_once ts))

abbrev pub solid_name : Reading Token
solid_name = led (mark (expect signs.Comma)) (past (expect signs.Name))

pub solid_name_exact : (dialect : Dialect) → (n : ℕ) (k : Check) → Exact dialect n k → Exact dialect (suc (suc n)) (followed solid_name k)
solid_name_exact dialect n k e = led_exact dialect (mark (expect signs.Comma)) (past (expect signs.Name)) _ k (sign_exact dialect signs.Comma (comma_written dialect) _ _ (past_expect_exact dialect signs.Name (name_written dialect) n k e))

pub names_listed : Listed no_comma ends_names solid_name name_at
unfolding ends_names name_at
names_listed = record { stop = λ ts. refl; past = λ ts. refl; less = name_shrinks }

pub more_names_exact : (dialect : Dialect) → (n : ℕ) (k : Check) → Exact dialect n k → Blind k → Stopped dialect no_comma k → Exact dialect n (followed (many ends_names name_at) k)
more_names_exact dialect n k e blind s = list_exact dialect no_comma ends_names solid_name name_at n k names_listed blind s e.placed
    (λ p m. (fewer dialect (followed solid_name more) (suc p) (solid_name_exact dialect p more m)).placed)
  where
    more : Check
    more = followed (many ends_names name_at) k

abbrev a_location : Reading Token
a_location = led (keyword (codes "AT")) (past (expect signs.Address))

pub names_exact : (dialect : Dialect) → (n : ℕ) (k : Check) → Exact dialect n k → Blind k → Stopped dialect no_comma k → Exact dialect n (followed names_at k)
unfolding names_at keyword expect spells skip_breaks
names_exact dialect n k e blind s = either_exact dialect (is_word_token (codes "AT")) (mapped Located a_location) (mapped More (many ends_names name_at)) n k
    (fewer dialect (followed (mapped Located a_location) k) n (fewer dialect (followed (mapped Located a_location) k) (suc n) on)).placed
    (mapped_exact dialect More (many ends_names name_at) n k (more_names_exact dialect n k e blind s)).placed
    (an_at (an_address e.some.0)) (rw (at_makes dialect (an_address e.some.0), address_makes dialect e.some.0) e.some.1)
  where
    on : Exact dialect (suc (suc n)) (followed (mapped Located a_location) k)
    on = mapped_exact dialect Located a_location _ k (led_exact dialect (keyword (codes "AT")) (past (expect signs.Address)) _ k (keyword_exact dialect (codes "AT") (at_written dialect) _ _ (past_expect_exact dialect signs.Address (address_written dialect) n k e)))

pub past_names_exact : (dialect : Dialect) → (n : ℕ) (k : Check) → Exact dialect n k → Blind k → Stopped dialect no_comma k → Exact dialect n (followed (past names_at) k)
unfolding names_at keyword expect spells skip_breaks
past_names_exact dialect n k e blind s = past_exact dialect (followed names_at k) n (names_exact dialect n k e blind s).placed (an_at (an_address e.some.0)) (rw (at_makes dialect (an_address e.some.0)) refl) (rw (at_makes dialect (an_address e.some.0), address_makes dialect e.some.0) e.some.1)

abbrev a_value : Reading Token
a_value = led (mark (expect signs.Assign)) (past constant_at)

pub initial_exact : (dialect : Dialect) → (n : ℕ) (k : Check) → Exact dialect n k → Exact dialect n (followed initial_at k)
unfolding initial_at expect constant_at is_constant skip_breaks spells
initial_exact dialect n k e = option_exact dialect (is_sign signs.Assign) (mapped Some a_value) None n k e.placed
    (fewer dialect (followed (mapped Some a_value) k) n (fewer dialect (followed (mapped Some a_value) k) (suc n) on)).placed
    (an_assign (a_truth e.some.0)) (rw (assign_makes dialect (a_truth e.some.0), truth_makes dialect e.some.0) e.some.1)
  where
    on : Exact dialect (suc (suc n)) (followed (mapped Some a_value) k)
    on = mapped_exact dialect Some a_value _ k (led_exact dialect (mark (expect signs.Assign)) (past constant_at) _ k (sign_exact dialect signs.Assign (assign_written dialect) _ _ (past_constant_exact dialect n k e)))

pub past_initial_exact : (dialect : Dialect) → (n : ℕ) (k : Check) → Exact dialect n k → Exact dialect n (followed (past initial_at) k)
unfolding initial_at expect constant_at is_constant skip_breaks spells
past_initial_exact dialect n k e = past_exact dialect (followed initial_at k) n (initial_exact dialect n k e).placed (an_assign (a_truth e.some.0)) (rw (assign_makes dialect (a_truth e.some.0)) refl) (rw (assign_makes dialect (a_truth e.some.0), truth_makes dialect e.some.0) e.some.1)

abbrev valued : Reading (Option Token)
valued = closed (past initial_at) (past (mark (expect signs.Semicolon)))

abbrev typed : Reading (Token × Option Token)
typed = pair (past (expect signs.Name)) valued

abbrev colon_typed : Reading (Token × Option Token)
colon_typed = led (past (mark (expect signs.Colon))) typed

pub typed_exact : (dialect : Dialect) → (n : ℕ) (k : Check) → Exact dialect n k → Exact dialect (suc (suc n)) (followed typed k)
typed_exact dialect n k e = pair_exact dialect (past (expect signs.Name)) valued _ k (past_expect_exact dialect signs.Name (name_written dialect) _ _
    (closed_exact dialect (past initial_at) (past (mark (expect signs.Semicolon))) _ k (past_initial_exact dialect _ _ (past_sign_exact dialect signs.Semicolon (semicolon_written dialect) n k e))))

abbrev pub solid_declaration : Reading DeclarationText
solid_declaration = mapped declared (pair (expect signs.Name) (pair (past names_at) colon_typed))

pub solid_declaration_exact : (dialect : Dialect) → (n : ℕ) (k : Check) → Exact dialect n k → Exact dialect (suc (suc (suc (suc n)))) (followed solid_declaration k)
unfolding expect skip_breaks
solid_declaration_exact dialect n k e = mapped_exact dialect declared (pair (expect signs.Name) (pair (past names_at) colon_typed)) _ k
    (pair_exact dialect (expect signs.Name) (pair (past names_at) colon_typed) _ k (expect_exact dialect signs.Name (name_written dialect) _ _
    (pair_exact dialect (past names_at) colon_typed _ k (past_names_exact dialect _ _ colon (led_blind (mark (expect signs.Colon)) typed k) stopped))))
  where
    t : Exact dialect (suc (suc n)) (followed typed k)
    t = typed_exact dialect n k e

    colon : Exact dialect (suc (suc (suc n))) (followed colon_typed k)
    colon = led_exact dialect (past (mark (expect signs.Colon))) typed _ k (past_sign_exact dialect signs.Colon (colon_written dialect) _ _ t)

    stopped : Stopped dialect no_comma (followed colon_typed k)
    stopped = record { text = a_colon t.some.0; stop = rw (colon_makes dialect t.some.0) refl; solid = rw (colon_makes dialect t.some.0) refl; reads = rw (colon_makes dialect t.some.0) t.some.1 }

pub declarations_listed : Listed (is_word_token (codes "END_VAR")) ends_block solid_declaration declaration_at
unfolding ends_block declaration_at
declarations_listed = record { stop = λ ts. refl; past = λ ts. refl; less = declaration_shrinks }

pub declarations_exact : (dialect : Dialect) → (n : ℕ) (k : Check) → Exact dialect n k → Exact dialect (suc n) (followed (many ends_block declaration_at) (followed (past (keyword (codes "END_VAR"))) k))
unfolding keyword spells skip_breaks
declarations_exact dialect n k e = list_exact dialect (is_word_token (codes "END_VAR")) ends_block solid_declaration declaration_at (suc n) c declarations_listed (past_blind (keyword (codes "END_VAR")) k)
    (record { text = an_end_var e.some.0; stop = rw (end_var_makes dialect e.some.0) refl; solid = rw (end_var_makes dialect e.some.0) refl; reads = rw (end_var_makes dialect e.some.0) e.some.1 })
    (past_keyword_exact dialect (codes "END_VAR") (end_var_written dialect) n k e).placed
    (λ p m. fewer_below dialect (followed solid_declaration more) (suc p) (suc (suc (suc (suc p)))) (omega arith) (solid_declaration_exact dialect p more m).placed)
  where
    c : Check
    c = followed (past (keyword (codes "END_VAR"))) k

    more : Check
    more = followed (many ends_block declaration_at) c

abbrev declared_block : Reading (List DeclarationText)
declared_block = closed (many ends_block declaration_at) (past (keyword (codes "END_VAR")))

abbrev in_block : (dialect : Dialect) → Reading BlockText
in_block dialect = mapped blocked (pair (past (qualifier_at dialect)) declared_block)

abbrev pub solid_block : (dialect : Dialect) → Reading BlockText
solid_block dialect = led (keyword (block_word dialect)) (in_block dialect)

-- the declarations of a block, where something is read behind them
declared_reads : (dialect : Dialect) → (more : Check) (text : List ℕ) → more (tokens_of dialect text) ≡ good → followed declared_block more (tokens_of dialect (an_end_var text)) ≡ good
unfolding keyword spells skip_breaks
declared_reads dialect more text reads =
    closed_same (many ends_block declaration_at) (past (keyword (codes "END_VAR"))) more (tokens_of dialect (an_end_var text))
    ∙ list_some dialect (is_word_token (codes "END_VAR")) ends_block solid_declaration declaration_at (followed (past (keyword (codes "END_VAR"))) more) declarations_listed (past_blind (keyword (codes "END_VAR")) more)
    (record { text = an_end_var text; stop = rw (end_var_makes dialect text) refl; solid = rw (end_var_makes dialect text) refl; reads = rw (end_var_makes dialect text) reads })

-- END_VAR is no qualifier
end_unqualified : (dialect : Dialect) (text : List ℕ) → is_no_qualifier dialect (first (tokens_of dialect (an_end_var text))) ≡ true
unfolding spells
end_unqualified dialects.Plain text = refl
end_unqualified dialects.Extended text = rw (end_var_makes dialects.Extended text) refl

pub either_qualifier_exact : (dialect : Dialect) → (n : ℕ) (k : Check) → Exact dialect n k → Exact dialect (suc n) (followed either_qualifier_at k)
unfolding either_qualifier_at keyword spells
either_qualifier_exact dialect n k e = either_exact dialect (is_word_token (codes "RETAIN")) (this_qualifier qualifiers.Retain) (this_qualifier qualifiers.NonRetain) (suc n) k
    (mapped_exact dialect (λ u. qualifiers.Retain) (keyword (codes "RETAIN")) _ k (keyword_exact dialect (codes "RETAIN") (retain_written dialect) n k e)).placed
    (mapped_exact dialect (λ u. qualifiers.NonRetain) (keyword (codes "NON_RETAIN")) _ k (keyword_exact dialect (codes "NON_RETAIN") (non_retain_written dialect) n k e)).placed
    (written (codes "RETAIN") e.some.0) (rw (retain_makes dialect e.some.0) e.some.1)

-- a qualifier, or none, in front of the declarations of a block
pub qualifier_exact : (dialect : Dialect) → (n : ℕ) (k : Check) → Exact dialect n k → Exact dialect (suc n) (followed (qualifier_at dialect) (followed declared_block k))
unfolding qualifier_at
qualifier_exact dialect n k e = stop_exact dialect (is_no_qualifier dialect) None (mapped Some either_qualifier_at) (suc n) rest
    rest_exact.placed
    (fewer dialect (followed (mapped Some either_qualifier_at) rest) (suc n) (mapped_exact dialect Some either_qualifier_at _ rest (either_qualifier_exact dialect (suc n) rest rest_exact))).placed
    (an_end_var e.some.0) (rw (end_unqualified dialect e.some.0) (declared_reads dialect k e.some.0 e.some.1))
  where
    rest : Check
    rest = followed declared_block k

    rest_exact : Exact dialect (suc n) rest
    rest_exact = closed_exact dialect (many ends_block declaration_at) (past (keyword (codes "END_VAR"))) _ k (declarations_exact dialect n k e)

-- no qualifier, and the declarations of a block, where something is read behind them
qualified_reads : (dialect : Dialect) → (more : Check) (text : List ℕ) → more (tokens_of dialect text) ≡ good → followed (qualifier_at dialect) (followed declared_block more) (tokens_of dialect (an_end_var text)) ≡ good
unfolding qualifier_at
qualified_reads dialect more text reads =
    stop_same (no_qualifier dialect) None (mapped Some either_qualifier_at) (followed declared_block more) (tokens_of dialect (an_end_var text))
    ∙ rw (end_unqualified dialect text) (declared_reads dialect more text reads)

-- the rest of a block, where something is read behind it
block_reads : (dialect : Dialect) → (more : Check) (text : List ℕ) → more (tokens_of dialect text) ≡ good → followed (in_block dialect) more (tokens_of dialect (an_end_var text)) ≡ good
block_reads dialect more text reads =
    mapped_same blocked (pair (past (qualifier_at dialect)) declared_block) more (tokens_of dialect (an_end_var text))
    ∙ pair_same (past (qualifier_at dialect)) declared_block more (tokens_of dialect (an_end_var text))
    ∙ ap (λ (ts : List Token). followed (qualifier_at dialect) (followed declared_block more) ts) (no_break (tokens_of dialect (an_end_var text)) (rw (end_var_makes dialect text) refl))
    ∙ qualified_reads dialect more text reads

pub in_block_exact : (dialect : Dialect) → (n : ℕ) (k : Check) → Exact dialect n k → Exact dialect (suc n) (followed (in_block dialect) k)
in_block_exact dialect n k e = mapped_exact dialect blocked (pair (past (qualifier_at dialect)) declared_block) (suc n) k
    (pair_exact dialect (past (qualifier_at dialect)) declared_block (suc n) k
    (past_exact dialect (followed (qualifier_at dialect) (followed declared_block k)) (suc n) (qualifier_exact dialect n k e).placed (an_end_var e.some.0) (rw (end_var_makes dialect e.some.0) refl) (qualified_reads dialect k e.some.0 e.some.1)))

pub solid_block_exact : (dialect : Dialect) → (n : ℕ) (k : Check) → Exact dialect n k → Exact dialect (suc (suc n)) (followed (solid_block dialect) k)
unfolding spells
solid_block_exact dialect n k e = led_exact dialect (keyword (block_word dialect)) (in_block dialect) _ k (keyword_exact dialect (block_word dialect) (var_written dialect) _ _ (in_block_exact dialect n k e))

abbrev many_blocks : (dialect : Dialect) → Check → Check
many_blocks dialect k = followed (many (ends_blocks dialect) (block_at dialect)) k

-- what is checked behind line ends: a block and more of them, or what stands behind the blocks
abbrev blocks_body : (dialect : Dialect) → Check → Check → Check
blocks_body dialect k more us = cond (begins_block dialect us) (followed (solid_block dialect) more us) (k us)

turned : (c : Bool) (a b : Result (Unit {0}) FaultAt) → cond (not c) a b ≡ cond c b a
turned true a b = refl
turned false a b = refl

blocks_same : (dialect : Dialect) → (k : Check) → Blind k → (ts : List Token) → many_blocks dialect k ts ≡ blocks_body dialect k (many_blocks dialect k) (skip_breaks ts)
unfolding ends_blocks block_at declared_at
blocks_same dialect k blind ts =
    let block = followed (solid_block dialect) (many_blocks dialect k) (skip_breaks ts) in
    unrolls (ends_blocks dialect) (block_at dialect) (block_shrinks dialect) k ts
    ∙ turned (begins_block dialect (skip_breaks ts)) (k ts) block
    ∙ ap (λ (z : Result (Unit {0}) FaultAt). cond (begins_block dialect (skip_breaks ts)) block z) (blind ts)

pub blocks_blind : (dialect : Dialect) → (k : Check) → Blind k → Blind (many_blocks dialect k)
blocks_blind dialect k blind ts = blocks_same dialect k blind ts ∙ sym (blocks_same dialect k blind (skip_breaks ts) ∙ ap (blocks_body dialect k (many_blocks dialect k)) (skips_once ts))

-- something that is read behind blocks, and begins none
pub record NoBlock (dialect : Dialect) (k : Check) : Type 0 where
  pub text : List ℕ
  pub stop : begins_block dialect (tokens_of dialect text) ≡ false
  pub solid : is_sign signs.Break (first (tokens_of dialect text)) ≡ false
  pub reads : k (tokens_of dialect text) ≡ good

body_reads : (dialect : Dialect) → (k more : Check) (s : NoBlock dialect k) → blocks_body dialect k more (tokens_of dialect s.text) ≡ good
body_reads dialect k more s =
    let ts = tokens_of dialect s.text in
    ap (λ (c : Bool). cond c (followed (solid_block dialect) more ts) (k ts)) s.stop ∙ s.reads

blocks_read : (dialect : Dialect) → (k : Check) → Blind k → (s : NoBlock dialect k) → many_blocks dialect k (tokens_of dialect s.text) ≡ good
blocks_read dialect k blind s =
    let more = many_blocks dialect k in
    blocks_same dialect k blind (tokens_of dialect s.text) ∙ ap (blocks_body dialect k more) (no_break (tokens_of dialect s.text) s.solid) ∙ body_reads dialect k more s

no_block : (dialect : Dialect) → (t : Token) (ts : List Token) → is_word_token (block_word dialect) t ≡ false → begins_block dialect (t ∷ ts) ≡ false
no_block dialects.Plain t ts e = e
no_block dialects.Extended t ts e = rw e refl

-- what is checked behind the word where it is a label
pub record Labels (dialect : Dialect) (k : Check) : Type 0 where
  pub label : Check
  pub same : (t : Token) (us : List Token) → is_word_token (codes "VAR_GLOBAL") t ≡ true → is_sign signs.Colon (first us) ≡ true → k (t ∷ us) ≡ label us
  pub exact : (n : ℕ) → Below dialect n label

-- behind VAR_GLOBAL a label goes on, or a block
extended_below : (k : Check) (p : ℕ) → Below dialects.Extended (suc p) k → Labels dialects.Extended k → NoBlock dialects.Extended k → Exact dialects.Extended p (many_blocks dialects.Extended k) → Below dialects.Extended (suc p) (blocks_body dialects.Extended k (many_blocks dialects.Extended k))
unfolding keyword
extended_below k p b l s m = placed
  where
    more : Check
    more = many_blocks dialects.Extended k

    body : Check
    body = blocks_body dialects.Extended k more

    after : Check
    after = chosen_by (is_sign signs.Colon) l.label (followed (in_block dialects.Extended) more)

    some : ReadsSome dialects.Extended body
    some = (s.text, body_reads dialects.Extended k more s)

    reads : ReadsSome dialects.Extended after
    reads =
        let text = an_end_var m.some.0 in
        let no_colon : is_sign signs.Colon (first (tokens_of dialects.Extended text)) ≡ false = rw (end_var_makes dialects.Extended m.some.0) refl in
        (text, ap (λ (c : Bool). cond c (l.label (tokens_of dialects.Extended text)) (followed (in_block dialects.Extended) more (tokens_of dialects.Extended text))) no_colon ∙ block_reads dialects.Extended more m.some.0 m.some.1)

    below : Below dialects.Extended (suc p) after
    below = choice_below dialects.Extended (is_sign signs.Colon) l.label (followed (in_block dialects.Extended) more) (suc p) (l.exact (suc p))
        (in_block_exact dialects.Extended p more m).placed reads

    same : (t : Token) (us : List Token) → is_word_token (codes "VAR_GLOBAL") t ≡ true → body (t ∷ us) ≡ after us
    same t us is = by_colon (is_sign signs.Colon (first us)) refl
      where
        by_colon : (c : Bool) → is_sign signs.Colon (first us) ≡ c → body (t ∷ us) ≡ after us
        by_colon true colon = rw (is, colon) (l.same t us is colon)
        by_colon false colon = rw (is, colon) refl

    other : (us : List Token) → is_word_token (codes "VAR_GLOBAL") (first us) ≡ false → body us ≡ k us
    other us is = rw is refl

    by_word : (t : Token) (ts : List Token) (f : FaultAt) → length ts < p → (c : Bool) → is_word_token (codes "VAR_GLOBAL") t ≡ c → body (t ∷ ts) ≡ bad f → FirstAt dialects.Extended body (t ∷ ts) f
    by_word t ts f lt true is h = farther dialects.Extended body after t ts f ((var_written dialects.Extended).goes t is) (λ us. same t us is) (below ts f (omega (arith, lt)) (sym (same t ts is) ∙ h))
    by_word t ts f lt false is h = same_first dialects.Extended body k (t ∷ ts) f (λ us e. other us (ap (is_word_token (codes "VAR_GLOBAL")) e ∙ is)) some (b (t ∷ ts) f (omega (arith, lt)) (sym (other (t ∷ ts) is) ∙ h))

    placed : Below dialects.Extended (suc p) body
    placed [] f lt h = same_first dialects.Extended body k [] f (λ us e. other us (ap (is_word_token (codes "VAR_GLOBAL")) e)) some (b [] f lt h)
    placed (t ∷ ts) f lt h = by_word t ts f (omega (arith, lt)) (is_word_token (codes "VAR_GLOBAL") t) refl h

body_below : (dialect : Dialect) → (k : Check) (p : ℕ) → Below dialect (suc p) k → Labels dialect k → NoBlock dialect k → Exact dialect p (many_blocks dialect k) → Below dialect (suc p) (blocks_body dialect k (many_blocks dialect k))
body_below dialects.Plain k p b l s m =
    let more = many_blocks dialects.Plain k in
    let block : Check = followed (solid_block dialects.Plain) more in
    choice_below dialects.Plain (is_word_token (codes "VAR")) block k (suc p) (fewer dialects.Plain block (suc p) (solid_block_exact dialects.Plain p more m)).placed b (s.text, body_reads dialects.Plain k more s)
body_below dialects.Extended k p b l s m = extended_below k p b l s m

pub blocks_exact : (dialect : Dialect) → (n : ℕ) (k : Check) → Below dialect n k → Blind k → NoBlock dialect k → Labels dialect k → Exact dialect n (many_blocks dialect k)
blocks_exact dialect n k b blind s l = record { placed = climb n (omega arith); some = some }
  where
    some : ReadsSome dialect (many_blocks dialect k)
    some = (s.text, blocks_read dialect k blind s)

    climb : (p : ℕ) → p ≤ n → Below dialect p (many_blocks dialect k)
    climb zero le = λ ts f lt h. absurd (omega (arith, lt))
    climb (suc p) le =
        let more = many_blocks dialect k in
        let body : Check = blocks_body dialect k more in
        let below = body_below dialect k p (fewer_below dialect k (suc p) n le b) l s (record { placed = climb p (omega (arith, le)); some = some }) in
        let behind : ReadsSome dialect (behind_breaks body) = (s.text, ap body (no_break (tokens_of dialect s.text) s.solid) ∙ body_reads dialect k more s) in
        same_below dialect more (behind_breaks body) (suc p) (blocks_same dialect k blind) (past_below dialect body (suc p) below behind)

-- programs

-- nothing is asked of what follows a program
abbrev final : Check
final ts = good

good_is_bad : (f : FaultAt) → good ≡ bad f → ⊥
good_is_bad f e = absurd cc

final_below : (dialect : Dialect) → (n : ℕ) → Below dialect n final
final_below dialect n ts f lt h = absurd (good_is_bad f h)

pub past_end_exact : (dialect : Dialect) → (n : ℕ) → Exact dialect n (followed (past end_at) final)
unfolding end_at
past_end_exact dialect n = past_exact dialect (followed end_at final) n (stand_exact dialect (is_end) tt n final (final_below dialect n) [] (rw (end_makes dialect) refl) refl).placed [] (rw (end_makes dialect) refl) (rw (end_makes dialect) refl)

pub finish_exact : (dialect : Dialect) → (n : ℕ) → Exact dialect (suc n) (followed finish_at final)
unfolding finish_at spells
finish_exact dialect n = led_exact dialect (past (keyword (codes "END_PROGRAM"))) (past end_at) _ final (past_keyword_exact dialect (codes "END_PROGRAM") (end_program_written dialect) n _ (past_end_exact dialect n))

-- the lines of a program, and what stands behind them
pub lines_exact : (dialect : Dialect) → (q : Token → Bool) (stops : List Token → Bool) (n : ℕ) (k : Check) → Listed q stops (solid_line dialect) (line_at dialect) → Blind k → Stopped dialect q k → Below dialect n k → LineEnd dialect (followed (many stops (line_at dialect)) k) → Exact dialect n (followed (many stops (line_at dialect)) k)
lines_exact dialect q stops n k listed blind s b ends = list_exact dialect q stops (solid_line dialect) (line_at dialect) n k listed blind s b (λ p m. (solid_line_exact dialect p (followed (many stops (line_at dialect)) k) m.placed ends).placed)

bare_listed : (dialect : Dialect) → Listed (is_end) ends_lines (solid_line dialect) (line_at dialect)
unfolding ends_lines line_at
bare_listed dialect = record { stop = λ ts. refl; past = λ ts. refl; less = line_shrinks dialect }

named_listed : (dialect : Dialect) → Listed (is_word_token (codes "END_PROGRAM")) ends_named (solid_line dialect) (line_at dialect)
unfolding ends_named line_at
named_listed dialect = record { stop = λ ts. refl; past = λ ts. refl; less = line_shrinks dialect }

abbrev bare_lines : (dialect : Dialect) → Check
bare_lines dialect = followed (many ends_lines (line_at dialect)) (followed (past end_at) final)

abbrev named_lines : (dialect : Dialect) → Check
named_lines dialect = followed (many ends_named (line_at dialect)) (followed finish_at final)

bare_stopped : (dialect : Dialect) → Stopped dialect (is_end) (followed (past end_at) final)
unfolding end_at skip_breaks
bare_stopped dialect = record { text = []; stop = rw (end_makes dialect) refl; solid = rw (end_makes dialect) refl; reads = rw (end_makes dialect) refl }

named_stopped : (dialect : Dialect) → Stopped dialect (is_word_token (codes "END_PROGRAM")) (followed finish_at final)
unfolding finish_at keyword end_at skip_breaks spells
named_stopped dialect = record { text = an_end_program []; stop = rw (end_program_makes dialect []) refl; solid = rw (end_program_makes dialect []) refl; reads = rw (end_program_makes dialect [], end_makes dialect) refl }

pub finish_blind : Blind (followed finish_at final)
unfolding finish_at
finish_blind = led_blind (keyword (codes "END_PROGRAM")) (past end_at) final

pub bare_lines_blind : (dialect : Dialect) → Blind (bare_lines dialect)
bare_lines_blind dialect = list_blind (is_end) ends_lines (solid_line dialect) (line_at dialect) (followed (past end_at) final) (bare_listed dialect) (past_blind end_at final)

pub named_lines_blind : (dialect : Dialect) → Blind (named_lines dialect)
named_lines_blind dialect = list_blind (is_word_token (codes "END_PROGRAM")) ends_named (solid_line dialect) (line_at dialect) (followed finish_at final) (named_listed dialect) finish_blind

bare_lines_read : (dialect : Dialect) → bare_lines dialect (tokens_of dialect []) ≡ good
unfolding bare_stopped
bare_lines_read dialect = list_some dialect (is_end) ends_lines (solid_line dialect) (line_at dialect) (followed (past end_at) final) (bare_listed dialect) (past_blind end_at final) (bare_stopped dialect)

named_lines_read : (dialect : Dialect) → named_lines dialect (tokens_of dialect (an_end_program [])) ≡ good
unfolding named_stopped
named_lines_read dialect = list_some dialect (is_word_token (codes "END_PROGRAM")) ends_named (solid_line dialect) (line_at dialect) (followed finish_at final) (named_listed dialect) finish_blind (named_stopped dialect)

bare_end : (dialect : Dialect) → LineEnd dialect (bare_lines dialect)
bare_end dialect = record { text = []; stop = rw (end_makes dialect) refl; no_colon = rw (end_makes dialect) refl; reads = bare_lines_read dialect }

pub bare_lines_exact : (dialect : Dialect) → (n : ℕ) → Exact dialect n (bare_lines dialect)
bare_lines_exact dialect n = lines_exact dialect (is_end) ends_lines n (followed (past end_at) final) (bare_listed dialect) (past_blind end_at final) (bare_stopped dialect) (past_end_exact dialect n).placed (bare_end dialect)

named_end : (dialect : Dialect) → LineEnd dialect (named_lines dialect)
unfolding skip_breaks
named_end dialect = record { text = a_break (an_end_program []); stop = rw (break_makes dialect (an_end_program [])) refl; no_colon = rw (break_makes dialect (an_end_program [])) refl; reads = broken }
  where
    broken : named_lines dialect (tokens_of dialect (a_break (an_end_program []))) ≡ good
    broken = ap (named_lines dialect) (break_makes dialect (an_end_program []))
        ∙ named_lines_blind dialect (token_of signs.Break (10 ∷ []) (an_end_program []) ∷ tokens_of dialect (an_end_program []))
        ∙ sym (named_lines_blind dialect (tokens_of dialect (an_end_program [])))
        ∙ named_lines_read dialect

pub named_lines_exact : (dialect : Dialect) → (n : ℕ) → Exact dialect n (named_lines dialect)
named_lines_exact dialect n = lines_exact dialect (is_word_token (codes "END_PROGRAM")) ends_named n (followed finish_at final) (named_listed dialect) finish_blind (named_stopped dialect) (fewer dialect (followed finish_at final) n (finish_exact dialect n)).placed (named_end dialect)

-- a name is no line end, and not the end
name_class : (c : Class) → is_class_of signs.Name c ≡ true → (is_class_of signs.Break c ≡ false) × (is_end_class c ≡ false)
name_class (classes.Sign signs.Name) e = (refl, refl)
name_class c e = absurd cc

and_right : (a b : Bool) → (a && b) ≡ true → b ≡ true
and_right true b e = e
and_right false b e = absurd cc

-- a label's name before a colon begins a line, and what is checked behind it is that of a label
lines_labels : (dialect : Dialect) → (q : Token → Bool) (stops : List Token → Bool) (k : Check) → Listed q stops (solid_line dialect) (line_at dialect) → Blind k
    → ((t : Token) → is_word_token (codes "VAR_GLOBAL") t ≡ true → q t ≡ false) → LineEnd dialect (followed (many stops (line_at dialect)) k)
    → ((n : ℕ) → Exact dialect n (followed (many stops (line_at dialect)) k)) → Labels dialect (followed (many stops (line_at dialect)) k)
unfolding is_label expect
lines_labels dialect q stops k listed blind goes s all = record { label = behind_label dialect m; same = same; exact = exact }
  where
    lines : Check
    lines = followed (many stops (line_at dialect)) k

    m : Check
    m = followed {X = Unit {0}} (stand is_line_stop tt) lines

    exact : (n : ℕ) → Below dialect n (behind_label dialect m)
    exact n = (fewer dialect (behind_label dialect m) n (led_exact dialect (mark (expect signs.Colon)) (optional_operation_at dialect) _ m (sign_exact dialect signs.Colon (colon_written dialect) _ _ (optional_operation_exact dialect n m (stand_exact dialect stops_line tt n lines (all n).placed s.text s.stop s.reads))))).placed

    same : (t : Token) (us : List Token) → is_word_token (codes "VAR_GLOBAL") t ≡ true → is_sign signs.Colon (first us) ≡ true → lines (t ∷ us) ≡ behind_label dialect m us
    same t us is colon =
        let name : is_sign signs.Name t ≡ true = label_name (is_sign signs.Name t) _ is in
        let labelled_line : line_body dialect m (t ∷ us) ≡ behind_label dialect m us = rw (name, colon) refl in
        list_same q stops (solid_line dialect) (line_at dialect) k listed blind (t ∷ us)
        ∙ ap (turn q (solid_line dialect) k lines) (no_break (t ∷ us) (name_class t.class name).0)
        ∙ ap (λ (c : Bool). cond c (k (t ∷ us)) (followed (solid_line dialect) lines (t ∷ us))) (goes t is)
        ∙ closed_same (either_line_at dialect) (stand is_line_stop tt) lines (t ∷ us)
        ∙ content_same dialect m (t ∷ us)
        ∙ labelled_line

no_end : (t : Token) → is_word_token (codes "VAR_GLOBAL") t ≡ true → is_end t ≡ false
no_end t is = (name_class t.class (label_name (is_sign signs.Name t) _ is)).1

words_apart : (w : List ℕ) → spells (codes "VAR_GLOBAL") w ≡ true → spells (codes "END_PROGRAM") w ≡ false
unfolding spells
words_apart [] e = refl
words_apart (b ∷ bs) e = let v : upper b ≡ 86 = eqb-true (upper b) 86 (label_name (eqb (upper b) 86) _ e) in rw v refl

no_end_program : (t : Token) → is_word_token (codes "VAR_GLOBAL") t ≡ true → is_word_token (codes "END_PROGRAM") t ≡ false
no_end_program t is =
    let other = words_apart t.text (and_right (is_sign signs.Name t) (spells (codes "VAR_GLOBAL") t.text) is) in
    rw (label_name (is_sign signs.Name t) _ is, other) refl

abbrev bare_body : (dialect : Dialect) → Reading (List LineText)
bare_body dialect = closed (many ends_lines (line_at dialect)) (past end_at)

abbrev named_body : (dialect : Dialect) → Reading (List LineText)
named_body dialect = closed (many ends_named (line_at dialect)) finish_at

bare_body_same : (dialect : Dialect) → (ts : List Token) → followed (bare_body dialect) final ts ≡ bare_lines dialect ts
bare_body_same dialect = closed_same (many ends_lines (line_at dialect)) (past end_at) final

named_body_same : (dialect : Dialect) → (ts : List Token) → followed (named_body dialect) final ts ≡ named_lines dialect ts
named_body_same dialect = closed_same (many ends_named (line_at dialect)) finish_at final

pub bare_body_blind : (dialect : Dialect) → Blind (followed (bare_body dialect) final)
bare_body_blind dialect ts = bare_body_same dialect ts ∙ bare_lines_blind dialect ts ∙ sym (bare_body_same dialect (skip_breaks ts))

pub named_body_blind : (dialect : Dialect) → Blind (followed (named_body dialect) final)
named_body_blind dialect ts = named_body_same dialect ts ∙ named_lines_blind dialect ts ∙ sym (named_body_same dialect (skip_breaks ts))

bare_body_stopped : (dialect : Dialect) → NoBlock dialect (followed (bare_body dialect) final)
bare_body_stopped dialect = record { text = []; stop = ap (begins_block dialect) (end_makes dialect) ∙ no_block dialect no_token [] refl; solid = rw (end_makes dialect) refl; reads = bare_body_same dialect (tokens_of dialect []) ∙ bare_lines_read dialect }

end_program_apart : (dialect : Dialect) → is_word_token (block_word dialect) (token_of signs.Name (codes "END_PROGRAM") []) ≡ false
unfolding spells
end_program_apart dialects.Plain = refl
end_program_apart dialects.Extended = refl

named_body_stopped : (dialect : Dialect) → NoBlock dialect (followed (named_body dialect) final)
named_body_stopped dialect = record {
  text = an_end_program [];
  stop = ap (begins_block dialect) (end_program_makes dialect []) ∙ no_block dialect (token_of signs.Name (codes "END_PROGRAM") []) (tokens_of dialect []) (end_program_apart dialect);
  solid = rw (end_program_makes dialect []) refl;
  reads = named_body_same dialect (tokens_of dialect (an_end_program [])) ∙ named_lines_read dialect;
}

bare_labels : (dialect : Dialect) → Labels dialect (followed (bare_body dialect) final)
bare_labels dialect =
    let l = lines_labels dialect is_end ends_lines (followed (past end_at) final) (bare_listed dialect) (past_blind end_at final) no_end (bare_end dialect) (bare_lines_exact dialect) in
    record { label = l.label; same = λ t us is colon. bare_body_same dialect (t ∷ us) ∙ l.same t us is colon; exact = l.exact }

named_labels : (dialect : Dialect) → Labels dialect (followed (named_body dialect) final)
named_labels dialect =
    let l = lines_labels dialect (is_word_token (codes "END_PROGRAM")) ends_named (followed finish_at final) (named_listed dialect) finish_blind no_end_program (named_end dialect) (named_lines_exact dialect) in
    record { label = l.label; same = λ t us is colon. named_body_same dialect (t ∷ us) ∙ l.same t us is colon; exact = l.exact }

abbrev bare_blocks : (dialect : Dialect) → Check
bare_blocks dialect = followed (many (ends_blocks dialect) (block_at dialect)) (followed (bare_body dialect) final)

abbrev named_blocks : (dialect : Dialect) → Check
named_blocks dialect = followed (many (ends_blocks dialect) (block_at dialect)) (followed (named_body dialect) final)

pub bare_blocks_exact : (dialect : Dialect) → (n : ℕ) → Exact dialect n (bare_blocks dialect)
bare_blocks_exact dialect n = blocks_exact dialect n (followed (bare_body dialect) final) (closed_exact dialect (many ends_lines (line_at dialect)) (past end_at) n final (bare_lines_exact dialect n)).placed (bare_body_blind dialect) (bare_body_stopped dialect) (bare_labels dialect)

pub named_blocks_exact : (dialect : Dialect) → (n : ℕ) → Exact dialect n (named_blocks dialect)
named_blocks_exact dialect n = blocks_exact dialect n (followed (named_body dialect) final) (closed_exact dialect (many ends_named (line_at dialect)) finish_at n final (named_lines_exact dialect n)).placed (named_body_blind dialect) (named_body_stopped dialect) (named_labels dialect)

bare_same : (dialect : Dialect) → (ts : List Token) → followed (bare_at dialect) final ts ≡ bare_blocks dialect ts
unfolding bare_at
bare_same dialect ts = mapped_same bare_program (pair (many (ends_blocks dialect) (block_at dialect)) (bare_body dialect)) final ts ∙ pair_same (many (ends_blocks dialect) (block_at dialect)) (bare_body dialect) final ts

pub bare_blind : (dialect : Dialect) → Blind (followed (bare_at dialect) final)
bare_blind dialect ts =
    let seen : Blind (bare_blocks dialect) = blocks_blind dialect (followed (bare_body dialect) final) (bare_body_blind dialect) in
    bare_same dialect ts ∙ seen ts ∙ sym (bare_same dialect (skip_breaks ts))

bare_read : (dialect : Dialect) → followed (bare_at dialect) final (tokens_of dialect []) ≡ good
unfolding bare_body_stopped
bare_read dialect = bare_same dialect (tokens_of dialect []) ∙ blocks_read dialect (followed (bare_body dialect) final) (bare_body_blind dialect) (bare_body_stopped dialect)

abbrev titled : (dialect : Dialect) → Reading ProgramText
titled dialect = mapped named_program (pair (expect signs.Name) (pair (many (ends_blocks dialect) (block_at dialect)) (named_body dialect)))

abbrev pub solid_named : (dialect : Dialect) → Reading ProgramText
solid_named dialect = led (keyword (codes "PROGRAM")) (titled dialect)

pub solid_named_exact : (dialect : Dialect) → (n : ℕ) → Exact dialect n (followed (solid_named dialect) final)
unfolding spells
solid_named_exact dialect n = fewer dialect (followed (solid_named dialect) final) n (fewer dialect (followed (solid_named dialect) final) (suc n)
    (led_exact dialect (keyword (codes "PROGRAM")) (titled dialect) _ final (keyword_exact dialect (codes "PROGRAM") (program_written dialect) _ _
    (mapped_exact dialect named_program (pair (expect signs.Name) (pair (many (ends_blocks dialect) (block_at dialect)) (named_body dialect))) _ final
    (pair_exact dialect (expect signs.Name) (pair (many (ends_blocks dialect) (block_at dialect)) (named_body dialect)) _ final (expect_exact dialect signs.Name (name_written dialect) n _
    (pair_exact dialect (many (ends_blocks dialect) (block_at dialect)) (named_body dialect) n final (named_blocks_exact dialect n))))))))

pub program_exact : (dialect : Dialect) → (n : ℕ) → Exact dialect n (followed (program_at dialect) final)
unfolding program_at begins_program named_at
program_exact dialect n = same_exact dialect (followed (program_at dialect) final) (behind_breaks body) n same (past_exact dialect body n below [] (rw (end_makes dialect) refl) reads)
  where
    body : Check
    body = chosen_by (is_word_token (codes "PROGRAM")) (followed (solid_named dialect) final) (followed (bare_at dialect) final)

    reads : body (tokens_of dialect []) ≡ good
    reads = ap (λ (c : Bool). cond c (followed (solid_named dialect) final (tokens_of dialect [])) (followed (bare_at dialect) final (tokens_of dialect []))) (ap (λ (ts : List Token). is_word_token (codes "PROGRAM") (first ts)) (end_makes dialect)) ∙ bare_read dialect

    below : Below dialect n body
    below = choice_below dialect (is_word_token (codes "PROGRAM")) (followed (solid_named dialect) final) (followed (bare_at dialect) final) n (solid_named_exact dialect n).placed
        (same_below dialect (followed (bare_at dialect) final) (bare_blocks dialect) n (bare_same dialect) (bare_blocks_exact dialect n).placed) ([], reads)

    same : (ts : List Token) → followed (program_at dialect) final ts ≡ behind_breaks body ts
    same ts = choice_same begins_program (named_at dialect) (bare_at dialect) final ts ∙ rw (bare_blind dialect ts) refl

-- the law

read_good : (r : Result (ProgramText × List Token) FaultAt) → (r >>= λ x. final x.1) ≡ good → (x : ProgramText × List Token) × (r ≡ Ok x)
read_good (Ok x) e = (x, refl)
read_good (Err f) e = absurd cc

-- where it stands by the checks, it stands by the grammar
by_grammar : (dialect : Dialect) → (tokens : List Token) (f : FaultAt) (at : FirstAt dialect (followed (program_at dialect) final) tokens f) → StandsAt dialect at.before (first at.rest) f
by_grammar dialect tokens f at = record {
  fault = at.fault;
  begun =
      let x = read_good (program_at dialect (at.before ++ tokens_of dialect at.more)) at.completes in
      (at.more, x.0.0, (x.0.1, ((program_law dialect).takes (at.before ++ tokens_of dialect at.more) x.0 x.1).1));
  not_begun = λ b.
      let joined : (at.before ++ first at.rest ∷ []) ++ b.0 ≡ at.before ++ first at.rest ∷ b.0 = append_assoc at.before (first at.rest ∷ []) b.0 in
      let read = (program_law dialect).again b.1 ((at.before ++ first at.rest ∷ []) ++ b.0) b.2.0 tt b.2.1 in
      let e : followed (program_at dialect) final ((at.before ++ first at.rest ∷ []) ++ b.0) ≡ good = rw read refl in
      good_is_bad f (sym e ∙ ap (followed (program_at dialect) final) joined ∙ at.never b.0);
}

-- the place, behind tokens of which each may be followed
pub record Placed (dialect : Dialect) (tokens : List Token) (f : FaultAt) : Type 0 where
  pub before : List Token
  pub rest : List Token
  pub parts : before ++ rest ≡ tokens
  pub inner : AllByRecursion GoesOn before
  pub stands : StandsAt dialect before (first rest) f

pub place_of : (dialect : Dialect) → (tokens : List Token) (f : FaultAt) → program_at dialect tokens ≡ Err f → Placed dialect tokens f
place_of dialect tokens f h =
    let at : FirstAt dialect (followed (program_at dialect) final) tokens f = (program_exact dialect (suc (length tokens))).placed tokens f (omega arith) (rw h refl) in
    record { before = at.before; rest = at.rest; parts = at.parts; inner = at.inner; stands = by_grammar dialect tokens f at }
