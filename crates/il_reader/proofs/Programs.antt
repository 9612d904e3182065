-- The laws of each part of the grammar.
use Rattle.std.proofs.Common.{◌≡◌, ℕ, length, ◌<◌, eqb, Bool, true, false, cond, List, [], ◌∷◌, ◌++◌, Option, Some, None, Result, Ok, refl, sym, ap, subst, ◌∙◌, arith, codes, inl, inr, ◌⊎◌, ◌&&◌, ◌||◌}
use Rattle.std.specs.List.{flat_map}
use Rattle.std.proofs.lemmas.Bool.{eqb-true}
use Rattle.il_model.specs.declared.dialect.Dialect.{Dialect}
use Rattle.il_reader.specs.declared.fault.FaultAt.{FaultAt}
use Rattle.il_reader.specs.declared.lexeme.Sign.{Sign}
use Rattle.il_reader.specs.declared.lexeme.Sign.TheVariants as signs
use Rattle.il_reader.specs.declared.lexeme.Class.{Class}
use Rattle.il_reader.specs.declared.lexeme.Class.TheVariants as classes
use Rattle.il_reader.specs.declared.contents.Operator.{Operator}
use Rattle.il_values.specs.Spelled.{spells, upper}
use Rattle.il_reader.specs.declared.contents.Qualifier.{Qualifier}
use Rattle.il_reader.specs.declared.contents.Qualifier.TheVariants as qualifiers
use Rattle.il_model.specs.declared.program.Side.{Side}
use Rattle.il_model.specs.declared.program.Side.TheVariants as sides
use Rattle.il_reader.specs.declared.operations.Form.{Form}
use Rattle.il_reader.specs.declared.operations.Form.TheVariants as forms
use Rattle.il_reader.specs.Tokens.{Token}
use Rattle.il_reader.specs.Front.{same_sign, is_class_of, is_sign, is_end_class, first, skip_breaks, next_is, at_end, is_word_token, next_is_word}
use Rattle.il_reader.specs.Reading.{◌>>=◌, Reading, expect, both, pair, choice, mapped, mark, stand, many, closed, keyword}
use Rattle.il_reader.specs.Grammar.{block_word, OperandText, Constant, Direct, Named, Field, ArgumentText, CallText, BehindText, Nothing, Given, Target, Opened, Called, no_dot, before_dot, before_no_dot, ends_arguments, before_close, no_open, OperationText, LineText, Labelled, Plain, NamesText, Located, More, DeclarationText, ProgramText, is_truth, is_variable, is_constant, form_of, operator_of, is_line_stop, is_label, is_no_label, ends_lines, ends_named, ends_names, no_value, ends_block, ends_blocks, begins_program, BlockText, qualifier_word, no_qualifier, reads_as_qualifier}
use Rattle.il_reader.specs.Walk.{field_at, inner_field_at, named_by, named, next_is_variable, lone_at, inner_operand_at, an_output, an_input, side_at, an_argument, argument_at, next_argument_at, together, inside_at, arguments_at, a_call, call_at, operator_at, variable_at, constant_at, operand_at, optional_operand_at, nested_at, either_at, behind_at, operation_at, optional_operation_at, labelled, labelled_at, plain_at, either_line_at, line_at, name_at, names_at, initial_at, declared, declaration_at, either_qualifier_at, qualifier_at, declared_at, blocked, block_at, named_program, bare_program, end_at, finish_at, named_at, bare_at, program_at}
use Rattle.il_reader.specs.Spelling.{Part, breaks, one, this, operator, ahead, Spell, name, sign, word, spelled_operand, spelled_inner_operand, spelled_side, spelled_argument, spelled_next, spelled_inside, spelled_arguments, spelled_call, spelled_optional, accepts, accepting, spelled_behind, spelled_operation, spelled_optional_operation, spelled_content, spelled_line, spelled_name, is_not_at, spelled_names, spelled_initial, spelled_declaration, spelled_qualifier, spelled_block, is_bare, spelled_bare, spelled_by, spelled_program, listed}
use Rattle.il_reader.proofs.Laws.{Law, Any, ok_is, bind_ok, count, law_shrinks, led_law, closed_law, many_law, until_law, pair_law, mapped_law, choice_law, told_law, past_law, else_law, no_front, stand_law, token_law, one_law, mark_law, meaning_law}

-- tokens

pub expect_law : (s : Sign) → Law Any (λ t. this (is_sign s) t ∷ []) (expect s)
unfolding expect
expect_law s = token_law (is_sign s) refl

pub mark_expect_law : (s : Sign) → Law Any (λ (u : Unit {0}). one (is_sign s) ∷ []) (mark (expect s))
unfolding expect
mark_expect_law s = mark_law (is_sign s) (expect_law s)

-- the token that begins
pub front : (p : Token → Bool) (ps : List Part) (ts rest : List Token) → Spell (one p ∷ ps) ts rest → p (first ts) ≡ true
front p ps [] rest h = absurd h
front p ps (t ∷ ts) rest h = h.0

pub front_this : (p : Token → Bool) (x : Token) (ps : List Part) (ts rest : List Token) → Spell (this p x ∷ ps) ts rest → p (first ts) ≡ true
front_this p x ps [] rest h = absurd h
front_this p x ps (t ∷ ts) rest h = h.0.0

pub false_true : false ≡ true → ⊥
false_true e = absurd cc

pub true_false : true ≡ false → ⊥
true_false e = absurd cc

pub and_left : (a b : Bool) → (a && b) ≡ true → a ≡ true
and_left true b e = refl
and_left false b e = absurd cc

pub and_right : (a b : Bool) → (a && b) ≡ true → b ≡ true
and_right true b e = e
and_right false b e = absurd cc

abbrev pub IsSome : {X : Type 0} → Option X → Type 0
IsSome None = ⊥
IsSome (Some x) = Unit {0}

pub some_from : {X : Type 0} (o : Option X) → IsSome o → (x : X) × (Some x ≡ o)
some_from None d = absurd d
some_from (Some x) d = (x, refl)

pub some_or_none : {X : Type 0} (o : Option X) → IsSome o ⊎ (None ≡ o)
some_or_none None = inr refl
some_or_none (Some x) = inl tt

-- signs that pass as the same are
pub same_is : (a b : Sign) → same_sign a b ≡ true → a ≡ b
same_is signs.Break signs.Break e = refl
same_is signs.Name signs.Name e = refl
same_is signs.Literal signs.Literal e = refl
same_is signs.Address signs.Address e = refl
same_is signs.Colon signs.Colon e = refl
same_is signs.Assign signs.Assign e = refl
same_is signs.Arrow signs.Arrow e = refl
same_is signs.Comma signs.Comma e = refl
same_is signs.Semicolon signs.Semicolon e = refl
same_is signs.Open signs.Open e = refl
same_is signs.Close signs.Close e = refl
same_is signs.Dot signs.Dot e = refl
same_is signs.Ampersand signs.Ampersand e = refl
same_is _ _ e = absurd cc

pub class_is : (s : Sign) (t : Token) → is_sign s t ≡ true → t.class ≡ classes.Sign s
class_is s t is = by_class t.class is
  where
    by_class : (c : Class) → is_class_of s c ≡ true → c ≡ classes.Sign s
    by_class (classes.Sign u) e = ap (λ (v : Sign). classes.Sign v) (sym (same_is s u e))
    by_class (classes.Broken f) e = absurd cc
    by_class classes.End e = absurd cc

-- what a sign is not, a token of that sign is not
pub sign_not : (p : Class → Bool) (s : Sign) (t : Token) → is_sign s t ≡ true → p (classes.Sign s) ≡ false → p t.class ≡ false
sign_not p s t is lacks = rw (class_is s t is) lacks

-- the same under another spelling that is the same
pub told_spelling : {X : Type 0} (D : X → Type 0) (s q : X → List Part) (a : Reading X) → Law D s a → ((x : X) → D x → q x ≡ s x) → Law D q a
told_spelling D s q a la same = record {
  takes = λ ts x e.
      let g = la.takes ts x e in
      let P : List Part → Type 0 = λ ps. Spell ps ts x.1 in
      (g.0, subst P (sym (same x.0 g.0)) g.1);
  again = λ x ts rest d h.
      let P : List Part → Type 0 = λ ps. Spell ps ts rest in
      la.again x ts rest d (subst P (same x d) h);
}

-- operands

pub variable_law : Law Any (λ t. this is_variable t ∷ []) variable_at
unfolding variable_at
variable_law = token_law is_variable refl

pub constant_law : Law Any (λ t. this is_constant t ∷ []) constant_at
unfolding constant_at is_constant
constant_law = token_law is_constant refl

pub either_false : (a b : Bool) → a ≡ false → b ≡ false → (a || b) ≡ false
either_false a b e f = rw (e, f) refl

pub both_true : (a b : Bool) → a ≡ true → b ≡ true → (a && b) ≡ true
both_true a b e f = rw (e, f) refl

pub either_true : (a b : Bool) → a ≡ true → (a || b) ≡ true
either_true a b e = rw e refl

-- a constant is a name or a literal
pub constant_not : (p : Class → Bool) (t : Token) → is_constant t ≡ true → p (classes.Sign signs.Name) ≡ false → p (classes.Sign signs.Literal) ≡ false → p t.class ≡ false
unfolding is_constant
constant_not p t is no_name no_literal = chosen (is_sign signs.Name t) refl
  where
    chosen : (b : Bool) → is_sign signs.Name t ≡ b → p t.class ≡ false
    chosen true e = sign_not p signs.Name t e no_name
    chosen false e = sign_not p signs.Literal t (rw e at is) no_literal

-- a constant is no variable
pub constant_other : (t : Token) → is_constant t ≡ true → is_variable t ≡ false
unfolding is_constant
constant_other t is = chosen (is_sign signs.Name t) refl
  where
    chosen : (b : Bool) → is_sign signs.Name t ≡ b → is_variable t ≡ false
    chosen true e = let truth : is_truth t ≡ true = rw e at is in rw (e, truth) refl
    chosen false e = rw e refl

pub other_name : (t : Token) → is_sign signs.Name t ≡ false → is_variable t ≡ false
other_name t is = rw is refl

abbrev pub spelled_field : Option Token → List Part
spelled_field None = ahead no_dot ∷ []
spelled_field (Some f) = sign signs.Dot ∷ name f ∷ []

abbrev pub spelled_inner_field : Option Token → List Part
spelled_inner_field None = ahead before_no_dot ∷ []
spelled_inner_field (Some f) = breaks ∷ sign signs.Dot ∷ breaks ∷ name f ∷ []

pub from_some : {X : Type 0} (o : Option X) → IsSome o → (x : X) × (Some x ≡ o) × Unit {0}
from_some None d = absurd d
from_some (Some x) d = (x, refl, tt)

pub field_law : Law Any spelled_field field_at
unfolding field_at
field_law = told_law (λ o. IsSome o ⊎ (None ≡ o)) Any spelled_field _
    (choice_law IsSome (λ o. None ≡ o) spelled_field (next_is signs.Dot) _ _
    (mapped_law Any IsSome _ spelled_field Some _ (led_law Any _ _ _ _ (mark_expect_law signs.Dot) (expect_law signs.Name)) (λ x. refl) (λ x d. tt) from_some)
    (stand_law spelled_field no_dot None refl)
    begins begins_not)
    (λ x d. tt) (λ o d. some_or_none o)
  where
    begins : (o : Option Token) (ts rest : List Token) → IsSome o → Spell (spelled_field o) ts rest → next_is signs.Dot ts ≡ true
    begins None ts rest d h = absurd d
    begins (Some f) ts rest d h = front (is_sign signs.Dot) (name f ∷ []) ts rest h

    begins_not : (o : Option Token) (ts rest : List Token) → None ≡ o → Spell (spelled_field o) ts rest → next_is signs.Dot ts ≡ false
    begins_not None ts rest d h = no_front (next_is signs.Dot ts) h.0
    begins_not (Some f) ts rest d h = absurd cc

pub inner_field_law : Law Any spelled_inner_field inner_field_at
unfolding inner_field_at
inner_field_law = told_law (λ o. IsSome o ⊎ (None ≡ o)) Any spelled_inner_field _
    (choice_law IsSome (λ o. None ≡ o) spelled_inner_field before_dot _ _
    (mapped_law Any IsSome _ spelled_inner_field Some _ (led_law Any _ _ _ _ (past_law Any _ _ (mark_expect_law signs.Dot)) (past_law Any _ _ (expect_law signs.Name))) (λ x. refl) (λ x d. tt) from_some)
    (stand_law spelled_inner_field before_no_dot None refl)
    begins begins_not)
    (λ x d. tt) (λ o d. some_or_none o)
  where
    begins : (o : Option Token) (ts rest : List Token) → IsSome o → Spell (spelled_inner_field o) ts rest → before_dot ts ≡ true
    begins None ts rest d h = absurd d
    begins (Some f) ts rest d h = front (is_sign signs.Dot) (breaks ∷ name f ∷ []) (skip_breaks ts) rest h

    begins_not : (o : Option Token) (ts rest : List Token) → None ≡ o → Spell (spelled_inner_field o) ts rest → before_dot ts ≡ false
    begins_not None ts rest d h = no_front (before_dot ts) h.0
    begins_not (Some f) ts rest d h = absurd cc

abbrev pub IsConstant : OperandText → Type 0
IsConstant (Constant t) = Unit {0}
IsConstant x = ⊥

abbrev pub IsDirect : OperandText → Type 0
IsDirect (Direct t) = Unit {0}
IsDirect x = ⊥

abbrev pub IsNamed : OperandText → Type 0
IsNamed (Named t) = Unit {0}
IsNamed (Field t f) = Unit {0}
IsNamed x = ⊥

abbrev pub IsLone : OperandText → Type 0
IsLone x = IsDirect x ⊎ IsConstant x

abbrev pub spelled_lone : OperandText → List Part
spelled_lone (Constant t) = this is_constant t ∷ []
spelled_lone (Direct t) = this (is_sign signs.Address) t ∷ []
spelled_lone x = []

pub lone_law : Law IsLone spelled_lone lone_at
unfolding lone_at
lone_law = choice_law IsDirect IsConstant spelled_lone (next_is signs.Address) _ _
    (mapped_law Any IsDirect _ spelled_lone Direct _ (expect_law signs.Address) (λ x. refl) (λ x d. tt) a_direct)
    (mapped_law Any IsConstant _ spelled_lone Constant _ constant_law (λ x. refl) (λ x d. tt) a_constant)
    begins begins_not
  where
    a_direct : (o : OperandText) → IsDirect o → (x : Token) × (Direct x ≡ o) × Unit {0}
    a_direct (Direct t) d = (t, refl, tt)
    a_direct (Constant t) d = absurd d
    a_direct (Named t) d = absurd d
    a_direct (Field t f) d = absurd d

    a_constant : (o : OperandText) → IsConstant o → (x : Token) × (Constant x ≡ o) × Unit {0}
    a_constant (Constant t) d = (t, refl, tt)
    a_constant (Direct t) d = absurd d
    a_constant (Named t) d = absurd d
    a_constant (Field t f) d = absurd d

    begins : (o : OperandText) (ts rest : List Token) → IsDirect o → Spell (spelled_lone o) ts rest → next_is signs.Address ts ≡ true
    begins (Direct t) ts rest d h = front_this (is_sign signs.Address) t [] ts rest h
    begins (Constant t) ts rest d h = absurd d
    begins (Named t) ts rest d h = absurd d
    begins (Field t f) ts rest d h = absurd d

    begins_not : (o : OperandText) (ts rest : List Token) → IsConstant o → Spell (spelled_lone o) ts rest → next_is signs.Address ts ≡ false
    begins_not (Constant t) ts rest d h = constant_not (is_class_of signs.Address) (first ts) (front_this is_constant t [] ts rest h) refl refl
    begins_not (Direct t) ts rest d h = absurd d
    begins_not (Named t) ts rest d h = absurd d
    begins_not (Field t f) ts rest d h = absurd d

-- an operand whose field, if it has one, is spelled so
abbrev pub spelled_by_field : (Option Token → List Part) → OperandText → List Part
spelled_by_field q (Constant t) = this is_constant t ∷ []
spelled_by_field q (Direct t) = this (is_sign signs.Address) t ∷ []
spelled_by_field q (Named t) = this is_variable t ∷ q None
spelled_by_field q (Field t f) = this is_variable t ∷ q (Some f)

pub by_field_law : (q : Option Token → List Part) (a : Reading (Option Token)) → Law Any q a → Law Any (spelled_by_field q) (choice next_is_variable (mapped named (pair variable_at a)) lone_at)
by_field_law q a law = told_law (λ o. IsNamed o ⊎ IsLone o) Any (spelled_by_field q) _
    (choice_law IsNamed IsLone (spelled_by_field q) next_is_variable _ _
    (mapped_law (λ (x : Token × Option Token). Unit {0} × Unit {0}) IsNamed (λ x. this is_variable x.0 ∷ q x.1) (spelled_by_field q) named _ (pair_law Any Any _ q _ _ variable_law law) (λ x. same_named x.0 x.1) (λ x d. is_named x.0 x.1) from_named)
    (told_spelling IsLone spelled_lone (spelled_by_field q) lone_at lone_law lone_same)
    begins begins_not)
    (λ x d. tt) all
  where
    same_named : (t : Token) (o : Option Token) → spelled_by_field q (named_by t o) ≡ this is_variable t ∷ q o
    same_named t None = refl
    same_named t (Some f) = refl

    is_named : (t : Token) (o : Option Token) → IsNamed (named_by t o)
    is_named t None = tt
    is_named t (Some f) = tt

    from_named : (o : OperandText) → IsNamed o → (x : Token × Option Token) × (named x ≡ o) × (Unit {0} × Unit {0})
    from_named (Named t) d = (both t None, refl, both tt tt)
    from_named (Field t f) d = (both t (Some f), refl, both tt tt)
    from_named (Constant t) d = absurd d
    from_named (Direct t) d = absurd d

    lone_same : (o : OperandText) → IsLone o → spelled_by_field q o ≡ spelled_lone o
    lone_same (Constant t) d = refl
    lone_same (Direct t) d = refl
    lone_same (Named t) (inl d) = absurd d
    lone_same (Named t) (inr d) = absurd d
    lone_same (Field t f) (inl d) = absurd d
    lone_same (Field t f) (inr d) = absurd d

    begins : (o : OperandText) (ts rest : List Token) → IsNamed o → Spell (spelled_by_field q o) ts rest → next_is_variable ts ≡ true
    begins (Named t) ts rest d h = front_this is_variable t (q None) ts rest h
    begins (Field t f) ts rest d h = front_this is_variable t (q (Some f)) ts rest h
    begins (Constant t) ts rest d h = absurd d
    begins (Direct t) ts rest d h = absurd d

    begins_not : (o : OperandText) (ts rest : List Token) → IsLone o → Spell (spelled_by_field q o) ts rest → next_is_variable ts ≡ false
    begins_not (Constant t) ts rest d h = constant_other (first ts) (front_this is_constant t [] ts rest h)
    begins_not (Direct t) ts rest d h = other_name (first ts) (sign_not (is_class_of signs.Name) signs.Address (first ts) (front_this (is_sign signs.Address) t [] ts rest h) refl)
    begins_not (Named t) ts rest (inl d) h = absurd d
    begins_not (Named t) ts rest (inr d) h = absurd d
    begins_not (Field t f) ts rest (inl d) h = absurd d
    begins_not (Field t f) ts rest (inr d) h = absurd d

    all : (o : OperandText) → Unit {0} → IsNamed o ⊎ IsLone o
    all (Direct t) d = inr (inl tt)
    all (Constant t) d = inr (inr tt)
    all (Named t) d = inl tt
    all (Field t f) d = inl tt

pub operand_law : Law Any spelled_operand operand_at
unfolding operand_at
operand_law = told_spelling Any (spelled_by_field spelled_field) spelled_operand _ (by_field_law spelled_field field_at field_law) (λ o d. same o)
  where
    same : (o : OperandText) → spelled_operand o ≡ spelled_by_field spelled_field o
    same (Constant t) = refl
    same (Direct t) = refl
    same (Named t) = refl
    same (Field t f) = refl

pub inner_operand_law : Law Any spelled_inner_operand inner_operand_at
unfolding inner_operand_at
inner_operand_law = told_spelling Any (spelled_by_field spelled_inner_field) spelled_inner_operand _ (by_field_law spelled_inner_field inner_field_at inner_field_law) (λ o d. same o)
  where
    same : (o : OperandText) → spelled_inner_operand o ≡ spelled_by_field spelled_inner_field o
    same (Constant t) = refl
    same (Direct t) = refl
    same (Named t) = refl
    same (Field t f) = refl

-- an operand begins with a name, a literal or an address
pub operand_not : (p : Class → Bool) (x : OperandText) (ts rest : List Token) → Spell (spelled_operand x) ts rest
    → p (classes.Sign signs.Name) ≡ false → p (classes.Sign signs.Literal) ≡ false → p (classes.Sign signs.Address) ≡ false → p (first ts).class ≡ false
operand_not p (Constant t) ts rest h no_name no_literal no_address = constant_not p (first ts) (front_this is_constant t [] ts rest h) no_name no_literal
operand_not p (Direct t) ts rest h no_name no_literal no_address = sign_not p signs.Address (first ts) (front_this (is_sign signs.Address) t [] ts rest h) no_address
operand_not p (Named t) ts rest h no_name no_literal no_address = sign_not p signs.Name (first ts) (and_left _ _ (front_this is_variable t (ahead no_dot ∷ []) ts rest h)) no_name
operand_not p (Field t f) ts rest h no_name no_literal no_address = sign_not p signs.Name (first ts) (and_left _ _ (front_this is_variable t (sign signs.Dot ∷ name f ∷ []) ts rest h)) no_name

-- a line end, or the end of the text
abbrev pub stops_line : Class → Bool
stops_line c = is_class_of signs.Break c || is_end_class c

pub operand_no_stop : (x : OperandText) (ts rest : List Token) → Spell (spelled_operand x) ts rest → is_line_stop ts ≡ false
operand_no_stop x ts rest h = operand_not stops_line x ts rest h refl refl refl

-- nothing, or something before the end of the line
pub optional_operand_law : Law Any spelled_optional optional_operand_at
unfolding optional_operand_at
optional_operand_law = told_law (λ o. (None ≡ o) ⊎ IsSome o) Any spelled_optional _
    (choice_law (λ o. None ≡ o) IsSome spelled_optional is_line_stop _ _
    (stand_law spelled_optional is_line_stop None refl)
    (mapped_law Any IsSome spelled_operand spelled_optional Some _ operand_law (λ x. refl) (λ x d. tt) from_some)
    begins begins_not)
    (λ x d. tt) all
  where
    begins : (o : Option OperandText) (ts rest : List Token) → None ≡ o → Spell (spelled_optional o) ts rest → is_line_stop ts ≡ true
    begins None ts rest d h = h.0
    begins (Some x) ts rest d h = absurd cc

    begins_not : (o : Option OperandText) (ts rest : List Token) → IsSome o → Spell (spelled_optional o) ts rest → is_line_stop ts ≡ false
    begins_not None ts rest d h = absurd d
    begins_not (Some x) ts rest d h = operand_no_stop x ts rest h

    all : (o : Option OperandText) → Unit {0} → (None ≡ o) ⊎ IsSome o
    all None d = inl refl
    all (Some x) d = inr tt

pub nested_law : Law Any (λ o. sign signs.Open ∷ spelled_optional o) nested_at
unfolding nested_at
nested_law = led_law Any (sign signs.Open ∷ []) spelled_optional _ _ (mark_expect_law signs.Open) optional_operand_law

-- calls

abbrev pub IsOutput : Side → Type 0
IsOutput sides.Output = Unit {0}
IsOutput sides.Input = ⊥

abbrev pub IsInput : Side → Type 0
IsInput sides.Input = Unit {0}
IsInput sides.Output = ⊥

pub side_law : Law Any spelled_side side_at
unfolding side_at
side_law = told_law (λ x. IsOutput x ⊎ IsInput x) Any spelled_side _
    (choice_law IsOutput IsInput spelled_side (next_is signs.Arrow) _ _
    (mapped_law Any IsOutput _ spelled_side an_output _ (mark_expect_law signs.Arrow) (λ x. refl) (λ x d. tt) output)
    (mapped_law Any IsInput _ spelled_side an_input _ (mark_expect_law signs.Assign) (λ x. refl) (λ x d. tt) input)
    begins begins_not)
    (λ x d. tt) all
  where
    output : (x : Side) → IsOutput x → (u : Unit {0}) × (an_output u ≡ x) × Unit {0}
    output sides.Output d = (tt, refl, tt)
    output sides.Input d = absurd d

    input : (x : Side) → IsInput x → (u : Unit {0}) × (an_input u ≡ x) × Unit {0}
    input sides.Input d = (tt, refl, tt)
    input sides.Output d = absurd d

    begins : (x : Side) (ts rest : List Token) → IsOutput x → Spell (spelled_side x) ts rest → next_is signs.Arrow ts ≡ true
    begins sides.Output ts rest d h = front (is_sign signs.Arrow) [] ts rest h
    begins sides.Input ts rest d h = absurd d

    begins_not : (x : Side) (ts rest : List Token) → IsInput x → Spell (spelled_side x) ts rest → next_is signs.Arrow ts ≡ false
    begins_not sides.Input ts rest d h = sign_not (is_class_of signs.Arrow) signs.Assign (first ts) (front (is_sign signs.Assign) [] ts rest h) refl
    begins_not sides.Output ts rest d h = absurd d

    all : (x : Side) → Unit {0} → IsOutput x ⊎ IsInput x
    all sides.Output d = inl tt
    all sides.Input d = inr tt

pub argument_law : Law Any spelled_argument argument_at
unfolding argument_at
argument_law = mapped_law _ Any _ spelled_argument an_argument _
    (pair_law Any _ _ _ _ _ (past_law Any _ _ (expect_law signs.Name)) (pair_law Any Any _ _ _ _ (past_law Any _ _ side_law) (past_law Any _ _ inner_operand_law)))
    (λ x. refl) (λ x d. tt) (λ a d. (both a.field (both a.side a.operand), refl, both tt (both tt tt)))

pub next_argument_law : Law Any spelled_next next_argument_at
unfolding next_argument_at
next_argument_law = led_law Any (breaks ∷ sign signs.Comma ∷ []) spelled_argument _ _ (past_law Any _ _ (mark_expect_law signs.Comma)) argument_law

pub next_goes : (a : ArgumentText) (ts rest : List Token) → Spell (spelled_next a) ts rest → ends_arguments ts ≡ false
unfolding ends_arguments
next_goes a ts rest h = rw (front (is_sign signs.Comma) (spelled_argument a) (skip_breaks ts) rest h) refl

pub next_counts : (a : ArgumentText) → 0 < count (spelled_next a)
next_counts a = omega arith

abbrev pub IsEmpty : List ArgumentText → Type 0
IsEmpty xs = [] ≡ xs

abbrev pub IsSeveral : List ArgumentText → Type 0
IsSeveral [] = ⊥
IsSeveral (a ∷ more) = Unit {0}

pub inside_law : Law Any spelled_inside inside_at
unfolding inside_at
inside_law = told_law (λ xs. IsEmpty xs ⊎ IsSeveral xs) Any spelled_inside _
    (choice_law IsEmpty IsSeveral spelled_inside before_close _ _
    (stand_law spelled_inside before_close [] refl)
    (mapped_law _ IsSeveral _ spelled_inside together _
    (pair_law Any Any _ _ _ _ argument_law (many_law spelled_next ends_arguments next_argument_at next_argument_law next_counts next_goes))
    (λ x. refl) (λ x d. tt) from)
    begins begins_not)
    (λ x d. tt) all
  where
    from : (xs : List ArgumentText) → IsSeveral xs → (y : ArgumentText × List ArgumentText) × (together y ≡ xs) × (Unit {0} × Unit {0})
    from [] d = absurd d
    from (a ∷ more) d = (both a more, refl, both tt tt)

    begins : (xs : List ArgumentText) (ts rest : List Token) → IsEmpty xs → Spell (spelled_inside xs) ts rest → before_close ts ≡ true
    begins [] ts rest d h = h.0
    begins (a ∷ more) ts rest d h = absurd cc

    begins_not : (xs : List ArgumentText) (ts rest : List Token) → IsSeveral xs → Spell (spelled_inside xs) ts rest → before_close ts ≡ false
    begins_not [] ts rest d h = absurd d
    begins_not (a ∷ more) ts rest d h =
        let qs = breaks ∷ (spelled_side a.side ++ breaks ∷ spelled_inner_operand a.operand) ++ (flat_map spelled_next more ++ ahead ends_arguments ∷ []) in
        sign_not (is_class_of signs.Close) signs.Name (first (skip_breaks ts)) (front_this (is_sign signs.Name) a.field qs (skip_breaks ts) rest h) refl

    all : (xs : List ArgumentText) → Unit {0} → IsEmpty xs ⊎ IsSeveral xs
    all [] d = inl refl
    all (a ∷ more) d = inr tt

pub arguments_law : Law Any spelled_arguments arguments_at
unfolding arguments_at
arguments_law = told_law (λ o. IsSome o ⊎ (None ≡ o)) Any spelled_arguments _
    (choice_law IsSome (λ o. None ≡ o) spelled_arguments (next_is signs.Open) _ _
    (mapped_law Any IsSome _ spelled_arguments Some _
    (led_law Any _ _ _ _ (mark_expect_law signs.Open) (closed_law Any _ _ _ _ inside_law (past_law Any _ _ (mark_expect_law signs.Close))))
    (λ x. refl) (λ x d. tt) from_some)
    (stand_law spelled_arguments no_open None refl)
    begins begins_not)
    (λ x d. tt) (λ o d. some_or_none o)
  where
    begins : (o : Option (List ArgumentText)) (ts rest : List Token) → IsSome o → Spell (spelled_arguments o) ts rest → next_is signs.Open ts ≡ true
    begins None ts rest d h = absurd d
    begins (Some xs) ts rest d h = front (is_sign signs.Open) (spelled_inside xs ++ breaks ∷ sign signs.Close ∷ []) ts rest h

    begins_not : (o : Option (List ArgumentText)) (ts rest : List Token) → None ≡ o → Spell (spelled_arguments o) ts rest → next_is signs.Open ts ≡ false
    begins_not None ts rest d h = no_front (next_is signs.Open ts) h.0
    begins_not (Some xs) ts rest d h = absurd cc

pub call_law : Law Any spelled_call call_at
unfolding call_at
call_law = mapped_law _ Any _ spelled_call a_call _
    (pair_law Any Any _ _ _ _ (expect_law signs.Name) arguments_law)
    (λ x. refl) (λ x d. tt) (λ c d. (both c.instance c.written, refl, both tt tt))

-- behind an operator

abbrev pub Accepted : Form → BehindText → Type 0
Accepted form b = accepts form b ≡ true

abbrev pub IsGiven : BehindText → Type 0
IsGiven (Given x) = Unit {0}
IsGiven b = ⊥

abbrev pub IsOpened : BehindText → Type 0
IsOpened (Opened o) = Unit {0}
IsOpened b = ⊥

pub given_law : (form : Form) → ((x : OperandText) → Accepted form (Given x)) → Law (λ b. Accepted form b × IsGiven b) spelled_behind (mapped Given operand_at)
given_law form takes = mapped_law Any (λ b. Accepted form b × IsGiven b) spelled_operand spelled_behind Given _ operand_law (λ x. refl) (λ x d. (takes x, tt)) from
  where
    from : (b : BehindText) → Accepted form b × IsGiven b → (x : OperandText) × (Given x ≡ b) × Unit {0}
    from (Given x) d = (x, refl, tt)
    from Nothing d = absurd d.1
    from (Target t) d = absurd d.1
    from (Opened o) d = absurd d.1
    from (Called c) d = absurd d.1

pub operand_behind : Law (Accepted forms.Operand) spelled_behind (mapped Given operand_at)
operand_behind = told_law (λ b. Accepted forms.Operand b × IsGiven b) (Accepted forms.Operand) spelled_behind _ (given_law forms.Operand (λ x. refl)) (λ b d. d.0) all
  where
    all : (b : BehindText) → Accepted forms.Operand b → Accepted forms.Operand b × IsGiven b
    all (Given x) d = (d, tt)
    all Nothing d = absurd cc
    all (Target t) d = absurd cc
    all (Opened o) d = absurd cc
    all (Called c) d = absurd cc

pub opened_law : Law (λ b. Accepted forms.Either b × IsOpened b) spelled_behind (mapped Opened nested_at)
opened_law = mapped_law Any (λ b. Accepted forms.Either b × IsOpened b) (λ o. sign signs.Open ∷ spelled_optional o) spelled_behind Opened _ nested_law (λ x. refl) (λ x d. (refl, tt)) from
  where
    from : (b : BehindText) → Accepted forms.Either b × IsOpened b → (x : Option OperandText) × (Opened x ≡ b) × Unit {0}
    from (Opened o) d = (o, refl, tt)
    from Nothing d = absurd d.1
    from (Target t) d = absurd d.1
    from (Given x) d = absurd d.1
    from (Called c) d = absurd d.1

pub either_behind : Law (Accepted forms.Either) spelled_behind either_at
unfolding either_at
either_behind = told_law (λ b. (Accepted forms.Either b × IsOpened b) ⊎ (Accepted forms.Either b × IsGiven b)) (Accepted forms.Either) spelled_behind _
    (choice_law (λ b. Accepted forms.Either b × IsOpened b) (λ b. Accepted forms.Either b × IsGiven b) spelled_behind (next_is signs.Open) _ _ opened_law (given_law forms.Either (λ x. refl)) begins begins_not)
    told all
  where
    told : (b : BehindText) → (Accepted forms.Either b × IsOpened b) ⊎ (Accepted forms.Either b × IsGiven b) → Accepted forms.Either b
    told b (inl d) = d.0
    told b (inr d) = d.0

    begins : (b : BehindText) (ts rest : List Token) → Accepted forms.Either b × IsOpened b → Spell (spelled_behind b) ts rest → next_is signs.Open ts ≡ true
    begins (Opened o) ts rest d h = front (is_sign signs.Open) (spelled_optional o) ts rest h
    begins Nothing ts rest d h = absurd d.1
    begins (Target t) ts rest d h = absurd d.1
    begins (Given x) ts rest d h = absurd d.1
    begins (Called c) ts rest d h = absurd d.1

    begins_not : (b : BehindText) (ts rest : List Token) → Accepted forms.Either b × IsGiven b → Spell (spelled_behind b) ts rest → next_is signs.Open ts ≡ false
    begins_not (Given x) ts rest d h = operand_not (is_class_of signs.Open) x ts rest h refl refl refl
    begins_not Nothing ts rest d h = absurd d.1
    begins_not (Target t) ts rest d h = absurd d.1
    begins_not (Opened o) ts rest d h = absurd d.1
    begins_not (Called c) ts rest d h = absurd d.1

    all : (b : BehindText) → Accepted forms.Either b → (Accepted forms.Either b × IsOpened b) ⊎ (Accepted forms.Either b × IsGiven b)
    all (Given x) d = inr (d, tt)
    all (Opened o) d = inl (d, tt)
    all Nothing d = absurd cc
    all (Target t) d = absurd cc
    all (Called c) d = absurd cc

pub label_behind : Law (Accepted forms.Label) spelled_behind (mapped Target (expect signs.Name))
label_behind = mapped_law Any (Accepted forms.Label) _ spelled_behind Target _ (expect_law signs.Name) (λ x. refl) (λ x d. refl) from
  where
    from : (b : BehindText) → Accepted forms.Label b → (x : Token) × (Target x ≡ b) × Unit {0}
    from (Target t) d = (t, refl, tt)
    from Nothing d = absurd cc
    from (Given x) d = absurd cc
    from (Opened o) d = absurd cc
    from (Called c) d = absurd cc

abbrev pub done : BehindText × List Token → Result (BehindText × List Token) FaultAt
done x = Ok x

pub call_behind : Law (Accepted forms.Call) spelled_behind (mapped Called call_at)
call_behind = mapped_law Any (Accepted forms.Call) spelled_call spelled_behind Called _ call_law (λ x. refl) (λ x d. refl) from
  where
    from : (b : BehindText) → Accepted forms.Call b → (c : CallText) × (Called c ≡ b) × Unit {0}
    from (Called c) d = (c, refl, tt)
    from Nothing d = absurd (false_true d)
    from (Given x) d = absurd (false_true d)
    from (Target t) d = absurd (false_true d)
    from (Opened o) d = absurd (false_true d)

pub nothing_behind : Law (Accepted forms.Nothing) spelled_behind (λ ts. done (Nothing, ts))
nothing_behind = record { takes = takes; again = again }
  where
    takes : (ts : List Token) (x : BehindText × List Token) → done (Nothing, ts) ≡ done x → Accepted forms.Nothing x.0 × Spell (spelled_behind x.0) ts x.1
    takes ts x e = let P : BehindText × List Token → Type 0 = λ y. Accepted forms.Nothing y.0 × Spell (spelled_behind y.0) ts y.1 in subst P (ok_is (Nothing, ts) x e) (refl, refl)

    again : (b : BehindText) (ts rest : List Token) → Accepted forms.Nothing b → Spell (spelled_behind b) ts rest → done (Nothing, ts) ≡ done (b, rest)
    again Nothing ts rest d h = rw h refl
    again (Given x) ts rest d h = absurd cc
    again (Target t) ts rest d h = absurd cc
    again (Opened o) ts rest d h = absurd cc
    again (Called c) ts rest d h = absurd cc

pub behind_law : (form : Form) → Law (Accepted form) spelled_behind (behind_at form)
unfolding behind_at
behind_law forms.Operand = operand_behind
behind_law forms.Label = label_behind
behind_law forms.Either = either_behind
behind_law forms.Nothing = nothing_behind
behind_law forms.Call = call_behind

-- operations

pub operator_law : (dialect : Dialect) → Law Any (λ x. operator (operator_of dialect) x ∷ []) (operator_at dialect)
unfolding operator_at operator_of
operator_law dialect = meaning_law (operator_of dialect) refl

abbrev pub some_operator : Operator → Option Operator
some_operator x = Some x

pub operator_is : (x y : Operator) → some_operator x ≡ some_operator y → x ≡ y
operator_is x y e = cc

pub accepted_is : (b : BehindText) (o : Option Operator) (x : Operator) → accepting b o ≡ Some x → (o ≡ Some x) × (accepts (form_of x.mnemonic.op) b ≡ true)
accepted_is b None x e = absurd cc
accepted_is b (Some y) x e = chosen (accepts (form_of y.mnemonic.op) b) refl e
  where
    chosen : (t : Bool) → accepts (form_of y.mnemonic.op) b ≡ t → cond t (some_operator y) None ≡ Some x → (some_operator y ≡ Some x) × (accepts (form_of x.mnemonic.op) b ≡ true)
    chosen true is h = (h, subst (λ (z : Operator). accepts (form_of z.mnemonic.op) b ≡ true) (operator_is y x h) is)
    chosen false is h = absurd cc

abbrev pub made : Operator → BehindText → OperationText
made x b = record { operator = x; behind = b }

-- the token that an operation begins with
pub first_operator : (dialect : Dialect) → (o : OperationText) (ts rest : List Token) → Spell (spelled_operation dialect o) ts rest → operator_of dialect (first ts) ≡ Some o.operator
first_operator dialect o [] rest h = absurd h
first_operator dialect o (t ∷ ts) rest h = (accepted_is o.behind (operator_of dialect t) o.operator h.0).0

pub operation_law : (dialect : Dialect) → Law Any (spelled_operation dialect) (operation_at dialect)
unfolding operation_at
operation_law dialect = record { takes = takes; again = again }
  where
    joined : (ts us rest : List Token) (x : Operator) (b : BehindText) → Spell (operator (operator_of dialect) x ∷ []) ts us → accepts (form_of x.mnemonic.op) b ≡ true → Spell (spelled_behind b) us rest → Spell (spelled_operation dialect (made x b)) ts rest
    joined [] us rest x b h is g = absurd h
    joined (t ∷ ts) us rest x b h is g =
        let here : accepting b (operator_of dialect t) ≡ Some x = rw (h.0, is) refl in
        (here, subst (λ (vs : List Token). Spell (spelled_behind b) vs rest) (sym h.1) g)

    takes : (ts : List Token) (x : OperationText × List Token) → operation_at dialect ts ≡ Ok x → Unit {0} × Spell (spelled_operation dialect x.0) ts x.1
    takes ts x e =
        let a = bind_ok (operator_at dialect ts) (λ o. behind_at (form_of o.0.mnemonic.op) o.1 >>= λ b. Ok (made o.0 b.0, b.1)) x e in
        let b = bind_ok (behind_at (form_of a.0.0.mnemonic.op) a.0.1) (λ b. Ok (made a.0.0 b.0, b.1)) x a.2 in
        let f = (operator_law dialect).takes ts a.0 a.1 in
        let g = (behind_law (form_of a.0.0.mnemonic.op)).takes a.0.1 b.0 b.1 in
        let P : OperationText × List Token → Type 0 = λ y. Unit {0} × Spell (spelled_operation dialect y.0) ts y.1 in
        subst P (ok_is (made a.0.0 b.0.0, b.0.1) x b.2) (tt, joined ts a.0.1 b.0.1 a.0.0 b.0.0 f.1 g.0 g.1)

    again : (o : OperationText) (ts rest : List Token) → Unit {0} → Spell (spelled_operation dialect o) ts rest → operation_at dialect ts ≡ Ok (o, rest)
    again o [] rest d h = absurd h
    again o (t ∷ ts) rest d h =
        let p = accepted_is o.behind (operator_of dialect t) o.operator h.0 in
        let f : operator_at dialect (t ∷ ts) ≡ Ok (o.operator, ts) = (operator_law dialect).again o.operator (t ∷ ts) ts tt (p.0, refl) in
        let g = (behind_law (form_of o.operator.mnemonic.op)).again o.behind ts rest p.1 h.1 in
        rw (f, g) refl

-- an operator is no end of a line
pub operator_no_stop : (dialect : Dialect) → (t : Token) (x : Operator) → operator_of dialect t ≡ Some x → stops_line t.class ≡ false
unfolding operator_of
operator_no_stop dialect t x e = by_class t.class refl
  where
    never : operator_of dialect t ≡ None → ⊥
    never none = let f : None ≡ some_operator x = sym none ∙ e in absurd cc

    by_class : (c : Class) → t.class ≡ c → stops_line c ≡ false
    by_class classes.End is = absurd (never (rw is refl))
    by_class (classes.Sign signs.Break) is = absurd (never (rw is refl))
    by_class c is = refl

pub operation_no_stop : (dialect : Dialect) → (o : OperationText) (ts rest : List Token) → Spell (spelled_operation dialect o) ts rest → is_line_stop ts ≡ false
operation_no_stop dialect o ts rest h = operator_no_stop dialect (first ts) o.operator (first_operator dialect o ts rest h)

-- lines

pub optional_operation_law : (dialect : Dialect) → Law Any (spelled_optional_operation dialect) (optional_operation_at dialect)
unfolding optional_operation_at
optional_operation_law dialect = told_law (λ o. (None ≡ o) ⊎ IsSome o) Any (spelled_optional_operation dialect) _
    (choice_law (λ o. None ≡ o) IsSome (spelled_optional_operation dialect) is_line_stop _ _
    (stand_law (spelled_optional_operation dialect) is_line_stop None refl)
    (mapped_law Any IsSome (spelled_operation dialect) (spelled_optional_operation dialect) Some _ (operation_law dialect) (λ x. refl) (λ x d. tt) from_some)
    begins begins_not)
    (λ x d. tt) all
  where
    begins : (o : Option OperationText) (ts rest : List Token) → None ≡ o → Spell (spelled_optional_operation dialect o) ts rest → is_line_stop ts ≡ true
    begins None ts rest d h = h.0
    begins (Some x) ts rest d h = absurd cc

    begins_not : (o : Option OperationText) (ts rest : List Token) → IsSome o → Spell (spelled_optional_operation dialect o) ts rest → is_line_stop ts ≡ false
    begins_not None ts rest d h = absurd d
    begins_not (Some x) ts rest d h = operation_no_stop dialect x ts rest h

    all : (o : Option OperationText) → Unit {0} → (None ≡ o) ⊎ IsSome o
    all None d = inl refl
    all (Some x) d = inr tt

abbrev pub IsLabelled : LineText → Type 0
IsLabelled (Labelled t o) = Unit {0}
IsLabelled (Plain o) = ⊥

abbrev pub IsPlain : LineText → Type 0
IsPlain (Plain o) = Unit {0}
IsPlain (Labelled t o) = ⊥

pub labelled_law : (dialect : Dialect) → Law IsLabelled (spelled_content dialect) (labelled_at dialect)
unfolding labelled_at
labelled_law dialect = mapped_law _ IsLabelled _ (spelled_content dialect) labelled _ (pair_law Any _ _ _ _ _ (expect_law signs.Name) (led_law Any _ _ _ _ (mark_expect_law signs.Colon) (optional_operation_law dialect))) (λ x. refl) (λ x d. tt) from
  where
    from : (l : LineText) → IsLabelled l → (x : Token × Option OperationText) × (labelled x ≡ l) × (Unit {0} × Unit {0})
    from (Labelled t o) d = (both t o, refl, both tt tt)
    from (Plain o) d = absurd d

abbrev pub spelled_plain : (dialect : Dialect) → LineText → List Part
spelled_plain dialect (Plain o) = spelled_operation dialect o
spelled_plain dialect l = []

pub plain_law : (dialect : Dialect) → Law IsPlain (spelled_plain dialect) (plain_at dialect)
unfolding plain_at
plain_law dialect = mapped_law Any IsPlain (spelled_operation dialect) (spelled_plain dialect) Plain _ (operation_law dialect) (λ x. refl) (λ x d. tt) from
  where
    from : (l : LineText) → IsPlain l → (x : OperationText) × (Plain x ≡ l) × Unit {0}
    from (Plain o) d = (o, refl, tt)
    from (Labelled t o) d = absurd d

pub label_begins : (dialect : Dialect) → (t : Token) (ps : List Part) (ts rest : List Token) → Spell (name t ∷ sign signs.Colon ∷ ps) ts rest → is_label dialect ts ≡ true
unfolding is_label
label_begins dialect t ps [] rest h = absurd h
label_begins dialect t ps (u ∷ us) rest h = both_true _ _ h.0.0 (either_true _ _ (front (is_sign signs.Colon) ps us rest h.1))

-- nothing is taken, where this stands next
pub here_law : (p : List Token → Bool) → Law Any (λ (u : Unit {0}). ahead p ∷ []) (stand p tt)
here_law p = told_law (λ u. tt ≡ u) Any _ _ (stand_law (λ u. ahead p ∷ []) p tt refl) (λ x d. tt) (λ x d. refl)

pub content_law : (dialect : Dialect) → Law Any (spelled_content dialect) (either_line_at dialect)
unfolding either_line_at
content_law dialect = told_law (λ l. IsLabelled l ⊎ IsPlain l) Any (spelled_content dialect) _
    (else_law IsLabelled IsPlain (spelled_content dialect) (spelled_plain dialect) (is_label dialect) _ _ (labelled_law dialect) (plain_law dialect) same begins)
    (λ x d. tt) all
  where
    same : (l : LineText) → IsPlain l → spelled_content dialect l ≡ ahead (is_no_label dialect) ∷ spelled_plain dialect l
    same (Plain o) d = refl
    same (Labelled t o) d = absurd d

    begins : (l : LineText) (ts rest : List Token) → IsLabelled l → Spell (spelled_content dialect l) ts rest → is_label dialect ts ≡ true
    begins (Labelled t o) ts rest d h = label_begins dialect t (spelled_optional_operation dialect o) ts rest h
    begins (Plain o) ts rest d h = absurd d

    all : (l : LineText) → Unit {0} → IsLabelled l ⊎ IsPlain l
    all (Labelled t o) d = inl tt
    all (Plain o) d = inr tt

pub line_law : (dialect : Dialect) → Law Any (spelled_line dialect) (line_at dialect)
unfolding line_at
line_law dialect = closed_law Any (λ l. breaks ∷ spelled_content dialect l) (ahead is_line_stop ∷ []) _ _ (past_law Any (spelled_content dialect) _ (content_law dialect)) (here_law is_line_stop)

pub line_counts : (dialect : Dialect) → (l : LineText) → 0 < count (spelled_line dialect l)
line_counts dialect (Labelled t o) = omega arith
line_counts dialect (Plain o) = omega arith

-- declarations

pub keyword_law : (w : List ℕ) → Law Any (λ (u : Unit {0}). word w ∷ []) (keyword w)
unfolding keyword
keyword_law w = one_law (is_word_token w) refl

pub name_law : Law Any spelled_name name_at
unfolding name_at
name_law = led_law Any (breaks ∷ sign signs.Comma ∷ []) (λ t. breaks ∷ name t ∷ []) _ _ (past_law Any _ _ (mark_expect_law signs.Comma)) (past_law Any _ _ (expect_law signs.Name))

pub name_goes : (t : Token) (ts rest : List Token) → Spell (spelled_name t) ts rest → ends_names ts ≡ false
unfolding ends_names
name_goes t ts rest h = rw (front (is_sign signs.Comma) (breaks ∷ name t ∷ []) (skip_breaks ts) rest h) refl

pub name_counts : (t : Token) → 0 < count (spelled_name t)
name_counts t = omega arith

abbrev pub IsLocated : NamesText → Type 0
IsLocated (Located t) = Unit {0}
IsLocated (More ts) = ⊥

abbrev pub IsMore : NamesText → Type 0
IsMore (More ts) = Unit {0}
IsMore (Located t) = ⊥

abbrev pub spelled_more : NamesText → List Part
spelled_more (More ts) = flat_map spelled_name ts ++ ahead ends_names ∷ []
spelled_more (Located t) = []

pub names_law : Law Any spelled_names names_at
unfolding names_at
names_law = told_law (λ (x : NamesText). IsLocated x ⊎ IsMore x) Any spelled_names _
    (else_law IsLocated IsMore spelled_names spelled_more (next_is_word (codes "AT")) _ _
    (mapped_law Any IsLocated _ spelled_names Located _ (led_law Any _ _ _ _ (keyword_law (codes "AT")) (past_law Any _ _ (expect_law signs.Address))) (λ x. refl) (λ x d. tt) from_at)
    (mapped_law Any IsMore (λ ts. flat_map spelled_name ts ++ ahead ends_names ∷ []) spelled_more More _ (many_law spelled_name ends_names name_at name_law name_counts name_goes) (λ x. refl) (λ x d. tt) from_more)
    same begins)
    (λ x d. tt) all
  where
    from_at : (x : NamesText) → IsLocated x → (t : Token) × (Located t ≡ x) × Unit {0}
    from_at (Located t) d = (t, refl, tt)
    from_at (More ts) d = absurd d

    from_more : (x : NamesText) → IsMore x → (ts : List Token) × (More ts ≡ x) × Unit {0}
    from_more (More ts) d = (ts, refl, tt)
    from_more (Located t) d = absurd d

    same : (x : NamesText) → IsMore x → spelled_names x ≡ ahead is_not_at ∷ spelled_more x
    same (More ts) d = refl
    same (Located t) d = absurd d

    begins : (x : NamesText) (ts rest : List Token) → IsLocated x → Spell (spelled_names x) ts rest → next_is_word (codes "AT") ts ≡ true
    begins (Located t) ts rest d h = front (is_word_token (codes "AT")) (breaks ∷ this (is_sign signs.Address) t ∷ []) ts rest h
    begins (More us) ts rest d h = absurd d

    all : (x : NamesText) → Unit {0} → IsLocated x ⊎ IsMore x
    all (Located t) d = inl tt
    all (More ts) d = inr tt

pub initial_law : Law Any spelled_initial initial_at
unfolding initial_at
initial_law = told_law (λ o. IsSome o ⊎ (None ≡ o)) Any spelled_initial _
    (choice_law IsSome (λ o. None ≡ o) spelled_initial (next_is signs.Assign) _ _
    (mapped_law Any IsSome _ spelled_initial Some _ (led_law Any _ _ _ _ (mark_expect_law signs.Assign) (past_law Any _ _ constant_law)) (λ x. refl) (λ x d. tt) from_some)
    (stand_law spelled_initial no_value None refl)
    begins begins_not)
    (λ x d. tt) (λ o d. some_or_none o)
  where
    begins : (o : Option Token) (ts rest : List Token) → IsSome o → Spell (spelled_initial o) ts rest → next_is signs.Assign ts ≡ true
    begins None ts rest d h = absurd d
    begins (Some f) ts rest d h = front (is_sign signs.Assign) (breaks ∷ this is_constant f ∷ []) ts rest h

    begins_not : (o : Option Token) (ts rest : List Token) → None ≡ o → Spell (spelled_initial o) ts rest → next_is signs.Assign ts ≡ false
    begins_not None ts rest d h = no_front (next_is signs.Assign ts) h.0
    begins_not (Some f) ts rest d h = absurd cc

pub declaration_law : Law Any spelled_declaration declaration_at
unfolding declaration_at
declaration_law = mapped_law _ Any _ spelled_declaration declared _
    (pair_law Any _ _ _ _ _ (past_law Any _ _ (expect_law signs.Name))
    (pair_law Any _ _ _ _ _ (past_law Any _ _ names_law)
    (led_law _ _ _ _ _ (past_law Any _ _ (mark_expect_law signs.Colon))
    (pair_law Any Any _ _ _ _ (past_law Any _ _ (expect_law signs.Name)) (closed_law Any _ _ _ _ (past_law Any _ _ initial_law) (past_law Any _ _ (mark_expect_law signs.Semicolon)))))))
    (λ x. refl) (λ x d. tt)
    (λ d fits. (both d.name (both d.names (both d.ty d.initial)), refl, both tt (both tt (both tt tt))))

pub declaration_counts : (d : DeclarationText) → 0 < count (spelled_declaration d)
declaration_counts d = omega arith

-- the two words begin with other letters
pub words_apart : (w : List ℕ) → spells (codes "NON_RETAIN") w ≡ true → spells (codes "RETAIN") w ≡ false
unfolding spells
words_apart [] e = refl
words_apart (b ∷ bs) e = let v : upper b ≡ 78 = eqb-true (upper b) 78 (and_left (eqb (upper b) 78) _ e) in rw v refl

pub not_retain : (t : Token) → is_word_token (codes "NON_RETAIN") t ≡ true → is_word_token (codes "RETAIN") t ≡ false
not_retain t is =
    let other = words_apart t.text (and_right (is_sign signs.Name t) (spells (codes "NON_RETAIN") t.text) is) in
    rw (and_left (is_sign signs.Name t) _ is, other) refl

pub this_law : (q : Qualifier) → Law Any (λ (x : Unit {0}). word (qualifier_word q) ∷ []) (keyword (qualifier_word q))
this_law q = keyword_law (qualifier_word q)

abbrev pub spelled_either : Qualifier → List Part
spelled_either q = word (qualifier_word q) ∷ []

pub either_qualifier_law : Law Any spelled_either either_qualifier_at
unfolding either_qualifier_at
either_qualifier_law = told_law (λ q. (qualifiers.Retain ≡ q) ⊎ (qualifiers.NonRetain ≡ q)) Any spelled_either _
    (choice_law (λ q. qualifiers.Retain ≡ q) (λ q. qualifiers.NonRetain ≡ q) spelled_either (next_is_word (qualifier_word qualifiers.Retain)) _ _
    (mapped_law Any (λ q. qualifiers.Retain ≡ q) _ spelled_either (λ u. qualifiers.Retain) _ (this_law qualifiers.Retain) (λ x. refl) (λ x d. refl) (λ q d. (tt, d, tt)))
    (mapped_law Any (λ q. qualifiers.NonRetain ≡ q) _ spelled_either (λ u. qualifiers.NonRetain) _ (this_law qualifiers.NonRetain) (λ x. refl) (λ x d. refl) (λ q d. (tt, d, tt)))
    begins begins_not)
    (λ x d. tt) all
  where
    begins : (q : Qualifier) (ts rest : List Token) → qualifiers.Retain ≡ q → Spell (spelled_either q) ts rest → next_is_word (codes "RETAIN") ts ≡ true
    begins qualifiers.Retain ts rest d h = front (is_word_token (codes "RETAIN")) [] ts rest h
    begins qualifiers.NonRetain ts rest d h = absurd cc

    begins_not : (q : Qualifier) (ts rest : List Token) → qualifiers.NonRetain ≡ q → Spell (spelled_either q) ts rest → next_is_word (codes "RETAIN") ts ≡ false
    begins_not qualifiers.NonRetain ts rest d h = not_retain (first ts) (front (is_word_token (codes "NON_RETAIN")) [] ts rest h)
    begins_not qualifiers.Retain ts rest d h = absurd cc

    all : (q : Qualifier) → Unit {0} → (qualifiers.Retain ≡ q) ⊎ (qualifiers.NonRetain ≡ q)
    all qualifiers.Retain d = inl refl
    all qualifiers.NonRetain d = inr refl

-- behind the test, where there is one
abbrev pub spelled_some : Option Qualifier → List Part
spelled_some None = []
spelled_some (Some q) = spelled_either q

pub qualifier_law : (dialect : Dialect) → Law Any (spelled_qualifier dialect) (qualifier_at dialect)
unfolding qualifier_at
qualifier_law dialect = told_law (λ o. (None ≡ o) ⊎ IsSome o) Any (spelled_qualifier dialect) _
    (else_law (λ o. None ≡ o) IsSome (spelled_qualifier dialect) spelled_some (no_qualifier dialect) _ _
    (stand_law (spelled_qualifier dialect) (no_qualifier dialect) None refl)
    (mapped_law Any IsSome spelled_either spelled_some Some _ either_qualifier_law (λ x. refl) (λ x d. tt) from_some)
    same begins)
    (λ x d. tt) all
  where
    same : (o : Option Qualifier) → IsSome o → spelled_qualifier dialect o ≡ ahead (reads_as_qualifier dialect) ∷ spelled_some o
    same (Some q) d = refl
    same None d = absurd d

    begins : (o : Option Qualifier) (ts rest : List Token) → None ≡ o → Spell (spelled_qualifier dialect o) ts rest → no_qualifier dialect ts ≡ true
    begins None ts rest d h = h.0
    begins (Some q) ts rest d h = absurd cc

    all : (o : Option Qualifier) → Unit {0} → (None ≡ o) ⊎ IsSome o
    all None d = inl refl
    all (Some q) d = inr tt

abbrev pub spelled_inside_block : Dialect → BlockText → List Part
spelled_inside_block dialect b = breaks ∷ (spelled_qualifier dialect b.qualifier ++ (listed ends_block spelled_declaration b.declarations ++ breaks ∷ word (codes "END_VAR") ∷ []))

pub block_law : (dialect : Dialect) → Law Any (spelled_block dialect) (block_at dialect)
unfolding block_at declared_at
block_law dialect = led_law Any (breaks ∷ word (block_word dialect) ∷ []) (spelled_inside_block dialect) _ _
    (past_law Any _ _ (keyword_law (block_word dialect)))
    (mapped_law _ Any _ (spelled_inside_block dialect) blocked _
    (pair_law Any Any _ _ _ _ (past_law Any _ _ (qualifier_law dialect))
    (closed_law Any _ _ _ _ (until_law spelled_declaration ends_block declaration_at declaration_law declaration_counts) (past_law Any _ _ (keyword_law (codes "END_VAR")))))
    (λ x. refl) (λ x d. tt)
    (λ b fits. (both b.qualifier b.declarations, refl, both tt tt)))

pub block_counts : (dialect : Dialect) → (b : BlockText) → 0 < count (spelled_block dialect b)
block_counts dialect b = omega arith

-- what each thing of a list takes

pub next_shrinks : (ts : List Token) (x : ArgumentText × List Token) → next_argument_at ts ≡ Ok x → length x.1 < length ts
next_shrinks = law_shrinks spelled_next next_argument_at next_argument_law next_counts

pub line_shrinks : (dialect : Dialect) → (ts : List Token) (x : LineText × List Token) → line_at dialect ts ≡ Ok x → length x.1 < length ts
line_shrinks dialect = law_shrinks (spelled_line dialect) (line_at dialect) (line_law dialect) (line_counts dialect)

pub name_shrinks : (ts : List Token) (x : Token × List Token) → name_at ts ≡ Ok x → length x.1 < length ts
name_shrinks = law_shrinks spelled_name name_at name_law name_counts

pub declaration_shrinks : (ts : List Token) (x : DeclarationText × List Token) → declaration_at ts ≡ Ok x → length x.1 < length ts
declaration_shrinks = law_shrinks spelled_declaration declaration_at declaration_law declaration_counts

pub block_shrinks : (dialect : Dialect) → (ts : List Token) (x : BlockText × List Token) → block_at dialect ts ≡ Ok x → length x.1 < length ts
block_shrinks dialect = law_shrinks (spelled_block dialect) (block_at dialect) (block_law dialect) (block_counts dialect)

-- programs

pub end_law : Law Any (λ (u : Unit {0}). ahead at_end ∷ []) end_at
unfolding end_at
end_law = here_law at_end

pub finish_law : Law Any (λ (u : Unit {0}). breaks ∷ word (codes "END_PROGRAM") ∷ breaks ∷ ahead at_end ∷ []) finish_at
unfolding finish_at
finish_law = led_law Any (breaks ∷ word (codes "END_PROGRAM") ∷ []) (λ u. breaks ∷ ahead at_end ∷ []) _ _ (past_law Any _ _ (keyword_law (codes "END_PROGRAM"))) (past_law Any _ _ end_law)

abbrev pub IsNamedProgram : ProgramText → Type 0
IsNamedProgram s = IsSome s.name

abbrev pub IsBareProgram : ProgramText → Type 0
IsBareProgram s = None ≡ s.name

-- a name, and what follows it in a program
abbrev pub spelled_by_title : (dialect : Dialect) → Option Token → ProgramText → List Part
spelled_by_title dialect None s = []
spelled_by_title dialect (Some t) s = name t ∷ (listed (ends_blocks dialect) (spelled_block dialect) s.blocks ++ (listed ends_named (spelled_line dialect) s.lines ++ breaks ∷ word (codes "END_PROGRAM") ∷ breaks ∷ ahead at_end ∷ []))

abbrev pub spelled_titled : (dialect : Dialect) → ProgramText → List Part
spelled_titled dialect s = spelled_by_title dialect s.name s

abbrev pub titled_at : (dialect : Dialect) → Reading ProgramText
titled_at dialect ts = mapped named_program (pair (expect signs.Name) (pair (many (ends_blocks dialect) (block_at dialect)) (closed (many ends_named (line_at dialect)) finish_at))) ts

pub titled_law : (dialect : Dialect) → Law IsNamedProgram (spelled_titled dialect) (titled_at dialect)
titled_law dialect = mapped_law _ IsNamedProgram _ (spelled_titled dialect) named_program _
    (pair_law Any _ _ _ _ _ (expect_law signs.Name)
    (pair_law Any Any _ _ _ _ (until_law (spelled_block dialect) (ends_blocks dialect) (block_at dialect) (block_law dialect) (block_counts dialect))
    (closed_law Any _ _ _ _ (until_law (spelled_line dialect) ends_named (line_at dialect) (line_law dialect) (line_counts dialect)) finish_law)))
    (λ x. refl) (λ x d. tt) from
  where
    from : (s : ProgramText) → IsNamedProgram s → (x : Token × (List BlockText × List LineText)) × (named_program x ≡ s) × (Unit {0} × (Unit {0} × Unit {0}))
    from s d =
        let t = some_from s.name d in
        (both t.0 (both s.blocks s.lines), ap (λ (o : Option Token). made o) t.1, both tt (both tt tt))
      where
        made : Option Token → ProgramText
        made o = record { name = o; blocks = s.blocks; lines = s.lines }

pub named_law : (dialect : Dialect) → Law IsNamedProgram (spelled_program dialect) (named_at dialect)
unfolding named_at
named_law dialect = told_spelling IsNamedProgram (λ s. breaks ∷ word (codes "PROGRAM") ∷ spelled_titled dialect s) (spelled_program dialect) _
    (led_law IsNamedProgram (breaks ∷ word (codes "PROGRAM") ∷ []) (spelled_titled dialect) _ _ (past_law Any _ _ (keyword_law (codes "PROGRAM"))) (titled_law dialect)) (λ s d. same s s.name d)
  where
    same : (s : ProgramText) (o : Option Token) → IsSome o → spelled_by dialect o s ≡ breaks ∷ word (codes "PROGRAM") ∷ spelled_by_title dialect o s
    same s None d = absurd d
    same s (Some t) d = refl

abbrev pub spelled_rest : (dialect : Dialect) → ProgramText → List Part
spelled_rest dialect s = spelled_bare dialect s

pub bare_law : (dialect : Dialect) → Law IsBareProgram (spelled_rest dialect) (bare_at dialect)
unfolding bare_at
bare_law dialect = mapped_law _ IsBareProgram _ (spelled_rest dialect) bare_program _
    (pair_law Any Any _ _ _ _ (until_law (spelled_block dialect) (ends_blocks dialect) (block_at dialect) (block_law dialect) (block_counts dialect))
    (closed_law Any _ _ _ _ (until_law (spelled_line dialect) ends_lines (line_at dialect) (line_law dialect) (line_counts dialect)) (past_law Any _ _ end_law)))
    (λ x. refl) (λ x d. refl) from
  where
    from : (s : ProgramText) → IsBareProgram s → (x : List BlockText × List LineText) × (bare_program x ≡ s) × (Unit {0} × Unit {0})
    from s d = (both s.blocks s.lines, ap (λ (o : Option Token). made o) d, both tt tt)
      where
        made : Option Token → ProgramText
        made o = record { name = o; blocks = s.blocks; lines = s.lines }

pub program_law : (dialect : Dialect) → Law Any (spelled_program dialect) (program_at dialect)
unfolding program_at begins_program
program_law dialect = told_law (λ s. IsNamedProgram s ⊎ IsBareProgram s) Any (spelled_program dialect) _
    (else_law IsNamedProgram IsBareProgram (spelled_program dialect) (spelled_rest dialect) begins_program _ _ (named_law dialect) (bare_law dialect) same begins)
    (λ x d. tt) (λ s d. some_or_none s.name)
  where
    same : (s : ProgramText) → IsBareProgram s → spelled_program dialect s ≡ ahead is_bare ∷ spelled_rest dialect s
    same s d = ap (λ (o : Option Token). (spelled_by dialect) o s) (sym d)

    begins : (s : ProgramText) (ts rest : List Token) → IsNamedProgram s → Spell (spelled_program dialect s) ts rest → begins_program ts ≡ true
    begins s ts rest d h = by_name s.name d h
      where
        by_name : (o : Option Token) → IsSome o → Spell (spelled_by dialect o s) ts rest → begins_program ts ≡ true
        by_name None d h = absurd d
        by_name (Some t) d h = front (is_word_token (codes "PROGRAM")) (name t ∷ (listed (ends_blocks dialect) (spelled_block dialect) s.blocks ++ (listed ends_named (spelled_line dialect) s.lines ++ breaks ∷ word (codes "END_PROGRAM") ∷ breaks ∷ ahead at_end ∷ []))) (skip_breaks ts) rest h
