-- The laws of each part of the grammar of units: what is read is spelled so, and what is spelled so is read.
use Rattle.std.proofs.Common.{◌≡◌, ℕ, eqb, length, ◌<◌, get_or, Bool, true, false, not, cond, List, [], ◌∷◌, ◌++◌, map, Option, Some, None, Result, Ok, Err, refl, sym, ap, subst, ◌∙◌, arith, codes, inl, inr, ◌⊎◌, ◌&&◌, ◌||◌}
use Rattle.std.specs.List.{flat_map}
use Rattle.std.proofs.lemmas.Bool.{eqb-true}
use Rattle.il_model.specs.declared.dialect.Dialect.{Dialect}
use Rattle.il_model.specs.declared.dialect.Dialect.TheVariants as dialects
use Rattle.il_values.specs.Spelled.{spells, upper}
use Rattle.il_reader.specs.declared.fault.FaultAt.{FaultAt}
use Rattle.il_reader.specs.declared.lexeme.Sign.TheVariants as signs
use Rattle.il_reader.specs.declared.contents.Qualifier.{Qualifier}
use Rattle.il_reader.specs.Tokens.{Token}
use Rattle.il_reader.specs.Front.{first, others, is_sign, is_word_token, next_is, next_is_word, skip_breaks, at_end, no_token}
use Rattle.il_reader.specs.Reading.{Reading, expect, keyword, many, both, pair, led, closed, mapped, choice, past, mark, stand}
use Rattle.il_reader.specs.Grammar.{OperandText, OperationText, DeclarationText, is_line_stop, ends_block, begins_program}
use Rattle.il_reader.specs.Spelling.{Part, breaks, one, this, ahead, Spell, name, sign, word, listed, spelled_operand, spelled_operation, spelled_declaration, spelled_qualifier}
use Rattle.il_reader.specs.Walk.{operand_at, operation_at, declaration_at, qualifier_at, declared_at, together, end_at}
use Rattle.il_reader.proofs.Laws.{Law, Any, ok_is, count, law_shrinks, led_law, closed_law, many_law, until_law, pair_law, mapped_law, choice_law, told_law, past_law, else_law, no_front, stand_law, token_law, Spell-split}
use Rattle.il_reader.proofs.Programs.{expect_law, mark_expect_law, keyword_law, front, front_this, false_true, and_left, and_right, both_true, IsSome, some_or_none, from_some, sign_not, stops_line, operand_law, operand_no_stop, operation_law, operation_no_stop, here_law, qualifier_law, declaration_law, declaration_counts, end_law}
use Rattle.il_units.specs.declared.contents.UnitKind.{UnitKind}
use Rattle.il_units.specs.declared.contents.UnitKind.TheVariants as units
use Rattle.il_units.specs.declared.contents.SectionKind.{SectionKind}
use Rattle.il_units.specs.declared.contents.SectionKind.TheVariants as sections
use Rattle.il_units.specs.Units.{SectionText, StepText, Operation, Function, LineText, UnitText}
use Rattle.il_units.specs.Spelling.{is_function, before_function, before_no_function, spelled_other, ends_others, spelled_others, spelled_step, spelled_optional_step, is_label, is_no_label, spelled_content, spelled_line, before_constant, before_no_constant, spelled_kind, ends_sections, spelled_section, unit_word, end_word, ends_unit, spelled_result, spelled_behind_word, spelled_unit, spelled_units}
use Rattle.il_units.specs.Walk.{function_name_at, other_at, others_at, a_function, step_at, optional_step_at, labelled, unlabelled, labelled_at, content_at, line_at, this_kind, local_at, output_kind_at, other_kind_at, kind_at, a_section, section_at, result_at, a_unit, behind_word_at, this_unit, block_or_program_at, solid_unit_at, unit_at, put_last, units_at}

-- ---- words that are two

-- a text in either case is one word
spelled_is : (w b : List ℕ) → spells w b ≡ true → map upper b ≡ w
unfolding spells
spelled_is [] [] e = refl
spelled_is [] (b ∷ bs) e = absurd (false_true e)
spelled_is (k ∷ ks) [] e = absurd (false_true e)
spelled_is (k ∷ ks) (b ∷ bs) e =
    let head : upper b ≡ k = eqb-true (upper b) k (and_left (eqb (upper b) k) (spells ks bs) e) in
    let more : map upper bs ≡ ks = spelled_is ks bs (and_right (eqb (upper b) k) (spells ks bs) e) in
    rw (head, more) refl

-- one word is spelled, and so no other
other_word : (w v : List ℕ) → (w ≡ v → ⊥) → (t : Token) → is_word_token w t ≡ true → is_word_token v t ≡ false
other_word w v apart t is = by_test (is_word_token v t) refl
  where
    by_test : (b : Bool) → is_word_token v t ≡ b → b ≡ false
    by_test false e = refl
    by_test true e = absurd (apart (sym (spelled_is w t.text (and_right (is_sign signs.Name t) _ is)) ∙ spelled_is v t.text (and_right (is_sign signs.Name t) _ e)))

longer : (w v : List ℕ) → (length w ≡ length v → ⊥) → w ≡ v → ⊥
longer w v apart e = apart (ap length e)

-- ---- lines

other_law : Law Any spelled_other other_at
unfolding other_at
other_law = led_law Any (sign signs.Comma ∷ []) spelled_operand _ _ (mark_expect_law signs.Comma) operand_law

other_goes : (x : OperandText) (ts rest : List Token) → Spell (spelled_other x) ts rest → ends_others ts ≡ false
unfolding ends_others
other_goes x ts rest h = rw (front (is_sign signs.Comma) (spelled_operand x) ts rest h) refl

other_counts : (x : OperandText) → 0 < count (spelled_other x)
other_counts x = omega arith

abbrev IsNone : List OperandText → Type 0
IsNone xs = [] ≡ xs

abbrev IsSeveral : List OperandText → Type 0
IsSeveral [] = ⊥
IsSeveral (x ∷ xs) = Unit {0}

others_law : Law Any spelled_others others_at
unfolding others_at
others_law = told_law (λ xs. IsNone xs ⊎ IsSeveral xs) Any spelled_others _
    (choice_law IsNone IsSeveral spelled_others is_line_stop _ _
    (stand_law spelled_others is_line_stop [] refl)
    (mapped_law _ IsSeveral _ spelled_others together _
    (pair_law Any Any _ _ _ _ operand_law (many_law spelled_other ends_others other_at other_law other_counts other_goes))
    (λ x. refl) (λ x d. tt) from)
    begins begins_not)
    (λ x d. tt) all
  where
    from : (xs : List OperandText) → IsSeveral xs → (y : OperandText × List OperandText) × (together y ≡ xs) × (Unit {0} × Unit {0})
    from [] d = absurd d
    from (x ∷ xs) d = (both x xs, refl, both tt tt)

    begins : (xs : List OperandText) (ts rest : List Token) → IsNone xs → Spell (spelled_others xs) ts rest → is_line_stop ts ≡ true
    begins [] ts rest d h = h.0
    begins (x ∷ xs) ts rest d h = absurd cc

    begins_not : (xs : List OperandText) (ts rest : List Token) → IsSeveral xs → Spell (spelled_others xs) ts rest → is_line_stop ts ≡ false
    begins_not [] ts rest d h = absurd d
    begins_not (x ∷ xs) ts rest d h =
        let parts = Spell-split (spelled_operand x) (flat_map spelled_other xs ++ ahead ends_others ∷ []) ts rest h in
        operand_no_stop x ts parts.0 parts.1

    all : (xs : List OperandText) → Unit {0} → IsNone xs ⊎ IsSeveral xs
    all [] d = inl refl
    all (x ∷ xs) d = inr tt

function_name_law : (dialect : Dialect) → Law Any (λ t. this (is_function dialect) t ∷ []) (function_name_at dialect)
unfolding function_name_at
function_name_law dialect = token_law (is_function dialect) refl

abbrev IsCall : StepText → Type 0
IsCall (Function t xs) = Unit {0}
IsCall (Operation o) = ⊥

abbrev IsOperation : StepText → Type 0
IsOperation (Operation o) = Unit {0}
IsOperation (Function t xs) = ⊥

abbrev spelled_alone : Dialect → StepText → List Part
spelled_alone dialect (Operation o) = spelled_operation dialect o
spelled_alone dialect step = []

step_law : (dialect : Dialect) → Law Any (spelled_step dialect) (step_at dialect)
unfolding step_at
step_law dialect = told_law (λ x. IsCall x ⊎ IsOperation x) Any (spelled_step dialect) _
    (else_law IsCall IsOperation (spelled_step dialect) (spelled_alone dialect) (before_function dialect) _ _
    (mapped_law _ IsCall (λ (x : Token × List OperandText). this (is_function dialect) x.0 ∷ spelled_others x.1) (spelled_step dialect) a_function _ (pair_law Any Any _ _ _ _ (function_name_law dialect) others_law) (λ x. refl) (λ x d. tt) from_call)
    (mapped_law Any IsOperation (spelled_operation dialect) (spelled_alone dialect) Operation _ (operation_law dialect) (λ x. refl) (λ x d. tt) from_operation)
    same begins)
    (λ x d. tt) all
  where
    from_call : (x : StepText) → IsCall x → (y : Token × List OperandText) × (a_function y ≡ x) × (Unit {0} × Unit {0})
    from_call (Function t xs) d = (both t xs, refl, both tt tt)
    from_call (Operation o) d = absurd d

    from_operation : (x : StepText) → IsOperation x → (o : OperationText) × (Operation o ≡ x) × Unit {0}
    from_operation (Operation o) d = (o, refl, tt)
    from_operation (Function t xs) d = absurd d

    same : (x : StepText) → IsOperation x → spelled_step dialect x ≡ ahead (λ us. not (before_function dialect us)) ∷ spelled_alone dialect x
    same (Operation o) d = refl
    same (Function t xs) d = absurd d

    begins : (x : StepText) (ts rest : List Token) → IsCall x → Spell (spelled_step dialect x) ts rest → before_function dialect ts ≡ true
    begins (Function t xs) ts rest d h = front_this (is_function dialect) t (spelled_others xs) ts rest h
    begins (Operation o) ts rest d h = absurd d

    all : (x : StepText) → Unit {0} → IsCall x ⊎ IsOperation x
    all (Function t xs) d = inl tt
    all (Operation o) d = inr tt

-- a step is no end of a line
step_no_stop : (dialect : Dialect) (x : StepText) (ts rest : List Token) → Spell (spelled_step dialect x) ts rest → is_line_stop ts ≡ false
step_no_stop dialect (Operation o) ts rest h = operation_no_stop dialect o ts rest h.1
step_no_stop dialect (Function t xs) ts rest h =
    sign_not stops_line signs.Name (first ts) (and_left (is_sign signs.Name (first ts)) _ (front_this (is_function dialect) t (spelled_others xs) ts rest h)) refl

optional_step_law : (dialect : Dialect) → Law Any (spelled_optional_step dialect) (optional_step_at dialect)
unfolding optional_step_at
optional_step_law dialect = told_law (λ o. (None ≡ o) ⊎ IsSome o) Any (spelled_optional_step dialect) _
    (choice_law (λ o. None ≡ o) IsSome (spelled_optional_step dialect) is_line_stop _ _
    (stand_law (spelled_optional_step dialect) is_line_stop None refl)
    (mapped_law Any IsSome (spelled_step dialect) (spelled_optional_step dialect) Some _ (step_law dialect) (λ x. refl) (λ x d. tt) from_some)
    begins begins_not)
    (λ x d. tt) all
  where
    begins : (o : Option StepText) (ts rest : List Token) → None ≡ o → Spell (spelled_optional_step dialect o) ts rest → is_line_stop ts ≡ true
    begins None ts rest d h = h.0
    begins (Some x) ts rest d h = absurd cc

    begins_not : (o : Option StepText) (ts rest : List Token) → IsSome o → Spell (spelled_optional_step dialect o) ts rest → is_line_stop ts ≡ false
    begins_not None ts rest d h = absurd d
    begins_not (Some x) ts rest d h = step_no_stop dialect x ts rest h

    all : (o : Option StepText) → Unit {0} → (None ≡ o) ⊎ IsSome o
    all None d = inl refl
    all (Some x) d = inr tt

abbrev spelled_said : Dialect → LineText → List Part
spelled_said dialect l = spelled_content dialect l.label l.step

abbrev IsLabelled : LineText → Type 0
IsLabelled l = IsSome l.label

abbrev IsBare : LineText → Type 0
IsBare l = (None ≡ l.label) × IsSome l.step

abbrev line_with : Option Token → Option StepText → LineText
line_with label step = record { label = label; step = step }

labelled_law : (dialect : Dialect) → Law IsLabelled (spelled_said dialect) (labelled_at dialect)
unfolding labelled_at
labelled_law dialect = mapped_law _ IsLabelled _ (spelled_said dialect) labelled _
    (pair_law Any _ _ _ _ _ (expect_law signs.Name) (led_law Any _ _ _ _ (mark_expect_law signs.Colon) (optional_step_law dialect)))
    (λ x. refl) (λ x d. tt) (λ l d. from l.label l.step d)
  where
    from : (o : Option Token) (x : Option StepText) → IsSome o → (y : Token × Option StepText) × (labelled y ≡ line_with o x) × (Unit {0} × Unit {0})
    from (Some t) x d = (both t x, refl, both tt tt)
    from None x d = absurd d

abbrev spelled_optional : Dialect → Option StepText → List Part
spelled_optional dialect None = []
spelled_optional dialect (Some x) = spelled_step dialect x

abbrev spelled_unlabelled : Dialect → LineText → List Part
spelled_unlabelled dialect l = spelled_optional dialect l.step

unlabelled_law : (dialect : Dialect) → Law IsBare (spelled_unlabelled dialect) (mapped unlabelled (step_at dialect))
unlabelled_law dialect = mapped_law Any IsBare (spelled_step dialect) (spelled_unlabelled dialect) unlabelled _ (step_law dialect)
    (λ x. refl) (λ x d. (refl, tt)) (λ l d. from l.label l.step d.0 d.1)
  where
    from : (o : Option Token) (x : Option StepText) → None ≡ o → IsSome x → (y : StepText) × (unlabelled y ≡ line_with o x) × Unit {0}
    from None (Some y) n d = (y, refl, tt)
    from None None n d = absurd d
    from (Some t) x n d = absurd cc

label_begins : (t : Token) (ps : List Part) (ts rest : List Token) → Spell (name t ∷ sign signs.Colon ∷ ps) ts rest → is_label ts ≡ true
label_begins t ps [] rest h = absurd h
label_begins t ps (u ∷ us) rest h = both_true _ _ h.0.0 (front (is_sign signs.Colon) ps us rest h.1)

said_law : (dialect : Dialect) → Law (λ l. IsLabelled l ⊎ IsBare l) (spelled_said dialect) (content_at dialect)
unfolding content_at
said_law dialect = else_law IsLabelled IsBare (spelled_said dialect) (spelled_unlabelled dialect) is_label _ _ (labelled_law dialect) (unlabelled_law dialect)
    (λ l d. same l.label l.step d.0 d.1) (λ l ts rest d h. begins l.label l.step ts rest d h)
  where
    same : (o : Option Token) (x : Option StepText) → None ≡ o → IsSome x → spelled_content dialect o x ≡ ahead (λ us. not (is_label us)) ∷ spelled_optional dialect x
    same None (Some y) n d = refl
    same None None n d = absurd d
    same (Some t) x n d = absurd cc

    begins : (o : Option Token) (x : Option StepText) (ts rest : List Token) → IsSome o → Spell (spelled_content dialect o x) ts rest → is_label ts ≡ true
    begins (Some t) x ts rest d h = label_begins t (spelled_optional_step dialect x) ts rest h
    begins None x ts rest d h = absurd d

never_one : (ts rest : List Token) → Spell (one (λ t. false) ∷ []) ts rest → ⊥
never_one [] rest h = h
never_one (t ∷ ts) rest h = false_true h.0

-- a line has a label, a step, or both
has_content : (dialect : Dialect) (o : Option Token) (x : Option StepText) (ts rest : List Token) → Spell (spelled_content dialect o x) ts rest
    → IsLabelled (line_with o x) ⊎ IsBare (line_with o x)
has_content dialect (Some t) x ts rest h = inl tt
has_content dialect None (Some y) ts rest h = inr (refl, tt)
has_content dialect None None ts rest h = absurd (never_one ts rest h)

content_law : (dialect : Dialect) → Law Any (spelled_said dialect) (content_at dialect)
content_law dialect = record {
  takes = λ ts x e. (tt, ((said_law dialect).takes ts x e).1);
  again = λ l ts rest d h. (said_law dialect).again l ts rest (has_content dialect l.label l.step ts rest h) h;
}

pub line_law : (dialect : Dialect) → Law Any (spelled_line dialect) (line_at dialect)
unfolding line_at
line_law dialect = closed_law Any (λ l. breaks ∷ spelled_said dialect l) (ahead is_line_stop ∷ []) _ _ (past_law Any (spelled_said dialect) _ (content_law dialect)) (here_law is_line_stop)

line_counts : (dialect : Dialect) (l : LineText) → 0 < count (spelled_line dialect l)
line_counts dialect l = by_parts l.label l.step
  where
    by_step : (x : StepText) → 0 < count (spelled_step dialect x ++ ahead is_line_stop ∷ [])
    by_step (Operation o) = omega arith
    by_step (Function t xs) = omega arith

    by_parts : (o : Option Token) (x : Option StepText) → 0 < count (spelled_content dialect o x ++ ahead is_line_stop ∷ [])
    by_parts (Some t) x = omega arith
    by_parts None (Some y) = by_step y
    by_parts None None = omega arith

-- ---- sections

this_kind_law : (w : List ℕ) (kind : SectionKind) → Law (λ k. kind ≡ k) (λ k. word w ∷ []) (this_kind w kind)
this_kind_law w kind = mapped_law Any (λ k. kind ≡ k) (λ u. word w ∷ []) (λ k. word w ∷ []) (λ u. kind) _ (keyword_law w) (λ x. refl) (λ x d. refl) (λ k d. (tt, d, tt))

abbrev spelled_local : SectionKind → List Part
spelled_local sections.Local = ahead before_no_constant ∷ []
spelled_local sections.Constant = word (codes "CONSTANT") ∷ []
spelled_local kind = []

-- the same under a spelling that is the same for what is read
told_spelling : {X : Type 0} (D : X → Type 0) (s q : X → List Part) (a : Reading X) → Law D s a → ((x : X) → D x → q x ≡ s x) → Law D q a
told_spelling D s q a la same = record {
  takes = λ ts x e.
      let g = la.takes ts x e in
      let P : List Part → Type 0 = λ ps. Spell ps ts x.1 in
      (g.0, subst P (sym (same x.0 g.0)) g.1);
  again = λ x ts rest d h.
      let P : List Part → Type 0 = λ ps. Spell ps ts rest in
      la.again x ts rest d (subst P (same x d) h);
}

abbrev IsOfVar : SectionKind → Type 0
IsOfVar kind = (sections.Constant ≡ kind) ⊎ (sections.Local ≡ kind)

local_law : Law IsOfVar spelled_local local_at
unfolding local_at
local_law = choice_law (λ k. sections.Constant ≡ k) (λ k. sections.Local ≡ k) spelled_local before_constant _ _
    (told_spelling (λ k. sections.Constant ≡ k) (λ k. word (codes "CONSTANT") ∷ []) spelled_local _ (this_kind_law (codes "CONSTANT") sections.Constant) same)
    (stand_law spelled_local before_no_constant sections.Local refl)
    begins begins_not
  where
    same : (k : SectionKind) → sections.Constant ≡ k → spelled_local k ≡ word (codes "CONSTANT") ∷ []
    same sections.Constant d = refl
    same sections.Local d = absurd cc
    same sections.Input d = absurd cc
    same sections.Output d = absurd cc
    same sections.InOut d = absurd cc

    begins : (k : SectionKind) (ts rest : List Token) → sections.Constant ≡ k → Spell (spelled_local k) ts rest → before_constant ts ≡ true
    begins sections.Constant ts rest d h = front (is_word_token (codes "CONSTANT")) [] ts rest h
    begins sections.Local ts rest d h = absurd cc
    begins sections.Input ts rest d h = absurd cc
    begins sections.Output ts rest d h = absurd cc
    begins sections.InOut ts rest d h = absurd cc

    begins_not : (k : SectionKind) (ts rest : List Token) → sections.Local ≡ k → Spell (spelled_local k) ts rest → before_constant ts ≡ false
    begins_not sections.Local ts rest d h = no_front (before_constant ts) h.0
    begins_not sections.Constant ts rest d h = absurd cc
    begins_not sections.Input ts rest d h = absurd cc
    begins_not sections.Output ts rest d h = absurd cc
    begins_not sections.InOut ts rest d h = absurd cc

-- the words of sections are other words
var_input : codes "VAR_INPUT" ≡ codes "VAR" → ⊥
var_input e = longer (codes "VAR_INPUT") (codes "VAR") (λ n. absurd (omega (arith, n))) e

var_output : codes "VAR_OUTPUT" ≡ codes "VAR" → ⊥
var_output e = longer (codes "VAR_OUTPUT") (codes "VAR") (λ n. absurd (omega (arith, n))) e

var_in_out : codes "VAR_IN_OUT" ≡ codes "VAR" → ⊥
var_in_out e = longer (codes "VAR_IN_OUT") (codes "VAR") (λ n. absurd (omega (arith, n))) e

output_input : codes "VAR_OUTPUT" ≡ codes "VAR_INPUT" → ⊥
output_input e = longer (codes "VAR_OUTPUT") (codes "VAR_INPUT") (λ n. absurd (omega (arith, n))) e

in_out_input : codes "VAR_IN_OUT" ≡ codes "VAR_INPUT" → ⊥
in_out_input e = longer (codes "VAR_IN_OUT") (codes "VAR_INPUT") (λ n. absurd (omega (arith, n))) e

in_out_output : codes "VAR_IN_OUT" ≡ codes "VAR_OUTPUT" → ⊥
in_out_output e =
    let n : get_or (codes "VAR_IN_OUT") 4 0 ≡ get_or (codes "VAR_OUTPUT") 4 0 = ap (λ (w : List ℕ). get_or w 4 0) e in
    absurd (omega (arith, n))

abbrev IsOutside : SectionKind → Type 0
IsOutside kind = (sections.Output ≡ kind) ⊎ (sections.InOut ≡ kind)

abbrev IsOther : SectionKind → Type 0
IsOther kind = (sections.Input ≡ kind) ⊎ IsOutside kind

-- a kind that has one word of its own
one_word : (w : List ℕ) (kind : SectionKind) → spelled_kind kind ≡ word w ∷ [] → Law (λ k. kind ≡ k) spelled_kind (this_kind w kind)
one_word w kind is = told_spelling (λ k. kind ≡ k) (λ k. word w ∷ []) spelled_kind _ (this_kind_law w kind) (λ k d. ap spelled_kind (sym d) ∙ is)

-- where it stands, its word stands next
word_next : (w : List ℕ) (kind k : SectionKind) (ts rest : List Token) → spelled_kind kind ≡ word w ∷ [] → kind ≡ k → Spell (spelled_kind k) ts rest → next_is_word w ts ≡ true
word_next w kind k ts rest is d h =
    let P : List Part → Type 0 = λ ps. Spell ps ts rest in
    front (is_word_token w) [] ts rest (subst P (ap spelled_kind (sym d) ∙ is) h)

-- and no other
word_not : (w v : List ℕ) (kind k : SectionKind) (ts rest : List Token) → spelled_kind kind ≡ word w ∷ [] → (w ≡ v → ⊥) → kind ≡ k → Spell (spelled_kind k) ts rest → next_is_word v ts ≡ false
word_not w v kind k ts rest is apart d h = other_word w v apart (first ts) (word_next w kind k ts rest is d h)

output_kind_law : Law IsOutside spelled_kind output_kind_at
unfolding output_kind_at
output_kind_law = choice_law (λ k. sections.Output ≡ k) (λ k. sections.InOut ≡ k) spelled_kind (next_is_word (codes "VAR_OUTPUT")) _ _
    (one_word (codes "VAR_OUTPUT") sections.Output refl) (one_word (codes "VAR_IN_OUT") sections.InOut refl)
    (λ k ts rest d h. word_next (codes "VAR_OUTPUT") sections.Output k ts rest refl d h)
    (λ k ts rest d h. word_not (codes "VAR_IN_OUT") (codes "VAR_OUTPUT") sections.InOut k ts rest refl in_out_output d h)

other_kind_law : Law IsOther spelled_kind other_kind_at
unfolding other_kind_at
other_kind_law = choice_law (λ k. sections.Input ≡ k) IsOutside spelled_kind (next_is_word (codes "VAR_INPUT")) _ _
    (one_word (codes "VAR_INPUT") sections.Input refl) output_kind_law
    (λ k ts rest d h. word_next (codes "VAR_INPUT") sections.Input k ts rest refl d h)
    begins_not
  where
    begins_not : (k : SectionKind) (ts rest : List Token) → IsOutside k → Spell (spelled_kind k) ts rest → next_is_word (codes "VAR_INPUT") ts ≡ false
    begins_not k ts rest (inl d) h = word_not (codes "VAR_OUTPUT") (codes "VAR_INPUT") sections.Output k ts rest refl output_input d h
    begins_not k ts rest (inr d) h = word_not (codes "VAR_IN_OUT") (codes "VAR_INPUT") sections.InOut k ts rest refl in_out_input d h

var_law : Law IsOfVar spelled_kind (led (keyword (codes "VAR")) (past local_at))
var_law = told_spelling IsOfVar (λ k. word (codes "VAR") ∷ breaks ∷ spelled_local k) spelled_kind _
    (led_law IsOfVar (word (codes "VAR") ∷ []) (λ k. breaks ∷ spelled_local k) _ _ (keyword_law (codes "VAR")) (past_law IsOfVar spelled_local _ local_law))
    same
  where
    same : (k : SectionKind) → IsOfVar k → spelled_kind k ≡ word (codes "VAR") ∷ breaks ∷ spelled_local k
    same sections.Constant d = refl
    same sections.Local d = refl
    same sections.Input (inl d) = absurd cc
    same sections.Input (inr d) = absurd cc
    same sections.Output (inl d) = absurd cc
    same sections.Output (inr d) = absurd cc
    same sections.InOut (inl d) = absurd cc
    same sections.InOut (inr d) = absurd cc

kind_law : Law Any spelled_kind kind_at
unfolding kind_at
kind_law = told_law (λ k. IsOfVar k ⊎ IsOther k) Any spelled_kind _
    (choice_law IsOfVar IsOther spelled_kind (next_is_word (codes "VAR")) _ _ var_law other_kind_law begins begins_not)
    (λ x d. tt) all
  where
    begins : (k : SectionKind) (ts rest : List Token) → IsOfVar k → Spell (spelled_kind k) ts rest → next_is_word (codes "VAR") ts ≡ true
    begins sections.Constant ts rest d h = front (is_word_token (codes "VAR")) (breaks ∷ word (codes "CONSTANT") ∷ []) ts rest h
    begins sections.Local ts rest d h = front (is_word_token (codes "VAR")) (breaks ∷ ahead before_no_constant ∷ []) ts rest h
    begins sections.Input ts rest (inl d) h = absurd cc
    begins sections.Input ts rest (inr d) h = absurd cc
    begins sections.Output ts rest (inl d) h = absurd cc
    begins sections.Output ts rest (inr d) h = absurd cc
    begins sections.InOut ts rest (inl d) h = absurd cc
    begins sections.InOut ts rest (inr d) h = absurd cc

    begins_not : (k : SectionKind) (ts rest : List Token) → IsOther k → Spell (spelled_kind k) ts rest → next_is_word (codes "VAR") ts ≡ false
    begins_not k ts rest (inl d) h = word_not (codes "VAR_INPUT") (codes "VAR") sections.Input k ts rest refl var_input d h
    begins_not k ts rest (inr (inl d)) h = word_not (codes "VAR_OUTPUT") (codes "VAR") sections.Output k ts rest refl var_output d h
    begins_not k ts rest (inr (inr d)) h = word_not (codes "VAR_IN_OUT") (codes "VAR") sections.InOut k ts rest refl var_in_out d h

    all : (k : SectionKind) → Unit {0} → IsOfVar k ⊎ IsOther k
    all sections.Constant d = inl (inl refl)
    all sections.Local d = inl (inr refl)
    all sections.Input d = inr (inl refl)
    all sections.Output d = inr (inr (inl refl))
    all sections.InOut d = inr (inr (inr refl))

section_law : (dialect : Dialect) → Law Any (spelled_section dialect) (section_at dialect)
unfolding section_at declared_at
section_law dialect = mapped_law _ Any _ (spelled_section dialect) a_section _
    (pair_law Any _ _ _ _ _ (past_law Any _ _ kind_law)
    (pair_law Any Any _ _ _ _ (past_law Any _ _ (qualifier_law dialect))
    (closed_law Any _ _ _ _ (until_law spelled_declaration ends_block declaration_at declaration_law declaration_counts) (past_law Any _ _ (keyword_law (codes "END_VAR"))))))
    (λ x. refl) (λ x d. tt)
    (λ s d. (both s.kind (both s.qualifier s.declarations), refl, both tt (both tt tt)))

section_counts : (dialect : Dialect) (s : SectionText) → 0 < count (spelled_section dialect s)
section_counts dialect s = by_kind s.kind
  where
    by_kind : (k : SectionKind) → 0 < count (spelled_kind k ++ breaks ∷ (spelled_qualifier dialect s.qualifier ++ (listed ends_block spelled_declaration s.declarations ++ breaks ∷ word (codes "END_VAR") ∷ [])))
    by_kind sections.Local = omega arith
    by_kind sections.Constant = omega arith
    by_kind sections.Input = omega arith
    by_kind sections.Output = omega arith
    by_kind sections.InOut = omega arith

-- ---- units

-- a function has a result, and no other unit has one
abbrev IsResult : UnitKind → Option Token → Type 0
IsResult units.Function o = IsSome o
IsResult units.FunctionBlock o = None ≡ o
IsResult units.Program o = None ≡ o

abbrev no_result : List Token → Result (Option Token × List Token) FaultAt
no_result ts = Ok (None, ts)

no_result_law : (kind : UnitKind) → spelled_result kind None ≡ [] → Law (λ o. None ≡ o) (spelled_result kind) no_result
no_result_law kind none = record { takes = takes; again = again }
  where
    takes : (ts : List Token) (x : Option Token × List Token) → no_result ts ≡ Ok x → (None ≡ x.0) × Spell (spelled_result kind x.0) ts x.1
    takes ts x e =
        let P : Option Token × List Token → Type 0 = λ y. (None ≡ y.0) × Spell (spelled_result kind y.0) ts y.1 in
        let Q : List Part → Type 0 = λ ps. Spell ps ts ts in
        subst P (ok_is (None, ts) x e) (refl, subst Q (sym none) refl)

    again : (o : Option Token) (ts rest : List Token) → None ≡ o → Spell (spelled_result kind o) ts rest → no_result ts ≡ Ok (o, rest)
    again None ts rest d h =
        let Q : List Part → Type 0 = λ ps. Spell ps ts rest in
        rw (subst Q none h) refl
    again (Some t) ts rest d h = absurd cc

result_law : (kind : UnitKind) → Law (IsResult kind) (spelled_result kind) (result_at kind)
unfolding result_at
result_law units.Function = mapped_law Any IsSome (λ t. breaks ∷ sign signs.Colon ∷ breaks ∷ name t ∷ []) (spelled_result units.Function) Some _
    (led_law Any (breaks ∷ sign signs.Colon ∷ []) (λ t. breaks ∷ name t ∷ []) _ _ (past_law Any _ _ (mark_expect_law signs.Colon)) (past_law Any _ _ (expect_law signs.Name)))
    (λ x. refl) (λ x d. tt) from_some
result_law units.FunctionBlock = no_result_law units.FunctionBlock refl
result_law units.Program = no_result_law units.Program refl

abbrev IsUnitOf : UnitKind → UnitText → Type 0
IsUnitOf kind u = (kind ≡ u.kind) × IsResult u.kind u.result

abbrev spelled_of : Dialect → UnitKind → UnitText → List Part
spelled_of dialect kind u = name u.name ∷ (spelled_result kind u.result
    ++ (listed ends_sections (spelled_section dialect) u.sections
    ++ (listed (ends_unit kind) (spelled_line dialect) u.lines ++ breaks ∷ word (end_word kind) ∷ [])))

behind_word_law : (dialect : Dialect) (kind : UnitKind) → Law (IsUnitOf kind) (spelled_behind_word dialect) (behind_word_at dialect kind)
unfolding behind_word_at
behind_word_law dialect kind = told_spelling (IsUnitOf kind) (spelled_of dialect kind) (spelled_behind_word dialect) _
    (mapped_law _ (IsUnitOf kind) _ (spelled_of dialect kind) (a_unit kind) _
    (pair_law Any _ _ _ _ _ (expect_law signs.Name)
    (pair_law (IsResult kind) _ _ _ _ _ (result_law kind)
    (pair_law Any Any _ _ _ _ (until_law (spelled_section dialect) ends_sections (section_at dialect) (section_law dialect) (section_counts dialect))
    (closed_law Any _ _ _ _ (until_law (spelled_line dialect) (ends_unit kind) (line_at dialect) (line_law dialect) (line_counts dialect)) (past_law Any _ _ (keyword_law (end_word kind)))))))
    (λ x. refl) (λ x d. (refl, d.1.0)) from)
    (λ u d. ap (λ (k : UnitKind). spelled_of dialect k u) (sym d.0))
  where
    made : UnitText → UnitKind → UnitText
    made u k = record { kind = k; name = u.name; result = u.result; sections = u.sections; lines = u.lines }

    from : (u : UnitText) → IsUnitOf kind u → (x : Token × (Option Token × (List SectionText × List LineText))) × (a_unit kind x ≡ u) × (Unit {0} × (IsResult kind x.1.0 × (Unit {0} × Unit {0})))
    from u d =
        let P : UnitKind → Type 0 = λ k. IsResult k u.result in
        (both u.name (both u.result (both u.sections u.lines)), ap (made u) d.0, both tt (both (subst P (sym d.0) d.1) (both tt tt)))

abbrev spelled_solid : Dialect → UnitText → List Part
spelled_solid dialect u = word (unit_word u.kind) ∷ spelled_behind_word dialect u

this_unit_law : (dialect : Dialect) (kind : UnitKind) → Law (IsUnitOf kind) (spelled_solid dialect) (this_unit dialect kind)
this_unit_law dialect kind = told_spelling (IsUnitOf kind) (λ u. word (unit_word kind) ∷ spelled_behind_word dialect u) (spelled_solid dialect) _
    (led_law (IsUnitOf kind) (word (unit_word kind) ∷ []) (spelled_behind_word dialect) _ _ (keyword_law (unit_word kind)) (behind_word_law dialect kind))
    (λ u d. ap (λ (k : UnitKind). word (unit_word k) ∷ spelled_behind_word dialect u) (sym d.0))

unit_next : (dialect : Dialect) (kind : UnitKind) (u : UnitText) (ts rest : List Token) → kind ≡ u.kind → Spell (spelled_solid dialect u) ts rest → next_is_word (unit_word kind) ts ≡ true
unit_next dialect kind u ts rest d h =
    let P : UnitKind → Type 0 = λ k. next_is_word (unit_word k) ts ≡ true in
    subst P (sym d) (front (is_word_token (unit_word u.kind)) (spelled_behind_word dialect u) ts rest h)

unit_not : (dialect : Dialect) (kind : UnitKind) (v : List ℕ) (u : UnitText) (ts rest : List Token) → (unit_word kind ≡ v → ⊥) → kind ≡ u.kind → Spell (spelled_solid dialect u) ts rest → next_is_word v ts ≡ false
unit_not dialect kind v u ts rest apart d h = other_word (unit_word kind) v apart (first ts) (unit_next dialect kind u ts rest d h)

block_function : codes "FUNCTION_BLOCK" ≡ codes "FUNCTION" → ⊥
block_function e = longer (codes "FUNCTION_BLOCK") (codes "FUNCTION") (λ n. absurd (omega (arith, n))) e

program_function : codes "PROGRAM" ≡ codes "FUNCTION" → ⊥
program_function e = longer (codes "PROGRAM") (codes "FUNCTION") (λ n. absurd (omega (arith, n))) e

program_block : codes "PROGRAM" ≡ codes "FUNCTION_BLOCK" → ⊥
program_block e = longer (codes "PROGRAM") (codes "FUNCTION_BLOCK") (λ n. absurd (omega (arith, n))) e

abbrev IsLater : UnitText → Type 0
IsLater u = IsUnitOf units.FunctionBlock u ⊎ IsUnitOf units.Program u

block_or_program_law : (dialect : Dialect) → Law IsLater (spelled_solid dialect) (block_or_program_at dialect)
unfolding block_or_program_at
block_or_program_law dialect = choice_law (IsUnitOf units.FunctionBlock) (IsUnitOf units.Program) (spelled_solid dialect) (next_is_word (codes "FUNCTION_BLOCK")) _ _
    (this_unit_law dialect units.FunctionBlock) (this_unit_law dialect units.Program)
    (λ u ts rest d h. unit_next dialect units.FunctionBlock u ts rest d.0 h)
    (λ u ts rest d h. unit_not dialect units.Program (codes "FUNCTION_BLOCK") u ts rest program_block d.0 h)

abbrev IsUnit : UnitText → Type 0
IsUnit u = IsUnitOf units.Function u ⊎ IsLater u

solid_unit_law : (dialect : Dialect) → Law IsUnit (spelled_solid dialect) (solid_unit_at dialect)
unfolding solid_unit_at
solid_unit_law dialect = choice_law (IsUnitOf units.Function) IsLater (spelled_solid dialect) (next_is_word (codes "FUNCTION")) _ _
    (this_unit_law dialect units.Function) (block_or_program_law dialect)
    (λ u ts rest d h. unit_next dialect units.Function u ts rest d.0 h)
    begins_not
  where
    begins_not : (u : UnitText) (ts rest : List Token) → IsLater u → Spell (spelled_solid dialect u) ts rest → next_is_word (codes "FUNCTION") ts ≡ false
    begins_not u ts rest (inl d) h = unit_not dialect units.FunctionBlock (codes "FUNCTION") u ts rest block_function d.0 h
    begins_not u ts rest (inr d) h = unit_not dialect units.Program (codes "FUNCTION") u ts rest program_function d.0 h

-- what is spelled has a result where it is a function's
has_result : (kind : UnitKind) (o : Option Token) (ps : List Part) (ts rest : List Token) → Spell (spelled_result kind o ++ ps) ts rest → IsResult kind o
has_result units.Function (Some t) ps ts rest h = tt
has_result units.Function None ps ts rest h = absurd (false_true h.0)
has_result units.FunctionBlock None ps ts rest h = refl
has_result units.FunctionBlock (Some t) ps ts rest h = absurd (false_true h.0)
has_result units.Program None ps ts rest h = refl
has_result units.Program (Some t) ps ts rest h = absurd (false_true h.0)

is_unit : (kind : UnitKind) (u : UnitText) → kind ≡ u.kind → IsResult u.kind u.result → IsUnit u
is_unit units.Function u e r = inl (e, r)
is_unit units.FunctionBlock u e r = inr (inl (e, r))
is_unit units.Program u e r = inr (inr (e, r))

solid_again : (dialect : Dialect) (u : UnitText) (ts rest : List Token) → Spell (spelled_solid dialect u) ts rest → IsUnit u
solid_again dialect u ts rest h =
    let qs = listed ends_sections (spelled_section dialect) u.sections ++ (listed (ends_unit u.kind) (spelled_line dialect) u.lines ++ breaks ∷ word (end_word u.kind) ∷ []) in
    let parts = Spell-split (word (unit_word u.kind) ∷ name u.name ∷ []) (spelled_result u.kind u.result ++ qs) ts rest h in
    is_unit u.kind u refl (has_result u.kind u.result qs parts.0 rest parts.2)

pub unit_law : (dialect : Dialect) → Law Any (spelled_unit dialect) (unit_at dialect)
unfolding unit_at
unit_law dialect = past_law Any (spelled_solid dialect) (solid_unit_at dialect) (record {
  takes = λ ts x e. (tt, ((solid_unit_law dialect).takes ts x e).1);
  again = λ u ts rest d h. (solid_unit_law dialect).again u ts rest (solid_again dialect u ts rest h) h;
})

pub unit_counts : (dialect : Dialect) (u : UnitText) → 0 < count (spelled_unit dialect u)
unit_counts dialect u = omega arith

-- ---- what each thing of a list takes

pub other_shrinks : (ts : List Token) (x : OperandText × List Token) → other_at ts ≡ Ok x → length x.1 < length ts
other_shrinks = law_shrinks spelled_other other_at other_law other_counts

pub line_shrinks : (dialect : Dialect) (ts : List Token) (x : LineText × List Token) → line_at dialect ts ≡ Ok x → length x.1 < length ts
line_shrinks dialect = law_shrinks (spelled_line dialect) (line_at dialect) (line_law dialect) (line_counts dialect)

pub section_shrinks : (dialect : Dialect) (ts : List Token) (x : SectionText × List Token) → section_at dialect ts ≡ Ok x → length x.1 < length ts
section_shrinks dialect = law_shrinks (spelled_section dialect) (section_at dialect) (section_law dialect) (section_counts dialect)

pub unit_shrinks : (dialect : Dialect) (ts : List Token) (x : UnitText × List Token) → unit_at dialect ts ≡ Ok x → length x.1 < length ts
unit_shrinks dialect = law_shrinks (spelled_unit dialect) (unit_at dialect) (unit_law dialect) (unit_counts dialect)

-- ---- all of the text

abbrev spelled_pair : Dialect → List UnitText × UnitText → List Part
spelled_pair dialect x = spelled_units dialect x.0 x.1

pub units_law : (dialect : Dialect)
    → Law (λ (x : List UnitText × UnitText). Unit {0} × Unit {0}) (spelled_pair dialect) (pair (many begins_program (unit_at dialect)) (closed (unit_at dialect) (past end_at)))
units_law dialect = pair_law Any Any _ _ _ _ (until_law (spelled_unit dialect) begins_program (unit_at dialect) (unit_law dialect) (unit_counts dialect))
    (closed_law Any _ _ _ _ (unit_law dialect) (past_law Any _ _ end_law))
