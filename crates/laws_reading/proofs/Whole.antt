-- A text that is read has no token that is none.
use Rattle.std.proofs.Common.{◌≡◌, ℕ, Bool, true, false, not, List, [], ◌∷◌, ◌++◌, Option, Some, None, refl, sym, subst, codes, ◌||◌}
use Rattle.std.specs.Prelude.{if◌then◌else◌}
use Rattle.std.specs.List.{AllByRecursion, flat_map}
use Rattle.std.proofs.lemmas.Bool.{and_parts}
use Rattle.il_values.specs.Spelled.{spells}
use Rattle.il_model.specs.declared.dialect.Dialect.TheVariants as dialects
use Rattle.il_model.specs.declared.program.Side.{Side}
use Rattle.il_model.specs.declared.program.Side.TheVariants as sides
use Rattle.il_model.specs.Dialects.{operator_in}
use Rattle.il_reader.specs.declared.lexeme.Sign.{Sign}
use Rattle.il_reader.specs.declared.lexeme.Sign.TheVariants as signs
use Rattle.il_reader.specs.declared.lexeme.Class.{Class}
use Rattle.il_reader.specs.declared.lexeme.Class.TheVariants as classes
use Rattle.il_reader.specs.declared.contents.Operator.{Operator}
use Rattle.il_reader.specs.declared.contents.Qualifier.{Qualifier}
use Rattle.il_reader.specs.Tokens.{Token}
use Rattle.il_reader.specs.Front.{same_sign, is_class_of, is_sign, is_word_token, skip_breaks, at_end, is_end_class}
use Rattle.il_reader.specs.Grammar.{OperandText, Constant, Direct, Named, Field, ArgumentText, BehindText, Nothing, Given, Target, Opened, Called, OperationText, LineText, Labelled, Plain, NamesText, Located, More, DeclarationText, BlockText, is_constant, is_variable, is_truth, is_line_stop, ends_arguments, ends_names, ends_block, ends_blocks, ends_lines, operator_of, operator_from, closing, qualifier_word, block_word}
use Rattle.il_reader.specs.Spelling.{Part, breaks, one, this, operator, ahead, Spell, sign, word, name, going, listed, accepting, operator_before, spelled_operand, spelled_inner_operand, spelled_side, spelled_argument, spelled_next, spelled_inside, spelled_arguments, spelled_behind, spelled_operation, spelled_optional_operation, spelled_content, spelled_line, spelled_name, spelled_names, spelled_initial, spelled_declaration, spelled_qualifier, spelled_block}
use Rattle.il_reader.proofs.Laws.{Spell-split}
use Rattle.laws_reading.proofs.Lines.{spelled_lines}
use Rattle.laws_reading.proofs.Read.{spelled_blocks, spelled_text, end_parts}

-- ---- tokens that end with one that is none

abbrev CutBy : Class → Type 0 → Type 0
CutBy (classes.Broken f) more = Unit {0}
CutBy (classes.Sign s) more = more
CutBy classes.End more = ⊥

abbrev pub IsCut : List Token → Type 0
IsCut [] = ⊥
IsCut (t ∷ ts) = CutBy t.class (IsCut ts)

abbrev IsSolid : Class → Type 0
IsSolid (classes.Sign s) = Unit {0}
IsSolid c = ⊥

abbrev Solid : Part → Type 0
Solid (one p) = (t : Token) → p t ≡ true → IsSolid t.class
Solid (this p x) = (t : Token) → p t ≡ true → IsSolid t.class
Solid (operator f x) = (t : Token) → f t ≡ Some x → IsSolid t.class
Solid breaks = Unit {0}
Solid (ahead p) = Unit {0}

abbrev AreSolid : List Part → Type 0
AreSolid ps = AllByRecursion Solid ps

behind_solid : (c : Class) (more : Type 0) → IsSolid c → CutBy c more → more
behind_solid (classes.Sign s) more solid cut = cut
behind_solid (classes.Broken f) more solid cut = absurd solid
behind_solid classes.End more solid cut = absurd solid

skip_sign : (s : Sign) (t : Token) (ts : List Token) (b : Bool) → same_sign signs.Break s ≡ b → t.class ≡ classes.Sign s → IsCut ts → IsCut (skip_breaks ts) → IsCut (if b then skip_breaks ts else t ∷ ts)
skip_sign s t ts true e is cut more = more
skip_sign s t ts false e is cut more = subst (λ (c : Class). CutBy c (IsCut ts)) (sym is) cut

skip_by : (c : Class) (t : Token) (ts : List Token) → t.class ≡ c → CutBy c (IsCut ts) → (IsCut ts → IsCut (skip_breaks ts)) → IsCut (if is_class_of signs.Break c then skip_breaks ts else t ∷ ts)
skip_by (classes.Sign s) t ts is cut more = skip_sign s t ts (same_sign signs.Break s) refl is cut (more cut)
skip_by (classes.Broken f) t ts is cut more = subst (λ (c : Class). CutBy c (IsCut ts)) (sym is) tt
skip_by classes.End t ts is cut more = absurd cut

skip_cut : (ts : List Token) → IsCut ts → IsCut (skip_breaks ts)
unfolding skip_breaks
skip_cut [] cut = absurd cut
skip_cut (t ∷ ts) cut = skip_by t.class t ts refl cut (skip_cut ts)

cut_rest : (ps : List Part) (ts rest : List Token) → AreSolid ps → Spell ps ts rest → IsCut ts → IsCut rest
cut_rest [] ts rest solid h cut = subst IsCut h cut
cut_rest (breaks ∷ ps) ts rest solid h cut = cut_rest ps (skip_breaks ts) rest solid.1 h (skip_cut ts cut)
cut_rest (ahead p ∷ ps) ts rest solid h cut = cut_rest ps ts rest solid.1 h.1 cut
cut_rest (one p ∷ ps) [] rest solid h cut = absurd h
cut_rest (one p ∷ ps) (t ∷ ts) rest solid h cut = cut_rest ps ts rest solid.1 h.1 (behind_solid t.class (IsCut ts) (solid.0 t h.0) cut)
cut_rest (this p x ∷ ps) [] rest solid h cut = absurd h
cut_rest (this p x ∷ ps) (t ∷ ts) rest solid h cut = cut_rest ps ts rest solid.1 h.1 (behind_solid t.class (IsCut ts) (solid.0 t h.0.0) cut)
cut_rest (operator f x ∷ ps) [] rest solid h cut = absurd h
cut_rest (operator f x ∷ ps) (t ∷ ts) rest solid h cut = cut_rest ps ts rest solid.1 h.1 (behind_solid t.class (IsCut ts) (solid.0 t h.0) cut)

no_end : (c : Class) (more : Type 0) → CutBy c more → is_end_class c ≡ true → ⊥
no_end (classes.Sign s) more cut e = absurd cc
no_end (classes.Broken f) more cut e = absurd cc
no_end classes.End more cut e = cut

cut_no_end : (ts : List Token) → IsCut ts → at_end ts ≡ true → ⊥
cut_no_end [] cut e = cut
cut_no_end (t ∷ ts) cut e = no_end t.class (IsCut ts) cut e

-- ---- what stands in a text is a token

class_solid : (s : Sign) (c : Class) → is_class_of s c ≡ true → IsSolid c
class_solid s (classes.Sign u) e = tt
class_solid s (classes.Broken f) e = absurd cc
class_solid s classes.End e = absurd cc

sign_solid : (s : Sign) (t : Token) → is_sign s t ≡ true → IsSolid t.class
sign_solid s t e = class_solid s t.class e

word_solid : (w : List ℕ) (t : Token) → is_word_token w t ≡ true → IsSolid t.class
word_solid w t e = sign_solid signs.Name t (and_parts (is_sign signs.Name t) (spells w t.text) e).0

variable_solid : (t : Token) → is_variable t ≡ true → IsSolid t.class
variable_solid t e = sign_solid signs.Name t (and_parts (is_sign signs.Name t) (not (is_truth t)) e).0

constant_by : (t : Token) (b : Bool) → is_sign signs.Name t ≡ b → (if b then is_truth t else is_sign signs.Literal t) ≡ true → IsSolid t.class
constant_by t true n e = sign_solid signs.Name t n
constant_by t false n e = sign_solid signs.Literal t e

constant_solid : (t : Token) → is_constant t ≡ true → IsSolid t.class
unfolding is_constant
constant_solid t e = constant_by t (is_sign signs.Name t) refl e

operator_by : (t : Token) (p q r : Bool) (o : Operator) → is_sign signs.Name t ≡ p → is_sign signs.Ampersand t ≡ q → is_sign signs.Close t ≡ r
    → (if p || q then operator_from t.left (operator_in dialects.Extended t.text) else if r then Some (record { mnemonic = closing; left = t.left }) else None) ≡ Some o → IsSolid t.class
operator_by t true q r o a b c e = sign_solid signs.Name t a
operator_by t false true r o a b c e = sign_solid signs.Ampersand t b
operator_by t false false true o a b c e = sign_solid signs.Close t c
operator_by t false false false o a b c e = absurd cc

of_solid : (t : Token) (o : Operator) → operator_of dialects.Extended t ≡ Some o → IsSolid t.class
unfolding operator_of
of_solid t o e = operator_by t (is_sign signs.Name t) (is_sign signs.Ampersand t) (is_sign signs.Close t) o refl refl refl e

accepted_solid : (b : BehindText) (t : Token) (r : Option Operator) (o : Operator) → operator_of dialects.Extended t ≡ r → accepting b r ≡ Some o → IsSolid t.class
accepted_solid b t None o is e = absurd cc
accepted_solid b t (Some x) o is e = of_solid t x is

operator_solid : (b : BehindText) (o : Operator) → Solid (operator (operator_before dialects.Extended b) o)
operator_solid b o t e = accepted_solid b t (operator_of dialects.Extended t) o refl e

-- ---- parts

both_solid : (ps qs : List Part) → AreSolid ps → AreSolid qs → AreSolid (ps ++ qs)
both_solid [] qs a b = b
both_solid (p ∷ ps) qs a b = (a.0, both_solid ps qs a.1 b)

each_solid : {X : Type 0} (s : X → List Part) → ((x : X) → AreSolid (s x)) → (xs : List X) → AreSolid (flat_map s xs)
each_solid s each [] = tt
each_solid s each (x ∷ xs) = both_solid (s x) (flat_map s xs) (each x) (each_solid s each xs)

listed_solid : {X : Type 0} (stops : List Token → Bool) (s : X → List Part) → ((x : X) → AreSolid (s x)) → (xs : List X) → AreSolid (listed stops s xs)
listed_solid stops s each xs = both_solid (flat_map (going stops s) xs) (ahead stops ∷ []) (each_solid (going stops s) (λ x. (tt, each x)) xs) (tt, tt)

operand_solid : (x : OperandText) → AreSolid (spelled_operand x)
operand_solid (Constant t) = (constant_solid, tt)
operand_solid (Direct t) = (sign_solid signs.Address, tt)
operand_solid (Named t) = (variable_solid, (tt, tt))
operand_solid (Field t f) = (variable_solid, (sign_solid signs.Dot, (sign_solid signs.Name, tt)))

inner_solid : (x : OperandText) → AreSolid (spelled_inner_operand x)
inner_solid (Constant t) = (constant_solid, tt)
inner_solid (Direct t) = (sign_solid signs.Address, tt)
inner_solid (Named t) = (variable_solid, (tt, tt))
inner_solid (Field t f) = (variable_solid, (tt, (sign_solid signs.Dot, (tt, (sign_solid signs.Name, tt)))))

side_solid : (side : Side) → AreSolid (spelled_side side)
side_solid sides.Input = (sign_solid signs.Assign, tt)
side_solid sides.Output = (sign_solid signs.Arrow, tt)

argument_solid : (a : ArgumentText) → AreSolid (spelled_argument a)
argument_solid a = (tt, (sign_solid signs.Name, (tt, both_solid (spelled_side a.side) (breaks ∷ spelled_inner_operand a.operand) (side_solid a.side) (tt, inner_solid a.operand))))

inside_solid : (xs : List ArgumentText) → AreSolid (spelled_inside xs)
inside_solid [] = (tt, tt)
inside_solid (a ∷ more) = both_solid (spelled_argument a) (flat_map spelled_next more ++ ahead ends_arguments ∷ []) (argument_solid a)
    (both_solid (flat_map spelled_next more) (ahead ends_arguments ∷ []) (each_solid spelled_next (λ x. (tt, (sign_solid signs.Comma, argument_solid x))) more) (tt, tt))

arguments_solid : (o : Option (List ArgumentText)) → AreSolid (spelled_arguments o)
arguments_solid None = (tt, tt)
arguments_solid (Some xs) = (sign_solid signs.Open, both_solid (spelled_inside xs) (breaks ∷ sign signs.Close ∷ []) (inside_solid xs) (tt, (sign_solid signs.Close, tt)))

behind_parts : (b : BehindText) → AreSolid (spelled_behind b)
behind_parts Nothing = tt
behind_parts (Given x) = operand_solid x
behind_parts (Target t) = (sign_solid signs.Name, tt)
behind_parts (Opened None) = (sign_solid signs.Open, (tt, tt))
behind_parts (Opened (Some x)) = (sign_solid signs.Open, operand_solid x)
behind_parts (Called c) = (sign_solid signs.Name, arguments_solid c.written)

operation_solid : (o : OperationText) → AreSolid (spelled_operation dialects.Extended o)
operation_solid o = (operator_solid o.behind o.operator, behind_parts o.behind)

optional_solid : (o : Option OperationText) → AreSolid (spelled_optional_operation dialects.Extended o)
optional_solid None = (tt, tt)
optional_solid (Some o) = operation_solid o

content_solid : (l : LineText) → AreSolid (spelled_content dialects.Extended l)
content_solid (Labelled t o) = (sign_solid signs.Name, (sign_solid signs.Colon, optional_solid o))
content_solid (Plain o) = (tt, operation_solid o)

line_solid : (l : LineText) → AreSolid (spelled_line dialects.Extended l)
line_solid l = (tt, both_solid (spelled_content dialects.Extended l) (ahead is_line_stop ∷ []) (content_solid l) (tt, tt))

names_solid : (x : NamesText) → AreSolid (spelled_names x)
names_solid (Located t) = (word_solid (codes "AT"), (tt, (sign_solid signs.Address, tt)))
names_solid (More ts) = (tt, both_solid (flat_map spelled_name ts) (ahead ends_names ∷ []) (each_solid spelled_name (λ t. (tt, (sign_solid signs.Comma, (tt, (sign_solid signs.Name, tt))))) ts) (tt, tt))

initial_solid : (o : Option Token) → AreSolid (spelled_initial o)
initial_solid None = (tt, tt)
initial_solid (Some t) = (sign_solid signs.Assign, (tt, (constant_solid, tt)))

declaration_solid : (d : DeclarationText) → AreSolid (spelled_declaration d)
declaration_solid d = (
  tt,
  (
    sign_solid signs.Name,
    (
      tt,
      both_solid (spelled_names d.names) (breaks ∷ sign signs.Colon ∷ breaks ∷ name d.ty ∷ breaks ∷ (spelled_initial d.initial ++ breaks ∷ sign signs.Semicolon ∷ [])) (names_solid d.names)
          (tt, (sign_solid signs.Colon, (tt, (sign_solid signs.Name, (tt, both_solid (spelled_initial d.initial) (breaks ∷ sign signs.Semicolon ∷ []) (initial_solid d.initial) (tt, (sign_solid signs.Semicolon, tt))))))),
    ),
  ),
)

qualifier_solid : (q : Option Qualifier) → AreSolid (spelled_qualifier dialects.Extended q)
qualifier_solid None = (tt, tt)
qualifier_solid (Some q) = (tt, (word_solid (qualifier_word q), tt))

block_solid : (b : BlockText) → AreSolid (spelled_block dialects.Extended b)
block_solid b = (
  tt,
  (
    word_solid (block_word dialects.Extended),
    (
      tt,
      both_solid (spelled_qualifier dialects.Extended b.qualifier) (listed ends_block spelled_declaration b.declarations ++ breaks ∷ word (codes "END_VAR") ∷ []) (qualifier_solid b.qualifier)
          (both_solid (listed ends_block spelled_declaration b.declarations) (breaks ∷ word (codes "END_VAR") ∷ []) (listed_solid ends_block spelled_declaration declaration_solid b.declarations) (tt, (word_solid (codes "END_VAR"), tt))),
    ),
  ),
)

-- such tokens are no text
pub no_cut : (bs : List BlockText) (ls : List LineText) (ts rest : List Token) → Spell (spelled_text bs ls) ts rest → IsCut ts → ⊥
no_cut bs ls ts rest h cut =
    let a = Spell-split (spelled_blocks bs) (spelled_lines ls ++ end_parts) ts rest h in
    let b = Spell-split (spelled_lines ls) end_parts a.0 rest a.2 in
    let first = cut_rest (spelled_blocks bs) ts a.0 (listed_solid (ends_blocks dialects.Extended) (spelled_block dialects.Extended) block_solid bs) a.1 cut in
    let second = cut_rest (spelled_lines ls) a.0 b.0 (listed_solid ends_lines (spelled_line dialects.Extended) line_solid ls) b.1 first in
    cut_no_end (skip_breaks b.0) (skip_cut b.0 second) b.2.0
