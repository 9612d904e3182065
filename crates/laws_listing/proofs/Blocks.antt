-- The listing's declarations are spelled as the grammar has them.
use Rattle.std.proofs.Common.{◌≡◌, ℕ, Bool, true, false, cond, List, [], ◌∷◌, ◌++◌, Option, Some, None, refl, ap, ◌∙◌, not, append_assoc}
use Rattle.std.specs.Prelude.{codes}
use Rattle.il_model.specs.Dialects.{newest}
use Rattle.il_model.specs.declared.dialect.Dialect.{Dialect}
use Rattle.il_values.specs.declared.value.Value.{Value}
use Rattle.il_model.specs.declared.program.Loc.{Loc}
use Rattle.il_model.specs.declared.program.Variable.{Variable}
use Rattle.il_model.specs.declared.program.Instance.{Instance}
use Rattle.il_values.specs.Values.{number_of}
use Rattle.il_values.specs.Operators.{is_zero}
use Rattle.il_model.specs.Words.{look, mnemonic_of, is_reserved, is_well_spelled}
use Rattle.il_values.specs.Spelled.{spells}
use Rattle.il_model.specs.Image.{may_retain}
use Rattle.il_model.specs.Kinds.{kind_name}
use Rattle.il_reader.specs.declared.lexeme.Sign.TheVariants as signs
use Rattle.il_reader.specs.Tokens.{Token, tokens_of}
use Rattle.il_reader.specs.Front.{is_sign, is_word_token, next_is}
use Rattle.il_reader.specs.Grammar.{is_constant, no_value, ends_names, ends_block, DeclarationText}
use Rattle.il_reader.specs.Spelling.{Part, breaks, ahead, this, sign, name, word, address, Spell, is_not_at, spelled_names, spelled_initial, spelled_declaration, going}
use Rattle.il_lister.specs.Listing.{literal_text, location_text, type_name, at_text, initial_text, variable_text, instance_text}
use Rattle.laws_listing.proofs.Sayable.{IsSayable}
use Rattle.laws_listing.proofs.NameTexts.{IsWord, word_by, IsFreeName, not_word, type_is, kind_is}
use Rattle.laws_listing.proofs.Written.{token_at, literal_at, written_names, written_initial, ending, written_variable, written_instance, Declared, OfVariable, OfInstance, retained_of, name_of, text_of, written_declared}
use Rattle.laws_listing.proofs.Pieces.{is_name_end, name_token, word_token, literal_token, location_token, blank_skips, break_token, colon_token, assign_token, semicolon_token}
use Rattle.laws_listing.proofs.Parts.{Begins, spell_same, spell_this, spell_one, spell_ahead, spell_solid, spell_break, skip_one, skip_none}
use Rattle.laws_listing.proofs.Arguments.{literal_constant, literal_solid}

-- ---- behind the type

abbrev semicolon : List Part
semicolon = breaks ∷ sign signs.Semicolon ∷ []

ends_so : (dialect : Dialect) (rest : List ℕ) → Spell semicolon (tokens_of dialect (ending rest)) (tokens_of dialect (10 ∷ rest))
ends_so dialect rest =
    let t = token_at signs.Semicolon (59 ∷ []) (10 ∷ rest) in
    let e = semicolon_token dialect (10 ∷ rest) in
    spell_solid (sign signs.Semicolon ∷ []) (tokens_of dialect (ending rest)) t (tokens_of dialect (10 ∷ rest)) (tokens_of dialect (10 ∷ rest)) (record { is = e; solid = refl })
    (spell_one (is_sign signs.Semicolon) t [] (tokens_of dialect (ending rest)) (tokens_of dialect (10 ∷ rest)) (tokens_of dialect (10 ∷ rest)) e refl refl)

-- how a declaration ends behind its type
record EndsType (dialect : Dialect) (initial : Option Token) (text rest : List ℕ) : Type 0 where
  word : is_name_end (text ++ ending rest) ≡ true
  spelled : Spell (breaks ∷ (spelled_initial initial ++ semicolon)) (tokens_of dialect (text ++ ending rest)) (tokens_of dialect (10 ∷ rest))

no_initial : (dialect : Dialect) (rest : List ℕ) → EndsType dialect None [] rest
no_initial dialect rest =
    let t = token_at signs.Semicolon (59 ∷ []) (10 ∷ rest) in
    let e = semicolon_token dialect (10 ∷ rest) in
    record {
      word = refl;
      spelled = spell_solid (ahead no_value ∷ semicolon) (tokens_of dialect (ending rest)) t (tokens_of dialect (10 ∷ rest)) (tokens_of dialect (10 ∷ rest)) (record { is = e; solid = refl })
          (spell_ahead no_value semicolon (tokens_of dialect (ending rest)) (tokens_of dialect (10 ∷ rest)) (ap no_value e) (ends_so dialect rest));
    }

some_initial : (dialect : Dialect) (v : Value) (rest : List ℕ) → IsSayable dialect v → EndsType dialect (Some (literal_at v (ending rest))) (codes " := " ++ literal_text v) rest
some_initial dialect v rest is =
    let u = literal_text v ++ ending rest in
    let a = token_at signs.Assign (58 ∷ 61 ∷ []) (32 ∷ u) in
    let e = blank_skips dialect (58 ∷ 61 ∷ 32 ∷ u) ∙ assign_token dialect (32 ∷ u) ∙ ap (λ (ts : List Token). a ∷ ts) (blank_skips dialect u) in
    let t = literal_at v (ending rest) in
    let f = literal_token dialect v (ending rest) is (record { word = refl; literal = refl; address = refl }) in
    let ts = tokens_of dialect (codes " := " ++ u) in
    record {
      word = refl;
      spelled = spell_solid (sign signs.Assign ∷ breaks ∷ this is_constant t ∷ semicolon) ts a (tokens_of dialect u) (tokens_of dialect (10 ∷ rest)) (record { is = e; solid = refl })
          (spell_one (is_sign signs.Assign) a (breaks ∷ this is_constant t ∷ semicolon) ts (tokens_of dialect u) (tokens_of dialect (10 ∷ rest)) e refl
          (spell_solid (this is_constant t ∷ semicolon) (tokens_of dialect u) t (tokens_of dialect (ending rest)) (tokens_of dialect (10 ∷ rest)) (record { is = f; solid = literal_solid v (ending rest) })
          (spell_this is_constant t semicolon (tokens_of dialect u) (tokens_of dialect (ending rest)) (tokens_of dialect (10 ∷ rest)) f (literal_constant v (ending rest)) (ends_so dialect rest))));
    }

initial_by : (dialect : Dialect) (b : Bool) (v : Value) (rest : List ℕ) → IsSayable dialect v → EndsType dialect (cond b None (Some (literal_at v (ending rest)))) (cond b [] (codes " := " ++ literal_text v)) rest
initial_by dialect true v rest is = no_initial dialect rest
initial_by dialect false v rest is = some_initial dialect v rest is

initial_ends : (dialect : Dialect) (v : Value) (rest : List ℕ) → IsSayable dialect v → EndsType dialect (written_initial v (ending rest)) (initial_text v) rest
initial_ends dialect v rest is = initial_by dialect (is_zero (number_of v)) v rest is

-- ---- behind the names

abbrev typed : List ℕ → List ℕ → List ℕ → List ℕ
typed ty text rest = codes " : " ++ (ty ++ (text ++ ending rest))

abbrev type_parts : Token → Option Token → List Part
type_parts t initial = breaks ∷ sign signs.Colon ∷ breaks ∷ name t ∷ breaks ∷ (spelled_initial initial ++ semicolon)

abbrev type_token : List ℕ → List ℕ → List ℕ → Token
type_token ty text rest = token_at signs.Name ty (text ++ ending rest)

abbrev colon : List ℕ → List ℕ → List ℕ → Token
colon ty text rest = token_at signs.Colon (58 ∷ []) (32 ∷ (ty ++ (text ++ ending rest)))

colon_is : (dialect : Dialect) (ty text rest : List ℕ) → tokens_of dialect (typed ty text rest) ≡ colon ty text rest ∷ tokens_of dialect (ty ++ (text ++ ending rest))
colon_is dialect ty text rest =
    let u = ty ++ (text ++ ending rest) in
    blank_skips dialect (58 ∷ 32 ∷ u) ∙ colon_token dialect (32 ∷ u) refl ∙ ap (λ (ts : List Token). colon ty text rest ∷ ts) (blank_skips dialect u)

type_spelled : (dialect : Dialect) (ty : List ℕ) (initial : Option Token) (text rest : List ℕ) → IsWord ty → EndsType dialect initial text rest → Spell (type_parts (type_token ty text rest) initial) (tokens_of dialect (typed ty text rest)) (tokens_of dialect (10 ∷ rest))
type_spelled dialect ty initial text rest is ends =
    let u = ty ++ (text ++ ending rest) in
    let v = text ++ ending rest in
    let ts = tokens_of dialect (typed ty text rest) in
    let e = colon_is dialect ty text rest in
    let t = type_token ty text rest in
    let f = word_token dialect ty v is ends.word in
    let ps = breaks ∷ (spelled_initial initial ++ semicolon) in
    spell_solid (sign signs.Colon ∷ breaks ∷ name t ∷ ps) ts (colon ty text rest) (tokens_of dialect u) (tokens_of dialect (10 ∷ rest)) (record { is = e; solid = refl })
    (spell_one (is_sign signs.Colon) (colon ty text rest) (breaks ∷ name t ∷ ps) ts (tokens_of dialect u) (tokens_of dialect (10 ∷ rest)) e refl
    (spell_solid (name t ∷ ps) (tokens_of dialect u) t (tokens_of dialect v) (tokens_of dialect (10 ∷ rest)) (record { is = f; solid = refl })
    (spell_this (is_sign signs.Name) t ps (tokens_of dialect u) (tokens_of dialect v) (tokens_of dialect (10 ∷ rest)) f refl ends.spelled)))

-- ---- the names

at_is : IsWord (codes "AT")
unfolding is_well_spelled
at_is = word_by _ refl

at_word : (rest : List ℕ) → is_word_token (codes "AT") (token_at signs.Name (codes "AT") rest) ≡ true
unfolding spells
at_word rest = refl

names_by : (dialect : Dialect) (o : Option Loc) (ty : List ℕ) (initial : Option Token) (text rest : List ℕ) → IsWord ty → EndsType dialect initial text rest
    → Spell (breaks ∷ (spelled_names (written_names o (typed ty text rest)) ++ type_parts (type_token ty text rest) initial)) (tokens_of dialect (at_text o ++ typed ty text rest)) (tokens_of dialect (10 ∷ rest))
unfolding ends_names
names_by dialect None ty initial text rest is ends =
    let u = ty ++ (text ++ ending rest) in
    let ts = tokens_of dialect (typed ty text rest) in
    let c = colon ty text rest in
    let e = colon_is dialect ty text rest in
    let ps = type_parts (type_token ty text rest) initial in
    let b : Begins ts c (tokens_of dialect u) = record { is = e; solid = refl } in
    let none : ends_names ts ≡ true = ap (λ (us : List Token). not (next_is signs.Comma us)) (skip_none ts c (tokens_of dialect u) b ∙ e) in
    spell_solid (ahead is_not_at ∷ ahead ends_names ∷ ps) ts c (tokens_of dialect u) (tokens_of dialect (10 ∷ rest)) b
    (spell_ahead is_not_at (ahead ends_names ∷ ps) ts (tokens_of dialect (10 ∷ rest)) (ap is_not_at e)
    (spell_ahead ends_names ps ts (tokens_of dialect (10 ∷ rest)) none (type_spelled dialect ty initial text rest is ends)))
names_by dialect (Some loc) ty initial text rest is ends =
    let v = typed ty text rest in
    let u = location_text loc ++ v in
    let ts = tokens_of dialect (at_text (Some loc) ++ v) in
    let a = token_at signs.Name (codes "AT") (32 ∷ u) in
    let e : ts ≡ a ∷ tokens_of dialect u = blank_skips dialect (codes "AT" ++ (32 ∷ u)) ∙ word_token dialect (codes "AT") (32 ∷ u) at_is refl ∙ ap (λ (us : List Token). a ∷ us) (blank_skips dialect u) in
    let t = token_at signs.Address (location_text loc) v in
    let f = location_token dialect loc v (record { word = refl; literal = refl; address = refl }) in
    let ps = type_parts (type_token ty text rest) initial in
    spell_solid (word (codes "AT") ∷ breaks ∷ address t ∷ ps) ts a (tokens_of dialect u) (tokens_of dialect (10 ∷ rest)) (record { is = e; solid = refl })
    (spell_one (is_word_token (codes "AT")) a (breaks ∷ address t ∷ ps) ts (tokens_of dialect u) (tokens_of dialect (10 ∷ rest)) e (at_word (32 ∷ u))
    (spell_solid (address t ∷ ps) (tokens_of dialect u) t (tokens_of dialect v) (tokens_of dialect (10 ∷ rest)) (record { is = f; solid = refl })
    (spell_this (is_sign signs.Address) t ps (tokens_of dialect u) (tokens_of dialect v) (tokens_of dialect (10 ∷ rest)) f refl (type_spelled dialect ty initial text rest is ends))))

-- ---- one declaration

end_reserved : is_reserved (codes "END_VAR") ≡ true
unfolding mnemonic_of look spells
end_reserved = refl

abbrev declared : List ℕ → Option Loc → List ℕ → Option Token → List ℕ → List ℕ → DeclarationText
declared w o ty initial text rest = record {
  name = token_at signs.Name w (at_text o ++ typed ty text rest);
  names = written_names o (typed ty text rest);
  ty = type_token ty text rest;
  initial = initial;
}

name_ends : (o : Option Loc) (rest : List ℕ) → is_name_end (at_text o ++ (32 ∷ rest)) ≡ true
name_ends None rest = refl
name_ends (Some loc) rest = refl

-- a declaration goes on where it begins
goes : (dialect : Dialect) (w behind : List ℕ) → IsFreeName dialect w → is_name_end behind ≡ true → not (ends_block (tokens_of dialect (10 ∷ (w ++ behind)))) ≡ true
unfolding ends_block
goes dialect w behind is ends =
    let u = w ++ behind in
    let e = name_token dialect w behind is.name ends in
    rw (skip_one dialect u (tokens_of dialect (10 ∷ u)) (token_at signs.Name w behind) (tokens_of dialect behind) (break_token dialect u) (record { is = e; solid = refl }), e, not_word dialect (codes "END_VAR") w end_reserved is) refl

declaration_spelled : (dialect : Dialect) (w : List ℕ) (o : Option Loc) (ty : List ℕ) (initial : Option Token) (text rest : List ℕ) → IsFreeName dialect w → IsWord ty → EndsType dialect initial text rest
    → Spell (going ends_block spelled_declaration (declared w o ty initial text rest)) (tokens_of dialect (10 ∷ (w ++ (at_text o ++ typed ty text rest)))) (tokens_of dialect (10 ∷ rest))
declaration_spelled dialect w o ty initial text rest free is ends =
    let behind = at_text o ++ typed ty text rest in
    let u = w ++ behind in
    let ts = tokens_of dialect (10 ∷ u) in
    let t = token_at signs.Name w behind in
    let last = name_ends o (58 ∷ 32 ∷ (ty ++ (text ++ ending rest))) in
    let e = name_token dialect w behind free.name last in
    let ps = breaks ∷ (spelled_names (written_names o (typed ty text rest)) ++ type_parts (type_token ty text rest) initial) in
    spell_ahead (λ us. not (ends_block us)) (breaks ∷ name t ∷ ps) ts (tokens_of dialect (10 ∷ rest)) (goes dialect w behind free last)
    (spell_break dialect (name t ∷ ps) ts u t (tokens_of dialect behind) (tokens_of dialect (10 ∷ rest)) (break_token dialect u) (record { is = e; solid = refl })
    (spell_this (is_sign signs.Name) t ps (tokens_of dialect u) (tokens_of dialect behind) (tokens_of dialect (10 ∷ rest)) e refl (names_by dialect o ty initial text rest is ends)))

variable_joined : (v : Variable) (rest : List ℕ) → variable_text v ++ rest ≡ v.name ++ (at_text v.location ++ typed (type_name v.ty) (initial_text v.initial) rest)
variable_joined v rest = simp append_assoc refl

instance_joined : (x : Instance) (rest : List ℕ) → instance_text x ++ rest ≡ x.name ++ typed (kind_name x.kind) [] rest
instance_joined x rest = simp append_assoc refl

variable_spelled : (dialect : Dialect) (v : Variable) (rest : List ℕ) → IsFreeName dialect v.name → IsSayable dialect v.initial → Spell (going ends_block spelled_declaration (written_variable v rest)) (tokens_of dialect (10 ∷ (variable_text v ++ rest))) (tokens_of dialect (10 ∷ rest))
variable_spelled dialect v rest is value =
    spell_same (going ends_block spelled_declaration (written_variable v rest)) (tokens_of dialect (10 ∷ (variable_text v ++ rest))) (tokens_of dialect (10 ∷ (v.name ++ (at_text v.location ++ typed (type_name v.ty) (initial_text v.initial) rest)))) (tokens_of dialect (10 ∷ rest))
    (ap (λ (u : List ℕ). (tokens_of dialect) (10 ∷ u)) (variable_joined v rest))
    (declaration_spelled dialect v.name v.location (type_name v.ty) (written_initial v.initial (ending rest)) (initial_text v.initial) rest is (type_is v.ty) (initial_ends dialect v.initial rest value))

instance_spelled : (dialect : Dialect) (x : Instance) (rest : List ℕ) → IsFreeName dialect x.name → Spell (going ends_block spelled_declaration (written_instance x rest)) (tokens_of dialect (10 ∷ (instance_text x ++ rest))) (tokens_of dialect (10 ∷ rest))
instance_spelled dialect x rest is =
    spell_same (going ends_block spelled_declaration (written_instance x rest)) (tokens_of dialect (10 ∷ (instance_text x ++ rest))) (tokens_of dialect (10 ∷ (x.name ++ typed (kind_name x.kind) [] rest))) (tokens_of dialect (10 ∷ rest))
    (ap (λ (u : List ℕ). (tokens_of dialect) (10 ∷ u)) (instance_joined x rest))
    (declaration_spelled dialect x.name None (kind_name x.kind) None [] rest is (kind_is x.kind) (no_initial dialect rest))

-- ---- what is declared, by its kind

abbrev pub SaysFirst : Dialect → Declared → Type 0
SaysFirst dialect (OfVariable v) = IsSayable dialect v.initial
SaysFirst dialect (OfInstance x) = Unit {0}

-- one that the text can say: its name is free, its first value can be said, and the dialect can say whether it's retained
pub record IsSaid (dialect : Dialect) (d : Declared) : Type 0 where
  pub name : IsFreeName dialect (name_of d)
  pub first : SaysFirst dialect d
  pub retained : may_retain (newest dialect) (retained_of d) ≡ true

pub declared_spelled : (dialect : Dialect) (d : Declared) (rest : List ℕ) → IsSaid dialect d → Spell (going ends_block spelled_declaration (written_declared d rest)) (tokens_of dialect (10 ∷ (text_of d ++ rest))) (tokens_of dialect (10 ∷ rest))
declared_spelled dialect (OfVariable v) rest is = variable_spelled dialect v rest is.name is.first
declared_spelled dialect (OfInstance x) rest is = instance_spelled dialect x rest is.name

-- a text whose first token is this name
pub record NameFirst (dialect : Dialect) (name text : List ℕ) : Type 0 where
  pub behind : List ℕ
  pub begins : Begins (tokens_of dialect text) (token_at signs.Name name behind) (tokens_of dialect behind)

pub name_first : (dialect : Dialect) (d : Declared) (rest : List ℕ) → IsSaid dialect d → NameFirst dialect (name_of d) (text_of d ++ rest)
name_first dialect (OfVariable v) rest is =
    let behind = at_text v.location ++ typed (type_name v.ty) (initial_text v.initial) rest in
    let last = name_ends v.location (58 ∷ 32 ∷ (type_name v.ty ++ (initial_text v.initial ++ ending rest))) in
    record { behind = behind; begins = record { is = ap (tokens_of dialect) (variable_joined v rest) ∙ name_token dialect v.name behind is.name.name last; solid = refl } }
name_first dialect (OfInstance x) rest is =
    let behind = typed (kind_name x.kind) [] rest in
    record { behind = behind; begins = record { is = ap (tokens_of dialect) (instance_joined x rest) ∙ name_token dialect x.name behind is.name.name refl; solid = refl } }
