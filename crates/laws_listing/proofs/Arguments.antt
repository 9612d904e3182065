-- The listing's operands and arguments are spelled as the grammar has them.
use Rattle.std.proofs.Common.{◌≡◌, ℕ, Bool, true, false, List, [], ◌∷◌, ◌++◌, refl, sym, ap, ◌∙◌, subst, append_assoc}
use Rattle.std.specs.Prelude.{codes}
use Rattle.std.specs.List.{AllByRecursion, flat_map}
use Rattle.il_model.specs.declared.dialect.Dialect.{Dialect}
use Rattle.il_model.specs.declared.dialect.Dialect.TheVariants as dialects
use Rattle.il_values.specs.declared.value.Value.{Value}
use Rattle.il_values.specs.declared.value.Value.TheVariants as values
use Rattle.il_model.specs.declared.program.Operand.{Operand}
use Rattle.il_model.specs.declared.program.Operand.TheVariants as operands
use Rattle.il_model.specs.declared.program.Side.{Side}
use Rattle.il_model.specs.declared.program.Side.TheVariants as sides
use Rattle.il_model.specs.declared.program.Argument.{Argument}
use Rattle.il_model.specs.Program.{Declarations}
use Rattle.il_model.specs.Words.{is_first_byte, is_reserved, look, mnemonic_of, under}
use Rattle.il_values.specs.Spelled.{spells}
use Rattle.il_reader.specs.declared.lexeme.Sign.TheVariants as signs
use Rattle.il_reader.specs.Tokens.{Token, begins_with, tokens_behind, piece_of, solid_piece, sign_of, tokens_of}
use Rattle.il_reader.specs.Front.{is_sign, skip_breaks}
use Rattle.il_reader.specs.Grammar.{OperandText, Named, Field, is_variable, is_constant, no_dot, before_no_dot, ends_arguments, no_open}
use Rattle.il_reader.specs.Spelling.{Part, breaks, ahead, sign, name, Spell, spelled_operand, spelled_inner_operand, spelled_side, spelled_argument, spelled_next, spelled_arguments, spelled_call}
use Rattle.il_reader.proofs.Laws.{Spell-append}
use Rattle.il_lister.specs.Listing.{literal_text, location_text, operand_text, side_text, argument_text, next_argument_text, arguments_text}
use Rattle.laws_listing.proofs.NameRuns.{part_says}
use Rattle.laws_listing.proofs.NameTexts.{IsWord, IsFreeName, not_word, under_free}
use Rattle.laws_listing.proofs.Listable.{IsValueOperand, IsListedArgument}
use Rattle.laws_listing.proofs.Written.{token_at, literal_at, is_long_field, under_short, dot_by, written_field, written_operand, written_argument, written_all, written_arguments, written_call}
use Rattle.laws_listing.proofs.Pieces.{is_name_end, byte_not, EndsOperand, name_token, plain_token, word_token, literal_token, location_token, blank_skips, assign_token, arrow_token, comma_token, open_token, close_token, dot_token}
use Rattle.laws_listing.proofs.Parts.{Begins, spell_same, spell_this, spell_one, spell_solid}

-- ---- operands

pub literal_constant : (v : Value) (rest : List ℕ) → is_constant (literal_at v rest) ≡ true
unfolding is_constant spells
literal_constant (values.Bool true) rest = refl
literal_constant (values.Bool false) rest = refl
literal_constant (values.Int z) rest = refl
literal_constant (values.Dint z) rest = refl
literal_constant (values.Time z) rest = refl
literal_constant (values.Lint z) rest = refl
literal_constant (values.Real r) rest = refl
literal_constant (values.Word n) rest = refl
literal_constant (values.Dword n) rest = refl

pub literal_solid : (v : Value) (rest : List ℕ) → is_sign signs.Break (literal_at v rest) ≡ false
literal_solid (values.Bool b) rest = refl
literal_solid (values.Int z) rest = refl
literal_solid (values.Dint z) rest = refl
literal_solid (values.Time z) rest = refl
literal_solid (values.Lint z) rest = refl
literal_solid (values.Real r) rest = refl
literal_solid (values.Word n) rest = refl
literal_solid (values.Dword n) rest = refl

true_reserved : is_reserved (codes "TRUE") ≡ true
unfolding mnemonic_of look spells
true_reserved = refl

false_reserved : is_reserved (codes "FALSE") ≡ true
unfolding mnemonic_of look spells
false_reserved = refl

pub free_variable : (dialect : Dialect) (w rest : List ℕ) → IsFreeName dialect w → is_variable (token_at signs.Name w rest) ≡ true
free_variable dialect w rest is = rw (not_word dialect (codes "TRUE") w true_reserved is, not_word dialect (codes "FALSE") w false_reserved is) refl

-- how a text is spelled as an operand behind an operator, and within the parentheses of a call
pub record IsSpelledAs (dialect : Dialect) (x : OperandText) (text rest : List ℕ) : Type 0 where
  pub first : Token
  pub more : List Token
  pub begins : Begins (tokens_of dialect (text ++ rest)) first more
  pub no_colon : is_sign signs.Colon first ≡ false
  pub plain : no_dot (tokens_of dialect rest) ≡ true → Spell (spelled_operand x) (tokens_of dialect (text ++ rest)) (tokens_of dialect rest)
  pub inner : before_no_dot (tokens_of dialect rest) ≡ true → Spell (spelled_inner_operand x) (tokens_of dialect (text ++ rest)) (tokens_of dialect rest)

-- a value or a place
abbrev pub IsSpelledValue : Dialect → Operand → List ℕ → Type 0
IsSpelledValue dialect o rest = IsSpelledAs dialect (written_operand dialect o rest) (operand_text o) rest

-- ---- names

variable_spelled : (dialect : Dialect) (w rest : List ℕ) → IsFreeName dialect w → EndsOperand rest → IsSpelledAs dialect (Named (token_at signs.Name w rest)) w rest
variable_spelled dialect w rest is ends =
    let t = token_at signs.Name w rest in
    let e = name_token dialect w rest is.name ends.word in
    let s = λ (p : List Token → Bool) (d : p (tokens_of dialect rest) ≡ true). spell_this is_variable t (ahead p ∷ []) (tokens_of dialect (w ++ rest)) (tokens_of dialect rest) (tokens_of dialect rest) e (free_variable dialect w rest is) (d, refl) in
    record { first = t; more = tokens_of dialect rest; begins = record { is = e; solid = refl }; no_colon = refl; plain = s no_dot; inner = s before_no_dot }

-- ---- a field behind its instance, in three tokens

abbrev field_text : Bool → List ℕ → List ℕ → List ℕ
field_text long w field = w ++ (dot_by long ++ field)

abbrev field_tokens : Dialect → List ℕ → List ℕ → List Token
field_tokens dialect field rest = token_at signs.Dot (46 ∷ []) (field ++ rest) ∷ token_at signs.Name field rest ∷ tokens_of dialect rest

-- the name, where it ends before the dot
abbrev IsNameBefore : Dialect → Bool → List ℕ → List ℕ → Type 0
IsNameBefore dialect long w u = tokens_of dialect (w ++ (dot_by long ++ u)) ≡ token_at signs.Name w (dot_by long ++ u) ∷ tokens_of dialect (dot_by long ++ u)

dot_there : (dialect : Dialect) (long : Bool) (u : List ℕ) → tokens_of dialect (dot_by long ++ u) ≡ token_at signs.Dot (46 ∷ []) u ∷ tokens_of dialect u
dot_there dialect true u = blank_skips dialect (46 ∷ u) ∙ dot_token dialect u
dot_there dialect false u = dot_token dialect u

field_joined : (long : Bool) (w field rest : List ℕ) → field_text long w field ++ rest ≡ w ++ (dot_by long ++ (field ++ rest))
field_joined long w field rest = append_assoc w (dot_by long ++ field) rest ∙ ap (λ (u : List ℕ). w ++ u) (append_assoc (dot_by long) field rest)

three_spelled : (dialect : Dialect) (long : Bool) (w field rest : List ℕ) → IsFreeName dialect w → IsWord field → EndsOperand rest → IsNameBefore dialect long w (field ++ rest)
    → IsSpelledAs dialect (Field (token_at signs.Name w (dot_by long ++ (field ++ rest))) (token_at signs.Name field rest)) (field_text long w field) rest
unfolding skip_breaks
three_spelled dialect long w field rest is also ends before =
    let u = field ++ rest in
    let t = token_at signs.Name w (dot_by long ++ u) in
    let f = token_at signs.Name field rest in
    let ts = tokens_of dialect (field_text long w field ++ rest) in
    let e : ts ≡ t ∷ field_tokens dialect field rest = ap (tokens_of dialect) (field_joined long w field rest) ∙ before
    ∙ ap (λ (us : List Token). t ∷ us) (dot_there dialect long u ∙ ap (λ (us : List Token). token_at signs.Dot (46 ∷ []) u ∷ us) (word_token dialect field rest also ends.word)) in
    record {
      first = t;
      more = field_tokens dialect field rest;
      begins = record { is = e; solid = refl };
      no_colon = refl;
      plain = λ d. spell_this is_variable t (sign signs.Dot ∷ name f ∷ []) ts (field_tokens dialect field rest) (tokens_of dialect rest) e (free_variable dialect w (dot_by long ++ u) is) (refl, ((refl, refl), refl));
      inner = λ d. spell_this is_variable t (breaks ∷ sign signs.Dot ∷ breaks ∷ name f ∷ []) ts (field_tokens dialect field rest) (tokens_of dialect rest) e (free_variable dialect w (dot_by long ++ u) is) (refl, ((refl, refl), refl));
    }

-- in a plain text a name ends before the dot, and everywhere before a blank
plain_before : (long : Bool) (w u : List ℕ) → IsFreeName dialects.Plain w → IsNameBefore dialects.Plain long w u
plain_before true w u is = name_token dialects.Plain w (32 ∷ 46 ∷ u) is.name refl
plain_before false w u is = plain_token w (46 ∷ u) is.name refl

field_spelled : (dialect : Dialect) (long : Bool) (w field rest : List ℕ) → is_long_field w field ≡ long → IsFreeName dialect w → IsWord field → EndsOperand rest → IsSpelledAs dialect (written_field dialect long w field rest) (field_text long w field) rest
field_spelled dialects.Plain long w field rest e is also ends = three_spelled dialects.Plain long w field rest is also ends (plain_before long w (field ++ rest) is)
field_spelled dialects.Extended true w field rest e is also ends = three_spelled dialects.Extended true w field rest is also ends (name_token dialects.Extended w (32 ∷ 46 ∷ (field ++ rest)) is.name refl)
field_spelled dialects.Extended false w field rest e is also ends = variable_spelled dialects.Extended (under w field) rest (under_free w field is also (under_short w field e)) ends

-- ---- operands

pub value_spelled : (dialect : Dialect) (ds : Declarations) (o : Operand) (rest : List ℕ) → IsValueOperand dialect ds o → EndsOperand rest → IsSpelledValue dialect o rest
unfolding skip_breaks
value_spelled dialect ds operands.Absent rest is ends = absurd is
value_spelled dialect ds (operands.Bare z) rest is ends = absurd is
value_spelled dialect ds (operands.Label w) rest is ends = absurd is
value_spelled dialect ds (operands.Instance w) rest is ends = absurd is
value_spelled dialect ds (operands.Literal v) rest is ends =
    let e = literal_token dialect v rest is ends in
    let s = spell_this is_constant (literal_at v rest) [] (tokens_of dialect (literal_text v ++ rest)) (tokens_of dialect rest) (tokens_of dialect rest) e (literal_constant v rest) refl in
    record { first = literal_at v rest; more = tokens_of dialect rest; begins = record { is = e; solid = literal_solid v rest }; no_colon = literal_no_colon v; plain = λ d. s; inner = λ d. s }
  where
    literal_no_colon : (v : Value) → is_sign signs.Colon (literal_at v rest) ≡ false
    literal_no_colon (values.Bool b) = refl
    literal_no_colon (values.Int z) = refl
    literal_no_colon (values.Dint z) = refl
    literal_no_colon (values.Time z) = refl
    literal_no_colon (values.Lint z) = refl
    literal_no_colon (values.Real r) = refl
    literal_no_colon (values.Word n) = refl
    literal_no_colon (values.Dword n) = refl
value_spelled dialect ds (operands.Direct loc) rest is ends =
    let t = token_at signs.Address (location_text loc) rest in
    let e = location_token dialect loc rest ends in
    let s = spell_this (is_sign signs.Address) t [] (tokens_of dialect (location_text loc ++ rest)) (tokens_of dialect rest) (tokens_of dialect rest) e refl refl in
    record { first = t; more = tokens_of dialect rest; begins = record { is = e; solid = refl }; no_colon = refl; plain = λ d. s; inner = λ d. s }
value_spelled dialect ds (operands.Variable w) rest is ends = variable_spelled dialect w rest is.0 ends
value_spelled dialect ds (operands.Field w field) rest is ends = field_spelled dialect (is_long_field w field) w field rest refl is.0 is.1.name ends

-- ---- arguments

abbrev side_at : Side → List ℕ → Token
side_at sides.Input rest = token_at signs.Assign (58 ∷ 61 ∷ []) (32 ∷ rest)
side_at sides.Output rest = token_at signs.Arrow (61 ∷ 62 ∷ []) (32 ∷ rest)

side_token : (dialect : Dialect) (side : Side) (rest : List ℕ) → tokens_of dialect (side_text side ++ rest) ≡ side_at side rest ∷ tokens_of dialect rest
side_token dialect sides.Input rest = blank_skips dialect (58 ∷ 61 ∷ 32 ∷ rest) ∙ assign_token dialect (32 ∷ rest) ∙ ap (λ (ts : List Token). side_at sides.Input rest ∷ ts) (blank_skips dialect rest)
side_token dialect sides.Output rest = blank_skips dialect (61 ∷ 62 ∷ 32 ∷ rest) ∙ arrow_token dialect (32 ∷ rest) ∙ ap (λ (ts : List Token). side_at sides.Output rest ∷ ts) (blank_skips dialect rest)

side_ends : (side : Side) (rest : List ℕ) → is_name_end (side_text side ++ rest) ≡ true
side_ends sides.Input rest = refl
side_ends sides.Output rest = refl

-- what stands behind the field's name
side_spelled : (dialect : Dialect) (side : Side) (o : Operand) (rest : List ℕ) → IsSpelledValue dialect o rest → before_no_dot (tokens_of dialect rest) ≡ true
    → Spell (breaks ∷ (spelled_side side ++ breaks ∷ spelled_inner_operand (written_operand dialect o rest))) (tokens_of dialect (side_text side ++ (operand_text o ++ rest))) (tokens_of dialect rest)
side_spelled dialect sides.Input o rest is ends =
    let u = operand_text o ++ rest in
    let e = side_token dialect sides.Input u in
    let ps = breaks ∷ spelled_inner_operand (written_operand dialect o rest) in
    spell_solid (sign signs.Assign ∷ ps) (tokens_of dialect (side_text sides.Input ++ u)) (side_at sides.Input u) (tokens_of dialect u) (tokens_of dialect rest) (record { is = e; solid = refl })
    (spell_one (is_sign signs.Assign) (side_at sides.Input u) ps (tokens_of dialect (side_text sides.Input ++ u)) (tokens_of dialect u) (tokens_of dialect rest) e refl
    (spell_solid (spelled_inner_operand (written_operand dialect o rest)) (tokens_of dialect u) is.first is.more (tokens_of dialect rest) is.begins (is.inner ends)))
side_spelled dialect sides.Output o rest is ends =
    let u = operand_text o ++ rest in
    let e = side_token dialect sides.Output u in
    let ps = breaks ∷ spelled_inner_operand (written_operand dialect o rest) in
    spell_solid (sign signs.Arrow ∷ ps) (tokens_of dialect (side_text sides.Output ++ u)) (side_at sides.Output u) (tokens_of dialect u) (tokens_of dialect rest) (record { is = e; solid = refl })
    (spell_one (is_sign signs.Arrow) (side_at sides.Output u) ps (tokens_of dialect (side_text sides.Output ++ u)) (tokens_of dialect u) (tokens_of dialect rest) e refl
    (spell_solid (spelled_inner_operand (written_operand dialect o rest)) (tokens_of dialect u) is.first is.more (tokens_of dialect rest) is.begins (is.inner ends)))

argument_joined : (a : Argument) (rest : List ℕ) → argument_text a ++ rest ≡ a.field ++ (side_text a.side ++ (operand_text a.operand ++ rest))
argument_joined a rest = append_assoc a.field (side_text a.side ++ operand_text a.operand) rest ∙ ap (λ (u : List ℕ). a.field ++ u) (append_assoc (side_text a.side) (operand_text a.operand) rest)

-- what ends an argument: a comma or the right parenthesis
record EndsArgument (dialect : Dialect) (rest : List ℕ) : Type 0 where
  ends : EndsOperand rest
  no_dot : before_no_dot (tokens_of dialect rest) ≡ true

argument_spelled : (dialect : Dialect) (ds : Declarations) (a : Argument) (rest : List ℕ) → IsListedArgument dialect ds a → EndsArgument dialect rest → Spell (spelled_argument (written_argument dialect a rest)) (tokens_of dialect (argument_text a ++ rest)) (tokens_of dialect rest)
argument_spelled dialect ds a rest is ends =
    let u = side_text a.side ++ (operand_text a.operand ++ rest) in
    let t = token_at signs.Name a.field u in
    let e = ap (tokens_of dialect) (argument_joined a rest) ∙ word_token dialect a.field u is.field.name (side_ends a.side (operand_text a.operand ++ rest)) in
    let ps = breaks ∷ (spelled_side a.side ++ breaks ∷ spelled_inner_operand (written_operand dialect a.operand rest)) in
    let ts = tokens_of dialect (argument_text a ++ rest) in
    spell_solid (name t ∷ ps) ts t (tokens_of dialect u) (tokens_of dialect rest) (record { is = e; solid = refl })
    (spell_this (is_sign signs.Name) t ps ts (tokens_of dialect u) (tokens_of dialect rest) e refl (side_spelled dialect a.side a.operand rest (value_spelled dialect ds a.operand rest is.operand ends.ends) ends.no_dot))

next_spelled : (dialect : Dialect) (ds : Declarations) (a : Argument) (rest : List ℕ) → IsListedArgument dialect ds a → EndsArgument dialect rest → Spell (spelled_next (written_argument dialect a rest)) (tokens_of dialect (next_argument_text a ++ rest)) (tokens_of dialect rest)
next_spelled dialect ds a rest is ends =
    let u = argument_text a ++ rest in
    let t = token_at signs.Comma (44 ∷ []) (32 ∷ u) in
    let e = comma_token dialect (32 ∷ u) ∙ ap (λ (ts : List Token). t ∷ ts) (blank_skips dialect u) in
    let ts = tokens_of dialect (next_argument_text a ++ rest) in
    spell_solid (sign signs.Comma ∷ spelled_argument (written_argument dialect a rest)) ts t (tokens_of dialect u) (tokens_of dialect rest) (record { is = e; solid = refl })
    (spell_one (is_sign signs.Comma) t (spelled_argument (written_argument dialect a rest)) ts (tokens_of dialect u) (tokens_of dialect rest) e refl (argument_spelled dialect ds a rest is ends))

abbrev texts : List Argument → List ℕ → List ℕ
texts more rest = flat_map next_argument_text more ++ rest

texts_end : (dialect : Dialect) (more : List Argument) (rest : List ℕ) → EndsArgument dialect (texts more (41 ∷ rest))
unfolding tokens_behind piece_of solid_piece sign_of skip_breaks
texts_end dialect [] rest = record { ends = record { word = refl; literal = refl; address = refl }; no_dot = refl }
texts_end dialect (a ∷ more) rest = record { ends = record { word = refl; literal = refl; address = refl }; no_dot = refl }

no_comma : (dialect : Dialect) (rest : List ℕ) → ends_arguments (tokens_of dialect (41 ∷ rest)) ≡ true
unfolding ends_arguments tokens_behind piece_of solid_piece sign_of skip_breaks
no_comma dialect rest = refl

abbrev no_more : List Part
no_more = ahead ends_arguments ∷ []

all_spelled : (dialect : Dialect) (ds : Declarations) (more : List Argument) (rest : List ℕ) → AllByRecursion (IsListedArgument dialect ds) more
    → Spell (flat_map spelled_next (written_all dialect more (41 ∷ rest)) ++ no_more) (tokens_of dialect (texts more (41 ∷ rest))) (tokens_of dialect (41 ∷ rest))
all_spelled dialect ds [] rest all = (no_comma dialect rest, refl)
all_spelled dialect ds (a ∷ more) rest all =
    let u = texts more (41 ∷ rest) in
    let x = written_argument dialect a u in
    let qs = flat_map spelled_next (written_all dialect more (41 ∷ rest)) in
    let ts = tokens_of dialect (next_argument_text a ++ u) in
    let h = Spell-append (spelled_next x) (qs ++ no_more) ts (tokens_of dialect u) (tokens_of dialect (41 ∷ rest)) (next_spelled dialect ds a u all.0 (texts_end dialect more rest)) (all_spelled dialect ds more rest all.1) in
    spell_same ((spelled_next x ++ qs) ++ no_more) (tokens_of dialect (texts (a ∷ more) (41 ∷ rest))) ts (tokens_of dialect (41 ∷ rest)) (ap (tokens_of dialect) (append_assoc (next_argument_text a) (flat_map next_argument_text more) (41 ∷ rest)))
    (subst (λ (ps : List Part). Spell ps ts (tokens_of dialect (41 ∷ rest))) (sym (append_assoc (spelled_next x) qs no_more)) h)

-- ---- calls

letter_not : (k : ℕ) (w rest : List ℕ) → is_first_byte k ≡ false → IsWord w → begins_with k (w ++ rest) ≡ false
letter_not k [] rest other is = let none : false ≡ true = is.part in absurd cc
letter_not k (b ∷ bs) rest other is = byte_not is_first_byte k b other (part_says (b ∷ bs) is.part).first

inside_joined : (a : Argument) (more : List Argument) (rest : List ℕ) → arguments_text (a ∷ more) ++ rest ≡ 40 ∷ (argument_text a ++ texts more (41 ∷ rest))
inside_joined a more rest =
    ap (λ (u : List ℕ). 40 ∷ u) (append_assoc (argument_text a) (flat_map next_argument_text more ++ codes ")") rest ∙ ap (λ (u : List ℕ). argument_text a ++ u) (append_assoc (flat_map next_argument_text more) (codes ")") rest))

arguments_spelled : (dialect : Dialect) (ds : Declarations) (args : List Argument) (rest : List ℕ) → AllByRecursion (IsListedArgument dialect ds) args → no_open (tokens_of dialect rest) ≡ true → Spell (spelled_arguments (written_arguments dialect args rest)) (tokens_of dialect (arguments_text args ++ rest)) (tokens_of dialect rest)
arguments_spelled dialect ds [] rest all ends = (ends, refl)
arguments_spelled dialect ds (a ∷ more) rest all ends =
    let u = texts more (41 ∷ rest) in
    let v = argument_text a ++ u in
    let t = token_at signs.Open (40 ∷ []) v in
    let first : begins_with 42 v ≡ false = ap (begins_with 42) (argument_joined a u) ∙ letter_not 42 a.field (side_text a.side ++ (operand_text a.operand ++ u)) refl all.0.field.name in
    let ts = tokens_of dialect (arguments_text (a ∷ more) ++ rest) in
    let e : ts ≡ t ∷ tokens_of dialect v = ap (tokens_of dialect) (inside_joined a more rest) ∙ open_token dialect v first in
    let x = written_argument dialect a u in
    let qs = flat_map spelled_next (written_all dialect more (41 ∷ rest)) ++ no_more in
    let inside : Spell (spelled_argument x ++ qs) (tokens_of dialect v) (tokens_of dialect (41 ∷ rest)) = Spell-append (spelled_argument x) qs (tokens_of dialect v) (tokens_of dialect u) (tokens_of dialect (41 ∷ rest)) (argument_spelled dialect ds a u all.0 (texts_end dialect more rest)) (all_spelled dialect ds more rest all.1) in
    let c = token_at signs.Close (41 ∷ []) rest in
    let close : Spell (breaks ∷ sign signs.Close ∷ []) (tokens_of dialect (41 ∷ rest)) (tokens_of dialect rest) =
    spell_solid (sign signs.Close ∷ []) (tokens_of dialect (41 ∷ rest)) c (tokens_of dialect rest) (tokens_of dialect rest) (record { is = close_token dialect rest; solid = refl })
    (spell_one (is_sign signs.Close) c [] (tokens_of dialect (41 ∷ rest)) (tokens_of dialect rest) (tokens_of dialect rest) (close_token dialect rest) refl refl) in
    spell_one (is_sign signs.Open) t ((spelled_argument x ++ qs) ++ breaks ∷ sign signs.Close ∷ []) ts (tokens_of dialect v) (tokens_of dialect rest) e refl
    (Spell-append (spelled_argument x ++ qs) (breaks ∷ sign signs.Close ∷ []) (tokens_of dialect v) (tokens_of dialect (41 ∷ rest)) (tokens_of dialect rest) inside close)

pub arguments_end : (args : List Argument) (rest : List ℕ) → is_name_end rest ≡ true → is_name_end (arguments_text args ++ rest) ≡ true
arguments_end [] rest ends = ends
arguments_end (a ∷ more) rest ends = refl

pub call_spelled : (dialect : Dialect) (ds : Declarations) (w : List ℕ) (args : List Argument) (rest : List ℕ) → IsFreeName dialect w → AllByRecursion (IsListedArgument dialect ds) args → no_open (tokens_of dialect rest) ≡ true → is_name_end rest ≡ true
    → Spell (spelled_call (written_call dialect w args rest)) (tokens_of dialect (w ++ (arguments_text args ++ rest))) (tokens_of dialect rest)
call_spelled dialect ds w args rest is all ends word =
    let u = arguments_text args ++ rest in
    spell_this (is_sign signs.Name) (token_at signs.Name w u) (spelled_arguments (written_arguments dialect args rest)) (tokens_of dialect (w ++ u)) (tokens_of dialect u) (tokens_of dialect rest) (name_token dialect w u is.name (arguments_end args rest word)) refl
    (arguments_spelled dialect ds args rest all ends)
