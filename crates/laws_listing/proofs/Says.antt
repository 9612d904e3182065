-- The listing of a program says what is written for it.
use Rattle.std.proofs.Common.{◌≡◌, ℕ, Bool, true, false, List, [], ◌∷◌, ◌++◌, Option, refl, sym, ap, ◌∙◌, subst, append_assoc}
use Rattle.std.specs.Prelude.{codes}
use Rattle.std.specs.List.{AllByRecursion, flat_map}
use Rattle.il_model.specs.Dialects.{newest}
use Rattle.il_model.specs.declared.dialect.Dialect.{Dialect}
use Rattle.il_model.specs.declared.dialect.Dialect.TheVariants as dialects
use Rattle.il_model.specs.declared.codes.Version.{Version}
use Rattle.il_model.specs.declared.codes.Version.TheVariants as versions
use Rattle.il_model.specs.declared.program.Variable.{Variable}
use Rattle.il_model.specs.declared.program.Instance.{Instance}
use Rattle.il_model.specs.Image.{version_of, may_call, may_retain, may_instantiate}
use Rattle.il_model.specs.Program.{Program, declared_by}
use Rattle.il_values.specs.Spelled.{spells}
use Rattle.il_model.specs.Fits.{IsImage}
use Rattle.il_reader.specs.declared.contents.Qualifier.{Qualifier}
use Rattle.il_reader.specs.declared.lexeme.Sign.TheVariants as signs
use Rattle.il_reader.specs.Tokens.{Token, tokens_of}
use Rattle.il_reader.specs.Front.{at_end, is_word_token}
use Rattle.il_reader.specs.Grammar.{block_word, ends_blocks, ends_lines, begins_program, begins_extended, dialect_of}
use Rattle.il_reader.specs.Spelling.{breaks, ahead, Spell, Says, is_bare, listed, spelled_block, spelled_line, spelled_bare}
use Rattle.il_reader.proofs.Laws.{Spell-append}
use Rattle.il_lister.specs.Listing.{variable_text, instance_text, line_text, turn_text, variables_text, instances_text, last_retained, first_retained, first_name, opening, listing}
use Rattle.laws_listing.proofs.Sayable.{dialect_for, IsSayableProgram, sayable}
use Rattle.laws_listing.proofs.Fronts.{both_true}
use Rattle.laws_listing.proofs.NameTexts.{IsFreeName}
use Rattle.laws_listing.proofs.Listable.{listable}
use Rattle.laws_listing.proofs.Written.{token_at, Declared, OfVariable, OfInstance, retained_of, name_of, text_of, of_instances, all_declared, declared_text, written_open, written_sections, written_lines, end_text, declared_of, begins_retained, first_qualifier, written_blocks, written}
use Rattle.laws_listing.proofs.Declares.{IsListedVariable, variables_listed}
use Rattle.laws_listing.proofs.Parts.{Begins, skip_none}
use Rattle.laws_listing.proofs.Lines.{lines_spelled, text_ends, no_block_here}
use Rattle.laws_listing.proofs.Blocks.{IsSaid}
use Rattle.laws_listing.proofs.Sections.{var_word, word_begins, behind_word, section_bytes, section_begins, no_colon, Opens, section, going_block, section_spelled, qualifier_in, declared_opens, end_opens, section_said, all_spelled}

-- ---- the text of a dialect

no_program : (dialect : Dialect) (rest : List ℕ) → is_word_token (codes "PROGRAM") (token_at signs.Name (block_word dialect) rest) ≡ false
unfolding spells
no_program dialects.Plain rest = refl
no_program dialects.Extended rest = refl

-- behind the line that opens the first section
abbrev declared_at : Program → List ℕ
declared_at Q = declared_text (begins_retained Q) (declared_of Q) (end_text Q)

-- the whole, with the keyword of a dialect
abbrev pub text_in : Dialect → Program → List ℕ
text_in dialect Q = section_bytes dialect (first_qualifier dialect Q) (declared_at Q)

abbrev behind_var : Dialect → Program → List ℕ
behind_var dialect Q = behind_word (first_qualifier dialect Q) (declared_at Q)

abbrev var_token : Dialect → Program → Token
var_token dialect Q = token_at signs.Name (block_word dialect) (behind_var dialect Q)

-- whatever dialect the text is taken for
var_begins : (read dialect : Dialect) (Q : Program) → Begins (tokens_of read (text_in dialect Q)) (var_token dialect Q) (tokens_of read (behind_var dialect Q))
var_begins read dialect Q = section_begins read dialect (first_qualifier dialect Q) (declared_at Q)

-- the lines, behind the last section
abbrev lines_at : Program → List ℕ
lines_at Q = 10 ∷ flat_map line_text Q.code

-- ---- what is declared can be said

variable_said : (dialect : Dialect) (v : Variable) → IsListedVariable dialect v → IsSaid dialect (OfVariable v)
variable_said dialect v is = record { name = is.name; first = is.value; retained = is.retained }

instances_said : (dialect : Dialect) (xs : List Instance) → AllByRecursion (λ (x : Instance). IsFreeName dialect x.name) xs → AllByRecursion (λ (x : Instance). may_instantiate (newest dialect) x ≡ true) xs → AllByRecursion (IsSaid dialect) (of_instances xs)
instances_said dialect [] names may = tt
instances_said dialect (x ∷ xs) names may = (record { name = names.0; first = tt; retained = (both_true (may_call (newest dialect) x.name) (may_retain (newest dialect) x.retained) may.0).1 }, instances_said dialect xs names.1 may.1)

declared_said : (dialect : Dialect) (vs : List Variable) (xs : List Instance) → AllByRecursion (IsListedVariable dialect) vs → AllByRecursion (IsSaid dialect) (of_instances xs) → AllByRecursion (IsSaid dialect) (all_declared vs xs)
declared_said dialect [] xs listed said = said
declared_said dialect (v ∷ vs) xs listed said = (variable_said dialect v listed.0, declared_said dialect vs xs listed.1 said)

all_said : (dialect : Dialect) (Q : Program) → IsSayableProgram dialect Q → AllByRecursion (IsSaid dialect) (declared_of Q)
all_said dialect Q is = declared_said dialect Q.variables Q.instances (variables_listed dialect Q is) (instances_said dialect Q.instances (listable dialect Q is).names.instances is.instances)

-- ---- the first section

-- whether the first is retained, and its name, are those of what stands first
record OpensAs (dialect : Dialect) (retained : Bool) (name : List ℕ) (ds : List Declared) (lines : List ℕ) : Type 0 where
  may : may_retain (newest dialect) retained ≡ true
  opens : Opens dialect (qualifier_in dialect retained name) (declared_text retained ds (codes "END_VAR\n" ++ lines))

no_turn : (b : Bool) (name : List ℕ) → turn_text b b name ≡ []
no_turn true name = refl
no_turn false name = refl

begins_with_it : (dialect : Dialect) (d : Declared) (ds : List Declared) (lines : List ℕ) → IsSaid dialect d → OpensAs dialect (retained_of d) (name_of d) (d ∷ ds) lines
begins_with_it dialect d ds lines is =
    let r = retained_of d in
    let rest = declared_text r ds (codes "END_VAR\n" ++ lines) in
    record {
      may = is.retained;
      opens = subst (λ (t : List ℕ). Opens dialect (qualifier_in dialect r (name_of d)) (t ++ (text_of d ++ rest))) (sym (no_turn r (name_of d))) (declared_opens dialect r d rest is);
    }

plain_may : (dialect : Dialect) → may_retain (newest dialect) false ≡ true
plain_may dialects.Plain = refl
plain_may dialects.Extended = refl

opens_as : (dialect : Dialect) (vs : List Variable) (xs : List Instance) (lines : List ℕ) → AllByRecursion (IsSaid dialect) (all_declared vs xs) → OpensAs dialect (first_retained vs xs) (first_name vs xs) (all_declared vs xs) lines
opens_as dialect (v ∷ vs) xs lines all = begins_with_it dialect (OfVariable v) (all_declared vs xs) lines all.0
opens_as dialect [] (x ∷ xs) lines all = begins_with_it dialect (OfInstance x) (of_instances xs) lines all.0
opens_as dialect [] [] lines all = record { may = plain_may dialect; opens = end_opens dialect lines }

first_in : (dialect : Dialect) (Q : Program) → first_qualifier dialect Q ≡ qualifier_in dialect (begins_retained Q) (first_name Q.variables Q.instances)
first_in dialects.Plain Q = refl
first_in dialects.Extended Q = refl

-- ---- the sections

blocks_spelled : (dialect : Dialect) (Q : Program) → IsSayableProgram dialect Q → Spell (listed (ends_blocks dialect) (spelled_block dialect) (written_blocks dialect Q)) (tokens_of dialect (text_in dialect Q)) (tokens_of dialect (lines_at Q))
blocks_spelled dialect Q is =
    let said = all_said dialect Q is in
    let lines = flat_map line_text Q.code in
    let begun = opens_as dialect Q.variables Q.instances lines said in
    let q = first_qualifier dialect Q in
    let b = begins_retained Q in
    let first = written_open b (declared_of Q) (end_text Q) in
    let others = flat_map (going_block dialect) (written_sections b (declared_of Q) (end_text Q)) in
    let ts = tokens_of dialect (text_in dialect Q) in
    let out = tokens_of dialect (lines_at Q) in
    let opens : Opens dialect q (declared_at Q) = subst (λ (o : Option Qualifier). Opens dialect o (declared_at Q)) (sym (first_in dialect Q)) begun.opens in
    let h : Spell (going_block dialect (section q first) ++ others) ts out =
    section_spelled dialect q (declared_at Q) first others ts out opens (skip_none ts (var_token dialect Q) (tokens_of dialect (behind_var dialect Q)) (var_begins dialect dialect Q)) (all_spelled dialect b (declared_of Q) lines begun.may said) in
    Spell-append (going_block dialect (section q first) ++ others) (ahead (ends_blocks dialect) ∷ []) ts out out h (no_block_here dialect (declared_by Q) Q.code (listable dialect Q is).lines, refl)

-- ---- the whole

bare : (dialect : Dialect) (Q : Program) → is_bare (tokens_of dialect (text_in dialect Q)) ≡ true
unfolding begins_program
bare dialect Q = rw (skip_none (tokens_of dialect (text_in dialect Q)) (var_token dialect Q) (tokens_of dialect (behind_var dialect Q)) (var_begins dialect dialect Q), (var_begins dialect dialect Q).is, no_program dialect (behind_var dialect Q)) refl

bare_spelled : (dialect : Dialect) (Q : Program) → IsSayableProgram dialect Q → Spell (spelled_bare dialect (written dialect Q)) (tokens_of dialect (text_in dialect Q)) (tokens_of dialect [])
bare_spelled dialect Q is =
    let ls = listed ends_lines (spelled_line dialect) (written_lines dialect Q.code) in
    let end = breaks ∷ ahead at_end ∷ [] in
    let mid = tokens_of dialect (10 ∷ []) in
    Spell-append (listed (ends_blocks dialect) (spelled_block dialect) (written_blocks dialect Q)) (ls ++ end) (tokens_of dialect (text_in dialect Q)) (tokens_of dialect (lines_at Q)) (tokens_of dialect []) (blocks_spelled dialect Q is)
    (Spell-append ls end (tokens_of dialect (lines_at Q)) mid (tokens_of dialect []) (lines_spelled dialect (declared_by Q) Q.code (listable dialect Q is).lines) (text_ends dialect))

text_says : (dialect : Dialect) (Q : Program) → IsSayableProgram dialect Q → Says dialect (text_in dialect Q) (written dialect Q)
text_says dialect Q is = (tokens_of dialect [], (bare dialect Q, bare_spelled dialect Q is))

-- ---- the dialect of the listing

told_plain : (Q : Program) → begins_extended (tokens_of dialects.Plain (text_in dialects.Plain Q)) ≡ false
unfolding begins_extended spells
told_plain Q =
    let begins = var_begins dialects.Plain dialects.Plain Q in
    rw (skip_none (tokens_of dialects.Plain (text_in dialects.Plain Q)) (var_token dialects.Plain Q) (tokens_of dialects.Plain (behind_var dialects.Plain Q)) begins, begins.is) refl

told_extended : (Q : Program) → begins_extended (tokens_of dialects.Plain (text_in dialects.Extended Q)) ≡ true
unfolding begins_extended
told_extended Q =
    let begins = var_begins dialects.Plain dialects.Extended Q in
    let us = tokens_of dialects.Plain (behind_var dialects.Extended Q) in
    rw (skip_none (tokens_of dialects.Plain (text_in dialects.Extended Q)) (var_token dialects.Extended Q) us begins, begins.is)
    (word_begins dialects.Extended (var_token dialects.Extended Q) us (var_word dialects.Extended (behind_var dialects.Extended Q)) (no_colon dialects.Plain (first_qualifier dialects.Extended Q) (declared_at Q)))

told : (dialect : Dialect) (Q : Program) → dialect_of (text_in dialect Q) ≡ dialect
told dialects.Plain Q = rw (told_plain Q) refl
told dialects.Extended Q = rw (told_extended Q) refl

-- ---- the listing is that text

instances_joined : (before : Bool) (xs : List Instance) (rest : List ℕ) → instances_text before xs ++ rest ≡ declared_text before (of_instances xs) rest
instances_joined before [] rest = refl
instances_joined before (x ∷ xs) rest =
    let turn = turn_text before x.retained x.name in
    append_assoc turn (instance_text x ++ instances_text x.retained xs) rest
    ∙ ap (λ (t : List ℕ). turn ++ t) (append_assoc (instance_text x) (instances_text x.retained xs) rest ∙ ap (λ (t : List ℕ). instance_text x ++ t) (instances_joined x.retained xs rest))

declared_joined : (before : Bool) (vs : List Variable) (xs : List Instance) (rest : List ℕ) → variables_text before vs ++ (instances_text (last_retained before vs) xs ++ rest) ≡ declared_text before (all_declared vs xs) rest
declared_joined before [] xs rest = instances_joined before xs rest
declared_joined before (v ∷ vs) xs rest =
    let turn = turn_text before v.retained v.name in
    let behind = instances_text (last_retained v.retained vs) xs ++ rest in
    append_assoc turn (variable_text v ++ variables_text v.retained vs) behind
    ∙ ap (λ (t : List ℕ). turn ++ t) (append_assoc (variable_text v) (variables_text v.retained vs) behind ∙ ap (λ (t : List ℕ). variable_text v ++ t) (declared_joined v.retained vs xs rest))

opened : (version : Version) (retained : Bool) (name rest : List ℕ) → opening version retained name ++ rest ≡ section_bytes (dialect_for version) (qualifier_in (dialect_for version) retained name) rest
opened versions.One retained name rest = refl
opened versions.Two retained name rest = refl
opened versions.Three retained name rest = section_said retained name rest

listing_is : (Q : Program) → listing Q ≡ text_in (dialect_for (version_of Q)) Q
listing_is Q =
    let dialect = dialect_for (version_of Q) in
    let b = begins_retained Q in
    let n = first_name Q.variables Q.instances in
    ap (λ (t : List ℕ). opening (version_of Q) b n ++ t) (declared_joined b Q.variables Q.instances (end_text Q))
    ∙ opened (version_of Q) b n (declared_at Q)
    ∙ ap (λ (q : Option Qualifier). section_bytes dialect q (declared_at Q)) (sym (first_in dialect Q))

pub listing_dialect : (Q : Program) → dialect_of (listing Q) ≡ dialect_for (version_of Q)
listing_dialect Q = ap dialect_of (listing_is Q) ∙ told (dialect_for (version_of Q)) Q

pub listing_says : (Q : Program) → IsImage Q → Says (dialect_of (listing Q)) (listing Q) (written (dialect_for (version_of Q)) Q)
listing_says Q is =
    let dialect = dialect_for (version_of Q) in
    let h = subst (λ (text : List ℕ). Says dialect text (written dialect Q)) (sym (listing_is Q)) (text_says dialect Q (sayable Q is)) in
    subst (λ (d : Dialect). Says d (listing Q) (written dialect Q)) (sym (listing_dialect Q)) h
