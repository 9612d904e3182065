-- The listing's sections of declarations are spelled as the grammar has them.
use Rattle.std.proofs.Common.{◌≡◌, ℕ, Bool, true, false, cond, List, [], ◌∷◌, ◌++◌, Option, Some, None, refl, sym, ap, ◌∙◌, subst, not, append_assoc}
use Rattle.std.specs.Prelude.{codes}
use Rattle.std.specs.List.{AllByRecursion, flat_map}
use Rattle.il_model.specs.Dialects.{newest}
use Rattle.il_model.specs.declared.dialect.Dialect.{Dialect}
use Rattle.il_model.specs.declared.dialect.Dialect.TheVariants as dialects
use Rattle.il_model.specs.Words.{is_well_spelled}
use Rattle.il_values.specs.Spelled.{spells}
use Rattle.il_model.specs.Image.{may_retain}
use Rattle.il_reader.specs.declared.contents.Qualifier.{Qualifier}
use Rattle.il_reader.specs.declared.contents.Qualifier.TheVariants as qualifiers
use Rattle.il_reader.specs.declared.lexeme.Sign.TheVariants as signs
use Rattle.il_reader.specs.Tokens.{Token, tokens_of}
use Rattle.il_reader.specs.Front.{skip_breaks, is_word_token, next_is, next_is_word}
use Rattle.il_reader.specs.Grammar.{DeclarationText, BlockText, ends_block, block_word, begins_block, ends_blocks, qualifier_word, is_no_qualifier, no_qualifier, reads_as_qualifier}
use Rattle.il_reader.specs.Spelling.{Part, breaks, ahead, sign, word, name, Spell, spelled_names, spelled_initial, spelled_declaration, spelled_qualifier, spelled_block, going, listed}
use Rattle.il_reader.proofs.Laws.{Spell-append}
use Rattle.il_lister.specs.Listing as listing
use Rattle.laws_listing.proofs.NameTexts.{IsWord, word_by}
use Rattle.laws_listing.proofs.Written.{token_at, Declared, retained_of, name_of, text_of, written_declared, both_alike, declared_text, written_qualifier, written_open, written_sections}
use Rattle.laws_listing.proofs.Pieces.{is_name_end, word_token, blank_skips, break_token}
use Rattle.laws_listing.proofs.Parts.{Begins, spell_one, spell_ahead, spell_solid, spell_break, skip_one, skip_none}
use Rattle.laws_listing.proofs.Blocks.{IsSaid, declared_spelled, name_first}

-- ---- keywords

var_is : (dialect : Dialect) → IsWord (block_word dialect)
unfolding is_well_spelled
var_is dialects.Plain = word_by _ refl
var_is dialects.Extended = word_by _ refl

end_is : IsWord (codes "END_VAR")
unfolding is_well_spelled
end_is = word_by _ refl

qualifier_is : (q : Qualifier) → IsWord (qualifier_word q)
unfolding is_well_spelled
qualifier_is qualifiers.Retain = word_by _ refl
qualifier_is qualifiers.NonRetain = word_by _ refl

pub var_word : (dialect : Dialect) (rest : List ℕ) → is_word_token (block_word dialect) (token_at signs.Name (block_word dialect) rest) ≡ true
unfolding spells
var_word dialects.Plain rest = refl
var_word dialects.Extended rest = refl

end_word : (rest : List ℕ) → is_word_token (codes "END_VAR") (token_at signs.Name (codes "END_VAR") rest) ≡ true
unfolding spells
end_word rest = refl

own_word : (q : Qualifier) (rest : List ℕ) → is_word_token (qualifier_word q) (token_at signs.Name (qualifier_word q) rest) ≡ true
unfolding spells
own_word qualifiers.Retain rest = refl
own_word qualifiers.NonRetain rest = refl

some_qualifier : (q : Qualifier) (rest : List ℕ) → not (is_no_qualifier dialects.Extended (token_at signs.Name (qualifier_word q) rest)) ≡ true
unfolding spells
some_qualifier qualifiers.Retain rest = refl
some_qualifier qualifiers.NonRetain rest = refl

-- the word of a block, which no colon follows
pub word_begins : (dialect : Dialect) (x : Token) (more : List Token) → is_word_token (block_word dialect) x ≡ true → next_is signs.Colon more ≡ false → begins_block dialect (x ∷ more) ≡ true
word_begins dialects.Plain x more e colon = e
word_begins dialects.Extended x more e colon = rw (e, colon) refl

-- ---- what opens a section

abbrev pub qualifier_bytes : Option Qualifier → List ℕ
qualifier_bytes None = []
qualifier_bytes (Some q) = 32 ∷ qualifier_word q

-- behind the word
abbrev pub behind_word : Option Qualifier → List ℕ → List ℕ
behind_word q rest = qualifier_bytes q ++ (10 ∷ rest)

abbrev pub section_bytes : Dialect → Option Qualifier → List ℕ → List ℕ
section_bytes dialect q rest = block_word dialect ++ behind_word q rest

word_ends : (q : Option Qualifier) (rest : List ℕ) → is_name_end (behind_word q rest) ≡ true
word_ends None rest = refl
word_ends (Some q) rest = refl

-- whatever dialect the text is taken for
pub section_begins : (read dialect : Dialect) (q : Option Qualifier) (rest : List ℕ) → Begins (tokens_of read (section_bytes dialect q rest)) (token_at signs.Name (block_word dialect) (behind_word q rest)) (tokens_of read (behind_word q rest))
section_begins read dialect q rest = record { is = word_token read (block_word dialect) (behind_word q rest) (var_is dialect) (word_ends q rest); solid = refl }

qualifier_token : (read : Dialect) (q : Qualifier) (rest : List ℕ) → tokens_of read (behind_word (Some q) rest) ≡ token_at signs.Name (qualifier_word q) (10 ∷ rest) ∷ tokens_of read (10 ∷ rest)
qualifier_token read q rest = blank_skips read (qualifier_word q ++ (10 ∷ rest)) ∙ word_token read (qualifier_word q) (10 ∷ rest) (qualifier_is q) refl

pub no_colon : (read : Dialect) (q : Option Qualifier) (rest : List ℕ) → next_is signs.Colon (tokens_of read (behind_word q rest)) ≡ false
no_colon read None rest = ap (next_is signs.Colon) (break_token read rest)
no_colon read (Some q) rest = ap (next_is signs.Colon) (qualifier_token read q rest)

-- a qualifier stands in an extended text alone, and where there is none the next token is none
abbrev Fits : Dialect → Option Qualifier → Token → Type 0
Fits dialect None t = is_no_qualifier dialect t ≡ true
Fits dialect (Some q) t = dialect ≡ dialects.Extended

-- what stands behind the line of the word
pub record Opens (dialect : Dialect) (q : Option Qualifier) (rest : List ℕ) : Type 0 where
  pub token : Token
  pub more : List Token
  pub begins : Begins (tokens_of dialect rest) token more
  pub fits : Fits dialect q token

-- ---- line ends before a part that skips them

turn_blind : (p q : List Token → Bool) (ps : List Part) (ts us rest : List Token) → ((xs : List Token) → p xs ≡ q (skip_breaks xs)) → skip_breaks ts ≡ skip_breaks us → Spell (ahead p ∷ breaks ∷ ps) ts rest → Spell (ahead p ∷ breaks ∷ ps) us rest
turn_blind p q ps ts us rest same e h = (same us ∙ ap q (sym e) ∙ sym (same ts) ∙ h.0, subst (λ (xs : List Token). Spell ps xs rest) e h.1)

-- declarations up to the end of their section, and what stands behind the line ends there
abbrev pub inside : List DeclarationText → List Part → List Part
inside ds qs = listed ends_block spelled_declaration ds ++ (breaks ∷ qs)

abbrev behind_breaks : DeclarationText → List Part
behind_breaks d = name d.name ∷ breaks ∷ (spelled_names d.names ++ breaks ∷ sign signs.Colon ∷ breaks ∷ name d.ty ∷ breaks ∷ (spelled_initial d.initial ++ breaks ∷ sign signs.Semicolon ∷ []))

inside_blind : (ds : List DeclarationText) (qs : List Part) (ts us rest : List Token) → skip_breaks ts ≡ skip_breaks us → Spell (inside ds qs) ts rest → Spell (inside ds qs) us rest
unfolding ends_block
inside_blind [] qs ts us rest e h = turn_blind ends_block (next_is_word (codes "END_VAR")) qs ts us rest (λ xs. refl) e h
inside_blind (d ∷ ds) qs ts us rest e h =
    let others = flat_map (going ends_block spelled_declaration) ds in
    turn_blind (λ xs. not (ends_block xs)) (λ xs. not (next_is_word (codes "END_VAR") xs)) (((behind_breaks d ++ others) ++ ahead ends_block ∷ []) ++ (breaks ∷ qs)) ts us rest (λ xs. refl) e h

-- ---- a section behind its word

qualified : (dialect : Dialect) (q : Option Qualifier) (u : List ℕ) (ds : List DeclarationText) (qs : List Part) (rest : List Token) → Opens dialect q u → Spell (inside ds qs) (tokens_of dialect (10 ∷ u)) rest
    → Spell (breaks ∷ (spelled_qualifier dialect q ++ inside ds qs)) (tokens_of dialect (behind_word q u)) rest
qualified dialect None u ds qs rest o h =
    let ts = tokens_of dialect (10 ∷ u) in
    let us = tokens_of dialect u in
    let e : skip_breaks ts ≡ skip_breaks us = skip_one dialect u ts o.token o.more (break_token dialect u) o.begins ∙ sym (skip_none us o.token o.more o.begins) in
    spell_break dialect (ahead (no_qualifier dialect) ∷ inside ds qs) ts u o.token o.more rest (break_token dialect u) o.begins
    (spell_ahead (no_qualifier dialect) (inside ds qs) us rest (ap (no_qualifier dialect) o.begins.is ∙ o.fits) (inside_blind ds qs ts us rest e h))
qualified dialects.Plain (Some q) u ds qs rest o h = absurd (plain_apart o.fits)
  where
    plain_apart : dialects.Plain ≡ dialects.Extended → ⊥
    plain_apart e = cc
qualified dialects.Extended (Some q) u ds qs rest o h =
    let t = token_at signs.Name (qualifier_word q) (10 ∷ u) in
    let ts = tokens_of dialects.Extended (behind_word (Some q) u) in
    let us = tokens_of dialects.Extended (10 ∷ u) in
    let e = qualifier_token dialects.Extended q u in
    spell_solid (ahead (reads_as_qualifier dialects.Extended) ∷ word (qualifier_word q) ∷ inside ds qs) ts t us rest (record { is = e; solid = refl })
    (spell_ahead (reads_as_qualifier dialects.Extended) (word (qualifier_word q) ∷ inside ds qs) ts rest (ap (reads_as_qualifier dialects.Extended) e ∙ some_qualifier q (10 ∷ u))
    (spell_one (is_word_token (qualifier_word q)) t (inside ds qs) ts us rest e (own_word q (10 ∷ u)) h))

abbrev pub section : Option Qualifier → List DeclarationText → BlockText
section q ds = record { qualifier = q; declarations = ds }

abbrev pub going_block : Dialect → BlockText → List Part
going_block dialect b = going (ends_blocks dialect) (spelled_block dialect) b

section_parts : (dialect : Dialect) (q : Option Qualifier) (ds : List DeclarationText) (more : List Part)
    → going_block dialect (section q ds) ++ more ≡ ahead (λ us. not (ends_blocks dialect us)) ∷ breaks ∷ word (block_word dialect) ∷ breaks ∷ (spelled_qualifier dialect q ++ inside ds (word (codes "END_VAR") ∷ more))
section_parts dialect q ds more =
    let end = breaks ∷ word (codes "END_VAR") ∷ [] in
    let ls = listed ends_block spelled_declaration ds in
    ap (λ (ps : List Part). ahead (λ us. not (ends_blocks dialect us)) ∷ breaks ∷ word (block_word dialect) ∷ breaks ∷ ps)
    (append_assoc (spelled_qualifier dialect q) (ls ++ end) more ∙ ap (λ (ps : List Part). spelled_qualifier dialect q ++ ps) (append_assoc ls end more))

-- a section, and what stands behind it
pub section_spelled : (dialect : Dialect) (q : Option Qualifier) (u : List ℕ) (ds : List DeclarationText) (more : List Part) (ts rest : List Token) → Opens dialect q u → skip_breaks ts ≡ tokens_of dialect (section_bytes dialect q u)
    → Spell (inside ds (word (codes "END_VAR") ∷ more)) (tokens_of dialect (10 ∷ u)) rest → Spell (going_block dialect (section q ds) ++ more) ts rest
unfolding ends_blocks
section_spelled dialect q u ds more ts rest o e h =
    let us = tokens_of dialect (section_bytes dialect q u) in
    let w = block_word dialect in
    let t = token_at signs.Name w (behind_word q u) in
    let vs = tokens_of dialect (behind_word q u) in
    let b = section_begins dialect dialect q u in
    let ps = breaks ∷ (spelled_qualifier dialect q ++ inside ds (word (codes "END_VAR") ∷ more)) in
    let goes : not (ends_blocks dialect ts) ≡ true = rw (e, b.is, word_begins dialect t vs (var_word dialect (behind_word q u)) (no_colon dialect q u)) refl in
    let spelled : Spell (word w ∷ ps) us rest = spell_one (is_word_token w) t ps us vs rest b.is (var_word dialect (behind_word q u)) (qualified dialect q u ds (word (codes "END_VAR") ∷ more) rest o h) in
    let whole : Spell (ahead (λ xs. not (ends_blocks dialect xs)) ∷ breaks ∷ word w ∷ ps) ts rest = (goes, subst (λ (xs : List Token). Spell (word w ∷ ps) xs rest) (sym e) spelled) in
    subst (λ (qs : List Part). Spell qs ts rest) (sym (section_parts dialect q ds more)) whole

-- ---- the end of a section

end_begins : (dialect : Dialect) (v : List ℕ) → Begins (tokens_of dialect (codes "END_VAR" ++ (10 ∷ v))) (token_at signs.Name (codes "END_VAR") (10 ∷ v)) (tokens_of dialect (10 ∷ v))
end_begins dialect v = record { is = word_token dialect (codes "END_VAR") (10 ∷ v) end_is refl; solid = refl }

section_ends : (dialect : Dialect) (v : List ℕ) (ps : List Part) (rest : List Token) → Spell ps (tokens_of dialect (10 ∷ v)) rest → Spell (inside [] (word (codes "END_VAR") ∷ ps)) (tokens_of dialect (10 ∷ (codes "END_VAR" ++ (10 ∷ v)))) rest
unfolding ends_block
section_ends dialect v ps rest h =
    let u = codes "END_VAR" ++ (10 ∷ v) in
    let ts = tokens_of dialect (10 ∷ u) in
    let t = token_at signs.Name (codes "END_VAR") (10 ∷ v) in
    let b = end_begins dialect v in
    let stops : ends_block ts ≡ true = rw (skip_one dialect u ts t (tokens_of dialect (10 ∷ v)) (break_token dialect u) b, b.is) (end_word (10 ∷ v)) in
    spell_ahead ends_block (breaks ∷ word (codes "END_VAR") ∷ ps) ts rest stops
    (spell_break dialect (word (codes "END_VAR") ∷ ps) ts u t (tokens_of dialect (10 ∷ v)) rest (break_token dialect u) b
    (spell_one (is_word_token (codes "END_VAR")) t ps (tokens_of dialect u) (tokens_of dialect (10 ∷ v)) rest b.is (end_word (10 ∷ v)) h))

-- ---- what a declaration's section opens with

-- of a plain text none has a qualifier
abbrev pub qualifier_in : Dialect → Bool → List ℕ → Option Qualifier
qualifier_in dialects.Plain retained name = None
qualifier_in dialects.Extended retained name = written_qualifier retained name

fits_by : (b : Bool) (w rest : List ℕ) → listing.reads_as_qualifier w ≡ b → Fits dialects.Extended (cond b (Some qualifiers.NonRetain) None) (token_at signs.Name w rest)
fits_by true w rest e = refl
fits_by false w rest e = rw e refl

fits_so : (dialect : Dialect) (retained : Bool) (w rest : List ℕ) → Fits dialect (qualifier_in dialect retained w) (token_at signs.Name w rest)
fits_so dialects.Plain retained w rest = refl
fits_so dialects.Extended true w rest = refl
fits_so dialects.Extended false w rest = fits_by (listing.reads_as_qualifier w) w rest refl

pub declared_opens : (dialect : Dialect) (retained : Bool) (d : Declared) (rest : List ℕ) → IsSaid dialect d → Opens dialect (qualifier_in dialect retained (name_of d)) (text_of d ++ rest)
declared_opens dialect retained d rest is =
    let n = name_first dialect d rest is in
    record { token = token_at signs.Name (name_of d) n.behind; more = tokens_of dialect n.behind; begins = n.begins; fits = fits_so dialect retained (name_of d) n.behind }

end_unqualified : (dialect : Dialect) (v : List ℕ) → is_no_qualifier dialect (token_at signs.Name (codes "END_VAR") (10 ∷ v)) ≡ true
unfolding spells
end_unqualified dialects.Plain v = refl
end_unqualified dialects.Extended v = refl

no_name : (dialect : Dialect) → qualifier_in dialect false [] ≡ None
unfolding spells
no_name dialects.Plain = refl
no_name dialects.Extended = refl

-- where nothing is declared
pub end_opens : (dialect : Dialect) (v : List ℕ) → Opens dialect (qualifier_in dialect false []) (codes "END_VAR" ++ (10 ∷ v))
end_opens dialect v = subst (λ (q : Option Qualifier). Opens dialect q (codes "END_VAR" ++ (10 ∷ v))) (sym (no_name dialect))
    (record { token = token_at signs.Name (codes "END_VAR") (10 ∷ v); more = tokens_of dialect (10 ∷ v); begins = end_begins dialect v; fits = end_unqualified dialect v })

qualifier_by : (b : Bool) → cond b (codes " NON_RETAIN") [] ≡ qualifier_bytes (cond b (Some qualifiers.NonRetain) None)
qualifier_by true = refl
qualifier_by false = refl

qualifier_said : (retained : Bool) (w : List ℕ) → listing.qualifier_text retained w ≡ qualifier_bytes (written_qualifier retained w)
qualifier_said true w = refl
qualifier_said false w = qualifier_by (listing.reads_as_qualifier w)

pub section_said : (retained : Bool) (w rest : List ℕ) → listing.section_text retained w ++ rest ≡ section_bytes dialects.Extended (written_qualifier retained w) rest
section_said retained w rest =
    ap (λ (t : List ℕ). codes "VAR_GLOBAL" ++ t)
    (append_assoc (listing.qualifier_text retained w) (10 ∷ []) rest ∙ ap (λ (t : List ℕ). t ++ (10 ∷ rest)) (qualifier_said retained w))

-- ---- all of them

listed_more : (d : DeclarationText) (ds : List DeclarationText) (qs : List Part) → going ends_block spelled_declaration d ++ inside ds qs ≡ inside (d ∷ ds) qs
listed_more d ds qs =
    let one = going ends_block spelled_declaration d in
    let others = flat_map (going ends_block spelled_declaration) ds in
    sym (ap (λ (ps : List Part). ps ++ (breaks ∷ qs)) (append_assoc one others (ahead ends_block ∷ [])) ∙ append_assoc one (others ++ ahead ends_block ∷ []) (breaks ∷ qs))

-- one more in the open section
more_here : (dialect : Dialect) (d : Declared) (x : List ℕ) (ds : List DeclarationText) (qs : List Part) (rest : List Token) → IsSaid dialect d → Spell (inside ds qs) (tokens_of dialect (10 ∷ x)) rest
    → Spell (inside (written_declared d x ∷ ds) qs) (tokens_of dialect (10 ∷ (text_of d ++ x))) rest
more_here dialect d x ds qs rest is h =
    let ts = tokens_of dialect (10 ∷ (text_of d ++ x)) in
    subst (λ (ps : List Part). Spell ps ts rest) (listed_more (written_declared d x) ds qs)
    (Spell-append (going ends_block spelled_declaration (written_declared d x)) (inside ds qs) ts (tokens_of dialect (10 ∷ x)) rest (declared_spelled dialect d x is) h)

-- the first of another section
turned : (retained : Bool) (d : Declared) (x : List ℕ) (ds : List DeclarationText) (more : List Part) (rest : List Token) → IsSaid dialects.Extended d → Spell (inside ds (word (codes "END_VAR") ∷ more)) (tokens_of dialects.Extended (10 ∷ x)) rest
    → Spell (inside [] (word (codes "END_VAR") ∷ (going_block dialects.Extended (section (written_qualifier retained (name_of d)) (written_declared d x ∷ ds)) ++ more)))
    (tokens_of dialects.Extended (10 ∷ ((codes "END_VAR\n" ++ listing.section_text retained (name_of d)) ++ (text_of d ++ x)))) rest
turned retained d x ds more rest is h =
    let q = written_qualifier retained (name_of d) in
    let u = text_of d ++ x in
    let v = section_bytes dialects.Extended q u in
    let b = section_begins dialects.Extended dialects.Extended q u in
    let ts = tokens_of dialects.Extended (10 ∷ v) in
    let e : skip_breaks ts ≡ tokens_of dialects.Extended v = skip_one dialects.Extended v ts (token_at signs.Name (codes "VAR_GLOBAL") (behind_word q u)) (tokens_of dialects.Extended (behind_word q u)) (break_token dialects.Extended v) b in
    let block = going_block dialects.Extended (section q (written_declared d x ∷ ds)) in
    let spelled = section_spelled dialects.Extended q u (written_declared d x ∷ ds) more ts rest (declared_opens dialects.Extended retained d x is) e (more_here dialects.Extended d x ds (word (codes "END_VAR") ∷ more) rest is h) in
    subst (λ (t : List ℕ). Spell (inside [] (word (codes "END_VAR") ∷ (block ++ more))) (tokens_of dialects.Extended (10 ∷ (codes "END_VAR\n" ++ t))) rest) (sym (section_said retained (name_of d) u))
    (section_ends dialects.Extended v (block ++ more) rest spelled)

-- the rest of the open section, and the sections behind it
abbrev pub open_parts : Dialect → List DeclarationText → List BlockText → List Part
open_parts dialect ds bs = inside ds (word (codes "END_VAR") ∷ flat_map (going_block dialect) bs)

step : (dialect : Dialect) (before retained : Bool) (d : Declared) (x : List ℕ) (ds : List DeclarationText) (bs : List BlockText) (rest : List Token) → may_retain (newest dialect) before ≡ true → may_retain (newest dialect) retained ≡ true → IsSaid dialect d
    → Spell (open_parts dialect ds bs) (tokens_of dialect (10 ∷ x)) rest
    → Spell (open_parts dialect (cond (both_alike before retained) (written_declared d x ∷ ds) []) (cond (both_alike before retained) bs (section (written_qualifier retained (name_of d)) (written_declared d x ∷ ds) ∷ bs)))
    (tokens_of dialect (10 ∷ (listing.turn_text before retained (name_of d) ++ (text_of d ++ x)))) rest
step dialect true true d x ds bs rest may allowed is h = more_here dialect d x ds (word (codes "END_VAR") ∷ flat_map (going_block dialect) bs) rest is h
step dialect false false d x ds bs rest may allowed is h = more_here dialect d x ds (word (codes "END_VAR") ∷ flat_map (going_block dialect) bs) rest is h
step dialects.Plain true false d x ds bs rest may allowed is h = absurd cc
step dialects.Plain false true d x ds bs rest may allowed is h = absurd cc
step dialects.Extended true false d x ds bs rest may allowed is h = turned false d x ds (flat_map (going_block dialects.Extended) bs) rest is h
step dialects.Extended false true d x ds bs rest may allowed is h = turned true d x ds (flat_map (going_block dialects.Extended) bs) rest is h

-- up to the lines behind the last section
pub all_spelled : (dialect : Dialect) (before : Bool) (ds : List Declared) (v : List ℕ) → may_retain (newest dialect) before ≡ true → AllByRecursion (IsSaid dialect) ds
    → let end = codes "END_VAR\n" ++ v in
    Spell (open_parts dialect (written_open before ds end) (written_sections before ds end)) (tokens_of dialect (10 ∷ declared_text before ds end)) (tokens_of dialect (10 ∷ v))
all_spelled dialect before [] v may all = section_ends dialect v [] (tokens_of dialect (10 ∷ v)) refl
all_spelled dialect before (d ∷ ds) v may all =
    let end = codes "END_VAR\n" ++ v in
    let r = retained_of d in
    step dialect before r d (declared_text r ds end) (written_open r ds end) (written_sections r ds end) (tokens_of dialect (10 ∷ v)) may all.0.retained all.0 (all_spelled dialect r ds v all.0.retained all.1)
