-- The listing's lines are spelled as the grammar has them.
use Rattle.std.proofs.Common.{◌≡◌, ℕ, Bool, true, false, List, [], ◌∷◌, ◌++◌, Option, Some, None, refl, sym, ap, ◌∙◌, subst, ◌&&◌, not, append_assoc}
use Rattle.std.specs.Prelude.{codes, is_none}
use Rattle.std.specs.List.{AllByRecursion, flat_map}
use Rattle.il_model.specs.declared.dialect.Dialect.{Dialect}
use Rattle.il_model.specs.declared.dialect.Dialect.TheVariants as dialects
use Rattle.il_values.specs.declared.op.Op.{Op}
use Rattle.il_model.specs.declared.program.Instr.{Instr}
use Rattle.il_model.specs.Program.{Declarations}
use Rattle.il_model.specs.Words.{look, mnemonic_of, is_reserved}
use Rattle.il_values.specs.Spelled.{spells}
use Rattle.il_model.specs.Codes.{is_empty}
use Rattle.il_reader.specs.declared.lexeme.Sign.TheVariants as signs
use Rattle.il_reader.specs.Tokens.{Token, tokens_behind, piece_of, tokens_of}
use Rattle.il_reader.specs.Front.{is_sign, is_end, at_end, is_word_token, next_is, skip_breaks}
use Rattle.il_reader.specs.Grammar.{is_line_stop, is_no_label, ends_lines, block_word, begins_block, ends_blocks}
use Rattle.il_reader.specs.Spelling.{Part, breaks, ahead, sign, Spell, spelled_operation, spelled_optional_operation, spelled_content, spelled_line, going}
use Rattle.il_reader.proofs.Laws.{Spell-append}
use Rattle.il_lister.specs.Listing.{operation_text, label_text, line_text}
use Rattle.laws_listing.proofs.NameTexts.{IsFreeName, not_word}
use Rattle.laws_listing.proofs.Listable.{IsListedLabel, IsListedLine}
use Rattle.laws_listing.proofs.Written.{token_at, written_operation, unless_empty, colon_text, labelled_line, written_line, written_lines}
use Rattle.laws_listing.proofs.Resolves.{empty_line}
use Rattle.laws_listing.proofs.Pieces.{is_name_end, name_token, blank_skips, break_token, colon_token}
use Rattle.laws_listing.proofs.Parts.{Begins, spell_this, spell_one, spell_ahead, spell_break, skip_one}
use Rattle.laws_listing.proofs.Operations.{operation_spelled, stops}

-- ---- behind a label

-- the bytes of an operation, before a line end
abbrev operation_at : Instr → List ℕ → List ℕ
operation_at line rest = operation_text line ++ (10 ∷ rest)

empty_text : (dialect : Dialect) (ds : Declarations) (line : Instr) → IsListedLine dialect ds line → is_empty line.op ≡ true → operation_text line ≡ []
empty_text dialect ds line is e = sym (ap operation_text (empty_line line.label line.op line.modifier.negated line.modifier.conditional line.modifier.opens line.operand line.arguments e is.letters is.form is.called))

colon_spelled : (dialect : Dialect) (ds : Declarations) (line : Instr) (rest : List ℕ) (b : Bool) → is_empty line.op ≡ b → IsListedLine dialect ds line
    → Spell (sign signs.Colon ∷ (spelled_optional_operation dialect (unless_empty b (written_operation dialect line (10 ∷ rest))) ++ ahead is_line_stop ∷ [])) (tokens_of dialect (colon_text b ++ operation_at line rest)) (tokens_of dialect (10 ∷ rest))
colon_spelled dialect ds line rest true e is =
    let same : colon_text true ++ operation_at line rest ≡ 58 ∷ 10 ∷ rest = ap (λ (u : List ℕ). 58 ∷ (u ++ (10 ∷ rest))) (empty_text dialect ds line is e) in
    let t = token_at signs.Colon (58 ∷ []) (10 ∷ rest) in
    spell_one (is_sign signs.Colon) t (ahead is_line_stop ∷ ahead is_line_stop ∷ []) (tokens_of dialect (colon_text true ++ operation_at line rest)) (tokens_of dialect (10 ∷ rest)) (tokens_of dialect (10 ∷ rest)) (ap (tokens_of dialect) same ∙ colon_token dialect (10 ∷ rest) refl) refl (stops dialect rest, (stops dialect rest, refl))
colon_spelled dialect ds line rest false e is =
    let u = operation_at line rest in
    let t = token_at signs.Colon (58 ∷ []) (32 ∷ u) in
    let x = written_operation dialect line (10 ∷ rest) in
    let s = operation_spelled dialect ds line rest is e in
    spell_one (is_sign signs.Colon) t (spelled_operation dialect x ++ ahead is_line_stop ∷ []) (tokens_of dialect (58 ∷ 32 ∷ u)) (tokens_of dialect u) (tokens_of dialect (10 ∷ rest)) (colon_token dialect (32 ∷ u) refl ∙ ap (λ (ts : List Token). t ∷ ts) (blank_skips dialect u)) refl
    (Spell-append (spelled_operation dialect x) (ahead is_line_stop ∷ []) (tokens_of dialect u) (tokens_of dialect (10 ∷ rest)) (tokens_of dialect (10 ∷ rest)) s.spelled (stops dialect rest, refl))

-- ---- one line

record IsSpelledLine (dialect : Dialect) (label : Option (List ℕ)) (line : Instr) (rest : List ℕ) : Type 0 where
  first : Token
  more : List Token
  begins : Begins (tokens_of dialect (label_text line.op label ++ operation_at line rest)) first more
  no_end : is_end first ≡ false
  no_block : begins_block dialect (first ∷ more) ≡ false
  spelled : Spell (spelled_content dialect (labelled_line dialect label line (10 ∷ rest)) ++ ahead is_line_stop ∷ []) (tokens_of dialect (label_text line.op label ++ operation_at line rest)) (tokens_of dialect (10 ∷ rest))

full : (op : Op) (label : Option (List ℕ)) → label ≡ None → (is_empty op && is_none label) ≡ false → is_empty op ≡ false
full op label e h = by_test (is_empty op) (rw e at h)
  where
    by_test : (b : Bool) → (b && true) ≡ false → b ≡ false
    by_test true f = absurd cc
    by_test false f = refl

colon_ends : (b : Bool) (rest : List ℕ) → is_name_end (colon_text b ++ rest) ≡ true
colon_ends true rest = refl
colon_ends false rest = refl

block_reserved : is_reserved (codes "VAR") ≡ true
unfolding mnemonic_of look spells
block_reserved = refl

-- what is no such word begins no block
word_none : (dialect : Dialect) (x : Token) (more : List Token) → is_word_token (block_word dialect) x ≡ false → begins_block dialect (x ∷ more) ≡ false
word_none dialects.Plain x more e = e
word_none dialects.Extended x more e = rw e refl

colon_next : (ps : List Part) (ts rest : List Token) → Spell (sign signs.Colon ∷ ps) ts rest → next_is signs.Colon ts ≡ true
colon_next ps [] rest h = absurd h
colon_next ps (t ∷ ts) rest h = h.0

-- a label begins none: VAR is reserved, and a colon stands behind it
label_none : (dialect : Dialect) (w rest : List ℕ) (more : List Token) → IsFreeName dialect w → next_is signs.Colon more ≡ true → begins_block dialect (token_at signs.Name w rest ∷ more) ≡ false
label_none dialects.Plain w rest more free colon = not_word dialects.Plain (codes "VAR") w block_reserved free
label_none dialects.Extended w rest more free colon = by_word (spells (codes "VAR_GLOBAL") w)
  where
    by_word : (b : Bool) → (b && not (next_is signs.Colon more)) ≡ false
    by_word true = rw colon refl
    by_word false = refl

line_by : (dialect : Dialect) (ds : Declarations) (label : Option (List ℕ)) (line : Instr) (rest : List ℕ) → line.label ≡ label → IsListedLabel dialect label → IsListedLine dialect ds line → IsSpelledLine dialect label line rest
line_by dialect ds None line rest e free is =
    let s = operation_spelled dialect ds line rest is (full line.op line.label e is.labelled) in
    let u = operation_at line rest in
    let x = written_operation dialect line (10 ∷ rest) in
    record {
      first = s.first;
      more = s.more;
      begins = s.begins;
      no_end = s.no_end;
      no_block = word_none dialect s.first s.more s.no_block;
      spelled = spell_ahead (is_no_label dialect) (spelled_operation dialect x ++ ahead is_line_stop ∷ []) (tokens_of dialect u) (tokens_of dialect (10 ∷ rest)) s.no_label
          (Spell-append (spelled_operation dialect x) (ahead is_line_stop ∷ []) (tokens_of dialect u) (tokens_of dialect (10 ∷ rest)) (tokens_of dialect (10 ∷ rest)) s.spelled (stops dialect rest, refl));
    }
line_by dialect ds (Some w) line rest e free is =
    let b = is_empty line.op in
    let u = colon_text b ++ operation_at line rest in
    let t = token_at signs.Name w u in
    let ts = tokens_of dialect ((w ++ colon_text b) ++ operation_at line rest) in
    let same : ts ≡ t ∷ tokens_of dialect u = ap (tokens_of dialect) (append_assoc w (colon_text b) (operation_at line rest)) ∙ name_token dialect w u free.name (colon_ends b (operation_at line rest)) in
    let ps = spelled_optional_operation dialect (unless_empty b (written_operation dialect line (10 ∷ rest))) ++ ahead is_line_stop ∷ [] in
    let colon = colon_spelled dialect ds line rest b refl is in
    record {
      first = t;
      more = tokens_of dialect u;
      begins = record { is = same; solid = refl };
      no_end = refl;
      no_block = label_none dialect w u (tokens_of dialect u) free (colon_next ps (tokens_of dialect u) (tokens_of dialect (10 ∷ rest)) colon);
      spelled = spell_this (is_sign signs.Name) t (sign signs.Colon ∷ ps) ts (tokens_of dialect u) (tokens_of dialect (10 ∷ rest)) same refl colon;
    }

line_joined : (line : Instr) (rest : List ℕ) → line_text line ++ rest ≡ label_text line.op line.label ++ operation_at line rest
line_joined line rest = append_assoc (label_text line.op line.label) (operation_text line ++ codes "\n") rest ∙ ap (λ (u : List ℕ). label_text line.op line.label ++ u) (append_assoc (operation_text line) (codes "\n") rest)

-- a line goes on where it begins
goes : (dialect : Dialect) (ts : List Token) (bytes : List ℕ) (x : Token) (more : List Token) → ts ≡ token_at signs.Break (10 ∷ []) bytes ∷ tokens_of dialect bytes → Begins (tokens_of dialect bytes) x more → is_end x ≡ false → not (ends_lines ts) ≡ true
unfolding ends_lines
goes dialect ts bytes x more e b other = rw (skip_one dialect bytes ts x more e b, b.is, other) refl

line_spelled : (dialect : Dialect) (ds : Declarations) (line : Instr) (rest : List ℕ) → IsListedLine dialect ds line → Spell (going ends_lines (spelled_line dialect) (written_line dialect line (10 ∷ rest))) (tokens_of dialect (10 ∷ (line_text line ++ rest))) (tokens_of dialect (10 ∷ rest))
line_spelled dialect ds line rest is =
    let u = label_text line.op line.label ++ operation_at line rest in
    let s = line_by dialect ds line.label line rest refl is.label is in
    let ts = tokens_of dialect (10 ∷ (line_text line ++ rest)) in
    let e : ts ≡ token_at signs.Break (10 ∷ []) u ∷ tokens_of dialect u = ap (λ (v : List ℕ). (tokens_of dialect) (10 ∷ v)) (line_joined line rest) ∙ break_token dialect u in
    let ps = spelled_content dialect (written_line dialect line (10 ∷ rest)) ++ ahead is_line_stop ∷ [] in
    spell_ahead (λ us. not (ends_lines us)) (breaks ∷ ps) ts (tokens_of dialect (10 ∷ rest)) (goes dialect ts u s.first s.more e s.begins s.no_end)
    (spell_break dialect ps ts u s.first s.more (tokens_of dialect (10 ∷ rest)) e s.begins s.spelled)

-- ---- all of them

no_line : (dialect : Dialect) → ends_lines (tokens_of dialect (10 ∷ [])) ≡ true
unfolding ends_lines skip_breaks tokens_behind piece_of
no_line dialect = refl

pub lines_spelled : (dialect : Dialect) (ds : Declarations) (code : List Instr) → AllByRecursion (IsListedLine dialect ds) code
    → Spell (flat_map (going ends_lines (spelled_line dialect)) (written_lines dialect code) ++ ahead ends_lines ∷ []) (tokens_of dialect (10 ∷ flat_map line_text code)) (tokens_of dialect (10 ∷ []))
lines_spelled dialect ds [] all = (no_line dialect, refl)
lines_spelled dialect ds (line ∷ code) all =
    let rest = flat_map line_text code in
    let x = written_line dialect line (10 ∷ rest) in
    let qs = flat_map (going ends_lines (spelled_line dialect)) (written_lines dialect code) in
    let ts = tokens_of dialect (10 ∷ (line_text line ++ rest)) in
    let h = Spell-append (going ends_lines (spelled_line dialect) x) (qs ++ ahead ends_lines ∷ []) ts (tokens_of dialect (10 ∷ rest)) (tokens_of dialect (10 ∷ [])) (line_spelled dialect ds line rest all.0) (lines_spelled dialect ds code all.1) in
    subst (λ (ps : List Part). Spell ps ts (tokens_of dialect (10 ∷ []))) (sym (append_assoc (going ends_lines (spelled_line dialect) x) qs (ahead ends_lines ∷ []))) h

pub text_ends : (dialect : Dialect) → Spell (breaks ∷ ahead at_end ∷ []) (tokens_of dialect (10 ∷ [])) (tokens_of dialect [])
unfolding skip_breaks tokens_behind piece_of
text_ends dialect = (refl, refl)

-- no block of declarations begins where the lines do
block_none : (dialect : Dialect) → ends_blocks dialect (tokens_of dialect (10 ∷ [])) ≡ true
unfolding ends_blocks skip_breaks tokens_behind piece_of
block_none dialects.Plain = refl
block_none dialects.Extended = refl

block_not : (dialect : Dialect) (ts : List Token) (bytes : List ℕ) (x : Token) (more : List Token) → ts ≡ token_at signs.Break (10 ∷ []) bytes ∷ tokens_of dialect bytes → Begins (tokens_of dialect bytes) x more → begins_block dialect (x ∷ more) ≡ false → ends_blocks dialect ts ≡ true
unfolding ends_blocks
block_not dialect ts bytes x more e b other = rw (skip_one dialect bytes ts x more e b, b.is, other) refl

pub no_block_here : (dialect : Dialect) (ds : Declarations) (code : List Instr) → AllByRecursion (IsListedLine dialect ds) code → ends_blocks dialect (tokens_of dialect (10 ∷ flat_map line_text code)) ≡ true
no_block_here dialect ds [] all = block_none dialect
no_block_here dialect ds (line ∷ code) all =
    let rest = flat_map line_text code in
    let u = label_text line.op line.label ++ operation_at line rest in
    let s = line_by dialect ds line.label line rest refl all.0.label all.0 in
    block_not dialect (tokens_of dialect (10 ∷ (line_text line ++ rest))) u s.first s.more (ap (λ (v : List ℕ). (tokens_of dialect) (10 ∷ v)) (line_joined line rest) ∙ break_token dialect u) s.begins s.no_block
