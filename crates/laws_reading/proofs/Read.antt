-- The text of a flat unit, read as its lines.
use Rattle.std.proofs.Common.{◌≡◌, ℕ, Bool, true, false, List, [], ◌∷◌, ◌++◌, map, Option, Some, None, Ok, refl, sym, ap, ◌∙◌, subst, append_assoc, inl, inr, codes, eqb}
use Rattle.std.specs.Prelude.{◌&&◌, not}
use Rattle.std.specs.List.{AllByRecursion, flat_map, list_all}
use Rattle.std.proofs.lemmas.Bool.{eqb-true, and_parts}
use Rattle.il_values.specs.Spelled.{spells, upper}
use Rattle.il_values.specs.declared.op.Op.{Op}
use Rattle.il_values.specs.declared.op.Modifier.{Modifier}
use Rattle.il_values.specs.declared.function.Function.{Function}
use Rattle.il_values.specs.Functions.{function_named, look_function, function_words}
use Rattle.il_model.specs.declared.dialect.Dialect.TheVariants as dialects
use Rattle.il_model.specs.declared.words.Mnemonic.{Mnemonic}
use Rattle.il_model.specs.Words.{mnemonic_of, extended_mnemonic_of, look, mnemonic_table, extended_mnemonic_table, name_parts, is_well_spelled}
use Rattle.il_model.specs.Dialects.{operator_in}
use Rattle.il_reader.specs.declared.lexeme.Sign.{Sign}
use Rattle.il_reader.specs.declared.lexeme.Sign.TheVariants as signs
use Rattle.il_reader.specs.Tokens.{Token, tokens_behind, tokens_of, piece_of, solid_piece, word_piece, name_of, dotted_len}
use Rattle.il_reader.specs.Front.{skip_breaks, next_is, at_end}
use Rattle.il_reader.specs.Grammar.{BlockText, LineText, ProgramText, ends_blocks, ends_lines, begins_extended, dialect_of, is_label, operator_of}
use Rattle.il_reader.specs.Spelling.{Part, Spell, breaks, ahead, going, spelled_block, spelled_line, spelled_named, spelled_by, Says}
use Rattle.il_reader.specs.Reading.{expect}
use Rattle.il_reader.specs.Walk.{block_at, line_at, either_line_at, plain_at, labelled_at, operation_at, operator_at}
use Rattle.il_reader.proofs.Laws.{Spell-split}
use Rattle.il_reader.proofs.Programs.{block_law, line_law}
use Rattle.il_units.specs.declared.word.Word.{Word}
use Rattle.il_units.specs.declared.word.Line.{Line}
use Rattle.il_units.specs.declared.word.Entry.{Entry}
use Rattle.il_units.specs.Words.{said}
use Rattle.il_units.specs.Flats.{FlatUnit}
use Rattle.il_units.specs.Expansion as expansions
use Rattle.il_units.specs.Expansion.{Piece, line_end, said_piece, label_pieces, line_pieces, head_pieces, kept_pieces, end_pieces, block_pieces, first_left, entries_of, pieces_of, text_of}
use Rattle.laws_reading.specs.Words.{IsOneToken, IsOperatorSign, IsLineOf, IsLine, IsEntry}
use Rattle.laws_reading.specs.Lines.{line_said}
use Rattle.laws_reading.specs.Laws.{FlatUnitsAreReadAsTheirLines}
use Rattle.laws_reading.proofs.Lexing.{tok, tokens, word_lexed, end_lexed}
use Rattle.laws_reading.proofs.Operands.{no_reading, no_stop}
use Rattle.laws_reading.proofs.Calls.{pieces}
use Rattle.laws_reading.proofs.Lines.{spelled_lines, read_lines, lines_said, colon_is, pieces_joined, not_both}
use Rattle.laws_reading.proofs.Blocks.{NoneBegins, ReadToEnd, from_entries, retained_read, other_read, retain_is, brk}

-- ---- VAR_GLOBAL is no operator: none begins with V

abbrev other_letter : ℕ → List ℕ → Bool
other_letter b [] = true
other_letter b (k ∷ ks) = not (eqb b k)

not_spelled : (b : ℕ) (bs w : List ℕ) → other_letter (upper b) w ≡ true → spells w (b ∷ bs) ≡ false
unfolding spells
not_spelled b bs [] e = refl
not_spelled b bs (k ∷ ks) e = by_test (eqb (upper b) k) e
  where
    by_test : (c : Bool) → not c ≡ true → (c && spells ks bs) ≡ false
    by_test true f = absurd cc
    by_test false f = refl

none_looked : (b : ℕ) (bs : List ℕ) (table : List (List ℕ × Op × Modifier)) → list_all (λ (e : List ℕ × Op × Modifier). other_letter (upper b) e.0) table ≡ true → look table (b ∷ bs) ≡ None
unfolding look
none_looked b bs [] all = refl
none_looked b bs (e ∷ es) all =
    let h = and_parts (other_letter (upper b) e.0) (list_all (λ (x : List ℕ × Op × Modifier). other_letter (upper b) x.0) es) all in
    rw (not_spelled b bs e.0 h.0) (none_looked b bs es h.1)

none_named : (b : ℕ) (bs : List ℕ) (table : List (List ℕ × Function)) → list_all (λ (e : List ℕ × Function). other_letter (upper b) e.0) table ≡ true → look_function table (b ∷ bs) ≡ None
unfolding look_function
none_named b bs [] all = refl
none_named b bs (e ∷ es) all =
    let h = and_parts (other_letter (upper b) e.0) (list_all (λ (x : List ℕ × Function). other_letter (upper b) x.0) es) all in
    rw (not_spelled b bs e.0 h.0) (none_named b bs es h.1)

first_is_v : (b : ℕ) (bs : List ℕ) → spells (codes "VAR_GLOBAL") (b ∷ bs) ≡ true → upper b ≡ 86
unfolding spells
first_is_v b bs e = eqb-true (upper b) 86 (and_parts (eqb (upper b) 86) (spells (codes "AR_GLOBAL") bs) e).0

all_by : (b : ℕ) → upper b ≡ 86 → list_all (λ (e : List ℕ × Op × Modifier). other_letter (upper b) e.0) mnemonic_table ≡ true
all_by b e = ap (λ (c : ℕ). list_all (λ (x : List ℕ × Op × Modifier). other_letter c x.0) mnemonic_table) e

extended_by : (b : ℕ) → upper b ≡ 86 → list_all (λ (e : List ℕ × Op × Modifier). other_letter (upper b) e.0) extended_mnemonic_table ≡ true
extended_by b e = ap (λ (c : ℕ). list_all (λ (x : List ℕ × Op × Modifier). other_letter c x.0) extended_mnemonic_table) e

functions_by : (b : ℕ) → upper b ≡ 86 → list_all (λ (e : List ℕ × Function). other_letter (upper b) e.0) function_words ≡ true
functions_by b e = ap (λ (c : ℕ). list_all (λ (x : List ℕ × Function). other_letter c x.0) function_words) e

no_operator : (b : ℕ) (bs : List ℕ) → upper b ≡ 86 → operator_in dialects.Extended (b ∷ bs) ≡ None
unfolding mnemonic_of extended_mnemonic_of function_named
no_operator b bs e =
    rw (none_looked b bs mnemonic_table (all_by b e), none_looked b bs extended_mnemonic_table (extended_by b e), none_named b bs function_words (functions_by b e)) refl

some_none : (m : Mnemonic) (o : Option Mnemonic) → o ≡ Some m → o ≡ None → ⊥
some_none m None e f = absurd cc
some_none m (Some n) e f = absurd cc

nothing_spelled : spells (codes "VAR_GLOBAL") [] ≡ false
unfolding spells
nothing_spelled = refl

operator_other : (w : List ℕ) (m : Mnemonic) → operator_in dialects.Extended w ≡ Some m → spells (codes "VAR_GLOBAL") w ≡ false
operator_other [] m is = nothing_spelled
operator_other (b ∷ bs) m is = by_test (spells (codes "VAR_GLOBAL") (b ∷ bs)) refl
  where
    by_test : (c : Bool) → spells (codes "VAR_GLOBAL") (b ∷ bs) ≡ c → c ≡ false
    by_test false e = refl
    by_test true e = absurd (some_none m (operator_in dialects.Extended (b ∷ bs)) is (no_operator b bs (first_is_v b bs e)))

-- ---- where no text goes on

abbrev pub end_parts : List Part
end_parts = breaks ∷ ahead at_end ∷ []

abbrev pub spelled_blocks : List BlockText → List Part
spelled_blocks bs = flat_map (going (ends_blocks dialects.Extended) (spelled_block dialects.Extended)) bs ++ ahead (ends_blocks dialects.Extended) ∷ []

abbrev pub spelled_text : List BlockText → List LineText → List Part
spelled_text bs Ls = spelled_blocks bs ++ (spelled_lines Ls ++ end_parts)

none_ends : (ts : List Token) → NoneBegins ts → ends_blocks dialects.Extended ts ≡ true
unfolding ends_blocks skip_breaks spells
none_ends ts (inl c) = ap (ends_blocks dialects.Extended) c.3
none_ends ts (inr c) = ap (ends_blocks dialects.Extended) c.4

none_goes : (ts : List Token) → NoneBegins ts → ends_lines ts ≡ false
unfolding ends_lines skip_breaks
none_goes ts (inl c) = ap ends_lines c.3
none_goes ts (inr c) = ap ends_lines c.4

none_read : (ts : List Token) (x : LineText × List Token) → NoneBegins ts → line_at dialects.Extended ts ≡ Ok x → ⊥
unfolding line_at either_line_at plain_at labelled_at operation_at operator_at operator_of is_label expect skip_breaks mnemonic_of extended_mnemonic_of look function_named look_function spells
none_read ts x (inl c) h = no_reading (line_at dialects.Extended (tok signs.Colon c.0 c.1 ∷ c.2)) x (sym (ap (line_at dialects.Extended) c.3) ∙ h) tt
none_read ts x (inr c) h = no_reading (line_at dialects.Extended (tok signs.Name (codes "AT") c.0 ∷ tok signs.Address c.1 c.2 ∷ c.3)) x (sym (ap (line_at dialects.Extended) c.4) ∙ h) tt

no_lines : (Ls : List LineText) (ts rest : List Token) → NoneBegins ts → Spell (spelled_lines Ls ++ end_parts) ts rest → ⊥
no_lines [] ts rest none h = no_stop (ends_lines ts) h.0 (none_goes ts none)
no_lines (x ∷ Ls) ts rest none h =
    let one = going ends_lines (spelled_line dialects.Extended) x in
    let more = flat_map (going ends_lines (spelled_line dialects.Extended)) Ls in
    let e = append_assoc (one ++ more) (ahead ends_lines ∷ []) end_parts ∙ append_assoc one more (ahead ends_lines ∷ end_parts) in
    let s = Spell-split one (more ++ ahead ends_lines ∷ end_parts) ts rest (subst (λ (ps : List Part). Spell ps ts rest) e h) in
    none_read ts (x, s.0) none ((line_law dialects.Extended).again x ts s.0 tt s.1.1)

no_text : (bs : List BlockText) (Ls : List LineText) (ts rest : List Token) → NoneBegins ts → Spell (spelled_text bs Ls) ts rest → ⊥
no_text [] Ls ts rest none h = no_lines Ls ts rest none h.1
no_text (b ∷ bs) Ls ts rest none h = not_both (ends_blocks dialects.Extended ts) h.0 (none_ends ts none)

-- ---- the blocks

pub var_is : IsOneToken (codes "VAR_GLOBAL") signs.Name
unfolding piece_of solid_piece word_piece name_of dotted_len name_parts is_well_spelled
var_is = record { first = 86; others = 65 ∷ 82 ∷ 95 ∷ 71 ∷ 76 ∷ 79 ∷ 66 ∷ 65 ∷ 76 ∷ []; parts = refl; piece = λ (rest : List ℕ). refl }

pub block_joined : (kept : Bool) (left : ℕ) (es : List Entry) (ps : List Piece) → block_pieces kept left es ++ ps ≡ head_pieces kept left ++ from_entries kept left ps es
block_joined kept left es ps =
    append_assoc (head_pieces kept left) (flat_map (kept_pieces kept) es ++ end_pieces left) ps
    ∙ ap (λ (qs : List Piece). head_pieces kept left ++ qs) (append_assoc (flat_map (kept_pieces kept) es) (end_pieces left) ps)

-- the head of a block: VAR_GLOBAL, and no colon behind it
record HeadIs (kept : Bool) (left : ℕ) (qs : List Piece) : Type 0 where
  at : ℕ
  behind : List Token
  is : tokens (head_pieces kept left ++ qs) ≡ tok signs.Name (codes "VAR_GLOBAL") at ∷ behind
  no_colon : next_is signs.Colon behind ≡ false

head_is : (kept : Bool) (left : ℕ) (qs : List Piece) → HeadIs kept left qs
head_is false left qs =
    let a = word_lexed signs.Name (said (codes "VAR_GLOBAL") left) (line_end left ∷ qs) var_is in
    record { at = a.0; behind = tokens (line_end left ∷ qs); is = a.1; no_colon = ap (next_is signs.Colon) (end_lexed left qs).1 }
head_is true left qs =
    let a = word_lexed signs.Name (said (codes "VAR_GLOBAL") left) (said_piece (codes "RETAIN") left ∷ line_end left ∷ qs) var_is in
    record { at = a.0; behind = tokens (said_piece (codes "RETAIN") left ∷ line_end left ∷ qs); is = a.1; no_colon = ap (next_is signs.Colon) (word_lexed signs.Name (said (codes "RETAIN") left) (line_end left ∷ qs) retain_is).1 }

head_goes : (n : ℕ) (ts : List Token) → next_is signs.Colon ts ≡ false → ends_blocks dialects.Extended (tok signs.Name (codes "VAR_GLOBAL") n ∷ ts) ≡ false
unfolding ends_blocks skip_breaks spells
head_goes n ts e = rw e refl

block_read : (kept : Bool) (left : ℕ) (es : List Entry) (ps : List Piece) (x : BlockText × List Token) → AllByRecursion IsEntry es
    → block_at dialects.Extended (tokens (head_pieces kept left ++ from_entries kept left ps es)) ≡ Ok x → ReadToEnd (tokens (line_end left ∷ ps)) x.1
block_read false left es ps x all h =
    let a = word_lexed signs.Name (said (codes "VAR_GLOBAL") left) (line_end left ∷ from_entries false left ps es) var_is in
    other_read left es ps a.0 x all (sym (ap (block_at dialects.Extended) a.1) ∙ h)
block_read true left es ps x all h =
    let a = word_lexed signs.Name (said (codes "VAR_GLOBAL") left) (said_piece (codes "RETAIN") left ∷ line_end left ∷ from_entries true left ps es) var_is in
    retained_read left es ps a.0 x all (sym (ap (block_at dialects.Extended) a.1) ∙ h)

-- what stands behind a block is read behind it
block_step : (kept : Bool) (left : ℕ) (es : List Entry) (ps : List Piece) (bs : List BlockText) (Ls : List LineText) (ts rest : List Token) → AllByRecursion IsEntry es
    → block_at dialects.Extended ts ≡ block_at dialects.Extended (tokens (block_pieces kept left es ++ ps)) → ends_blocks dialects.Extended ts ≡ ends_blocks dialects.Extended (tokens (block_pieces kept left es ++ ps))
    → Spell (spelled_text bs Ls) ts rest → (cs : List BlockText) × Spell (spelled_text cs Ls) (tokens (line_end left ∷ ps)) rest
block_step kept left es ps [] Ls ts rest all same ends h =
    let head = head_is kept left (from_entries kept left ps es) in
    absurd (no_stop (ends_blocks dialects.Extended ts) h.0 (ends ∙ ap (λ (qs : List Piece). ends_blocks dialects.Extended (tokens qs)) (block_joined kept left es ps) ∙ ap (ends_blocks dialects.Extended) head.is ∙ head_goes head.at head.behind head.no_colon))
block_step kept left es ps (b ∷ bs) Ls ts rest all same ends h =
    let one = going (ends_blocks dialects.Extended) (spelled_block dialects.Extended) b in
    let more = flat_map (going (ends_blocks dialects.Extended) (spelled_block dialects.Extended)) bs in
    let tail = spelled_lines Ls ++ end_parts in
    let e = append_assoc (one ++ more) (ahead (ends_blocks dialects.Extended) ∷ []) tail ∙ append_assoc one more (ahead (ends_blocks dialects.Extended) ∷ tail) in
    let back = append_assoc more (ahead (ends_blocks dialects.Extended) ∷ []) tail in
    let s = Spell-split one (more ++ ahead (ends_blocks dialects.Extended) ∷ tail) ts rest (subst (λ (qs : List Part). Spell qs ts rest) e h) in
    let behind : Spell (spelled_text bs Ls) s.0 rest = subst (λ (qs : List Part). Spell qs s.0 rest) (sym back) s.2 in
    let read = (block_law dialects.Extended).again b ts s.0 tt s.1.1 in
    by_end s.0 behind (block_read kept left es ps (b, s.0) all (sym (same ∙ ap (λ (qs : List Piece). block_at dialects.Extended (tokens qs)) (block_joined kept left es ps)) ∙ read))
  where
    by_end : (mid : List Token) → Spell (spelled_text bs Ls) mid rest → ReadToEnd (tokens (line_end left ∷ ps)) mid → (cs : List BlockText) × Spell (spelled_text cs Ls) (tokens (line_end left ∷ ps)) rest
    by_end mid behind (inl there) = (bs, subst (λ (us : List Token). Spell (spelled_text bs Ls) us rest) there behind)
    by_end mid behind (inr none) = absurd (no_text bs Ls mid rest none behind)

break_blocks : (n : ℕ) (ts : List Token) → (block_at dialects.Extended (brk n ∷ ts) ≡ block_at dialects.Extended ts) × (ends_blocks dialects.Extended (brk n ∷ ts) ≡ ends_blocks dialects.Extended ts)
unfolding block_at ends_blocks skip_breaks
break_blocks n ts = (refl, refl)

-- ---- behind them, the lines

none_blocks : (k : ℕ) → ends_blocks dialects.Extended (tokens (line_end k ∷ [])) ≡ true
unfolding ends_blocks skip_breaks tokens_behind piece_of
none_blocks k = refl

operator_ends : (s : Sign) (w : List ℕ) (m n : ℕ) (ts : List Token) → IsOperatorSign s w → ends_blocks dialects.Extended (brk m ∷ tok s w n ∷ ts) ≡ true
unfolding ends_blocks skip_breaks
operator_ends signs.Name w m n ts good = rw (operator_other w good.0 good.1) refl
operator_ends signs.Ampersand w m n ts good = refl
operator_ends signs.Close w m n ts good = refl
operator_ends s w m n ts good = absurd good

label_ends : (w c : List ℕ) (m n k : ℕ) (ts : List Token) → ends_blocks dialects.Extended (brk m ∷ tok signs.Name w n ∷ tok signs.Colon c k ∷ ts) ≡ true
unfolding ends_blocks skip_breaks
label_ends w c m n k ts = by_word (spells (codes "VAR_GLOBAL") w)
  where
    by_word : (b : Bool) → not (b && false) ≡ true
    by_word true = refl
    by_word false = refl

line_ends : (o : Option Word) (ws : List Word) (k left : ℕ) (ps : List Piece) → IsLineOf o ws → ends_blocks dialects.Extended (tokens (line_end k ∷ (label_pieces o ++ pieces ws (line_end left ∷ ps)))) ≡ true
line_ends None [] k left ps is = absurd is
line_ends None (op ∷ ws) k left ps is =
    let a = word_lexed is.0.sign op (pieces ws (line_end left ∷ ps)) is.0.is in
    let c = end_lexed k (pieces (op ∷ ws) (line_end left ∷ ps)) in
    ap (ends_blocks dialects.Extended) (c.1 ∙ ap (λ (ts : List Token). brk c.0 ∷ ts) a.1) ∙ operator_ends is.0.sign op.text c.0 a.0 (tokens (pieces ws (line_end left ∷ ps))) is.0.good
line_ends (Some label) ws k left ps is =
    let rest = said_piece (codes ":") label.left ∷ pieces ws (line_end left ∷ ps) in
    let a = word_lexed signs.Name label rest is.0 in
    let d = word_lexed signs.Colon (said (codes ":") label.left) (pieces ws (line_end left ∷ ps)) (colon_is label.left) in
    let c = end_lexed k (expansions.piece_of label ∷ rest) in
    ap (ends_blocks dialects.Extended) (c.1 ∙ ap (λ (ts : List Token). brk c.0 ∷ ts) (a.1 ∙ ap (λ (ts : List Token). tok signs.Name label.text a.0 ∷ ts) d.1))
    ∙ label_ends label.text (codes ":") c.0 a.0 d.0 (tokens (pieces ws (line_end left ∷ ps)))

lines_end : (ls : List Line) (k : ℕ) → AllByRecursion IsLine ls → ends_blocks dialects.Extended (tokens (line_end k ∷ flat_map line_pieces ls)) ≡ true
lines_end [] k all = none_blocks k
lines_end (l ∷ ls) k all =
    ap (λ (qs : List Piece). ends_blocks dialects.Extended (tokens (line_end k ∷ qs))) (pieces_joined l.label l.words l.left (flat_map line_pieces ls)) ∙ line_ends l.label l.words k l.left (flat_map line_pieces ls) all.0

lines_left : (ls : List Line) (k : ℕ) (bs : List BlockText) (Ls : List LineText) (rest : List Token) → AllByRecursion IsLine ls → Spell (spelled_text bs Ls) (tokens (line_end k ∷ flat_map line_pieces ls)) rest → read_lines Ls ≡ map line_said ls
lines_left ls k [] Ls rest all h =
    let s = Spell-split (spelled_lines Ls) end_parts (tokens (line_end k ∷ flat_map line_pieces ls)) rest h.1 in
    lines_said ls k Ls s.0 all s.1
lines_left ls k (b ∷ bs) Ls rest all h = absurd (not_both (ends_blocks dialects.Extended (tokens (line_end k ∷ flat_map line_pieces ls))) h.0 (lines_end ls k all))

-- ---- the whole text

whole : (left : ℕ) (es : List Entry) (ls : List Line) (bs : List BlockText) (Ls : List LineText) (rest : List Token) → AllByRecursion IsEntry es → AllByRecursion IsLine ls
    → Spell (spelled_text bs Ls) (tokens (block_pieces false left es ++ (block_pieces true left es ++ flat_map line_pieces ls))) rest → read_lines Ls ≡ map line_said ls
whole left es ls bs Ls rest entries lines h =
    let second = block_pieces true left es ++ flat_map line_pieces ls in
    let first = block_step false left es second bs Ls (tokens (block_pieces false left es ++ second)) rest entries refl refl h in
    let c = end_lexed left second in
    let b = break_blocks c.0 (tokens second) in
    let next = block_step true left es (flat_map line_pieces ls) first.0 Ls (tokens (line_end left ∷ second)) rest entries (ap (block_at dialects.Extended) c.1 ∙ b.0) (ap (ends_blocks dialects.Extended) c.1 ∙ b.1) first.1 in
    lines_left ls left next.0 Ls rest lines next.1

no_name : (n : ℕ) (ts : List Token) (t : Token) (s : ProgramText) (rest : List Token) → Spell (spelled_named dialects.Extended t s) (tok signs.Name (codes "VAR_GLOBAL") n ∷ ts) rest → ⊥
unfolding skip_breaks spells
no_name n ts t s rest h = no_stop false h.0 refl

-- it has no name
pub bare_only : (u : FlatUnit) (s : ProgramText) (o : Option Token) (rest : List Token) → Spell (spelled_by dialects.Extended o s) (tokens (pieces_of u)) rest → Spell (spelled_text s.blocks s.lines) (tokens (pieces_of u)) rest
bare_only u s None rest h = h.1
bare_only u s (Some t) rest h =
    let left = first_left u.members in
    let ps = block_pieces true left (entries_of u) ++ flat_map line_pieces u.lines in
    let head = head_is false left (from_entries false left ps (entries_of u)) in
    let e : tokens (pieces_of u) ≡ tok signs.Name (codes "VAR_GLOBAL") head.at ∷ head.behind = ap tokens (block_joined false left (entries_of u) ps) ∙ head.is in
    absurd (no_name head.at head.behind t s rest (subst (λ (ts : List Token). Spell (spelled_named dialects.Extended t s) ts rest) e h))

is_extended : (u : FlatUnit) → begins_extended (tokens_of dialects.Plain (text_of u)) ≡ true
unfolding begins_extended skip_breaks tokens_behind piece_of solid_piece word_piece name_of name_parts is_well_spelled spells
is_extended u = refl

pub dialect_is : (u : FlatUnit) → dialect_of (text_of u) ≡ dialects.Extended
dialect_is u = rw (is_extended u) refl

pub read_as_lines : FlatUnitsAreReadAsTheirLines
read_as_lines u source is reads =
    let P : List ℕ → Type 0 = λ bytes. Says (dialect_of bytes) bytes source.says in
    let here : Says (dialect_of (text_of u)) (text_of u) source.says = subst P reads.0 reads.1.said in
    let says : Says dialects.Extended (text_of u) source.says = rw (dialect_is u) at here in
    record { dialect = dialect_is u; lines = whole (first_left u.members) (entries_of u) u.lines source.says.blocks source.says.lines says.0 is.entries is.lines (bare_only u source.says source.says.name says.0 says.1) }
