-- What may be read is tokens, where its text is read.
use Rattle.std.proofs.Common.{◌≡◌, ℕ, Bool, true, false, not, List, [], ◌∷◌, ◌++◌, length, take, drop, Option, Some, None, refl, sym, ap, ◌∙◌, subst, arith, append_assoc, inl, inr, codes}
use Rattle.std.specs.Prelude.{◌⊎◌, if◌then◌else◌}
use Rattle.std.specs.List.{AllByRecursion, flat_map}
use Rattle.il_model.specs.declared.dialect.Dialect.TheVariants as dialects
use Rattle.il_reader.specs.declared.fault.FaultKind.{FaultKind}
use Rattle.il_reader.specs.declared.lexeme.Sign.{Sign}
use Rattle.il_reader.specs.declared.lexeme.Sign.TheVariants as signs
use Rattle.il_reader.specs.declared.lexeme.Class.TheVariants as classes
use Rattle.il_reader.specs.Tokens.{broken, piece_of, tokens_of}
use Rattle.il_reader.proofs.Tokens.{gives}
use Rattle.il_reader.specs.Grammar.{dialect_of}
use Rattle.il_reader.specs.Spelling.{Says}
use Rattle.il_reader.specs.Texts.{SourceText, Reads}
use Rattle.il_units.specs.declared.word.Sort.{Sort}
use Rattle.il_units.specs.declared.word.Sort.TheVariants as sorts
use Rattle.il_units.specs.declared.word.Word.{Word}
use Rattle.il_units.specs.declared.word.Line.{Line}
use Rattle.il_units.specs.declared.word.Entry.{Entry}
use Rattle.il_units.specs.Words.{said}
use Rattle.il_units.specs.Flats.{FlatUnit}
use Rattle.il_units.specs.Expansion as expansions
use Rattle.il_units.specs.Expansion.{Piece, line_end, text_of_pieces, said_piece, label_pieces, line_pieces, entry_pieces, kept_as, kept_pieces, head_pieces, end_pieces, block_pieces, first_left, entries_of, pieces_of, text_of}
use Rattle.laws_reading.specs.Words.{Is, IsOperand, IsOperandSign, IsOperator, IsSide, EndsArgument, AreArguments, AreInside, AreBehind, AreWords, IsLineOf, IsLine, AreTyped, AreLocated, IsEntry, IsOfWords}
use Rattle.laws_reading.proofs.Lexing.{tokens, word_lexed, end_lexed}
use Rattle.laws_reading.proofs.Calls.{pieces}
use Rattle.laws_reading.proofs.Lines.{pieces_joined, colon_is}
use Rattle.laws_reading.proofs.Blocks.{from_entries, entry_joined, end_is, retain_is}
use Rattle.laws_reading.proofs.Read.{var_is, block_joined, bare_only, dialect_is}
use Rattle.laws_reading.proofs.Runs.{IsBroken, MayBe, IsRun, run_may}
use Rattle.laws_reading.proofs.Told.{OperatorOk}
use Rattle.laws_reading.proofs.Lawful.{OperandBy, OperandOk, NameBy, NameOk, EndOk, SideOk, ArgumentsOk, InsideOk, BehindOk, WordsBy, WordsOk, MayLabel, SomeWords, LineOk, ValueOk, TypedOk, LocatedOk, EntryOk}
use Rattle.laws_reading.proofs.Whole.{IsCut, no_cut}

abbrev Whole : List Piece → Type 0
Whole ps = IsCut (tokens ps) → ⊥

-- ---- one piece

broken_first : (w rest : List ℕ) (b : ℕ) (bs : List ℕ) (f : FaultKind) → w ≡ b ∷ bs → piece_of dialects.Extended (w ++ rest) ≡ broken f
    → tokens_of dialects.Extended (w ++ rest) ≡ record { class = classes.Broken f; text = take 1 (w ++ rest); left = length (w ++ rest) } ∷ []
broken_first w rest b bs f parts e = gives dialects.Extended (w ++ rest) (take 1 (w ++ rest)) (drop 1 (w ++ rest)) (broken f) (classes.Broken f) (sym e) (λ any. omega arith) refl refl refl

broken_cut : (w : Word) (ps : List Piece) (b : ℕ) (bs : List ℕ) → w.text ≡ b ∷ bs → IsBroken w.text → IsCut (tokens (expansions.piece_of w ∷ ps))
broken_cut w ps b bs parts is =
    let p = is (text_of_pieces ps) in
    let e = ap (tokens_of dialects.Extended) (append_assoc w.text (codes " ") (text_of_pieces ps)) ∙ broken_first w.text (32 ∷ text_of_pieces ps) b bs p.0 parts p.1 in
    subst IsCut (sym e) tt

-- a word that may be one is one, and what follows is whole
word_up : (s : Sign) (w : Word) (ps : List Piece) → MayBe w.text s → Whole (expansions.piece_of w ∷ ps) → Is s w × Whole ps
word_up s w ps (inl one) whole = let e = word_lexed s w ps one in (one, λ (cut : IsCut (tokens ps)). whole (subst IsCut (sym e.1) cut))
word_up s w ps (inr is) whole = absurd (whole (broken_cut w ps is.0 is.1 is.2 is.3))

end_up : (left : ℕ) (ps : List Piece) → Whole (line_end left ∷ ps) → Whole ps
end_up left ps whole = let e = end_lexed left ps in λ (cut : IsCut (tokens ps)). whole (subst IsCut (sym e.1) cut)

one_up : (s : Sign) (w : Word) (ps : List Piece) → Is s w → Whole (expansions.piece_of w ∷ ps) → Whole ps
one_up s w ps is whole = (word_up s w ps (inl is) whole).1

-- ---- operands

record OperandMay (w : Word) : Type 0 where
  sign : Sign
  good : IsOperandSign sign
  may : MayBe w.text sign

run_operand : (w : Word) → IsRun w.text → OperandMay w
run_operand w run = record { sign = signs.Name; good = tt; may = run_may w.text run }

operand_by : (w : Word) (s : Sort) → OperandBy s w.text → OperandMay w
operand_by w sorts.Said is = record { sign = is.sign; good = is.good; may = is.may }
operand_by w sorts.Own is = run_operand w is
operand_by w sorts.Shared is = run_operand w is
operand_by w sorts.InOut is = run_operand w is
operand_by w sorts.Label is = absurd is
operand_by w (sorts.Return m) is = absurd is

may_up : (w : Word) (ps : List Piece) → OperandMay w → Whole (expansions.piece_of w ∷ ps) → IsOperand w × Whole ps
may_up w ps is whole = let u = word_up is.sign w ps is.may whole in (record { sign = is.sign; good = is.good; is = u.0 }, u.1)

operand_up : (w : Word) (ps : List Piece) → OperandOk w → Whole (expansions.piece_of w ∷ ps) → IsOperand w × Whole ps
operand_up w ps is whole = may_up w ps (operand_by w w.sort is) whole

name_by : (w : Word) (s : Sort) → NameBy s w.text → IsRun w.text
name_by w sorts.Own is = is
name_by w sorts.Shared is = is
name_by w sorts.Said is = absurd is
name_by w sorts.InOut is = absurd is
name_by w sorts.Label is = absurd is
name_by w (sorts.Return m) is = absurd is

name_up : (w : Word) (ps : List Piece) → NameOk w → Whole (expansions.piece_of w ∷ ps) → Is signs.Name w × Whole ps
name_up w ps is whole = word_up signs.Name w ps (run_may w.text (name_by w w.sort is)) whole

-- ---- calls

side_up : (w : Word) (ps : List Piece) → SideOk w → Whole (expansions.piece_of w ∷ ps) → IsSide w × Whole ps
side_up w ps (inl is) whole = let u = word_up signs.Assign w ps is.may whole in (inl u.0, u.1)
side_up w ps (inr is) whole = let u = word_up signs.Arrow w ps is.may whole in (inr u.0, u.1)

last_up : (more : List Word) (w : Word) (ps : List Piece) → EndOk more w → Whole (expansions.piece_of w ∷ ps) → EndsArgument more w × Whole ps
last_up [] w ps is whole = word_up signs.Close w ps is.may whole
last_up (x ∷ xs) w ps is whole = word_up signs.Comma w ps is.may whole

arguments_up : (ws : List Word) (ps : List Piece) → ArgumentsOk ws → Whole (pieces ws ps) → AreArguments ws × Whole ps
arguments_up [] ps all whole = (tt, whole)
arguments_up (f ∷ []) ps all whole = absurd all
arguments_up (f ∷ d ∷ []) ps all whole = absurd all
arguments_up (f ∷ d ∷ x ∷ []) ps all whole = absurd all
arguments_up (f ∷ d ∷ x ∷ e ∷ more) ps all whole =
    let a = word_up signs.Name f (pieces (d ∷ x ∷ e ∷ more) ps) all.0.may whole in
    let b = side_up d (pieces (x ∷ e ∷ more) ps) all.1 a.1 in
    let c = operand_up x (pieces (e ∷ more) ps) all.2 b.1 in
    let g = last_up more e (pieces more ps) all.3 c.1 in
    let h = arguments_up more ps all.4 g.1 in
    ((a.0, b.0, c.0, g.0, h.0), h.1)

inside_up : (ws : List Word) (ps : List Piece) → InsideOk ws → Whole (pieces ws ps) → AreInside ws × Whole ps
inside_up [] ps all whole = absurd all
inside_up (e ∷ []) ps all whole = word_up signs.Close e ps all.may whole
inside_up (f ∷ d ∷ more) ps all whole = arguments_up (f ∷ d ∷ more) ps all whole

-- ---- lines

behind_up : (ws : List Word) (ps : List Piece) → BehindOk ws → Whole (pieces ws ps) → AreBehind ws × Whole ps
behind_up [] ps all whole = (tt, whole)
behind_up (x ∷ []) ps (inl is) whole = let u = operand_up x ps is whole in (inl u.0, u.1)
behind_up (x ∷ []) ps (inr (inl is)) whole = let u = may_up x ps (run_operand x is.name.run) whole in (inl u.0, u.1)
behind_up (x ∷ []) ps (inr (inr is)) whole = let u = word_up signs.Open x ps is.may whole in (inr u.0, u.1)
behind_up (o ∷ x ∷ []) ps all whole =
    let a = word_up signs.Open o (pieces (x ∷ []) ps) all.0.may whole in
    let b = operand_up x ps all.1 a.1 in
    ((a.0, b.0), b.1)
behind_up (x ∷ o ∷ i ∷ more) ps all whole =
    let a = name_up x (pieces (o ∷ i ∷ more) ps) all.0 whole in
    let b = word_up signs.Open o (pieces (i ∷ more) ps) all.1.may a.1 in
    let c = inside_up (i ∷ more) ps all.2 b.1 in
    ((a.0, b.0, c.0), c.1)

operator_up : (w : Word) (ps : List Piece) → OperatorOk w.text → Whole (expansions.piece_of w ∷ ps) → IsOperator w × Whole ps
operator_up w ps is whole = let u = word_up is.sign w ps is.may whole in (record { sign = is.sign; good = is.good; is = u.0 }, u.1)

words_by : (s : Sort) (w : Word) (ws : List Word) (ps : List Piece) → WordsBy s w.text ws → Whole (pieces (w ∷ ws) ps) → AreWords (w ∷ ws) × Whole ps
words_by sorts.Said w ws ps all whole =
    let a = operator_up w (pieces ws ps) all.0 whole in
    let b = behind_up ws ps all.1 a.1 in
    ((a.0, b.0), b.1)
words_by (sorts.Return m) w ws ps all whole =
    let a = operator_up w (pieces ws ps) all.0 whole in
    let b = behind_up ws ps (subst BehindOk (sym all.1) tt) a.1 in
    ((a.0, b.0), b.1)
words_by sorts.Own w ws ps all whole = absurd all
words_by sorts.Shared w ws ps all whole = absurd all
words_by sorts.Label w ws ps all whole = absurd all
words_by sorts.InOut w ws ps all whole = absurd all

words_up : (ws : List Word) (ps : List Piece) → WordsOk ws → Whole (pieces ws ps) → AreWords ws × Whole ps
words_up [] ps all whole = (tt, whole)
words_up (w ∷ ws) ps all whole = words_by w.sort w ws ps all whole

line_by : (o : Option Word) (ws : List Word) (ps : List Piece) → MayLabel o → WordsOk ws → SomeWords o ws → Whole (label_pieces o ++ pieces ws ps) → IsLineOf o ws × Whole ps
line_by None [] ps label words some whole = absurd some
line_by None (w ∷ ws) ps label words some whole = words_up (w ∷ ws) ps words whole
line_by (Some x) ws ps label words some whole =
    let a = word_up signs.Name x (said_piece (codes ":") x.left ∷ pieces ws ps) (run_may x.text label.name.run) whole in
    let b = one_up signs.Colon (said (codes ":") x.left) (pieces ws ps) (colon_is x.left) a.1 in
    let c = words_up ws ps words b in
    ((a.0, c.0), c.1)

lines_up : (ls : List Line) → AllByRecursion LineOk ls → Whole (flat_map line_pieces ls) → AllByRecursion IsLine ls
lines_up [] all whole = tt
lines_up (l ∷ ls) all whole =
    let joined = subst Whole (pieces_joined l.label l.words l.left (flat_map line_pieces ls)) whole in
    let a = line_by l.label l.words (line_end l.left ∷ flat_map line_pieces ls) all.0.label all.0.words all.0.some joined in
    (a.0, lines_up ls all.1 (end_up l.left (flat_map line_pieces ls) a.1))

-- ---- declarations

value_up : (w : Word) (ps : List Piece) → ValueOk w → Whole (expansions.piece_of w ∷ ps) → IsOperand w × Whole ps
value_up w ps is whole = may_up w ps (record { sign = is.is.sign; good = is.is.good; may = is.is.may }) whole

typed_up : (ws : List Word) (ps : List Piece) → TypedOk ws → Whole (pieces ws ps) → AreTyped ws × Whole ps
typed_up [] ps all whole = absurd all
typed_up (c ∷ []) ps all whole = absurd all
typed_up (c ∷ t ∷ []) ps all whole = absurd all
typed_up (c ∷ t ∷ e ∷ []) ps all whole =
    let a = word_up signs.Colon c (pieces (t ∷ e ∷ []) ps) all.0.may whole in
    let b = word_up signs.Name t (pieces (e ∷ []) ps) all.1.may a.1 in
    let d = word_up signs.Semicolon e ps all.2.may b.1 in
    ((a.0, b.0, d.0), d.1)
typed_up (c ∷ t ∷ g ∷ v ∷ []) ps all whole = absurd all
typed_up (c ∷ t ∷ g ∷ v ∷ e ∷ []) ps all whole =
    let a = word_up signs.Colon c (pieces (t ∷ g ∷ v ∷ e ∷ []) ps) all.0.may whole in
    let b = word_up signs.Name t (pieces (g ∷ v ∷ e ∷ []) ps) all.1.may a.1 in
    let d = word_up signs.Assign g (pieces (v ∷ e ∷ []) ps) all.2.may b.1 in
    let h = value_up v (pieces (e ∷ []) ps) all.3 d.1 in
    let i = word_up signs.Semicolon e ps all.4.may h.1 in
    ((a.0, b.0, d.0, h.0, i.0), i.1)
typed_up (c ∷ t ∷ g ∷ v ∷ e ∷ y ∷ ys) ps all whole = absurd all

entry_words_up : (ws : List Word) (ps : List Piece) → TypedOk ws ⊎ LocatedOk ws → Whole (pieces ws ps) → (AreTyped ws ⊎ AreLocated ws) × Whole ps
entry_words_up ws ps (inl all) whole = let u = typed_up ws ps all whole in (inl u.0, u.1)
entry_words_up [] ps (inr all) whole = absurd all
entry_words_up (a ∷ []) ps (inr all) whole = absurd all
entry_words_up (a ∷ p ∷ ws) ps (inr all) whole =
    let b = word_up signs.Name a (pieces (p ∷ ws) ps) all.0.may whole in
    let c = word_up signs.Address p (pieces ws ps) all.2.may b.1 in
    let d = typed_up ws ps all.3 c.1 in
    (inr (b.0, all.1, c.0, d.0), d.1)

entry_up : (e : Entry) (ps : List Piece) → EntryOk e → Whole (expansions.piece_of e.name ∷ pieces e.words (line_end e.name.left ∷ ps)) → IsEntry e × Whole ps
entry_up e ps is whole =
    let a = name_up e.name (pieces e.words (line_end e.name.left ∷ ps)) is.name whole in
    let b = entry_words_up e.words (line_end e.name.left ∷ ps) is.words a.1 in
    (record { name = a.0; words = b.0 }, end_up e.name.left ps b.1)

abbrev Kept : Bool → Entry → Type 0
Kept kept e = kept_as kept e ≡ true → IsEntry e

entries_up : (kept : Bool) (es : List Entry) (ps : List Piece) → AllByRecursion EntryOk es → Whole (flat_map (kept_pieces kept) es ++ ps) → AllByRecursion (Kept kept) es × Whole ps
entries_up kept [] ps all whole = (tt, whole)
entries_up kept (e ∷ es) ps all whole = by_kept (kept_as kept e) refl (λ (w : Whole (flat_map (kept_pieces kept) es ++ ps)). entries_up kept es ps all.1 w) whole
  where
    by_kept : (b : Bool) → kept_as kept e ≡ b → (Whole (flat_map (kept_pieces kept) es ++ ps) → AllByRecursion (Kept kept) es × Whole ps)
        → Whole (((if b then entry_pieces e else []) ++ flat_map (kept_pieces kept) es) ++ ps) → AllByRecursion (Kept kept) (e ∷ es) × Whole ps
    by_kept false is again w =
        let u = again w in
        ((λ (yes : kept_as kept e ≡ true). absurd (other is yes), u.0), u.1)
      where
        other : {b : Bool} → b ≡ false → b ≡ true → ⊥
        other a c = absurd cc
    by_kept true is again w =
        let here = entry_up e (flat_map (kept_pieces kept) es ++ ps) all.0 (subst Whole (entry_joined e (flat_map (kept_pieces kept) es) ps) w) in
        let u = again here.1 in
        ((λ (yes : kept_as kept e ≡ true). here.0, u.0), u.1)

block_up : (kept : Bool) (left : ℕ) (es : List Entry) (ps : List Piece) → AllByRecursion EntryOk es → Whole (block_pieces kept left es ++ ps) → AllByRecursion (Kept kept) es × Whole ps
block_up kept left es ps all whole = by_head kept refl (subst Whole (block_joined kept left es ps) whole)
  where
    behind : Whole (from_entries kept left ps es) → AllByRecursion (Kept kept) es × Whole ps
    behind w =
        let u = entries_up kept es (said_piece (codes "END_VAR") left ∷ line_end left ∷ ps) all w in
        (u.0, end_up left ps (one_up signs.Name (said (codes "END_VAR") left) (line_end left ∷ ps) end_is u.1))

    by_head : (b : Bool) → kept ≡ b → Whole (head_pieces b left ++ from_entries kept left ps es) → AllByRecursion (Kept kept) es × Whole ps
    by_head false is w = behind (end_up left (from_entries kept left ps es) (one_up signs.Name (said (codes "VAR_GLOBAL") left) (line_end left ∷ from_entries kept left ps es) var_is w))
    by_head true is w =
        behind (end_up left (from_entries kept left ps es)
        (one_up signs.Name (said (codes "RETAIN") left) (line_end left ∷ from_entries kept left ps es) retain_is
        (one_up signs.Name (said (codes "VAR_GLOBAL") left) (said_piece (codes "RETAIN") left ∷ line_end left ∷ from_entries kept left ps es) var_is w)))

by_retained : (e : Entry) (b : Bool) → e.retained ≡ b → Kept false e → Kept true e → IsEntry e
by_retained e true is no_one yes_one = yes_one is
by_retained e false is no_one yes_one = no_one (ap not is)

all_entries : (es : List Entry) → AllByRecursion (Kept false) es → AllByRecursion (Kept true) es → AllByRecursion IsEntry es
all_entries [] a b = tt
all_entries (e ∷ es) a b = (by_retained e e.retained refl a.0 b.0, all_entries es a.1 b.1)

-- ---- a flat unit

pub unit_up : (u : FlatUnit) → AllByRecursion EntryOk (entries_of u) → AllByRecursion LineOk u.lines → Whole (pieces_of u) → IsOfWords u
unit_up u entries lines whole =
    let left = first_left u.members in
    let es = entries_of u in
    let a = block_up false left es (block_pieces true left es ++ flat_map line_pieces u.lines) entries whole in
    let b = block_up true left es (flat_map line_pieces u.lines) entries a.1 in
    record { entries = all_entries es a.0 b.0; lines = lines_up u.lines lines b.1 }

pub words_are : (u : FlatUnit) (source : SourceText) → AllByRecursion EntryOk (entries_of u) → AllByRecursion LineOk u.lines → Reads (text_of u) source → IsOfWords u
words_are u source entries lines reads =
    let P : List ℕ → Type 0 = λ bytes. Says (dialect_of bytes) bytes source.says in
    let here : Says (dialect_of (text_of u)) (text_of u) source.says = subst P reads.0 reads.1.said in
    let says : Says dialects.Extended (text_of u) source.says = rw (dialect_is u) at here in
    let bare = bare_only u source.says source.says.name says.0 says.1 in
    unit_up u entries lines (λ (cut : IsCut (tokens (pieces_of u))). no_cut source.says.blocks source.says.lines (tokens (pieces_of u)) says.0 bare cut)
