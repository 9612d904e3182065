-- The declarations of an expansion, read up to its lines.
use Rattle.std.proofs.Common.{◌≡◌, ℕ, zero, suc, Bool, true, false, List, [], ◌∷◌, ◌++◌, map, length, Option, Some, None, Result, Ok, Err, refl, sym, ap, ◌∙◌, subst, append_assoc, inl, inr, codes}
use Rattle.std.specs.Prelude.{◌⊎◌, ◌||◌, if◌then◌else◌}
use Rattle.std.specs.List.{AllByRecursion, flat_map}
use Rattle.il_values.specs.Spelled.{spells}
use Rattle.il_model.specs.declared.dialect.Dialect.TheVariants as dialects
use Rattle.il_model.specs.Words.{name_parts, is_well_spelled}
use Rattle.il_reader.specs.declared.lexeme.Sign.{Sign}
use Rattle.il_reader.specs.declared.lexeme.Sign.TheVariants as signs
use Rattle.il_reader.specs.declared.contents.Qualifier.{Qualifier}
use Rattle.il_reader.specs.declared.contents.Qualifier.TheVariants as qualifiers
use Rattle.il_reader.specs.declared.fault.FaultAt.{FaultAt}
use Rattle.il_reader.specs.Tokens.{Token, piece_of, solid_piece, word_piece, name_of, dotted_len}
use Rattle.il_reader.specs.Front.{fault_at, skip_breaks}
use Rattle.il_reader.specs.Grammar.{DeclarationText, NamesText, Located, More, BlockText, ends_block, ends_names, is_constant}
use Rattle.il_reader.specs.Reading.{◌>>=◌, Reading, expect, keyword, many, many_within, pair, led, closed, past, mark}
use Rattle.il_reader.specs.Walk.{names_at, initial_at, constant_at, declaration_at, declared, declared_at, qualifier_at, either_qualifier_at, block_at}
use Rattle.il_reader.proofs.Laws.{ok_is, bind_ok}
use Rattle.il_units.specs.declared.word.Word.{Word}
use Rattle.il_units.specs.declared.word.Entry.{Entry}
use Rattle.il_units.specs.Words.{said}
use Rattle.il_units.specs.Expansion as expansions
use Rattle.il_units.specs.Expansion.{Piece, line_end, said_piece, entry_pieces, kept_as, kept_pieces, end_pieces}
use Rattle.laws_reading.specs.Words.{IsOneToken, Is, IsOperandSign, AreTyped, AreLocated, IsEntry}
use Rattle.laws_reading.proofs.Lexing.{tok, tokens, Begins, word_lexed, end_lexed}
use Rattle.laws_reading.proofs.Operands.{done, no_reading, no_stop}
use Rattle.laws_reading.proofs.Calls.{pieces}

abbrev pub brk : ℕ → Token
brk n = tok signs.Break (10 ∷ []) n

-- ---- what no line and no declaration begins with

-- a colon, or AT and a location
abbrev pub NoneBegins : List Token → Type 0
NoneBegins ts = ((w : List ℕ) × (n : ℕ) × (us : List Token) × (ts ≡ tok signs.Colon w n ∷ us))
    ⊎ ((n : ℕ) × (p : List ℕ) × (m : ℕ) × (us : List Token) × (ts ≡ tok signs.Name (codes "AT") n ∷ tok signs.Address p m ∷ us))

-- ---- one declaration

-- what stands behind the names
abbrev typed_at : Reading (Token × Option Token)
typed_at ts = led (past (mark (expect signs.Colon))) (pair (past (expect signs.Name)) (closed (past initial_at) (past (mark (expect signs.Semicolon))))) ts

plain_typed : (c t e : List ℕ) (i j k : ℕ) (us : List Token) → typed_at (tok signs.Colon c i ∷ tok signs.Name t j ∷ tok signs.Semicolon e k ∷ us) ≡ Ok ((tok signs.Name t j, None), us)
unfolding expect initial_at skip_breaks
plain_typed c t e i j k us = refl

value_typed : (s : Sign) (c t a v e : List ℕ) (i j k l m : ℕ) (us : List Token) → IsOperandSign s → is_constant (tok s v l) ≡ true
    → typed_at (tok signs.Colon c i ∷ tok signs.Name t j ∷ tok signs.Assign a k ∷ tok s v l ∷ tok signs.Semicolon e m ∷ us) ≡ Ok ((tok signs.Name t j, Some (tok s v l)), us)
unfolding expect initial_at skip_breaks constant_at
value_typed signs.Name c t a v e i j k l m us good is = rw is refl
value_typed signs.Literal c t a v e i j k l m us good is = rw is refl
value_typed signs.Address c t a v e i j k l m us good is = rw is refl
value_typed s c t a v e i j k l m us good is = absurd good

value_refused : (s : Sign) (c t a v : List ℕ) (i j k l : ℕ) (us : List Token) → IsOperandSign s → is_constant (tok s v l) ≡ false
    → typed_at (tok signs.Colon c i ∷ tok signs.Name t j ∷ tok signs.Assign a k ∷ tok s v l ∷ us) ≡ Err (fault_at (tok s v l))
unfolding expect initial_at skip_breaks constant_at
value_refused signs.Name c t a v i j k l us good is = rw is refl
value_refused signs.Literal c t a v i j k l us good is = rw is refl
value_refused signs.Address c t a v i j k l us good is = rw is refl
value_refused s c t a v i j k l us good is = absurd good

abbrev Typed : Type 0
Typed = (Token × Option Token) × List Token

left_is : (x y : Typed) → done x ≡ done y → y.1 ≡ x.1
left_is x y e = ap (λ (z : Typed). z.1) (sym (ok_is x y e))

value_left : (s : Sign) (c t a v e : List ℕ) (i j k l m : ℕ) (us : List Token) (x : Typed) (b : Bool) → IsOperandSign s → is_constant (tok s v l) ≡ b
    → typed_at (tok signs.Colon c i ∷ tok signs.Name t j ∷ tok signs.Assign a k ∷ tok s v l ∷ tok signs.Semicolon e m ∷ us) ≡ Ok x → x.1 ≡ us
value_left s c t a v e i j k l m us x true good is h = left_is ((tok signs.Name t j, Some (tok s v l)), us) x (sym (value_typed s c t a v e i j k l m us good is) ∙ h)
value_left s c t a v e i j k l m us x false good is h = absurd (no_reading (Err (fault_at (tok s v l))) x (sym (value_refused s c t a v i j k l (tok signs.Semicolon e m ∷ us) good is) ∙ h) tt)

typed_left : (ws : List Word) (ps : List Piece) (x : Typed) → AreTyped ws → typed_at (tokens (pieces ws ps)) ≡ Ok x → x.1 ≡ tokens ps
typed_left [] ps x all h = absurd all
typed_left (c ∷ []) ps x all h = absurd all
typed_left (c ∷ t ∷ []) ps x all h = absurd all
typed_left (c ∷ t ∷ e ∷ []) ps x all h =
    let p = word_lexed signs.Colon c (pieces (t ∷ e ∷ []) ps) all.0 in
    let q = word_lexed signs.Name t (pieces (e ∷ []) ps) all.1 in
    let r = word_lexed signs.Semicolon e ps all.2 in
    let is = p.1 ∙ ap (λ (ts : List Token). tok signs.Colon c.text p.0 ∷ ts) (q.1 ∙ ap (λ (ts : List Token). tok signs.Name t.text q.0 ∷ ts) r.1) in
    left_is ((tok signs.Name t.text q.0, None), tokens ps) x (sym (ap typed_at is ∙ plain_typed c.text t.text e.text p.0 q.0 r.0 (tokens ps)) ∙ h)
typed_left (c ∷ t ∷ a ∷ v ∷ []) ps x all h = absurd all
typed_left (c ∷ t ∷ a ∷ v ∷ e ∷ []) ps x all h =
    let p = word_lexed signs.Colon c (pieces (t ∷ a ∷ v ∷ e ∷ []) ps) all.0 in
    let q = word_lexed signs.Name t (pieces (a ∷ v ∷ e ∷ []) ps) all.1 in
    let r = word_lexed signs.Assign a (pieces (v ∷ e ∷ []) ps) all.2 in
    let o = word_lexed all.3.sign v (pieces (e ∷ []) ps) all.3.is in
    let z = word_lexed signs.Semicolon e ps all.4 in
    let is = p.1 ∙ ap (λ (ts : List Token). tok signs.Colon c.text p.0 ∷ ts) (q.1 ∙ ap (λ (ts : List Token). tok signs.Name t.text q.0 ∷ ts) (r.1 ∙ ap (λ (ts : List Token). tok signs.Assign a.text r.0 ∷ ts) (o.1 ∙ ap (λ (ts : List Token). tok all.3.sign v.text o.0 ∷ ts) z.1))) in
    value_left all.3.sign c.text t.text a.text v.text e.text p.0 q.0 r.0 o.0 z.0 (tokens ps) x (is_constant (tok all.3.sign v.text o.0)) all.3.good refl (sym (ap typed_at is) ∙ h)
typed_left (c ∷ t ∷ a ∷ v ∷ e ∷ y ∷ ys) ps x all h = absurd all

abbrev Declared : Type 0
Declared = DeclarationText × List Token

-- behind the name and what stands in its place
from_names : (w : List ℕ) (n : ℕ) (ts us : List Token) (names : NamesText) (x : Declared) → names_at (skip_breaks ts) ≡ Ok (names, us) → declaration_at (tok signs.Name w n ∷ ts) ≡ Ok x
    → (y : Typed) × (typed_at us ≡ Ok y) × (x.1 ≡ y.1)
unfolding declaration_at expect skip_breaks
from_names w n ts us names x is h =
    let g : (((typed_at us >>= λ y. Ok ((names, y.0), y.1)) >>= λ y. Ok ((tok signs.Name w n, y.0), y.1)) >>= λ y. Ok (declared y.0, y.1)) ≡ Ok x = rw is at h in
    let a = bind_ok ((typed_at us >>= λ y. Ok ((names, y.0), y.1)) >>= λ y. Ok ((tok signs.Name w n, y.0), y.1)) (λ y. Ok (declared y.0, y.1)) x g in
    let b = bind_ok (typed_at us >>= λ y. Ok ((names, y.0), y.1)) (λ y. Ok ((tok signs.Name w n, y.0), y.1)) a.0 a.1 in
    let c = bind_ok (typed_at us) (λ y. Ok ((names, y.0), y.1)) b.0 b.1 in
    (c.0, c.1, ap (λ (y : Declared). y.1) (sym (ok_is (declared a.0.0, a.0.1) x a.2)) ∙ ap (λ (y : (Token × (NamesText × (Token × Option Token))) × List Token). y.1) (sym (ok_is ((tok signs.Name w n, b.0.0), b.0.1) a.0 b.2)) ∙ ap (λ (y : (NamesText × (Token × Option Token)) × List Token). y.1) (sym (ok_is ((names, c.0.0), c.0.1) b.0 c.2)))

no_names : (c : List ℕ) (n : ℕ) (ts : List Token) → names_at (skip_breaks (tok signs.Colon c n ∷ ts)) ≡ Ok (More [], tok signs.Colon c n ∷ ts)
unfolding names_at skip_breaks many many_within ends_names
no_names c n ts = refl

located : (p : List ℕ) (n m : ℕ) (ts : List Token) → names_at (skip_breaks (tok signs.Name (codes "AT") n ∷ tok signs.Address p m ∷ ts)) ≡ Ok (Located (tok signs.Address p m), ts)
unfolding names_at skip_breaks keyword expect spells
located p n m ts = refl

-- a typed declaration begins with a colon
colon_first : (ws : List Word) (ps : List Piece) → AreTyped ws → (w : List ℕ) × (n : ℕ) × (us : List Token) × (tokens (pieces ws ps) ≡ tok signs.Colon w n ∷ us)
colon_first [] ps all = absurd all
colon_first (c ∷ []) ps all = absurd all
colon_first (c ∷ t ∷ []) ps all = absurd all
colon_first (c ∷ t ∷ e ∷ []) ps all = let p = word_lexed signs.Colon c (pieces (t ∷ e ∷ []) ps) all.0 in (c.text, p.0, tokens (pieces (t ∷ e ∷ []) ps), p.1)
colon_first (c ∷ t ∷ a ∷ v ∷ []) ps all = absurd all
colon_first (c ∷ t ∷ a ∷ v ∷ e ∷ []) ps all = let p = word_lexed signs.Colon c (pieces (t ∷ a ∷ v ∷ e ∷ []) ps) all.0 in (c.text, p.0, tokens (pieces (t ∷ a ∷ v ∷ e ∷ []) ps), p.1)
colon_first (c ∷ t ∷ a ∷ v ∷ e ∷ y ∷ ys) ps all = absurd all

at_first : (a p : Word) (ws : List Word) (ps : List Piece) → Is signs.Name a → a.text ≡ codes "AT" → Is signs.Address p
    → (n : ℕ) × (m : ℕ) × (tokens (pieces (a ∷ p ∷ ws) ps) ≡ tok signs.Name (codes "AT") n ∷ tok signs.Address p.text m ∷ tokens (pieces ws ps))
at_first a p ws ps ai at pi =
    let x = word_lexed signs.Name a (pieces (p ∷ ws) ps) ai in
    let y = word_lexed signs.Address p (pieces ws ps) pi in
    (x.0, y.0, x.1 ∙ ap (λ (ts : List Token). tok signs.Name a.text x.0 ∷ ts) y.1 ∙ ap (λ (w : List ℕ). tok signs.Name w x.0 ∷ tok signs.Address p.text y.0 ∷ tokens (pieces ws ps)) at)

-- behind the name of a declaration stands nothing that a line or a declaration begins with
none_begins : (ws : List Word) (ps : List Piece) → AreTyped ws ⊎ AreLocated ws → NoneBegins (tokens (pieces ws ps))
none_begins ws ps (inl all) = inl (colon_first ws ps all)
none_begins [] ps (inr all) = absurd all
none_begins (a ∷ []) ps (inr all) = absurd all
none_begins (a ∷ p ∷ ws) ps (inr all) = let c = at_first a p ws ps all.0 all.1 all.2 in inr (c.0, p.text, c.1, tokens (pieces ws ps), c.2)

-- a declaration that was read is read to its end
words_left : (w : List ℕ) (n : ℕ) (ws : List Word) (ps : List Piece) (x : Declared) → AreTyped ws ⊎ AreLocated ws → declaration_at (tok signs.Name w n ∷ tokens (pieces ws ps)) ≡ Ok x → x.1 ≡ tokens ps
words_left w n ws ps x (inl all) h =
    let c = colon_first ws ps all in
    let f = from_names w n (tokens (pieces ws ps)) (tokens (pieces ws ps)) (More []) x (ap (λ (ts : List Token). names_at (skip_breaks ts)) c.3 ∙ no_names c.0 c.1 c.2 ∙ ap (λ (ts : List Token). Ok (More [], ts)) (sym c.3)) h in
    f.2 ∙ typed_left ws ps f.0 all f.1
words_left w n [] ps x (inr all) h = absurd all
words_left w n (a ∷ []) ps x (inr all) h = absurd all
words_left w n (a ∷ p ∷ ws) ps x (inr all) h =
    let c = at_first a p ws ps all.0 all.1 all.2 in
    let f = from_names w n (tokens (pieces (a ∷ p ∷ ws) ps)) (tokens (pieces ws ps)) (Located (tok signs.Address p.text c.1)) x (ap (λ (ts : List Token). names_at (skip_breaks ts)) c.2 ∙ located p.text c.0 c.1 (tokens (pieces ws ps))) h in
    f.2 ∙ typed_left ws ps f.0 all.3 f.1

-- ---- the declarations of a block

-- what stands where the declarations of a block end: END_VAR and what comes behind the block, or a name that is spelled
-- so, with which no text goes on
pub record EndsBlock (rest : List Token) (ts : List Token) : Type 0 where
  pub word : List ℕ
  pub left : ℕ
  pub behind : List Token
  pub is : skip_breaks ts ≡ tok signs.Name word left ∷ behind
  pub spelled : spells (codes "END_VAR") word ≡ true
  pub stands : (behind ≡ rest) ⊎ NoneBegins behind

abbrev Declarations : Type 0
Declarations = List DeclarationText × List Token

name_solid : (w : List ℕ) (n : ℕ) (ts : List Token) → skip_breaks (tok signs.Name w n ∷ ts) ≡ tok signs.Name w n ∷ ts
unfolding skip_breaks
name_solid w n ts = refl

name_ends : (w : List ℕ) (n : ℕ) (ts : List Token) → ends_block (tok signs.Name w n ∷ ts) ≡ spells (codes "END_VAR") w
unfolding ends_block skip_breaks
name_ends w n ts = refl

break_ends : (n : ℕ) (ts : List Token) → ends_block (brk n ∷ ts) ≡ ends_block ts
unfolding ends_block skip_breaks
break_ends n ts = refl

break_declares : (n : ℕ) (ts : List Token) → declaration_at (brk n ∷ ts) ≡ declaration_at ts
unfolding declaration_at skip_breaks
break_declares n ts = refl

break_skips : (n : ℕ) (ts : List Token) → skip_breaks (brk n ∷ ts) ≡ skip_breaks ts
unfolding skip_breaks
break_skips n ts = refl

abbrev pub declarations_by : ℕ → List Token → Result (List DeclarationText × List Token) FaultAt
declarations_by fuel ts = many_within ends_block declaration_at fuel ts

-- the list stops there
stops_there : (fuel : ℕ) (ts : List Token) (r : Declarations) → ends_block ts ≡ true → declarations_by fuel ts ≡ Ok r → ts ≡ r.1
unfolding many_within
stops_there zero ts r e h = absurd (no_reading (declarations_by zero ts) r h tt)
stops_there (suc fuel) ts r e h = let g : Ok ([], ts) ≡ Ok r = rw e at h in ap (λ (y : Declarations). y.1) (ok_is ([], ts) r g)

-- or one is read, and then the others
goes_there : (fuel : ℕ) (ts : List Token) (r : Declarations) → ends_block ts ≡ false → declarations_by fuel ts ≡ Ok r
    → (p : ℕ) × (x : Declared) × (q : Declarations) × (declaration_at ts ≡ Ok x) × (declarations_by p x.1 ≡ Ok q) × (q.1 ≡ r.1)
unfolding many_within
goes_there zero ts r e h = absurd (no_reading (declarations_by zero ts) r h tt)
goes_there (suc fuel) ts r e h =
    let g : (declaration_at ts >>= λ x. declarations_by fuel x.1 >>= λ xs. Ok (x.0 ∷ xs.0, xs.1)) ≡ Ok r = rw e at h in
    let a = bind_ok (declaration_at ts) (λ x. declarations_by fuel x.1 >>= λ xs. Ok (x.0 ∷ xs.0, xs.1)) r g in
    let b = bind_ok (declarations_by fuel a.0.1) (λ xs. Ok (a.0.0 ∷ xs.0, xs.1)) r a.2 in
    (fuel, a.0, b.0, a.1, b.1, ap (λ (y : Declarations). y.1) (ok_is (a.0.0 ∷ b.0.0, b.0.1) r b.2))

-- END_VAR, and what stands behind it
pub end_is : IsOneToken (codes "END_VAR") signs.Name
unfolding piece_of solid_piece word_piece name_of dotted_len name_parts is_well_spelled
end_is = record { first = 69; others = 78 ∷ 68 ∷ 95 ∷ 86 ∷ 65 ∷ 82 ∷ []; parts = refl; piece = λ (rest : List ℕ). refl }

pub retain_is : IsOneToken (codes "RETAIN") signs.Name
unfolding piece_of solid_piece word_piece name_of dotted_len name_parts is_well_spelled
retain_is = record { first = 82; others = 69 ∷ 84 ∷ 65 ∷ 73 ∷ 78 ∷ []; parts = refl; piece = λ (rest : List ℕ). refl }

end_spelled : spells (codes "END_VAR") (codes "END_VAR") ≡ true
unfolding spells
end_spelled = refl

stops_at : (ts : List Token) → ends_block ts ≡ true → declarations_by 1 ts ≡ Ok ([], ts)
unfolding many_within
stops_at ts e = rw e refl

makes_more : (p : ℕ) (ts : List Token) (x : Declared) (q : Declarations) → ends_block ts ≡ false → declaration_at ts ≡ Ok x → declarations_by p x.1 ≡ Ok q → declarations_by (suc p) ts ≡ Ok (x.0 ∷ q.0, q.1)
unfolding many_within
makes_more p ts x q e is more = rw (e, is, more) refl

-- a line end before them changes nothing
past_break : (fuel n : ℕ) (ts : List Token) (r : Declarations) → declarations_by fuel (brk n ∷ ts) ≡ Ok r → (p : ℕ) × (q : Declarations) × (declarations_by p ts ≡ Ok q) × (skip_breaks r.1 ≡ skip_breaks q.1)
past_break fuel n ts r h = by_end (ends_block ts) refl
  where
    by_end : (b : Bool) → ends_block ts ≡ b → (p : ℕ) × (q : Declarations) × (declarations_by p ts ≡ Ok q) × (skip_breaks r.1 ≡ skip_breaks q.1)
    by_end true e = (1, ([], ts), stops_at ts e, ap skip_breaks (sym (stops_there fuel (brk n ∷ ts) r (break_ends n ts ∙ e) h)) ∙ break_skips n ts)
    by_end false e =
        let g = goes_there fuel (brk n ∷ ts) r (break_ends n ts ∙ e) h in
        (suc g.0, (g.1.0 ∷ g.2.0, g.2.1), makes_more g.0 ts g.1 g.2 e (sym (break_declares n ts) ∙ g.3) g.4, ap skip_breaks (sym g.5))

-- ---- the entries that a block has

abbrev pub from_entries : Bool → ℕ → List Piece → List Entry → List Piece
from_entries kept left ps es = flat_map (kept_pieces kept) es ++ (said_piece (codes "END_VAR") left ∷ line_end left ∷ ps)

ends_here : (rest ts us behind : List Token) (w : List ℕ) (n : ℕ) → ts ≡ us → ts ≡ tok signs.Name w n ∷ behind → spells (codes "END_VAR") w ≡ true → (behind ≡ rest) ⊎ NoneBegins behind → EndsBlock rest us
ends_here rest ts us behind w n e is spelled stands = record {
  word = w;
  left = n;
  behind = behind;
  is = ap skip_breaks (sym e ∙ is) ∙ name_solid w n behind;
  spelled = spelled;
  stands = stands;
}

ends_same : (rest ts us : List Token) → skip_breaks us ≡ skip_breaks ts → EndsBlock rest ts → EndsBlock rest us
ends_same rest ts us e is = record {
  word = is.word;
  left = is.left;
  behind = is.behind;
  is = e ∙ is.is;
  spelled = is.spelled;
  stands = is.stands;
}

pub entry_joined : (e : Entry) (fs ps : List Piece) → (entry_pieces e ++ fs) ++ ps ≡ expansions.piece_of e.name ∷ pieces e.words (line_end e.name.left ∷ (fs ++ ps))
entry_joined e fs ps =
    append_assoc (entry_pieces e) fs ps
    ∙ ap (λ (qs : List Piece). expansions.piece_of e.name ∷ qs) (append_assoc (map expansions.piece_of e.words) (line_end e.name.left ∷ []) (fs ++ ps))

-- one entry, and those behind it
entry_end : (rest : List Token) (e : Entry) (qs : List Piece) (fuel : ℕ) (r : Declarations) → IsEntry e
    → ((p : ℕ) (q : Declarations) → declarations_by p (tokens qs) ≡ Ok q → EndsBlock rest q.1)
    → declarations_by fuel (tokens (expansions.piece_of e.name ∷ pieces e.words (line_end e.name.left ∷ qs))) ≡ Ok r → EndsBlock rest r.1
entry_end rest e qs fuel r is again h = by_test (spells (codes "END_VAR") e.name.text) refl (word_lexed signs.Name e.name (pieces e.words (line_end e.name.left ∷ qs)) is.name)
  where
    by_test : (b : Bool) → spells (codes "END_VAR") e.name.text ≡ b → Begins signs.Name e.name.text (tokens (expansions.piece_of e.name ∷ pieces e.words (line_end e.name.left ∷ qs))) (tokens (pieces e.words (line_end e.name.left ∷ qs))) → EndsBlock rest r.1
    by_test true spelled a =
        let ts = tokens (expansions.piece_of e.name ∷ pieces e.words (line_end e.name.left ∷ qs)) in
        ends_here rest ts r.1 (tokens (pieces e.words (line_end e.name.left ∷ qs))) e.name.text a.0 (stops_there fuel ts r (ap ends_block a.1 ∙ name_ends e.name.text a.0 (tokens (pieces e.words (line_end e.name.left ∷ qs))) ∙ spelled) h) a.1 spelled
        (inr (none_begins e.words (line_end e.name.left ∷ qs) is.words))
    by_test false spelled a =
        let ts = tokens (expansions.piece_of e.name ∷ pieces e.words (line_end e.name.left ∷ qs)) in
        let us = tokens (pieces e.words (line_end e.name.left ∷ qs)) in
        let g = goes_there fuel ts r (ap ends_block a.1 ∙ name_ends e.name.text a.0 us ∙ spelled) h in
        let left = words_left e.name.text a.0 e.words (line_end e.name.left ∷ qs) g.1 is.words (sym (ap declaration_at a.1) ∙ g.3) in
        let c = end_lexed e.name.left qs in
        let b = past_break g.0 c.0 (tokens qs) g.2 (sym (ap (declarations_by g.0) (left ∙ c.1)) ∙ g.4) in
        subst (EndsBlock rest) g.5 (ends_same rest b.1.1 g.2.1 b.3 (again b.0 b.1 b.2))

declarations_end : (kept : Bool) (left : ℕ) (ps : List Piece) (es : List Entry) (fuel : ℕ) (r : Declarations) → AllByRecursion IsEntry es → declarations_by fuel (tokens (from_entries kept left ps es)) ≡ Ok r
    → EndsBlock (tokens (line_end left ∷ ps)) r.1
declarations_end kept left ps [] fuel r all h =
    let a = word_lexed signs.Name (said (codes "END_VAR") left) (line_end left ∷ ps) end_is in
    let ts = tokens (from_entries kept left ps []) in
    ends_here (tokens (line_end left ∷ ps)) ts r.1 (tokens (line_end left ∷ ps)) (codes "END_VAR") a.0 (stops_there fuel ts r (ap ends_block a.1 ∙ name_ends (codes "END_VAR") a.0 (tokens (line_end left ∷ ps)) ∙ end_spelled) h) a.1 end_spelled (inl refl)
declarations_end kept left ps (e ∷ es) fuel r all h = by_kept (kept_as kept e) (λ (p : ℕ) (q : Declarations). declarations_end kept left ps es p q all.1) h
  where
    by_kept : (b : Bool) → ((p : ℕ) (q : Declarations) → declarations_by p (tokens (from_entries kept left ps es)) ≡ Ok q → EndsBlock (tokens (line_end left ∷ ps)) q.1)
        → declarations_by fuel (tokens (((if b then entry_pieces e else []) ++ flat_map (kept_pieces kept) es) ++ (said_piece (codes "END_VAR") left ∷ line_end left ∷ ps))) ≡ Ok r → EndsBlock (tokens (line_end left ∷ ps)) r.1
    by_kept false again h = again fuel r h
    by_kept true again h =
        entry_end (tokens (line_end left ∷ ps)) e (from_entries kept left ps es) fuel r all.0 again
        (sym (ap (λ (qs : List Piece). declarations_by fuel (tokens qs)) (entry_joined e (flat_map (kept_pieces kept) es) (said_piece (codes "END_VAR") left ∷ line_end left ∷ ps))) ∙ h)

-- ---- a block

keyword_there : (w : List ℕ) (n : ℕ) (ts : List Token) → spells (codes "END_VAR") w ≡ true → keyword (codes "END_VAR") (tok signs.Name w n ∷ ts) ≡ Ok (tt, ts)
unfolding keyword
keyword_there w n ts e = rw e refl

-- what is read behind the qualifier
declared_end : (rest ts : List Token) (d : Declarations) → ((p : ℕ) (q : Declarations) → declarations_by p ts ≡ Ok q → EndsBlock rest q.1) → declared_at ts ≡ Ok d → (d.1 ≡ rest) ⊎ NoneBegins d.1
unfolding declared_at many
declared_end rest ts d ends h =
    let a = bind_ok (declarations_by (suc (length ts)) ts) (λ x. keyword (codes "END_VAR") (skip_breaks x.1) >>= λ u. Ok (x.0, u.1)) d h in
    let b = bind_ok (keyword (codes "END_VAR") (skip_breaks a.0.1)) (λ u. Ok (a.0.0, u.1)) d a.2 in
    let s = ends (suc (length ts)) a.0 a.1 in
    let u : (tt, s.behind) ≡ b.0 = ok_is (tt, s.behind) b.0 (sym (ap (keyword (codes "END_VAR")) s.is ∙ keyword_there s.word s.left s.behind s.spelled) ∙ b.1) in
    let e : s.behind ≡ d.1 = ap (λ (x : Unit {0} × List Token). x.1) u ∙ ap (λ (x : Declarations). x.1) (ok_is (a.0.0, b.0.1) d b.2) in
    subst (λ (us : List Token). (us ≡ rest) ⊎ NoneBegins us) e s.stands

abbrev Qualified : Type 0
Qualified = Option Qualifier × List Token

block_parted : (n : ℕ) (ts : List Token) (x : BlockText × List Token) → block_at dialects.Extended (tok signs.Name (codes "VAR_GLOBAL") n ∷ ts) ≡ Ok x
    → (q : Qualified) × (d : Declarations) × (qualifier_at dialects.Extended (skip_breaks ts) ≡ Ok q) × (declared_at q.1 ≡ Ok d) × (d.1 ≡ x.1)
unfolding block_at keyword skip_breaks spells
block_parted n ts x h =
    let a = bind_ok (qualifier_at dialects.Extended (skip_breaks ts) >>= λ q. declared_at q.1 >>= λ d. Ok ((q.0, d.0), d.1)) (λ y. Ok (record { qualifier = y.0.0; declarations = y.0.1 }, y.1)) x h in
    let b = bind_ok (qualifier_at dialects.Extended (skip_breaks ts)) (λ q. declared_at q.1 >>= λ d. Ok ((q.0, d.0), d.1)) a.0 a.1 in
    let c = bind_ok (declared_at b.0.1) (λ d. Ok ((b.0.0, d.0), d.1)) a.0 b.2 in
    (b.0, c.0, b.1, c.1, ap (λ (y : (Option Qualifier × List DeclarationText) × List Token). y.1) (ok_is ((b.0.0, c.0.0), c.0.1) a.0 c.2) ∙ ap (λ (y : BlockText × List Token). y.1) (ok_is (record { qualifier = a.0.0.0; declarations = a.0.0.1 }, a.0.1) x a.2))

retain_there : (n : ℕ) (ts : List Token) → qualifier_at dialects.Extended (skip_breaks (tok signs.Name (codes "RETAIN") n ∷ ts)) ≡ Ok (Some qualifiers.Retain, ts)
unfolding qualifier_at either_qualifier_at keyword skip_breaks spells
retain_there n ts = refl

-- no qualifier, or a word that is spelled so
qualifier_left : (w : List ℕ) (n : ℕ) (ts : List Token) (q : Qualified) (b c : Bool) → spells (codes "RETAIN") w ≡ b → spells (codes "NON_RETAIN") w ≡ c → qualifier_at dialects.Extended (skip_breaks (tok signs.Name w n ∷ ts)) ≡ Ok q
    → (q.1 ≡ tok signs.Name w n ∷ ts) ⊎ ((q.1 ≡ ts) × ((b || c) ≡ true))
unfolding qualifier_at either_qualifier_at keyword skip_breaks
qualifier_left w n ts q true c r s h = inr (let g : Ok (Some qualifiers.Retain, ts) ≡ Ok q = rw r at h in ap (λ (y : Qualified). y.1) (sym (ok_is (Some qualifiers.Retain, ts) q g)), refl)
qualifier_left w n ts q false true r s h = inr (let g : Ok (Some qualifiers.NonRetain, ts) ≡ Ok q = rw (r, s) at h in ap (λ (y : Qualified). y.1) (sym (ok_is (Some qualifiers.NonRetain, ts) q g)), refl)
qualifier_left w n ts q false false r s h = inl (let g : Ok (None, tok signs.Name w n ∷ ts) ≡ Ok q = rw (r, s) at h in ap (λ (y : Qualified). y.1) (sym (ok_is (None, tok signs.Name w n ∷ ts) q g)))

none_declared : (ts : List Token) (d : Declarations) → NoneBegins ts → declared_at ts ≡ Ok d → ⊥
unfolding declared_at many many_within ends_block declaration_at expect skip_breaks names_at ends_names spells
none_declared ts d (inl c) h = no_reading (declared_at (tok signs.Colon c.0 c.1 ∷ c.2)) d (sym (ap declared_at c.3) ∙ h) tt
none_declared ts d (inr c) h = no_reading (declared_at (tok signs.Name (codes "AT") c.0 ∷ tok signs.Address c.1 c.2 ∷ c.3)) d (sym (ap declared_at c.4) ∙ h) tt

-- END_VAR, or the name of an entry
record FirstIs (ts : List Token) : Type 0 where
  word : List ℕ
  left : ℕ
  behind : List Token
  is : ts ≡ tok signs.Name word left ∷ behind
  stands : (word ≡ codes "END_VAR") ⊎ NoneBegins behind

first_is : (kept : Bool) (left : ℕ) (ps : List Piece) (es : List Entry) → AllByRecursion IsEntry es → FirstIs (tokens (from_entries kept left ps es))
first_is kept left ps [] all =
    let a = word_lexed signs.Name (said (codes "END_VAR") left) (line_end left ∷ ps) end_is in
    record { word = codes "END_VAR"; left = a.0; behind = tokens (line_end left ∷ ps); is = a.1; stands = inl refl }
first_is kept left ps (e ∷ es) all = by_kept (kept_as kept e) (first_is kept left ps es all.1)
  where
    by_kept : (b : Bool) → FirstIs (tokens (from_entries kept left ps es)) → FirstIs (tokens (((if b then entry_pieces e else []) ++ flat_map (kept_pieces kept) es) ++ (said_piece (codes "END_VAR") left ∷ line_end left ∷ ps)))
    by_kept false again = again
    by_kept true again =
        let qs = pieces e.words (line_end e.name.left ∷ from_entries kept left ps es) in
        let a = word_lexed signs.Name e.name qs all.0.name in
        record {
          word = e.name.text;
          left = a.0;
          behind = tokens qs;
          is = ap tokens (entry_joined e (flat_map (kept_pieces kept) es) (said_piece (codes "END_VAR") left ∷ line_end left ∷ ps)) ∙ a.1;
          stands = inr (none_begins e.words (line_end e.name.left ∷ from_entries kept left ps es) all.0.words);
        }

end_no_qualifier : (w : List ℕ) → w ≡ codes "END_VAR" → (spells (codes "RETAIN") w || spells (codes "NON_RETAIN") w) ≡ false
unfolding spells
end_no_qualifier w e = ap (λ (v : List ℕ). spells (codes "RETAIN") v || spells (codes "NON_RETAIN") v) e

-- the qualifier of a block that isn't retained
unqualified : (ts : List Token) (f : FirstIs ts) (q : Qualified) (d : Declarations) → qualifier_at dialects.Extended (skip_breaks ts) ≡ Ok q → declared_at q.1 ≡ Ok d → q.1 ≡ ts
unqualified ts f q d h g =
    by_left (qualifier_left f.word f.left f.behind q (spells (codes "RETAIN") f.word) (spells (codes "NON_RETAIN") f.word) refl refl (sym (ap (λ (us : List Token). qualifier_at dialects.Extended (skip_breaks us)) f.is) ∙ h)) f.stands
  where
    by_left : (q.1 ≡ tok signs.Name f.word f.left ∷ f.behind) ⊎ ((q.1 ≡ f.behind) × ((spells (codes "RETAIN") f.word || spells (codes "NON_RETAIN") f.word) ≡ true)) → (f.word ≡ codes "END_VAR") ⊎ NoneBegins f.behind → q.1 ≡ ts
    by_left (inl e) stands = e ∙ sym f.is
    by_left (inr e) (inl end) = absurd (no_stop (spells (codes "RETAIN") f.word || spells (codes "NON_RETAIN") f.word) e.1 (end_no_qualifier f.word end))
    by_left (inr e) (inr none) = absurd (none_declared f.behind d none (sym (ap declared_at e.0) ∙ g))

-- a block that was read is read to its end, or to where no text goes on
abbrev pub ReadToEnd : List Token → List Token → Type 0
ReadToEnd rest ts = (ts ≡ rest) ⊎ NoneBegins ts

pub retained_read : (left : ℕ) (es : List Entry) (ps : List Piece) (n : ℕ) (x : BlockText × List Token) → AllByRecursion IsEntry es
    → block_at dialects.Extended (tok signs.Name (codes "VAR_GLOBAL") n ∷ tokens (said_piece (codes "RETAIN") left ∷ line_end left ∷ from_entries true left ps es)) ≡ Ok x → ReadToEnd (tokens (line_end left ∷ ps)) x.1
retained_read left es ps n x all h =
    let rest = tokens (line_end left ∷ ps) in
    let qs = from_entries true left ps es in
    let a = word_lexed signs.Name (said (codes "RETAIN") left) (line_end left ∷ qs) retain_is in
    let c = end_lexed left qs in
    let b = block_parted n (tokens (said_piece (codes "RETAIN") left ∷ line_end left ∷ qs)) x h in
    let q : (Some qualifiers.Retain, tokens (line_end left ∷ qs)) ≡ b.0 = ok_is (Some qualifiers.Retain, tokens (line_end left ∷ qs)) b.0 (sym (ap (λ (us : List Token). qualifier_at dialects.Extended (skip_breaks us)) a.1 ∙ retain_there a.0 (tokens (line_end left ∷ qs))) ∙ b.2) in
    let there : b.0.1 ≡ brk c.0 ∷ tokens qs = ap (λ (y : Qualified). y.1) (sym q) ∙ c.1 in
    let d = declared_end rest (brk c.0 ∷ tokens qs) b.1
    (λ (p : ℕ) (r : Declarations) (e : declarations_by p (brk c.0 ∷ tokens qs) ≡ Ok r).
    let s = past_break p c.0 (tokens qs) r e in
    ends_same rest s.1.1 r.1 s.3 (declarations_end true left ps es s.0 s.1 all s.2))
    (sym (ap declared_at there) ∙ b.3) in
    subst (ReadToEnd rest) b.4 d

pub other_read : (left : ℕ) (es : List Entry) (ps : List Piece) (n : ℕ) (x : BlockText × List Token) → AllByRecursion IsEntry es
    → block_at dialects.Extended (tok signs.Name (codes "VAR_GLOBAL") n ∷ tokens (line_end left ∷ from_entries false left ps es)) ≡ Ok x → ReadToEnd (tokens (line_end left ∷ ps)) x.1
other_read left es ps n x all h =
    let rest = tokens (line_end left ∷ ps) in
    let qs = from_entries false left ps es in
    let c = end_lexed left qs in
    let b = block_parted n (tokens (line_end left ∷ qs)) x h in
    let f = first_is false left ps es all in
    let there : b.0.1 ≡ tokens qs = unqualified (tokens qs) f b.0 b.1 (sym (ap skip_breaks_then c.1 ∙ skipped c.0 (tokens qs)) ∙ b.2) b.3 in
    let d = declared_end rest (tokens qs) b.1 (λ (p : ℕ) (r : Declarations) (e : declarations_by p (tokens qs) ≡ Ok r). declarations_end false left ps es p r all e) (sym (ap declared_at there) ∙ b.3) in
    subst (ReadToEnd rest) b.4 d
  where
    skip_breaks_then : List Token → Result Qualified FaultAt
    skip_breaks_then us = qualifier_at dialects.Extended (skip_breaks us)

    skipped : (k : ℕ) (us : List Token) → skip_breaks_then (brk k ∷ us) ≡ skip_breaks_then us
    skipped k us = ap (qualifier_at dialects.Extended) (break_skips k us)
