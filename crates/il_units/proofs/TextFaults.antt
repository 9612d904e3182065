-- Where the fault of a text of units stands, and that it stands nowhere else.
use Rattle.std.proofs.Common.{◌≡◌, ℕ, zero, suc, ◌-◌, length, Bool, true, false, List, [], ◌∷◌, ◌++◌, Option, Some, None, Result, Ok, Err, refl, sym, ap, subst, ◌∙◌, arith, append_assoc, ◌⊎◌, inl, inr}
use Rattle.std.specs.Prelude.{nat_lt}
use Rattle.std.specs.List.{AllByRecursion}
use Rattle.std.proofs.lemmas.List.{append-nil}
use Rattle.std.proofs.lemmas.Bool.{le-ltb, lt-ltb, ltb-true, ltb-false}
use Rattle.il_model.specs.declared.dialect.Dialect.TheVariants as dialects
use Rattle.il_reader.specs.declared.source.TheConstants.{EXTENDED_TEXT_LIMIT}
use Rattle.il_reader.specs.declared.fault.FaultAt.{FaultAt}
use Rattle.il_reader.specs.declared.fault.Fault.{Fault}
use Rattle.il_reader.specs.declared.fault.ReadError.{ReadError}
use Rattle.il_reader.specs.declared.fault.ReadError.TheVariants as errors
use Rattle.il_reader.specs.declared.lexeme.Class.{Class}
use Rattle.il_reader.specs.declared.lexeme.Class.TheVariants as classes
use Rattle.il_reader.specs.Tokens.{Token, put, piece_of, tokens_behind, tokens_of}
use Rattle.il_reader.specs.Front.{first, others, fault_at}
use Rattle.il_reader.specs.Reading.{◌>>=◌, Reading, both, pair, closed, past, many, mapped}
use Rattle.il_reader.specs.Grammar.{begins_program}
use Rattle.il_reader.specs.Spelling.{Spell}
use Rattle.il_reader.specs.Walk.{end_at}
use Rattle.il_reader.specs.Texts.{placed, too_long}
use Rattle.il_reader.proofs.Laws.{bind_ok}
use Rattle.il_reader.proofs.Checks.{GoesOn, good, bad, followed, FirstAt}
use Rattle.il_units.specs.Units.{UnitText, UnitsText}
use Rattle.il_units.specs.Spelling.{spelled_units, SaysUnits}
use Rattle.il_units.specs.Walk.{unit_at, put_last, units_at, units_of, told, read_units}
use Rattle.il_units.specs.Reading.{Answers}
use Rattle.il_units.specs.FirstFault.{AreUnits, Begins, IsCompleted, IsUnitsFaultAt, IsPlacedFault, IsUnitsFaultOf, TellsFirst, IsTold}
use Rattle.il_units.proofs.Grammar.{units_law}
use Rattle.il_units.proofs.FirstFaults.{ext, final, units_exact}
use Rattle.il_units.proofs.Said.{says_what_is_read, reads_what_is_said}

false_true : false ≡ true → ⊥
false_true e = absurd cc

good_is_bad : (f : FaultAt) → good ≡ bad f → ⊥
good_is_bad f e = absurd cc

-- behind the last token of a text nothing may follow

put_ends : (o : Option Class) (text : List ℕ) (left : ℕ) (ts : List Token) → (AllByRecursion GoesOn ts → ⊥) → AllByRecursion GoesOn (put o text left ts) → ⊥
put_ends None text left ts more h = more h
put_ends (Some classes.End) text left ts more h = false_true h.0
put_ends (Some (classes.Broken f)) text left ts more h = false_true h.0
put_ends (Some (classes.Sign s)) text left ts more h = more h.1

text_ends : (k : ℕ) (bytes : List ℕ) → AllByRecursion GoesOn (tokens_behind ext k bytes) → ⊥
unfolding tokens_behind
text_ends k [] h = false_true h.0
text_ends (suc k) (b ∷ bs) h = text_ends k bs h
text_ends zero (b ∷ bs) h = put_ends (piece_of ext (b ∷ bs)).class _ _ _ (text_ends ((piece_of ext (b ∷ bs)).len - 1) bs) h

-- ---- where the fault stands by the checks, it stands by the grammar

abbrev parted_at : Reading (List UnitText × UnitText)
parted_at = pair (many begins_program (unit_at ext)) (closed (unit_at ext) (past end_at))

abbrev together : (List UnitText × UnitText) × List Token → Result (List UnitText × List Token) FaultAt
together x = Ok (put_last x.0, x.1)

abbrev goes : List UnitText × List Token → Result (Unit {0}) FaultAt
goes x = final x.1

read_good : (r : Result ((List UnitText × UnitText) × List Token) FaultAt) → ((r >>= together) >>= goes) ≡ good → (x : (List UnitText × UnitText) × List Token) × (r ≡ Ok x)
read_good (Ok x) e = (x, refl)
read_good (Err f) e = absurd cc

completed : (before : List Token) (more : List ℕ) → followed (units_at ext) final (before ++ tokens_of ext more) ≡ good → IsCompleted before
unfolding units_at
completed before more e =
    let ts : List Token = before ++ tokens_of ext more in
    let x = read_good (parted_at ts) e in
    (more, (x.0.0.0, x.0.0.1, x.0.1, ((units_law ext).takes ts x.0 x.1).1))

-- what says units is read
units_read : (ts : List Token) → AreUnits ts → followed (units_at ext) final ts ≡ good
unfolding units_at
units_read ts u = rw ((units_law ext).again (both u.0 u.1) ts u.2 (both tt tt) u.3) refl

not_begun : (before : List Token) (t : Token) (f : FaultAt) → ((us : List Token) → followed (units_at ext) final (before ++ t ∷ us) ≡ bad f) → Begins (before ++ t ∷ []) → ⊥
not_begun before t f never b =
    let joined : (before ++ t ∷ []) ++ b.0 ≡ before ++ t ∷ b.0 = append_assoc before (t ∷ []) b.0 in
    good_is_bad f (sym (units_read ((before ++ t ∷ []) ++ b.0) b.1) ∙ ap (followed (units_at ext) final) joined ∙ never b.0)

at_a_token : (text : List ℕ) (f : FaultAt) → FirstAt ext (followed (units_at ext) final) (tokens_of ext text) f → IsUnitsFaultAt text f
at_a_token text f p = by_rest p.before p.rest p.parts p.inner p.fault (completed p.before p.more p.completes) p.never
  where
    by_rest : (before rest : List Token) → before ++ rest ≡ tokens_of ext text → AllByRecursion GoesOn before → f ≡ fault_at (first rest) → IsCompleted before
        → ((us : List Token) → followed (units_at ext) final (before ++ first rest ∷ us) ≡ bad f) → IsUnitsFaultAt text f
    by_rest before [] parts inner fault begun never =
        let P : List Token → Type 0 = λ ts. AllByRecursion GoesOn ts in
        absurd (text_ends 0 text (subst P (sym (append-nil before) ∙ parts) inner))
    by_rest before (t ∷ after) parts inner fault begun never = record { before = before; at = t; after = after; parts = parts; fault = fault; begun = begun; not_begun = not_begun before t f never }

refused_by : (r : Result (List UnitText × List Token) FaultAt) (f : FaultAt) → (r >>= λ x. Ok x.0) ≡ Err f → r ≡ Err f
refused_by (Ok x) f e = absurd cc
refused_by (Err g) f e = cc

stands : (text : List ℕ) (f : FaultAt) → units_of text ≡ Err f → IsUnitsFaultAt text f
unfolding units_of
stands text f h =
    let refused : units_at ext (tokens_of ext text) ≡ Err f = refused_by (units_at ext (tokens_of ext text)) f h in
    at_a_token text f ((units_exact (suc (length (tokens_of ext text)))).placed (tokens_of ext text) f (omega arith) (rw refused refl))

-- ---- at one place

-- of two ways to part a list they are the same, or the one is a beginning of the other
split_cases : (xs ys us vs : List Token) → xs ++ ys ≡ us ++ vs → (ys ≡ vs) ⊎ (((c : List Token) × (us ≡ xs ++ first ys ∷ c)) ⊎ ((c : List Token) × (xs ≡ us ++ first vs ∷ c)))
split_cases [] ys [] vs e = inl e
split_cases [] ys (u ∷ us) vs e = inr (inl (us, ap (λ (t : Token). t ∷ us) (sym (ap first e))))
split_cases (x ∷ xs) ys [] vs e = inr (inr (xs, ap (λ (t : Token). t ∷ xs) (ap first e)))
split_cases (x ∷ xs) ys (u ∷ us) vs e = by_others (split_cases xs ys us vs (ap others e))
  where
    same : x ≡ u
    same = ap first e

    by_others : (ys ≡ vs) ⊎ (((c : List Token) × (us ≡ xs ++ first ys ∷ c)) ⊎ ((c : List Token) × (xs ≡ us ++ first vs ∷ c))) → (ys ≡ vs) ⊎ (((c : List Token) × (u ∷ us ≡ x ∷ xs ++ first ys ∷ c)) ⊎ ((c : List Token) × (x ∷ xs ≡ u ∷ us ++ first vs ∷ c)))
    by_others (inl h) = inl h
    by_others (inr (inl h)) = inr (inl (h.0, ap (λ (ts : List Token). u ∷ ts) h.1 ∙ ap (λ (t : Token). t ∷ xs ++ first ys ∷ h.0) (sym same)))
    by_others (inr (inr h)) = inr (inr (h.0, ap (λ (ts : List Token). x ∷ ts) h.1 ∙ ap (λ (t : Token). t ∷ us ++ first vs ∷ h.0) same))

-- what is begun, all that stands before it begins
farther_begins : (xs c whole : List Token) (t : Token) → whole ≡ xs ++ t ∷ c → IsCompleted whole → Begins (xs ++ t ∷ [])
farther_begins xs c whole t e b =
    let ts : List Token = tokens_of ext b.0 in
    let joined : whole ++ ts ≡ (xs ++ t ∷ []) ++ (c ++ ts) = ap (λ (us : List Token). us ++ ts) e ∙ append_assoc xs (t ∷ c) ts ∙ sym (append_assoc xs (t ∷ []) (c ++ ts)) in
    let P : List Token → Type 0 = λ us. AreUnits us in
    (c ++ ts, subst P joined b.1)

one_place : (text : List ℕ) (f g : FaultAt) → IsUnitsFaultAt text f → IsUnitsFaultAt text g → f ≡ g
one_place text f g a b = by_parts (split_cases a.before (a.at ∷ a.after) b.before (b.at ∷ b.after) (a.parts ∙ sym b.parts))
  where
    by_parts : (a.at ∷ a.after ≡ b.at ∷ b.after) ⊎ (((c : List Token) × (b.before ≡ a.before ++ a.at ∷ c)) ⊎ ((c : List Token) × (a.before ≡ b.before ++ b.at ∷ c))) → f ≡ g
    by_parts (inl h) = a.fault ∙ ap (λ (ts : List Token). fault_at (first ts)) h ∙ sym b.fault
    by_parts (inr (inl h)) = absurd (a.not_begun (farther_begins a.before h.0 b.before a.at h.1 b.begun))
    by_parts (inr (inr h)) = absurd (b.not_begun (farther_begins b.before h.0 a.before b.at h.1 a.begun))

-- a text with a fault is not read
not_read : (text : List ℕ) (f : FaultAt) (us : List UnitText) → IsUnitsFaultAt text f → units_of text ≡ Ok us → ⊥
unfolding units_of units_at
not_read text f us a is =
    let ts : List Token = tokens_of ext text in
    let m = bind_ok (units_at ext ts) (λ x. Ok x.0) us is in
    let n = bind_ok (parted_at ts) together m.0 m.1 in
    let P : List Token → Type 0 = λ us. AreUnits us in
    let joined : ts ≡ (a.before ++ a.at ∷ []) ++ a.after = sym a.parts ∙ sym (append_assoc a.before (a.at ∷ []) a.after) in
    let said : AreUnits ts = (n.0.0.0, n.0.0.1, n.0.1, ((units_law ext).takes ts n.0 n.1).1) in
    a.not_begun (a.after, subst P joined said)

refuses : (text : List ℕ) (f : FaultAt) → IsUnitsFaultAt text f → units_of text ≡ Err f
refuses text f a = by_result (units_of text) refl
  where
    by_result : (r : Result (List UnitText) FaultAt) → units_of text ≡ r → units_of text ≡ Err f
    by_result (Ok us) is = absurd (not_read text f us a is)
    by_result (Err g) is = is ∙ ap (λ (h : FaultAt). Err h) (one_place text g f (stands text g is) a)

-- ---- with its line and column, be the text too long or not

abbrev as_refused : Fault → Result (List UnitText) Fault
as_refused g = Err g

same_fault : (f g : Fault) → as_refused f ≡ as_refused g → f ≡ g
same_fault f g e = cc

told_fault : (text : List ℕ) (r : Result (List UnitText) FaultAt) (g : Fault) → told text r ≡ Err g → (f : FaultAt) × (g ≡ placed text f) × (r ≡ Err f)
told_fault text (Ok us) g e = absurd cc
told_fault text (Err f) g e = (f, sym (same_fault (placed text f) g e), refl)

placed_fault : (text : List ℕ) (g : Fault) → nat_lt EXTENDED_TEXT_LIMIT (length text) ≡ false → read_units text ≡ Err g → IsPlacedFault text g
placed_fault text g fits e = let t = told_fault text (units_of text) g (rw fits at e) in (t.0, t.1, stands text t.0 t.2)

is_fault : (text : List ℕ) (g : Fault) → read_units text ≡ Err g → IsUnitsFaultOf text g
is_fault text g e = by_length (nat_lt EXTENDED_TEXT_LIMIT (length text)) refl
  where
    by_length : (b : Bool) → nat_lt EXTENDED_TEXT_LIMIT (length text) ≡ b → IsUnitsFaultOf text g
    by_length true over = inl (ltb-true EXTENDED_TEXT_LIMIT (length text) over, sym (same_fault too_long g (rw over at e)))
    by_length false fits = inr (ltb-false EXTENDED_TEXT_LIMIT (length text) fits, placed_fault text g fits e)

fault_told : (text : List ℕ) (g : Fault) → IsUnitsFaultOf text g → read_units text ≡ Err g
fault_told text g (inl h) = rw (lt-ltb EXTENDED_TEXT_LIMIT (length text) h.0) (ap as_refused (sym h.1))
fault_told text g (inr h) = rw (le-ltb EXTENDED_TEXT_LIMIT (length text) h.0) (rw (refuses text h.1.0 h.1.2) (ap as_refused (sym h.1.1)))

-- ---- the clauses of `read`

pub refused_first : (text : List ℕ) (r : Result UnitsText ReadError) → Answers text r (read_units text) → TellsFirst text r
refused_first text (Ok s) a = tt
refused_first text (Err errors.Memory) a = tt
refused_first text (Err (errors.Fault g)) a = is_fault text g a

pub told_first : (text : List ℕ) (r : Result UnitsText ReadError) → Answers text r (read_units text) → IsTold text r
told_first text r a = λ g is. subst (λ (read : Result (List UnitText) Fault). Answers text r read) (fault_told text g is) a

-- ---- a text of units is read, or it has a fault

abbrev as_units : List UnitText → Result (List UnitText) Fault
as_units us = Ok us

same_units : (us vs : List UnitText) → as_units us ≡ as_units vs → us ≡ vs
same_units us vs e = cc

differs : (us : List UnitText) (g : Fault) → as_units us ≡ as_refused g → ⊥
differs us g e = cc

pub one_units : (text : List ℕ) (us vs : List UnitText) → SaysUnits text us → SaysUnits text vs → us ≡ vs
one_units text us vs a b = same_units us vs (sym (reads_what_is_said text us a) ∙ reads_what_is_said text vs b)

pub one_fault : (text : List ℕ) (f g : Fault) → IsUnitsFaultOf text f → IsUnitsFaultOf text g → f ≡ g
one_fault text f g a b = same_fault f g (sym (fault_told text f a) ∙ fault_told text g b)

pub never_both : (text : List ℕ) (us : List UnitText) (g : Fault) → SaysUnits text us → IsUnitsFaultOf text g → ⊥
never_both text us g a b = differs us g (sym (reads_what_is_said text us a) ∙ fault_told text g b)

pub one_of_both : (text : List ℕ) → ((us : List UnitText) × SaysUnits text us) ⊎ ((g : Fault) × IsUnitsFaultOf text g)
one_of_both text = by_result (read_units text) refl
  where
    by_result : (r : Result (List UnitText) Fault) → read_units text ≡ r → ((us : List UnitText) × SaysUnits text us) ⊎ ((g : Fault) × IsUnitsFaultOf text g)
    by_result (Ok us) e = inl (us, says_what_is_read text us e)
    by_result (Err g) e = inr (g, is_fault text g e)
