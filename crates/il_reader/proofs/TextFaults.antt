-- Where the fault of a text stands, and that it stands nowhere else.
use Rattle.std.proofs.Common.{◌≡◌, ℕ, zero, suc, ◌-◌, length, Bool, true, false, List, [], ◌∷◌, ◌++◌, Option, Some, None, Result, Ok, Err, refl, sym, ap, subst, ◌∙◌, append_assoc, ◌⊎◌, inl, inr}
use Rattle.std.specs.Prelude.{◌↔◌, nat_lt}
use Rattle.std.specs.List.{AllByRecursion}
use Rattle.std.proofs.lemmas.List.{append-nil}
use Rattle.std.proofs.lemmas.Bool.{le-ltb, lt-ltb, ltb-true, ltb-false}
use Rattle.il_model.specs.declared.dialect.Dialect.{Dialect}
use Rattle.il_reader.specs.declared.fault.FaultAt.{FaultAt}
use Rattle.il_reader.specs.declared.fault.Fault.{Fault}
use Rattle.il_reader.specs.declared.fault.ReadError.{ReadError}
use Rattle.il_reader.specs.declared.fault.ReadError.TheVariants as errors
use Rattle.il_reader.specs.declared.lexeme.Class.{Class}
use Rattle.il_reader.specs.declared.lexeme.Class.TheVariants as classes
use Rattle.il_reader.specs.Tokens.{Token, put, piece_of, tokens_behind, tokens_of}
use Rattle.il_reader.specs.Front.{first, others, fault_at}
use Rattle.il_reader.specs.Reading.{◌>>=◌}
use Rattle.il_reader.specs.Grammar.{dialect_of, ProgramText}
use Rattle.il_reader.specs.Walk.{text_of, program_at, told, source_of}
use Rattle.il_reader.specs.Spelling.{Spell, spelled_program}
use Rattle.il_reader.specs.Texts.{SourceText, IsSource, Reads, placed, too_long, text_limit, Answers}
use Rattle.il_reader.specs.FirstFault.{Begins, IsCompleted, StandsAt, IsTextFault, IsSourceFault, IsFaultOf, TellsFirst}
use Rattle.il_reader.proofs.Laws.{bind_ok}
use Rattle.il_reader.proofs.Programs.{program_law}
use Rattle.il_reader.proofs.Complete.{said, is_read}
use Rattle.il_reader.proofs.Checks.{GoesOn}
use Rattle.il_reader.proofs.FirstFaults.{Placed, place_of}

false_true : false ≡ true → ⊥
false_true e = absurd cc

-- behind the last token of a text nothing may follow

put_ends : (o : Option Class) (text : List ℕ) (left : ℕ) (ts : List Token) → (AllByRecursion GoesOn ts → ⊥) → AllByRecursion GoesOn (put o text left ts) → ⊥
put_ends None text left ts more h = more h
put_ends (Some classes.End) text left ts more h = false_true h.0
put_ends (Some (classes.Broken f)) text left ts more h = false_true h.0
put_ends (Some (classes.Sign s)) text left ts more h = more h.1

text_ends : (dialect : Dialect) → (k : ℕ) (bytes : List ℕ) → AllByRecursion GoesOn (tokens_behind dialect k bytes) → ⊥
unfolding tokens_behind
text_ends dialect k [] h = false_true h.0
text_ends dialect (suc k) (b ∷ bs) h = text_ends dialect k bs h
text_ends dialect zero (b ∷ bs) h = put_ends (piece_of dialect (b ∷ bs)).class _ _ _ (text_ends dialect ((piece_of dialect (b ∷ bs)).len - 1) bs) h

-- so the fault of a text stands at one of its tokens
at_a_token : (dialect : Dialect) → (bytes : List ℕ) (f : FaultAt) → Placed dialect (tokens_of dialect bytes) f → IsTextFault dialect bytes f
at_a_token dialect bytes f p = by_rest p.before p.rest p.parts p.inner p.stands
  where
    by_rest : (before rest : List Token) → before ++ rest ≡ tokens_of dialect bytes → AllByRecursion GoesOn before → StandsAt dialect before (first rest) f → IsTextFault dialect bytes f
    by_rest before [] parts inner stands =
        let P : List Token → Type 0 = λ ts. AllByRecursion GoesOn ts in
        absurd (text_ends dialect 0 bytes (subst P (sym (append-nil before) ∙ parts) inner))
    by_rest before (t ∷ after) parts inner stands = record { before = before; at = t; after = after; parts = parts; stands = stands }

refused_by : (r : Result (ProgramText × List Token) FaultAt) (f : FaultAt) → (r >>= λ x. Ok x.0) ≡ Err f → r ≡ Err f
refused_by (Ok x) f e = absurd cc
refused_by (Err g) f e = cc

stands : (dialect : Dialect) → (bytes : List ℕ) (f : FaultAt) → text_of dialect bytes ≡ Err f → IsTextFault dialect bytes f
unfolding text_of
stands dialect bytes f h = at_a_token dialect bytes f (place_of dialect (tokens_of dialect bytes) f (refused_by (program_at dialect (tokens_of dialect bytes)) f h))

-- of two ways to part a list they are the same, or the one is a beginning of the other
split_cases : (xs ys us vs : List Token) → xs ++ ys ≡ us ++ vs → (ys ≡ vs) ⊎ (((c : List Token) × (us ≡ xs ++ first ys ∷ c)) ⊎ ((c : List Token) × (xs ≡ us ++ first vs ∷ c)))
split_cases [] ys [] vs e = inl e
split_cases [] ys (u ∷ us) vs e = inr (inl (us, ap (λ (t : Token). t ∷ us) (sym (ap first e))))
split_cases (x ∷ xs) ys [] vs e = inr (inr (xs, ap (λ (t : Token). t ∷ xs) (ap first e)))
split_cases (x ∷ xs) ys (u ∷ us) vs e = by_others (split_cases xs ys us vs (ap others e))
  where
    same : x ≡ u
    same = ap first e

    by_others : (ys ≡ vs) ⊎ (((c : List Token) × (us ≡ xs ++ first ys ∷ c)) ⊎ ((c : List Token) × (xs ≡ us ++ first vs ∷ c))) → (ys ≡ vs) ⊎ (((c : List Token) × (u ∷ us ≡ x ∷ xs ++ first ys ∷ c)) ⊎ ((c : List Token) × (x ∷ xs ≡ u ∷ us ++ first vs ∷ c)))
    by_others (inl h) = inl h
    by_others (inr (inl h)) = inr (inl (h.0, ap (λ (ts : List Token). u ∷ ts) h.1 ∙ ap (λ (t : Token). t ∷ xs ++ first ys ∷ h.0) (sym same)))
    by_others (inr (inr h)) = inr (inr (h.0, ap (λ (ts : List Token). x ∷ ts) h.1 ∙ ap (λ (t : Token). t ∷ us ++ first vs ∷ h.0) same))

-- what is begun, all that stands before it begins
farther_begins : (dialect : Dialect) → (xs c whole : List Token) (t : Token) → whole ≡ xs ++ t ∷ c → IsCompleted dialect whole → Begins dialect (xs ++ t ∷ [])
farther_begins dialect xs c whole t e b =
    let ts : List Token = tokens_of dialect b.0 in
    let joined : whole ++ ts ≡ (xs ++ t ∷ []) ++ (c ++ ts) = ap (λ (us : List Token). us ++ ts) e ∙ append_assoc xs (t ∷ c) ts ∙ sym (append_assoc xs (t ∷ []) (c ++ ts)) in
    let P : List Token → Type 0 = λ us. Spell (spelled_program dialect b.1) us b.2.0 in
    (c ++ ts, b.1, (b.2.0, subst P joined b.2.1))

-- the fault of a text stands at one place
one_place : (dialect : Dialect) → (bytes : List ℕ) (f g : FaultAt) → IsTextFault dialect bytes f → IsTextFault dialect bytes g → f ≡ g
one_place dialect bytes f g a b = by_parts (split_cases a.before (a.at ∷ a.after) b.before (b.at ∷ b.after) (a.parts ∙ sym b.parts))
  where
    by_parts : (a.at ∷ a.after ≡ b.at ∷ b.after) ⊎ (((c : List Token) × (b.before ≡ a.before ++ a.at ∷ c)) ⊎ ((c : List Token) × (a.before ≡ b.before ++ b.at ∷ c))) → f ≡ g
    by_parts (inl h) = a.stands.fault ∙ ap (λ (ts : List Token). fault_at (first ts)) h ∙ sym b.stands.fault
    by_parts (inr (inl h)) = absurd (a.stands.not_begun (farther_begins dialect a.before h.0 b.before a.at h.1 b.stands.begun))
    by_parts (inr (inr h)) = absurd (b.stands.not_begun (farther_begins dialect b.before h.0 a.before b.at h.1 a.stands.begun))

-- a text with a fault is not read
not_read : (dialect : Dialect) → (bytes : List ℕ) (f : FaultAt) (p : ProgramText) → IsTextFault dialect bytes f → text_of dialect bytes ≡ Ok p → ⊥
unfolding text_of
not_read dialect bytes f p a is =
    let m = bind_ok (program_at dialect (tokens_of dialect bytes)) (λ x. Ok x.0) p is in
    let P : List Token → Type 0 = λ ts. Spell (spelled_program dialect m.0.0) ts m.0.1 in
    let joined : tokens_of dialect bytes ≡ (a.before ++ a.at ∷ []) ++ a.after = sym a.parts ∙ sym (append_assoc a.before (a.at ∷ []) a.after) in
    a.stands.not_begun (a.after, m.0.0, (m.0.1, subst P joined ((program_law dialect).takes (tokens_of dialect bytes) m.0 m.1).1))

refuses : (dialect : Dialect) → (bytes : List ℕ) (f : FaultAt) → IsTextFault dialect bytes f → text_of dialect bytes ≡ Err f
refuses dialect bytes f a = by_result (text_of dialect bytes) refl
  where
    by_result : (r : Result ProgramText FaultAt) → text_of dialect bytes ≡ r → text_of dialect bytes ≡ Err f
    by_result (Ok p) is = absurd (not_read dialect bytes f p a is)
    by_result (Err g) is = is ∙ ap (λ (h : FaultAt). Err h) (one_place dialect bytes g f (stands dialect bytes g is) a)

pub text_fault : (dialect : Dialect) → (bytes : List ℕ) (f : FaultAt) → (text_of dialect bytes ≡ Err f) ↔ (IsTextFault dialect) bytes f
text_fault dialect bytes f = (stands dialect bytes f, refuses dialect bytes f)

-- ---- with its line and column

abbrev as_refused : Fault → Result SourceText Fault
as_refused g = Err g

same_fault : (f g : Fault) → as_refused f ≡ as_refused g → f ≡ g
same_fault f g e = cc

told_fault : (bytes : List ℕ) (r : Result ProgramText FaultAt) (g : Fault) → told bytes r ≡ Err g → (f : FaultAt) × (g ≡ placed bytes f) × (r ≡ Err f)
told_fault bytes (Ok p) g e = absurd cc
told_fault bytes (Err f) g e = (f, sym (same_fault (placed bytes f) g e), refl)

source_fault : (bytes : List ℕ) (g : Fault) → nat_lt (text_limit (dialect_of bytes)) (length bytes) ≡ false → source_of bytes ≡ Err g → IsSourceFault bytes g
source_fault bytes g fits e = let t = told_fault bytes (text_of (dialect_of bytes) bytes) g (rw fits at e) in (t.0, t.1, stands (dialect_of bytes) bytes t.0 t.2)

-- ---- the fault of a text, be it too long or not

pub is_fault : (bytes : List ℕ) (g : Fault) → source_of bytes ≡ Err g → IsFaultOf bytes g
is_fault bytes g e = by_length (nat_lt (text_limit (dialect_of bytes)) (length bytes)) refl
  where
    by_length : (b : Bool) → nat_lt (text_limit (dialect_of bytes)) (length bytes) ≡ b → IsFaultOf bytes g
    by_length true over = inl (ltb-true (text_limit (dialect_of bytes)) (length bytes) over, sym (same_fault too_long g (rw over at e)))
    by_length false fits = inr (ltb-false (text_limit (dialect_of bytes)) (length bytes) fits, source_fault bytes g fits e)

pub fault_told : (bytes : List ℕ) (g : Fault) → IsFaultOf bytes g → source_of bytes ≡ Err g
fault_told bytes g (inl h) = rw (lt-ltb (text_limit (dialect_of bytes)) (length bytes) h.0) (ap as_refused (sym h.1))
fault_told bytes g (inr h) = rw (le-ltb (text_limit (dialect_of bytes)) (length bytes) h.0) (rw (refuses (dialect_of bytes) bytes h.1.0 h.1.2) (ap as_refused (sym h.1.1)))

-- what is answered so is told by the fault of the text alone
pub tells_first : (bytes : List ℕ) (r : Result SourceText ReadError) → Answers {X = SourceText} (λ s. s) r (source_of bytes) → TellsFirst bytes r
tells_first bytes (Ok s) e = tt
tells_first bytes (Err errors.Memory) e = tt
tells_first bytes (Err (errors.Fault g)) e = is_fault bytes g e

-- ---- a text is read, or it has a fault

abbrev as_read : SourceText → Result SourceText Fault
as_read s = Ok s

same_read : (s r : SourceText) → as_read s ≡ as_read r → s ≡ r
same_read s r e = cc

differs : (s : SourceText) (g : Fault) → as_read s ≡ as_refused g → ⊥
differs s g e = cc

source_read : (s : SourceText) → IsSource s → source_of s.text ≡ Ok s
source_read s is = rw (le-ltb (text_limit (dialect_of s.text)) (length s.text) is.short) (rw (is_read (dialect_of s.text) s.text s.says is.said) refl)

-- what the text says is what the walk gives
read_is : (bytes : List ℕ) (s : SourceText) → Reads bytes s → source_of bytes ≡ Ok s
read_is bytes s h = subst (λ (text : List ℕ). source_of text ≡ Ok s) h.0 (source_read s h.1)

abbrev made : List ℕ → ProgramText → SourceText
made bytes p = record { text = bytes; says = p }

told_read : (bytes : List ℕ) (r : Result ProgramText FaultAt) (s : SourceText) → told bytes r ≡ Ok s → (p : ProgramText) × (made bytes p ≡ s) × (r ≡ Ok p)
told_read bytes (Ok p) s e = (p, same_read (made bytes p) s e, refl)
told_read bytes (Err f) s e = absurd (differs s (placed bytes f) (sym e))

reads_here : (bytes : List ℕ) (s : SourceText) (p : ProgramText) → nat_lt (text_limit (dialect_of bytes)) (length bytes) ≡ false → made bytes p ≡ s → text_of (dialect_of bytes) bytes ≡ Ok p → Reads bytes s
reads_here bytes s p fits is read =
    let here : Reads bytes (made bytes p) = (refl, record { short = ltb-false (text_limit (dialect_of bytes)) (length bytes) fits; said = said (dialect_of bytes) bytes p read }) in
    subst (λ (r : SourceText). Reads bytes r) is here

-- what the walk gives is what the text says
is_source : (bytes : List ℕ) (s : SourceText) → source_of bytes ≡ Ok s → Reads bytes s
is_source bytes s e = by_length (nat_lt (text_limit (dialect_of bytes)) (length bytes)) refl
  where
    by_length : (b : Bool) → nat_lt (text_limit (dialect_of bytes)) (length bytes) ≡ b → Reads bytes s
    by_length true over = absurd (differs s too_long (sym (rw over at e)))
    by_length false fits = let t = told_read bytes (text_of (dialect_of bytes) bytes) s (rw fits at e) in reads_here bytes s t.0 fits t.1 t.2

pub one_source : (bytes : List ℕ) (s r : SourceText) → Reads bytes s → Reads bytes r → s ≡ r
one_source bytes s r a b = same_read s r (sym (read_is bytes s a) ∙ read_is bytes r b)

pub one_fault : (bytes : List ℕ) (f g : Fault) → IsFaultOf bytes f → IsFaultOf bytes g → f ≡ g
one_fault bytes f g a b = same_fault f g (sym (fault_told bytes f a) ∙ fault_told bytes g b)

pub never_both : (bytes : List ℕ) (s : SourceText) (g : Fault) → Reads bytes s → IsFaultOf bytes g → ⊥
never_both bytes s g a b = differs s g (sym (read_is bytes s a) ∙ fault_told bytes g b)

pub one_of_both : (bytes : List ℕ) → ((s : SourceText) × Reads bytes s) ⊎ ((g : Fault) × IsFaultOf bytes g)
one_of_both bytes = by_result (source_of bytes) refl
  where
    by_result : (r : Result SourceText Fault) → source_of bytes ≡ r → ((s : SourceText) × Reads bytes s) ⊎ ((g : Fault) × IsFaultOf bytes g)
    by_result (Ok s) e = inl (s, is_source bytes s e)
    by_result (Err g) e = inr (g, is_fault bytes g e)
