-- A table of the codes at which variables lie, and one variable more.
use Rattle.std.proofs.Common.{◌≡◌, ℕ, ◌+◌, Bool, true, false, cond, eqb, ltb, List, [], ◌∷◌, ◌++◌, Some, None, refl, sym, ap, ◌∙◌, arith}
use Rattle.std.specs.Prelude.{suc, nat_eq, is_some, ◌||◌}
use Rattle.std.specs.List.{position}
use Rattle.std.specs.Ordering.{nat_cmp, is_eq}
use Rattle.std.specs.declared.cmp.Ordering.TheVariants.{Less, Equal, Greater}
use Rattle.std.specs.BTreeSet as sorted
use Rattle.std.specs.BTreeSet.{BTreeSet}
use Rattle.std.proofs.lemmas.Bool.{eqb-true, ltb-true}
use Rattle.il_model.specs.declared.program.Variable.{Variable}
use Rattle.il_model.specs.declared.program.Area.{Area}
use Rattle.il_model.specs.declared.program.DoubleType.{DoubleType}
use Rattle.il_model.specs.declared.program.Loc.{Loc}
use Rattle.il_model.specs.declared.program.Loc.TheVariants.{Bit, Word, Pattern, Double}
use Rattle.il_model.specs.CodedOperands.{loc_code}
use Rattle.il_model.specs.Codes.{has_code, is_taken, is_overlapped}
use Rattle.il_model.specs.Tables.{AreCodes}
use Rattle.il_model.proofs.Positions.{position_past, found_last}

-- what is found behind one more
found_by : {X : Type 0} (p : X → Bool) (xs : List X) (x : X) (b : Bool) → p x ≡ b → cond b true (is_some (position p xs)) ≡ is_some (position p (xs ++ x ∷ []))
found_by p xs x true e = sym (found_last p xs x e)
found_by p xs x false e = ap is_some (sym (position_past p xs x e))

pub found : {X : Type 0} (p : X → Bool) (xs : List X) (x : X) → cond (p x) true (is_some (position p xs)) ≡ is_some (position p (xs ++ x ∷ []))
found p xs x = found_by p xs x (p x) refl

-- tables of numbers compare them
key_by : (a b : ℕ) (l e : Bool) → ltb a b ≡ l → eqb a b ≡ e → is_eq (cond l Less (cond e Equal Greater)) ≡ e
key_by a b true true lt eq = let below = ltb-true a b lt in let same = eqb-true a b eq in absurd (omega arith)
key_by a b true false lt eq = refl
key_by a b false true lt eq = refl
key_by a b false false lt eq = refl

pub code_key : (a b : ℕ) → is_eq (nat_cmp a b) ≡ nat_eq a b
code_key a b = key_by a b (ltb a b) (eqb a b) refl refl

-- one code more
pub one_more : (s new : BTreeSet ℕ) (key code n : ℕ) → key ≡ code → sorted.UpdatesBy nat_cmp (nat_cmp key) s new true → sorted.contains nat_cmp new n ≡ cond (nat_eq code n) true (sorted.contains nat_cmp s n)
one_more s new key code n key-is updates =
    updates.0 n
    ∙ ap (λ (k : ℕ). cond (is_eq (nat_cmp k n)) true (sorted.contains nat_cmp s n)) key-is
    ∙ ap (λ (b : Bool). cond b true (sorted.contains nat_cmp s n)) (code_key code n)

-- that of a bit or of a word
or_alone : (a b : Bool) → cond a true b ≡ ((a || false) || b)
or_alone true b = refl
or_alone false b = refl

-- those of two words
or_both : (a b c : Bool) → cond b true (cond a true c) ≡ ((a || (b || false)) || c)
or_both true true c = refl
or_both true false c = refl
or_both false true c = refl
or_both false false c = refl

pub put_bit : (s new : BTreeSet ℕ) (area : Area) (k key : ℕ) → key ≡ loc_code (Bit area k) → sorted.UpdatesBy nat_cmp (nat_cmp key) s new true
    → (n : ℕ) → sorted.contains nat_cmp new n ≡ (has_code n (Some (Bit area k)) || sorted.contains nat_cmp s n)
put_bit s new area k key key-is updates n = one_more s new key (loc_code (Bit area k)) n key-is updates ∙ or_alone (nat_eq (loc_code (Bit area k)) n) (sorted.contains nat_cmp s n)

pub put_word : (s new : BTreeSet ℕ) (area : Area) (k key : ℕ) → key ≡ loc_code (Word area k) → sorted.UpdatesBy nat_cmp (nat_cmp key) s new true
    → (n : ℕ) → sorted.contains nat_cmp new n ≡ (has_code n (Some (Word area k)) || sorted.contains nat_cmp s n)
put_word s new area k key key-is updates n = one_more s new key (loc_code (Word area k)) n key-is updates ∙ or_alone (nat_eq (loc_code (Word area k)) n) (sorted.contains nat_cmp s n)

pub put_double : (s middle new : BTreeSet ℕ) (area : Area) (k : ℕ) (t : DoubleType) (first second : ℕ) → first ≡ loc_code (Word area k) → second ≡ loc_code (Word area (suc k))
    → sorted.UpdatesBy nat_cmp (nat_cmp first) s middle true → sorted.UpdatesBy nat_cmp (nat_cmp second) middle new true
    → (n : ℕ) → sorted.contains nat_cmp new n ≡ (has_code n (Some (Double area k t)) || sorted.contains nat_cmp s n)
put_double s middle new area k t first second first-is second-is updates more n =
    one_more middle new second (loc_code (Word area (suc k))) n second-is more
    ∙ ap (cond (nat_eq (loc_code (Word area (suc k))) n) true) (one_more s middle first (loc_code (Word area k)) n first-is updates)
    ∙ or_both (nat_eq (loc_code (Word area k)) n) (nat_eq (loc_code (Word area (suc k))) n) (sorted.contains nat_cmp s n)

or_cond : (a b : Bool) → (a || b) ≡ cond a true b
or_cond true b = refl
or_cond false b = refl

-- one location more
pub put_code : (s new : BTreeSet ℕ) (seen : List Variable) (v : Variable) (loc : Loc) → AreCodes seen s → v.location ≡ Some loc
    → ((n : ℕ) → sorted.contains nat_cmp new n ≡ (has_code n (Some loc) || sorted.contains nat_cmp s n)) → AreCodes (seen ++ v ∷ []) new
put_code s new seen v loc table here put n =
    put n
    ∙ ap (λ (b : Bool). b || sorted.contains nat_cmp s n) (ap (has_code n) (sym here))
    ∙ or_cond (has_code n v.location) (sorted.contains nat_cmp s n)
    ∙ ap (cond (has_code n v.location) true) (table n)
    ∙ found (λ (w : Variable). has_code n w.location) seen v

-- no location
pub keep_codes : (s : BTreeSet ℕ) (seen : List Variable) (v : Variable) → AreCodes seen s → v.location ≡ None → AreCodes (seen ++ v ∷ []) s
keep_codes s seen v table here n = table n ∙ ap is_some (sym (position_past (λ (w : Variable). has_code n w.location) seen v (ap (has_code n) here)))

-- ---- whether a part is taken

or_none : (b : Bool) → b ≡ (b || false)
or_none true = refl
or_none false = refl

pub bit_told : (s : BTreeSet ℕ) (area : Area) (k : ℕ) (seen : List Variable) → AreCodes seen s → sorted.contains nat_cmp s (loc_code (Bit area k)) ≡ is_overlapped seen (Bit area k)
bit_told s area k seen table = table (loc_code (Bit area k)) ∙ or_none (is_taken seen (loc_code (Bit area k)))

pub word_told : (s : BTreeSet ℕ) (area : Area) (k : ℕ) (seen : List Variable) → AreCodes seen s → sorted.contains nat_cmp s (loc_code (Word area k)) ≡ is_overlapped seen (Word area k)
word_told s area k seen table = table (loc_code (Word area k)) ∙ or_none (is_taken seen (loc_code (Word area k)))

-- the code of the next word is one more
pub next_code : (area : Area) (k : ℕ) → loc_code (Word area k) + 1 ≡ loc_code (Word area (suc k))
next_code area k = omega arith

pub double_told : (s : BTreeSet ℕ) (area : Area) (k : ℕ) (t : DoubleType) (seen : List Variable) → AreCodes seen s
    → (sorted.contains nat_cmp s (loc_code (Word area k)) || sorted.contains nat_cmp s (loc_code (Word area k) + 1)) ≡ is_overlapped seen (Double area k t)
double_told s area k t seen table =
    ap (λ (b : Bool). b || sorted.contains nat_cmp s (loc_code (Word area k) + 1)) (table (loc_code (Word area k)))
    ∙ ap (λ (n : ℕ). is_taken seen (loc_code (Word area k)) || sorted.contains nat_cmp s n) (next_code area k)
    ∙ ap (λ (b : Bool). is_taken seen (loc_code (Word area k)) || b) (table (loc_code (Word area (suc k))) ∙ or_none (is_taken seen (loc_code (Word area (suc k)))))

-- a pattern is its word
pub put_pattern : (s new : BTreeSet ℕ) (area : Area) (k key : ℕ) → key ≡ loc_code (Word area k) → sorted.UpdatesBy nat_cmp (nat_cmp key) s new true
    → (n : ℕ) → sorted.contains nat_cmp new n ≡ (has_code n (Some (Pattern area k)) || sorted.contains nat_cmp s n)
put_pattern s new area k key key-is updates n = put_word s new area k key key-is updates n

pub pattern_told : (s : BTreeSet ℕ) (area : Area) (k : ℕ) (seen : List Variable) → AreCodes seen s → sorted.contains nat_cmp s (loc_code (Word area k)) ≡ is_overlapped seen (Pattern area k)
pattern_told s area k seen table = word_told s area k seen table
