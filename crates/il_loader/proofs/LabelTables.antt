-- A table of the names at addresses, and one label more.
use Rattle.std.proofs.Common.{◌≡◌, ℕ, Bool, true, false, cond, List, [], ◌∷◌, ◌++◌, Option, Some, None, refl, sym, ap, ◌∙◌}
use Rattle.std.specs.Prelude.{nat_eq, is_some, option_map}
use Rattle.std.specs.Ordering.{nat_cmp, is_eq}
use Rattle.std.specs.BTreeMap as tree
use Rattle.std.specs.BTreeMap.{BTreeMap}
use Rattle.std.proofs.lemmas.Bool.{eqb-true}
use denote.Ref.{Bor}
use Rattle.il_model.specs.Marks.{Mark}
use Rattle.il_model.specs.Codes.{label_there}
use Rattle.il_model.proofs.LocationTables.{code_key}
use Rattle.il_loader.specs.NameTables.{AreNames}

-- the first, or else the second
abbrev or_else : Option (List ℕ) → Option (List ℕ) → Option (List ℕ)
or_else None p = p
or_else (Some x) p = Some x

last_by : (b : Bool) (name : List ℕ) (o o' q : Option (List ℕ)) → o' ≡ or_else o q → cond b (Some name) o' ≡ or_else (cond b (Some name) o) q
last_by true name o o' q e = refl
last_by false name o o' q e = e

there_last : (ms : List Mark) (m : Mark) (n : ℕ) → label_there (ms ++ m ∷ []) n ≡ or_else (label_there ms n) (cond (nat_eq m.at n) (Some m.name) None)
there_last [] m n = refl
there_last (l ∷ ms) m n = last_by (nat_eq l.at n) l.name (label_there ms n) (label_there (ms ++ m ∷ []) n) (cond (nat_eq m.at n) (Some m.name) None) (there_last ms m n)

or_none : (o : Option (List ℕ)) → o ≡ or_else o None
or_none None = refl
or_none (Some x) = refl

none_else : (o q : Option (List ℕ)) → is_some o ≡ false → q ≡ or_else o q
none_else None q e = refl
none_else (Some x) q e = absurd cc

some_else : (o q : Option (List ℕ)) → is_some o ≡ true → o ≡ or_else o q
some_else None q e = absurd cc
some_else (Some x) q e = refl

some_name : (o : Option (Bor (List ℕ))) → is_some (option_map (λ (name : Bor (List ℕ)). name.now) o) ≡ is_some o
some_name None = refl
some_name (Some x) = refl

put_by : (ms : List Mark) (m : Mark) (n : ℕ) (w : Bor (List ℕ)) (o : Option (Bor (List ℕ))) (b : Bool) → nat_eq m.at n ≡ b → m.name ≡ w.now → is_some (label_there ms m.at) ≡ false → option_map (λ (name : Bor (List ℕ)). name.now) o ≡ label_there ms n
    → option_map (λ (name : Bor (List ℕ)). name.now) (cond b (Some w) o) ≡ or_else (label_there ms n) (cond b (Some m.name) None)
put_by ms m n w o true e name free is =
    let same : m.at ≡ n = eqb-true m.at n e in
    ap (λ (x : List ℕ). Some x) (sym name) ∙ none_else (label_there ms n) (Some m.name) (ap (λ (k : ℕ). is_some (label_there ms k)) (sym same) ∙ free)
put_by ms m n w o false e name free is = is ∙ or_none (label_there ms n)

pub put_there : (m new : BTreeMap ℕ (Bor (List ℕ))) (ms : List Mark) (l : Mark) (k : ℕ) (w : Bor (List ℕ)) → AreNames ms m → is_some (tree.get nat_cmp m k) ≡ false → k ≡ l.at → l.name ≡ w.now
    → tree.UpdatesBy nat_cmp (nat_cmp k) m new (Some w) → AreNames (ms ++ l ∷ []) new
put_there m new ms l k w table free at name updates n =
    let gone : is_some (label_there ms l.at) ≡ false = ap is_some (sym (table l.at)) ∙ some_name (tree.get nat_cmp m l.at) ∙ ap (λ (i : ℕ). is_some (tree.get nat_cmp m i)) (sym at) ∙ free in
    ap (option_map (λ (name : Bor (List ℕ)). name.now)) (updates.0 n)
    ∙ ap (λ (i : ℕ). option_map (λ (name : Bor (List ℕ)). name.now) (cond (is_eq (nat_cmp i n)) (Some w) (tree.get nat_cmp m n))) at
    ∙ ap (λ (b : Bool). option_map (λ (name : Bor (List ℕ)). name.now) (cond b (Some w) (tree.get nat_cmp m n))) (code_key l.at n)
    ∙ put_by ms l n w (tree.get nat_cmp m n) (nat_eq l.at n) refl name gone (table n)
    ∙ sym (there_last ms l n)

keep_by : (ms : List Mark) (m : Mark) (n : ℕ) (b : Bool) → nat_eq m.at n ≡ b → is_some (label_there ms m.at) ≡ true → label_there ms n ≡ or_else (label_there ms n) (cond b (Some m.name) None)
keep_by ms m n true e known = let same : m.at ≡ n = eqb-true m.at n e in some_else (label_there ms n) (Some m.name) (ap (λ (k : ℕ). is_some (label_there ms k)) (sym same) ∙ known)
keep_by ms m n false e known = or_none (label_there ms n)

pub keep_there : (m : BTreeMap ℕ (Bor (List ℕ))) (ms : List Mark) (l : Mark) (k : ℕ) → AreNames ms m → is_some (tree.get nat_cmp m k) ≡ true → k ≡ l.at → AreNames (ms ++ l ∷ []) m
keep_there m ms l k table known at n =
    let there : is_some (label_there ms l.at) ≡ true = ap is_some (sym (table l.at)) ∙ some_name (tree.get nat_cmp m l.at) ∙ ap (λ (i : ℕ). is_some (tree.get nat_cmp m i)) (sym at) ∙ known in
    table n ∙ keep_by ms l n (nat_eq l.at n) refl there ∙ sym (there_last ms l n)
