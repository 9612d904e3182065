-- The first element that passes a test, found from behind.
use Rattle.std.proofs.Common.{◌≡◌, ℕ, zero, suc, ◌+◌, ◌<◌, ◌≤◌, Bool, true, false, cond, List, [], ◌∷◌, ◌++◌, length, drop, Option, Some, None, refl, sym, ap, ◌∙◌, arith}
use Rattle.std.specs.Prelude.{nat_lt, not, is_some, slice_get}
use Rattle.std.specs.List.{position, prefix_len}
use Rattle.std.specs.Str.{bytes_eq}
use Rattle.std.specs.BTreeMap.{BTreeMap}
use Rattle.std.specs.BTreeMap as tree
use Rattle.std.specs.Cmp.Lexicographic.{slice_cmp, bytes_decides}
use Rattle.std.specs.Ordering.{nat_cmp}
use Rattle.std.proofs.lemmas.Bool.{ltb-true, ltb-false, lt-ltb, le-ltb}
use Rattle.std.proofs.lemmas.Map.Text.{btree_map_updates_str}
use denote.Ref.{Bor}
use Rattle.il_model.specs.declared.program.Instr.{Instr}
use Rattle.il_model.specs.Resolved.{has_label}
use Rattle.il_model.specs.Tables.{first_in}
use Rattle.il_model.proofs.Positions.{position_behind, position_past, position_kept}

-- the number of the first that passes, where they are numbered from n on
abbrev pub first_where : {X : Type 0} → (X → Bool) → ℕ → List X → Option ℕ
first_where p n [] = None
first_where p n (x ∷ xs) = cond (p x) (Some n) (first_where p (suc n) xs)

at_by : (b v : Bool) (n k len : ℕ) → nat_lt k len ≡ v → cond b (Some n) (cond v (Some (suc n + k)) None) ≡ cond (nat_lt (cond (not b) (1 + k) 0) (suc len)) (Some (n + cond (not b) (1 + k) 0)) None
at_by true v n k len e =
    let is : n ≡ n + 0 = omega arith in
    let lt : 0 < suc len = omega arith in
    ap (λ (i : ℕ). Some i) is ∙ ap (λ (c : Bool). cond c (Some (n + 0)) None) (sym (lt-ltb 0 (suc len) lt))
at_by false true n k len e =
    let is : suc n + k ≡ n + (1 + k) = omega arith in
    let below : k < len = ltb-true k len e in
    let lt : 1 + k < suc len = omega arith in
    ap (λ (i : ℕ). Some i) is ∙ ap (λ (c : Bool). cond c (Some (n + (1 + k))) None) (sym (lt-ltb (1 + k) (suc len) lt))
at_by false false n k len e =
    let past : len ≤ k = ltb-false k len e in
    let le : suc len ≤ 1 + k = omega arith in
    ap (λ (c : Bool). cond c (Some (n + (1 + k))) None) (sym (le-ltb (1 + k) (suc len) le))

first_is : {X : Type 0} (p : X → Bool) (n : ℕ) (xs : List X) → first_where p n xs ≡ cond (nat_lt (prefix_len (λ x. not (p x)) xs) (length xs)) (Some (n + prefix_len (λ x. not (p x)) xs)) None
first_is p n [] = refl
first_is p n (x ∷ xs) =
    let k : ℕ = prefix_len (λ x. not (p x)) xs in
    ap (cond (p x) (Some n)) (first_is p (suc n) xs) ∙ at_by (p x) (nat_lt k (length xs)) n k (length xs) refl

-- counted from 0 it is the position
pub first_position : {X : Type 0} (p : X → Bool) (xs : List X) → first_where p 0 xs ≡ position p xs
first_position p xs =
    let k : ℕ = prefix_len (λ x. not (p x)) xs in
    let is : 0 + k ≡ k = omega arith in
    first_is p 0 xs ∙ ap (λ (i : ℕ). cond (nat_lt k (length xs)) (Some i) None) is

drop_at : {X : Type 0} (xs : List X) (n : ℕ) (x : X) → slice_get xs n ≡ Some x → drop n xs ≡ x ∷ drop (suc n) xs
drop_at [] n x e = absurd cc
drop_at (y ∷ xs) zero x e = let is : y ≡ x = cc in ap (λ z. z ∷ xs) is
drop_at (y ∷ xs) (suc n) x e = drop_at xs n x e

-- one more before the others
pub one_before : {X : Type 0} (p : X → Bool) (xs : List X) (n k : ℕ) (x : X) → k ≡ suc n → slice_get xs n ≡ Some x → first_where p n (drop n xs) ≡ cond (p x) (Some n) (first_where p k (drop k xs))
one_before p xs n k x is here = ap (first_where p n) (drop_at xs n x here) ∙ ap (λ (j : ℕ). cond (p x) (Some n) (first_where p j (drop j xs))) (sym is)

-- a table, to which the key of one more before the others was put
pub put_first : {X : Type 0} (p : X → Bool) (m new : BTreeMap (Bor (List ℕ)) ℕ) (xs : List X) (n k : ℕ) (x : X) (key name : List ℕ)
    → tree.UpdatesBy (λ x y. slice_cmp nat_cmp x.now y.now) (λ k. slice_cmp nat_cmp key k.now) m new (Some n)
    → bytes_eq key name ≡ p x → k ≡ suc n → slice_get xs n ≡ Some x → first_in m name ≡ first_where p k (drop k xs) → first_in new name ≡ first_where p n (drop n xs)
put_first p m new xs n k x key name updates has is here rest =
    btree_map_updates_str key m new (Some n) updates name
    ∙ ap (cond (bytes_eq key name) (Some n)) rest
    ∙ ap (λ (b : Bool). cond b (Some n) (first_where p k (drop k xs))) has
    ∙ sym (one_before p xs n k x is here)

-- an instruction with a label has that one
pub labelled_so : (line : Instr) (label name : List ℕ) → line.label ≡ Some label → bytes_eq label name ≡ has_label name line
labelled_so line label name is = ap (λ (o : Option (List ℕ)). has_label name (record line { label = o })) (sym is)

-- ---- a table of names to which one more is put behind the others

behind_by : {X : Type 0} (p : List ℕ → X → Bool) (seen : List X) (x : X) (key name : List ℕ) (o : Option ℕ) (b : Bool) → bytes_eq key name ≡ b → p name x ≡ b → position (p key) seen ≡ None → o ≡ position (p name) seen
    → cond b (Some (length seen)) o ≡ position (p name) (seen ++ x ∷ [])
behind_by p seen x key name o true e has none is =
    let same : key ≡ name = (bytes_decides key name).0 e in
    let gone : position (p name) seen ≡ None = ap (λ (n : List ℕ). position (p n) seen) (sym same) ∙ none in
    sym (position_behind (p name) seen x [] gone has)
behind_by p seen x key name o false e has none is = is ∙ sym (position_past (p name) seen x has)

none_of : (o : Option ℕ) → is_some o ≡ false → o ≡ None
none_of None e = refl
none_of (Some k) e = absurd cc

-- a name that is new
pub put_behind : {X : Type 0} (p : List ℕ → X → Bool) (m new : BTreeMap (Bor (List ℕ)) ℕ) (seen : List X) (x : X) (k : ℕ) (key name : List ℕ)
    → tree.UpdatesBy (λ x y. slice_cmp nat_cmp x.now y.now) (λ k. slice_cmp nat_cmp key k.now) m new (Some k)
    → bytes_eq key name ≡ p name x → k ≡ length seen → is_some (first_in m key) ≡ false → ((n : List ℕ) → first_in m n ≡ position (p n) seen) → first_in new name ≡ position (p name) (seen ++ x ∷ [])
put_behind p m new seen x k key name updates has is free table =
    btree_map_updates_str key m new (Some k) updates name
    ∙ ap (λ (i : ℕ). cond (bytes_eq key name) (Some i) (first_in m name)) is
    ∙ behind_by p seen x key name (first_in m name) (bytes_eq key name) refl (sym has) (none_of (position (p key) seen) (ap is_some (sym (table key)) ∙ free)) (table name)

kept_by : {X : Type 0} (p : List ℕ → X → Bool) (seen : List X) (x : X) (key name : List ℕ) (b : Bool) → bytes_eq key name ≡ b → p name x ≡ b → is_some (position (p key) seen) ≡ true → position (p name) seen ≡ position (p name) (seen ++ x ∷ [])
kept_by p seen x key name true e has known =
    let same : key ≡ name = (bytes_decides key name).0 e in
    sym (position_kept (p name) seen (x ∷ []) (ap (λ (n : List ℕ). is_some (position (p n) seen)) (sym same) ∙ known))
kept_by p seen x key name false e has known = sym (position_past (p name) seen x has)

-- a name that one before has
pub keep_behind : {X : Type 0} (p : List ℕ → X → Bool) (m : BTreeMap (Bor (List ℕ)) ℕ) (seen : List X) (x : X) (key name : List ℕ)
    → bytes_eq key name ≡ p name x → is_some (first_in m key) ≡ true → ((n : List ℕ) → first_in m n ≡ position (p n) seen) → first_in m name ≡ position (p name) (seen ++ x ∷ [])
keep_behind p m seen x key name has known table =
    table name ∙ kept_by p seen x key name (bytes_eq key name) refl (sym has) (ap is_some (sym (table key)) ∙ known)
