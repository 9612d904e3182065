-- The first place in a list at which a test passes.
use Rattle.std.proofs.Common.{◌≡◌, ℕ, suc, ◌+◌, ◌<◌, Bool, true, false, cond, ltb, List, [], ◌∷◌, ◌++◌, length, Option, Some, None, refl, sym, ap, ◌∙◌, arith}
use Rattle.std.specs.Prelude.{is_some}
use Rattle.std.specs.List.{position, position_or_len}
use Rattle.std.specs.Option.{option_map}
use Rattle.std.proofs.lemmas.Bool.{lt-ltb, le-ltb, ltb-true, ltb-false}

later_by : (b : Bool) (k n : ℕ) → ltb k n ≡ b → cond (ltb (1 + k) (suc n)) (Some (1 + k)) None ≡ option_map suc (cond b (Some k) None)
later_by true k n e = let lt = ltb-true k n e in rw (lt-ltb (1 + k) (suc n) (omega arith)) (let is : 1 + k ≡ suc k = omega arith in ap (λ (x : ℕ). Some x) is)
later_by false k n e = let le = ltb-false k n e in rw (le-ltb (1 + k) (suc n) (omega arith)) refl

later : (k n : ℕ) → cond (ltb (1 + k) (suc n)) (Some (1 + k)) None ≡ option_map suc (cond (ltb k n) (Some k) None)
later k n = later_by (ltb k n) k n refl

pub position_first : {X : Type 0} (p : X → Bool) (x : X) (xs : List X) → p x ≡ true → position p (x ∷ xs) ≡ Some 0
position_first p x xs e = rw (e, lt-ltb 0 (suc (length xs)) (omega arith)) refl

pub position_later : {X : Type 0} (p : X → Bool) (x : X) (xs : List X) → p x ≡ false → position p (x ∷ xs) ≡ option_map suc (position p xs)
position_later p x xs e = rw e (later (position_or_len p xs) (length xs))

-- what is found in the front of a list is found there
pub record IsFront {X : Type 0} (p : X → Bool) (xs ys : List X) (k : ℕ) : Type 0 where
  pub there : position p (xs ++ ys) ≡ Some k
  pub before : k < length xs

front_later : {X : Type 0} (p : X → Bool) (x : X) (xs ys : List X) (k : ℕ) (o : Option ℕ) → p x ≡ false → position p xs ≡ o → option_map suc o ≡ Some k → ((j : ℕ) → position p xs ≡ Some j → IsFront p xs ys j) → IsFront p (x ∷ xs) ys k
front_later p x xs ys k None e f h ih = absurd cc
front_later p x xs ys k (Some j) e f h ih =
    let is : suc j ≡ k = cc in
    let more = ih j f in
    record { there = position_later p x (xs ++ ys) e ∙ ap (option_map suc) more.there ∙ ap (λ (n : ℕ). Some n) is; before = (let lt = more.before in omega (arith, is)) }

front_by : {X : Type 0} (p : X → Bool) (x : X) (xs ys : List X) (k : ℕ) (b : Bool) → p x ≡ b → position p (x ∷ xs) ≡ Some k → ((j : ℕ) → position p xs ≡ Some j → IsFront p xs ys j) → IsFront p (x ∷ xs) ys k
front_by p x xs ys k true e h ih =
    let zero-is : Some 0 ≡ Some k = sym (position_first p x xs e) ∙ h in
    let is : 0 ≡ k = cc in
    record { there = position_first p x (xs ++ ys) e ∙ zero-is; before = omega (arith, is) }
front_by p x xs ys k false e h ih = front_later p x xs ys k (position p xs) e refl (sym (position_later p x xs e) ∙ h) ih

pub position_front : {X : Type 0} (p : X → Bool) (xs ys : List X) (k : ℕ) → position p xs ≡ Some k → IsFront p xs ys k
position_front p [] ys k h = absurd cc
position_front p (x ∷ xs) ys k h = front_by p x xs ys k (p x) refl h (λ j e. position_front p xs ys j e)

some_not : (o : Option ℕ) → option_map suc o ≡ None → o ≡ None
some_not None e = refl
some_not (Some k) e = absurd cc

no_place : (o : Option ℕ) → o ≡ Some 0 → o ≡ None → ⊥
no_place o e h = cc

behind_by : {X : Type 0} (p : X → Bool) (x : X) (xs : List X) (v : X) (ys : List X) (b : Bool) → p x ≡ b → position p (x ∷ xs) ≡ None → (position p xs ≡ None → position p (xs ++ v ∷ ys) ≡ Some (length xs)) → position p (x ∷ (xs ++ v ∷ ys)) ≡ Some (length (x ∷ xs))
behind_by p x xs v ys true e h ih = absurd (no_place (position p (x ∷ xs)) (position_first p x xs e) h)
behind_by p x xs v ys false e h ih = position_later p x (xs ++ v ∷ ys) e ∙ ap (option_map suc) (ih (some_not (position p xs) (sym (position_later p x xs e) ∙ h)))

-- what isn't found before is found at the first place that passes
pub position_behind : {X : Type 0} (p : X → Bool) (xs : List X) (v : X) (ys : List X) → position p xs ≡ None → p v ≡ true → position p (xs ++ v ∷ ys) ≡ Some (length xs)
position_behind p [] v ys h e = position_first p v ys e
position_behind p (x ∷ xs) v ys h e = behind_by p x xs v ys (p x) refl h (λ none. position_behind p xs v ys none e)

found_by : {X : Type 0} (p : X → Bool) (xs ys : List X) (o : Option ℕ) → position p xs ≡ o → is_some o ≡ true → is_some (position p (xs ++ ys)) ≡ true
found_by p xs ys None e h = absurd cc
found_by p xs ys (Some k) e h = ap is_some (position_front p xs ys k e).there

pub found_in_front : {X : Type 0} (p : X → Bool) (xs ys : List X) → is_some (position p xs) ≡ true → is_some (position p (xs ++ ys)) ≡ true
found_in_front p xs ys h = found_by p xs ys (position p xs) refl h

last_by : {X : Type 0} (p : X → Bool) (xs : List X) (v : X) (o : Option ℕ) → position p xs ≡ o → p v ≡ true → is_some (position p (xs ++ v ∷ [])) ≡ true
last_by p xs v None e h = ap is_some (position_behind p xs v [] e h)
last_by p xs v (Some k) e h = ap is_some (position_front p xs (v ∷ []) k e).there

pub found_last : {X : Type 0} (p : X → Bool) (xs : List X) (v : X) → p v ≡ true → is_some (position p (xs ++ v ∷ [])) ≡ true
found_last p xs v h = last_by p xs v (position p xs) refl h

not_by : {X : Type 0} (p : X → Bool) (xs ys : List X) (b : Bool) → is_some (position p xs) ≡ b → is_some (position p (xs ++ ys)) ≡ false → b ≡ false
not_by p xs ys true e h = let yes = found_in_front p xs ys e in absurd cc
not_by p xs ys false e h = refl

pub not_in_front : {X : Type 0} (p : X → Bool) (xs ys : List X) → is_some (position p (xs ++ ys)) ≡ false → is_some (position p xs) ≡ false
not_in_front p xs ys h = not_by p xs ys (is_some (position p xs)) refl h

past_by : {X : Type 0} (p : X → Bool) (x : X) (xs : List X) (v : X) (b : Bool) → p x ≡ b → position p (xs ++ v ∷ []) ≡ position p xs → position p (x ∷ (xs ++ v ∷ [])) ≡ position p (x ∷ xs)
past_by p x xs v true e ih = position_first p x (xs ++ v ∷ []) e ∙ sym (position_first p x xs e)
past_by p x xs v false e ih = position_later p x (xs ++ v ∷ []) e ∙ ap (option_map suc) ih ∙ sym (position_later p x xs e)

-- what doesn't pass changes nothing behind the others
pub position_past : {X : Type 0} (p : X → Bool) (xs : List X) (v : X) → p v ≡ false → position p (xs ++ v ∷ []) ≡ position p xs
position_past p [] v e = position_later p v [] e
position_past p (x ∷ xs) v e = past_by p x xs v (p x) refl (position_past p xs v e)

kept_by : {X : Type 0} (p : X → Bool) (xs ys : List X) (o : Option ℕ) → position p xs ≡ o → is_some o ≡ true → position p (xs ++ ys) ≡ position p xs
kept_by p xs ys None e h = absurd cc
kept_by p xs ys (Some k) e h = (position_front p xs ys k e).there ∙ sym e

-- what is found stays where it is
pub position_kept : {X : Type 0} (p : X → Bool) (xs ys : List X) → is_some (position p xs) ≡ true → position p (xs ++ ys) ≡ position p xs
position_kept p xs ys h = kept_by p xs ys (position p xs) refl h
