-- What stands at a place of a list, of its front, and of a list of requests whose numbers rise.
use Rattle.std.proofs.Common.{◌≡◌, ℕ, zero, suc, ◌+◌, ◌<◌, ◌≤◌, max, true, cond, ◌==◌, List, [], ◌∷◌, ◌++◌, length, take, Option, Some, None, arith, refl, sym, ap, ◌∙◌, subst, add-one, length-append}
use Rattle.std.specs.Prelude.{slice_get}
use Rattle.std.proofs.lemmas.Bool.{ltb-true, lt-ltb, eq-eqb}
use Rattle.std.proofs.lemmas.Option.{slice_get_within, same_Some}
use Rattle.vr_model.specs.Logs.{Request, IsPrefix, IsEntry, IsRising, greater, last_number, is_above}

-- ---- lists and their fronts

pub get_left : {X : Type 0} (xs ys : List X) (p : ℕ) (m : X) → slice_get xs p ≡ Some m → slice_get (xs ++ ys) p ≡ Some m
get_left [] ys p m e = absurd cc
get_left (x ∷ xs) ys zero m e = e
get_left (x ∷ xs) ys (suc p) m e = get_left xs ys p m e

get_back : {X : Type 0} (xs ys : List X) (p : ℕ) (m : X) → p < length xs → slice_get (xs ++ ys) p ≡ Some m → slice_get xs p ≡ Some m
get_back [] ys p m l e = absurd (omega (arith, l))
get_back (x ∷ xs) ys zero m l e = e
get_back (x ∷ xs) ys (suc p) m l e = get_back xs ys p m (omega (arith, l)) e

take_left : {X : Type 0} (xs ys : List X) (n : ℕ) → n ≤ length xs → take n (xs ++ ys) ≡ take n xs
take_left xs ys zero l = refl
take_left [] ys (suc n) l = absurd (omega (arith, l))
take_left (x ∷ xs) ys (suc n) l = ap (λ zs. x ∷ zs) (take_left xs ys n (omega (arith, l)))

pub prefix_length : {X : Type 0} (xs ys : List X) → IsPrefix xs ys → length xs ≤ length ys
prefix_length xs ys p = let whole : length xs + length p.rest ≡ length ys = sym (length-append xs p.rest) ∙ ap length p.is in omega (arith, whole)

pub prefix_get : {X : Type 0} (xs ys : List X) → IsPrefix xs ys → (p : ℕ) (m : X) → slice_get xs p ≡ Some m → slice_get ys p ≡ Some m
prefix_get xs ys is p m e = subst (λ zs. slice_get zs p ≡ Some m) is.is (get_left xs is.rest p m e)

pub prefix_back : {X : Type 0} (xs ys : List X) → IsPrefix xs ys → (p : ℕ) (m : X) → p < length xs → slice_get ys p ≡ Some m → slice_get xs p ≡ Some m
prefix_back xs ys is p m l e = get_back xs is.rest p m l (subst (λ zs. slice_get zs p ≡ Some m) (sym is.is) e)

pub prefix_take : {X : Type 0} (xs ys : List X) → IsPrefix xs ys → (n : ℕ) → n ≤ length xs → take n xs ≡ take n ys
prefix_take xs ys is n l = sym (take_left xs is.rest n l) ∙ ap (take n) is.is

-- ---- entries

take_there : {X : Type 0} (xs : List X) (n : ℕ) (x : X) → slice_get xs n ≡ Some x → take (suc n) xs ≡ take n xs ++ x ∷ []
take_there [] n x e = absurd cc
take_there (y ∷ xs) zero x e = let same : y ≡ x = same_Some y x e in ap (λ z. z ∷ []) same
take_there (y ∷ xs) (suc n) x e = ap (λ l. y ∷ l) (take_there xs n x e)

pub entry_of : {X : Type 0} (xs : List X) (p : ℕ) (m : X) → slice_get xs p ≡ Some m → IsEntry xs p m
entry_of xs p m e = record { within = slice_get_within xs p m e; last = subst (λ n. take n xs ≡ take p xs ++ m ∷ []) (sym (add-one p)) (take_there xs p m e) }

at_entry : {X : Type 0} (xs : List X) (p : ℕ) (m : X) → take (suc p) xs ≡ take p xs ++ m ∷ [] → slice_get xs p ≡ Some m
at_entry [] zero m e = absurd cc
at_entry [] (suc p) m e = absurd cc
at_entry (x ∷ xs) zero m e = let same : x ≡ m = cc in ap Some same
at_entry (x ∷ xs) (suc p) m e = at_entry xs p m (let rest : take (suc p) xs ≡ take p xs ++ m ∷ [] = cc in rest)

pub of_entry : {X : Type 0} (xs : List X) (p : ℕ) (m : X) → IsEntry xs p m → slice_get xs p ≡ Some m
of_entry xs p m e = at_entry xs p m (subst (λ n. take n xs ≡ take p xs ++ m ∷ []) (add-one p) e.last)

-- ---- numbers that rise

get_take : {X : Type 0} (xs : List X) (p q : ℕ) → p < q → slice_get (take q xs) p ≡ slice_get xs p
get_take xs p zero l = absurd (omega (arith, l))
get_take [] p (suc q) l = refl
get_take (x ∷ xs) zero (suc q) l = refl
get_take (x ∷ xs) (suc p) (suc q) l = get_take xs p q (omega (arith, l))

above_rest : (a o : Option ℕ) (s : ℕ) → is_above s (greater a o) ≡ true → is_above s o ≡ true
above_rest None o s e = e
above_rest (Some a) None s e = refl
above_rest (Some a) (Some b) s e = lt-ltb b s (let k : max a b < s = ltb-true _ _ e in omega arith)

above_first : (a s : ℕ) (o : Option ℕ) → is_above s (greater (Some a) o) ≡ true → a < s
above_first a s None e = ltb-true _ _ e
above_first a s (Some b) e = let k : max a b < s = ltb-true _ _ e in omega arith

module _ {C : Type 0} where
  below_last : (xs : List (Request C)) (p : ℕ) (m : Request C) (s : ℕ) → slice_get xs p ≡ Some m → is_above s (last_number xs m.client) ≡ true → m.number < s
  below_last [] p m s is e = absurd cc
  below_last (x ∷ xs) zero m s is e =
      let same : x ≡ m = same_Some _ _ is in
      let t : (x.client == m.client) ≡ true = eq-eqb x.client m.client (ap (λ (y : Request C). y.client) same) in
      let n : x.number ≡ m.number = ap (λ (y : Request C). y.number) same in
      let k : is_above s (greater (Some x.number) (last_number xs m.client)) ≡ true = subst (λ b. is_above s (greater (cond b (Some x.number) None) (last_number xs m.client)) ≡ true) t e in
      omega (arith, above_first x.number s (last_number xs m.client) k)
  below_last (x ∷ xs) (suc p) m s is e = below_last xs p m s is (above_rest (cond (x.client == m.client) (Some x.number) None) (last_number xs m.client) s e)

  pub rises : (xs : List (Request C)) → IsRising xs → (p q : ℕ) (m n : Request C) → p < q → slice_get xs p ≡ Some m → slice_get xs q ≡ Some n → m.client ≡ n.client → m.number < n.number
  rises xs rising p q m n l a b same =
      below_last (take q xs) p m n.number (get_take xs p q l ∙ a) (subst (λ c. is_above n.number (last_number (take q xs) c) ≡ true) (sym same) (rising.each q n (entry_of xs q n b)))
