-- Two lists tested item by item.
use Rattle.std.proofs.Common.{◌≡◌, ℕ, zero, suc, ◌+◌, ◌<◌, ◌≤◌, Bool, true, false, List, [], ◌∷◌, length, take, get_or, refl, ap, ◌∙◌, arith}
use Rattle.std.specs.Prelude.{◌&&◌}

abbrev pub zipped : {A B : Type 0} → (A → B → Bool) → List A → List B → Bool
zipped p [] [] = true
zipped p (a ∷ xs) (b ∷ ys) = p a b && zipped p xs ys
zipped p xs ys = false

no_more : (a b : Bool) → b ≡ false → (a && b) ≡ false
no_more true b e = e
no_more false b e = refl

first : (a b : Bool) → a ≡ false → (a && b) ≡ false
first true b e = absurd cc
first false b e = refl

both : (a b : Bool) → a ≡ true → b ≡ true → (a && b) ≡ true
both true b e f = f
both false b e f = absurd cc

parts : (a b : Bool) → (a && b) ≡ true → (a ≡ true) × (b ≡ true)
parts true b e = (refl, e)
parts false b e = absurd cc

whole : {A : Type 0} (xs : List A) (n : ℕ) → length xs ≤ n → take n xs ≡ xs
whole [] zero le = refl
whole [] (suc n) le = refl
whole (x ∷ xs) zero le = absurd (omega (arith, le))
whole (x ∷ xs) (suc n) le = ap (λ ys. x ∷ ys) (whole xs n (omega (arith, le)))

pub zipped_other : {A B : Type 0} (p : A → B → Bool) (xs : List A) (ys : List B) → (length xs ≡ length ys → ⊥) → zipped p xs ys ≡ false
zipped_other p [] [] other = absurd (other refl)
zipped_other p [] (y ∷ ys) other = refl
zipped_other p (x ∷ xs) [] other = refl
zipped_other p (x ∷ xs) (y ∷ ys) other = no_more (p x y) (zipped p xs ys) (zipped_other p xs ys (λ e. other (ap suc e)))

pub zipped_at : {A B : Type 0} (p : A → B → Bool) (xs : List A) (ys : List B) (i : ℕ) (d : A) (e : B) → i < length xs → length xs ≡ length ys → p (get_or xs i d) (get_or ys i e) ≡ false → zipped p xs ys ≡ false
zipped_at p [] ys i d e lt same h = absurd (omega (arith, lt))
zipped_at p (z ∷ xs) [] i d e lt same h = absurd (omega (arith, same))
zipped_at p (z ∷ xs) (w ∷ ys) zero d e lt same h = first (p z w) (zipped p xs ys) h
zipped_at p (z ∷ xs) (w ∷ ys) (suc i) d e lt same h = no_more (p z w) (zipped p xs ys) (zipped_at p xs ys i d e (omega (arith, lt)) (omega (arith, same)) h)

zipped_suc : {A B : Type 0} (p : A → B → Bool) (xs : List A) (ys : List B) (i : ℕ) (d : A) (e : B) → i < length xs → length xs ≡ length ys → p (get_or xs i d) (get_or ys i e) ≡ true → zipped p (take i xs) (take i ys) ≡ true → zipped p (take (suc i) xs) (take (suc i) ys) ≡ true
zipped_suc p [] ys i d e lt same h so = absurd (omega (arith, lt))
zipped_suc p (z ∷ xs) [] i d e lt same h so = absurd (omega (arith, same))
zipped_suc p (z ∷ xs) (w ∷ ys) zero d e lt same h so = both (p z w) true h refl
zipped_suc p (z ∷ xs) (w ∷ ys) (suc i) d e lt same h so =
    let s = parts (p z w) (zipped p (take i xs) (take i ys)) so in
    both (p z w) (zipped p (take (suc i) xs) (take (suc i) ys)) s.0 (zipped_suc p xs ys i d e (omega (arith, lt)) (omega (arith, same)) h s.1)

pub zipped_next : {A B : Type 0} (p : A → B → Bool) (xs : List A) (ys : List B) (i : ℕ) (d : A) (e : B) → i < length xs → length xs ≡ length ys → p (get_or xs i d) (get_or ys i e) ≡ true → zipped p (take i xs) (take i ys) ≡ true → zipped p (take (i + 1) xs) (take (i + 1) ys) ≡ true
zipped_next p xs ys i d e lt same h so = let is : i + 1 ≡ suc i = omega arith in ap (λ n. zipped p (take n xs) (take n ys)) is ∙ zipped_suc p xs ys i d e lt same h so

pub zipped_end : {A B : Type 0} (p : A → B → Bool) (xs : List A) (ys : List B) (n : ℕ) → length xs ≤ n → length ys ≤ n → zipped p (take n xs) (take n ys) ≡ zipped p xs ys
zipped_end p xs ys n a b = ap (λ zs. zipped p zs (take n ys)) (whole xs n a) ∙ ap (zipped p xs) (whole ys n b)
