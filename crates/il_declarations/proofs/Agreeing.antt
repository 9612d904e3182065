-- A walk that ends at its first fault ends at the first of all faults.
use Rattle.std.proofs.Common.{◌≡◌, ℕ, Bool, true, false, cond, List, [], ◌∷◌, ◌++◌, Result, Ok, Err, refl, sym, ap, subst, ◌∙◌, append_assoc}
use Rattle.std.specs.List.{flat_map}
use Rattle.std.proofs.lemmas.List.{append-nil}
use Rattle.il_declarations.specs.declared.fault.DeclKind.{DeclKind}
use Rattle.il_declarations.specs.declared.fault.FaultAt.{FaultAt}
use Rattle.il_declarations.specs.Walk.{◌>>=◌, each}
use Rattle.il_declarations.proofs.FaultList.{when, beside}

-- it fails at the first fault, and not where there is none
abbrev pub Agrees : {A : Type 0} → Result A FaultAt → List FaultAt → Type 0
Agrees (Ok x) fs = fs ≡ []
Agrees (Err f) fs = (rest : List FaultAt) × (fs ≡ f ∷ rest)

abbrev pub done : {A : Type 0} → A → Result A FaultAt
done x = Ok x

pub ok_is : {A : Type 0} (x y : A) → done x ≡ done y → x ≡ y
ok_is x y e = cc

-- one after the other
pub then_agrees : {A B : Type 0} (r : Result A FaultAt) (g : A → Result B FaultAt) (fs gs : List FaultAt) → Agrees r fs → ((x : A) → r ≡ Ok x → Agrees (g x) gs) → Agrees (r >>= g) (fs ++ gs)
then_agrees {A} {B} (Ok x) g fs gs none next = subst (λ (hs : List FaultAt). Agrees (g x) (hs ++ gs)) (sym none) (next x refl)
then_agrees {A} {B} (Err f) g fs gs first next = (first.0 ++ gs, ap (λ (hs : List FaultAt). hs ++ gs) first.1)

-- a step that only makes something of what was found
pub made_agrees : {A B : Type 0} (r : Result A FaultAt) (g : A → B) (fs : List FaultAt) → Agrees r fs → Agrees (r >>= λ x. Ok (g x)) fs
made_agrees (Ok x) g fs h = h
made_agrees (Err f) g fs h = h

test : {A : Type 0} (b : Bool) (kind : DeclKind) (left : ℕ) (r : Result A FaultAt) (gs : List FaultAt) → Agrees r gs → Agrees (cond b (Err (record { kind = kind; left = left })) r) (when b kind left ++ gs)
test true kind left r gs next = (gs, refl)
test false kind left r gs next = next

-- a test that refuses, and what follows
pub test_agrees : {A : Type 0} (b c : Bool) → b ≡ c → (kind : DeclKind) (left : ℕ) (r : Result A FaultAt) (gs : List FaultAt) → Agrees r gs → Agrees (cond b (Err (record { kind = kind; left = left })) r) (when c kind left ++ gs)
test_agrees b c same kind left r gs next = subst (λ (a : Bool). Agrees (cond b (Err (record { kind = kind; left = left })) r) (when a kind left ++ gs)) same (test b kind left r gs next)

last : {A : Type 0} (b : Bool) (kind : DeclKind) (left : ℕ) (x : A) → Agrees (cond b (Err (record { kind = kind; left = left })) (done x)) (when b kind left)
last true kind left x = ([], refl)
last false kind left x = refl

-- the last test
pub last_agrees : {A : Type 0} (b c : Bool) → b ≡ c → (kind : DeclKind) (left : ℕ) (x : A) → Agrees (cond b (Err (record { kind = kind; left = left })) (done x)) (when c kind left)
last_agrees b c same kind left x = subst (λ (a : Bool). Agrees (cond b (Err (record { kind = kind; left = left })) (done x)) (when a kind left)) same (last b kind left x)

pub each_agrees : {X Y : Type 0} (I : List X → Y → Type 0) (step : Y → X → Result Y FaultAt) (fs : List X → X → List FaultAt)
    → ((before : List X) (x : X) (y : Y) → I before y → Agrees (step y x) (fs before x))
    → ((before : List X) (x : X) (y z : Y) → I before y → step y x ≡ Ok z → I (before ++ x ∷ []) z)
    → (before xs : List X) (y : Y) → I before y → Agrees (each step y xs) (beside fs before xs)
unfolding each beside
each_agrees I step fs agree keep before [] y i = refl
each_agrees I step fs agree keep before (x ∷ xs) y i =
    then_agrees (step y x) (λ z. each step z xs) (fs before x) (beside fs (before ++ x ∷ []) xs) (agree before x y i)
    (λ z e. each_agrees I step fs agree keep (before ++ x ∷ []) xs z (keep before x y z i e))

-- the value of a step that did not fail
pub bind_ok : {A B : Type 0} (r : Result A FaultAt) (f : A → Result B FaultAt) (y : B) → (r >>= f) ≡ Ok y → (x : A) × (r ≡ Ok x) × (f x ≡ Ok y)
bind_ok (Ok x) f y e = (x, refl, e)
bind_ok (Err d) f y e = absurd cc

pub each_kept : {X Y : Type 0} (I : List X → Y → Type 0) (step : Y → X → Result Y FaultAt)
    → ((before : List X) (x : X) (y z : Y) → I before y → step y x ≡ Ok z → I (before ++ x ∷ []) z)
    → (before xs : List X) (y z : Y) → I before y → each step y xs ≡ Ok z → I (before ++ xs) z
unfolding each
each_kept {X} {Y} I step keep before [] y z i e = subst (λ (b : List X). I b z) (sym (append-nil before)) (subst (I before) (ok_is y z e) i)
each_kept {X} {Y} I step keep before (x ∷ xs) y z i e =
    let m = bind_ok (step y x) (λ w. each step w xs) z e in
    subst (λ (b : List X). I b z) (append_assoc before (x ∷ []) xs) (each_kept I step keep (before ++ x ∷ []) xs m.0 z (keep before x y m.0 i m.1) m.2)

-- ---- a list of lists

pub bind_assoc : {A B C : Type 0} (r : Result A FaultAt) (f : A → Result B FaultAt) (g : B → Result C FaultAt) → ((r >>= f) >>= g) ≡ (r >>= λ x. f x >>= g)
bind_assoc (Ok x) f g = refl
bind_assoc (Err e) f g = refl

pub bind_same : {A B : Type 0} (r : Result A FaultAt) (f g : A → Result B FaultAt) → ((x : A) → f x ≡ g x) → (r >>= f) ≡ (r >>= g)
bind_same (Ok x) f g same = same x
bind_same (Err e) f g same = refl

each_append : {X Y : Type 0} (step : Y → X → Result Y FaultAt) (y : Y) (xs ys : List X) → each step y (xs ++ ys) ≡ (each step y xs >>= λ z. each step z ys)
unfolding each
each_append step y [] ys = refl
each_append step y (x ∷ xs) ys =
    bind_same (step y x) (λ z. each step z (xs ++ ys)) (λ z. each step z xs >>= λ w. each step w ys) (λ z. each_append step z xs ys)
    ∙ sym (bind_assoc (step y x) (λ z. each step z xs) (λ w. each step w ys))

pub each_flat : {B X Y : Type 0} (step : Y → X → Result Y FaultAt) (items : B → List X) (y : Y) (bs : List B) → each (λ z b. each step z (items b)) y bs ≡ each step y (flat_map items bs)
unfolding each
each_flat step items y [] = refl
each_flat step items y (b ∷ bs) =
    bind_same (each step y (items b)) (λ z. each (λ w c. each step w (items c)) z bs) (λ z. each step z (flat_map items bs)) (λ z. each_flat step items z bs)
    ∙ sym (each_append step y (items b) (flat_map items bs))

-- ---- the list of faults

-- where what stands before is not asked
pub each_by_itself : {X Y : Type 0} (f : X → List Y) (before xs : List X) → beside (λ b x. f x) before xs ≡ flat_map f xs
unfolding beside
each_by_itself f before [] = refl
each_by_itself f before (x ∷ xs) = ap (λ (ys : List _). f x ++ ys) (each_by_itself f (before ++ x ∷ []) xs)

pub beside_append : {X Y : Type 0} (fs : List X → X → List Y) (before xs ys : List X) → beside fs before (xs ++ ys) ≡ beside fs before xs ++ beside fs (before ++ xs) ys
unfolding beside
beside_append fs before [] ys = ap (λ (b : List _). beside fs b ys) (sym (append-nil before))
beside_append fs before (x ∷ xs) ys =
    ap (λ (zs : List _). fs before x ++ zs) (beside_append fs (before ++ x ∷ []) xs ys ∙ ap (λ (b : List _). beside fs (before ++ x ∷ []) xs ++ beside fs b ys) (append_assoc before (x ∷ []) xs))
    ∙ sym (append_assoc (fs before x) (beside fs (before ++ x ∷ []) xs) (beside fs (before ++ x ∷ xs) ys))
