-- Names of variables, and of instances, stand once.
use Rattle.std.proofs.Common.{◌≡◌, ℕ, zero, suc, Bool, true, false, List, [], ◌∷◌, ◌++◌, length, Option, Some, None, refl, sym, ap, subst, ◌∙◌}
use Rattle.std.specs.Prelude.{slice_get, is_some, not, ◌&&◌}
use Rattle.std.specs.List.{position}
use Rattle.std.specs.Option.{option_map}
use Rattle.std.proofs.lemmas.Slice.Eq.{bytes_eq-Decides}
use Rattle.il_model.specs.declared.program.Variable.{Variable}
use Rattle.il_model.specs.declared.program.Instance.{Instance}
use Rattle.il_model.specs.Words.{same_name, is_lawful_name}
use Rattle.il_model.specs.Codes.{is_new_name}
use Rattle.il_model.specs.Resolved.{instance_in}
use Rattle.il_model.specs.Fits.{IsVariable, IsInstance, AreItems}
use Rattle.il_model.proofs.RowTypes.{and_yes}
use Rattle.il_model.proofs.Positions.{position_first, position_later}

-- ---- places in lists

pub get_front : {X : Type 0} (xs ys : List X) (i : ℕ) (x : X) → slice_get xs i ≡ Some x → slice_get (xs ++ ys) i ≡ Some x
get_front [] ys i x e = absurd cc
get_front (z ∷ xs) ys zero x e = e
get_front (z ∷ xs) ys (suc i) x e = get_front xs ys i x e

pub get_last : {X : Type 0} (xs : List X) (x : X) → slice_get (xs ++ x ∷ []) (length xs) ≡ Some x
get_last [] x = refl
get_last (z ∷ xs) x = get_last xs x

some_map : (o : Option ℕ) → is_some (option_map suc o) ≡ is_some o
some_map None = refl
some_map (Some n) = refl

pub absent_by : {X : Type 0} (p : X → Bool) (z : X) (xs : List X) (b : Bool) → p z ≡ b → is_some (position p (z ∷ xs)) ≡ false → (b ≡ false) × (is_some (position p xs) ≡ false)
absent_by p z xs true h e = let f = ap is_some (position_first p z xs h) in absurd cc
absent_by p z xs false h e = (refl, sym (some_map (position p xs)) ∙ sym (ap is_some (position_later p z xs h)) ∙ e)

-- what isn't found passes nowhere
pub absent : {X : Type 0} (p : X → Bool) (xs : List X) (k : ℕ) (x : X) → is_some (position p xs) ≡ false → slice_get xs k ≡ Some x → p x ≡ false
absent p [] k x e there = absurd cc
absent p (z ∷ xs) zero x e there = let is : z ≡ x = cc in subst (λ y. p y ≡ false) is (absent_by p z xs (p z) refl e).0
absent p (z ∷ xs) (suc k) x e there = absent p xs k x (absent_by p z xs (p z) refl e).1 there

-- ---- items with names of their own

abbrev IsNew : {X : Type 0} → (X → List ℕ) → (List X → X → Type 0) → Type 0
IsNew {X = X} name_of IsItem = (seen : List X) (x : X) → IsItem seen x → (k : ℕ) (y : X) → slice_get seen k ≡ Some y → name_of y ≡ name_of x → ⊥

seen_apart : {X : Type 0} (name_of : X → List ℕ) (IsItem : List X → X → Type 0) → IsNew name_of IsItem → (seen xs : List X) → AreItems IsItem seen xs
    → (k : ℕ) (x : X) → slice_get xs k ≡ Some x → (i : ℕ) (y : X) → slice_get seen i ≡ Some y → name_of y ≡ name_of x → ⊥
seen_apart name_of IsItem new seen [] are k x there i y here e = absurd cc
seen_apart name_of IsItem new seen (z ∷ xs) are zero x there i y here e = let is : z ≡ x = cc in new seen z are.0 i y here (e ∙ ap name_of (sym is))
seen_apart name_of IsItem new seen (z ∷ xs) are (suc k) x there i y here e = seen_apart name_of IsItem new (seen ++ z ∷ []) xs are.1 k x there i y (get_front seen (z ∷ []) i y here) e

apart : {X : Type 0} (name_of : X → List ℕ) (IsItem : List X → X → Type 0) → IsNew name_of IsItem → (seen xs : List X) → AreItems IsItem seen xs
    → (i k : ℕ) (y x : X) → slice_get xs i ≡ Some y → slice_get xs k ≡ Some x → name_of y ≡ name_of x → i ≡ k
apart name_of IsItem new seen [] are i k y x here there e = absurd cc
apart name_of IsItem new seen (z ∷ xs) are zero zero y x here there e = refl
apart name_of IsItem new seen (z ∷ xs) are zero (suc k) y x here there e =
    let is : z ≡ y = cc in absurd (seen_apart name_of IsItem new (seen ++ z ∷ []) xs are.1 k x there (length seen) z (get_last seen z) (ap name_of is ∙ e))
apart name_of IsItem new seen (z ∷ xs) are (suc i) zero y x here there e =
    let is : z ≡ x = cc in absurd (seen_apart name_of IsItem new (seen ++ z ∷ []) xs are.1 i y here (length seen) z (get_last seen z) (ap name_of is ∙ sym e))
apart name_of IsItem new seen (z ∷ xs) are (suc i) (suc k) y x here there e = ap suc (apart name_of IsItem new (seen ++ z ∷ []) xs are.1 i k y x here there e)

-- ---- variables and instances

not_is : (b : Bool) → not b ≡ true → b ≡ false
not_is true e = absurd cc
not_is false e = refl

named_new : {X : Type 0} (name_of : X → List ℕ) (seen : List X) (name : List ℕ) → is_some (position (λ x. same_name (name_of x) name) seen) ≡ false → (k : ℕ) (y : X) → slice_get seen k ≡ Some y → name_of y ≡ name → ⊥
named_new name_of seen name none k y here e =
    let no = absent (λ x. same_name (name_of x) name) seen k y none here in
    let yes = (bytes_eq-Decides (name_of y) name).1 e in cc

variable_new : IsNew (λ (v : Variable). v.name) IsVariable
variable_new seen v is k u here e = named_new (λ (w : Variable). w.name) seen v.name (not_is _ (and_yes (is_lawful_name v.name) _ is.name).1) k u here e

instance_new : (vs : List Variable) → IsNew (λ (x : Instance). x.name) (IsInstance vs)
instance_new vs seen x is k y here e = named_new (λ (z : Instance). z.name) seen x.name (not_is _ (and_yes (is_new_name vs x.name) _ (and_yes (is_new_name vs x.name && not (is_some (instance_in seen x.name))) _ is.name).0).1) k y here e

pub variables_apart : (vs : List Variable) → AreItems IsVariable [] vs → (i k : ℕ) (u v : Variable) → slice_get vs i ≡ Some u → slice_get vs k ≡ Some v → u.name ≡ v.name → i ≡ k
variables_apart vs are i k u v here there e = apart (λ (w : Variable). w.name) IsVariable variable_new [] vs are i k u v here there e

pub instances_apart : (vs : List Variable) (xs : List Instance) → AreItems (IsInstance vs) [] xs → (i k : ℕ) (x y : Instance) → slice_get xs i ≡ Some x → slice_get xs k ≡ Some y → x.name ≡ y.name → i ≡ k
instances_apart vs xs are i k x y here there e = apart (λ (z : Instance). z.name) (IsInstance vs) (instance_new vs) [] xs are i k x y here there e
