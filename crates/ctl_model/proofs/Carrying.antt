-- A change carries over what goes on, and leaves a state that suits the new program.
use Rattle.std.proofs.Common.{◌≡◌, ℕ, zero, suc, Bool, true, false, cond, List, [], ◌∷◌, ◌++◌, length, map, Option, Some, None, refl, sym, ap, subst, ◌∙◌, arith}
use Rattle.std.specs.Prelude.{slice_get, unwrap_or, is_none, is_some, position, if◌then◌else◌}
use Rattle.std.specs.Option.{option_map, option_and_then}
use Rattle.std.proofs.lemmas.Bool.{eq-eqb}
use Rattle.std.proofs.lemmas.List.{length-map}
use Rattle.std.proofs.lemmas.Option.{slice_get-map}
use Rattle.std.proofs.lemmas.Slice.Eq.{bytes_eq-Decides}
use Rattle.il_values.specs.declared.value.Ty.{Ty}
use Rattle.il_values.specs.declared.value.Value.{Value}
use Rattle.il_model.specs.declared.program.Variable.{Variable}
use Rattle.il_model.specs.declared.program.Instance.{Instance}
use Rattle.il_model.specs.declared.program.Loc.{Loc}
use Rattle.il_values.specs.Values.{ty_of}
use Rattle.il_model.specs.Words.{same_name}
use Rattle.il_model.specs.Row.{same_type}
use Rattle.il_model.specs.Kinds.{kind_code}
use Rattle.il_model.specs.Program.{Program}
use Rattle.il_model.specs.Fits.{IsVariable, IsInstance, AreItems, IsProgram}
use Rattle.il_model.proofs.RowTypes.{and_yes, same_type_is}
use Rattle.il_model.proofs.Positions.{position_first, position_later}
use Rattle.ctl_model.specs.State.{State, BlockInstance, has_own, cold_instance}
use Rattle.ctl_model.specs.Suits.{KeepFirsts, HasValues, Suits, IsInstanceOf, AreInstances}
use Rattle.ctl_model.specs.Changes.{GoesOn, GoesOnAs, goes_on, goes_on_as, kept_by, kept_value, kept_instance, placed_by, carried_value, carried_instance, carried_state, CarriesOver}
use Rattle.ctl_model.proofs.Apart.{absent, variables_apart, instances_apart}
use Rattle.ctl_model.proofs.ColdSuits.{variable_ty, at_start}
use Rattle.ctl_model.proofs.Instances.{cold_is}
use Rattle.ctl_model.proofs.Fitting.{and_both, same_type_self, kind_same}

-- ---- the tests tell what goes on

none_of : (o : Option Loc) → is_none o ≡ true → o ≡ None
none_of None e = refl
none_of (Some loc) e = absurd cc

pub goes_on_is : (u v : Variable) → goes_on u v ≡ true → GoesOn u v
goes_on_is u v h =
    let a = and_yes (same_name u.name v.name) _ h in
    let b = and_yes (same_type u.ty v.ty) _ a.1 in
    let c = and_yes (has_own u) (has_own v) b.1 in
    record { name = (bytes_eq-Decides u.name v.name).0 a.0; type = same_type_is u.ty v.ty b.0; before = none_of u.location c.0; after = none_of v.location c.1 }

pub is_goes_on : (u v : Variable) → GoesOn u v → goes_on u v ≡ true
is_goes_on u v is =
    and_both (same_name u.name v.name) _ ((bytes_eq-Decides u.name v.name).1 is.name)
    (and_both (same_type u.ty v.ty) _ (ap (same_type u.ty) (sym is.type) ∙ same_type_self u.ty) (and_both (has_own u) (has_own v) (ap is_none is.before) (ap is_none is.after)))

pub goes_on_as_is : (x y : Instance) → goes_on_as x y ≡ true → GoesOnAs x y
goes_on_as_is x y h =
    let a = and_yes (same_name x.name y.name) _ h in
    record { name = (bytes_eq-Decides x.name y.name).0 a.0; kind = kind_same x.kind y.kind a.1 }

pub is_goes_on_as : (x y : Instance) → GoesOnAs x y → goes_on_as x y ≡ true
is_goes_on_as x y is =
    and_both (same_name x.name y.name) _ ((bytes_eq-Decides x.name y.name).1 is.name) (eq-eqb (kind_code x.kind) (kind_code y.kind) (ap kind_code is.kind))

false_by : (b : Bool) → (b ≡ true → ⊥) → b ≡ false
false_by true never = absurd (never refl)
false_by false never = refl

-- ---- what stands beside the one that passes

found_at : {X : Type 0} (p : X → Bool) (xs : List X) (i : ℕ) (x : X) → slice_get xs i ≡ Some x → p x ≡ true → ((k : ℕ) (z : X) → slice_get xs k ≡ Some z → p z ≡ true → k ≡ i) → position p xs ≡ Some i
found_at p [] i x there e one = absurd cc
found_at p (z ∷ xs) zero x there e one = let is : z ≡ x = cc in position_first p z xs (ap p is ∙ e)
found_at p (z ∷ xs) (suc i) x there e one =
    position_later p z xs (false_by (p z) (λ f. let same = one 0 z refl f in absurd (omega (arith, same))))
    ∙ ap (option_map suc) (found_at p xs i x there e (λ k w at f. let same = one (suc k) w at f in omega (arith, same)))

kept_there : {X Y : Type 0} (p : X → Bool) (xs : List X) (ys : List Y) (i : ℕ) (x : X) → slice_get xs i ≡ Some x → p x ≡ true → ((k : ℕ) (z : X) → slice_get xs k ≡ Some z → p z ≡ true → k ≡ i) → kept_by p xs ys ≡ slice_get ys i
kept_there p xs ys i x there e one = ap (option_and_then (slice_get ys)) (found_at p xs i x there e one)

found_nowhere : {X : Type 0} (p : X → Bool) (xs : List X) → ((k : ℕ) (z : X) → slice_get xs k ≡ Some z → p z ≡ false) → position p xs ≡ None
found_nowhere p [] never = refl
found_nowhere p (z ∷ xs) never = position_later p z xs (never 0 z refl) ∙ ap (option_map suc) (found_nowhere p xs (λ k w at. never (suc k) w at))

kept_nothing : {X Y : Type 0} (p : X → Bool) (xs : List X) (ys : List Y) → ((k : ℕ) (z : X) → slice_get xs k ≡ Some z → p z ≡ false) → kept_by p xs ys ≡ None
kept_nothing p xs ys never = ap (option_and_then (slice_get ys)) (found_nowhere p xs never)

-- where one is found, one passes
pub record PassesAt {X : Type 0} (p : X → Bool) (xs : List X) (place : ℕ) : Type 0 where
  pub item : X
  pub there : slice_get xs place ≡ Some item
  pub passes : p item ≡ true

passes_later : {X : Type 0} (p : X → Bool) (z : X) (xs : List X) (k : ℕ) (o : Option ℕ) → position p xs ≡ o → option_map suc o ≡ Some k → ((j : ℕ) → position p xs ≡ Some j → PassesAt p xs j) → PassesAt p (z ∷ xs) k
passes_later p z xs k None e f more = absurd cc
passes_later p z xs k (Some j) e f more =
    let is : suc j ≡ k = cc in
    let r = more j e in
    record { item = r.item; there = ap (slice_get (z ∷ xs)) (sym is) ∙ r.there; passes = r.passes }

passes_by : {X : Type 0} (p : X → Bool) (z : X) (xs : List X) (k : ℕ) (b : Bool) → p z ≡ b → position p (z ∷ xs) ≡ Some k → ((j : ℕ) → position p xs ≡ Some j → PassesAt p xs j) → PassesAt p (z ∷ xs) k
passes_by p z xs k true e h more =
    let first : Some 0 ≡ Some k = sym (position_first p z xs e) ∙ h in
    let is : 0 ≡ k = cc in
    record { item = z; there = ap (slice_get (z ∷ xs)) (sym is); passes = e }
passes_by p z xs k false e h more = passes_later p z xs k (position p xs) refl (sym (position_later p z xs e) ∙ h) more

passes_at : {X : Type 0} (p : X → Bool) (xs : List X) (k : ℕ) → position p xs ≡ Some k → PassesAt p xs k
passes_at p [] k h = absurd cc
passes_at p (z ∷ xs) k h = passes_by p z xs k (p z) refl h (λ j e. passes_at p xs j e)

-- ---- what is found by its name

abbrev StandsOnce : {X : Type 0} → (X → Bool) → List X → Type 0
StandsOnce {X = X} p xs = (k i : ℕ) (y x : X) → slice_get xs k ≡ Some y → slice_get xs i ≡ Some x → p y ≡ true → p x ≡ true → k ≡ i

placed_at : {X : Type 0} (p q : X → Bool) (xs : List X) (i : ℕ) (x : X) (b : Bool) → ((z : X) → q z ≡ true → p z ≡ true) → StandsOnce p xs → slice_get xs i ≡ Some x → p x ≡ true → q x ≡ b → cond b (Some i) None ≡ position q xs
placed_at p q xs i x true narrower once there e f = sym (found_at q xs i x there f (λ k z at g. once k i z x at there (narrower z g) e))
placed_at p q xs i x false narrower once there e f =
    sym (found_nowhere q xs (λ k z at. false_by (q z) (λ g.
    let same = once k i z x at there (narrower z g) e in
    let is : Some z ≡ Some x = sym at ∙ ap (slice_get xs) same ∙ there in
    let here : z ≡ x = cc in
    let yes = ap q (sym here) ∙ g in
    no_truth (sym f ∙ yes))))
  where
    no_truth : false ≡ true → ⊥
    no_truth h = cc

placed_some : {X : Type 0} (p q : X → Bool) (xs : List X) (o : Option ℕ) → position p xs ≡ o → ((z : X) → q z ≡ true → p z ≡ true) → StandsOnce p xs → placed_by q xs o ≡ position q xs
placed_some p q xs None e narrower once =
    sym (found_nowhere q xs (λ k z at. false_by (q z) (λ f. (let no = absent p xs k z (ap is_some e) at in let yes = narrower z f in no_truth (sym no ∙ yes)))))
  where
    no_truth : false ≡ true → ⊥
    no_truth h = cc
placed_some p q xs (Some i) e narrower once =
    let r = passes_at p xs i e in
    ap (option_and_then (λ x. if q x then Some i else None)) r.there ∙ placed_at p q xs i r.item (q r.item) narrower once r.there r.passes refl

pub variable_placed : (us : List Variable) (v : Variable) → AreItems IsVariable [] us → placed_by (λ u. goes_on u v) us (position (λ (u : Variable). same_name u.name v.name) us) ≡ position (λ u. goes_on u v) us
variable_placed us v are =
    placed_some (λ (u : Variable). same_name u.name v.name) (λ u. goes_on u v) us (position (λ (u : Variable). same_name u.name v.name) us) refl
    (λ u e. (and_yes (same_name u.name v.name) _ e).0)
    (λ k i y x at there e f. variables_apart us are k i y x at there ((bytes_eq-Decides y.name v.name).0 e ∙ sym ((bytes_eq-Decides x.name v.name).0 f)))

pub instance_placed : (vs : List Variable) (xs : List Instance) (y : Instance) → AreItems (IsInstance vs) [] xs → placed_by (λ x. goes_on_as x y) xs (position (λ (x : Instance). same_name x.name y.name) xs) ≡ position (λ x. goes_on_as x y) xs
instance_placed vs xs y are =
    placed_some (λ (x : Instance). same_name x.name y.name) (λ x. goes_on_as x y) xs (position (λ (x : Instance). same_name x.name y.name) xs) refl
    (λ x e. (and_yes (same_name x.name y.name) _ e).0)
    (λ k i z x at there e f. instances_apart vs xs are k i z x at there ((bytes_eq-Decides z.name y.name).0 e ∙ sym ((bytes_eq-Decides x.name y.name).0 f)))

-- what stands beside something stands beside one that passes
pub record StandsBeside {X Y : Type 0} (p : X → Bool) (xs : List X) (ys : List Y) (y : Y) : Type 0 where
  pub place : ℕ
  pub item : X
  pub there : slice_get xs place ≡ Some item
  pub passes : p item ≡ true
  pub beside : slice_get ys place ≡ Some y

beside_by : {X Y : Type 0} (p : X → Bool) (xs : List X) (ys : List Y) (y : Y) (o : Option ℕ) → position p xs ≡ o → option_and_then (slice_get ys) o ≡ Some y → StandsBeside p xs ys y
beside_by p xs ys y None e h = absurd cc
beside_by p xs ys y (Some k) e h = let r = passes_at p xs k e in record { place = k; item = r.item; there = r.there; passes = r.passes; beside = h }

kept_beside : {X Y : Type 0} (p : X → Bool) (xs : List X) (ys : List Y) (y : Y) → kept_by p xs ys ≡ Some y → StandsBeside p xs ys y
kept_beside p xs ys y h = beside_by p xs ys y (position p xs) refl h

-- ---- what the new state has

mapped : {X Y : Type 0} (f : X → Y) (xs : List X) (j : ℕ) (x : X) → slice_get xs j ≡ Some x → slice_get (map f xs) j ≡ Some (f x)
mapped f xs j x there = slice_get-map f xs j ∙ ap (option_map f) there

some_inside : {Y : Type 0} (o p : Option Y) (d : Y) → o ≡ p → is_none p ≡ false → Some (unwrap_or o d) ≡ p
some_inside o None d e some = absurd cc
some_inside o (Some y) d e some = ap (λ q. Some (unwrap_or q d)) e

there_some : {X Y : Type 0} (xs : List X) (ys : List Y) (i : ℕ) (x : X) → length xs ≡ length ys → slice_get xs i ≡ Some x → is_none (slice_get ys i) ≡ false
there_some [] ys i x len there = absurd cc
there_some (z ∷ xs) [] i x len there = absurd cc
there_some (z ∷ xs) (y ∷ ys) zero x len there = refl
there_some (z ∷ xs) (y ∷ ys) (suc i) x len there = there_some xs ys i x (omega (arith, len)) there

-- ---- variables

value_kept : (us : List Variable) (own : List Value) (i : ℕ) (u v : Variable) → AreItems IsVariable [] us → slice_get us i ≡ Some u → GoesOn u v → kept_value us own v ≡ slice_get own i
value_kept us own i u v are there is =
    kept_there (λ w. goes_on w v) us own i u there (is_goes_on u v is) (λ k w at f. variables_apart us are k i w u at there (let g = goes_on_is w v f in g.name ∙ sym is.name))

value_first : (us : List Variable) (own : List Value) (v : Variable) → ((i : ℕ) (u : Variable) → slice_get us i ≡ Some u → GoesOn u v → ⊥) → carried_value us own v ≡ v.initial
value_first us own v never = ap (λ o. unwrap_or o v.initial) (kept_nothing (λ w. goes_on w v) us own (λ k w at. false_by (goes_on w v) (λ e. never k w at (goes_on_is w v e))))

value_typed : (us : List Variable) (own : List Value) (v : Variable) (o : Option Value) → map ty_of own ≡ map (λ u. u.ty) us → ty_of v.initial ≡ v.ty → kept_value us own v ≡ o → ty_of (unwrap_or o v.initial) ≡ v.ty
value_typed us own v None types first e = first
value_typed us own v (Some x) types first e =
    let r = kept_beside (λ w. goes_on w v) us own x e in
    let g = goes_on_is r.item v r.passes in
    let a : Some (ty_of x) ≡ Some (r.item.ty) = sym (mapped ty_of own r.place x r.beside) ∙ ap (λ ts. slice_get ts r.place) types ∙ mapped (λ (u : Variable). u.ty) us r.place r.item r.there in
    let b : ty_of x ≡ r.item.ty = cc in b ∙ g.type

values_typed : (us : List Variable) (own : List Value) (seen vs : List Variable) → map ty_of own ≡ map (λ u. u.ty) us → AreItems IsVariable seen vs → map ty_of (map (carried_value us own) vs) ≡ map (λ (v : Variable). v.ty) vs
values_typed us own seen [] types are = refl
values_typed us own seen (v ∷ vs) types are =
    ap (λ (t : Ty). t ∷ map ty_of (map (carried_value us own) vs)) (value_typed us own v (kept_value us own v) types (variable_ty seen v are.0) refl)
    ∙ ap (λ (ts : List Ty). v.ty ∷ ts) (values_typed us own (seen ++ v ∷ []) vs types are.1)

located : (v : Variable) → has_own v ≡ false → v.location ≡ None → ⊥
located v own e = let f = ap is_none e in cc

firsts_stay : (us : List Variable) (own : List Value) (vs : List Variable) → KeepFirsts vs (map (carried_value us own) vs)
firsts_stay us own vs = λ i v there none. mapped (carried_value us own) vs i v there ∙ ap (λ x. Some x) (value_first us own v (λ k u at is. located v none is.after))

-- ---- instances

instances_long : (ds : List Instance) (xs : List BlockInstance) → AreInstances ds xs → length ds ≡ length xs
instances_long [] [] are = refl
instances_long [] (x ∷ xs) are = absurd are
instances_long (d ∷ ds) [] are = absurd are
instances_long (d ∷ ds) (x ∷ xs) are = let more = instances_long ds xs are.1 in omega (arith, more)

instance_is : (ds : List Instance) (xs : List BlockInstance) (i : ℕ) (d : Instance) (x : BlockInstance) → AreInstances ds xs → slice_get ds i ≡ Some d → slice_get xs i ≡ Some x → IsInstanceOf d.kind x
instance_is [] [] i d x are here there = absurd cc
instance_is [] (y ∷ xs) i d x are here there = absurd are
instance_is (c ∷ ds) [] i d x are here there = absurd are
instance_is (c ∷ ds) (y ∷ xs) zero d x are here there =
    let a : c ≡ d = cc in let b : y ≡ x = cc in subst (λ (c : Instance). IsInstanceOf c.kind x) a (subst (λ (y : BlockInstance). IsInstanceOf c.kind y) b are.0)
instance_is (c ∷ ds) (y ∷ xs) (suc i) d x are here there = instance_is ds xs i d x are.1 here there

instance_kept : (vs : List Variable) (ds : List Instance) (xs : List BlockInstance) (i : ℕ) (d y : Instance) → AreItems (IsInstance vs) [] ds → slice_get ds i ≡ Some d → GoesOnAs d y → kept_instance ds xs y ≡ slice_get xs i
instance_kept vs ds xs i d y are there is =
    kept_there (λ e. goes_on_as e y) ds xs i d there (is_goes_on_as d y is) (λ k e at f. instances_apart vs ds are k i e d at there (let g = goes_on_as_is e y f in g.name ∙ sym is.name))

instance_cold : (ds : List Instance) (xs : List BlockInstance) (y : Instance) → ((i : ℕ) (d : Instance) → slice_get ds i ≡ Some d → GoesOnAs d y → ⊥) → carried_instance ds xs y ≡ cold_instance y
instance_cold ds xs y never = ap (λ o. unwrap_or o (cold_instance y)) (kept_nothing (λ e. goes_on_as e y) ds xs (λ k d at. false_by (goes_on_as d y) (λ e. never k d at (goes_on_as_is d y e))))

instance_of_kind : (ds : List Instance) (xs : List BlockInstance) (y : Instance) (o : Option BlockInstance) → AreInstances ds xs → kept_instance ds xs y ≡ o → IsInstanceOf y.kind (unwrap_or o (cold_instance y))
instance_of_kind ds xs y None are e = cold_is y
instance_of_kind ds xs y (Some x) are e =
    let r = kept_beside (λ d. goes_on_as d y) ds xs x e in
    let g = goes_on_as_is r.item y r.passes in
    subst (λ kind. IsInstanceOf kind x) g.kind (instance_is ds xs r.place r.item x are r.there r.beside)

instances_of_kinds : (ds : List Instance) (xs : List BlockInstance) (ys : List Instance) → AreInstances ds xs → AreInstances ys (map (carried_instance ds xs) ys)
instances_of_kinds ds xs [] are = tt
instances_of_kinds ds xs (y ∷ ys) are = (instance_of_kind ds xs y (kept_instance ds xs y) are refl, instances_of_kinds ds xs ys are)

-- ---- the whole

values_long : (us : List Variable) (own : List Value) → map ty_of own ≡ map (λ u. u.ty) us → length us ≡ length own
values_long us own e = sym (length-map us (λ (u : Variable). u.ty)) ∙ sym (ap length e) ∙ length-map own ty_of

pub carries_over : (Q : Program) (s : State) (R : Program) → IsProgram Q → HasValues Q s → CarriesOver Q s R (carried_state Q s R)
carries_over Q s R is has =
    let long = values_long Q.variables s.own has.own in
    let many = instances_long Q.instances s.instances has.instances in
    record {
      kept = λ i j u v here there on. mapped (carried_value Q.variables s.own) R.variables j v there
          ∙ some_inside (kept_value Q.variables s.own v) (slice_get s.own i) v.initial (value_kept Q.variables s.own i u v is.variables here on) (there_some Q.variables s.own i u long here);
      first = λ j v there never. mapped (carried_value Q.variables s.own) R.variables j v there ∙ ap (λ x. Some x) (value_first Q.variables s.own v never);
      kept_instances = λ i j x y here there on. mapped (carried_instance Q.instances s.instances) R.instances j y there
          ∙ some_inside (kept_instance Q.instances s.instances y) (slice_get s.instances i) (cold_instance y) (instance_kept Q.variables Q.instances s.instances i x y is.instances here on) (there_some Q.instances s.instances i x many here);
      cold_instances = λ j y there never. mapped (carried_instance Q.instances s.instances) R.instances j y there ∙ ap (λ x. Some x) (instance_cold Q.instances s.instances y never);
      input = refl;
      output = refl;
      memory = refl;
    }

pub carried_suits : (Q : Program) (s : State) (R : Program) → IsProgram R → HasValues Q s → Suits R (carried_state Q s R)
carried_suits Q s R is has =
    at_start R (carried_state Q s R) (record {
      own = values_typed Q.variables s.own [] R.variables has.own is.variables;
      firsts = firsts_stay Q.variables s.own R.variables;
      instances = instances_of_kinds Q.instances s.instances R.instances has.instances;
      input = has.input;
      output = has.output;
      memory = has.memory;
    }) refl refl refl
