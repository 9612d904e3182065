-- The walk over the units of a text: the program is the last one's, and the first fault is that of the first that has
-- one.
use Rattle.std.proofs.Common.{◌≡◌, ◌⊎◌, inr, ℕ, ◌+◌, ◌<◌, ◌≤◌, Bool, true, List, [], ◌∷◌, ◌++◌, length, drop, map, get_or, Result, Ok, Err, refl, sym, ap, subst, ◌∙◌}
use Rattle.std.specs.Prelude.{IfOk, IfErr}
use Rattle.std.proofs.lemmas.List.{at_drop_all}
use Rattle.il_model.specs.Program.{Program}
use Rattle.il_model.specs.Declarable.{IsDeclared}
use Rattle.il_model.specs.Settled.{IsTypedProgramOf}
use Rattle.il_units.specs.Units.{UnitText}
use Rattle.il_units.specs.Spelling.{has_units, SaysUnits}
use Rattle.il_units.specs.Flats.{FlatUnit}
use Rattle.il_units.specs.Expansion.{flat_of, flats_from, text_of, last_text, expanded}
use Rattle.il_text.specs.declared.fault.Fault.{Fault}
use Rattle.il_text.specs.declared.fault.Fault.TheVariants as faults
use Rattle.il_text.specs.Meaning.{IsPlainProgramOf, IsGoodUnit, AreGood, MeansBy, Means, IsProgramOf, IsUnitFault, HasUnitFault, IsUnitsReadFault, IsUnitsFault, OrMemory}
use Rattle.il_text.proofs.UnitMeaning.{plain_is}
use Rattle.il_text.proofs.UnitPrograms.{flats_go_on, fault_here, fault_later, good_later, last_is}
use Rattle.il_text.proofs.UnitTold.{or_more}

-- the program of the last of the units so far
abbrev pub IsLast : List FlatUnit → Result Program Fault → Type 0
IsLast above (Ok P) = IsDeclared P × IsPlainProgramOf (last_text above) P × ((Q : Program) × IsTypedProgramOf P Q)
IsLast above (Err e) = e ≡ faults.Memory

-- what the walk knows of the units that are left, behind those above
pub record Walks {A : Type 0} (text : List ℕ) (f : A → UnitText) (xs : List A) (i : ℕ) (above : List FlatUnit) (last : Result Program Fault) : Type 0 where
  pub flats : flats_from text above (map f (drop i xs)) ≡ flats_from text [] (map f xs)
  pub fault : (told : Fault) → HasUnitFault text above (map f (drop i xs)) told → HasUnitFault text [] (map f xs) told
  pub good : AreGood text above (map f (drop i xs)) → AreGood text [] (map f xs)
  pub program : IsLast above last

pub begins : {A : Type 0} (text : List ℕ) (f : A → UnitText) (xs : List A) (above : List FlatUnit) → above ≡ [] → Walks text f xs 0 above (Err faults.Memory)
begins text f xs above none =
    let W : List FlatUnit → Type 0 = λ us. Walks text f xs 0 us (Err faults.Memory) in
    subst W (sym none) (record { flats = refl; fault = λ told h. h; good = λ g. g; program = refl })

-- the program of a good unit fits the types
typed_of : (text : List ℕ) (above : List FlatUnit) (unit : UnitText) (u : FlatUnit) (P : Program) → u ≡ flat_of text above unit → IsPlainProgramOf (text_of u) P → IsGoodUnit text above unit → (Q : Program) × IsTypedProgramOf P Q
typed_of text above unit u P is plain good =
    let same = plain_is (text_of (flat_of text above unit)) good.1 P good.3 (subst (λ (v : FlatUnit). IsPlainProgramOf (text_of v) P) is plain) in
    (good.2, subst (λ (R : Program). IsTypedProgramOf R good.2) same good.4)

-- one good unit more
pub goes_on : {A : Type 0} (text t : List ℕ) (f : A → UnitText) (xs : List A) (i : ℕ) (x : A) (above vs more : List FlatUnit) (u : FlatUnit) (P : Program) (last : Result Program Fault)
    → t ≡ text → vs ≡ above → i < length xs → x ≡ get_or xs i x → u ≡ flat_of t vs (f x) → more ≡ above ++ u ∷ [] → IsDeclared P → IsPlainProgramOf (text_of u) P → IsGoodUnit t vs (f x)
    → Walks text f xs i above last → Walks text f xs (i + 1) more (Ok P)
goes_on text t f xs i x above vs more u P last same_text same_above lt item is_flat all declared plain is_good so_far =
    let is : u ≡ flat_of text above (f x) = subst (λ (s : List ℕ). u ≡ flat_of s above (f x)) same_text (subst (λ (us : List FlatUnit). u ≡ flat_of t us (f x)) same_above is_flat) in
    let good : IsGoodUnit text above (f x) = subst (λ (s : List ℕ). IsGoodUnit s above (f x)) same_text (subst (λ (us : List FlatUnit). IsGoodUnit t us (f x)) same_above is_good) in
    let next = above ++ flat_of text above (f x) ∷ [] in
    let same : next ≡ more = ap (λ (v : FlatUnit). above ++ v ∷ []) (sym is) ∙ sym all in
    let W : List FlatUnit → Type 0 = λ us. Walks text f xs (i + 1) us (Ok P) in
    let here : IsPlainProgramOf (last_text next) P = subst (λ (s : List ℕ). IsPlainProgramOf s P) (sym (last_is above (flat_of text above (f x)))) (subst (λ (v : FlatUnit). IsPlainProgramOf (text_of v) P) is plain) in
    subst W same (record {
      flats = flats_go_on text f xs i x above (flats_from text [] (map f xs)) lt item so_far.flats;
      fault = λ told h. so_far.fault told (fault_later text f xs i x above told lt item good h);
      good = λ g. so_far.good (good_later text f xs i x above lt item good g);
      program = (declared, here, typed_of text above (f x) u P is plain good);
    })

-- what is told of a unit is told of the text
pub units_refused : {A : Type 0} (text t : List ℕ) (us : List UnitText) (f : A → UnitText) (xs : List A) (i : ℕ) (x : A) (above vs : List FlatUnit) (last : Result Program Fault) (told : Fault)
    → has_units text ≡ true → t ≡ text → vs ≡ above → SaysUnits text us → map f xs ≡ us → i < length xs → x ≡ get_or xs i x → Walks text f xs i above last
    → OrMemory (IsUnitFault t vs (f x)) told → OrMemory (λ e. IsUnitsReadFault text e ⊎ IsUnitsFault text e) told
units_refused text t us f xs i x above vs last told units_in same same_above says all lt item so_far =
    let found : IsUnitFault t vs (f x) told → HasUnitFault text [] us told = λ a.
    let here : IsUnitFault text above (f x) told = subst (λ (s : List ℕ). IsUnitFault s above (f x) told) same (subst (λ (ws : List FlatUnit). IsUnitFault t ws (f x) told) same_above a) in
    subst (λ (ws : List UnitText). HasUnitFault text [] ws told) all (so_far.fault told (fault_here text f xs i x above told lt item here)) in
    or_more (IsUnitFault t vs (f x)) (λ e. IsUnitsReadFault text e ⊎ IsUnitsFault text e) told (λ a. inr (record { units = units_in; us = us; says = says; fault = found a }))

-- all units are good, and the last one's program is the text's
program_is : {A : Type 0} (text : List ℕ) (us : List UnitText) (f : A → UnitText) (xs : List A) (i : ℕ) (above : List FlatUnit) (last : Result Program Fault) (P : Program)
    → has_units text ≡ true → SaysUnits text us → map f xs ≡ us → length xs ≤ i → Walks text f xs i above last → IsPlainProgramOf (last_text above) P → IsProgramOf text P
unfolding flats_from
program_is text us f xs i above last P units_in says all le so_far plain =
    let none : map f (drop i xs) ≡ [] = at_drop_all (map f) xs i le in
    let flats : above ≡ flats_from text [] (map f xs) = sym (ap (flats_from text above) none) ∙ so_far.flats in
    let good : AreGood text [] (map f xs) = so_far.good (subst (λ (vs : List UnitText). AreGood text above vs) (sym none) tt) in
    let all_good : AreGood text [] us = subst (λ (vs : List UnitText). AreGood text [] vs) all good in
    let text_is : last_text above ≡ expanded text us = ap last_text flats ∙ ap (λ (vs : List UnitText). last_text (flats_from text [] vs)) all in
    let said : MeansBy true text (expanded text us) = (us, says, all_good, refl) in
    let means : Means text (expanded text us) = subst (λ (b : Bool). MeansBy b text (expanded text us)) (sym units_in) said in
    record { plain = expanded text us; means = means; is = subst (λ (ts : List ℕ). IsPlainProgramOf ts P) text_is plain }

pub last_declared : (above : List FlatUnit) (last : Result Program Fault) → IsLast above last → IfOk last (λ P. IsDeclared P)
last_declared above (Ok P) h = h.0
last_declared above (Err e) h = tt

pub last_typed : (above : List FlatUnit) (last : Result Program Fault) → IsLast above last → IfOk last (λ P. (Q : Program) × IsTypedProgramOf P Q)
last_typed above (Ok P) h = h.2
last_typed above (Err e) h = tt

pub last_found : {A : Type 0} (text : List ℕ) (us : List UnitText) (f : A → UnitText) (xs : List A) (i : ℕ) (above : List FlatUnit) (last : Result Program Fault)
    → has_units text ≡ true → SaysUnits text us → map f xs ≡ us → length xs ≤ i → Walks text f xs i above last → IfOk last (λ P. IsProgramOf text P)
last_found text us f xs i above (Ok P) units_in says all le so_far = program_is text us f xs i above (Ok P) P units_in says all le so_far so_far.program.1
last_found text us f xs i above (Err e) units_in says all le so_far = tt

pub last_memory : (F : Fault → Type 0) (above : List FlatUnit) (last : Result Program Fault) → IsLast above last → IfErr last (OrMemory F)
last_memory F above (Ok P) h = tt
last_memory F above (Err e) h = inr h
