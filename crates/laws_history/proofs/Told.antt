-- What a store kept is chosen from the next load back.
use Rattle.std.proofs.Common.{◌≡◌, ℕ, Bool, true, false, cond, List, [], ◌∷◌, Option, Some, None, refl, sym, ap, ◌∙◌, subst, inl, inr}
use Rattle.std.proofs.lemmas.Bool.{cases_eq}
use Rattle.vr_model.specs.Replicas.{Outcome, put}
use Rattle.vr_model.specs.World.{Done, Lost, saved_view, down, Went, SaveFailed}
use Rattle.laws_history.proofs.Tables.{put_same, put_other}
use Rattle.vr_model.specs.Steps.{Step, Acts, Crashes, ComesUp, LocalState, acts, effect_of, after, ends, sends_of, May, AreSteps, first_local_state}
use Rattle.vr_model.specs.Stores.{Observation, Did, LostStep, LostSave, Crashed, CameUp, StayedDown, shown, KnownState, only, settles, adds, local_state, all_shown, next, MayShow, AreObservations, last_known_state, first_known_state, AreTold}

only_is : (u v : ℕ) → only u v ≡ true → v ≡ u
only_is u v e = elim (cases_eq v u) [
  | inl same ↦ same
  | inr ne ↦ absurd (let c : false ≡ true = sym (put_other (λ x. false) u true v ne) ∙ e in cc)
]

-- the view before a save that was made
settled : (k : ℕ → Bool) (s : Option ℕ) (later some : ℕ) → k some ≡ true → settles k s later ≡ true → (v : ℕ) × (k v ≡ true) × (saved_view v s ≡ later)
settled k None later some ks e = (later, e, refl)
settled k (Some u) later some ks e = (some, ks, sym (only_is u later e))

-- the view before a save that was made or not, and whether it was
added : (k : ℕ → Bool) (s : Option ℕ) (later some : ℕ) → k some ≡ true → adds k s later ≡ true → (v : ℕ) × (saved : Bool) × (k v ≡ true) × (cond saved (saved_view v s) v ≡ later)
added k None later some ks e = (later, false, e, refl)
added k (Some u) later some ks e = elim (cases_eq later u) [
  | inl same ↦ (some, true, ks, sym same)
  | inr ne ↦ (later, false, sym (put_other k u true later ne) ∙ e, refl)
]

-- there are steps of which this is what shows, from a view that the store may keep
record ToldFrom {C A : Type 0} (f i : ℕ) (answer : List C → A) (n : KnownState C) (gs : List (Observation C A)) : Type 0 where
  view : ℕ
  kept : n.may_keep view ≡ true
  steps : List (Step C A)
  shown : all_shown f i answer (local_state n view) steps ≡ gs
  right : AreSteps f i answer (local_state n view) steps
  end : (ends f i answer (local_state n view) steps).replica ≡ (last_known_state f i answer n gs).replica

-- one step before those that are told
more : {C A : Type 0} (f i : ℕ) (answer : List C → A) (n : KnownState C) (g : Observation C A) (gs : List (Observation C A)) (t : ToldFrom f i answer (next f i answer n g) gs) (v : ℕ) (s : Step C A)
    → n.may_keep v ≡ true → shown (local_state n v) s ≡ g → May f i answer (local_state n v) s → sends_of s ≡ (effect_of f i answer (local_state n v) s).sends
    → after f i answer (local_state n v) s ≡ local_state (next f i answer n g) t.view → ToldFrom f i answer n (g ∷ gs)
more {C} {A} f i answer n g gs t v s kept is may sends goes = record {
  view = v;
  kept = kept;
  steps = s ∷ t.steps;
  shown = ap (λ x. x ∷ all_shown f i answer (after f i answer (local_state n v) s) t.steps) is ∙ ap (λ (xs : List (Observation C A)). g ∷ xs) (ap (λ p. all_shown f i answer p t.steps) goes ∙ t.shown);
  right = (may, sends, subst (λ p. AreSteps f i answer p t.steps) (sym goes) t.right);
  end = ap (λ p. (ends f i answer p t.steps).replica) goes ∙ t.end;
}

settles_some : (k : ℕ → Bool) (s : Option ℕ) (some : ℕ) → k some ≡ true → (v : ℕ) × (settles k s v ≡ true)
settles_some k None some ks = (some, ks)
settles_some k (Some u) some ks = (u, put_same (λ x. false) u true u refl)

adds_some : (k : ℕ → Bool) (s : Option ℕ) (some : ℕ) → k some ≡ true → (v : ℕ) × (adds k s v ≡ true)
adds_some k None some ks = (some, ks)
adds_some k (Some u) some ks = (u, put_same k u true u refl)

some_kept : {C A : Type 0} (f i : ℕ) (answer : List C → A) (n : KnownState C) (g : Observation C A) (some : ℕ) → n.may_keep some ≡ true → (v : ℕ) × ((next f i answer n g).may_keep v ≡ true)
some_kept f i answer n (Did input sends) some k = settles_some n.may_keep (acts f i answer n.replica input).saves some k
some_kept f i answer n (LostStep input) some k = adds_some n.may_keep (acts f i answer n.replica input).saves some k
some_kept f i answer n (LostSave input) some k = adds_some n.may_keep (acts f i answer n.replica input).saves some k
some_kept f i answer n Crashed some k = (some, k)
some_kept f i answer n (CameUp x loaded sends) some k = (loaded, put_same (λ x. false) loaded true loaded refl)
some_kept f i answer n (StayedDown x) some k = (some, k)

earlier : {C A : Type 0} (f i : ℕ) (answer : List C → A) (n : KnownState C) (g : Observation C A) (gs : List (Observation C A)) (some : ℕ) → n.may_keep some ≡ true
    → MayShow f i answer n g → ToldFrom f i answer (next f i answer n g) gs → ToldFrom f i answer n (g ∷ gs)
earlier {C} {A} f i answer n (Did input sends) gs some k may t =
    let o : Outcome C A = acts f i answer n.replica input in
    let x = settled n.may_keep o.saves t.view some k t.kept in
    let at : ℕ → LocalState C = (λ z. record { replica = o.replica; store = z; used = n.used }) in
    more f i answer n (Did input sends) gs t x.0 (Acts input (Went Done) sends) x.1 refl tt may (ap at x.2)
earlier {C} {A} f i answer n (LostStep input) gs some k may t =
    let x = added n.may_keep (acts f i answer n.replica input).saves t.view some k t.kept in
    let at : ℕ → LocalState C = (λ z. record { replica = n.replica; store = z; used = n.used }) in
    more f i answer n (LostStep input) gs t x.0 (Acts input (Went (Lost x.1)) []) x.2 refl may refl (ap at x.3)
earlier {C} {A} f i answer n (LostSave input) gs some k may t =
    let x = added n.may_keep (acts f i answer n.replica input).saves t.view some k t.kept in
    let at : ℕ → LocalState C = (λ z. record { replica = down n.replica; store = z; used = n.used }) in
    more f i answer n (LostSave input) gs t x.0 (Acts input (SaveFailed x.1) []) x.2 refl may refl (ap at x.3)
earlier f i answer n Crashed gs some k may t = more f i answer n Crashed gs t t.view Crashes t.kept refl tt refl refl
earlier {C} {A} f i answer n (CameUp x loaded sends) gs some k may t =
    let at : ℕ → LocalState C = (λ z. record { replica = (next f i answer n (CameUp x loaded sends)).replica; store = z; used = put n.used x true }) in
    more f i answer n (CameUp x loaded sends) gs t loaded (ComesUp x Done sends) may.2 refl (may.0, may.1) may.3 (ap at (sym (only_is loaded t.view t.kept)))
earlier f i answer n (StayedDown x) gs some k may t = more f i answer n (StayedDown x) gs t t.view (ComesUp x (Lost false) []) t.kept refl (may.0, may.1) refl refl

told : {C A : Type 0} (f i : ℕ) (answer : List C → A) (n : KnownState C) (gs : List (Observation C A)) (some : ℕ) → n.may_keep some ≡ true → AreObservations f i answer n gs → ToldFrom f i answer n gs
told f i answer n [] some k are = record { view = some; kept = k; steps = []; shown = refl; right = tt; end = refl }
told f i answer n (g ∷ gs) some k are =
    let x = some_kept f i answer n g some k in
    earlier f i answer n g gs some k are.0 (told f i answer (next f i answer n g) gs x.0 x.1 are.1)

pub first_told : {C A : Type 0} (f i : ℕ) (answer : List C → A) (gs : List (Observation C A)) → AreObservations f i answer first_known_state gs → AreTold f i answer gs
first_told {C} {A} f i answer gs are =
    let t : ToldFrom f i answer first_known_state gs = told f i answer first_known_state gs 0 (put_same (λ x. false) 0 true 0 refl) are in
    let is : local_state first_known_state t.view ≡ first_local_state = ap (λ v. local_state {C = C} first_known_state v) (only_is 0 t.view t.kept) in
    record {
      steps = t.steps;
      shown = ap (λ n. all_shown f i answer n t.steps) (sym is) ∙ t.shown;
      right = subst (λ n. AreSteps f i answer n t.steps) is t.right;
      end = ap (λ n. (ends f i answer n t.steps).replica) (sym is) ∙ t.end;
    }
