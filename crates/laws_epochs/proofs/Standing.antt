-- What holds of all machines behind any moves.
use Rattle.std.proofs.Common.{◌≡◌, ℕ, zero, suc, ◌<◌, Bool, true, false, not, List, [], ◌∷◌, ◌++◌, Option, Some, None, refl, sym, ap, ◌∙◌, subst, inl, inr, is_some, ltb, eqb}
use Rattle.std.specs.Prelude.{slice_get}
use Rattle.std.proofs.lemmas.Bool.{false≢true, and_parts, not-true, ltb-true, eq-eqb}
use Rattle.std.proofs.lemmas.Option.{same_Some}
use Rattle.vr_model.specs.Groups.{group_size}
use Rattle.vr_model.specs.Replicas.{put}
use Rattle.laws_history.proofs.Tables.{put_cases}
use Rattle.net_hello.specs.declared.hello.Epoch.{Epoch}
use Rattle.plc_epochs.specs.GoingOn.{GoesOn, StoreGoesOn}
use Rattle.plc_epochs.specs.Recovering.{first_nonce}
use Rattle.plc_epochs.specs.Table
use Rattle.plc_epochs.specs.Table.{greeting_in, kept_in, phase_from, spoken_in, StartsAs}
use Rattle.plc_epochs.specs.declared.kept.Kept.{Kept}
use Rattle.plc_epochs.specs.declared.kept.Kept.TheVariants as keeps
use Rattle.plc_epochs.specs.declared.cold_start.ColdStart.{ColdStart}
use Rattle.plc_epochs.specs.declared.cold_start.Greeting.TheVariants.{Waits, Hello}
use Rattle.plc_epochs.specs.declared.cold_start.Phase.{Phase}
use Rattle.plc_epochs.specs.declared.cold_start.Phase.TheVariants.{Waiting, Above, Entering, Entered, Beginning, TakingPart, Recovering}
use Rattle.plc_epochs.specs.declared.cold_start.Place.{Place}
use Rattle.plc_epochs.specs.declared.cold_start.Step.{Step}
use Rattle.plc_epochs.specs.declared.recovery.Recovery.{Recovery}
use Rattle.plc_epochs.specs.declared.word.Word.{Word}
use Rattle.plc_epochs.proofs.GoingOn.{same}
use Rattle.laws_epochs.specs.Machines.{Telling, TimeHasPassed, StoreHas, HelloCame, SignCame, RecoveryCame, WordCame, ReplicaRecovered, ImageIs, Follows, WasSaid}
use Rattle.laws_epochs.specs.Machines.{Move, Starts, Takes, Greets, Writes, Stops, GoesByHand, Machine, Machines, to_write, May, after_move, AreMoves, after_moves, at_rest}
use Rattle.laws_epochs.specs.Beginnings.{HasCome, IsNoEarlier, IsPast, IsUnfrozen}
use Rattle.laws_epochs.proofs.Later.{come_on, hand_on}
use Rattle.laws_epochs.proofs.Changes.{WasHeard, IsToldBy, Done, done, epoch_in, no_hello, nothing_heard}

-- no step lets a store go back
abbrev pub GoingOn : Type 0
GoingOn = (telling : Telling) (store : Kept) (a b : ColdStart) (step : Step) → Follows telling store a step b → StoreGoesOn a b

going_by : (p q : Phase) (a b : ColdStart) → a.phase ≡ p → b.phase ≡ q → GoesOn (kept_in p) (kept_in q) → StoreGoesOn a b
going_by p q a b was is k = subst (λ x. GoesOn (kept_in x) (kept_in b.phase)) (sym was) (subst (λ x. GoesOn (kept_in p) (kept_in x)) (sym is) k)

recovered_by : (t : Bool) (epoch : Epoch) (r : Recovery) → GoesOn (keeps.Begun epoch) (kept_in (Table.recovered_if t epoch (Recovering epoch r)))
recovered_by true epoch r = refl
recovered_by false epoch r = refl

recovered_goes : (p : Phase) → GoesOn (kept_in p) (kept_in (Table.recovered_in p))
recovered_goes (Recovering epoch r) = recovered_by (not (is_some r.frozen)) epoch r
recovered_goes (Waiting heard above) = same (kept_in (Waiting heard above))
recovered_goes (Above above) = same (kept_in (Above above))
recovered_goes (Entering epoch heard) = same (kept_in (Entering epoch heard))
recovered_goes (Entered epoch heard) = same (kept_in (Entered epoch heard))
recovered_goes (Beginning epoch) = same (kept_in (Beginning epoch))
recovered_goes (TakingPart epoch) = same (kept_in (TakingPart epoch))

-- from the laws of each call
pub going_on : ((now : ℕ) (a b : ColdStart) (step : Step) → Table.Looks now a step b → StoreGoesOn a b)
    → ((has : Kept) (a b : ColdStart) (step : Step) → Table.Stores has a step b → StoreGoesOn a b)
    → ((from now : ℕ) (epoch : Epoch) (a b : ColdStart) (step : Step) → Table.HearsHello from epoch now a step b → StoreGoesOn a b)
    → ((from now : ℕ) (epoch : Epoch) (a b : ColdStart) (step : Step) → Table.HearsSign from epoch now a step b → StoreGoesOn a b)
    → ((from now : ℕ) (epoch : Epoch) (a b : ColdStart) (step : Step) → Table.HearsRecovery from epoch now a step b → StoreGoesOn a b)
    → ((from now : ℕ) (epoch : Epoch) (word : Word) (a b : ColdStart) (step : Step) → Table.HearsWord from epoch word now a step b → StoreGoesOn a b)
    → GoingOn
going_on looks stores hello sign recovery word (TimeHasPassed now) store a b step h = looks now a b step h
going_on looks stores hello sign recovery word StoreHas store a b step h = stores store a b step h
going_on looks stores hello sign recovery word (HelloCame from epoch now place) store a b step h = hello from now epoch a b step h
going_on looks stores hello sign recovery word (SignCame from epoch now) store a b step h = sign from now epoch a b step h
going_on looks stores hello sign recovery word (RecoveryCame from epoch now) store a b step h = recovery from now epoch a b step h
going_on looks stores hello sign recovery word (WordCame from epoch said now) store a b step h = word from now epoch said a b step h
going_on looks stores hello sign recovery word ReplicaRecovered store a b step h =
    going_by a.phase (Table.recovered_in a.phase) a b refl (ap (λ (x : ColdStart). x.phase) h.1) (recovered_goes a.phase)
going_on looks stores hello sign recovery word (ImageIs image) store a b step h =
    going_by a.phase a.phase a b refl (ap (λ (x : ColdStart). x.phase) h.1) (same (kept_in a.phase))

-- the value of machine i, whose store has this, where those machines have come to those epochs
pub record Fine (f : ℕ) (Came : ℕ → Epoch → Type 0) (i : ℕ) (store : Kept) (a : ColdStart) : Type 0 where
  pub number : a.place.number ≡ i
  pub group : a.place.config.f ≡ f
  pub within : i < group_size f
  pub ahead : (e : Epoch) → HasCome e store → HasCome e (kept_in a.phase)
  pub greets : (e : Epoch) → greeting_in a.phase ≡ Hello e → HasCome e store
  pub heard : (e : Epoch) (j : ℕ) → WasHeard a.phase e j → (Came j e) × (j ≡ i → ⊥) × (j < group_size f)
  pub unfrozen : a.place.is_marked ≡ true → IsUnfrozen a.phase

abbrev pub FineAt : (f : ℕ) → (ℕ → Epoch → Type 0) → ℕ → Machine → Type 0
FineAt f Came i m = (a : ColdStart) → m.runs ≡ Some a → Fine f Came i m.store a

abbrev pub CameIn : Machines → ℕ → Epoch → Type 0
CameIn w j e = HasCome e (w.at j).store

pub record Stands (f : ℕ) (w : Machines) : Type 0 where
  pub each : (i : ℕ) → FineAt f (CameIn w) i (w.at i)
  pub said : (n : ℕ) (x : ℕ × Epoch) → slice_get w.hellos n ≡ Some x → HasCome x.1 (w.at x.0).store

-- what was come to stays so
abbrev pub Rises : Machines → Machines → Type 0
Rises w v = (j : ℕ) (e : Epoch) → HasCome e (w.at j).store → HasCome e (v.at j).store

module _ (f : ℕ) where
  weaker : (Came Later : ℕ → Epoch → Type 0) (i : ℕ) (store : Kept) (a : ColdStart) → ((j : ℕ) (e : Epoch) → Came j e → Later j e) → Fine f Came i store a → Fine f Later i store a
  weaker Came Later i store a more k = record {
    number = k.number;
    group = k.group;
    within = k.within;
    ahead = k.ahead;
    greets = k.greets;
    heard = λ e j h. let x = k.heard e j h in (more j e x.0, x.1, x.2);
    unfrozen = k.unfrozen;
  }

  -- one machine changes
  changed : (w : Machines) (i : ℕ) (m : Machine) → Stands f w → ((e : Epoch) → HasCome e (w.at i).store → HasCome e m.store) → FineAt f (CameIn w) i m
      → (Stands f (record w { at = put w.at i m })) × Rises w (record w { at = put w.at i m })
  changed w i m s up fine =
      let v : Machines = record w { at = put w.at i m } in
      let risen : Rises w v = λ j e. put_cases w.at i m j (λ (x : Machine). HasCome e (w.at j).store → HasCome e x.store) (λ is h. up e (subst (λ k. HasCome e (w.at k).store) is h)) (λ other h. h) in
      let each : (j : ℕ) → FineAt f (CameIn v) j (v.at j) = λ j. put_cases w.at i m j (λ (x : Machine). FineAt f (CameIn v) j x)
      (λ is a runs. subst (λ k. Fine f (CameIn v) k m.store a) (sym is) (weaker (CameIn w) (CameIn v) i m.store a risen (fine a runs)))
      (λ other a runs. weaker (CameIn w) (CameIn v) j (w.at j).store a risen (s.each j a runs)) in
      (record { each = each; said = λ n x h. risen x.0 x.1 (s.said n x h) }, risen)

  -- the machine is now this value
  pub now : (Came : ℕ → Epoch → Type 0) (i : ℕ) (store : Kept) (b : ColdStart) → Fine f Came i store b → FineAt f Came i (record { store = store; runs = Some b })
  now Came i store b fine a runs = subst (λ x. Fine f Came i store x) (same_Some b a runs) fine

  pub down : (Came : ℕ → Epoch → Type 0) (i : ℕ) (store : Kept) → FineAt f Came i (record { store = store; runs = None })
  down Came i store a runs = absurd (false≢true (ap is_some runs))

  -- ---- a process starts

  starts_ahead : (k : Kept) (nonce since : ℕ) (e : Epoch) → HasCome e k → HasCome e (kept_in (phase_from k nonce since))
  starts_ahead keeps.Nothing nonce since e h = absurd h
  starts_ahead (keeps.Above above) nonce since e h = absurd h
  starts_ahead (keeps.Entered own) nonce since e h = h
  starts_ahead (keeps.Begun own) nonce since e h = h

  starts_greets : (k : Kept) (nonce since : ℕ) (e : Epoch) → greeting_in (phase_from k nonce since) ≡ Hello e → HasCome e k
  starts_greets keeps.Nothing nonce since e h = absurd (no_hello Waits e refl h)
  starts_greets (keeps.Above above) nonce since e h = absurd (no_hello Waits e refl h)
  starts_greets (keeps.Entered own) nonce since e h = inl (ap (epoch_in own) h)
  starts_greets (keeps.Begun own) nonce since e h = inl (ap (epoch_in own) h)

  starts_unheard : (k : Kept) (nonce since : ℕ) (e : Epoch) (j : ℕ) → WasHeard (phase_from k nonce since) e j → ⊥
  starts_unheard keeps.Nothing nonce since e j h = h
  starts_unheard (keeps.Above above) nonce since e j h = h
  starts_unheard (keeps.Entered own) nonce since e j h = nothing_heard j h.1
  starts_unheard (keeps.Begun own) nonce since e j h = h

  starts_unfrozen : (k : Kept) (nonce since : ℕ) → IsUnfrozen (phase_from k nonce since)
  starts_unfrozen keeps.Nothing nonce since = tt
  starts_unfrozen (keeps.Above above) nonce since = tt
  starts_unfrozen (keeps.Entered own) nonce since = tt
  starts_unfrozen (keeps.Begun own) nonce since = refl

  pub starts : (Came : ℕ → Epoch → Type 0) (i : ℕ) (store : Kept) (place : Place) (image : List ℕ) (nonce since : ℕ) (b : ColdStart) → i < group_size f → place.number ≡ i → place.config.f ≡ f
      → StartsAs place store image nonce since b → Fine f Came i store b
  starts Came i store place image nonce since b within number group h =
      let is : phase_from store nonce since ≡ b.phase = sym h.2 in record {
        number = ap (λ (x : Place). x.number) h.0 ∙ number;
        group = ap (λ (x : Place). x.config.f) h.0 ∙ group;
        within = within;
        ahead = λ e. subst (λ p. HasCome e store → HasCome e (kept_in p)) is (starts_ahead store nonce since e);
        greets = λ e. subst (λ p. greeting_in p ≡ Hello e → HasCome e store) is (starts_greets store nonce since e);
        heard = λ e j. subst (λ p. WasHeard p e j → (Came j e) × (j ≡ i → ⊥) × (j < group_size f)) is (λ k. absurd (starts_unheard store nonce since e j k));
        unfrozen = λ m. subst IsUnfrozen is (starts_unfrozen store nonce since);
      }

  -- ---- it takes a step

  -- who said the hello has come to its epoch, and is another machine of the group
  told : (w : Machines) (telling : Telling) (own : Place) (i : ℕ) (e : Epoch) (j : ℕ) → Stands f w → own.number ≡ i → own.config.f ≡ f → WasSaid w.hellos telling → IsToldBy telling own e j
      → (CameIn w j e) × (j ≡ i → ⊥) × (j < group_size f)
  told w (HelloCame from epoch since place) own i e j s number group said h =
      let parts = and_parts (not (eqb from own.number)) (ltb from (group_size own.config.f)) h.2 in
      let other : from ≡ own.number → ⊥ = λ is. false≢true (sym (not-true _ parts.0) ∙ eq-eqb from own.number is) in
      let low : from < group_size own.config.f = ltb-true from (group_size own.config.f) parts.1 in
      let came : HasCome epoch (w.at from).store = s.said place (from, epoch) said in (
        subst (λ x. HasCome x (w.at j).store) h.1 (subst (λ x. HasCome epoch (w.at x).store) h.0 came),
        (λ is. other (h.0 ∙ is ∙ sym number)),
        subst (λ x. x < group_size f) h.0 (subst (λ x. from < group_size x) group low),
      )
  told w _ own i e j s number group said h = absurd h

  steps : (w : Machines) (i : ℕ) (telling : Telling) (a b : ColdStart) (step : Step) → GoingOn → Stands f w → (w.at i).runs ≡ Some a → WasSaid w.hellos telling → Follows telling (w.at i).store a step b
      → Fine f (CameIn w) i (w.at i).store b
  steps w i telling a b step goes s runs said follows =
      let k : Fine f (CameIn w) i (w.at i).store a = s.each i a runs in
      let d : Done telling (w.at i).store a b = done telling (w.at i).store a b step follows in
      record {
        number = ap (λ (x : Place). x.number) d.place ∙ k.number;
        group = ap (λ (x : Place). x.config.f) d.place ∙ k.group;
        within = k.within;
        ahead = λ e h. come_on (kept_in a.phase) (kept_in b.phase) e (goes telling (w.at i).store a b step follows) (k.ahead e h);
        greets = λ e h. elim (d.changes.greets e h) [
          | inl g ↦ k.greets e g
          | inr came ↦ came
        ];
        heard = λ e j h. elim (d.changes.heard e j h) [
          | inl before ↦ k.heard e j before
          | inr new ↦ told w telling a.place i e j s k.number k.group said new
        ];
        unfrozen = λ m. let n : a.place.is_marked ≡ true = ap (λ (x : Place). x.is_marked) (sym d.place) ∙ m in d.changes.unfrozen n (k.unfrozen n);
      }

  -- ---- its store gets what it was to have

  pub write_up : (Came : ℕ → Epoch → Type 0) (i : ℕ) (store : Kept) (r : Option ColdStart) → ((a : ColdStart) → r ≡ Some a → Fine f Came i store a) → (e : Epoch) → HasCome e store → HasCome e (to_write store r)
  write_up Came i store None fine e h = h
  write_up Came i store (Some a) fine e h = (fine a refl).ahead e h

  written : (Came : ℕ → Epoch → Type 0) (i : ℕ) (store : Kept) (a : ColdStart) → Fine f Came i store a → Fine f Came i (kept_in a.phase) a
  written Came i store a k = record {
    number = k.number;
    group = k.group;
    within = k.within;
    ahead = λ e h. h;
    greets = λ e h. k.ahead e (k.greets e h);
    heard = k.heard;
    unfrozen = k.unfrozen;
  }

  pub writes : (Came : ℕ → Epoch → Type 0) (i : ℕ) (store : Kept) (r : Option ColdStart) → ((a : ColdStart) → r ≡ Some a → Fine f Came i store a) → FineAt f Came i (record { store = to_write store r; runs = r })
  writes Came i store None fine a runs = absurd (false≢true (ap is_some runs))
  writes Came i store (Some b) fine a runs = subst (λ x. Fine f Came i (kept_in b.phase) x) (same_Some b a runs) (written Came i store b (fine b refl))

  -- ---- hellos

  one_more : {X : Type 0} (P : X → Type 0) (xs : List X) (y : X) → ((n : ℕ) (x : X) → slice_get xs n ≡ Some x → P x) → P y → (n : ℕ) (x : X) → slice_get (xs ++ y ∷ []) n ≡ Some x → P x
  one_more P [] y all one zero x h = subst P (same_Some y x h) one
  one_more P [] y all one (suc n) x h = absurd (false≢true (ap is_some h))
  one_more P (z ∷ xs) y all one zero x h = all zero x h
  one_more P (z ∷ xs) y all one (suc n) x h = one_more P xs y (λ k. all (suc k)) one n x h

  -- ---- any move, and any moves

  pub moved : (w : Machines) (m : Move) → GoingOn → Stands f w → May f w m → (Stands f (after_move f w m)) × Rises w (after_move f w m)
  moved w (Starts i place image count since becomes) goes s may =
      changed w i (record { store = (w.at i).store; runs = Some becomes }) s (λ e h. h)
      (now (CameIn w) i (w.at i).store becomes (starts (CameIn w) i (w.at i).store place image (first_nonce count) since becomes may.0 may.2 may.3 may.4))
  moved w (Takes i telling step becomes) goes s may =
      changed w i (record { store = (w.at i).store; runs = Some becomes }) s (λ e h. h)
      (now (CameIn w) i (w.at i).store becomes (steps w i telling may.0 becomes step goes s may.1 may.2 may.3))
  moved w (Greets i epoch) goes s may =
      (record { each = s.each; said = one_more (λ (x : ℕ × Epoch). HasCome x.1 (w.at x.0).store) w.hellos (i, epoch) s.said ((s.each i may.0 may.1).greets epoch may.2) }, λ j e h. h)
  moved w (Writes i) goes s may =
      changed w i (record { store = to_write (w.at i).store (w.at i).runs; runs = (w.at i).runs }) s (write_up (CameIn w) i (w.at i).store (w.at i).runs (s.each i)) (writes (CameIn w) i (w.at i).store (w.at i).runs (s.each i))
  moved w (Stops i) goes s may = changed w i (record { store = (w.at i).store; runs = None }) s (λ e h. h) (down (CameIn w) i (w.at i).store)
  moved w (GoesByHand i image has) goes s may =
      changed w i (record { store = has; runs = None }) s (λ e h. hand_on (w.at i).store has e image may.1 h) (down (CameIn w) i has)

  pub over : (ms : List Move) (w : Machines) → GoingOn → Stands f w → AreMoves f w ms → (Stands f (after_moves f w ms)) × Rises w (after_moves f w ms)
  over [] w goes s h = (s, λ j e k. k)
  over (m ∷ ms) w goes s h =
      let one = moved w m goes s h.0 in
      let rest = over ms (after_move f w m) goes one.0 h.1 in
      (rest.0, λ j e k. rest.1 j e (one.1 j e k))

  pub first : (stores : ℕ → Kept) → Stands f (at_rest stores)
  first stores = record { each = λ i. down (CameIn (at_rest stores)) i (stores i); said = λ n x h. absurd (false≢true (ap is_some h)) }

  pub split : (early late : List Move) (w : Machines) → AreMoves f w (early ++ late) → (AreMoves f w early) × AreMoves f (after_moves f w early) late
  split [] late w h = (tt, h)
  split (m ∷ early) late w h = let rest = split early late (after_move f w m) h.1 in ((h.0, rest.0), rest.1)

  pub joined : (early late : List Move) (w : Machines) → after_moves f w (early ++ late) ≡ after_moves f (after_moves f w early) late
  joined [] late w = refl
  joined (m ∷ early) late w = joined early late (after_move f w m)

  -- ---- what follows of where machines stand

  part_in : (p : Phase) (e own : Epoch) → HasCome e (kept_in p) → spoken_in p ≡ Some own → IsNoEarlier own e
  part_in (TakingPart epoch) e own h is = subst (λ x. IsNoEarlier x e) (same_Some epoch own is) h
  part_in (Recovering epoch r) e own h is = subst (λ x. IsNoEarlier x e) (same_Some epoch own is) h
  part_in _ e own h is = absurd (false≢true (ap is_some is))

  pub past : (w : Machines) (i : ℕ) (e : Epoch) → Stands f w → HasCome e (w.at i).store → IsPast e (w.at i)
  past w i e s h = record { store = h; part = λ a own runs is. part_in a.phase e own ((s.each i a runs).ahead e h) is }

  pub never_back : (stores : ℕ → Kept) (early late : List Move) (i : ℕ) (e : Epoch) → GoingOn → AreMoves f (at_rest stores) (early ++ late)
      → HasCome e ((after_moves f (at_rest stores) early).at i).store → IsPast e ((after_moves f (at_rest stores) (early ++ late)).at i)
  never_back stores early late i e goes right came =
      let parts = split early late (at_rest stores) right in
      let before = over early (at_rest stores) goes (first stores) parts.0 in
      let behind = over late (after_moves f (at_rest stores) early) goes before.0 parts.1 in
      subst (λ (v : Machines). IsPast e (v.at i)) (sym (joined early late (at_rest stores))) (past (after_moves f (after_moves f (at_rest stores) early) late) i e behind.0 (behind.1 i e came))
