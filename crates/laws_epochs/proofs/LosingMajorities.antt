-- As a machine begins an epoch, f+1 keep to it, whatever is lost later; and no machine begins one twice.
use Rattle.std.proofs.Common.{◌≡◌, ◌⊎◌, ℕ, zero, suc, ◌+◌, ◌≤◌, ◌||◌, Bool, true, false, List, [], ◌∷◌, ◌++◌, Option, Some, None, Ok, refl, sym, ap, ◌∙◌, subst, inl, inr, is_some, eqb, arith, length}
use Rattle.std.specs.Prelude.{count_by, slice_get, slice_set}
use Rattle.std.proofs.lemmas.Bool.{false≢true, eq-eqb}
use Rattle.std.proofs.lemmas.Option.{same_Some}
use Rattle.vr_model.specs.Groups.{group_size, how_many}
use Rattle.vr_model.specs.Replicas.{put}
use Rattle.laws_history.proofs.Counts.{some_member}
use Rattle.laws_history.proofs.Tables.{put_cases}
use Rattle.net_hello.specs.declared.hello.Epoch.{Epoch}
use Rattle.plc_epochs.specs.Epochs.{by_hand, is_later, is_same, nothing_told}
use Rattle.plc_epochs.specs.GoingOn.{GoesOn}
use Rattle.plc_epochs.specs.Recovering.{first_nonce}
use Rattle.plc_epochs.specs.Table
use Rattle.plc_epochs.specs.Table.{kept_in, phase_from, spoken_in}
use Rattle.plc_epochs.specs.declared.kept.Kept.{Kept}
use Rattle.plc_epochs.specs.declared.kept.Kept.TheVariants as keeps
use Rattle.plc_epochs.specs.declared.cold_start.ColdStart.{ColdStart}
use Rattle.plc_epochs.specs.declared.cold_start.Phase.{Phase}
use Rattle.plc_epochs.specs.declared.cold_start.Phase.TheVariants.{Waiting, Above, Entering, Entered, Beginning, TakingPart, Recovering}
use Rattle.plc_epochs.specs.declared.cold_start.Step.{Step}
use Rattle.plc_epochs.specs.declared.cold_start.Step.TheVariants as steps
use Rattle.plc_epochs.proofs.GoingOn.{either}
use Rattle.laws_epochs.specs.Machines.{Telling, TimeHasPassed, StoreHas, HelloCame, SignCame, RecoveryCame, WordCame, ReplicaRecovered, ImageIs, Follows}
use Rattle.laws_epochs.specs.Machines.{Move, Starts, Takes, Greets, Writes, Stops, GoesByHand, Machine, to_write, May, after_move}
use Rattle.laws_epochs.specs.Beginnings.{HasBegun, HasCome, IsBeginning, IsNoEarlier}
use Rattle.laws_epochs.specs.LostDisks.{Event, Moves, LosesDisk, GoesTo, Group, AllStandBy, AreEvents, HasHeard, HellosHold, IsAbove, StandsBy, KeepsTo, MajorityKeeps, MayBe, after_event, after_events, with_disks}
use Rattle.laws_epochs.proofs.Later.{entered_only, hand_begun, later_yet}
use Rattle.laws_epochs.proofs.Changes.{Done, IsEntered, done, has_heard, heard_in}
use Rattle.laws_epochs.proofs.Standing.{Fine, GoingOn}
use Rattle.laws_epochs.proofs.Beginning.{Begins, all_came, begins, heard_so, many, no_fewer, own_came, who}
use Rattle.laws_epochs.proofs.Once.{starts_now}
use Rattle.laws_epochs.proofs.Losing.{Anyone, Bound, HasBeenSaid, Lives, Stands, StandsSo, Stored, bound_on, come_lives, come_stored, first, keeps_to, lives_stored, stood, within_length}

-- ---- events

module _ (f : ℕ) where
  pub split : (early late : List Event) (w : Group) → AreEvents f w (early ++ late) → (AreEvents f w early) × AreEvents f (after_events f w early) late
  split [] late w h = (tt, h)
  split (v ∷ early) late w h = let rest = split early late (after_event f w v) h.1 in ((h.0, rest.0), rest.1)

  pub joined : (early late : List Event) (w : Group) → after_events f w (early ++ late) ≡ after_events f (after_events f w early) late
  joined [] late w = refl
  joined (v ∷ early) late w = joined early late (after_event f w v)

  stands_over : (vs : List Event) (w : Group) → GoingOn → StandsSo f w → AreEvents f w vs → StandsSo f (after_events f w vs)
  stands_over [] w goes s right = s
  stands_over (v ∷ vs) w goes s right = stands_over vs (after_event f w v) goes (stood f w v goes s right.0) right.1

  bound_over : (vs : List Event) (w : Group) (e : Epoch) (since : ℕ) (them : ℕ → Bool) → GoingOn → f + 1 ≤ how_many them (group_size f) → StandsSo f w → AreEvents f w vs → Bound f e them since w → Bound f e them since (after_events f w vs)
  bound_over [] w e since them goes enough s right b = b
  bound_over (v ∷ vs) w e since them goes enough s right b =
      bound_over vs (after_event f w v) e since them goes enough (stood f w v goes s right.0) right.1 (bound_on f e since them w v goes enough s b right.0)

-- ---- as a machine begins

heard_some : (o : Option (Option ℕ)) → heard_in o ≡ true → (came : ℕ) × (o ≡ Some (Some came))
heard_some None h = absurd (false≢true h)
heard_some (Some None) h = absurd (false≢true h)
heard_some (Some (Some came)) h = (came, refl)

-- machine i is one of f+1 that keep to an epoch
pub record Backed (f : ℕ) (e : Epoch) (i : ℕ) (w : Group) : Type 0 where
  pub them : ℕ → Bool
  pub since : ℕ
  pub enough : f + 1 ≤ how_many them (group_size f)
  pub itself : them i ≡ true
  pub bound : Bound f e them since w

module _ (f : ℕ) where
  begins_backed : (w : Group) (i now : ℕ) (e : Epoch) (a b : ColdStart) → StandsSo f w → (w.machines.at i).runs ≡ Some a → Table.Looks now a (steps.Begins e) b → AllStandBy w i (steps.Begins e) → Backed f e i w
  begins_backed w i now e a b s runs h stand =
      let bg : Begins a e = begins now e a b h in
      let store : Kept = (w.machines.at i).store in
      let fine : Fine f Anyone i store a = s.each i a runs in
      let by : (k : ℕ) → has_heard bg.heard k ≡ true → StandsBy w k e = λ k heard. stand a k runs (subst (λ p. HasHeard p k) (sym bg.phase) (heard_some (slice_get bg.heard k) heard)) in
      let heard_came : (k : ℕ) → has_heard bg.heard k ≡ true → HasCome e (w.machines.at k).store = λ k heard. s.said (by k heard).place (k, e) (by k heard).said (by k heard).since in
      let counted : count_by is_some bg.heard ≤ how_many (has_heard bg.heard) (group_size f) = no_fewer bg.heard (group_size f) (λ j h. (heard_so f i Anyone e store a fine bg j h).2) in
      let enough : f ≤ count_by is_some bg.heard = subst (λ n. n ≤ count_by is_some bg.heard) fine.group bg.many in
      let one : 1 ≤ f = subst (λ n. 1 ≤ n) fine.group a.place.config.at_least_one in
      let someone = some_member (has_heard bg.heard) (group_size f) (omega (arith, counted, enough, one)) in
      let came : (j : ℕ) → who i bg.heard j ≡ true → HasCome e (w.machines.at j).store =
      all_came f i Anyone e store a fine bg (λ k. HasCome e (w.machines.at k).store) (own_came f i Anyone e store a fine bg) heard_came in
      let count : ℕ = length w.machines.hellos in
      record {
        them = who i bg.heard;
        since = count;
        enough = many f i Anyone e store a fine bg;
        itself = ap (λ t. t || has_heard bg.heard i) (eq-eqb i i refl);
        bound = record {
          store = λ j is. come_stored e count (w.lost j) (w.machines.at j).store (came j is);
          process = λ j is c up. come_lives f e count w.machines.hellos (w.lost j) c.phase ((s.each j c up).ahead e (came j is));
          hellos = λ n x there late is. absurd (omega (arith, within_length w.machines.hellos n x there, late));
          short = omega arith;
          said = ((by someone.0 someone.2).place, someone.0, (by someone.0 someone.2).said);
        };
      }

  backed_on : (w : Group) (v : Event) (e : Epoch) (i : ℕ) → GoingOn → StandsSo f w → MayBe f w v → Backed f e i w → Backed f e i (after_event f w v)
  backed_on w v e i goes s may b = record {
    them = b.them;
    since = b.since;
    enough = b.enough;
    itself = b.itself;
    bound = bound_on f e b.since b.them w v goes b.enough s b.bound may;
  }

  -- f+1 keep to it
  pub majority_keeps : (i now : ℕ) (stores : ℕ → Kept) (early : List Event) (epoch : Epoch) (becomes : ColdStart) → GoingOn
      → AreEvents f (with_disks stores) (early ++ Moves (Takes i (TimeHasPassed now) (steps.Begins epoch) becomes) ∷ [])
      → MajorityKeeps f stores early (Moves (Takes i (TimeHasPassed now) (steps.Begins epoch) becomes)) epoch
  majority_keeps i now stores early epoch becomes goes right =
      let event : Event = Moves (Takes i (TimeHasPassed now) (steps.Begins epoch) becomes) in
      let parts = split f early (event ∷ []) (with_disks stores) right in
      let w : Group = after_events f (with_disks stores) early in
      let s : StandsSo f w = stands_over f early (with_disks stores) goes (first f stores) parts.0 in
      let may = parts.1.0 in
      let b : Backed f epoch i w = begins_backed w i now epoch may.0.0 becomes s may.0.1 may.0.3 may.1.1 in
      record {
        who = b.them;
        many = b.enough;
        keeps = λ late j all low is.
            let rest = split f early (event ∷ late) (with_disks stores) all in
            let there = bound_over f (event ∷ late) w epoch b.since b.them goes b.enough s rest.1 b.bound in
            subst (λ (v : Group). KeepsTo epoch (v.machines.at j)) (sym (joined f early (event ∷ late) (with_disks stores)))
            (keeps_to f epoch b.since b.them (after_events f w (event ∷ late)) j is there);
      }

-- ---- who is beginning an epoch

entered_is : (p : Phase) (e : Epoch) → IsEntered e p → (heard : List (Option ℕ)) × (p ≡ Entered e heard)
entered_is (Entered own heard) e is = (heard, ap (λ x. Entered x heard) is)
entered_is (Waiting heard above) e is = absurd is
entered_is (Above above) e is = absurd is
entered_is (Entering own heard) e is = absurd is
entered_is (Beginning own) e is = absurd is
entered_is (TakingPart own) e is = absurd is
entered_is (Recovering own r) e is = absurd is

-- one that has entered an epoch begins it by no other step
module _ (e : Epoch) (heard : List (Option ℕ)) (a b : ColdStart) (step : Step) (was : a.phase ≡ Entered e heard) (beginning : IsBeginning e b.phase) where
  not_by : {R : Type 0} (q : Phase) → b.phase ≡ q → (IsBeginning e q → ⊥) → R
  not_by q is never = absurd (never (subst (λ p. IsBeginning e p) is beginning))

  not_still : {R : Type 0} → b ≡ a → R
  not_still same = not_by (Entered e heard) (ap (λ (x : ColdStart). x.phase) same ∙ was) (λ x. x)

  by_time : (now : ℕ) → Table.Looks now a step b → step ≡ steps.Begins e
  by_time now h =
      let g : Table.LooksEntered e heard a step b = subst (λ p. Table.LooksIn p now a step b) was h in
      either (Table.may_begin a e heard) _ _ _ g (λ may m. m.0) (λ may s. not_still s.1)

  unless : {R : Type 0} (why : Option Step) (from now : ℕ) (epoch : Epoch) → Table.LeavesUnless why from epoch now a step b → R
  unless (Some does) from now epoch h = not_still h.1
  unless None from now epoch h = not_by (Entering epoch (slice_set nothing_told from (Some now))) (ap (λ (x : ColdStart). x.phase) h.1) (λ x. x)

  by_hello : {R : Type 0} (from now : ℕ) (epoch : Epoch) → Table.HearsHello from epoch now a step b → R
  by_hello from now epoch h =
      either (Table.is_heard a from epoch) _ _ _ h
      (λ ok g.
      let k : Table.HearsEntered e heard from epoch now a step b = subst (λ p. Table.HearsIn p from epoch now a step b) was g in
      either (is_later epoch e) _ _ _ k
      (λ l m. either (is_later epoch e) _ _ _ m (λ l u. unless (Table.staying a e epoch now) from now epoch u) (λ l s. not_still s.1))
      (λ l m. either (is_same epoch e) _ _ _ m (λ one c. not_by (Entered e (slice_set heard from (Some now))) (ap (λ (x : ColdStart). x.phase) c.1) (λ x. x)) (λ one t. not_still t.1)))
      (λ ok s. not_still s.1)

  by_store : {R : Type 0} (store : Kept) → Table.Stores store a step b → R
  by_store store h = let s : Table.Stays a step b = subst (λ p. Table.StoresIn p store a step b) was h in not_still s.1

  by_sign : {R : Type 0} (from now : ℕ) (epoch : Epoch) → Table.HearsSign from epoch now a step b → R
  by_sign from now epoch h = let s : Table.Stays a step b = subst (λ p. Table.SignIn (spoken_in p) from epoch now a step b) was h in not_still s.1

  by_recovery : {R : Type 0} (from now : ℕ) (epoch : Epoch) → Table.HearsRecovery from epoch now a step b → R
  by_recovery from now epoch h = let s : Table.Stays a step b = subst (λ p. Table.RecoveryIn (spoken_in p) from epoch now a step b) was h in not_still s.1

module _ (f : ℕ) (w : Group) (i : ℕ) (e : Epoch) (a b : ColdStart) (step : Step) (s : StandsSo f w) (runs : (w.machines.at i).runs ≡ Some a) (stand : AllStandBy w i step) (heard : List (Option ℕ)) (was : a.phase ≡ Entered e heard) (beginning : IsBeginning e b.phase) where
  entered_backed : (telling : Telling) (store : Kept) → Follows telling store a step b → Backed f e i w
  entered_backed (TimeHasPassed now) store h =
      let is : step ≡ steps.Begins e = by_time e heard a b step was beginning now h in
      begins_backed f w i now e a b s runs (subst (λ x. Table.Looks now a x b) is h) (subst (λ x. AllStandBy w i x) is stand)
  entered_backed StoreHas store h = by_store e heard a b step was beginning store h
  entered_backed (HelloCame from epoch now place) store h = by_hello e heard a b step was beginning from now epoch h
  entered_backed (SignCame from epoch now) store h = by_sign e heard a b step was beginning from now epoch h
  entered_backed (RecoveryCame from epoch now) store h = by_recovery e heard a b step was beginning from now epoch h
  entered_backed (WordCame from epoch word now) store h =
      let q : Table.Stays a step b = subst (λ p. Table.WordIn p from epoch word now a step b) was h in
      not_still e heard a b step was beginning q.1
  entered_backed ReplicaRecovered store h =
      not_by e heard a b step was beginning (Entered e heard) (ap (λ (x : ColdStart). x.phase) h.1 ∙ ap Table.recovered_in was) (λ x. x)
  entered_backed (ImageIs image) store h = not_by e heard a b step was beginning (Entered e heard) (ap (λ (x : ColdStart). x.phase) h.1 ∙ was) (λ x. x)

-- each machine that is beginning an epoch is one of f+1 that keep to it
abbrev Majorities : ℕ → Group → Type 0
Majorities f w = (i : ℕ) (e : Epoch) (a : ColdStart) → (w.machines.at i).runs ≡ Some a → IsBeginning e a.phase → Backed f e i w

never_at_first : (k : Kept) (e : Epoch) (nonce since : ℕ) → IsBeginning e (phase_from k nonce since) → ⊥
never_at_first keeps.Nothing e nonce since h = h
never_at_first (keeps.Above above) e nonce since h = h
never_at_first (keeps.Entered own) e nonce since h = h
never_at_first (keeps.Begun own) e nonce since h = h

module _ (f : ℕ) where
  steps_backed : (w : Group) (i : ℕ) (e : Epoch) (telling : Telling) (a b : ColdStart) (step : Step) → StandsSo f w → Majorities f w → (w.machines.at i).runs ≡ Some a → Follows telling (w.machines.at i).store a step b → AllStandBy w i step → IsBeginning e b.phase
      → Backed f e i w
  steps_backed w i e telling a b step s all runs h stand beginning =
      let d : Done telling (w.machines.at i).store a b = done telling (w.machines.at i).store a b step h in
      elim (d.changes.begins e beginning) [
        | inl before ↦ all i e a runs before
        | inr entered ↦ (let is = entered_is a.phase e entered in entered_backed f w i e a b step s runs stand is.0 is.1 beginning telling (w.machines.at i).store h)
      ]

  -- one machine changes
  put_backed : (w v : Group) (j : ℕ) (m : Machine) → ((i : ℕ) (e : Epoch) → Backed f e i w → Backed f e i v) → v.machines.at ≡ put w.machines.at j m → Majorities f w
      → ((e : Epoch) (a : ColdStart) → m.runs ≡ Some a → IsBeginning e a.phase → Backed f e j w) → Majorities f v
  put_backed w v j m on is all here i e = subst (λ (at : ℕ → Machine). (a : ColdStart) → (at i).runs ≡ Some a → IsBeginning e a.phase → Backed f e i v) (sym is)
      (put_cases w.machines.at j m i (λ (x : Machine). (a : ColdStart) → x.runs ≡ Some a → IsBeginning e a.phase → Backed f e i v)
      (λ same a runs beginning. on i e (subst (λ k. Backed f e k w) (sym same) (here e a runs beginning)))
      (λ other a runs beginning. on i e (all i e a runs beginning)))

  nobody : (w : Group) (j : ℕ) (m : Machine) → m.runs ≡ None → (e : Epoch) (a : ColdStart) → m.runs ≡ Some a → IsBeginning e a.phase → Backed f e j w
  nobody w j m none e a runs beginning = absurd (false≢true (ap is_some (sym none ∙ runs)))

  majorities_on : (w : Group) (v : Event) → GoingOn → StandsSo f w → MayBe f w v → Majorities f w → Majorities f (after_event f w v)
  majorities_on w (Moves (Starts j place image count since becomes)) goes s may all =
      put_backed w (after_event f w (Moves (Starts j place image count since becomes))) j (record { store = (w.machines.at j).store; runs = Some becomes })
      (λ i e b. backed_on f w (Moves (Starts j place image count since becomes)) e i goes s may b) refl all
      (λ e a runs beginning.
      absurd (never_at_first (w.machines.at j).store e (first_nonce count) since (subst (λ p. IsBeginning e p) (sym (ap (λ (x : ColdStart). x.phase) (same_Some becomes a runs)) ∙ may.0.4.2) beginning)))
  majorities_on w (Moves (Takes j telling step becomes)) goes s may all =
      put_backed w (after_event f w (Moves (Takes j telling step becomes))) j (record { store = (w.machines.at j).store; runs = Some becomes })
      (λ i e b. backed_on f w (Moves (Takes j telling step becomes)) e i goes s may b) refl all
      (λ e a runs beginning.
      steps_backed w j e telling may.0.0 becomes step s all may.0.1 may.0.3 may.1.1 (subst (λ p. IsBeginning e p) (sym (ap (λ (x : ColdStart). x.phase) (same_Some becomes a runs))) beginning))
  majorities_on w (Moves (Greets j epoch)) goes s may all =
      λ i e a runs beginning. backed_on f w (Moves (Greets j epoch)) e i goes s may (all i e a runs beginning)
  majorities_on w (Moves (Writes j)) goes s may all =
      put_backed w (after_event f w (Moves (Writes j))) j (record { store = to_write (w.machines.at j).store (w.machines.at j).runs; runs = (w.machines.at j).runs })
      (λ i e b. backed_on f w (Moves (Writes j)) e i goes s may b) refl all (all j)
  majorities_on w (Moves (Stops j)) goes s may all =
      put_backed w (after_event f w (Moves (Stops j))) j (record { store = (w.machines.at j).store; runs = None })
      (λ i e b. backed_on f w (Moves (Stops j)) e i goes s may b) refl all (nobody w j (record { store = (w.machines.at j).store; runs = None }) refl)
  majorities_on w (Moves (GoesByHand j image has)) goes s may all =
      put_backed w (after_event f w (Moves (GoesByHand j image has))) j (record { store = has; runs = None })
      (λ i e b. backed_on f w (Moves (GoesByHand j image has)) e i goes s may b) refl all (nobody w j (record { store = has; runs = None }) refl)
  majorities_on w (LosesDisk j) goes s may all =
      put_backed w (after_event f w (LosesDisk j)) j (record { store = keeps.Nothing; runs = None })
      (λ i e b. backed_on f w (LosesDisk j) e i goes s may b) refl all (nobody w j (record { store = keeps.Nothing; runs = None }) refl)
  majorities_on w (GoesTo j named) goes s may all =
      put_backed w (after_event f w (GoesTo j named)) j (record { store = keeps.Entered named; runs = None })
      (λ i e b. backed_on f w (GoesTo j named) e i goes s may b) refl all (nobody w j (record { store = keeps.Entered named; runs = None }) refl)

  majorities_over : (vs : List Event) (w : Group) → GoingOn → StandsSo f w → AreEvents f w vs → Majorities f w → Majorities f (after_events f w vs)
  majorities_over [] w goes s right all = all
  majorities_over (v ∷ vs) w goes s right all = majorities_over vs (after_event f w v) goes (stood f w v goes s right.0) right.1 (majorities_on w v goes s right.0 all)

  -- as an epoch starts at a machine
  starts_backed : (stores : ℕ → Kept) (early : List Event) (i : ℕ) (e : Epoch) (becomes : ColdStart) → GoingOn → AreEvents f (with_disks stores) early
      → MayBe f (after_events f (with_disks stores) early) (Moves (Takes i StoreHas (steps.Starts e) becomes)) → Backed f e i (after_events f (with_disks stores) early)
  starts_backed stores early i e becomes goes right may =
      let w : Group = after_events f (with_disks stores) early in
      let all : Majorities f w = majorities_over early (with_disks stores) goes (first f stores) right (λ i e a runs beginning. absurd (false≢true (ap is_some runs))) in
      all i e may.0.0 may.0.1 (starts_now e (w.machines.at i).store may.0.0 becomes may.0.3).was

  -- it keeps to that epoch
  pub who_began_keeps : (i : ℕ) (stores : ℕ → Kept) (early late : List Event) (e : Epoch) (becomes : ColdStart) → GoingOn
      → AreEvents f (with_disks stores) (early ++ Moves (Takes i StoreHas (steps.Starts e) becomes) ∷ late)
      → KeepsTo e ((after_events f (with_disks stores) (early ++ Moves (Takes i StoreHas (steps.Starts e) becomes) ∷ late)).machines.at i)
  who_began_keeps i stores early late e becomes goes right =
      let event : Event = Moves (Takes i StoreHas (steps.Starts e) becomes) in
      let parts = split f early (event ∷ late) (with_disks stores) right in
      let w : Group = after_events f (with_disks stores) early in
      let b : Backed f e i w = starts_backed stores early i e becomes goes parts.0 parts.1.0 in
      let s : StandsSo f w = stands_over f early (with_disks stores) goes (first f stores) parts.0 in
      let there = bound_over f (event ∷ late) w e b.since b.them goes b.enough s parts.1 b.bound in
      subst (λ (v : Group). KeepsTo e (v.machines.at i)) (sym (joined f early (event ∷ late) (with_disks stores)))
      (keeps_to f e b.since b.them (after_events f w (event ∷ late)) i b.itself there)

-- ---- once

-- it has begun the epoch, or is past it; or its disk was lost since
abbrev Passed : Epoch → Kept → Type 0
Passed e keeps.Nothing = Unit {0}
Passed e (keeps.Above above) = IsNoEarlier above e
Passed e (keeps.Entered own) = is_later own e ≡ true
Passed e (keeps.Begun own) = IsNoEarlier own e

passed_on : (k l : Kept) (e : Epoch) (since lost : ℕ) → GoesOn k l → Stored e since lost l → Passed e k → Passed e l
passed_on keeps.Nothing keeps.Nothing e since lost g n h = tt
passed_on keeps.Nothing (keeps.Above above) e since lost g n h = n
passed_on keeps.Nothing (keeps.Entered own) e since lost g n h = absurd g
passed_on keeps.Nothing (keeps.Begun own) e since lost g n h = absurd g
passed_on (keeps.Above above) keeps.Nothing e since lost g n h = absurd g
passed_on (keeps.Above above) (keeps.Above other) e since lost g n h = n
passed_on (keeps.Above above) (keeps.Entered other) e since lost g n h = later_yet other above e g h
passed_on (keeps.Above above) (keeps.Begun other) e since lost g n h = absurd g
passed_on (keeps.Entered own) keeps.Nothing e since lost g n h = absurd g
passed_on (keeps.Entered own) (keeps.Above above) e since lost g n h = absurd g
passed_on (keeps.Entered own) (keeps.Entered other) e since lost (inl is) n h = subst (λ x. is_later x e ≡ true) (sym is) h
passed_on (keeps.Entered own) (keeps.Entered other) e since lost (inr later) n h = later_yet other own e later (inr h)
passed_on (keeps.Entered own) (keeps.Begun other) e since lost g n h = n
passed_on (keeps.Begun own) keeps.Nothing e since lost g n h = absurd g
passed_on (keeps.Begun own) (keeps.Above above) e since lost g n h = absurd g
passed_on (keeps.Begun own) (keeps.Entered other) e since lost g n h = later_yet other own e g h
passed_on (keeps.Begun own) (keeps.Begun other) e since lost g n h = n

begun_passed : (e : Epoch) (k : Kept) → HasBegun e k → Passed e k
begun_passed e keeps.Nothing h = absurd h
begun_passed e (keeps.Above above) h = absurd h
begun_passed e (keeps.Entered own) h = h
begun_passed e (keeps.Begun own) h = h

named_passed : (hellos : List (ℕ × Epoch)) (e named : Epoch) (k : Kept) → IsAbove hellos k named → HasBeenSaid hellos e → Passed e k → is_later named e ≡ true
named_passed hellos e named keeps.Nothing above said h = above said.0 (said.1, e) said.2
named_passed hellos e named (keeps.Above own) above said h = later_yet named own e above h
named_passed hellos e named (keeps.Entered own) above said h = later_yet named own e above (inr h)
named_passed hellos e named (keeps.Begun own) above said h = later_yet named own e above h

hand_passed : (e : Epoch) (k has : Kept) (image : List ℕ) → by_hand k image ≡ Ok has → Passed e k → Passed e has
hand_passed e keeps.Nothing has image h k = absurd cc
hand_passed e (keeps.Above above) has image h k = absurd cc
hand_passed e (keeps.Entered own) has image h k = begun_passed e has (hand_begun (keeps.Entered own) has e image h k)
hand_passed e (keeps.Begun own) has image h k = begun_passed e has (hand_begun (keeps.Begun own) has e image h k)

abbrev IsDone : Epoch → Phase → Type 0
IsDone e p = (Passed e (kept_in p)) × (IsBeginning e p → ⊥)

abbrev HasDone : Epoch → Machine → Type 0
HasDone e m = (Passed e m.store) × ((a : ColdStart) → m.runs ≡ Some a → IsDone e a.phase)

not_entered : (p : Phase) (e : Epoch) → IsEntered e p → Passed e (kept_in p) → ⊥
not_entered p e is h =
    let x = entered_is p e is in
    entered_only e e refl (subst (λ q. Passed e (kept_in q)) x.1 h)

starts_done : (k : Kept) (e : Epoch) (nonce since : ℕ) → Passed e k → IsDone e (phase_from k nonce since)
starts_done keeps.Nothing e nonce since h = (tt, λ x. x)
starts_done (keeps.Above above) e nonce since h = (h, λ x. x)
starts_done (keeps.Entered own) e nonce since h = (h, λ x. x)
starts_done (keeps.Begun own) e nonce since h = (h, λ x. x)

module _ (f : ℕ) (e : Epoch) where
  running : (store : Kept) (b : ColdStart) → Passed e store → IsDone e b.phase → HasDone e (record { store = store; runs = Some b })
  running store b h is = (h, λ a runs. subst (λ (x : ColdStart). IsDone e x.phase) (same_Some b a runs) is)

  stopped : (store : Kept) → Passed e store → HasDone e (record { store = store; runs = None })
  stopped store h = (h, λ a runs. absurd (false≢true (ap is_some runs)))

  written : (store : Kept) (r : Option ColdStart) → Passed e store → ((a : ColdStart) → r ≡ Some a → IsDone e a.phase) → HasDone e (record { store = to_write store r; runs = r })
  written store None h is = (h, is)
  written store (Some b) h is = ((is b refl).0, is)

  changed : (at : ℕ → Machine) (i j : ℕ) (m : Machine) → HasDone e (at i) → (i ≡ j → HasDone e (at j) → HasDone e m) → HasDone e (put at j m i)
  changed at i j m h up = put_cases at j m i (λ (x : Machine). HasDone e x) (λ is. up is (subst (λ k. HasDone e (at k)) is h)) (λ other. h)

  steps_done : (w : Group) (i : ℕ) (telling : Telling) (step : Step) (becomes : ColdStart) → GoingOn → StandsSo f w → Backed f e i w → (may : MayBe f w (Moves (Takes i telling step becomes))) → HasDone e (w.machines.at i) → IsDone e becomes.phase
  steps_done w i telling step becomes goes s backed may h =
      let v : Group = after_event f w (Moves (Takes i telling step becomes)) in
      let after : Backed f e i v = backed_on f w (Moves (Takes i telling step becomes)) e i goes s may backed in
      let up : (v.machines.at i).runs ≡ Some becomes = put_cases w.machines.at i (record { store = (w.machines.at i).store; runs = Some becomes }) i (λ (x : Machine). x.runs ≡ Some becomes) (λ is. refl) (λ other. absurd (other refl)) in
      let lives : Lives f e after.since v.machines.hellos (v.lost i) becomes.phase = after.bound.process i after.itself becomes up in
      let was = h.1 may.0.0 may.0.1 in
      let d : Done telling (w.machines.at i).store may.0.0 becomes = done telling (w.machines.at i).store may.0.0 becomes step may.0.3 in (
        passed_on (kept_in (may.0.0).phase) (kept_in becomes.phase) e after.since (v.lost i) (goes telling (w.machines.at i).store may.0.0 becomes step may.0.3) (lives_stored f e after.since v.machines.hellos (v.lost i) becomes.phase lives) was.0,
        λ beginning. elim (d.changes.begins e beginning) [
          | inl still ↦ was.1 still
          | inr entered ↦ not_entered (may.0.0).phase e entered was.0
        ],
      )

  done_on : (w : Group) (i : ℕ) (v : Event) → GoingOn → StandsSo f w → Backed f e i w → MayBe f w v → HasDone e (w.machines.at i) → HasDone e ((after_event f w v).machines.at i)
  done_on w i (Moves (Starts j place image count since becomes)) goes s backed may h =
      changed w.machines.at i j (record { store = (w.machines.at j).store; runs = Some becomes }) h
      (λ same k. running (w.machines.at j).store becomes k.0 (subst (λ p. IsDone e p) (sym may.0.4.2) (starts_done (w.machines.at j).store e (first_nonce count) since k.0)))
  done_on w i (Moves (Takes j telling step becomes)) goes s backed may h =
      changed w.machines.at i j (record { store = (w.machines.at j).store; runs = Some becomes }) h
      (λ same k. running (w.machines.at j).store becomes k.0 (steps_done w j telling step becomes goes s (subst (λ x. Backed f e x w) same backed) may k))
  done_on w i (Moves (Greets j epoch)) goes s backed may h = h
  done_on w i (Moves (Writes j)) goes s backed may h =
      changed w.machines.at i j (record { store = to_write (w.machines.at j).store (w.machines.at j).runs; runs = (w.machines.at j).runs }) h (λ same k. written (w.machines.at j).store (w.machines.at j).runs k.0 k.1)
  done_on w i (Moves (Stops j)) goes s backed may h = changed w.machines.at i j (record { store = (w.machines.at j).store; runs = None }) h (λ same k. stopped (w.machines.at j).store k.0)
  done_on w i (Moves (GoesByHand j image has)) goes s backed may h =
      changed w.machines.at i j (record { store = has; runs = None }) h (λ same k. stopped has (hand_passed e (w.machines.at j).store has image may.0.1 k.0))
  done_on w i (LosesDisk j) goes s backed may h = changed w.machines.at i j (record { store = keeps.Nothing; runs = None }) h (λ same k. stopped keeps.Nothing tt)
  done_on w i (GoesTo j named) goes s backed may h =
      changed w.machines.at i j (record { store = keeps.Entered named; runs = None }) h (λ same k. stopped (keeps.Entered named) (named_passed w.machines.hellos e named (w.machines.at j).store may.1 backed.bound.said k.0))

  done_over : (vs : List Event) (w : Group) (i : ℕ) → GoingOn → StandsSo f w → Backed f e i w → AreEvents f w vs → HasDone e (w.machines.at i) → HasDone e ((after_events f w vs).machines.at i)
  done_over [] w i goes s backed right h = h
  done_over (v ∷ vs) w i goes s backed right h =
      done_over vs (after_event f w v) i goes (stood f w v goes s right.0) (backed_on f w v e i goes s right.0 backed) right.1 (done_on w i v goes s backed right.0 h)

  pub once : (i : ℕ) (stores : ℕ → Kept) (early late : List Event) (a b : ColdStart) → GoingOn
      → AreEvents f (with_disks stores) (early ++ (Moves (Takes i StoreHas (steps.Starts e) a) ∷ (late ++ Moves (Takes i StoreHas (steps.Starts e) b) ∷ []))) → ⊥
  once i stores early late a b goes right =
      let one : Event = Moves (Takes i StoreHas (steps.Starts e) a) in
      let two : Event = Moves (Takes i StoreHas (steps.Starts e) b) in
      let parts = split f early (one ∷ (late ++ two ∷ [])) (with_disks stores) right in
      let w : Group = after_events f (with_disks stores) early in
      let s : StandsSo f w = stands_over f early (with_disks stores) goes (first f stores) parts.0 in
      let may = parts.1.0 in
      let backed : Backed f e i w = starts_backed f stores early i e a goes parts.0 may in
      let starts = starts_now e (w.machines.at i).store may.0.0 a may.0.3 in
      let v : Group = after_event f w one in
      let part : IsDone e (TakingPart e) = (inl refl, λ x. x) in
      let is_done : HasDone e (v.machines.at i) = put_cases w.machines.at i (record { store = (w.machines.at i).store; runs = Some a }) i (λ (x : Machine). HasDone e x)
      (λ same. running (w.machines.at i).store a (begun_passed e (w.machines.at i).store starts.has) (subst (λ p. IsDone e p) (sym starts.is) part)) (λ other. absurd (other refl)) in
      let rest = split f late (two ∷ []) v parts.1.1 in
      let behind = done_over late v i goes (stood f w one goes s may) (backed_on f w one e i goes s may backed) rest.0 is_done in
      let again = rest.1.0 in
      let start = starts_now e ((after_events f v late).machines.at i).store again.0.0 b again.0.3 in
      (behind.1 again.0.0 again.0.1).1 start.was
