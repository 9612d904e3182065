-- Where disks may be lost: once a later epoch has begun f+1 replicas of the epoch's run are down for good; and nothing
-- happened before to the replica that a process makes.
use Rattle.std.proofs.Common.{◌≡◌, ◌⊎◌, ℕ, zero, suc, ◌+◌, ◌<◌, ◌≤◌, Bool, true, false, cond, List, [], ◌∷◌, ◌++◌, take, Option, Some, None, refl, sym, ap, ◌∙◌, subst, is_some, append_assoc, append-nil}
use Rattle.std.specs.Prelude.{slice_get}
use Rattle.std.proofs.lemmas.Bool.{false≢true}
use Rattle.std.proofs.lemmas.Option.{same_Some}
use Rattle.vr_model.specs.Logs.{Request}
use Rattle.vr_model.specs.Groups.{group_size, how_many}
use Rattle.vr_model.specs.Replicas.{is_down}
use Rattle.vr_model.specs.World.{World, Event, Completion, Done, happens, start}
use Rattle.vr_model.specs.Views.{world}
use Rattle.laws_history.proofs.Runs.{run_append}
use Rattle.laws_cold_start.specs.ColdStarts.{AreFrozen, HandsAnswer, IsInNoLog, IsNeverCommitted}
use Rattle.net_hello.specs.declared.hello.Epoch.{Epoch}
use Rattle.plc_epochs.specs.Epochs.{is_later, is_same}
use Rattle.plc_epochs.specs.declared.kept.Kept.{Kept}
use Rattle.plc_epochs.specs.declared.cold_start.ColdStart.{ColdStart}
use Rattle.plc_epochs.specs.declared.cold_start.Step.{Step}
use Rattle.plc_epochs.specs.declared.cold_start.Step.TheVariants as steps
use Rattle.laws_epochs.specs.Machines.{Telling, StoreHas, TimeHasPassed, Move, Takes}
use Rattle.laws_epochs.specs.LostDisks as lost
use Rattle.laws_epochs.specs.LostDisks.{AreEvents, KeepsTo, MajorityKeeps, after_events, with_disks}
use Rattle.laws_epochs.proofs.Later.{later_than_itself, later_yet}
use Rattle.laws_epochs.proofs.LosingMajorities.{split}
use Rattle.laws_epoch_ends.specs.Processes.{IsAt, IsNew, made_by_move, made_by_step, made_by_telling, with_new}
use Rattle.laws_epoch_ends.specs.LostDisks.{Deed, Does, Happens, doings_in, events_in, begins, BeginsIn, HasLaterBegun, TakesPart, TakesPartNoMore, AreHosted, NothingNewIn, AreOfProcesses, made_by, made_by_deed, made_by_event}
use Rattle.laws_epoch_ends.proofs.Joining.{NothingNew, down_is_out, down_or_recovering, if_append}
use Rattle.laws_epoch_ends.proofs.Processes.{same_made, stays_new}
use Rattle.laws_epoch_ends.proofs.Steps.{no_value, same_epoch}

-- ---- lists of deeds

module _ {C : Type 0} where
  pub doings_append : (xs ys : List (Deed C)) → doings_in (xs ++ ys) ≡ doings_in xs ++ doings_in ys
  doings_append [] ys = refl
  doings_append (Does v ∷ xs) ys = ap (λ vs. v ∷ vs) (doings_append xs ys)
  doings_append (Happens e event c ∷ xs) ys = doings_append xs ys

  pub events_append : (e : Epoch) (xs ys : List (Deed C)) → events_in e (xs ++ ys) ≡ events_in e xs ++ events_in e ys
  events_append e [] ys = refl
  events_append e (Does v ∷ xs) ys = events_append e xs ys
  events_append e (Happens own event c ∷ xs) ys = if_append (is_same own e) (event, c) (events_in e (xs ++ ys)) (events_in e xs) (events_in e ys) (events_append e xs ys)

  -- where an event of an epoch stands among deeds
  record StandsAt (deeds : List (Deed C)) (e : Epoch) (k : ℕ) (x : Event C × Completion) : Type 0 where
    pub before : List (Deed C)
    pub behind : List (Deed C)
    pub is : deeds ≡ before ++ Happens e x.0 x.1 ∷ behind
    pub so_far : events_in e before ≡ take k (events_in e deeds)

  stands_at : (deeds : List (Deed C)) (e : Epoch) (k : ℕ) (x : Event C × Completion) → slice_get (events_in e deeds) k ≡ Some x → StandsAt deeds e k x
  stands_at [] e k x h = no_value None x refl h
  stands_at (Does v ∷ deeds) e k x h =
      let rest = stands_at deeds e k x h in
      record { before = Does v ∷ rest.before; behind = rest.behind; is = ap (λ xs. Does v ∷ xs) rest.is; so_far = rest.so_far }
  stands_at (Happens own event c ∷ deeds) e k x h = go (λ j at. stands_at deeds e j x at) (is_same own e) refl k h
    where
      go : ((j : ℕ) → slice_get (events_in e deeds) j ≡ Some x → StandsAt deeds e j x) → (t : Bool) → is_same own e ≡ t → (k : ℕ) → slice_get (cond t ((event, c) ∷ events_in e deeds) (events_in e deeds)) k ≡ Some x → StandsAt (Happens own event c ∷ deeds) e k x
      go more false t k h =
          let rest = more k h in
          record {
            before = Happens own event c ∷ rest.before;
            behind = rest.behind;
            is = ap (λ xs. Happens own event c ∷ xs) rest.is;
            so_far = ap (λ b. cond b ((event, c) ∷ events_in e rest.before) (events_in e rest.before)) t ∙ (rest.so_far
                ∙ ap (λ b. take k (cond b ((event, c) ∷ events_in e deeds) (events_in e deeds))) (sym t));
          }
      go more true t zero h =
          let same : (event, c) ≡ x = same_Some (event, c) x h in
          record {
            before = [];
            behind = deeds;
            is = ap (λ (y : Epoch × (Event C × Completion)). Happens y.0 y.1.0 y.1.1 ∷ deeds) (λ i. (same_epoch own e t i, same i));
            so_far = refl;
          }
      go more true t (suc k) h =
          let rest = more k h in
          record {
            before = Happens own event c ∷ rest.before;
            behind = rest.behind;
            is = ap (λ xs. Happens own event c ∷ xs) rest.is;
            so_far = ap (λ b. cond b ((event, c) ∷ events_in e rest.before) (events_in e rest.before)) t ∙ (ap (λ es. (event, c) ∷ es) rest.so_far
                ∙ ap (λ b. take (suc k) (cond b ((event, c) ∷ events_in e deeds) (events_in e deeds))) (sym t));
          }

-- ---- an epoch before one that has begun

-- f+1 machines keep to an epoch that begins
abbrev pub Keeps : Type 0
Keeps = (f machine now : ℕ) (stores : ℕ → Kept) (early : List lost.Event) (epoch : Epoch) (becomes : ColdStart)
    → AreEvents f (with_disks stores) (early ++ lost.Moves (Takes machine (TimeHasPassed now) (steps.Begins epoch) becomes) ∷ [])
    → MajorityKeeps f stores early (lost.Moves (Takes machine (TimeHasPassed now) (steps.Begins epoch) becomes)) epoch

module _ {C A : Type 0} (f : ℕ) (answer : List C → A) (stores : ℕ → Kept) (law : NothingNew C A) (behind : Keeps) (early late : List (Deed C)) (i now : ℕ) (next epoch : Epoch) (becomes : ColdStart)
    (later : is_later next epoch ≡ true)
    (hosted : AreHosted f answer stores epoch (early ++ Does (lost.Moves (Takes i (TimeHasPassed now) (steps.Begins next) becomes)) ∷ late)) where
  abbrev doing : lost.Event
  doing = lost.Moves (Takes i (TimeHasPassed now) (steps.Begins next) becomes)

  abbrev whole : List (Deed C)
  whole = early ++ Does doing ∷ late

  abbrev MayDo : List lost.Event → Type 0
  MayDo vs = AreEvents f (with_disks stores) vs

  -- as far as these deeds go
  up_to : (xs ys : List (Deed C)) → whole ≡ xs ++ ys → MayDo (doings_in xs)
  up_to xs ys is = (split f (doings_in xs) (doings_in ys) (with_disks stores) (subst MayDo (ap doings_in is ∙ doings_append xs ys) hosted.doings)).0

  majority : MajorityKeeps f stores (doings_in early) doing next
  majority =
      let there : whole ≡ (early ++ Does doing ∷ []) ++ late = sym (append_assoc early (Does doing ∷ []) late) in
      behind f i now stores (doings_in early) next becomes (subst MayDo (doings_append early (Does doing ∷ [])) (up_to (early ++ Does doing ∷ []) late there))

  -- none of those takes part in the epoch any more
  never : (some : List (Deed C)) (j : ℕ) (rest : List (Deed C)) → late ≡ some ++ rest → j < group_size f → majority.who j ≡ true
      → TakesPart epoch ((after_events f (with_disks stores) (doings_in (early ++ Does doing ∷ some))).machines.at j) → ⊥
  never some j rest is low one part =
      let deeds : List (Deed C) = early ++ Does doing ∷ some in
      let all : whole ≡ deeds ++ rest = ap (λ xs. early ++ Does doing ∷ xs) is ∙ sym (append_assoc early (Does doing ∷ some) rest) in
      let same : doings_in deeds ≡ doings_in early ++ doing ∷ doings_in some = doings_append early (Does doing ∷ some) in
      let keeps : KeepsTo next ((after_events f (with_disks stores) (doings_in early ++ doing ∷ doings_in some)).machines.at j) =
      majority.keeps (doings_in some) j (subst MayDo same (up_to deeds rest all)) low one in
      let there : KeepsTo next ((after_events f (with_disks stores) (doings_in deeds)).machines.at j) =
      subst (λ vs. KeepsTo next ((after_events f (with_disks stores) vs).machines.at j)) (sym same) keeps in
      later_than_itself next (later_yet next epoch next later (there.part part.value epoch part.runs part.part))

  -- one of those is down in the epoch's run, from then on
  is_out : (some rest : List (Deed C)) (j : ℕ) → late ≡ some ++ rest → j < group_size f → majority.who j ≡ true
      → is_down ((world f answer (events_in epoch (early ++ Does doing ∷ some))).replicas j).status ≡ true
  is_out some rest j is low one =
      let deeds : List (Deed C) = early ++ Does doing ∷ some in
      let all : whole ≡ deeds ++ rest = ap (λ xs. early ++ Does doing ∷ xs) is ∙ sym (append_assoc early (Does doing ∷ some) rest) in
      let begun : HasLaterBegun epoch deeds = record { early = early; machine = i; now = now; next = next; becomes = becomes; late = some; is = refl; later = later } in
      let no_more : TakesPartNoMore f answer stores epoch deeds rest j = λ more others parts part.
      let together : late ≡ (some ++ more) ++ others = is ∙ (ap (λ xs. some ++ xs) parts ∙ sym (append_assoc some more others)) in
      let same : deeds ++ more ≡ early ++ Does doing ∷ (some ++ more) = append_assoc early (Does doing ∷ some) more in
      never (some ++ more) j others together low one (subst (λ xs. TakesPart epoch ((after_events f (with_disks stores) (doings_in xs)).machines.at j)) same part) in
      hosted.closed deeds rest j all low begun no_more

  -- its replica there, at the moment itself
  abbrev now_in : World C A
  now_in = world f answer (events_in epoch early)

  here : world f answer (events_in epoch (early ++ Does doing ∷ [])) ≡ now_in
  here = ap (λ es. world f answer es) (events_append epoch early (Does doing ∷ []) ∙ append-nil (events_in epoch early))

  nobody_answers : (j k nonce : ℕ) (event : Event C) → j < group_size f → majority.who j ≡ true → slice_get (events_in epoch late) k ≡ Some (event, Done)
      → HandsAnswer (world f answer (events_in epoch early ++ take k (events_in epoch late))) event j nonce → ⊥
  nobody_answers j k nonce event low one at hands =
      let s = stands_at late epoch k (event, Done) at in
      let same : world f answer (events_in epoch early ++ take k (events_in epoch late)) ≡ world f answer (events_in epoch (early ++ Does doing ∷ s.before)) =
      ap (λ es. world f answer (events_in epoch early ++ es)) (sym s.so_far) ∙ ap (λ es. world f answer es) (sym (events_append epoch early (Does doing ∷ s.before))) in
      let down = is_out s.before (Happens epoch event Done ∷ s.behind) j s.is low one in
      down_or_recovering _ (subst (λ (w : World C A). is_down (w.replicas j).status ≡ true) (sym same) down) hands.recovers.0

  out_for_good : AreFrozen f answer (events_in epoch early) (events_in epoch (Does doing ∷ late)) majority.who (λ j. (now_in.replicas j).nonce)
  out_for_good = record {
    many = majority.many;
    out = λ j low one. (down_is_out _ (subst (λ (w : World C A). is_down (w.replicas j).status ≡ true) here (is_out [] late j refl low one)), refl);
    unanswered = λ j low one k event at hands. nobody_answers j k (now_in.replicas j).nonce event low one at hands;
  }

  pub nothing_new : NothingNewIn f answer stores epoch early (Does (lost.Moves (Takes i (TimeHasPassed now) (steps.Begins next) becomes)) ∷ late)
  nothing_new m out = law f answer (events_in epoch early) (events_in epoch (Does doing ∷ late)) majority.who (λ j. (now_in.replicas j).nonce) m out_for_good out

-- ---- what processes make of an epoch

-- no machine begins an epoch twice
abbrev pub Once : Type 0
Once = (f i : ℕ) (stores : ℕ → Kept) (early late : List lost.Event) (epoch : Epoch) (first second : ColdStart)
    → AreEvents f (with_disks stores) (early ++ (lost.Moves (Takes i StoreHas (steps.Starts epoch) first) ∷ (late ++ lost.Moves (Takes i StoreHas (steps.Starts epoch) second) ∷ []))) → ⊥

module _ {C A : Type 0} (f : ℕ) (answer : List C → A) (e : Epoch) (stores : ℕ → Kept) where
  abbrev run_of : List (Deed C) → World C A
  run_of deeds = world f answer (events_in e deeds)

  done : (before : List (Deed C)) (v : lost.Event) → run_of (before ++ Does v ∷ []) ≡ run_of before
  done before v = ap (λ es. world f answer es) (events_append e before (Does v ∷ []) ∙ append-nil (events_in e before))

  -- an event of the epoch, or of another one
  happened : (before : List (Deed C)) (own : Epoch) (event : Event C) (completion : Completion)
      → run_of (before ++ Happens own event completion ∷ []) ≡ cond (is_same own e) (happens f answer (run_of before) event completion) (run_of before)
  happened before own event completion = ap (λ es. world f answer es) (events_append e before (Happens own event completion ∷ [])) ∙ go (is_same own e)
    where
      go : (b : Bool) → world f answer (events_in e before ++ cond b ((event, completion) ∷ []) []) ≡ cond b (happens f answer (run_of before) event completion) (run_of before)
      go true = run_append f answer (events_in e before) ((event, completion) ∷ []) start
      go false = ap (λ es. world f answer es) (append-nil (events_in e before))

  module _ (law : Once) (all : List (Deed C)) (right : AreOfProcesses f answer stores e all) (i : ℕ) (b : ColdStart) (late : List (Deed C)) where
    abbrev it_begins : Deed C
    it_begins = begins i e b

    abbrev second : lost.Event
    second = lost.Moves (Takes i StoreHas (steps.Starts e) b)

    -- a machine that begins the epoch by these deeds hasn't begun it before
    not_twice : (before between : List (Deed C)) → all ≡ before ++ (between ++ it_begins ∷ late) → BeginsIn before i e → ⊥
    not_twice before between is was =
        let first : lost.Event = lost.Moves (Takes i StoreHas (steps.Starts e) was.becomes) in
        let rest : List (Deed C) = was.late ++ between in
        let until : List (Deed C) = was.early ++ begins i e was.becomes ∷ (rest ++ it_begins ∷ []) in
        let there : all ≡ until ++ late =
        is ∙ (ap (λ xs. xs ++ (between ++ it_begins ∷ late)) was.is
        ∙ (append_assoc was.early (begins i e was.becomes ∷ was.late) (between ++ it_begins ∷ late)
        ∙ (ap (λ xs. was.early ++ begins i e was.becomes ∷ xs) (sym (append_assoc was.late between (it_begins ∷ late)) ∙ sym (append_assoc rest (it_begins ∷ []) late))
        ∙ sym (append_assoc was.early (begins i e was.becomes ∷ (rest ++ it_begins ∷ [])) late)))) in
        let may = (split f (doings_in until) (doings_in late) (with_disks stores) (subst (AreEvents f (with_disks stores)) (ap doings_in there ∙ doings_append until late) right.doings)).0 in
        let same : doings_in until ≡ doings_in was.early ++ (first ∷ (doings_in rest ++ second ∷ [])) =
        doings_append was.early (begins i e was.becomes ∷ (rest ++ it_begins ∷ [])) ∙ ap (λ vs. doings_in was.early ++ first ∷ vs) (doings_append rest (it_begins ∷ [])) in
        law f i stores (doings_in was.early) (doings_in rest) e was.becomes b (subst (AreEvents f (with_disks stores)) same may)

    -- before it begins the epoch nothing happens to its replica
    not_yet : (before between : List (Deed C)) (event : Event C) (completion : Completion) → all ≡ before ++ Happens e event completion ∷ (between ++ it_begins ∷ late) → IsAt (run_of before) event i → ⊥
    not_yet before between event completion is at =
        let deed : Deed C = Happens e event completion in
        let whole : all ≡ (before ++ deed ∷ between) ++ it_begins ∷ late = is ∙ sym (append_assoc before (deed ∷ between) (it_begins ∷ late)) in
        let begun = right.behind before (between ++ it_begins ∷ late) event completion i is (record { early = before ++ deed ∷ between; becomes = b; late = late; is = whole }) at in
        not_twice before (deed ∷ between) is begun

    one_deed : (before between : List (Deed C)) (deed : Deed C) → all ≡ before ++ deed ∷ (between ++ it_begins ∷ late) → IsNew (run_of before) i → IsNew (run_of (before ++ deed ∷ [])) i
    one_deed before between (Does v) is h = subst (λ (w : World C A). IsNew w i) (sym (done before v)) h
    one_deed before between (Happens own event completion) is h =
        subst (λ (w : World C A). IsNew w i) (sym (happened before own event completion)) (go (is_same own e) refl)
      where
        go : (t : Bool) → is_same own e ≡ t → IsNew (cond t (happens f answer (run_of before) event completion) (run_of before)) i
        go true same =
            let there : all ≡ before ++ Happens e event completion ∷ (between ++ it_begins ∷ late) = is ∙ ap (λ x. before ++ Happens x event completion ∷ (between ++ it_begins ∷ late)) (same_epoch own e same) in
            stays_new f answer i (run_of before) event completion (not_yet before between event completion there) h
        go false same = h

    new_up_to : (before between : List (Deed C)) → all ≡ before ++ (between ++ it_begins ∷ late) → IsNew (run_of before) i → IsNew (run_of (before ++ between)) i
    new_up_to before [] is h = subst (λ deeds. IsNew (run_of deeds) i) (sym (append-nil before)) h
    new_up_to before (deed ∷ deeds) is h =
        let more = new_up_to (before ++ deed ∷ []) deeds (is ∙ sym (append_assoc before (deed ∷ []) (deeds ++ it_begins ∷ late))) (one_deed before deeds deed is h) in
        subst (λ xs. IsNew (run_of xs) i) (append_assoc before (deed ∷ []) deeds) more

  -- who begins the epoch finds its replica new
  pub finds_new : Once → (early late : List (Deed C)) (i : ℕ) (b : ColdStart) → AreOfProcesses f answer stores e (early ++ begins i e b ∷ late) → IsNew (run_of early) i
  finds_new law early late i b right = new_up_to law (early ++ begins i e b ∷ late) right i b late [] early refl (refl, refl)

  module _ (law : Once) where
    by_step : (before late : List (Deed C)) (i : ℕ) (step : Step) (b : ColdStart) → AreOfProcesses f answer stores e (before ++ Does (lost.Moves (Takes i StoreHas step b)) ∷ late) → made_by_step f answer e (run_of before) i step ≡ run_of before
    by_step before late i (steps.Starts own) b right = go (is_same own e) refl
      where
        go : (t : Bool) → is_same own e ≡ t → cond t (with_new (run_of before) i) (run_of before) ≡ run_of before
        go true same =
            let at = subst (λ x. AreOfProcesses f answer stores e (before ++ begins i x b ∷ late)) (same_epoch own e same) right in
            same_made f answer i (run_of before) (finds_new law before late i b at)
        go false same = refl
    by_step before late i _ b right = refl

    by_telling : (before late : List (Deed C)) (i : ℕ) (telling : Telling) (step : Step) (b : ColdStart) → AreOfProcesses f answer stores e (before ++ Does (lost.Moves (Takes i telling step b)) ∷ late)
        → made_by_telling f answer e (run_of before) i telling step ≡ run_of before
    by_telling before late i StoreHas step b right = by_step before late i step b right
    by_telling before late i _ step b right = refl

    by_move : (before late : List (Deed C)) (m : Move) → AreOfProcesses f answer stores e (before ++ Does (lost.Moves m) ∷ late) → made_by_move f answer e (run_of before) m ≡ run_of before
    by_move before late (Takes i telling step b) right = by_telling before late i telling step b right
    by_move before late _ right = refl

    by_event : (before late : List (Deed C)) (v : lost.Event) → AreOfProcesses f answer stores e (before ++ Does v ∷ late) → made_by_event f answer stores e (run_of before) v ≡ run_of before
    by_event before late (lost.Moves m) right = by_move before late m right
    by_event before late _ right = refl

    by_deed : (before late : List (Deed C)) (deed : Deed C) → AreOfProcesses f answer stores e (before ++ deed ∷ late) → made_by_deed f answer stores e (run_of before) deed ≡ run_of (before ++ deed ∷ [])
    by_deed before late (Does v) right = by_event before late v right ∙ sym (done before v)
    by_deed before late (Happens own event completion) right = sym (happened before own event completion)

    goes_on : (before deeds : List (Deed C)) → AreOfProcesses f answer stores e (before ++ deeds) → made_by f answer stores e (run_of before) deeds ≡ run_of (before ++ deeds)
    goes_on before [] right = ap run_of (sym (append-nil before))
    goes_on before (deed ∷ deeds) right =
        let assoc = append_assoc before (deed ∷ []) deeds in
        ap (λ w. made_by f answer stores e w deeds) (by_deed before deeds deed right)
        ∙ (goes_on (before ++ deed ∷ []) deeds (subst (AreOfProcesses f answer stores e) (sym assoc) right) ∙ ap run_of assoc)

    pub one_run : (deeds : List (Deed C)) → AreOfProcesses f answer stores e deeds → made_by f answer stores e start deeds ≡ run_of deeds
    one_run deeds right = goes_on [] deeds right
