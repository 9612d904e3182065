-- What was read of a later epoch isn't followed by what is of an earlier one.
use Rattle.std.proofs.Common.{◌≡◌, ℕ, ◌≤◌, List, [], ◌∷◌, ◌++◌, length, take, refl, sym, ap, ◌∙◌, subst, arith, append_assoc, true}
use Rattle.std.proofs.lemmas.Grind.{common_steps}
use Rattle.vr_model.specs.Logs.{Request, IsAmong}
use Rattle.vr_model.specs.World.{Event, Completion}
use Rattle.vr_model.specs.Views.{world}
use Rattle.net_hello.specs.declared.hello.Epoch.{Epoch}
use Rattle.plc_epochs.specs.Epochs.{is_later}
use Rattle.plc_epochs.specs.declared.kept.Kept.{Kept}
use Rattle.plc_epochs.specs.declared.cold_start.ColdStart.{ColdStart}
use Rattle.plc_epochs.specs.declared.cold_start.Step.TheVariants as steps
use Rattle.laws_epochs.specs.Machines.{Takes, TimeHasPassed}
use Rattle.laws_epochs.specs.LostDisks as lost
use Rattle.laws_cold_start.specs.ColdStarts.{IsInNoLog, IsNeverCommitted}
use Rattle.laws_epoch_ends.specs.Acts.{Act, Moves, AreHosted, events_in}
use Rattle.laws_epoch_ends.specs.Ends.{NothingNewIn}
use Rattle.laws_epoch_ends.specs.LostDisks.{Deed, Does}
use Rattle.laws_epoch_ends.specs.LostDisks as kept
use Rattle.laws_epoch_ends.proofs.Joining.{events_append}
use Rattle.laws_epoch_ends.proofs.LostDisks as deeds
use Rattle.laws_readers.specs.Readings.{Timed, acts_of, BeginsBy, BeginsByDeed, HasBegunBefore, Shows, ShowsByDeeds, ShowsOf}

timed_append : {X : Type 0} (xs ys : List (Timed X)) → acts_of (xs ++ ys) ≡ acts_of xs ++ acts_of ys
timed_append [] ys = refl
timed_append (x ∷ xs) ys = ap (λ as_acts. x.act ∷ as_acts) (timed_append xs ys)

take_all : {X : Type 0} (xs : List X) → take (length xs) xs ≡ xs
take_all xs = grind (arith, common_steps)

-- what stood in no log by then is committed by none of what comes
abbrev NothingNew : {C A : Type 0} → ℕ → (List C → A) → List (Event C × Completion) → List (Event C × Completion) → Type 0
NothingNew {C} f answer early late = (m : Request C) → IsInNoLog f answer early m → IsNeverCommitted f answer early late m

-- ---- acts of whichever kind

module _ {X C A : Type 0} (f : ℕ) (answer : List C → A) (later_events events : List X → List (Event C × Completion)) (Begins BeginsEarlier : X → Type 0)
    (append : (xs ys : List X) → events (xs ++ ys) ≡ events xs ++ events ys) (fresh : ℕ) (first more : List (Timed X)) (now then : ℕ)
    (law : (early late : List X) (act : X) → Begins act → acts_of (first ++ more) ≡ early ++ act ∷ late → NothingNew f answer (events early) (events (act ∷ late))) where
  never_back : now ≤ then → ShowsOf f answer later_events Begins fresh first now → ShowsOf f answer events BeginsEarlier fresh (first ++ more) then → ⊥
  never_back order one two =
      let b : HasBegunBefore Begins first now fresh = one.opened in
      let rest : List (Timed X) = b.late ++ more in
      let whole : first ++ more ≡ b.early ++ b.beginning ∷ rest = ap (λ xs. xs ++ more) b.is ∙ append_assoc b.early (b.beginning ∷ b.late) more in
      let old : IsInNoLog f answer (events (acts_of b.early)) two.request = two.young b.early rest b.beginning whole (omega (arith, b.passed, order)) in
      let early : List X = acts_of b.early in
      let late : List X = b.beginning.act ∷ acts_of rest in
      let acts : acts_of (first ++ more) ≡ early ++ late = ap acts_of whole ∙ timed_append b.early (b.beginning ∷ rest) in
      let never = law early (acts_of rest) b.beginning.act b.begins acts two.request old in
      let all : events (acts_of (first ++ more)) ≡ events early ++ take (length (events late)) (events late) =
      ap events acts ∙ (append early late ∙ ap (λ es. events early ++ es) (sym (take_all (events late)))) in
      never.order (length (events late)) (subst (λ es. IsAmong (world f answer es).order two.request) all two.committed)

-- ---- disks are kept

-- the law of what begins
abbrev pub NothingNewBehind : Type 0 → Type 0 → Type 0
NothingNewBehind C A = (f : ℕ) (answer : List C → A) (stores : ℕ → Kept) (belongs : ℕ → ℕ → ℕ) (early late : List (Act C)) (i now : ℕ) (next epoch : Epoch) (becomes : ColdStart) → is_later next epoch ≡ true
    → AreHosted f answer stores belongs epoch (early ++ Moves (Takes i (TimeHasPassed now) (steps.Begins next) becomes) ∷ late) → NothingNewIn f answer epoch early (Moves (Takes i (TimeHasPassed now) (steps.Begins next) becomes) ∷ late)

pub no_way_back : {C A : Type 0} (law : NothingNewBehind C A) (f : ℕ) (answer : List C → A) (stores : ℕ → Kept) (belongs : ℕ → ℕ → ℕ) (fresh : ℕ) (first more : List (Timed (Act C))) (later earlier : Epoch) (now then : ℕ)
    → AreHosted f answer stores belongs earlier (acts_of (first ++ more)) → is_later later earlier ≡ true → now ≤ then → Shows f answer fresh first later now → Shows f answer fresh (first ++ more) earlier then → ⊥
no_way_back {C} {A} law f answer stores belongs fresh first more later earlier now then hosted above =
    never_back f answer (events_in later) (events_in earlier) (BeginsBy later) (BeginsBy earlier) (events_append earlier) fresh first more now then nothing_new
  where
    nothing_new : (early late : List (Act C)) (act : Act C) → BeginsBy later act → acts_of (first ++ more) ≡ early ++ act ∷ late → NothingNew f answer (events_in earlier early) (events_in earlier (act ∷ late))
    nothing_new early late act begins is =
        let there : acts_of (first ++ more) ≡ early ++ Moves (Takes begins.machine (TimeHasPassed begins.own_time) (steps.Begins later) begins.becomes) ∷ late = is ∙ ap (λ a. early ++ a ∷ late) begins.is in
        subst (λ a. NothingNew f answer (events_in earlier early) (events_in earlier (a ∷ late))) (sym begins.is)
        (law f answer stores belongs early late begins.machine begins.own_time later earlier begins.becomes above (subst (λ xs. AreHosted f answer stores belongs earlier xs) there hosted))

-- ---- disks may be lost

abbrev pub NothingNewThoughLost : Type 0 → Type 0 → Type 0
NothingNewThoughLost C A = (f : ℕ) (answer : List C → A) (stores : ℕ → Kept) (early late : List (Deed C)) (i now : ℕ) (next epoch : Epoch) (becomes : ColdStart) → is_later next epoch ≡ true
    → kept.AreHosted f answer stores epoch (early ++ Does (lost.Moves (Takes i (TimeHasPassed now) (steps.Begins next) becomes)) ∷ late)
    → kept.NothingNewIn f answer stores epoch early (Does (lost.Moves (Takes i (TimeHasPassed now) (steps.Begins next) becomes)) ∷ late)

pub no_way_back_by_deeds : {C A : Type 0} (law : NothingNewThoughLost C A) (f : ℕ) (answer : List C → A) (stores : ℕ → Kept) (fresh : ℕ) (first more : List (Timed (Deed C))) (later earlier : Epoch) (now then : ℕ)
    → kept.AreHosted f answer stores earlier (acts_of (first ++ more)) → is_later later earlier ≡ true → now ≤ then → ShowsByDeeds f answer fresh first later now → ShowsByDeeds f answer fresh (first ++ more) earlier then → ⊥
no_way_back_by_deeds {C} {A} law f answer stores fresh first more later earlier now then hosted above =
    never_back f answer (kept.events_in later) (kept.events_in earlier) (BeginsByDeed later) (BeginsByDeed earlier) (deeds.events_append earlier) fresh first more now then nothing_new
  where
    nothing_new : (early late : List (Deed C)) (act : Deed C) → BeginsByDeed later act → acts_of (first ++ more) ≡ early ++ act ∷ late → NothingNew f answer (kept.events_in earlier early) (kept.events_in earlier (act ∷ late))
    nothing_new early late act begins is =
        let there : acts_of (first ++ more) ≡ early ++ Does (lost.Moves (Takes begins.machine (TimeHasPassed begins.own_time) (steps.Begins later) begins.becomes)) ∷ late = is ∙ ap (λ a. early ++ a ∷ late) begins.is in
        subst (λ a. NothingNew f answer (kept.events_in earlier early) (kept.events_in earlier (a ∷ late))) (sym begins.is)
        (law f answer stores early late begins.machine begins.own_time later earlier begins.becomes above (subst (λ xs. kept.AreHosted f answer stores earlier xs) there hosted))
