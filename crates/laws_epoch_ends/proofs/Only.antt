-- No step but one for a word gives an epoch up.
use Rattle.std.proofs.Common.{◌≡◌, ℕ, Bool, true, false, not, ◌&&◌, List, Option, Some, None, refl, sym, ap, ◌∙◌, is_some}
use Rattle.std.specs.Prelude.{bytes_eq, count_by, nat_lt, slice_set, if◌then◌else◌}
use Rattle.std.proofs.lemmas.Option.{same_Some}
use Rattle.net_hello.specs.declared.hello.Epoch.{Epoch}
use Rattle.plc_epochs.specs.Epochs.{is_far_above, is_later, is_recent_of, is_same}
use Rattle.plc_epochs.specs.Recovering.{thawed}
use Rattle.plc_epochs.specs.Table
use Rattle.plc_epochs.specs.declared.kept.Kept.{Kept}
use Rattle.plc_epochs.specs.declared.kept.Kept.TheVariants as keeps
use Rattle.plc_epochs.specs.declared.recovery.Recovery.{Recovery}
use Rattle.plc_epochs.specs.declared.cold_start.ColdStart.{ColdStart}
use Rattle.plc_epochs.specs.declared.cold_start.Phase.{Phase}
use Rattle.plc_epochs.specs.declared.cold_start.Phase.TheVariants.{Waiting, Above, Entering, Entered, Beginning, TakingPart, Recovering}
use Rattle.plc_epochs.specs.declared.cold_start.Step.{Step}
use Rattle.plc_epochs.specs.declared.cold_start.Step.TheVariants as steps
use Rattle.laws_epochs.specs.Machines.{Telling, TimeHasPassed, StoreHas, HelloCame, SignCame, RecoveryCame, WordCame, ReplicaRecovered, ImageIs, Follows}
use Rattle.laws_epoch_ends.specs.Freezing.{IsWord}
use Rattle.laws_epoch_ends.proofs.Steps.{either, no_value}
use Rattle.laws_epoch_ends.proofs.Saying.{end_in}

module _ (a b : ColdStart) (step : Step) (next : Epoch) (is : step ≡ steps.Ends next) where
  other : (does : Step) → step ≡ does → end_in does ≡ None → ⊥
  other does same none = no_value (end_in does) next none (ap end_in (sym same ∙ is))

  looks_by : (own : Epoch) (r : Recovery) (now : ℕ) (o : Option Recovery) → Table.LooksBy own r now o a step b → ⊥
  looks_by own r now (Some after) h = other (steps.Thaws after.nonce) h.0 refl
  looks_by own r now None h = either (Table.may_ask a r now) _ _ _ h (λ t g. other steps.Asks g.0 refl) (λ t g. other steps.Nothing g.0 refl)

  looks : (p : Phase) (now : ℕ) → Table.LooksIn p now a step b → ⊥
  looks (Entered own heard) now h = either (Table.may_begin a own heard) _ _ _ h (λ t g. other (steps.Begins own) g.0 refl) (λ t g. other steps.Nothing g.0 refl)
  looks (Recovering own r) now h = looks_by own r now (thawed r a.place.config.f now) h
  looks (Waiting heard above) now h = other steps.Nothing h.0 refl
  looks (Above above) now h = other steps.Nothing h.0 refl
  looks (Entering own heard) now h = other steps.Nothing h.0 refl
  looks (Beginning own) now h = other steps.Nothing h.0 refl
  looks (TakingPart own) now h = other steps.Nothing h.0 refl

  stores_entered : (own : Epoch) (heard : List (Option ℕ)) (has : Kept) → Table.StoresEntered own heard has a step b → ⊥
  stores_entered own heard (keeps.Entered has) h = either (is_same has own) _ _ _ h (λ t g. other (steps.Enters own) g.0 refl) (λ t g. other steps.Nothing g.0 refl)
  stores_entered own heard keeps.Nothing h = other steps.Nothing h.0 refl
  stores_entered own heard (keeps.Above above) h = other steps.Nothing h.0 refl
  stores_entered own heard (keeps.Begun has) h = other steps.Nothing h.0 refl

  stores_begun : (own : Epoch) (has : Kept) → Table.StoresBegun own has a step b → ⊥
  stores_begun own (keeps.Begun has) h = either (is_same has own) _ _ _ h (λ t g. other (steps.Starts own) g.0 refl) (λ t g. other steps.Nothing g.0 refl)
  stores_begun own keeps.Nothing h = other steps.Nothing h.0 refl
  stores_begun own (keeps.Above above) h = other steps.Nothing h.0 refl
  stores_begun own (keeps.Entered has) h = other steps.Nothing h.0 refl

  stores : (p : Phase) (has : Kept) → Table.StoresIn p has a step b → ⊥
  stores (Entering own heard) has h = stores_entered own heard has h
  stores (Beginning own) has h = stores_begun own has h
  stores (Waiting heard above) has h = other steps.Nothing h.0 refl
  stores (Above above) has h = other steps.Nothing h.0 refl
  stores (Entered own heard) has h = other steps.Nothing h.0 refl
  stores (TakingPart own) has h = other steps.Nothing h.0 refl
  stores (Recovering own r) has h = other steps.Nothing h.0 refl

  -- what it does where it stays is no end
  stay_if : (early goes far same : Bool) (epoch : Epoch) (s : Step)
      → (if early then Some steps.Nothing else (if goes then Some (steps.Refuses epoch) else (if far then Some (steps.FarAbove epoch) else (if same then None else Some (steps.OtherProgram epoch))))) ≡ Some s → step ≡ s → ⊥
  stay_if true goes far same epoch s h k = other steps.Nothing (k ∙ sym (same_Some steps.Nothing s h)) refl
  stay_if false true far same epoch s h k = other (steps.Refuses epoch) (k ∙ sym (same_Some (steps.Refuses epoch) s h)) refl
  stay_if false false true same epoch s h k = other (steps.FarAbove epoch) (k ∙ sym (same_Some (steps.FarAbove epoch) s h)) refl
  stay_if false false false true epoch s h k = no_value None s refl h
  stay_if false false false false epoch s h k = other (steps.OtherProgram epoch) (k ∙ sym (same_Some (steps.OtherProgram epoch) s h)) refl

  leaves_unless : (o : Option Step) (own : Epoch) (from : ℕ) (epoch : Epoch) (now : ℕ) → Table.staying a own epoch now ≡ o → Table.LeavesUnless o from epoch now a step b → ⊥
  leaves_unless (Some s) own from epoch now stays h = stay_if (Table.is_early a now) (Table.goes_on a now) (is_far_above epoch own) (bytes_eq epoch.image a.image) epoch s stays h.0
  leaves_unless None own from epoch now stays h = other (steps.Hears epoch) h.0 refl

  later : (own : Epoch) (from : ℕ) (epoch : Epoch) (now : ℕ) → Table.HearsLater own from epoch now a step b → ⊥
  later own from epoch now h = either (is_later epoch own) _ _ _ h (λ t g. leaves_unless (Table.staying a own epoch now) own from epoch now refl g) (λ t g. other steps.Nothing g.0 refl)

  waiting : (heard : List (Option ℕ)) (above : Epoch) → Table.HearsWaiting heard above a step b → ⊥
  waiting heard above h = either (nat_lt a.place.config.f (count_by is_some heard)) _ _ _ h (λ t g. other (steps.WaitsAbove above) g.0 refl) (λ t g. other steps.Counts g.0 refl)

  hears : (p : Phase) (from : ℕ) (epoch : Epoch) (now : ℕ) → Table.HearsIn p from epoch now a step b → ⊥
  hears (Waiting heard above) from epoch now h = waiting (slice_set heard from (Some now)) (Table.later_of above epoch) h
  hears (Above above) from epoch now h = later above from epoch now h
  hears (Entering own heard) from epoch now h = either (is_same epoch own) _ _ _ h (λ t g. other steps.Counts g.0 refl) (λ t g. later own from epoch now g)
  hears (Entered own heard) from epoch now h =
      either (is_later epoch own) _ _ _ h (λ t g. later own from epoch now g)
      (λ t g. either (is_same epoch own) _ _ _ g (λ d m. other steps.Counts m.0 refl) (λ d m. other (steps.Before epoch) m.0 refl))
  hears (Beginning own) from epoch now h = later own from epoch now h
  hears (TakingPart own) from epoch now h = later own from epoch now h
  hears (Recovering own r) from epoch now h = later own from epoch now h

  sign : (o : Option Epoch) (from : ℕ) (epoch : Epoch) (now : ℕ) → Table.SignIn o from epoch now a step b → ⊥
  sign (Some own) from epoch now h =
      either (Table.is_taken a from epoch own && not (is_recent_of a.recoveries from now)) _ _ _ h (λ t g. other steps.Counts g.0 refl) (λ t g. other steps.Nothing g.0 refl)
  sign None from epoch now h = other steps.Nothing h.0 refl

  recovery : (o : Option Epoch) (from : ℕ) (epoch : Epoch) (now : ℕ) → Table.RecoveryIn o from epoch now a step b → ⊥
  recovery (Some own) from epoch now h = either (Table.is_taken a from epoch own) _ _ _ h (λ t g. other steps.Counts g.0 refl) (λ t g. other steps.Nothing g.0 refl)
  recovery None from epoch now h = other steps.Nothing h.0 refl

  by_telling : (telling : Telling) (store : Kept) → Follows telling store a step b → IsWord telling
  by_telling (TimeHasPassed now) store h = looks a.phase now h
  by_telling StoreHas store h = stores a.phase store h
  by_telling (HelloCame from epoch now place) store h = either (Table.is_heard a from epoch) _ _ _ h (λ t g. hears a.phase from epoch now g) (λ t g. other steps.Nothing g.0 refl)
  by_telling (SignCame from epoch now) store h = sign (Table.spoken_in a.phase) from epoch now h
  by_telling (RecoveryCame from epoch now) store h = recovery (Table.spoken_in a.phase) from epoch now h
  by_telling (WordCame from epoch word now) store h = tt
  by_telling ReplicaRecovered store h = other steps.Nothing h.0 refl
  by_telling (ImageIs image) store h = other steps.Nothing h.0 refl

pub only_words : (telling : Telling) (store : Kept) (a b : ColdStart) (next : Epoch) → Follows telling store a (steps.Ends next) b → IsWord telling
only_words telling store a b next h = by_telling a b (steps.Ends next) next refl telling store h
