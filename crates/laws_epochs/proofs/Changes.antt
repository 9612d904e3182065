-- What a step by the table changes of the hellos that a machine says, of those that it has heard, and of its freezing.
use Rattle.std.proofs.Common.{◌≡◌, ◌⊎◌, ℕ, zero, suc, Bool, true, false, not, ◌&&◌, List, [], ◌∷◌, Option, Some, None, replicate, refl, sym, ap, ◌∙◌, subst, inl, inr, is_some}
use Rattle.std.specs.Prelude.{count_by, nat_lt, slice_get, slice_set, if◌then◌else◌}
use Rattle.std.proofs.lemmas.Bool.{false≢true, and_parts}
use Rattle.net_hello.specs.declared.hello.Epoch.{Epoch}
use Rattle.plc_epochs.specs.Epochs.{is_later, is_recent_of, is_same, nothing_told}
use Rattle.plc_epochs.specs.Recovering as recovering
use Rattle.plc_epochs.specs.Recovering.{is_frozen_long, next_nonce, recovering_anew, thawed}
use Rattle.plc_epochs.specs.Table
use Rattle.plc_epochs.specs.Table.{greeting_in, is_other, leaving}
use Rattle.plc_epochs.specs.declared.kept.Kept.{Kept}
use Rattle.plc_epochs.specs.declared.kept.Kept.TheVariants as keeps
use Rattle.plc_epochs.specs.declared.recovery.Recovery.{Recovery}
use Rattle.plc_epochs.specs.declared.word.Word.{Word}
use Rattle.plc_epochs.specs.declared.word.Word.TheVariants.{Freeze, Frozen, Confirm, StillFrozen, Marked}
use Rattle.plc_epochs.specs.declared.cold_start.ColdStart.{ColdStart}
use Rattle.plc_epochs.specs.declared.cold_start.Greeting.{Greeting}
use Rattle.plc_epochs.specs.declared.cold_start.Greeting.TheVariants.{Silence, Hello}
use Rattle.plc_epochs.specs.declared.cold_start.Phase.{Phase}
use Rattle.plc_epochs.specs.declared.cold_start.Phase.TheVariants.{Waiting, Above, Entering, Entered, Beginning, TakingPart, Recovering}
use Rattle.plc_epochs.specs.declared.cold_start.Place.{Place}
use Rattle.plc_epochs.specs.declared.cold_start.Step.{Step}
use Rattle.plc_epochs.proofs.GoingOn.{either}
use Rattle.laws_epochs.specs.Machines.{Telling, TimeHasPassed, StoreHas, HelloCame, SignCame, RecoveryCame, WordCame, ReplicaRecovered, ImageIs, Follows}
use Rattle.laws_epochs.specs.Beginnings.{HasCome, IsBeginning, IsUnfrozen}
use Rattle.laws_epochs.proofs.Later.{same_epoch}

-- ---- hellos

abbrev pub epoch_in : Epoch → Greeting → Epoch
epoch_in default (Hello epoch) = epoch
epoch_in default _ = default

abbrev is_hello : Greeting → Bool
is_hello (Hello epoch) = true
is_hello _ = false

pub no_hello : (g : Greeting) (e : Epoch) → is_hello g ≡ false → g ≡ Hello e → ⊥
no_hello g e silent h = false≢true (sym silent ∙ ap is_hello h)

abbrev pub heard_in : Option (Option ℕ) → Bool
heard_in (Some came) = is_some came
heard_in None = false

abbrev pub has_heard : List (Option ℕ) → ℕ → Bool
has_heard heard j = heard_in (slice_get heard j)

pub heard_more : (heard : List (Option ℕ)) (from now j : ℕ) → has_heard (slice_set heard from (Some now)) j ≡ true → (from ≡ j) ⊎ (has_heard heard j ≡ true)
heard_more [] from now j h = inr h
heard_more (x ∷ xs) zero now zero h = inl refl
heard_more (x ∷ xs) zero now (suc j) h = inr h
heard_more (x ∷ xs) (suc from) now zero h = inr h
heard_more (x ∷ xs) (suc from) now (suc j) h = elim (heard_more xs from now j h) [
  | inl e ↦ inl (ap suc e)
  | inr k ↦ inr k
]

none_heard : (n j : ℕ) → has_heard (replicate n None) j ≡ true → ⊥
none_heard zero j h = false≢true h
none_heard (suc n) zero h = false≢true h
none_heard (suc n) (suc j) h = none_heard n j h

pub nothing_heard : (j : ℕ) → has_heard nothing_told j ≡ true → ⊥
nothing_heard j h = none_heard 7 j h

-- a machine in this phase has heard that one in this epoch
abbrev pub WasHeard : Phase → Epoch → ℕ → Type 0
WasHeard (Entering own heard) e j = (own ≡ e) × (has_heard heard j ≡ true)
WasHeard (Entered own heard) e j = (own ≡ e) × (has_heard heard j ≡ true)
WasHeard phase e j = ⊥

-- it was told by this, as another machine of its group
abbrev pub IsToldBy : Telling → Place → Epoch → ℕ → Type 0
IsToldBy (HelloCame from epoch now place) own e j = (from ≡ j) × (epoch ≡ e) × (is_other own from ≡ true)
IsToldBy telling own e j = ⊥

-- it has entered this epoch; it begins this epoch
abbrev pub IsEntered : Epoch → Phase → Type 0
IsEntered e (Entered own heard) = own ≡ e
IsEntered e phase = ⊥

pub record Changes (telling : Telling) (store : Kept) (own : Place) (p q : Phase) : Type 0 where
  pub greets : (e : Epoch) → greeting_in q ≡ Hello e → (greeting_in p ≡ Hello e) ⊎ HasCome e store
  pub heard : (e : Epoch) (j : ℕ) → WasHeard q e j → WasHeard p e j ⊎ IsToldBy telling own e j
  pub unfrozen : own.is_marked ≡ true → IsUnfrozen p → IsUnfrozen q
  pub begins : (e : Epoch) → IsBeginning e q → IsBeginning e p ⊎ IsEntered e p

pub record Done (telling : Telling) (store : Kept) (a b : ColdStart) : Type 0 where
  pub place : b.place ≡ a.place
  pub changes : Changes telling store a.place a.phase b.phase

abbrev frozen_or : Option Recovery → Option ℕ
frozen_or (Some r) = r.frozen
frozen_or None = None

module _ (telling : Telling) (store : Kept) where
  same : (own : Place) (p : Phase) → Changes telling store own p p
  same own p = record { greets = λ e h. inl h; heard = λ e j h. inl h; unfrozen = λ m u. u; begins = λ e h. inl h }

  to : (p q : Phase) (a b : ColdStart) → a.phase ≡ p → b.place ≡ a.place → b.phase ≡ q → Changes telling store a.place p q → Done telling store a b
  to p q a b was place is k = record {
    place = place;
    changes = subst (λ x. Changes telling store a.place x b.phase) (sym was) (subst (λ x. Changes telling store a.place p x) (sym is) k);
  }

  unchanged : (a b : ColdStart) → b.place ≡ a.place → b.phase ≡ a.phase → Done telling store a b
  unchanged a b place is = to a.phase a.phase a b refl place is (same a.place a.phase)

  stays : (a b : ColdStart) → b ≡ a → Done telling store a b
  stays a b e = unchanged a b (ap (λ (x : ColdStart). x.place) e) (ap (λ (x : ColdStart). x.phase) e)

  moves : (p q : Phase) (a b : ColdStart) → a.phase ≡ p → b ≡ record a { phase = q } → Changes telling store a.place p q → Done telling store a b
  moves p q a b was e k = to p q a b was (ap (λ (x : ColdStart). x.place) e) (ap (λ (x : ColdStart). x.phase) e) k

  leaves : (p : Phase) (epoch : Epoch) (heard : List (Option ℕ)) (a b : ColdStart) → a.phase ≡ p → b ≡ leaving a epoch heard
      → ((j : ℕ) → has_heard heard j ≡ true → (e : Epoch) → epoch ≡ e → IsToldBy telling a.place e j) → Done telling store a b
  leaves p epoch heard a b was e told =
      to p (Entering epoch heard) a b was (ap (λ (x : ColdStart). x.place) e) (ap (λ (x : ColdStart). x.phase) e)
      (record { greets = λ e h. absurd (no_hello Silence e refl h); heard = λ e j h. inr (told j h.1 e h.0); unfrozen = λ m u. tt; begins = λ e h. absurd h })

  -- in one epoch, where none is heard behind it
  within : (own : Place) (p q : Phase) → greeting_in q ≡ greeting_in p → ((e : Epoch) (j : ℕ) → WasHeard q e j → ⊥) → (own.is_marked ≡ true → IsUnfrozen p → IsUnfrozen q)
      → ((e : Epoch) → IsBeginning e q → IsBeginning e p ⊎ IsEntered e p) → Changes telling store own p q
  within own p q greets heard unfrozen begins =
      record { greets = λ e h. inl (sym greets ∙ h); heard = λ e j h. absurd (heard e j h); unfrozen = unfrozen; begins = begins }

  recovers_on : (own : Place) (epoch : Epoch) (r s : Recovery) → (own.is_marked ≡ true → r.frozen ≡ None → s.frozen ≡ None) → Changes telling store own (Recovering epoch r) (Recovering epoch s)
  recovers_on own epoch r s unfrozen = within own (Recovering epoch r) (Recovering epoch s) refl (λ e j h. h) unfrozen (λ e h. absurd h)

  -- ---- Time

  anew : (o : Option ℕ) (now : ℕ) (s : Recovery) → recovering_anew o now ≡ Some s → s.frozen ≡ None
  anew None now s h = absurd (false≢true (ap is_some h))
  anew (Some n) now s h = sym (ap frozen_or h)

  thaws : (b : Bool) (r s : Recovery) (now : ℕ) → (if b then recovering_anew (next_nonce r.nonce) now else None) ≡ Some s → s.frozen ≡ None
  thaws true r s now h = anew (next_nonce r.nonce) now s h
  thaws false r s now h = absurd (false≢true (ap is_some h))

  not_marked : (x m y z : Bool) → (x && not m && y && z) ≡ true → m ≡ true → ⊥
  not_marked true true y z h e = false≢true h
  not_marked true false y z h e = false≢true e
  not_marked false m y z h e = false≢true h

  looks_by : (now : ℕ) (epoch : Epoch) (r : Recovery) (o : Option Recovery) (a b : ColdStart) (step : Step) → a.phase ≡ Recovering epoch r → ((s : Recovery) → o ≡ Some s → s.frozen ≡ None) → Table.LooksBy epoch r now o a step b → Done telling store a b
  looks_by now epoch r (Some s) a b step was thawed h = moves (Recovering epoch r) (Recovering epoch s) a b was h.1 (recovers_on a.place epoch r s (λ m u. thawed s refl))
  looks_by now epoch r None a b step was thawed h =
      either (Table.may_ask a r now) _ _ _ h
      (λ e g. moves (Recovering epoch r) (Recovering epoch (recovering.asking r now)) a b was g.1 (recovers_on a.place epoch r (recovering.asking r now) (λ m u. absurd (not_marked _ _ _ _ e m))))
      (λ e s. stays a b s.1)

  looks : (now : ℕ) (p : Phase) (a b : ColdStart) (step : Step) → a.phase ≡ p → Table.LooksIn p now a step b → Done telling store a b
  looks now (Waiting heard above) a b step was h = stays a b h.1
  looks now (Above above) a b step was h = stays a b h.1
  looks now (Entering epoch heard) a b step was h = stays a b h.1
  looks now (Entered epoch heard) a b step was h =
      either (Table.may_begin a epoch heard) _ _ _ h
      (λ e g. moves (Entered epoch heard) (Beginning epoch) a b was g.1 (within a.place (Entered epoch heard) (Beginning epoch) refl (λ e j h. h) (λ m u. tt) (λ e h. inr h)))
      (λ e s. stays a b s.1)
  looks now (Beginning epoch) a b step was h = stays a b h.1
  looks now (TakingPart epoch) a b step was h = stays a b h.1
  looks now (Recovering epoch r) a b step was h =
      looks_by now epoch r (thawed r a.place.config.f now) a b step was (λ s is. thaws (is_frozen_long r a.place.config.f now) r s now is) h

  -- ---- Words

  sign_in : (spoken : Option Epoch) (from now : ℕ) (epoch : Epoch) (a b : ColdStart) (step : Step) → Table.SignIn spoken from epoch now a step b → Done telling store a b
  sign_in None from now epoch a b step h = stays a b h.1
  sign_in (Some own) from now epoch a b step h =
      either (Table.is_taken a from epoch own && not (is_recent_of a.recoveries from now)) _ _ _ h
      (λ e c. unchanged a b (ap (λ (x : ColdStart). x.place) c.1) (ap (λ (x : ColdStart). x.phase) c.1)) (λ e s. stays a b s.1)

  recovery_in : (spoken : Option Epoch) (from now : ℕ) (epoch : Epoch) (a b : ColdStart) (step : Step) → Table.RecoveryIn spoken from epoch now a step b → Done telling store a b
  recovery_in None from now epoch a b step h = stays a b h.1
  recovery_in (Some own) from now epoch a b step h =
      either (Table.is_taken a from epoch own) _ _ _ h
      (λ e c. unchanged a b (ap (λ (x : ColdStart). x.place) c.1) (ap (λ (x : ColdStart). x.phase) c.1)) (λ e s. stays a b s.1)

  ends : (behind : Option Epoch) (epoch : Epoch) (r s : Recovery) (a b : ColdStart) (step : Step) → a.phase ≡ Recovering epoch r → s.frozen ≡ r.frozen → Table.EndsWith behind epoch s a step b → Done telling store a b
  ends None epoch r s a b step was e h = moves (Recovering epoch r) (Recovering epoch s) a b was h.1 (recovers_on a.place epoch r s (λ m u. e ∙ u))
  ends (Some next) epoch r s a b step was e h = leaves (Recovering epoch r) next nothing_told a b was h.1 (λ j k. absurd (nothing_heard j k))

  takes_word : (word : Word) (epoch : Epoch) (r : Recovery) (from now : ℕ) (a b : ColdStart) (step : Step) → a.phase ≡ Recovering epoch r → Table.TakesWord word epoch r from now a step b → Done telling store a b
  takes_word (Freeze question) epoch r from now a b step was h =
      either a.place.is_marked _ _ _ h (λ e t. stays a b t.1)
      (λ e f.
      either (Table.may_freeze a r now) _ _ _ f
      (λ d g. moves (Recovering epoch r) (Recovering epoch (recovering.freezing r now)) a b was g.1 (recovers_on a.place epoch r (recovering.freezing r now) (λ m u. absurd (false≢true (sym e ∙ m)))))
      (λ d s. stays a b s.1))
  takes_word (Marked question) epoch r from now a b step was h = stays a b h.1
  takes_word (Frozen answer) epoch r from now a b step was h =
      let more = recovering.with_first r from answer.nonce in
      either (recovering.is_first_answer r answer) _ _ _ h
      (λ e c.
      either (recovering.may_ask_again more a.place.config.f) _ _ _ c
      (λ d g. moves (Recovering epoch r) (Recovering epoch (recovering.asking_again more)) a b was g.1 (recovers_on a.place epoch r (recovering.asking_again more) (λ m u. u)))
      (λ d g. moves (Recovering epoch r) (Recovering epoch more) a b was g.1 (recovers_on a.place epoch r more (λ m u. u))))
      (λ e s. stays a b s.1)
  takes_word (Confirm question asked) epoch r from now a b step was h =
      either (recovering.may_confirm r a.place.number asked) _ _ _ h (λ e c. stays a b c.1) (λ e s. stays a b s.1)
  takes_word (StillFrozen answer) epoch r from now a b step was h =
      let more = recovering.with_second r from answer.nonce in
      either (recovering.is_second_answer r from answer) _ _ _ h
      (λ e c. ends (Table.epoch_behind a epoch more) epoch r more a b step was refl c)
      (λ e s. stays a b s.1)

  words : (p : Phase) (from now : ℕ) (epoch : Epoch) (word : Word) (a b : ColdStart) (step : Step) → a.phase ≡ p → Table.WordIn p from epoch word now a step b → Done telling store a b
  words (Waiting heard above) from now epoch word a b step was h = stays a b h.1
  words (Above above) from now epoch word a b step was h = stays a b h.1
  words (Entering own heard) from now epoch word a b step was h = stays a b h.1
  words (Entered own heard) from now epoch word a b step was h = stays a b h.1
  words (Beginning own) from now epoch word a b step was h = stays a b h.1
  words (TakingPart own) from now epoch word a b step was h = stays a b h.1
  words (Recovering own r) from now epoch word a b step was h =
      either (Table.is_taken a from epoch own) _ _ _ h (λ e t. takes_word word own r from now a b step was t) (λ e s. stays a b s.1)

  -- ---- Its replica has recovered

  recovers_by : (t : Bool) (epoch : Epoch) (r : Recovery) (own : Place) → Changes telling store own (Recovering epoch r) (Table.recovered_if t epoch (Recovering epoch r))
  recovers_by true epoch r own = within own (Recovering epoch r) (TakingPart epoch) refl (λ e j h. h) (λ m u. tt) (λ e h. absurd h)
  recovers_by false epoch r own = same own (Recovering epoch r)

  recovered : (p : Phase) (own : Place) → Changes telling store own p (Table.recovered_in p)
  recovered (Waiting heard above) own = same own (Waiting heard above)
  recovered (Above above) own = same own (Above above)
  recovered (Entering epoch heard) own = same own (Entering epoch heard)
  recovered (Entered epoch heard) own = same own (Entered epoch heard)
  recovered (Beginning epoch) own = same own (Beginning epoch)
  recovered (TakingPart epoch) own = same own (TakingPart epoch)
  recovered (Recovering epoch r) own = recovers_by (not (is_some r.frozen)) epoch r own

-- ---- The store

stores_entered : (epoch : Epoch) (heard : List (Option ℕ)) (has : Kept) (a b : ColdStart) (step : Step) → a.phase ≡ Entering epoch heard → Table.StoresEntered epoch heard has a step b → Done StoreHas has a b
stores_entered epoch heard keeps.Nothing a b step was h = stays StoreHas _ a b h.1
stores_entered epoch heard (keeps.Above above) a b step was h = stays StoreHas _ a b h.1
stores_entered epoch heard (keeps.Begun has) a b step was h = stays StoreHas _ a b h.1
stores_entered epoch heard (keeps.Entered has) a b step was h =
    either (is_same has epoch) _ _ _ h
    (λ e g. moves StoreHas (keeps.Entered has) (Entering epoch heard) (Entered epoch heard) a b was g.1
    (record { greets = λ o k. inr (inl (same_epoch has epoch e ∙ ap (epoch_in epoch) k)); heard = λ o j k. inl k; unfrozen = λ m u. tt; begins = λ o k. absurd k }))
    (λ e s. stays StoreHas _ a b s.1)

stores_begun : (epoch : Epoch) (has : Kept) (a b : ColdStart) (step : Step) → a.phase ≡ Beginning epoch → Table.StoresBegun epoch has a step b → Done StoreHas has a b
stores_begun epoch keeps.Nothing a b step was h = stays StoreHas _ a b h.1
stores_begun epoch (keeps.Above above) a b step was h = stays StoreHas _ a b h.1
stores_begun epoch (keeps.Entered has) a b step was h = stays StoreHas _ a b h.1
stores_begun epoch (keeps.Begun has) a b step was h =
    either (is_same has epoch) _ _ _ h
    (λ e g. moves StoreHas (keeps.Begun has) (Beginning epoch) (TakingPart epoch) a b was g.1 (within StoreHas (keeps.Begun has) a.place (Beginning epoch) (TakingPart epoch) refl (λ o j k. k) (λ m u. tt) (λ o k. absurd k)))
    (λ e s. stays StoreHas _ a b s.1)

stores : (has : Kept) (p : Phase) (a b : ColdStart) (step : Step) → a.phase ≡ p → Table.StoresIn p has a step b → Done StoreHas has a b
stores has (Waiting heard above) a b step was h = stays StoreHas has a b h.1
stores has (Above above) a b step was h = stays StoreHas has a b h.1
stores has (Entering epoch heard) a b step was h = stores_entered epoch heard has a b step was h
stores has (Entered epoch heard) a b step was h = stays StoreHas has a b h.1
stores has (Beginning epoch) a b step was h = stores_begun epoch has a b step was h
stores has (TakingPart epoch) a b step was h = stays StoreHas has a b h.1
stores has (Recovering epoch r) a b step was h = stays StoreHas has a b h.1

-- ---- Hello

module _ (store : Kept) (from : ℕ) (epoch : Epoch) (now place : ℕ) where
  abbrev told : Telling
  told = HelloCame from epoch now place

  leaves_unless : (why : Option Step) (p : Phase) (a b : ColdStart) (step : Step) → a.phase ≡ p → is_other a.place from ≡ true → Table.LeavesUnless why from epoch now a step b → Done told store a b
  leaves_unless (Some does) p a b step was other h = stays told store a b h.1
  leaves_unless None p a b step was other h =
      leaves told store p epoch (slice_set nothing_told from (Some now)) a b was h.1
      (λ j k e is. elim (heard_more nothing_told from now j k) [
        | inl same ↦ (same, is, other)
        | inr before ↦ absurd (nothing_heard j before)
      ])

  hears_later : (p : Phase) (own : Epoch) (a b : ColdStart) (step : Step) → a.phase ≡ p → is_other a.place from ≡ true → Table.HearsLater own from epoch now a step b → Done told store a b
  hears_later p own a b step was other h =
      either (is_later epoch own) _ _ _ h (λ e l. leaves_unless (Table.staying a own epoch now) p a b step was other l) (λ e s. stays told store a b s.1)

  -- one more is heard in the epoch that it's to enter, or has entered
  one_more : (own e : Epoch) (heard : List (Option ℕ)) (at : Place) (j : ℕ) → is_same epoch own ≡ true → is_other at from ≡ true → (own ≡ e) × (has_heard (slice_set heard from (Some now)) j ≡ true)
      → ((own ≡ e) × (has_heard heard j ≡ true)) ⊎ IsToldBy told at e j
  one_more own e heard at j same other h = elim (heard_more heard from now j h.1) [
    | inl is ↦ inr (is, same_epoch epoch own same ∙ h.0, other)
    | inr before ↦ inl (h.0, before)
  ]

  hears_in : (p : Phase) (a b : ColdStart) (step : Step) → a.phase ≡ p → is_other a.place from ≡ true → Table.HearsIn p from epoch now a step b → Done told store a b
  hears_in (Waiting heard above) a b step was other h =
      let more = slice_set heard from (Some now) in
      let greatest = Table.later_of above epoch in
      either (nat_lt a.place.config.f (count_by is_some more)) _ _ _ h
      (λ e g. moves told store (Waiting heard above) (Above greatest) a b was g.1 (within told store a.place (Waiting heard above) (Above greatest) refl (λ o j k. k) (λ m u. tt) (λ o k. absurd k)))
      (λ e g. moves told store (Waiting heard above) (Waiting more (Some greatest)) a b was g.1 (within told store a.place (Waiting heard above) (Waiting more (Some greatest)) refl (λ o j k. k) (λ m u. tt) (λ o k. absurd k)))
  hears_in (Above above) a b step was other h = hears_later (Above above) above a b step was other h
  hears_in (Entering own heard) a b step was other h =
      either (is_same epoch own) _ _ _ h
      (λ e g. moves told store (Entering own heard) (Entering own (slice_set heard from (Some now))) a b was g.1
      (record { greets = λ o k. inl k; heard = λ o j k. one_more own o heard a.place j e other k; unfrozen = λ m u. tt; begins = λ o k. absurd k }))
      (λ e g. hears_later (Entering own heard) own a b step was other g)
  hears_in (Entered own heard) a b step was other h =
      either (is_later epoch own) _ _ _ h (λ e g. hears_later (Entered own heard) own a b step was other g)
      (λ e g.
      either (is_same epoch own) _ _ _ g
      (λ d m. moves told store (Entered own heard) (Entered own (slice_set heard from (Some now))) a b was m.1
      (record { greets = λ o k. inl k; heard = λ o j k. one_more own o heard a.place j d other k; unfrozen = λ m u. tt; begins = λ o k. absurd k }))
      (λ d t. stays told store a b t.1))
  hears_in (Beginning own) a b step was other h = hears_later (Beginning own) own a b step was other h
  hears_in (TakingPart own) a b step was other h = hears_later (TakingPart own) own a b step was other h
  hears_in (Recovering own r) a b step was other h = hears_later (Recovering own r) own a b step was other h

  hears : (a b : ColdStart) (step : Step) → Table.HearsHello from epoch now a step b → Done told store a b
  hears a b step h =
      either (Table.is_heard a from epoch) _ _ _ h (λ e g. hears_in a.phase a b step refl (and_parts _ _ e).0 g) (λ e s. stays told store a b s.1)

-- ---- Whatever it's told

pub done : (telling : Telling) (store : Kept) (a b : ColdStart) (step : Step) → Follows telling store a step b → Done telling store a b
done (TimeHasPassed now) store a b step h = looks (TimeHasPassed now) store now a.phase a b step refl h
done StoreHas store a b step h = stores store a.phase a b step refl h
done (HelloCame from epoch now place) store a b step h = hears store from epoch now place a b step h
done (SignCame from epoch now) store a b step h = sign_in (SignCame from epoch now) store (Table.spoken_in a.phase) from now epoch a b step h
done (RecoveryCame from epoch now) store a b step h = recovery_in (RecoveryCame from epoch now) store (Table.spoken_in a.phase) from now epoch a b step h
done (WordCame from epoch word now) store a b step h = words (WordCame from epoch word now) store a.phase from now epoch word a b step refl h
done ReplicaRecovered store a b step h = moves ReplicaRecovered store a.phase (Table.recovered_in a.phase) a b refl h.1 (recovered ReplicaRecovered store a.phase a.place)
done (ImageIs image) store a b step h = unchanged (ImageIs image) store a b (ap (λ (x : ColdStart). x.place) h.1) (ap (λ (x : ColdStart). x.phase) h.1)
