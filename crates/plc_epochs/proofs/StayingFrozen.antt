-- That a machine stays frozen, step by step.
use Rattle.std.proofs.Common.{◌≡◌, ◌+◌, ◌<◌, ◌%◌, ◌∙◌, ℕ, Bool, true, false, not, Option, Some, None, refl, sym, ap, subst, inl, inr, is_some, unwrap_or, arith}
use Rattle.std.proofs.lemmas.Bool.{false≢true}
use Rattle.std.specs.Prelude.{◌&&◌, nat_lt, slice_set, if◌then◌else◌}
use Rattle.net_hello.specs.declared.hello.Epoch.{Epoch}
use Rattle.plc_epochs.specs.Epochs.{is_later, is_recent_of, nothing_told}
use Rattle.plc_epochs.specs.Recovering as recovering
use Rattle.plc_epochs.specs.Recovering.{is_frozen_long, next_nonce, recovering_anew, thawed}
use Rattle.plc_epochs.specs.GoingOn.{StaysFrozen}
use Rattle.plc_epochs.specs.Table
use Rattle.plc_epochs.specs.declared.word.Word.{Word}
use Rattle.plc_epochs.specs.declared.word.Word.TheVariants.{Freeze, Frozen, Confirm, StillFrozen, Marked}
use Rattle.plc_epochs.specs.declared.kept.Kept.{Kept}
use Rattle.plc_epochs.specs.declared.recovery.Recovery.{Recovery}
use Rattle.plc_epochs.specs.declared.cold_start.Phase.{Phase}
use Rattle.plc_epochs.specs.declared.cold_start.Phase.TheVariants.{Entering, Recovering}
use Rattle.plc_epochs.specs.declared.cold_start.Step.{Step}
use Rattle.plc_epochs.specs.declared.cold_start.ColdStart.{ColdStart}
use Rattle.plc_epochs.proofs.GoingOn.{behind_is_later, either}

-- it's now in this phase, of which it holds
holds : (epoch : Epoch) (nonce : ℕ) (after : Phase) (b : ColdStart) → b.phase ≡ after → StaysFrozen epoch nonce after → StaysFrozen epoch nonce b.phase
holds epoch nonce after b is k = subst (λ p. StaysFrozen epoch nonce p) (sym is) k

stays : (epoch : Epoch) (r : Recovery) (a b : ColdStart) → a.phase ≡ Recovering epoch r → is_some r.frozen ≡ true → b ≡ a → StaysFrozen epoch r.nonce b.phase
stays epoch r a b was frozen e =
    subst (λ (x : ColdStart). StaysFrozen epoch r.nonce x.phase) (sym e) (holds epoch r.nonce (Recovering epoch r) a was (refl, inl (refl, frozen)))

moves : (epoch : Epoch) (r s : Recovery) (a b : ColdStart) → b ≡ record a { phase = Recovering epoch s } → s.nonce ≡ r.nonce → is_some s.frozen ≡ true → StaysFrozen epoch r.nonce b.phase
moves epoch r s a b e same frozen = holds epoch r.nonce (Recovering epoch s) b (ap (λ (x : ColdStart). x.phase) e) (refl, inl (same, frozen))

-- the nonce behind is greater by one
next_is_greater : (nonce after : ℕ) (b : Bool) → (if b then Some (nonce + 1) else None) ≡ Some after → nonce < after
next_is_greater nonce after true h = let e : nonce + 1 ≡ after = ap (λ o. unwrap_or o after) h in omega (arith, e)
next_is_greater nonce after false h = absurd (false≢true (ap is_some h))

anew_is_greater : (nonce now : ℕ) (o : Option ℕ) (after : Recovery) → ((m : ℕ) → o ≡ Some m → nonce < m) → recovering_anew o now ≡ Some after → nonce < after.nonce
anew_is_greater nonce now None after greater h = absurd (false≢true (ap is_some h))
anew_is_greater nonce now (Some m) after greater h =
    subst (λ n. nonce < n) (ap (λ o. (unwrap_or o after).nonce) h) (greater m refl)

thaw_is_greater : (r after : Recovery) (now : ℕ) (b : Bool) → (if b then recovering_anew (next_nonce r.nonce) now else None) ≡ Some after → r.nonce < after.nonce
thaw_is_greater r after now true h =
    anew_is_greater r.nonce now (next_nonce r.nonce) after
    (λ m is. next_is_greater r.nonce m (nat_lt (r.nonce % 4_294_967_296) 4_294_967_295) is) h
thaw_is_greater r after now false h = absurd (false≢true (ap is_some h))

-- ---- Step by step

looks_by : (now : ℕ) (epoch : Epoch) (r : Recovery) (o : Option Recovery) (a b : ColdStart) (step : Step) → a.phase ≡ Recovering epoch r → is_some r.frozen ≡ true → ((after : Recovery) → o ≡ Some after → r.nonce < after.nonce) → Table.LooksBy epoch r now o a step b → StaysFrozen epoch r.nonce b.phase
looks_by now epoch r None a b step was frozen greater h =
    either (Table.may_ask a r now) _ _ _ h (λ e g. moves epoch r (recovering.asking r now) a b g.1 refl refl) (λ e s. stays epoch r a b was frozen s.1)
looks_by now epoch r (Some after) a b step was frozen greater h =
    holds epoch r.nonce (Recovering epoch after) b (ap (λ (x : ColdStart). x.phase) h.1) (refl, inr (greater after refl))

pub looks : (now : ℕ) (epoch : Epoch) (r : Recovery) (a b : ColdStart) (step : Step) → a.phase ≡ Recovering epoch r → is_some r.frozen ≡ true → Table.Looks now a step b → StaysFrozen epoch r.nonce b.phase
looks now epoch r a b step was frozen h =
    looks_by now epoch r (thawed r a.place.config.f now) a b step was frozen (λ after is. thaw_is_greater r after now (is_frozen_long r a.place.config.f now) is)
    (subst (λ p. Table.LooksIn p now a step b) was h)

pub stores : (has : Kept) (epoch : Epoch) (r : Recovery) (a b : ColdStart) (step : Step) → a.phase ≡ Recovering epoch r → is_some r.frozen ≡ true → Table.Stores has a step b → StaysFrozen epoch r.nonce b.phase
stores has epoch r a b step was frozen h =
    let s : Table.Stays a step b = subst (λ p. Table.StoresIn p has a step b) was h in stays epoch r a b was frozen s.1

leaves_unless : (why : Option Step) (from now : ℕ) (epoch other : Epoch) (r : Recovery) (a b : ColdStart) (step : Step) → a.phase ≡ Recovering epoch r → is_some r.frozen ≡ true → is_later other epoch ≡ true → Table.LeavesUnless why from other now a step b → StaysFrozen epoch r.nonce b.phase
leaves_unless (Some does) from now epoch other r a b step was frozen later h = stays epoch r a b was frozen h.1
leaves_unless None from now epoch other r a b step was frozen later h =
    holds epoch r.nonce (Entering other (slice_set nothing_told from (Some now))) b (ap (λ (x : ColdStart). x.phase) h.1) later

hears_later : (from now : ℕ) (epoch other : Epoch) (r : Recovery) (a b : ColdStart) (step : Step) → a.phase ≡ Recovering epoch r → is_some r.frozen ≡ true → Table.HearsLater epoch from other now a step b → StaysFrozen epoch r.nonce b.phase
hears_later from now epoch other r a b step was frozen h =
    either (is_later other epoch) _ _ _ h
    (λ e l. leaves_unless (Table.staying a epoch other now) from now epoch other r a b step was frozen e l)
    (λ e s. stays epoch r a b was frozen s.1)

pub hears : (from now : ℕ) (epoch other : Epoch) (r : Recovery) (a b : ColdStart) (step : Step) → a.phase ≡ Recovering epoch r → is_some r.frozen ≡ true → Table.HearsHello from other now a step b → StaysFrozen epoch r.nonce b.phase
hears from now epoch other r a b step was frozen h =
    either (Table.is_heard a from other) _ _ _ h
    (λ e g. hears_later from now epoch other r a b step was frozen (subst (λ p. Table.HearsIn p from other now a step b) was g))
    (λ e s. stays epoch r a b was frozen s.1)

-- what was told of a machine changes, and nothing else
counts : (epoch : Epoch) (r : Recovery) (a b : ColdStart) → a.phase ≡ Recovering epoch r → is_some r.frozen ≡ true → b.phase ≡ a.phase → StaysFrozen epoch r.nonce b.phase
counts epoch r a b was frozen e = holds epoch r.nonce (Recovering epoch r) b (e ∙ was) (refl, inl (refl, frozen))

pub sign : (from now : ℕ) (epoch other : Epoch) (r : Recovery) (a b : ColdStart) (step : Step) → a.phase ≡ Recovering epoch r → is_some r.frozen ≡ true → Table.HearsSign from other now a step b → StaysFrozen epoch r.nonce b.phase
sign from now epoch other r a b step was frozen h =
    either (Table.is_taken a from other epoch && not (is_recent_of a.recoveries from now)) _ _ _ (subst (λ p. Table.SignIn (Table.spoken_in p) from other now a step b) was h)
    (λ e c. counts epoch r a b was frozen (ap (λ (x : ColdStart). x.phase) c.1)) (λ e s. stays epoch r a b was frozen s.1)

pub recovery : (from now : ℕ) (epoch other : Epoch) (r : Recovery) (a b : ColdStart) (step : Step) → a.phase ≡ Recovering epoch r → is_some r.frozen ≡ true → Table.HearsRecovery from other now a step b → StaysFrozen epoch r.nonce b.phase
recovery from now epoch other r a b step was frozen h =
    either (Table.is_taken a from other epoch) _ _ _ (subst (λ p. Table.RecoveryIn (Table.spoken_in p) from other now a step b) was h)
    (λ e c. counts epoch r a b was frozen (ap (λ (x : ColdStart). x.phase) c.1)) (λ e s. stays epoch r a b was frozen s.1)

ends : (behind : Option Epoch) (epoch : Epoch) (r s : Recovery) (a b : ColdStart) (step : Step) → s.nonce ≡ r.nonce → is_some s.frozen ≡ true → ((next : Epoch) → behind ≡ Some next → is_later next epoch ≡ true) → Table.EndsWith behind epoch s a step b → StaysFrozen epoch r.nonce b.phase
ends None epoch r s a b step same frozen later h = moves epoch r s a b h.1 same frozen
ends (Some next) epoch r s a b step same frozen later h =
    holds epoch r.nonce (Entering next nothing_told) b (ap (λ (x : ColdStart). x.phase) h.1) (later next refl)

takes_word : (word : Word) (epoch : Epoch) (r : Recovery) (from now : ℕ) (a b : ColdStart) (step : Step) → a.phase ≡ Recovering epoch r → is_some r.frozen ≡ true → Table.TakesWord word epoch r from now a step b → StaysFrozen epoch r.nonce b.phase
takes_word (Freeze question) epoch r from now a b step was frozen h =
    either a.place.is_marked _ _ _ h (λ e t. stays epoch r a b was frozen t.1)
    (λ e f. either (Table.may_freeze a r now) _ _ _ f (λ d g. moves epoch r (recovering.freezing r now) a b g.1 refl refl) (λ d s. stays epoch r a b was frozen s.1))
takes_word (Marked question) epoch r from now a b step was frozen h = stays epoch r a b was frozen h.1
takes_word (Frozen answer) epoch r from now a b step was frozen h =
    let more = recovering.with_first r from answer.nonce in
    either (recovering.is_first_answer r answer) _ _ _ h
    (λ e c.
    either (recovering.may_ask_again more a.place.config.f) _ _ _ c
    (λ d g. moves epoch r (recovering.asking_again more) a b g.1 refl frozen)
    (λ d g. moves epoch r more a b g.1 refl frozen))
    (λ e s. stays epoch r a b was frozen s.1)
takes_word (Confirm question asked) epoch r from now a b step was frozen h =
    either (recovering.may_confirm r a.place.number asked) _ _ _ h (λ e c. stays epoch r a b was frozen c.1) (λ e s. stays epoch r a b was frozen s.1)
takes_word (StillFrozen answer) epoch r from now a b step was frozen h =
    let more = recovering.with_second r from answer.nonce in
    either (recovering.is_second_answer r from answer) _ _ _ h
    (λ e c.
    ends (Table.epoch_behind a epoch more) epoch r more a b step refl frozen
    (λ next is. behind_is_later epoch next a.image (recovering.evidence more a.place.config.f) is) c)
    (λ e s. stays epoch r a b was frozen s.1)

pub words : (from now : ℕ) (epoch other : Epoch) (word : Word) (r : Recovery) (a b : ColdStart) (step : Step) → a.phase ≡ Recovering epoch r → is_some r.frozen ≡ true → Table.HearsWord from other word now a step b → StaysFrozen epoch r.nonce b.phase
words from now epoch other word r a b step was frozen h =
    either (Table.is_taken a from other epoch) _ _ _ (subst (λ p. Table.WordIn p from other word now a step b) was h)
    (λ e t. takes_word word epoch r from now a b step was frozen t) (λ e s. stays epoch r a b was frozen s.1)

pub recovered : (epoch : Epoch) (r : Recovery) → is_some r.frozen ≡ true → Table.recovered_in (Recovering epoch r) ≡ Recovering epoch r
recovered epoch r frozen = ap (λ v. Table.recovered_if (not v) epoch (Recovering epoch r)) frozen
