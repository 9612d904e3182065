-- What the steps of the table do to a machine that recovers: how its recovery came about, and what it answered.
use Rattle.std.proofs.Common.{◌≡◌, ℕ, Bool, true, false, not, ◌&&◌, List, Option, Some, None, refl, sym, ap, ◌∙◌, subst, is_some}
use Rattle.std.specs.Prelude.{MatchBool, count_by, nat_le, nat_lt, slice_set, if◌then◌else◌}
use Rattle.std.proofs.lemmas.Bool.{false≢true, and_parts, eqb-true}
use Rattle.std.proofs.lemmas.Option.{same_Some}
use Rattle.std.specs.Cmp.Lexicographic.{bytes_decides}
use Rattle.net_hello.specs.declared.hello.Epoch.{Epoch}
use Rattle.plc_epochs.specs.Epochs.{is_later, is_recent, is_recent_of, is_same, nothing_told}
use Rattle.plc_epochs.specs.Recovering as recovering
use Rattle.plc_epochs.specs.Recovering.{is_frozen_long, next_nonce, recovering_anew, recovering_under, thawed}
use Rattle.plc_epochs.specs.Table
use Rattle.plc_epochs.specs.Table.{is_other, leaving}
use Rattle.plc_epochs.specs.declared.kept.Kept.{Kept}
use Rattle.plc_epochs.specs.declared.kept.Kept.TheVariants as keeps
use Rattle.plc_epochs.specs.declared.recovery.Recovery.{Recovery}
use Rattle.plc_epochs.specs.declared.word.Answer.{Answer}
use Rattle.plc_epochs.specs.declared.word.Word.{Word}
use Rattle.plc_epochs.specs.declared.word.Word.TheVariants.{Freeze, Frozen, Confirm, StillFrozen, Marked}
use Rattle.plc_epochs.specs.declared.cold_start.ColdStart.{ColdStart}
use Rattle.plc_epochs.specs.declared.cold_start.Phase.{Phase}
use Rattle.plc_epochs.specs.declared.cold_start.Phase.TheVariants.{Waiting, Above, Entering, Entered, Beginning, TakingPart, Recovering}
use Rattle.plc_epochs.specs.declared.cold_start.Place.{Place}
use Rattle.plc_epochs.specs.declared.cold_start.Step.{Step}
use Rattle.laws_epochs.specs.Machines.{Telling, TimeHasPassed, StoreHas, HelloCame, SignCame, RecoveryCame, WordCame, ReplicaRecovered, ImageIs, Follows}

pub either : (b : Bool) (P Q R : Type 0) → MatchBool b P Q → (b ≡ true → P → R) → (b ≡ false → Q → R) → R
either true P Q R h f g = f refl h
either false P Q R h f g = g refl h

pub no_value : {X R : Type 0} (o : Option X) (x : X) → o ≡ None → o ≡ Some x → R
no_value o x none is = absurd (false≢true (ap is_some (sym none ∙ is)))

pub same_epoch : (x y : Epoch) → is_same x y ≡ true → x ≡ y
same_epoch x y h =
    let parts = and_parts _ _ h in
    let number : x.number ≡ y.number = eqb-true x.number y.number parts.0 in
    let image : x.image ≡ y.image = (bytes_decides x.image y.image).0 parts.1 in
    λ i. record { number = number i; image = image i }

third : (p q s t : Bool) → (p && q && s && t) ≡ true → s ≡ true
third true true true t h = refl
third true true false t h = absurd (false≢true h)
third true false s t h = absurd (false≢true h)
third false q s t h = absurd (false≢true h)

-- it asks only what it hasn't asked
unasked : (a : ColdStart) (r : Recovery) (now : ℕ) → Table.may_ask a r now ≡ true → recovering.is_unasked r.question ≡ true
unasked a r now h = (and_parts (recovering.is_unasked r.question) _ (third a.place.is_automatic (not a.place.is_marked) (recovering.may_ask r now) (nat_le a.place.config.f (count_by (is_recent now) a.recoveries)) h)).0

-- in which epoch it recovers, and how
abbrev pub recovery_in : Phase → Option (Epoch × Recovery)
recovery_in (Recovering epoch r) = Some (epoch, r)
recovery_in phase = None

pub phase_of : (p : Phase) (e : Epoch) (s : Recovery) → recovery_in p ≡ Some (e, s) → p ≡ Recovering e s
phase_of (Recovering own r) e s h = ap (λ (x : Epoch × Recovery). Recovering x.0 x.1) (same_Some (own, r) (e, s) h)
phase_of (Waiting heard above) e s h = no_value None (e, s) refl h
phase_of (Above above) e s h = no_value None (e, s) refl h
phase_of (Entering own heard) e s h = no_value None (e, s) refl h
phase_of (Entered own heard) e s h = no_value None (e, s) refl h
phase_of (Beginning own) e s h = no_value None (e, s) refl h
phase_of (TakingPart own) e s h = no_value None (e, s) refl h

-- How one recovery comes of another by a step: it's the same; it's under the next nonce; it asks, or freezes; or it
-- counts an answer to its first question, with which it may ask the second, or to its second one.
pub data Change (telling : Telling) (own : Place) (epoch : Epoch) (r s : Recovery) : Type 0 where
  Stays : s ≡ r → Change telling own epoch r s
  Thaws : (now : ℕ) → next_nonce r.nonce ≡ Some s.nonce → s ≡ recovering_under s.nonce now → Change telling own epoch r s
  Asks : (now : ℕ) → recovering.is_unasked r.question ≡ true → s ≡ recovering.asking r now → Change telling own epoch r s
  Freezes : (now : ℕ) → s ≡ recovering.freezing r now → Change telling own epoch r s
  HearsFirst : (from now : ℕ) (answer : Answer) → telling ≡ WordCame from epoch (Frozen answer) now → is_other own from ≡ true → recovering.is_first_answer r answer ≡ true
      → s ≡ recovering.with_first r from answer.nonce → Change telling own epoch r s
  AsksAgain : (from now : ℕ) (answer : Answer) → telling ≡ WordCame from epoch (Frozen answer) now → is_other own from ≡ true → recovering.is_first_answer r answer ≡ true
      → s ≡ recovering.asking_again (recovering.with_first r from answer.nonce) → Change telling own epoch r s
  HearsSecond : (from now : ℕ) (answer : Answer) → telling ≡ WordCame from epoch (StillFrozen answer) now → is_other own from ≡ true → recovering.is_second_answer r from answer ≡ true
      → s ≡ recovering.with_second r from answer.nonce → Change telling own epoch r s

pub record Recovered (telling : Telling) (a : ColdStart) (epoch : Epoch) (s : Recovery) : Type 0 where
  pub before : Recovery
  pub was : a.phase ≡ Recovering epoch before
  pub how : Change telling a.place epoch before s

module _ (telling : Telling) (e : Epoch) (s : Recovery) where
  abbrev Recovers : ColdStart → Type 0
  Recovers b = recovery_in b.phase ≡ Some (e, s)

  unchanged : (a b : ColdStart) → b.phase ≡ a.phase → Recovers b → Recovered telling a e s
  unchanged a b same h = record { before = s; was = phase_of a.phase e s (ap recovery_in (sym same) ∙ h); how = Stays refl }

  stays : (a b : ColdStart) → b ≡ a → Recovers b → Recovered telling a e s
  stays a b same h = unchanged a b (ap (λ (x : ColdStart). x.phase) same) h

  elsewhere : (p : Phase) (a b : ColdStart) → b.phase ≡ p → recovery_in p ≡ None → Recovers b → Recovered telling a e s
  elsewhere p a b is none h = no_value (recovery_in p) (e, s) none (ap recovery_in (sym is) ∙ h)

  goes : (p : Phase) (a b : ColdStart) → b ≡ record a { phase = p } → recovery_in p ≡ None → Recovers b → Recovered telling a e s
  goes p a b is none h = elsewhere p a b (ap (λ (x : ColdStart). x.phase) is) none h

  leaves : (own : Epoch) (heard : List (Option ℕ)) (a b : ColdStart) → b ≡ leaving a own heard → Recovers b → Recovered telling a e s
  leaves own heard a b is h = elsewhere (Entering own heard) a b (ap (λ (x : ColdStart). x.phase) is) refl h

  recovers : (own : Epoch) (r t : Recovery) (a b : ColdStart) → a.phase ≡ Recovering own r → b ≡ record a { phase = Recovering own t } → Change telling a.place own r t → Recovers b → Recovered telling a e s
  recovers own r t a b was is how h =
      subst (λ (x : Epoch × Recovery). Recovered telling a x.0 x.1)
      (same_Some (own, t) (e, s) (ap (λ (x : ColdStart). recovery_in x.phase) (sym is) ∙ h))
      (record { before = r; was = was; how = how })

  -- ---- Time

  anew : (r after : Recovery) (now : ℕ) (own : Place) (epoch : Epoch) (n : Option ℕ) → next_nonce r.nonce ≡ n → recovering_anew n now ≡ Some after → Change telling own epoch r after
  anew r after now own epoch None is h = no_value None after refl h
  anew r after now own epoch (Some nonce) is h =
      let e : recovering_under nonce now ≡ after = same_Some _ _ h in
      let same : nonce ≡ after.nonce = ap (λ (x : Recovery). x.nonce) e in
      Thaws now (is ∙ ap Some same) (sym e ∙ ap (λ x. recovering_under x now) same)

  thaws : (r after : Recovery) (f now : ℕ) (own : Place) (epoch : Epoch) (t : Bool) → is_frozen_long r f now ≡ t → (if t then recovering_anew (next_nonce r.nonce) now else None) ≡ Some after → Change telling own epoch r after
  thaws r after f now own epoch true e h = anew r after now own epoch (next_nonce r.nonce) refl h
  thaws r after f now own epoch false e h = no_value None after refl h

  looks_by : (own : Epoch) (r : Recovery) (now : ℕ) (o : Option Recovery) (a b : ColdStart) (step : Step) → a.phase ≡ Recovering own r → thawed r a.place.config.f now ≡ o → Table.LooksBy own r now o a step b → Recovers b → Recovered telling a e s
  looks_by own r now (Some after) a b step was is h k = recovers own r after a b was h.1 (thaws r after a.place.config.f now a.place own (is_frozen_long r a.place.config.f now) refl is) k
  looks_by own r now None a b step was is h k =
      either (Table.may_ask a r now) _ _ _ h (λ t g. recovers own r (recovering.asking r now) a b was g.1 (Asks now (unasked a r now t) refl) k) (λ t g. stays a b g.1 k)

  looks : (now : ℕ) (p : Phase) (a b : ColdStart) (step : Step) → a.phase ≡ p → Table.LooksIn p now a step b → Recovers b → Recovered telling a e s
  looks now (Entered own heard) a b step was h k = either (Table.may_begin a own heard) _ _ _ h (λ t g. goes (Beginning own) a b g.1 refl k) (λ t g. stays a b g.1 k)
  looks now (Recovering own r) a b step was h k = looks_by own r now (thawed r a.place.config.f now) a b step was refl h k
  looks now (Waiting heard above) a b step was h k = stays a b h.1 k
  looks now (Above above) a b step was h k = stays a b h.1 k
  looks now (Entering own heard) a b step was h k = stays a b h.1 k
  looks now (Beginning own) a b step was h k = stays a b h.1 k
  looks now (TakingPart own) a b step was h k = stays a b h.1 k

  -- ---- The store

  stores_entered : (own : Epoch) (heard : List (Option ℕ)) (has : Kept) (a b : ColdStart) (step : Step) → Table.StoresEntered own heard has a step b → Recovers b → Recovered telling a e s
  stores_entered own heard (keeps.Entered has) a b step h k = either (is_same has own) _ _ _ h (λ t g. goes (Entered own heard) a b g.1 refl k) (λ t g. stays a b g.1 k)
  stores_entered own heard keeps.Nothing a b step h k = stays a b h.1 k
  stores_entered own heard (keeps.Above above) a b step h k = stays a b h.1 k
  stores_entered own heard (keeps.Begun has) a b step h k = stays a b h.1 k

  stores_begun : (own : Epoch) (has : Kept) (a b : ColdStart) (step : Step) → Table.StoresBegun own has a step b → Recovers b → Recovered telling a e s
  stores_begun own (keeps.Begun has) a b step h k = either (is_same has own) _ _ _ h (λ t g. goes (TakingPart own) a b g.1 refl k) (λ t g. stays a b g.1 k)
  stores_begun own keeps.Nothing a b step h k = stays a b h.1 k
  stores_begun own (keeps.Above above) a b step h k = stays a b h.1 k
  stores_begun own (keeps.Entered has) a b step h k = stays a b h.1 k

  stores : (p : Phase) (has : Kept) (a b : ColdStart) (step : Step) → Table.StoresIn p has a step b → Recovers b → Recovered telling a e s
  stores (Entering own heard) has a b step h k = stores_entered own heard has a b step h k
  stores (Beginning own) has a b step h k = stores_begun own has a b step h k
  stores (Waiting heard above) has a b step h k = stays a b h.1 k
  stores (Above above) has a b step h k = stays a b h.1 k
  stores (Entered own heard) has a b step h k = stays a b h.1 k
  stores (TakingPart own) has a b step h k = stays a b h.1 k
  stores (Recovering own r) has a b step h k = stays a b h.1 k

  -- ---- Hellos

  leaves_unless : (o : Option Step) (from : ℕ) (own : Epoch) (now : ℕ) (a b : ColdStart) (step : Step) → Table.LeavesUnless o from own now a step b → Recovers b → Recovered telling a e s
  leaves_unless (Some stay) from own now a b step h k = stays a b h.1 k
  leaves_unless None from own now a b step h k = leaves own (slice_set nothing_told from (Some now)) a b h.1 k

  hears_later : (own : Epoch) (from : ℕ) (epoch : Epoch) (now : ℕ) (a b : ColdStart) (step : Step) → Table.HearsLater own from epoch now a step b → Recovers b → Recovered telling a e s
  hears_later own from epoch now a b step h k =
      either (is_later epoch own) _ _ _ h (λ t g. leaves_unless (Table.staying a own epoch now) from epoch now a b step g k) (λ t g. stays a b g.1 k)

  hears_waiting : (heard : List (Option ℕ)) (above : Epoch) (a b : ColdStart) (step : Step) → Table.HearsWaiting heard above a step b → Recovers b → Recovered telling a e s
  hears_waiting heard above a b step h k =
      either (nat_lt a.place.config.f (count_by is_some heard)) _ _ _ h (λ t g. goes (Above above) a b g.1 refl k) (λ t g. goes (Waiting heard (Some above)) a b g.1 refl k)

  hears_in : (p : Phase) (from : ℕ) (epoch : Epoch) (now : ℕ) (a b : ColdStart) (step : Step) → Table.HearsIn p from epoch now a step b → Recovers b → Recovered telling a e s
  hears_in (Waiting heard above) from epoch now a b step h k = hears_waiting (slice_set heard from (Some now)) (Table.later_of above epoch) a b step h k
  hears_in (Above above) from epoch now a b step h k = hears_later above from epoch now a b step h k
  hears_in (Entering own heard) from epoch now a b step h k = either (is_same epoch own) _ _ _ h (λ t g. goes (Entering own (slice_set heard from (Some now))) a b g.1 refl k) (λ t g. hears_later own from epoch now a b step g k)
  hears_in (Entered own heard) from epoch now a b step h k =
      either (is_later epoch own) _ _ _ h (λ t g. hears_later own from epoch now a b step g k)
      (λ t g. either (is_same epoch own) _ _ _ g (λ d m. goes (Entered own (slice_set heard from (Some now))) a b m.1 refl k) (λ d m. stays a b m.1 k))
  hears_in (Beginning own) from epoch now a b step h k = hears_later own from epoch now a b step h k
  hears_in (TakingPart own) from epoch now a b step h k = hears_later own from epoch now a b step h k
  hears_in (Recovering own r) from epoch now a b step h k = hears_later own from epoch now a b step h k

  hears : (from : ℕ) (epoch : Epoch) (now : ℕ) (a b : ColdStart) (step : Step) → Table.HearsHello from epoch now a step b → Recovers b → Recovered telling a e s
  hears from epoch now a b step h k = either (Table.is_heard a from epoch) _ _ _ h (λ t g. hears_in a.phase from epoch now a b step g k) (λ t g. stays a b g.1 k)

  -- ---- Signs and RECOVERY

  sign_in : (o : Option Epoch) (from : ℕ) (epoch : Epoch) (now : ℕ) (a b : ColdStart) (step : Step) → Table.SignIn o from epoch now a step b → Recovers b → Recovered telling a e s
  sign_in (Some own) from epoch now a b step h k =
      either (Table.is_taken a from epoch own && not (is_recent_of a.recoveries from now)) _ _ _ h (λ t g. unchanged a b (ap (λ (x : ColdStart). x.phase) g.1) k) (λ t g. stays a b g.1 k)
  sign_in None from epoch now a b step h k = stays a b h.1 k

  recovery_in_epoch : (o : Option Epoch) (from : ℕ) (epoch : Epoch) (now : ℕ) (a b : ColdStart) (step : Step) → Table.RecoveryIn o from epoch now a step b → Recovers b → Recovered telling a e s
  recovery_in_epoch (Some own) from epoch now a b step h k =
      either (Table.is_taken a from epoch own) _ _ _ h (λ t g. unchanged a b (ap (λ (x : ColdStart). x.phase) g.1) k) (λ t g. stays a b g.1 k)
  recovery_in_epoch None from epoch now a b step h k = stays a b h.1 k

  -- ---- Words

  told_in : (from now : ℕ) (word : Word) (epoch own : Epoch) → telling ≡ WordCame from epoch word now → is_same epoch own ≡ true → telling ≡ WordCame from own word now
  told_in from now word epoch own is same = is ∙ ap (λ x. WordCame from x word now) (same_epoch epoch own same)

  takes : (word : Word) (own : Epoch) (r : Recovery) (from now : ℕ) (a b : ColdStart) (step : Step) → a.phase ≡ Recovering own r → telling ≡ WordCame from own word now → is_other a.place from ≡ true
      → Table.TakesWord word own r from now a step b → Recovers b → Recovered telling a e s
  takes (Freeze question) own r from now a b step was is other h k =
      either a.place.is_marked _ _ _ h (λ t g. stays a b g.1 k)
      (λ t g. either (Table.may_freeze a r now) _ _ _ g (λ d m. recovers own r (recovering.freezing r now) a b was m.1 (Freezes now refl) k) (λ d m. stays a b m.1 k))
  takes (Frozen answer) own r from now a b step was is other h k =
      either (recovering.is_first_answer r answer) _ _ _ h
      (λ first g.
      let counted : Recovery = recovering.with_first r from answer.nonce in
      either (recovering.may_ask_again counted a.place.config.f) _ _ _ g
      (λ d m. recovers own r (recovering.asking_again counted) a b was m.1 (AsksAgain from now answer is other first refl) k)
      (λ d m. recovers own r counted a b was m.1 (HearsFirst from now answer is other first refl) k))
      (λ t g. stays a b g.1 k)
  takes (Confirm question asked) own r from now a b step was is other h k = either (recovering.may_confirm r a.place.number asked) _ _ _ h (λ t g. stays a b g.1 k) (λ t g. stays a b g.1 k)
  takes (StillFrozen answer) own r from now a b step was is other h k =
      either (recovering.is_second_answer r from answer) _ _ _ h
      (λ second g. ends (recovering.with_second r from answer.nonce) (Table.epoch_behind a own (recovering.with_second r from answer.nonce)) g (HearsSecond from now answer is other second refl))
      (λ t g. stays a b g.1 k)
    where
      ends : (t : Recovery) (o : Option Epoch) → Table.EndsWith o own t a step b → Change telling a.place own r t → Recovered telling a e s
      ends t (Some next) g how = leaves next nothing_told a b g.1 k
      ends t None g how = recovers own r t a b was g.1 how k
  takes (Marked question) own r from now a b step was is other h k = stays a b h.1 k

  words : (p : Phase) (from : ℕ) (epoch : Epoch) (word : Word) (now : ℕ) (a b : ColdStart) (step : Step) → a.phase ≡ p → telling ≡ WordCame from epoch word now → Table.WordIn p from epoch word now a step b → Recovers b → Recovered telling a e s
  words (Recovering own r) from epoch word now a b step was is h k =
      either (Table.is_taken a from epoch own) _ _ _ h
      (λ t g. let parts = and_parts (is_other a.place from) (is_same epoch own) t in takes word own r from now a b step was (told_in from now word epoch own is parts.1) parts.0 g k)
      (λ t g. stays a b g.1 k)
  words (Waiting heard above) from epoch word now a b step was is h k = stays a b h.1 k
  words (Above above) from epoch word now a b step was is h k = stays a b h.1 k
  words (Entering own heard) from epoch word now a b step was is h k = stays a b h.1 k
  words (Entered own heard) from epoch word now a b step was is h k = stays a b h.1 k
  words (Beginning own) from epoch word now a b step was is h k = stays a b h.1 k
  words (TakingPart own) from epoch word now a b step was is h k = stays a b h.1 k

  -- ---- Its own replica has recovered

  recovered_if : (t : Bool) (own : Epoch) (r : Recovery) (a b : ColdStart) → a.phase ≡ Recovering own r → b.phase ≡ Table.recovered_if t own (Recovering own r) → Recovers b → Recovered telling a e s
  recovered_if true own r a b was is h = elsewhere (TakingPart own) a b is refl h
  recovered_if false own r a b was is h = unchanged a b (is ∙ sym was) h

  recovered : (p : Phase) (a b : ColdStart) → a.phase ≡ p → b.phase ≡ Table.recovered_in p → Recovers b → Recovered telling a e s
  recovered (Recovering own r) a b was is h = recovered_if (not (is_some r.frozen)) own r a b was is h
  recovered (Waiting heard above) a b was is h = unchanged a b (is ∙ sym was) h
  recovered (Above above) a b was is h = unchanged a b (is ∙ sym was) h
  recovered (Entering own heard) a b was is h = unchanged a b (is ∙ sym was) h
  recovered (Entered own heard) a b was is h = unchanged a b (is ∙ sym was) h
  recovered (Beginning own) a b was is h = unchanged a b (is ∙ sym was) h
  recovered (TakingPart own) a b was is h = unchanged a b (is ∙ sym was) h

-- ---- Whatever it's told

pub came_about : (telling : Telling) (store : Kept) (a b : ColdStart) (step : Step) (e : Epoch) (s : Recovery) → Follows telling store a step b → recovery_in b.phase ≡ Some (e, s) → Recovered telling a e s
came_about (TimeHasPassed now) store a b step e s h k = looks (TimeHasPassed now) e s now a.phase a b step refl h k
came_about StoreHas store a b step e s h k = stores StoreHas e s a.phase store a b step h k
came_about (HelloCame from epoch now place) store a b step e s h k = hears (HelloCame from epoch now place) e s from epoch now a b step h k
came_about (SignCame from epoch now) store a b step e s h k = sign_in (SignCame from epoch now) e s (Table.spoken_in a.phase) from epoch now a b step h k
came_about (RecoveryCame from epoch now) store a b step e s h k = recovery_in_epoch (RecoveryCame from epoch now) e s (Table.spoken_in a.phase) from epoch now a b step h k
came_about (WordCame from epoch word now) store a b step e s h k = words (WordCame from epoch word now) e s a.phase from epoch word now a b step refl refl h k
came_about ReplicaRecovered store a b step e s h k = recovered ReplicaRecovered e s a.phase a b refl (ap (λ (x : ColdStart). x.phase) h.1) k
came_about (ImageIs image) store a b step e s h k = unchanged (ImageIs image) e s a b (ap (λ (x : ColdStart). x.phase) h.1) k
