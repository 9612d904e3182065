-- That the store of a machine never goes back, step by step.
use Rattle.std.proofs.Common.{◌≡◌, ◌+◌, ◌<◌, ℕ, Bool, true, false, not, List, Option, Some, None, refl, sym, ap, subst, inl, inr, unwrap_or, arith}
use Rattle.std.proofs.lemmas.Bool.{false≢true}
use Rattle.std.specs.Prelude.{MatchBool, ◌&&◌, count_by, is_some, nat_lt, slice_set, if◌then◌else◌}
use Rattle.std.specs.Cmp.{nat_cmp_is}
use Rattle.std.specs.Ordering.{nat_cmp}
use Rattle.std.specs.declared.cmp.Ordering.TheVariants.{Greater}
use Rattle.net_hello.specs.declared.hello.Epoch.{Epoch}
use Rattle.plc_epochs.specs.Epochs.{is_later, is_later_by, is_recent_of, is_same, last_number, next_epoch, nothing_told}
use Rattle.plc_epochs.specs.GoingOn.{GoesOn, StoreGoesOn}
use Rattle.plc_epochs.specs.Recovering as recovering
use Rattle.plc_epochs.specs.Recovering.{thawed}
use Rattle.plc_epochs.specs.Table
use Rattle.plc_epochs.specs.Table.{kept_in, leaving}
use Rattle.plc_epochs.specs.declared.word.Word.{Word}
use Rattle.plc_epochs.specs.declared.word.Word.TheVariants.{Freeze, Frozen, Confirm, StillFrozen, Marked}
use Rattle.plc_epochs.specs.declared.kept.Kept.{Kept}
use Rattle.plc_epochs.specs.declared.kept.Kept.TheVariants as keeps
use Rattle.plc_epochs.specs.declared.recovery.Recovery.{Recovery}
use Rattle.plc_epochs.specs.declared.cold_start.Phase.{Phase}
use Rattle.plc_epochs.specs.declared.cold_start.Phase.TheVariants.{Waiting, Above, Entering, Entered, Beginning, TakingPart, Recovering}
use Rattle.plc_epochs.specs.declared.cold_start.Step.{Step}
use Rattle.plc_epochs.specs.declared.cold_start.ColdStart.{ColdStart}

-- one of two
pub either : (b : Bool) (P Q R : Type 0) → MatchBool b P Q → (b ≡ true → P → R) → (b ≡ false → Q → R) → R
either true P Q R h f g = f refl h
either false P Q R h f g = g refl h

pub same : (k : Kept) → GoesOn k k
same keeps.Nothing = tt
same (keeps.Above above) = refl
same (keeps.Entered epoch) = inl refl
same (keeps.Begun epoch) = refl

-- a machine in this phase goes on to one whose store may have what it's to have
goes : (phase after : Phase) (a b : ColdStart) → a.phase ≡ phase → b.phase ≡ after → GoesOn (kept_in phase) (kept_in after) → StoreGoesOn a b
goes phase after a b was is k =
    subst (λ p. GoesOn (kept_in p) (kept_in b.phase)) (sym was) (subst (λ p. GoesOn (kept_in phase) (kept_in p)) (sym is) k)

moves : (phase after : Phase) (a b : ColdStart) → a.phase ≡ phase → b ≡ record a { phase = after } → GoesOn (kept_in phase) (kept_in after) → StoreGoesOn a b
moves phase after a b was e k = goes phase after a b was (ap (λ (x : ColdStart). x.phase) e) k

pub stays : (a b : ColdStart) → b ≡ a → StoreGoesOn a b
stays a b e = goes a.phase a.phase a b refl (ap (λ (x : ColdStart). x.phase) e) (same (kept_in a.phase))

leaves : (phase : Phase) (epoch : Epoch) (heard : List (Option ℕ)) (a b : ColdStart) → a.phase ≡ phase → b ≡ leaving a epoch heard → GoesOn (kept_in phase) (keeps.Entered epoch) → StoreGoesOn a b
leaves phase epoch heard a b was e k = goes phase (Entering epoch heard) a b was (ap (λ (x : ColdStart). x.phase) e) k

-- ---- Time

looks_recovering : (now : ℕ) (epoch : Epoch) (r : Recovery) (after : Option Recovery) (a b : ColdStart) (step : Step) → a.phase ≡ Recovering epoch r → Table.LooksBy epoch r now after a step b → StoreGoesOn a b
looks_recovering now epoch r (Some after) a b step was h = moves (Recovering epoch r) (Recovering epoch after) a b was h.1 refl
looks_recovering now epoch r None a b step was h =
    either (Table.may_ask a r now) _ _ _ h (λ e g. moves (Recovering epoch r) (Recovering epoch (recovering.asking r now)) a b was g.1 refl)
    (λ e s. stays a b s.1)

pub looks : (now : ℕ) (phase : Phase) (a b : ColdStart) (step : Step) → a.phase ≡ phase → Table.LooksIn phase now a step b → StoreGoesOn a b
looks now (Waiting heard above) a b step was h = stays a b h.1
looks now (Above above) a b step was h = stays a b h.1
looks now (Entering epoch heard) a b step was h = stays a b h.1
looks now (Entered epoch heard) a b step was h =
    either (Table.may_begin a epoch heard) _ _ _ h (λ e g. moves (Entered epoch heard) (Beginning epoch) a b was g.1 refl) (λ e s. stays a b s.1)
looks now (Beginning epoch) a b step was h = stays a b h.1
looks now (TakingPart epoch) a b step was h = stays a b h.1
looks now (Recovering epoch r) a b step was h = looks_recovering now epoch r (thawed r a.place.config.f now) a b step was h

-- ---- The store

stores_entered : (epoch : Epoch) (heard : List (Option ℕ)) (has : Kept) (a b : ColdStart) (step : Step) → a.phase ≡ Entering epoch heard → Table.StoresEntered epoch heard has a step b → StoreGoesOn a b
stores_entered epoch heard keeps.Nothing a b step was h = stays a b h.1
stores_entered epoch heard (keeps.Above above) a b step was h = stays a b h.1
stores_entered epoch heard (keeps.Begun has) a b step was h = stays a b h.1
stores_entered epoch heard (keeps.Entered has) a b step was h =
    either (is_same has epoch) _ _ _ h (λ e g. moves (Entering epoch heard) (Entered epoch heard) a b was g.1 (inl refl)) (λ e s. stays a b s.1)

stores_begun : (epoch : Epoch) (has : Kept) (a b : ColdStart) (step : Step) → a.phase ≡ Beginning epoch → Table.StoresBegun epoch has a step b → StoreGoesOn a b
stores_begun epoch keeps.Nothing a b step was h = stays a b h.1
stores_begun epoch (keeps.Above above) a b step was h = stays a b h.1
stores_begun epoch (keeps.Entered has) a b step was h = stays a b h.1
stores_begun epoch (keeps.Begun has) a b step was h =
    either (is_same has epoch) _ _ _ h (λ e g. moves (Beginning epoch) (TakingPart epoch) a b was g.1 refl) (λ e s. stays a b s.1)

pub stores : (has : Kept) (phase : Phase) (a b : ColdStart) (step : Step) → a.phase ≡ phase → Table.StoresIn phase has a step b → StoreGoesOn a b
stores has (Waiting heard above) a b step was h = stays a b h.1
stores has (Above above) a b step was h = stays a b h.1
stores has (Entering epoch heard) a b step was h = stores_entered epoch heard has a b step was h
stores has (Entered epoch heard) a b step was h = stays a b h.1
stores has (Beginning epoch) a b step was h = stores_begun epoch has a b step was h
stores has (TakingPart epoch) a b step was h = stays a b h.1
stores has (Recovering epoch r) a b step was h = stays a b h.1

-- ---- Hello

-- it stays for a reason, or leaves
leaves_unless : (why : Option Step) (phase : Phase) (epoch : Epoch) (from now : ℕ) (a b : ColdStart) (step : Step) → a.phase ≡ phase → GoesOn (kept_in phase) (keeps.Entered epoch) → Table.LeavesUnless why from epoch now a step b → StoreGoesOn a b
leaves_unless (Some does) phase epoch from now a b step was k h = stays a b h.1
leaves_unless None phase epoch from now a b step was k h = leaves phase epoch (slice_set nothing_told from (Some now)) a b was h.1 k

hears_later : (phase : Phase) (own epoch : Epoch) (from now : ℕ) (a b : ColdStart) (step : Step) → a.phase ≡ phase → (is_later epoch own ≡ true → GoesOn (kept_in phase) (keeps.Entered epoch)) → Table.HearsLater own from epoch now a step b → StoreGoesOn a b
hears_later phase own epoch from now a b step was k h =
    either (is_later epoch own) _ _ _ h (λ e l. leaves_unless (Table.staying a own epoch now) phase epoch from now a b step was (k e) l) (λ e s. stays a b s.1)

hears_in : (phase : Phase) (from now : ℕ) (epoch : Epoch) (a b : ColdStart) (step : Step) → a.phase ≡ phase → Table.HearsIn phase from epoch now a step b → StoreGoesOn a b
hears_in (Waiting heard above) from now epoch a b step was h =
    let more = slice_set heard from (Some now) in
    let greatest = Table.later_of above epoch in
    either (nat_lt a.place.config.f (count_by is_some more)) _ _ _ h (λ e g. moves (Waiting heard above) (Above greatest) a b was g.1 tt)
    (λ e g. moves (Waiting heard above) (Waiting more (Some greatest)) a b was g.1 tt)
hears_in (Above above) from now epoch a b step was h = hears_later (Above above) above epoch from now a b step was (λ l. l) h
hears_in (Entering own heard) from now epoch a b step was h =
    either (is_same epoch own) _ _ _ h (λ e g. moves (Entering own heard) (Entering own (slice_set heard from (Some now))) a b was g.1 (inl refl))
    (λ e g. hears_later (Entering own heard) own epoch from now a b step was (λ l. inr l) g)
hears_in (Entered own heard) from now epoch a b step was h =
    either (is_later epoch own) _ _ _ h (λ e g. hears_later (Entered own heard) own epoch from now a b step was (λ l. inr l) g)
    (λ e g.
    either (is_same epoch own) _ _ _ g (λ d m. moves (Entered own heard) (Entered own (slice_set heard from (Some now))) a b was m.1 (inl refl))
    (λ d t. stays a b t.1))
hears_in (Beginning own) from now epoch a b step was h = hears_later (Beginning own) own epoch from now a b step was (λ l. l) h
hears_in (TakingPart own) from now epoch a b step was h = hears_later (TakingPart own) own epoch from now a b step was (λ l. l) h
hears_in (Recovering own r) from now epoch a b step was h = hears_later (Recovering own r) own epoch from now a b step was (λ l. l) h

pub hears : (from now : ℕ) (epoch : Epoch) (a b : ColdStart) (step : Step) → Table.HearsHello from epoch now a step b → StoreGoesOn a b
hears from now epoch a b step h =
    either (Table.is_heard a from epoch) _ _ _ h (λ e g. hears_in a.phase from now epoch a b step refl g) (λ e s. stays a b s.1)

-- ---- Words

-- what was told of a machine changes, and nothing else
counts : (a b : ColdStart) → b.phase ≡ a.phase → StoreGoesOn a b
counts a b e = goes a.phase a.phase a b refl e (same (kept_in a.phase))

sign_in : (spoken : Option Epoch) (from now : ℕ) (epoch : Epoch) (a b : ColdStart) (step : Step) → Table.SignIn spoken from epoch now a step b → StoreGoesOn a b
sign_in None from now epoch a b step h = stays a b h.1
sign_in (Some own) from now epoch a b step h =
    either (Table.is_taken a from epoch own && not (is_recent_of a.recoveries from now)) _ _ _ h (λ e c. counts a b (ap (λ (x : ColdStart). x.phase) c.1)) (λ e s. stays a b s.1)

pub sign : (from now : ℕ) (epoch : Epoch) (a b : ColdStart) (step : Step) → Table.HearsSign from epoch now a step b → StoreGoesOn a b
sign from now epoch a b step h = sign_in (Table.spoken_in a.phase) from now epoch a b step h

recovery_in : (spoken : Option Epoch) (from now : ℕ) (epoch : Epoch) (a b : ColdStart) (step : Step) → Table.RecoveryIn spoken from epoch now a step b → StoreGoesOn a b
recovery_in None from now epoch a b step h = stays a b h.1
recovery_in (Some own) from now epoch a b step h =
    either (Table.is_taken a from epoch own) _ _ _ h (λ e c. counts a b (ap (λ (x : ColdStart). x.phase) c.1)) (λ e s. stays a b s.1)

pub recovery : (from now : ℕ) (epoch : Epoch) (a b : ColdStart) (step : Step) → Table.HearsRecovery from epoch now a step b → StoreGoesOn a b
recovery from now epoch a b step h = recovery_in (Table.spoken_in a.phase) from now epoch a b step h

-- a number higher by one is a later epoch's
higher : (n : ℕ) (image other : List ℕ) → is_later_by (nat_cmp (n + 1) n) image other ≡ true
higher n image other =
    let above : n < n + 1 = omega arith in
    subst (λ o. is_later_by o image other ≡ true) (nat_cmp_is (n + 1) n Greater above) refl

next_is_later : (epoch next : Epoch) (image : List ℕ) (b : Bool) → (if b then Some (record { number = epoch.number + 1; image = image }) else None) ≡ Some next → is_later next epoch ≡ true
next_is_later epoch next image true h =
    subst (λ (x : Epoch). is_later x epoch ≡ true) (ap (λ o. unwrap_or o next) h) (higher epoch.number image epoch.image)
next_is_later epoch next image false h = absurd (false≢true (ap is_some h))

pub behind_is_later : (epoch next : Epoch) (image : List ℕ) (b : Bool) → (if b then next_epoch epoch image else None) ≡ Some next → is_later next epoch ≡ true
behind_is_later epoch next image true h = next_is_later epoch next image (nat_lt (epoch.number + 1) last_number) h
behind_is_later epoch next image false h = absurd (false≢true (ap is_some h))

ends : (behind : Option Epoch) (epoch : Epoch) (r s : Recovery) (a b : ColdStart) (step : Step) → a.phase ≡ Recovering epoch r → ((next : Epoch) → behind ≡ Some next → is_later next epoch ≡ true) → Table.EndsWith behind epoch s a step b → StoreGoesOn a b
ends None epoch r s a b step was later h = moves (Recovering epoch r) (Recovering epoch s) a b was h.1 refl
ends (Some next) epoch r s a b step was later h = leaves (Recovering epoch r) next nothing_told a b was h.1 (later next refl)

takes_word : (word : Word) (epoch : Epoch) (r : Recovery) (from now : ℕ) (a b : ColdStart) (step : Step) → a.phase ≡ Recovering epoch r → Table.TakesWord word epoch r from now a step b → StoreGoesOn a b
takes_word (Freeze question) epoch r from now a b step was h =
    either a.place.is_marked _ _ _ h (λ e t. stays a b t.1)
    (λ e f.
    either (Table.may_freeze a r now) _ _ _ f (λ d g. moves (Recovering epoch r) (Recovering epoch (recovering.freezing r now)) a b was g.1 refl)
    (λ d s. stays a b s.1))
takes_word (Marked question) epoch r from now a b step was h = stays a b h.1
takes_word (Frozen answer) epoch r from now a b step was h =
    let more = recovering.with_first r from answer.nonce in
    either (recovering.is_first_answer r answer) _ _ _ h
    (λ e c.
    either (recovering.may_ask_again more a.place.config.f) _ _ _ c
    (λ d g. moves (Recovering epoch r) (Recovering epoch (recovering.asking_again more)) a b was g.1 refl)
    (λ d g. moves (Recovering epoch r) (Recovering epoch more) a b was g.1 refl))
    (λ e s. stays a b s.1)
takes_word (Confirm question asked) epoch r from now a b step was h =
    either (recovering.may_confirm r a.place.number asked) _ _ _ h (λ e c. stays a b c.1) (λ e s. stays a b s.1)
takes_word (StillFrozen answer) epoch r from now a b step was h =
    let more = recovering.with_second r from answer.nonce in
    either (recovering.is_second_answer r from answer) _ _ _ h
    (λ e c.
    ends (Table.epoch_behind a epoch more) epoch r more a b step was
    (λ next is. behind_is_later epoch next a.image (recovering.evidence more a.place.config.f) is) c)
    (λ e s. stays a b s.1)

pub words : (phase : Phase) (from now : ℕ) (epoch : Epoch) (word : Word) (a b : ColdStart) (step : Step) → a.phase ≡ phase → Table.WordIn phase from epoch word now a step b → StoreGoesOn a b
words (Waiting heard above) from now epoch word a b step was h = stays a b h.1
words (Above above) from now epoch word a b step was h = stays a b h.1
words (Entering own heard) from now epoch word a b step was h = stays a b h.1
words (Entered own heard) from now epoch word a b step was h = stays a b h.1
words (Beginning own) from now epoch word a b step was h = stays a b h.1
words (TakingPart own) from now epoch word a b step was h = stays a b h.1
words (Recovering own r) from now epoch word a b step was h =
    either (Table.is_taken a from epoch own) _ _ _ h (λ e t. takes_word word own r from now a b step was t) (λ e s. stays a b s.1)
