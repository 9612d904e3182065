-- Nonces rise from step to step and from start to start: so what holds of a machine under one nonce goes on as long as it
-- recovers under that, and once it's past it, it's past it for good.
use Rattle.std.proofs.Common.{◌≡◌, ◌⊎◌, ℕ, ◌+◌, ◌%◌, ◌<◌, ◌≤◌, Bool, true, false, List, [], ◌∷◌, Option, Some, None, refl, sym, ap, ◌∙◌, subst, inl, inr, is_some, arith}
use Rattle.std.specs.Prelude.{nat_lt, if◌then◌else◌}
use Rattle.std.proofs.lemmas.Bool.{false≢true, ltb-true}
use Rattle.std.proofs.lemmas.Option.{same_Some}
use Rattle.vr_model.specs.Replicas.{put}
use Rattle.net_hello.specs.declared.hello.Epoch.{Epoch}
use Rattle.plc_epochs.specs.Recovering as recovering
use Rattle.plc_epochs.specs.Recovering.{first_nonce, next_nonce, recovering_under}
use Rattle.plc_epochs.specs.Table.{phase_from}
use Rattle.plc_epochs.specs.declared.kept.Kept.{Kept}
use Rattle.plc_epochs.specs.declared.kept.Kept.TheVariants as keeps
use Rattle.plc_epochs.specs.declared.recovery.Recovery.{Recovery}
use Rattle.plc_epochs.specs.declared.recovery.Question.{Question}
use Rattle.plc_epochs.specs.declared.recovery.Question.TheVariants.{Unasked, First, Second}
use Rattle.plc_epochs.specs.declared.cold_start.ColdStart.{ColdStart}
use Rattle.plc_epochs.specs.declared.cold_start.Place.{Place}
use Rattle.laws_epochs.specs.Machines.{Telling, Move, Starts, Takes, Greets, Writes, Stops, GoesByHand, Machine, Machines, to_write, May, after_move, AreMoves, after_moves}
use Rattle.laws_epoch_ends.specs.TrueMoves.{CountsOn, least_after, AllCountOn}
use Rattle.laws_epoch_ends.proofs.Lists.{put_cases}
use Rattle.laws_epoch_ends.proofs.Steps.{Change, Stays, Thaws, Asks, Freezes, HearsFirst, AsksAgain, HearsSecond, Recovered, came_about, no_value, recovery_in}

-- it has asked a second time
abbrev pub is_second : Question → Bool
is_second Unasked = false
is_second (First frozen) = false
is_second (Second asked still) = true

-- ---- from one recovery to the next

-- a step leaves the nonce as it is, or it's the next one
abbrev pub Goes : Recovery → Recovery → Type 0
Goes r s = (next_nonce r.nonce ≡ Some s.nonce)
    ⊎ ((s.nonce ≡ r.nonce) × (is_some r.frozen ≡ true → is_some s.frozen ≡ true) × (is_second r.question ≡ true → is_second s.question ≡ true))

unasked_or : (q : Question) → recovering.is_unasked q ≡ true → is_second q ≡ true → ⊥
unasked_or Unasked h k = false≢true k
unasked_or (First frozen) h k = false≢true k
unasked_or (Second asked still) h k = false≢true h

with_first_second : (q : Question) (from x : ℕ) → is_second q ≡ true → is_second (recovering.with_first_in q from x) ≡ true
with_first_second Unasked from x h = h
with_first_second (First frozen) from x h = h
with_first_second (Second asked still) from x h = h

again_second : (q : Question) → is_second q ≡ true → is_second (recovering.again q) ≡ true
again_second Unasked h = h
again_second (First frozen) h = refl
again_second (Second asked still) h = refl

with_second_second : (q : Question) (from x : ℕ) → is_second q ≡ true → is_second (recovering.with_second_in q from x) ≡ true
with_second_second Unasked from x h = h
with_second_second (First frozen) from x h = h
with_second_second (Second asked still) from x h = h

to : (r s t : Recovery) → s ≡ t → Goes r t → Goes r s
to r s t is k = subst (Goes r) (sym is) k

pub goes : (telling : Telling) (own : Place) (e : Epoch) (r s : Recovery) → Change telling own e r s → Goes r s
goes telling own e r s (Stays is) = to r s r is (inr (refl, (λ h. h), (λ h. h)))
goes telling own e r s (Thaws now next is) = inl next
goes telling own e r s (Asks now unasked is) = to r s (recovering.asking r now) is (inr (refl, (λ h. refl), (λ h. absurd (unasked_or r.question unasked h))))
goes telling own e r s (Freezes now is) = to r s (recovering.freezing r now) is (inr (refl, (λ h. refl), (λ h. h)))
goes telling own e r s (HearsFirst from now answer told other first is) =
    to r s (recovering.with_first r from answer.nonce) is (inr (refl, (λ h. h), with_first_second r.question from answer.nonce))
goes telling own e r s (AsksAgain from now answer told other first is) =
    to r s (recovering.asking_again (recovering.with_first r from answer.nonce)) is (inr (refl, (λ h. h), (λ h. again_second (recovering.with_first_in r.question from answer.nonce) (with_first_second r.question from answer.nonce h))))
goes telling own e r s (HearsSecond from now answer told other second is) =
    to r s (recovering.with_second r from answer.nonce) is (inr (refl, (λ h. h), with_second_second r.question from answer.nonce))

-- the next nonce is of the same start
pub next_is : (r n : ℕ) → next_nonce r ≡ Some n → n ≡ r + 1
next_is r n h = go (nat_lt (r % 4294967296) 4294967295) h
  where
    go : (t : Bool) → (if t then Some (r + 1) else None) ≡ Some n → n ≡ r + 1
    go true h = sym (same_Some (r + 1) n h)
    go false h = no_value None n refl h

next_within : (r n least : ℕ) → next_nonce r ≡ Some n → r < first_nonce least → n < first_nonce least
next_within r n least h low = go (nat_lt (r % 4294967296) 4294967295) refl h
  where
    go : (t : Bool) → nat_lt (r % 4294967296) 4294967295 ≡ t → (if t then Some (r + 1) else None) ≡ Some n → n < first_nonce least
    go true e h =
        let rest : r % 4294967296 < 4294967295 = ltb-true _ _ e in
        let is : r + 1 ≡ n = same_Some (r + 1) n h in
        omega (arith, rest, is, low)
    go false e h = no_value None n refl h

-- ---- a machine as long as it recovers under this nonce, and once it's past it

-- Behind the starts so far, it recovers under this nonce only so, or under a later one; and its next start is later.
pub record Beyond (R : Epoch → Recovery → Type 0) (x least : ℕ) (m : Machine) : Type 0 where
  pub below : x < first_nonce least
  pub on : (a : ColdStart) (e : Epoch) (r : Recovery) → m.runs ≡ Some a → recovery_in a.phase ≡ Some (e, r) → R e r ⊎ (x < r.nonce)

-- what stays so as long as the nonce does
abbrev pub Lasts : (Epoch → Recovery → Type 0) → ℕ → Type 0
Lasts R x = (e : Epoch) (r s : Recovery) → R e r → Goes r s → R e s ⊎ (x < s.nonce)

-- of the nonces of this start and those before
abbrev pub IsLow : ℕ → Machine → Type 0
IsLow least m = (a : ColdStart) (e : Epoch) (r : Recovery) → m.runs ≡ Some a → recovery_in a.phase ≡ Some (e, r) → r.nonce < first_nonce least

from_start : (k : Kept) (nonce since : ℕ) (e : Epoch) (r : Recovery) → recovery_in (phase_from k nonce since) ≡ Some (e, r) → r.nonce ≡ nonce
from_start (keeps.Begun own) nonce since e r h = sym (ap (λ (x : Epoch × Recovery). x.1.nonce) (same_Some (own, recovering_under nonce since) (e, r) h))
from_start keeps.Nothing nonce since e r h = no_value None (e, r) refl h
from_start (keeps.Above above) nonce since e r h = no_value None (e, r) refl h
from_start (keeps.Entered own) nonce since e r h = no_value None (e, r) refl h

not_up : {R : Type 0} (a : ColdStart) → None ≡ Some a → R
not_up a h = no_value None a refl h

-- what holds of a machine and of how much its next start counts, at each of a machine's moves
pub record Holds (f : ℕ) (P : ℕ → Machine → Type 0) : Type 0 where
  pub starts : (least count nonce since : ℕ) (store : Kept) (b : ColdStart) → nonce ≡ first_nonce count → least ≤ count → b.phase ≡ phase_from store nonce since
      → P least (record { store = store; runs = None }) → P (count + 1) (record { store = store; runs = Some b })
  pub steps : (least : ℕ) (telling : Telling) (store : Kept) (a b : ColdStart) → ((e : Epoch) (s : Recovery) → recovery_in b.phase ≡ Some (e, s) → Recovered telling a e s)
      → P least (record { store = store; runs = Some a }) → P least (record { store = store; runs = Some b })
  pub any_store : (least : ℕ) (store other : Kept) (runs : Option ColdStart) → P least (record { store = store; runs = runs }) → P least (record { store = other; runs = runs })
  pub ends : (least : ℕ) (store : Kept) (runs : Option ColdStart) → P least (record { store = store; runs = runs }) → P least (record { store = store; runs = None })

abbrev pub least_after_moves : (ℕ → ℕ) → List Move → ℕ → ℕ
least_after_moves least [] = least
least_after_moves least (m ∷ ms) = least_after_moves (least_after least m) ms

module _ (f : ℕ) (P : ℕ → Machine → Type 0) (holds : Holds f P) (i : ℕ) where
  while_so : (least : ℕ) (m : Machine) (runs : Option ColdStart) → m.runs ≡ runs → P least m → P least (record { store = m.store; runs = runs })
  while_so least m runs is k = subst (λ r. P least (record { store = m.store; runs = r })) is k

  changed : (w : Machines) (least : ℕ → ℕ) (j : ℕ) (m : Machine) → (i ≡ j → P (least j) (w.at j) → P (least i) m) → P (least i) (w.at i) → P (least i) (put w.at j m i)
  changed w least j m here k = put_cases w.at j m i (λ (x : Machine). P (least i) x) (λ is. here is (subst (λ n. P (least n) (w.at n)) is k)) (λ other. k)

  pub moved : (w : Machines) (least : ℕ → ℕ) (m : Move) → May f w m → CountsOn least m → P (least i) (w.at i) → P (least_after least m i) ((after_move f w m).at i)
  moved w least (Starts j place image count since becomes) may on k =
      put_cases w.at j (record { store = (w.at j).store; runs = Some becomes }) i (λ (x : Machine). P (put least j (count + 1) i) x)
      (λ is.
      let was = while_so (least j) (w.at j) None may.1 (subst (λ n. P (least n) (w.at n)) is k) in
      let now = holds.starts (least j) count (first_nonce count) since (w.at j).store becomes refl on may.4.2 was in
      put_cases least j (count + 1) i (λ n. P n (record { store = (w.at j).store; runs = Some becomes })) (λ same. now) (λ other. absurd (other is)))
      (λ other. put_cases least j (count + 1) i (λ n. P n (w.at i)) (λ same. absurd (other same)) (λ d. k))
  moved w least (Takes j telling step becomes) may on k =
      changed w least j (record { store = (w.at j).store; runs = Some becomes })
      (λ is h. subst (λ n. P (least n) (record { store = (w.at j).store; runs = Some becomes })) (sym is)
      (holds.steps (least j) telling (w.at j).store may.0 becomes (λ e s. came_about telling (w.at j).store may.0 becomes step e s may.3) (while_so (least j) (w.at j) (Some may.0) may.1 h))) k
  moved w least (Greets j epoch) may on k = k
  moved w least (Writes j) may on k =
      changed w least j (record { store = to_write (w.at j).store (w.at j).runs; runs = (w.at j).runs })
      (λ is h. subst (λ n. P (least n) (record { store = to_write (w.at j).store (w.at j).runs; runs = (w.at j).runs })) (sym is)
      (holds.any_store (least j) (w.at j).store (to_write (w.at j).store (w.at j).runs) (w.at j).runs h)) k
  moved w least (Stops j) may on k =
      changed w least j (record { store = (w.at j).store; runs = None })
      (λ is h. subst (λ n. P (least n) (record { store = (w.at j).store; runs = None })) (sym is) (holds.ends (least j) (w.at j).store (w.at j).runs h)) k
  moved w least (GoesByHand j image has) may on k =
      changed w least j (record { store = has; runs = None })
      (λ is h. subst (λ n. P (least n) (record { store = has; runs = None })) (sym is)
      (holds.any_store (least j) (w.at j).store has None (holds.ends (least j) (w.at j).store (w.at j).runs h))) k

  pub over : (ms : List Move) (w : Machines) (least : ℕ → ℕ) → AreMoves f w ms → AllCountOn least ms → P (least i) (w.at i) → P (least_after_moves least ms i) ((after_moves f w ms).at i)
  over [] w least right on k = k
  over (m ∷ ms) w least right on k = over ms (after_move f w m) (least_after least m) right.1 on.1 (moved w least m right.0 on.0 k)

-- ---- the two that hold

pub low_holds : (f : ℕ) → Holds f IsLow
low_holds f = record {
  starts = λ least count nonce since store b is on phase k a e r runs rec.
      let same : b ≡ a = same_Some b a runs in
      let from : r.nonce ≡ nonce = from_start store nonce since e r (ap recovery_in (sym phase ∙ ap (λ (x : ColdStart). x.phase) same) ∙ rec) in
      omega (arith, from, is);
  steps = λ least telling store a b came k c e s runs rec.
      let same : b ≡ c = same_Some b c runs in
      let was = came e s (ap (λ (x : ColdStart). recovery_in x.phase) same ∙ rec) in
      let old : was.before.nonce < first_nonce least = k a e was.before refl (ap recovery_in was.was) in
      elim (goes telling a.place e was.before s was.how) [
        | inl next ↦ next_within was.before.nonce s.nonce least next old
        | inr stays ↦ subst (λ n. n < first_nonce least) (sym stays.0) old
      ];
  any_store = λ least store other runs k. k;
  ends = λ least store runs k a e r up rec. not_up a up;
}

pub beyond_holds : (f : ℕ) (R : Epoch → Recovery → Type 0) (x : ℕ) → Lasts R x → Holds f (Beyond R x)
beyond_holds f R x lasts = record {
  starts = λ least count nonce since store b is on phase k. record {
    below = omega (arith, k.below, on);
    on = λ a e r runs rec.
        let same : b ≡ a = same_Some b a runs in
        let from : r.nonce ≡ nonce = from_start store nonce since e r (ap recovery_in (sym phase ∙ ap (λ (y : ColdStart). y.phase) same) ∙ rec) in
        inr (omega (arith, from, is, k.below, on));
  };
  steps = λ least telling store a b came k. record {
    below = k.below;
    on = λ c e s runs rec.
        let same : b ≡ c = same_Some b c runs in
        let was = came e s (ap (λ (y : ColdStart). recovery_in y.phase) same ∙ rec) in
        let go = goes telling a.place e was.before s was.how in
        elim (k.on a e was.before refl (ap recovery_in was.was)) [
          | inl so ↦ lasts e was.before s so go
          | inr past ↦ inr (rises x was.before s past go)
        ];
  };
  any_store = λ least store other runs k. record { below = k.below; on = k.on };
  ends = λ least store runs k. record { below = k.below; on = λ a e r up rec. not_up a up };
}
  where
    rises : (x : ℕ) (r s : Recovery) → x < r.nonce → Goes r s → x < s.nonce
    rises x r s past (inl next) = let is = next_is r.nonce s.nonce next in omega (arith, past, is)
    rises x r s past (inr stays) = subst (λ n. x < n) (sym stays.0) past
