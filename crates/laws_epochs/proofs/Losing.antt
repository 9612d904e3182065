-- What holds of all machines behind any events, where disks are lost: those that once came to an epoch keep to it.
use Rattle.std.proofs.Common.{◌≡◌, ◌⊎◌, ℕ, zero, suc, ◌+◌, ◌<◌, ◌≤◌, Bool, true, false, not, List, [], ◌∷◌, ◌++◌, Option, Some, None, Ok, refl, sym, ap, ◌∙◌, subst, inl, inr, is_some, ltb, eqb, arith, length}
use Rattle.std.specs.Prelude.{count_by, nat_lt, slice_get, slice_set, if◌then◌else◌}
use Rattle.std.proofs.lemmas.Bool.{false≢true, and_parts, not-true, ltb-true, eq-eqb, cases_eq}
use Rattle.std.proofs.lemmas.Option.{same_Some}
use Rattle.vr_model.specs.Groups.{group_size, how_many}
use Rattle.vr_model.specs.Replicas.{put}
use Rattle.laws_history.proofs.Counts.{quorums_meet}
use Rattle.laws_history.proofs.Tables.{put_cases, put_other, put_same}
use Rattle.net_hello.specs.declared.hello.Epoch.{Epoch}
use Rattle.plc_epochs.specs.Epochs.{by_hand, is_later}
use Rattle.plc_epochs.specs.GoingOn.{GoesOn}
use Rattle.plc_epochs.specs.Recovering.{first_nonce}
use Rattle.plc_epochs.specs.Table
use Rattle.plc_epochs.specs.Table.{greeting_in, is_other, kept_in, later_of, phase_from, spoken_in}
use Rattle.plc_epochs.specs.declared.kept.Kept.{Kept}
use Rattle.plc_epochs.specs.declared.kept.Kept.TheVariants as keeps
use Rattle.plc_epochs.specs.declared.cold_start.ColdStart.{ColdStart}
use Rattle.plc_epochs.specs.declared.cold_start.Greeting.TheVariants.{Silence, Waits, Hello}
use Rattle.plc_epochs.specs.declared.cold_start.Phase.{Phase}
use Rattle.plc_epochs.specs.declared.cold_start.Phase.TheVariants.{Waiting, Above, Entering, Entered, Beginning, TakingPart, Recovering}
use Rattle.plc_epochs.specs.declared.cold_start.Place.{Place}
use Rattle.plc_epochs.specs.declared.cold_start.Step.{Step}
use Rattle.plc_epochs.proofs.GoingOn.{either}
use Rattle.laws_epochs.specs.Machines.{Telling, TimeHasPassed, StoreHas, HelloCame, SignCame, RecoveryCame, WordCame, ReplicaRecovered, ImageIs, Follows, WasSaid}
use Rattle.laws_epochs.specs.Machines.{Move, Starts, Takes, Greets, Writes, Stops, GoesByHand, Machine, Machines, to_write, May, after_move}
use Rattle.laws_epochs.specs.Beginnings.{HasCome, IsNoEarlier}
use Rattle.laws_epochs.specs.LostDisks.{Event, Moves, LosesDisk, GoesTo, Group, CameSince, HasComeOrWaits, HellosHold, IsAbove, KeepsTo, MayBe, after_event, with_disks}
use Rattle.laws_epochs.proofs.Later.{come_on, hand_on, no_earlier_chain, not_later}
use Rattle.laws_epochs.proofs.Changes.{Done, done, epoch_in, has_heard, heard_more, no_hello, nothing_heard, IsToldBy}
use Rattle.laws_epochs.proofs.Standing.{Fine, FineAt, GoingOn, Rises, down, now, starts, write_up, writes}
use Rattle.laws_epochs.proofs.Beginning.{no_fewer}

-- ---- lists that grow

pub behind : {X : Type 0} (P : ℕ → X → Type 0) (xs : List X) (y : X) → ((n : ℕ) (x : X) → slice_get xs n ≡ Some x → P n x) → P (length xs) y → (n : ℕ) (x : X) → slice_get (xs ++ y ∷ []) n ≡ Some x → P n x
behind P [] y all one zero x h = subst (P 0) (same_Some y x h) one
behind P [] y all one (suc n) x h = absurd (false≢true (ap is_some h))
behind P (z ∷ xs) y all one zero x h = all zero x h
behind P (z ∷ xs) y all one (suc n) x h = behind (λ k. P (suc k)) xs y (λ k. all (suc k)) one n x h

still_there : {X : Type 0} (xs ys : List X) (n : ℕ) (x : X) → slice_get xs n ≡ Some x → slice_get (xs ++ ys) n ≡ Some x
still_there [] ys n x h = absurd (false≢true (ap is_some h))
still_there (z ∷ xs) ys zero x h = h
still_there (z ∷ xs) ys (suc n) x h = still_there xs ys n x h

pub within_length : {X : Type 0} (xs : List X) (n : ℕ) (x : X) → slice_get xs n ≡ Some x → n < length xs
within_length [] n x h = absurd (false≢true (ap is_some h))
within_length (z ∷ xs) zero x h = omega arith
within_length (z ∷ xs) (suc n) x h = omega (arith, within_length xs n x h)

no_shorter : {X : Type 0} (xs ys : List X) → length xs ≤ length (xs ++ ys)
no_shorter [] ys = omega arith
no_shorter (z ∷ xs) ys = omega (arith, no_shorter xs ys)

-- one place of two tables changes
put_both : {X Y : Type 0} (s : ℕ → X) (t : ℕ → Y) (i : ℕ) (x : X) (y : Y) (j : ℕ) (P : X → Y → Type 0) → (j ≡ i → P x y) → ((j ≡ i → ⊥) → P (s j) (t j)) → P (put s i x j) (put t i y j)
put_both s t i x y j P here there = elim (cases_eq j i) [
  | inl is ↦ subst (λ a. P a (put t i y j)) (sym (put_same s i x j is)) (subst (λ b. P x b) (sym (put_same t i y j is)) (here is))
  | inr other ↦ subst (λ a. P a (put t i y j)) (sym (put_other s i x j other)) (subst (λ b. P (s j) b) (sym (put_other t i y j other)) (there other))
]

-- ---- each machine by itself

abbrev pub Anyone : ℕ → Epoch → Type 0
Anyone j e = Unit {0}

-- who said hello, and hasn't lost its disk since, has come to its epoch
pub record Stands (f : ℕ) (w : Machines) (lost : ℕ → ℕ) : Type 0 where
  pub each : (i : ℕ) → FineAt f Anyone i (w.at i)
  pub said : (n : ℕ) (x : ℕ × Epoch) → slice_get w.hellos n ≡ Some x → lost x.0 ≤ n → HasCome x.1 (w.at x.0).store

module _ (f : ℕ) where
  changed : (w : Machines) (lost : ℕ → ℕ) (i : ℕ) (m : Machine) → Stands f w lost → ((e : Epoch) → HasCome e (w.at i).store → HasCome e m.store) → FineAt f Anyone i m → Stands f (record w { at = put w.at i m }) lost
  changed w lost i m s up fine =
      let risen : (j : ℕ) (e : Epoch) → HasCome e (w.at j).store → HasCome e (put w.at i m j).store = λ j e. put_cases w.at i m j (λ (x : Machine). HasCome e (w.at j).store → HasCome e x.store) (λ is h. up e (subst (λ k. HasCome e (w.at k).store) is h)) (λ other h. h) in
      record {
        each = λ j. put_cases w.at i m j (λ (x : Machine). FineAt f Anyone j x) (λ is. subst (λ k. FineAt f Anyone k m) (sym is) fine) (λ other. s.each j);
        said = λ n x h l. risen x.0 x.1 (s.said n x h l);
      }

  -- who says hello is another machine of the group
  pub other_low : (own : Place) (from i : ℕ) → own.number ≡ i → own.config.f ≡ f → is_other own from ≡ true → (from ≡ i → ⊥) × (from < group_size f)
  other_low own from i number group h =
      let parts = and_parts (not (eqb from own.number)) (ltb from (group_size own.config.f)) h in
      let other : from ≡ own.number → ⊥ = λ is. false≢true (sym (not-true _ parts.0) ∙ eq-eqb from own.number is) in
      let low : from < group_size own.config.f = ltb-true from (group_size own.config.f) parts.1 in
      ((λ is. other (is ∙ sym number)), subst (λ x. from < group_size x) group low)

  told : (telling : Telling) (own : Place) (i : ℕ) (e : Epoch) (j : ℕ) → own.number ≡ i → own.config.f ≡ f → IsToldBy telling own e j → (Unit {0}) × (j ≡ i → ⊥) × (j < group_size f)
  told (HelloCame from epoch since place) own i e j number group h =
      let low = other_low own from i number group h.2 in
      (tt, (λ is. low.0 (h.0 ∙ is)), subst (λ x. x < group_size f) h.0 low.1)
  told _ own i e j number group h = absurd h

  steps : (w : Machines) (lost : ℕ → ℕ) (i : ℕ) (telling : Telling) (a b : ColdStart) (step : Step) → GoingOn → Stands f w lost → (w.at i).runs ≡ Some a → Follows telling (w.at i).store a step b → Fine f Anyone i (w.at i).store b
  steps w lost i telling a b step goes s runs follows =
      let k : Fine f Anyone i (w.at i).store a = s.each i a runs in
      let d : Done telling (w.at i).store a b = done telling (w.at i).store a b step follows in
      record {
        number = ap (λ (x : Place). x.number) d.place ∙ k.number;
        group = ap (λ (x : Place). x.config.f) d.place ∙ k.group;
        within = k.within;
        ahead = λ e h. come_on (kept_in a.phase) (kept_in b.phase) e (goes telling (w.at i).store a b step follows) (k.ahead e h);
        greets = λ e h. elim (d.changes.greets e h) [
          | inl g ↦ k.greets e g
          | inr came ↦ came
        ];
        heard = λ e j h. elim (d.changes.heard e j h) [
          | inl before ↦ k.heard e j before
          | inr new ↦ told telling a.place i e j k.number k.group new
        ];
        unfrozen = λ m. let n : a.place.is_marked ≡ true = ap (λ (x : Place). x.is_marked) (sym d.place) ∙ m in d.changes.unfrozen n (k.unfrozen n);
      }

  moved : (w : Machines) (lost : ℕ → ℕ) (m : Move) → GoingOn → Stands f w lost → May f w m → Stands f (after_move f w m) lost
  moved w lost (Starts i place image count since becomes) goes s may =
      changed w lost i (record { store = (w.at i).store; runs = Some becomes }) s (λ e h. h)
      (now f Anyone i (w.at i).store becomes (starts f Anyone i (w.at i).store place image (first_nonce count) since becomes may.0 may.2 may.3 may.4))
  moved w lost (Takes i telling step becomes) goes s may =
      changed w lost i (record { store = (w.at i).store; runs = Some becomes }) s (λ e h. h)
      (now f Anyone i (w.at i).store becomes (steps w lost i telling may.0 becomes step goes s may.1 may.3))
  moved w lost (Greets i epoch) goes s may =
      record { each = s.each; said = behind (λ n (x : ℕ × Epoch). lost x.0 ≤ n → HasCome x.1 (w.at x.0).store) w.hellos (i, epoch) s.said (λ l. (s.each i may.0 may.1).greets epoch may.2) }
  moved w lost (Writes i) goes s may =
      changed w lost i (record { store = to_write (w.at i).store (w.at i).runs; runs = (w.at i).runs }) s (write_up f Anyone i (w.at i).store (w.at i).runs (s.each i)) (writes f Anyone i (w.at i).store (w.at i).runs (s.each i))
  moved w lost (Stops i) goes s may = changed w lost i (record { store = (w.at i).store; runs = None }) s (λ e h. h) (down f Anyone i (w.at i).store)
  moved w lost (GoesByHand i image has) goes s may =
      changed w lost i (record { store = has; runs = None }) s (λ e h. hand_on (w.at i).store has e image may.1 h) (down f Anyone i has)

  -- an operator names an epoch above it
  named_on : (hellos : List (ℕ × Epoch)) (k : Kept) (named e : Epoch) → IsAbove hellos k named → HasCome e k → IsNoEarlier named e
  named_on hellos keeps.Nothing named e above h = absurd h
  named_on hellos (keeps.Above own) named e above h = absurd h
  named_on hellos (keeps.Entered own) named e above h = no_earlier_chain named own e (inr above) h
  named_on hellos (keeps.Begun own) named e above h = no_earlier_chain named own e (inr above) h

  abbrev pub StandsSo : Group → Type 0
  StandsSo w = Stands f w.machines w.lost

  pub stood : (w : Group) (e : Event) → GoingOn → StandsSo w → MayBe f w e → StandsSo (after_event f w e)
  stood w (Moves m) goes s may = moved w.machines w.lost m goes s may.0
  stood w (LosesDisk i) goes s may =
      let empty : Machine = record { store = keeps.Nothing; runs = None } in
      let count : ℕ = length w.machines.hellos in
      record {
        each = λ j. put_cases w.machines.at i empty j (λ (x : Machine). FineAt f Anyone j x) (λ is. down f Anyone j keeps.Nothing) (λ other. s.each j);
        said = λ n x h. put_both w.machines.at w.lost i empty count x.0 (λ (m : Machine) (l : ℕ). l ≤ n → HasCome x.1 m.store)
            (λ is l. absurd (omega (arith, within_length w.machines.hellos n x h, l))) (λ other l. s.said n x h l);
      }
  stood w (GoesTo i named) goes s may =
      changed w.machines w.lost i (record { store = keeps.Entered named; runs = None }) s (λ e h. named_on w.machines.hellos (w.machines.at i).store named e may.1 h) (down f Anyone i (keeps.Entered named))

  pub first : (stores : ℕ → Kept) → StandsSo (with_disks stores)
  first stores = record { each = λ i. down f Anyone i (stores i); said = λ n x h l. absurd (false≢true (ap is_some h)) }

-- ---- those that keep to an epoch

-- a store that waits does so since a loss behind so many hellos
abbrev pub Stored : Epoch → ℕ → ℕ → Kept → Type 0
Stored e since lost keeps.Nothing = since ≤ lost
Stored e since lost (keeps.Above above) = IsNoEarlier above e
Stored e since lost (keeps.Entered own) = IsNoEarlier own e
Stored e since lost (keeps.Begun own) = IsNoEarlier own e

abbrev Covers : Option Epoch → Epoch → Type 0
Covers None e = ⊥
Covers (Some top) e = IsNoEarlier top e

-- a process that waits has heard this machine, by a hello behind so many, and would wait above its epoch or a later one
pub record Heard (f since : ℕ) (hellos : List (ℕ × Epoch)) (above : Option Epoch) (k : ℕ) : Type 0 where
  pub place : ℕ
  pub epoch : Epoch
  pub said : slice_get hellos place ≡ Some (k, epoch)
  pub late : since ≤ place
  pub covers : Covers above epoch
  pub low : k < group_size f

abbrev pub Lives : ℕ → Epoch → ℕ → List (ℕ × Epoch) → ℕ → Phase → Type 0
Lives f e since hellos lost (Waiting heard above) = (since ≤ lost) × ((k : ℕ) → has_heard heard k ≡ true → Heard f since hellos above k)
Lives f e since hellos lost (Above above) = IsNoEarlier above e
Lives f e since hellos lost (Entering own heard) = IsNoEarlier own e
Lives f e since hellos lost (Entered own heard) = IsNoEarlier own e
Lives f e since hellos lost (Beginning own) = IsNoEarlier own e
Lives f e since hellos lost (TakingPart own) = IsNoEarlier own e
Lives f e since hellos lost (Recovering own r) = IsNoEarlier own e

-- some machine has said hello in this epoch
abbrev pub HasBeenSaid : List (ℕ × Epoch) → Epoch → Type 0
HasBeenSaid hellos e = (place : ℕ) × (k : ℕ) × (slice_get hellos place ≡ Some (k, e))

-- Those machines do; of each hello of theirs behind so many it's so, too.
pub record Bound (f : ℕ) (e : Epoch) (who : ℕ → Bool) (since : ℕ) (w : Group) : Type 0 where
  pub store : (j : ℕ) → who j ≡ true → Stored e since (w.lost j) (w.machines.at j).store
  pub process : (j : ℕ) → who j ≡ true → (a : ColdStart) → (w.machines.at j).runs ≡ Some a → Lives f e since w.machines.hellos (w.lost j) a.phase
  pub hellos : (n : ℕ) (x : ℕ × Epoch) → slice_get w.machines.hellos n ≡ Some x → since ≤ n → who x.0 ≡ true → IsNoEarlier x.1 e
  pub short : since ≤ length w.machines.hellos
  pub said : HasBeenSaid w.machines.hellos e

-- ---- the greatest epoch that was heard

of_two : (top new : Epoch) (t : Bool) → is_later top new ≡ t → (IsNoEarlier (if t then top else new) top) × (IsNoEarlier (if t then top else new) new)
of_two top new true h = (inl refl, inr h)
of_two top new false h = (not_later top new h, inl refl)

covers_new : (above : Option Epoch) (new : Epoch) → IsNoEarlier (later_of above new) new
covers_new None new = inl refl
covers_new (Some top) new = (of_two top new (is_later top new) refl).1

covers_old : (above : Option Epoch) (new e : Epoch) → Covers above e → IsNoEarlier (later_of above new) e
covers_old None new e h = absurd h
covers_old (Some top) new e h = no_earlier_chain (later_of (Some top) new) top e (of_two top new (is_later top new) refl).0 h

-- ---- stores that go on

-- what it has isn't before the epoch, and isn't nothing
abbrev IsFrom : Epoch → Kept → Type 0
IsFrom e keeps.Nothing = ⊥
IsFrom e (keeps.Above above) = IsNoEarlier above e
IsFrom e (keeps.Entered own) = IsNoEarlier own e
IsFrom e (keeps.Begun own) = IsNoEarlier own e

from_on : (k l : Kept) (e : Epoch) → GoesOn k l → IsFrom e k → IsFrom e l
from_on keeps.Nothing l e g h = absurd h
from_on (keeps.Above above) keeps.Nothing e g h = absurd g
from_on (keeps.Above above) (keeps.Above other) e g h = no_earlier_chain other above e (inl g) h
from_on (keeps.Above above) (keeps.Entered other) e g h = no_earlier_chain other above e (inr g) h
from_on (keeps.Above above) (keeps.Begun other) e g h = absurd g
from_on (keeps.Entered own) keeps.Nothing e g h = absurd g
from_on (keeps.Entered own) (keeps.Above above) e g h = absurd g
from_on (keeps.Entered own) (keeps.Entered other) e g h = no_earlier_chain other own e g h
from_on (keeps.Entered own) (keeps.Begun other) e g h = no_earlier_chain other own e (inl g) h
from_on (keeps.Begun own) keeps.Nothing e g h = absurd g
from_on (keeps.Begun own) (keeps.Above above) e g h = absurd g
from_on (keeps.Begun own) (keeps.Entered other) e g h = no_earlier_chain other own e (inr g) h
from_on (keeps.Begun own) (keeps.Begun other) e g h = no_earlier_chain other own e (inl g) h

pub come_stored : (e : Epoch) (since lost : ℕ) (k : Kept) → HasCome e k → Stored e since lost k
come_stored e since lost keeps.Nothing h = absurd h
come_stored e since lost (keeps.Above above) h = absurd h
come_stored e since lost (keeps.Entered own) h = h
come_stored e since lost (keeps.Begun own) h = h

hand_stored : (e : Epoch) (since lost : ℕ) (k has : Kept) (image : List ℕ) → by_hand k image ≡ Ok has → Stored e since lost k → Stored e since lost has
hand_stored e since lost keeps.Nothing has image h k = absurd cc
hand_stored e since lost (keeps.Above above) has image h k = absurd cc
hand_stored e since lost (keeps.Entered own) has image h k = come_stored e since lost has (hand_on (keeps.Entered own) has e image h k)
hand_stored e since lost (keeps.Begun own) has image h k = come_stored e since lost has (hand_on (keeps.Begun own) has e image h k)

named_stored : (hellos : List (ℕ × Epoch)) (e named : Epoch) (since lost : ℕ) (k : Kept) → IsAbove hellos k named → HasBeenSaid hellos e → Stored e since lost k → IsNoEarlier named e
named_stored hellos e named since lost keeps.Nothing above said h = inr (above said.0 (said.1, e) said.2)
named_stored hellos e named since lost (keeps.Above own) above said h = no_earlier_chain named own e (inr above) h
named_stored hellos e named since lost (keeps.Entered own) above said h = no_earlier_chain named own e (inr above) h
named_stored hellos e named since lost (keeps.Begun own) above said h = no_earlier_chain named own e (inr above) h

pub stored_waits : (e : Epoch) (since lost : ℕ) (k : Kept) → Stored e since lost k → HasComeOrWaits e k
stored_waits e since lost keeps.Nothing h = tt
stored_waits e since lost (keeps.Above above) h = h
stored_waits e since lost (keeps.Entered own) h = h
stored_waits e since lost (keeps.Begun own) h = h

-- ---- processes

module _ (f : ℕ) (e : Epoch) (since : ℕ) where
  as_lives : (hellos : List (ℕ × Epoch)) (lost : ℕ) (p : Phase) → IsFrom e (kept_in p) → Lives f e since hellos lost p
  as_lives hellos lost (Waiting heard above) h = absurd h
  as_lives hellos lost (Above above) h = h
  as_lives hellos lost (Entering own heard) h = h
  as_lives hellos lost (Entered own heard) h = h
  as_lives hellos lost (Beginning own) h = h
  as_lives hellos lost (TakingPart own) h = h
  as_lives hellos lost (Recovering own r) h = h

  pub come_lives : (hellos : List (ℕ × Epoch)) (lost : ℕ) (p : Phase) → HasCome e (kept_in p) → Lives f e since hellos lost p
  come_lives hellos lost (Waiting heard above) h = absurd h
  come_lives hellos lost (Above above) h = absurd h
  come_lives hellos lost (Entering own heard) h = h
  come_lives hellos lost (Entered own heard) h = h
  come_lives hellos lost (Beginning own) h = h
  come_lives hellos lost (TakingPart own) h = h
  come_lives hellos lost (Recovering own r) h = h

  pub lives_stored : (hellos : List (ℕ × Epoch)) (lost : ℕ) (p : Phase) → Lives f e since hellos lost p → Stored e since lost (kept_in p)
  lives_stored hellos lost (Waiting heard above) h = h.0
  lives_stored hellos lost (Above above) h = h
  lives_stored hellos lost (Entering own heard) h = h
  lives_stored hellos lost (Entered own heard) h = h
  lives_stored hellos lost (Beginning own) h = h
  lives_stored hellos lost (TakingPart own) h = h
  lives_stored hellos lost (Recovering own r) h = h

  starts_lives : (hellos : List (ℕ × Epoch)) (lost nonce from : ℕ) (k : Kept) → Stored e since lost k → Lives f e since hellos lost (phase_from k nonce from)
  starts_lives hellos lost nonce from keeps.Nothing h = (h, λ k heard. absurd (nothing_heard k heard))
  starts_lives hellos lost nonce from (keeps.Above above) h = h
  starts_lives hellos lost nonce from (keeps.Entered own) h = h
  starts_lives hellos lost nonce from (keeps.Begun own) h = h

  more_lives : (hellos more : List (ℕ × Epoch)) (lost : ℕ) (p : Phase) → Lives f e since hellos lost p → Lives f e since (hellos ++ more) lost p
  more_lives hellos more lost (Waiting heard above) h = (
    h.0,
    λ k there. let x : Heard f since hellos above k = h.1 k there in
        record {
          place = x.place;
          epoch = x.epoch;
          said = still_there hellos more x.place (k, x.epoch) x.said;
          late = x.late;
          covers = x.covers;
          low = x.low;
        },
  )
  more_lives hellos more lost (Above above) h = h
  more_lives hellos more lost (Entering own heard) h = h
  more_lives hellos more lost (Entered own heard) h = h
  more_lives hellos more lost (Beginning own) h = h
  more_lives hellos more lost (TakingPart own) h = h
  more_lives hellos more lost (Recovering own r) h = h

  -- in which epoch it says hello, and takes part
  greets_from : (hellos : List (ℕ × Epoch)) (lost : ℕ) (p : Phase) (own : Epoch) → greeting_in p ≡ Hello own → Lives f e since hellos lost p → IsNoEarlier own e
  greets_from hellos lost (Waiting heard above) own h k = absurd (no_hello Waits own refl h)
  greets_from hellos lost (Above above) own h k = absurd (no_hello Waits own refl h)
  greets_from hellos lost (Entering other heard) own h k = absurd (no_hello Silence own refl h)
  greets_from hellos lost (Entered other heard) own h k = subst (λ x. IsNoEarlier x e) (ap (epoch_in other) h) k
  greets_from hellos lost (Beginning other) own h k = subst (λ x. IsNoEarlier x e) (ap (epoch_in other) h) k
  greets_from hellos lost (TakingPart other) own h k = subst (λ x. IsNoEarlier x e) (ap (epoch_in other) h) k
  greets_from hellos lost (Recovering other r) own h k = subst (λ x. IsNoEarlier x e) (ap (epoch_in other) h) k

  speaks_from : (hellos : List (ℕ × Epoch)) (lost : ℕ) (p : Phase) (own : Epoch) → spoken_in p ≡ Some own → Lives f e since hellos lost p → IsNoEarlier own e
  speaks_from hellos lost (TakingPart other) own h k = subst (λ x. IsNoEarlier x e) (same_Some other own h) k
  speaks_from hellos lost (Recovering other r) own h k = subst (λ x. IsNoEarlier x e) (same_Some other own h) k
  speaks_from hellos lost _ own h k = absurd (false≢true (ap is_some h))

  module _ (who : ℕ → Bool) where
    pub keeps_to : (w : Group) (i : ℕ) → who i ≡ true → Bound f e who since w → KeepsTo e (w.machines.at i)
    keeps_to w i is b = record {
      store = stored_waits e since (w.lost i) (w.machines.at i).store (b.store i is);
      part = λ a own runs part. speaks_from w.machines.hellos (w.lost i) a.phase own part (b.process i is a runs);
    }

    -- ---- one that waits hears one more

    module _ (w : Group) (i : ℕ) (a b : ColdStart) (step : Step) (heard : List (Option ℕ)) (above : Option Epoch) (many : f + 1 ≤ how_many who (group_size f)) (bound : Bound f e who since w) where
      abbrev LivesHere : Phase → Type 0
      LivesHere p = Lives f e since w.machines.hellos (w.lost i) p

      stays_so : a.phase ≡ Waiting heard above → LivesHere (Waiting heard above) → b ≡ a → LivesHere b.phase
      stays_so was live is = subst LivesHere (sym (ap (λ (x : ColdStart). x.phase) is ∙ was)) live

      one_more : (from now place : ℕ) (epoch : Epoch) → LivesHere (Waiting heard above) → from < group_size f → slice_get w.machines.hellos place ≡ Some (from, epoch) → w.lost i ≤ place
          → (k : ℕ) → has_heard (slice_set heard from (Some now)) k ≡ true → Heard f since w.machines.hellos (Some (later_of above epoch)) k
      one_more from now place epoch live low said late k h = elim (heard_more heard from now k h) [
        | inl is ↦ record {
          place = place;
          epoch = epoch;
          said = subst (λ x. slice_get w.machines.hellos place ≡ Some (x, epoch)) is said;
          late = omega (arith, live.0, late);
          covers = covers_new above epoch;
          low = subst (λ x. x < group_size f) is low;
        }
        | inr before ↦ (let x : Heard f since w.machines.hellos above k = live.1 k before in
            record {
              place = x.place;
              epoch = x.epoch;
              said = x.said;
              late = x.late;
              covers = covers_old above epoch x.epoch x.covers;
              low = x.low;
            })
      ]

      -- of f+1 others one keeps to the epoch, and said so
      enough : (more : List (Option ℕ)) (top : Epoch) → f < count_by is_some more → ((k : ℕ) → has_heard more k ≡ true → Heard f since w.machines.hellos (Some top) k) → IsNoEarlier top e
      enough more top count all =
          let counted : count_by is_some more ≤ how_many (has_heard more) (group_size f) = no_fewer more (group_size f) (λ k h. (all k h).low) in
          let one = quorums_meet f (has_heard more) who (omega (arith, counted, count)) many in
          let x : Heard f since w.machines.hellos (Some top) one.0 = all one.0 one.2 in
          no_earlier_chain top x.epoch e x.covers (bound.hellos x.place (one.0, x.epoch) x.said x.late one.3)

      hears : (from now place : ℕ) (epoch : Epoch) → a.phase ≡ Waiting heard above → a.place.number ≡ i → a.place.config.f ≡ f → LivesHere (Waiting heard above) → slice_get w.machines.hellos place ≡ Some (from, epoch) → w.lost i ≤ place
          → Table.HearsHello from epoch now a step b → LivesHere b.phase
      hears from now place epoch was number group live said late h =
          let more = slice_set heard from (Some now) in
          let top = later_of above epoch in
          either (Table.is_heard a from epoch) _ _ _ h
          (λ ok g.
          let low = (other_low f a.place from i number group (and_parts _ _ ok).0).1 in
          let all = one_more from now place epoch live low said late in
          let waits : Table.HearsWaiting more top a step b = subst (λ p. Table.HearsIn p from epoch now a step b) was g in
          either (nat_lt a.place.config.f (count_by is_some more)) _ _ _ waits
          (λ full m. subst LivesHere (sym (ap (λ (x : ColdStart). x.phase) m.1)) (enough more top (subst (λ x. x < count_by is_some more) group (ltb-true a.place.config.f (count_by is_some more) full)) all))
          (λ full m. subst LivesHere (sym (ap (λ (x : ColdStart). x.phase) m.1)) (live.0, all)))
          (λ ok s. stays_so was live s.1)

      waits_on : (telling : Telling) (store : Kept) → a.phase ≡ Waiting heard above → a.place.number ≡ i → a.place.config.f ≡ f → LivesHere (Waiting heard above) → WasSaid w.machines.hellos telling → CameSince w i telling
          → Follows telling store a step b → LivesHere b.phase
      waits_on (TimeHasPassed now) store was number group live said late h =
          let s : Table.Stays a step b = subst (λ p. Table.LooksIn p now a step b) was h in
          stays_so was live s.1
      waits_on StoreHas store was number group live said late h =
          let s : Table.Stays a step b = subst (λ p. Table.StoresIn p store a step b) was h in
          stays_so was live s.1
      waits_on (HelloCame from epoch now place) store was number group live said late h = hears from now place epoch was number group live said late h
      waits_on (SignCame from epoch now) store was number group live said late h =
          let s : Table.Stays a step b = subst (λ p. Table.SignIn (spoken_in p) from epoch now a step b) was h in
          stays_so was live s.1
      waits_on (RecoveryCame from epoch now) store was number group live said late h =
          let s : Table.Stays a step b = subst (λ p. Table.RecoveryIn (spoken_in p) from epoch now a step b) was h in
          stays_so was live s.1
      waits_on (WordCame from epoch word now) store was number group live said late h =
          let s : Table.Stays a step b = subst (λ p. Table.WordIn p from epoch word now a step b) was h in
          stays_so was live s.1
      waits_on ReplicaRecovered store was number group live said late h =
          subst LivesHere (sym (ap (λ (x : ColdStart). x.phase) h.1 ∙ ap Table.recovered_in was)) live
      waits_on (ImageIs image) store was number group live said late h = subst LivesHere (sym (ap (λ (x : ColdStart). x.phase) h.1 ∙ was)) live

    -- ---- any step

    goes_from : (w : Group) (i : ℕ) (p : Phase) (a b : ColdStart) → a.phase ≡ p → IsFrom e (kept_in p) → GoesOn (kept_in a.phase) (kept_in b.phase) → Lives f e since w.machines.hellos (w.lost i) b.phase
    goes_from w i p a b was h goes =
        as_lives w.machines.hellos (w.lost i) b.phase (from_on (kept_in a.phase) (kept_in b.phase) e goes (subst (λ q. IsFrom e (kept_in q)) (sym was) h))

    lives_on : (w : Group) (i : ℕ) (p : Phase) (telling : Telling) (store : Kept) (a b : ColdStart) (step : Step) → GoingOn → f + 1 ≤ how_many who (group_size f) → Bound f e who since w → a.phase ≡ p → a.place.number ≡ i → a.place.config.f ≡ f
        → Lives f e since w.machines.hellos (w.lost i) p → WasSaid w.machines.hellos telling → CameSince w i telling → Follows telling store a step b → Lives f e since w.machines.hellos (w.lost i) b.phase
    lives_on w i (Waiting heard above) telling store a b step goes many bound was number group live said late h = waits_on w i a b step heard above many bound telling store was number group live said late h
    lives_on w i (Above above) telling store a b step goes many bound was number group live said late h = goes_from w i (Above above) a b was live (goes telling store a b step h)
    lives_on w i (Entering own heard) telling store a b step goes many bound was number group live said late h = goes_from w i (Entering own heard) a b was live (goes telling store a b step h)
    lives_on w i (Entered own heard) telling store a b step goes many bound was number group live said late h = goes_from w i (Entered own heard) a b was live (goes telling store a b step h)
    lives_on w i (Beginning own) telling store a b step goes many bound was number group live said late h = goes_from w i (Beginning own) a b was live (goes telling store a b step h)
    lives_on w i (TakingPart own) telling store a b step goes many bound was number group live said late h = goes_from w i (TakingPart own) a b was live (goes telling store a b step h)
    lives_on w i (Recovering own r) telling store a b step goes many bound was number group live said late h = goes_from w i (Recovering own r) a b was live (goes telling store a b step h)

    -- ---- any event

    -- one machine changes
    put_bound : (w : Group) (i : ℕ) (m : Machine) → Bound f e who since w → (who i ≡ true → Stored e since (w.lost i) m.store) → (who i ≡ true → (a : ColdStart) → m.runs ≡ Some a → Lives f e since w.machines.hellos (w.lost i) a.phase)
        → Bound f e who since (record w { machines = record { at = put w.machines.at i m; hellos = w.machines.hellos } })
    put_bound w i m b store process = record {
      store = λ j is. put_cases w.machines.at i m j (λ (x : Machine). Stored e since (w.lost j) x.store) (λ same. subst (λ k. Stored e since (w.lost k) m.store) (sym same) (store (subst (λ k. who k ≡ true) same is))) (λ other. b.store j is);
      process = λ j is. put_cases w.machines.at i m j (λ (x : Machine). (a : ColdStart) → x.runs ≡ Some a → Lives f e since w.machines.hellos (w.lost j) a.phase)
          (λ same. subst (λ k. (a : ColdStart) → m.runs ≡ Some a → Lives f e since w.machines.hellos (w.lost k) a.phase) (sym same) (process (subst (λ k. who k ≡ true) same is))) (λ other. b.process j is);
      hellos = b.hellos;
      short = b.short;
      said = b.said;
    }

    runs_so : (w : Group) (i : ℕ) (b : ColdStart) → Lives f e since w.machines.hellos (w.lost i) b.phase → (a : ColdStart) → Some b ≡ Some a → Lives f e since w.machines.hellos (w.lost i) a.phase
    runs_so w i b live a runs = subst (λ (x : ColdStart). Lives f e since w.machines.hellos (w.lost i) x.phase) (same_Some b a runs) live

    written : (w : Group) (i : ℕ) (store : Kept) (r : Option ColdStart) → Stored e since (w.lost i) store → ((a : ColdStart) → r ≡ Some a → Lives f e since w.machines.hellos (w.lost i) a.phase) → Stored e since (w.lost i) (to_write store r)
    written w i store None h live = h
    written w i store (Some a) h live = lives_stored w.machines.hellos (w.lost i) a.phase (live a refl)

    bound_moved : (w : Group) (m : Move) → GoingOn → f + 1 ≤ how_many who (group_size f) → StandsSo f w → Bound f e who since w → May f w.machines m → HellosHold w m → Bound f e who since (record w { machines = after_move f w.machines m })
    bound_moved w (Starts i place image count from becomes) goes many s b may holds =
        put_bound w i (record { store = (w.machines.at i).store; runs = Some becomes }) b (b.store i)
        (λ is. runs_so w i becomes (subst (λ p. Lives f e since w.machines.hellos (w.lost i) p) (sym may.4.2) (starts_lives w.machines.hellos (w.lost i) (first_nonce count) from (w.machines.at i).store (b.store i is))))
    bound_moved w (Takes i telling step becomes) goes many s b may holds =
        let fine : Fine f Anyone i (w.machines.at i).store may.0 = s.each i may.0 may.1 in
        put_bound w i (record { store = (w.machines.at i).store; runs = Some becomes }) b (b.store i)
        (λ is. runs_so w i becomes (lives_on w i (may.0).phase telling (w.machines.at i).store may.0 becomes step goes many b refl fine.number fine.group (b.process i is may.0 may.1) may.2 holds.0 may.3))
    bound_moved w (Greets i epoch) goes many s b may holds = record {
      store = b.store;
      process = λ j is a runs. more_lives w.machines.hellos ((i, epoch) ∷ []) (w.lost j) a.phase (b.process j is a runs);
      hellos = behind (λ n (x : ℕ × Epoch). since ≤ n → who x.0 ≡ true → IsNoEarlier x.1 e) w.machines.hellos (i, epoch) b.hellos (λ late is. greets_from w.machines.hellos (w.lost i) (may.0).phase epoch may.2 (b.process i is may.0 may.1));
      short = omega (arith, b.short, no_shorter w.machines.hellos ((i, epoch) ∷ []));
      said = (b.said.0, b.said.1, still_there w.machines.hellos ((i, epoch) ∷ []) b.said.0 (b.said.1, e) b.said.2);
    }
    bound_moved w (Writes i) goes many s b may holds =
        put_bound w i (record { store = to_write (w.machines.at i).store (w.machines.at i).runs; runs = (w.machines.at i).runs }) b
        (λ is. written w i (w.machines.at i).store (w.machines.at i).runs (b.store i is) (b.process i is)) (b.process i)
    bound_moved w (Stops i) goes many s b may holds =
        put_bound w i (record { store = (w.machines.at i).store; runs = None }) b (b.store i) (λ is a runs. absurd (false≢true (ap is_some runs)))
    bound_moved w (GoesByHand i image has) goes many s b may holds =
        put_bound w i (record { store = has; runs = None }) b (λ is. hand_stored e since (w.lost i) (w.machines.at i).store has image may.1 (b.store i is)) (λ is a runs. absurd (false≢true (ap is_some runs)))

    pub bound_on : (w : Group) (v : Event) → GoingOn → f + 1 ≤ how_many who (group_size f) → StandsSo f w → Bound f e who since w → MayBe f w v → Bound f e who since (after_event f w v)
    bound_on w (Moves m) goes many s b may = bound_moved w m goes many s b may.0 may.1
    bound_on w (LosesDisk i) goes many s b may =
        let empty : Machine = record { store = keeps.Nothing; runs = None } in
        let count : ℕ = length w.machines.hellos in
        record {
          store = λ j is. put_both w.machines.at w.lost i empty count j (λ (m : Machine) (l : ℕ). Stored e since l m.store) (λ same. b.short) (λ other. b.store j is);
          process = λ j is. put_both w.machines.at w.lost i empty count j (λ (m : Machine) (l : ℕ). (a : ColdStart) → m.runs ≡ Some a → Lives f e since w.machines.hellos l a.phase)
              (λ same a runs. absurd (false≢true (ap is_some runs))) (λ other. b.process j is);
          hellos = b.hellos;
          short = b.short;
          said = b.said;
        }
    bound_on w (GoesTo i named) goes many s b may =
        put_bound w i (record { store = keeps.Entered named; runs = None }) b (λ is. named_stored w.machines.hellos e named since (w.lost i) (w.machines.at i).store may.1 b.said (b.store i is)) (λ is a runs. absurd (false≢true (ap is_some runs)))
