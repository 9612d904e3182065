-- That replicas go with their machines in the worked acts, by a test that computes.
use Rattle.std.proofs.Common.{◌≡◌, ℕ, zero, suc, ◌<◌, ◌≤◌, Bool, true, false, not, ◌&&◌, ◌||◌, eqb, List, [], ◌∷◌, ◌++◌, Option, Some, None, refl, sym, ap, ◌∙◌, subst, inl, inr, is_some, arith, append_assoc, append-nil}
use Rattle.std.proofs.lemmas.Bool.{false≢true, and_parts, eqb-true}
use Rattle.std.specs.Cmp.{IsTotalOrder}
use Rattle.std.specs.Cmp.Lexicographic.{slice_cmp, on_texts}
use Rattle.std.specs.Ordering.{is_gt, nat_cmp, on, ordering_reverse, ordering_then}
use Rattle.std.specs.declared.cmp.Ordering.{Ordering}
use Rattle.std.specs.declared.cmp.Ordering.TheVariants.{Less, Equal, Greater}
use Rattle.vr_model.specs.Replicas.{Status, is_down, takes_part, ReplicaState}
use Rattle.vr_model.specs.World.{Event, Deliver, Done}
use Rattle.laws_cold_start.specs.ColdStarts.{IsOutUnder}
use Rattle.net_hello.specs.declared.hello.Epoch.{Epoch}
use Rattle.plc_epochs.specs.Epochs.{is_later, is_later_by}
use Rattle.plc_epochs.specs.declared.kept.Kept.{Kept}
use Rattle.plc_epochs.specs.declared.kept.Kept.TheVariants as keeps
use Rattle.plc_epochs.specs.declared.cold_start.ColdStart.{ColdStart}
use Rattle.plc_epochs.specs.declared.cold_start.Phase.{Phase}
use Rattle.plc_epochs.specs.declared.cold_start.Phase.TheVariants.{Recovering}
use Rattle.laws_epochs.specs.Machines.{Machine}
use Rattle.laws_epochs.specs.Beginnings.{IsNoEarlier}
use Rattle.laws_epoch_ends.specs.TrueMoves.{AreTrueMoves}
use Rattle.laws_epoch_ends.specs.Freezing.{IsFrozen}
use Rattle.laws_epoch_ends.specs.Acts.{Act, Moves, Happens, HasLeft, GoesWith, machine_then, run_then, moves_in}
use Rattle.laws_epoch_ends.specs.WorkedEpochs.{epoch, in_epoch_1}
use Rattle.laws_epoch_ends.specs.WorkedActs.{WorkedActs, acts, same_nonce}
use Rattle.laws_epoch_ends.proofs.Lists.{first_of, is_full, tail_of}
use Rattle.laws_epoch_ends.proofs.Worked.{cut_may, cut_said, cut_count}

-- ---- no epoch is later than one that is no earlier than it

abbrev key : Epoch → List ℕ
key e = e.number ∷ e.image

abbrev compared : Epoch → Epoch → Ordering
compared a b = slice_cmp nat_cmp (key a) (key b)

by_key : (o : Ordering) (x y : List ℕ) → is_later_by o x y ≡ is_gt (ordering_then o (slice_cmp nat_cmp x y))
by_key Less x y = refl
by_key Equal x y = refl
by_key Greater x y = refl

greater : (r : Ordering) → is_gt r ≡ true → r ≡ Greater
greater Less h = absurd (false≢true h)
greater Equal h = absurd (false≢true h)
greater Greater h = refl

ordered : IsTotalOrder (on key (slice_cmp nat_cmp))
ordered = on_texts key

below : (a b : Epoch) → is_later a b ≡ true → compared b a ≡ Less
below a b h =
    let g : compared a b ≡ Greater = greater (compared a b) (sym (by_key (nat_cmp a.number b.number) a.image b.image) ∙ h) in
    ordered.antisymm b a ∙ ap ordering_reverse g

later_chain : (a b c : Epoch) → is_later a b ≡ true → is_later b c ≡ true → is_later a c ≡ true
later_chain a b c h g =
    let l : compared c a ≡ Less = ordered.trans c b a (below b c g) (below a b h) in
    by_key (nat_cmp a.number c.number) a.image c.image ∙ ap is_gt (ordered.antisymm a c ∙ ap ordering_reverse l)

later_own : (own later e : Epoch) → IsNoEarlier own later → is_later later e ≡ true → is_later own e ≡ true
later_own own later e (inl same) h = subst (λ x. is_later x e ≡ true) (sym same) h
later_own own later e (inr l) h = later_chain own later e l h

-- ---- the test

abbrev implies : Bool → Bool → Bool
implies a b = not a || b

modus : (a b : Bool) → implies a b ≡ true → a ≡ true → b ≡ true
modus true b h k = h
modus false b h k = absurd (false≢true k)

abbrev left_test : Epoch → Kept → Bool → Bool
left_test e keeps.Nothing down = true
left_test e (keeps.Above above) down = true
left_test e (keeps.Entered own) down = implies (is_later own e) down
left_test e (keeps.Begun own) down = implies (is_later own e) down

left_by : (e : Epoch) (store : Kept) (down : Bool) → left_test e store down ≡ true → HasLeft e store → down ≡ true
left_by e keeps.Nothing down h left = absurd left.2
left_by e (keeps.Above above) down h left = absurd left.2
left_by e (keeps.Entered own) down h left = modus (is_later own e) down h (later_own own left.0 e left.2 left.1)
left_by e (keeps.Begun own) down h left = modus (is_later own e) down h (later_own own left.0 e left.2 left.1)

abbrev out_test : Status → ℕ → ℕ → Bool
out_test status nonce own = not (takes_part status) && eqb nonce own

abbrev frozen_test : Phase → Status → ℕ → Bool
frozen_test (Recovering own r) status nonce = implies (is_some r.frozen) (out_test status nonce r.nonce)
frozen_test phase status nonce = true

abbrev runs_test : Option ColdStart → Status → ℕ → Bool
runs_test None status nonce = true
runs_test (Some a) status nonce = frozen_test a.phase status nonce

taken_out : (b : Bool) → not b ≡ true → b ≡ false
taken_out true h = absurd (false≢true h)
taken_out false h = refl

frozen_by : {C : Type 0} (m : Machine) (e : Epoch) (nonce : ℕ) (r : ReplicaState C) → runs_test m.runs r.status r.nonce ≡ true → IsFrozen m e nonce → IsOutUnder r nonce
frozen_by m e nonce r h k =
    let at_runs = subst (λ x. runs_test x r.status r.nonce ≡ true) k.recovers.runs h in
    let at_phase = subst (λ x. frozen_test x r.status r.nonce ≡ true) k.recovers.phase at_runs in
    let out = modus (is_some k.recovery.frozen) (out_test r.status r.nonce k.recovery.nonce) at_phase k.frozen in
    let parts = and_parts (not (takes_part r.status)) (eqb r.nonce k.recovery.nonce) out in
    (taken_out (takes_part r.status) parts.0, eqb-true r.nonce k.recovery.nonce parts.1 ∙ k.nonce_is)

module _ {C A : Type 0} (answer : List C → A) where
  abbrev goes_test : Machine → ReplicaState C → Bool
  goes_test m r = runs_test m.runs r.status r.nonce && left_test (epoch 1) m.store (is_down r.status)

  abbrev moment_test : List (Act C) → ℕ → Bool
  moment_test early i = goes_test (machine_then 1 answer in_epoch_1 same_nonce (epoch 1) early i) ((run_then 1 answer in_epoch_1 same_nonce (epoch 1) early).replicas i)

  abbrev three_test : List (Act C) → Bool
  three_test early = moment_test early 0 && (moment_test early 1 && moment_test early 2)

  abbrev all_test : List (Act C) → List (Act C) → Bool
  all_test early [] = three_test early
  all_test early (x ∷ xs) = three_test early && all_test (early ++ x ∷ []) xs

  at_each : (early rest mid late : List (Act C)) → all_test early rest ≡ true → rest ≡ mid ++ late → three_test (early ++ mid) ≡ true
  at_each early rest [] late h is = subst (λ xs. three_test xs ≡ true) (sym (append-nil early)) (first rest h)
    where
      first : (rest : List (Act C)) → all_test early rest ≡ true → three_test early ≡ true
      first [] h = h
      first (x ∷ xs) h = (and_parts (three_test early) (all_test (early ++ x ∷ []) xs) h).0
  at_each early [] (y ∷ mid) late h is = absurd (false≢true (ap is_full is))
  at_each early (x ∷ xs) (y ∷ mid) late h is =
      let same : x ≡ y = ap (first_of x) is in
      let rest : xs ≡ mid ++ late = ap tail_of is in
      let on = at_each (early ++ x ∷ []) xs mid late (and_parts (three_test early) (all_test (early ++ x ∷ []) xs) h).1 rest in
      subst (λ z. three_test (early ++ z ∷ mid) ≡ true) same (subst (λ ys. three_test ys ≡ true) (append_assoc early (x ∷ []) mid) on)

  by_test : (early : List (Act C)) (i : ℕ) → moment_test early i ≡ true
      → GoesWith 1 answer in_epoch_1 same_nonce (epoch 1) i (machine_then 1 answer in_epoch_1 same_nonce (epoch 1) early i) ((run_then 1 answer in_epoch_1 same_nonce (epoch 1) early).replicas i)
  by_test early i h =
      let m : Machine = machine_then 1 answer in_epoch_1 same_nonce (epoch 1) early i in
      let r : ReplicaState C = (run_then 1 answer in_epoch_1 same_nonce (epoch 1) early).replicas i in
      let parts = and_parts (runs_test m.runs r.status r.nonce) (left_test (epoch 1) m.store (is_down r.status)) h in
      record { frozen = λ nonce k. frozen_by m (epoch 1) nonce r parts.0 k; left = λ left. left_by (epoch 1) m.store (is_down r.status) parts.1 left }

  third : (early : List (Act C)) (i : ℕ) → i < 3 → three_test early ≡ true → moment_test early i ≡ true
  third early zero l h = (and_parts (moment_test early 0) (moment_test early 1 && moment_test early 2) h).0
  third early (suc zero) l h = (and_parts (moment_test early 1) (moment_test early 2) (and_parts (moment_test early 0) (moment_test early 1 && moment_test early 2) h).1).0
  third early (suc (suc zero)) l h = (and_parts (moment_test early 1) (moment_test early 2) (and_parts (moment_test early 0) (moment_test early 1 && moment_test early 2) h).1).1
  third early (suc (suc (suc n))) l h = absurd (omega arith)

  -- nothing is delivered
  abbrev is_delivery : Event C → Bool
  is_delivery (Deliver n) = true
  is_delivery event = false

  abbrev quiet : Act C → Bool
  quiet (Moves m) = true
  quiet (Happens e event c) = not (is_delivery event)

  abbrev all_quiet : List (Act C) → Bool
  all_quiet [] = true
  all_quiet (x ∷ xs) = quiet x && all_quiet xs

  quiet_at : (xs early late : List (Act C)) (x : Act C) → all_quiet xs ≡ true → xs ≡ early ++ x ∷ late → quiet x ≡ true
  quiet_at [] [] late x h is = absurd (false≢true (ap is_full is))
  quiet_at [] (y ∷ early) late x h is = absurd (false≢true (ap is_full is))
  quiet_at (z ∷ zs) [] late x h is = subst (λ y. quiet y ≡ true) (ap (first_of z) is) (and_parts (quiet z) (all_quiet zs) h).0
  quiet_at (z ∷ zs) (y ∷ early) late x h is = quiet_at zs early late x (and_parts (quiet z) (all_quiet zs) h).1 (ap tail_of is)

  module _ (low : 1 ≤ 1) (high : 1 ≤ 3) where
    machines : AreTrueMoves 1 in_epoch_1 (moves_in (acts {C = C} low high))
    machines = record { may = cut_may low high; said = cut_said low high; count = cut_count low high }

    pub worked_acts : WorkedActs {C = C} low high {A = A} answer
    worked_acts = record {
      hosted = record {
        machines = machines;
        one_each = λ i nonce other same. same;
        go = λ early late i is l. by_test early i (third early i l (at_each [] (acts {C = C} low high) early late refl is));
        answers = λ early late event i replied is l hands.
            let silent : not (is_delivery event) ≡ true = quiet_at (acts {C = C} low high) early late (Happens (epoch 1) event Done) refl is in
            absurd (false≢true (subst (λ d. not (is_delivery d) ≡ true) hands.event_is silent));
      };
    }
