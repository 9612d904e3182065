-- A machine that asks, and the moment of its second question: all that it asks then froze before, and who confirms it is
-- still frozen behind it.
use Rattle.std.proofs.Common.{◌≡◌, ◌⊎◌, ℕ, ◌<◌, true, List, [], ◌∷◌, ◌++◌, Option, Some, None, refl, sym, ap, ◌∙◌, subst, inl, inr, is_some, arith, append_assoc, append-nil}
use Rattle.std.proofs.lemmas.Option.{same_Some}
use Rattle.net_hello.specs.declared.hello.Epoch.{Epoch}
use Rattle.plc_epochs.specs.Recovering.{next_nonce}
use Rattle.plc_epochs.specs.declared.kept.Kept.{Kept}
use Rattle.plc_epochs.specs.declared.recovery.Recovery.{Recovery}
use Rattle.plc_epochs.specs.declared.cold_start.ColdStart.{ColdStart}
use Rattle.plc_epochs.specs.declared.cold_start.Phase.TheVariants.{Recovering}
use Rattle.laws_epochs.specs.Machines.{Move, Machine, Machines, after_move, AreMoves, after_moves, at_rest}
use Rattle.laws_epoch_ends.specs.TrueMoves.{AllCountOn, least_after, AllWereSaid, AreTrueMoves, machine_behind}
use Rattle.laws_epoch_ends.specs.Freezing.{IsFrozen}
use Rattle.laws_epoch_ends.proofs.Lists.{Begins}
use Rattle.laws_epoch_ends.proofs.Steps.{no_value, phase_of, recovery_in}
use Rattle.laws_epoch_ends.proofs.Nonces.{Beyond, IsLow, Lasts, beyond_holds, is_second, least_after_moves, low_holds, next_is, over}

-- ---- true moves, in parts

pub joined : (f : ℕ) (early late : List Move) (w : Machines) → after_moves f w (early ++ late) ≡ after_moves f (after_moves f w early) late
joined f [] late w = refl
joined f (m ∷ early) late w = joined f early late (after_move f w m)

pub split_may : (f : ℕ) (early late : List Move) (w : Machines) → AreMoves f w (early ++ late) → (AreMoves f w early) × AreMoves f (after_moves f w early) late
split_may f [] late w h = (tt, h)
split_may f (m ∷ early) late w h = let rest = split_may f early late (after_move f w m) h.1 in ((h.0, rest.0), rest.1)

split_count : (early late : List Move) (least : ℕ → ℕ) → AllCountOn least (early ++ late) → (AllCountOn least early) × AllCountOn (least_after_moves least early) late
split_count [] late least h = (tt, h)
split_count (m ∷ early) late least h = let rest = split_count early late (least_after least m) h.1 in ((h.0, rest.0), rest.1)

least_joined : (early late : List Move) (least : ℕ → ℕ) → least_after_moves least (early ++ late) ≡ least_after_moves (least_after_moves least early) late
least_joined [] late least = refl
least_joined (m ∷ early) late least = least_joined early late (least_after least m)

split_said : (f : ℕ) (stores : ℕ → Kept) (seen early late : List Move) → AllWereSaid f stores seen (early ++ late) → (AllWereSaid f stores seen early) × AllWereSaid f stores (seen ++ early) late
split_said f stores seen [] late h = (tt, subst (λ ms. AllWereSaid f stores ms late) (sym (append-nil seen)) h)
split_said f stores seen (m ∷ early) late h =
    let rest = split_said f stores (seen ++ m ∷ []) early late h.1 in
    ((h.0, rest.0), subst (λ ms. AllWereSaid f stores ms late) (append_assoc seen (m ∷ []) early) rest.1)

pub early_true : (f : ℕ) (stores : ℕ → Kept) (early late : List Move) → AreTrueMoves f stores (early ++ late) → AreTrueMoves f stores early
early_true f stores early late h = record {
  may = (split_may f early late (at_rest stores) h.may).0;
  said = (split_said f stores [] early late h.said).0;
  count = (split_count early late (λ i. 0) h.count).0;
}

-- ---- from a moment on

module _ (f : ℕ) (stores : ℕ → Kept) where
  abbrev at : List Move → ℕ → Machine
  at moves i = machine_behind f stores moves i

  abbrev least : List Move → ℕ → ℕ
  least moves = least_after_moves (λ i. 0) moves

  pub begun_true : (early done : List Move) → Begins early done → AreTrueMoves f stores done → AreTrueMoves f stores early
  begun_true early done b h = early_true f stores early b.late (subst (AreTrueMoves f stores) b.is h)

  low : (done : List Move) (i : ℕ) → AreTrueMoves f stores done → IsLow (least done i) (at done i)
  low done i h = over f IsLow (low_holds f) i done (at_rest stores) (λ j. 0) h.may h.count (λ a e r up rec. no_value None a refl up)

  later : (R : Epoch → Recovery → Type 0) (x : ℕ) → Lasts R x → (early late : List Move) (i : ℕ) → AreTrueMoves f stores (early ++ late) → Beyond R x (least early i) (at early i)
      → Beyond R x (least (early ++ late) i) (at (early ++ late) i)
  later R x lasts early late i h k =
      let right = (split_may f early late (at_rest stores) h.may).1 in
      let on = (split_count early late (λ j. 0) h.count).1 in
      let behind = over f (Beyond R x) (beyond_holds f R x lasts) i late (after_moves f (at_rest stores) early) (least early) right on k in
      subst (λ (l : ℕ → ℕ). Beyond R x (l i) (at (early ++ late) i)) (sym (least_joined early late (λ j. 0)))
      (subst (λ (v : Machines). Beyond R x (least_after_moves (least early) late i) (v.at i)) (sym (joined f early late (at_rest stores))) behind)

  pub from_then_on : (R : Epoch → Recovery → Type 0) (x : ℕ) → Lasts R x → (early done : List Move) (i : ℕ) → Begins early done → AreTrueMoves f stores done → Beyond R x (least early i) (at early i)
      → Beyond R x (least done i) (at done i)
  from_then_on R x lasts early done i b h k =
      subst (λ ms. Beyond R x (least ms i) (at ms i)) (sym b.is) (later R x lasts early b.late i (subst (AreTrueMoves f stores) b.is h) k)

  -- of one that recovers now
  pub beyond_now : (R : Epoch → Recovery → Type 0) (done : List Move) (i : ℕ) (a : ColdStart) (e : Epoch) (r : Recovery) → AreTrueMoves f stores done → (at done i).runs ≡ Some a → recovery_in a.phase ≡ Some (e, r) → R e r
      → Beyond R r.nonce (least done i) (at done i)
  beyond_now R done i a e r h runs rec so = record {
    below = low done i h a e r runs rec;
    on = λ b own s up is.
        let same : a ≡ b = same_Some a b (sym runs ∙ up) in
        let pair : (e, r) ≡ (own, s) = same_Some (e, r) (own, s) (sym rec ∙ (ap (λ (y : ColdStart). recovery_in y.phase) same ∙ is)) in
        inl (subst (λ (y : Epoch × Recovery). R y.0 y.1) pair so);
  }

  -- ---- frozen under one nonce

  abbrev pub Under : Epoch → ℕ → Epoch → Recovery → Type 0
  Under e x own r = (own ≡ e) × (r.nonce ≡ x) × (is_some r.frozen ≡ true)

  next_past : (x : ℕ) (r s : Recovery) → r.nonce ≡ x → next_nonce r.nonce ≡ Some s.nonce → x < s.nonce
  next_past x r s same next = let is = next_is r.nonce s.nonce next in omega (arith, same, is)

  pub under_lasts : (e : Epoch) (x : ℕ) → Lasts (Under e x) x
  under_lasts e x own r s so (inl next) = inr (next_past x r s so.1 next)
  under_lasts e x own r s so (inr stays) = inl (so.0, stays.0 ∙ so.1, stays.1 so.2)

  never_lasts : (x : ℕ) → Lasts (λ e r. ⊥) x
  never_lasts x own r s so go = absurd so

  -- asked a second time under one nonce
  abbrev pub Asked : ℕ → Epoch → Recovery → Type 0
  Asked x own r = (r.nonce ≡ x) × (is_second r.question ≡ true)

  pub asked_lasts : (x : ℕ) → Lasts (Asked x) x
  asked_lasts x own r s so (inl next) = inr (next_past x r s so.0 next)
  asked_lasts x own r s so (inr stays) = inl (stays.0 ∙ so.0, stays.2 so.1)

  pub frozen_beyond : (done : List Move) (i : ℕ) (e : Epoch) (x : ℕ) → AreTrueMoves f stores done → IsFrozen (at done i) e x → Beyond (Under e x) x (least done i) (at done i)
  frozen_beyond done i e x h k =
      let now = beyond_now (Under e x) done i k.recovers.value e k.recovery h k.recovers.runs (ap recovery_in k.recovers.phase) (refl, k.nonce_is, k.frozen) in
      subst (λ n. Beyond (Under e x) n (least done i) (at done i)) k.nonce_is now

  -- it's frozen under this nonce now, or past it for good
  frozen_or_past : (done : List Move) (i : ℕ) (e : Epoch) (x : ℕ) → Beyond (Under e x) x (least done i) (at done i) → IsFrozen (at done i) e x ⊎ Beyond (λ own r. ⊥) x (least done i) (at done i)
  frozen_or_past done i e x k = of_runs (at done i).runs refl
    where
      of_recovery : (a : ColdStart) (o : Option (Epoch × Recovery)) → (at done i).runs ≡ Some a → recovery_in a.phase ≡ o → IsFrozen (at done i) e x ⊎ Beyond (λ own r. ⊥) x (least done i) (at done i)
      of_recovery a None runs rec = inr (record { below = k.below; on = λ b own s up is. no_value None (own, s) refl (sym rec ∙ (ap (λ (y : ColdStart). recovery_in y.phase) (same_Some a b (sym runs ∙ up)) ∙ is)) })
      of_recovery a (Some y) runs rec = elim (k.on a y.0 y.1 runs rec) [
        | inl so ↦ inl (record {
          recovery = y.1;
          recovers = record { value = a; runs = runs; phase = phase_of a.phase y.0 y.1 rec ∙ ap (λ z. Recovering z y.1) so.0 };
          nonce_is = so.1;
          frozen = so.2;
        })
        | inr past ↦ inr (record {
          below = k.below;
          on = λ b own s up is.
              let pair : y ≡ (own, s) = same_Some y (own, s) (sym rec ∙ (ap (λ (z : ColdStart). recovery_in z.phase) (same_Some a b (sym runs ∙ up)) ∙ is)) in
              inr (subst (λ (z : Epoch × Recovery). x < z.1.nonce) pair past);
        })
      ]

      of_runs : (o : Option ColdStart) → (at done i).runs ≡ o → IsFrozen (at done i) e x ⊎ Beyond (λ own r. ⊥) x (least done i) (at done i)
      of_runs None runs = inr (record { below = k.below; on = λ b own s up is. no_value None b refl (sym runs ∙ up) })
      of_runs (Some a) runs = of_recovery a (recovery_in a.phase) runs refl

  -- frozen before and behind under one nonce, it's so in between
  pub in_between : (early moment done : List Move) (i : ℕ) (e own : Epoch) (x : ℕ) → Begins early moment → Begins moment done → AreTrueMoves f stores done → IsFrozen (at early i) e x → IsFrozen (at done i) own x → IsFrozen (at moment i) e x
  in_between early moment done i e own x first second h was is =
      let then_true = begun_true moment done second h in
      let start = frozen_beyond early i e x (begun_true early moment first then_true) was in
      elim (frozen_or_past moment i e x (from_then_on (Under e x) x (under_lasts e x) early moment i first then_true start)) [
        | inl frozen ↦ frozen
        | inr past ↦
            let end = from_then_on (λ a r. ⊥) x (never_lasts x) moment done i second h past in
            elim (end.on is.recovers.value own is.recovery is.recovers.runs (ap recovery_in is.recovers.phase)) [
              | inl never ↦ absurd never
              | inr beyond ↦ absurd (omega (arith, beyond, is.nonce_is))
            ]
      ]
