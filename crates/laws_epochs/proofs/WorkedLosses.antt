-- The worked events, computed by the definitions.
use Rattle.std.proofs.Common.{◌≡◌, ◌≤◌, ℕ, true, List, [], ◌∷◌, ◌++◌, Option, Some, None, arith, take, refl, sym, ap, ◌∙◌, inl, inr, subst}
use Rattle.std.specs.Prelude.{slice_get}
use Rattle.plc_epochs.specs.Epochs.{nothing_told}
use Rattle.plc_epochs.specs.Recovering.{first_nonce, recovering_under}
use Rattle.plc_epochs.specs.declared.cold_start.ColdStart.{ColdStart}
use Rattle.plc_epochs.specs.declared.cold_start.Phase.TheVariants.{Waiting, Entered, Beginning, Recovering}
use Rattle.plc_epochs.specs.declared.cold_start.Step.TheVariants as steps
use Rattle.laws_epochs.specs.LostDisks.{AllStandBy, AreEvents, Group, HasHeard, StandsBy, with_disks}
use Rattle.laws_epochs.specs.WorkedLosses
use Rattle.laws_epochs.specs.WorkedLosses.{WorkedLosses as Holds, epoch, in_epoch_1}
use Rattle.laws_epochs.proofs.Changes.{has_heard, heard_in, heard_more, nothing_heard}
use Rattle.std.proofs.lemmas.Option.{same_Some}

module _ (low : 1 ≤ 1) (high : 1 ≤ 3) where
  abbrev entered : ℕ → ColdStart
  entered i = WorkedLosses.machine low high i (Entered (epoch 2) nothing_told)

  abbrev greeted : ColdStart
  greeted = WorkedLosses.machine low high 1 (Entered (epoch 2) (WorkedLosses.greeted low high))

  abbrev begins : ColdStart
  begins = WorkedLosses.machine low high 1 (Beginning (epoch 2))

  abbrev waits : ColdStart
  waits = WorkedLosses.machine low high 1 (Waiting nothing_told None)

  abbrev waits_for_one : ColdStart
  waits_for_one = WorkedLosses.machine low high 1 (WorkedLosses.waits_for_one_more low high)

  abbrev recovers : ColdStart
  recovers = WorkedLosses.machine low high 2 (Recovering (epoch 1) (recovering_under (first_nonce 1) 2000))

  -- machine 1 has heard none but machine 0
  only_0 : (j came : ℕ) → slice_get (WorkedLosses.greeted low high) j ≡ Some (Some came) → 0 ≡ j
  only_0 j came h = elim (heard_more nothing_told 0 1500 j (ap heard_in h)) [
    | inl is ↦ is
    | inr before ↦ absurd (nothing_heard j before)
  ]

  -- machine 0 stands by its hello
  stands : (w : Group) → (w.machines.at 1).runs ≡ Some greeted → slice_get w.machines.hellos 0 ≡ Some (0, epoch 2) → w.lost 0 ≤ 0 → AllStandBy w 1 (steps.Begins (epoch 2))
  stands w up said since a other runs heard =
      let is : greeted ≡ a = same_Some greeted a (sym up ∙ runs) in
      let there : HasHeard greeted.phase other = subst (λ (x : ColdStart). HasHeard x.phase other) (sym is) heard in
      subst (λ k. StandsBy w k (epoch 2)) (only_0 other there.0 there.1) (record { place = 0; said = said; since = since })

  none : 0 ≤ 0
  none = omega arith

  one_of_two : 1 ≤ 2
  one_of_two = omega arith

  before_it : 1 ≤ 0 → ⊥
  before_it h = absurd (omega (arith, h))

  may : AreEvents 1 (with_disks in_epoch_1) (WorkedLosses.one_is_lost low high ++ (WorkedLosses.others_greet low high ++ WorkedLosses.one_waits low high))
  may = (
    ((refl, refl), tt),
    (
      ((refl, refl), tt),
      (
        ((omega arith, refl, refl, refl, (refl, refl, refl, refl, refl)), tt),
        (
          ((omega arith, refl, refl, refl, (refl, refl, refl, refl, refl)), tt),
          (
            ((entered 0, refl, refl), tt),
            (
              ((entered 1, refl, refl, (refl, refl)), (none, tt)),
              (
                ((greeted, refl, tt, (refl, refl)), (tt, stands (WorkedLosses.behind low high (take 6 (WorkedLosses.one_begins low high))) refl refl none)),
                (
                  (tt, tt),
                  (
                    ((begins, refl, tt, (refl, refl)), (tt, tt)),
                    (
                      tt,
                      (
                        ((omega arith, refl, refl, refl, (refl, refl, refl, refl, refl)), tt),
                        (
                          ((recovers, refl, refl), tt),
                          (
                            ((entered 0, refl, refl), tt),
                            (
                              ((omega arith, refl, refl, refl, (refl, refl, refl, refl, refl)), tt),
                              (
                                ((waits, refl, refl, (refl, refl)), (low, tt)),
                                (((waits_for_one, refl, refl, (refl, refl)), (one_of_two, tt)), ((tt, tt), tt)),
                              ),
                            ),
                          ),
                        ),
                      ),
                    ),
                  ),
                ),
              ),
            ),
          ),
        ),
      ),
    ),
  )

  pub worked : Holds low high
  worked = record { may = may; begun = refl; lost = refl; waits = refl; old = before_it }
