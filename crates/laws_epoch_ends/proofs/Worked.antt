-- The worked moves, computed by the definitions.
use Rattle.std.proofs.Common.{◌≤◌, ℕ, List, [], ◌++◌, take, arith, refl}
use Rattle.plc_epochs.specs.Epochs.{nothing_told}
use Rattle.plc_epochs.specs.declared.word.Word.TheVariants.{Freeze, Frozen, Confirm, StillFrozen}
use Rattle.plc_epochs.specs.declared.cold_start.ColdStart.{ColdStart}
use Rattle.plc_epochs.specs.declared.cold_start.Phase.TheVariants.{Entering, Entered, Beginning, Recovering}
use Rattle.plc_epochs.specs.declared.cold_start.Step.TheVariants as steps
use Rattle.laws_epochs.specs.Machines.{Move, AreMoves, at_rest}
use Rattle.laws_epoch_ends.specs.TrueMoves.{AllWereSaid, AllCountOn}
use Rattle.laws_epoch_ends.specs.WorkedEpochs
use Rattle.laws_epoch_ends.specs.WorkedEpochs.{WorkedEpochs as Holds, epoch, in_epoch_1}

module _ (low : 1 ≤ 1) (high : 1 ≤ 3) where
  abbrev all : List Move
  all = WorkedEpochs.both_freeze low high ++ (WorkedEpochs.one_leaves low high ++ WorkedEpochs.one_begins low high)

  abbrev up : ℕ → ColdStart
  up i = WorkedEpochs.recovers low high i

  abbrev heard : ColdStart
  heard = WorkedEpochs.machine low high 0 (Recovering (epoch 1) (WorkedEpochs.from_the_start low high)) (WorkedEpochs.heard low high)

  abbrev asks : ColdStart
  asks = WorkedEpochs.machine low high 0 (Recovering (epoch 1) (WorkedEpochs.asks low high)) (WorkedEpochs.heard low high)

  abbrev freezes : ColdStart
  freezes = WorkedEpochs.machine low high 1 (Recovering (epoch 1) (WorkedEpochs.freezes low high)) nothing_told

  abbrev asks_again : ColdStart
  asks_again = WorkedEpochs.machine low high 0 (Recovering (epoch 1) (WorkedEpochs.asks_again low high)) (WorkedEpochs.heard low high)

  abbrev enters : ColdStart
  enters = WorkedEpochs.machine low high 0 (Entering (epoch 2) nothing_told) nothing_told

  abbrev entered : ℕ → ColdStart
  entered i = WorkedEpochs.machine low high i (Entered (epoch 2) nothing_told) nothing_told

  abbrev follows : ColdStart
  follows = WorkedEpochs.machine low high 1 (Entering (epoch 2) (WorkedEpochs.greeted low high)) nothing_told

  abbrev followed : ColdStart
  followed = WorkedEpochs.machine low high 1 (Entered (epoch 2) (WorkedEpochs.greeted low high)) nothing_told

  abbrev begins : ColdStart
  begins = WorkedEpochs.machine low high 1 (Beginning (epoch 2)) nothing_told

  pub cut_may : AreMoves 1 (at_rest in_epoch_1) all
  cut_may = ((omega arith, refl, refl, refl, (refl, refl, refl, refl, refl)), ((omega arith, refl, refl, refl, (refl, refl, refl, refl, refl)), ((up 0, refl, tt, (refl, refl)), ((heard, refl, tt, (refl, refl)), ((up 1, refl, tt, (refl, refl)), ((asks, refl, tt, (refl, refl)), ((freezes, refl, tt, (refl, refl)), ((asks_again, refl, tt, (refl, refl)), (tt, ((enters, refl, tt, (refl, refl)), ((entered 0, refl, refl), ((freezes, refl, refl, (refl, refl)), (tt, ((follows, refl, tt, (refl, refl)), ((followed, refl, tt, (refl, refl)), (tt, ((begins, refl, tt, (refl, refl)), tt)))))))))))))))))

  pub cut_said : AllWereSaid 1 in_epoch_1 [] all
  cut_said = (
    tt,
    (
      tt,
      (
        tt,
        (
          tt,
          (
            tt,
            (
              record {
                early = take 4 (WorkedEpochs.both_freeze low high);
                late = [];
                asked_in = epoch 1;
                question = Freeze (WorkedEpochs.nonce low high);
                now = 1100;
                step = steps.Freezes (Frozen (WorkedEpochs.answer low high));
                becomes = freezes;
                is = refl;
                answers = refl;
                part = refl;
              },
              (
                record {
                  early = WorkedEpochs.both_freeze low high;
                  late = [];
                  is = refl;
                  asks = record { value = asks_again; runs = refl; part = refl; question_is = refl };
                },
                (
                  record {
                    early = WorkedEpochs.both_freeze low high;
                    late = [];
                    asked_in = epoch 1;
                    question = Confirm (WorkedEpochs.nonce low high) (WorkedEpochs.frozen_so_far low high);
                    now = 1300;
                    step = steps.Confirms (StillFrozen (WorkedEpochs.answer low high));
                    becomes = freezes;
                    is = refl;
                    answers = refl;
                    part = refl;
                  },
                  (tt, (tt, (tt, (tt, (tt, (tt, (tt, (tt, (tt, tt))))))))),
                ),
              ),
            ),
          ),
        ),
      ),
    ),
  )

  pub cut_count : AllCountOn (λ i. 0) all
  cut_count = (omega arith, (omega arith, (tt, (tt, (tt, (tt, (tt, (tt, (tt, (tt, (tt, (tt, (tt, (tt, (tt, (tt, (tt, tt)))))))))))))))))

  hand_may : AreMoves 1 (at_rest in_epoch_1) (WorkedEpochs.by_hand low high)
  hand_may = ((refl, refl), ((refl, refl), ((omega arith, refl, refl, refl, (refl, refl, refl, refl, refl)), ((omega arith, refl, refl, refl, (refl, refl, refl, refl, refl)), ((entered 0, refl, refl), ((entered 1, refl, refl, (refl, refl)), ((followed, refl, tt, (refl, refl)), (tt, ((begins, refl, tt, (refl, refl)), (tt, ((omega arith, refl, refl, refl, (refl, refl, refl, refl, refl)), tt)))))))))))

  hand_said : AllWereSaid 1 in_epoch_1 [] (WorkedEpochs.by_hand low high)
  hand_said = (tt, (tt, (tt, (tt, (tt, (tt, (tt, (tt, (tt, (tt, (tt, tt)))))))))))

  hand_count : AllCountOn (λ i. 0) (WorkedEpochs.by_hand low high)
  hand_count = (tt, (tt, (omega arith, (omega arith, (tt, (tt, (tt, (tt, (tt, (tt, (omega arith, tt)))))))))))

  pub worked : Holds low high
  worked = record {
    cut = record { may = cut_may; said = cut_said; count = cut_count };
    asking_freezes = record {
      recovery = WorkedEpochs.asks_again low high;
      recovers = record { value = asks_again; runs = refl; phase = refl };
      nonce_is = refl;
      frozen = refl;
    };
    asked_freezes = record {
      recovery = WorkedEpochs.freezes low high;
      recovers = record { value = freezes; runs = refl; phase = refl };
      nonce_is = refl;
      frozen = refl;
    };
    begun = refl;
    hand = record { may = hand_may; said = hand_said; count = hand_count };
    hand_begun = refl;
  }
