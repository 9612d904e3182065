-- What a replica does behind one start of its thread, until that is served no more or its process is killed.
use Rattle.std.specs.Prelude.{◌≡◌, ℕ, Bool, List, [], ◌∷◌, ◌++◌, Option, Some, None}
use Rattle.vr_model.specs.declared.event.Event.{Event}
use Rattle.vr_model.specs.declared.event.Event.TheVariants.{Restart}
use Rattle.vr_model.specs.declared.event.Stored.{Stored}
use Rattle.vr_model.specs.declared.message.Message.{Message}
use Rattle.vr_model.specs.Logs.{IsPrefix}
use Rattle.vr_replica.specs.declared.state.Replica.{Replica}
use Rattle.vr_replica.specs.Stepped.{StepResult}
use Rattle.vr_ports.specs.Parties.{Grows}
use Rattle.vr_serving.specs.Serving.{StepsTo}
use Rattle.laws_threads.specs.CodeMoves.{Seat, runs, killed, KilledWithin}
use Rattle.laws_threads.specs.MachineMoves.{counted_with}
use Rattle.laws_threads.specs.OwnMoves.{OwnMove, Started, Stepped, Died, MayTake, seat_after, own_handed}

-- the stores of one kind: how a load and a save leave them, how often they have failed, and what views they may hold
module _ {S : Type 0} (load_gives : S → Option Stored → S → Type 0) (save_gives : S → ℕ → Bool → S → Type 0)
    (faults : S → ℕ) (holds : S → (ℕ → Bool) → Type 0) where
  -- a store that was left within a call holds no view but those that it held before, and those that it would have held
  -- behind it
  abbrev pub HoldsNoMore : S → S → S → Type 0
  HoldsNoMore before behind left = (k : ℕ → Bool) → holds before k → holds behind k → holds left k

  -- From this seat on the replica does these steps; it may be killed within one, and then does nothing more. No start
  -- is among them.
  abbrev pub GoesOn : Seat S → List (OwnMove S) → Type 0
  GoesOn seat [] = Unit {0}
  GoesOn seat (Started q found left number starts ∷ ms) = ⊥
  GoesOn seat (Stepped e r left result ∷ ms) =
      (q : Replica) × (s : S) × (waits : Option ℕ) × (seat ≡ runs q s waits)
      × StepsTo load_gives save_gives faults q s e r left result × MayTake waits e × GoesOn (runs r left None) ms
  GoesOn seat (Died e left ∷ ms) =
      (q : Replica) × (s : S) × (waits : Option ℕ) × (seat ≡ runs q s waits)
      × KilledWithin load_gives save_gives faults holds q s e left × MayTake waits e × GoesOn (killed left) ms

  -- it was served to the end: these steps hand out what its link was handed, and leave this replica and store
  pub record GoesToTheEnd (seat : Seat S) (sent sent_after : Option (List Message)) (end : Replica) (left : S) : Type 0
    where
      pub moves : List (OwnMove S)
      pub right : GoesOn seat moves
      pub ends : seat_after (Some seat) moves ≡ Some (runs end left None)
      pub handed : Grows sent sent_after (own_handed moves)

  -- Its process was killed within the step on this event, whatever store that left: these steps came before, and handed
  -- out no more than it would have in the end.
  pub record GoesUntil (seat : Seat S) (e : Event) (sends : List Message) : Type 0 where
    pub moves : List (OwnMove S)
    pub replica : Replica
    pub store : S
    pub would_leave : S
    pub right : GoesOn seat moves
    pub ends : seat_after (Some seat) moves ≡ Some (runs replica store None)
    pub handed : IsPrefix (own_handed moves) sends
    pub died : (left : S) → HoldsNoMore store would_leave left → GoesOn seat (moves ++ Died e left ∷ [])

  -- From a moment between two turns into the next step: these steps came before, and handed out what its link was handed
  -- by then. Where it's killed within the step, it dies in it, whatever store that leaves; where it's killed behind it,
  -- whatever of it was sent by then, the step is one more.
  pub record GoesInto (seat : Seat S) (sent sent_now : Option (List Message)) (store : S) (e : Event)
      (becomes : Replica) (would_leave : S) (result : StepResult) : Type 0 where
    pub moves : List (OwnMove S)
    pub handed : Grows sent sent_now (own_handed moves)
    pub died : (left : S) → HoldsNoMore store would_leave left → GoesOn seat (moves ++ Died e left ∷ [])
    pub stepped : GoesOn seat (moves ++ Stepped e becomes would_leave result ∷ [])

  -- it was killed within the step by which it comes up
  abbrev pub GoesUntilUp : Seat S → ℕ → S → S → Type 0
  GoesUntilUp seat nonce store would_leave =
      (left : S) → HoldsNoMore store would_leave left → GoesOn seat (Died (Restart nonce) left ∷ [])

-- how many starts a machine's list has counted in the end
abbrev pub counted_after : {S : Type 0} → ℕ → List (OwnMove S) → ℕ
counted_after counted [] = counted
counted_after counted (Started q found left number starts ∷ ms) = counted_after (counted_with counted starts) ms
counted_after counted (Stepped e r left result ∷ ms) = counted_after counted ms
counted_after counted (Died e left ∷ ms) = counted_after counted ms
