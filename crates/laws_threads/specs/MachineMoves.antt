-- A machine's own list: the starts of its processes, one after another, and the steps of its replica behind each, the
-- last of which may be one within which the process was killed.
use Rattle.std.specs.Prelude.{◌≡◌, ℕ, ◌<◌, ◌≤◌, ◌==◌, Bool, false, List, [], ◌∷◌, Option, Some, None}
use Rattle.vr_model.specs.declared.event.Stored.{Stored}
use Rattle.vr_model.specs.Groups.{group_size}
use Rattle.vr_model.specs.Membership.{Group, member}
use Rattle.vr_model.specs.Steps.{AreClientSteps, first_client}
use Rattle.vr_model.specs.Stores.{only}
use Rattle.vr_threads.specs.declared.file_store.Held.{Held}
use Rattle.vr_threads.specs.Keeping.{IsOneOf}
use Rattle.vr_serving.specs.Serving.{StepsTo}
use Rattle.vr_threads.specs.Working.{HasStarted}
use Rattle.vr_replica.specs.declared.state.Replica.{Replica}
use Rattle.laws_threads.specs.CodeMoves.{CodeMove, Seat, runs, killed, KilledWithin}
use Rattle.laws_threads.specs.OwnMoves.{OwnMove, Started, Stepped, Died, MayTake, AllTakeHanded, own_moves, own_steps}

-- a start is the first just where that was judged
abbrev pub CountsAsJudged : {S : Type 0} → (S → Option Stored → S → Type 0) → (S → Bool) → Type 0
CountsAsJudged {S} begin_gives is_first =
    (s t : S) (stored : Stored) → begin_gives s (Some stored) t → (stored.starts == 1) ≡ is_first s

-- more starts are counted than were before, if any are
abbrev pub Rises : ℕ → Option ℕ → Type 0
Rises counted None = Unit {0}
Rises counted (Some starts) = counted < starts

abbrev pub counted_with : ℕ → Option ℕ → ℕ
counted_with counted None = counted
counted_with counted (Some starts) = starts

-- whatever the file of a store holds counts so many starts at least
abbrev pub HoldsAtLeast : Held → ℕ → Type 0
HoldsAtLeast h counted = (v : Stored) → IsOneOf h v → counted ≤ v.starts

-- or just so many
abbrev pub HoldsJust : Held → ℕ → Type 0
HoldsJust h counted = (v : Stored) → IsOneOf h v → v.starts ≡ counted

-- the stores of one kind, of which is known whether their next start was judged to be the first, and the group
module _ {S : Type 0} (load_gives : S → Option Stored → S → Type 0) (save_gives : S → ℕ → Bool → S → Type 0)
    (faults : S → ℕ) (begin_gives : S → Option Stored → S → Type 0) (holds : S → (ℕ → Bool) → Type 0)
    (is_first : S → Bool) (g : Group) where
  -- the first start of a machine finds a store that holds no view but 0; each later one was judged to be no first one,
  -- and finds a store that holds what the one before was left with
  abbrev pub IsMachineStart : Option (Seat S) → S → Type 0
  IsMachineStart None found = holds found (only 0)
  IsMachineStart (Some seat) found =
      ((k : ℕ → Bool) → holds seat.store k → holds found k) × (is_first found ≡ false)

  -- such a start is also one of a store that was judged so, and holds what was left
  pub record MachineStartsAsLeft (i : ℕ) (seat : Option (Seat S)) (left : S) (q : Replica) (nonce starts : Option ℕ)
      : Type 0 where
    pub knowing : S
    pub start : HasStarted begin_gives (member g i) knowing left q nonce starts
    pub next : IsMachineStart seat knowing

  -- the list of the machine of replica i is right by itself, where so many starts were counted before
  abbrev pub AreMachineMoves : ℕ → Option (Seat S) → ℕ → List (OwnMove S) → Type 0
  AreMachineMoves i seat counted [] = Unit {0}
  AreMachineMoves i seat counted (Started q found left nonce starts ∷ ms) =
      HasStarted begin_gives (member g i) found left q nonce starts × MachineStartsAsLeft i seat left q nonce starts
      × Rises counted starts
      × AreMachineMoves i (Some (runs q left nonce)) (counted_with counted starts) ms
  AreMachineMoves i seat counted (Stepped e r left result ∷ ms) =
      (q : Replica) × (s : S) × (waits : Option ℕ) × (seat ≡ Some (runs q s waits))
      × StepsTo load_gives save_gives faults q s e r left result × MayTake waits e
      × AreMachineMoves i (Some (runs r left None)) counted ms
  AreMachineMoves i seat counted (Died e left ∷ ms) =
      (q : Replica) × (s : S) × (waits : Option ℕ) × (seat ≡ Some (runs q s waits))
      × KilledWithin load_gives save_gives faults holds q s e left × MayTake waits e
      × AreMachineMoves i (Some (killed left)) counted ms

  -- each machine's list is right by itself, from before its first start, and so is each client's; and the moves are
  -- these in one order
  pub record MachinesInOneOrder (ms : List (CodeMove S)) : Type 0 where
    pub machines : (i : ℕ) → i < group_size g.f → AreMachineMoves i None 0 (own_moves i ms)
    pub no_others : (i : ℕ) → group_size g.f ≤ i → own_moves i ms ≡ []
    pub clients : (c : ℕ) → AreClientSteps g.f c g.answer first_client (own_steps c ms)
    pub taken : AllTakeHanded g [] ms
