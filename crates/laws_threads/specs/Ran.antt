-- What replicas and clients did, as it was; and that it comes to one run.
use Rattle.std.specs.Prelude.{◌≡◌, ℕ, ◌<◌, ◌≤◌, List, [], ◌++◌, Some, slice_get}
use Rattle.vr_model.specs.declared.message.Message as code
use Rattle.vr_model.specs.Groups.{group_size}
use Rattle.vr_model.specs.Membership.{Group}
use Rattle.vr_model.specs.Steps.{first_client}
use Rattle.laws_clients.specs.ClientHistory.{IsHistoryOf}
use Rattle.laws_threads.specs.CodeMoves.{CodeMove, AreOneRun, all_handed, clients_in}
use Rattle.laws_threads.specs.OwnMoves.{OwnMove, AllTakeHanded, own_moves, own_steps}
use Rattle.laws_threads.specs.SilentMoves.{IsWithoutSilent}
use Rattle.laws_threads.specs.ClientStarts.{AreStepsOverStarts, asked}

-- In this order each message that was taken was handed out before, to its taker, and each client kept to its rule over
-- all its starts. Without some moves that handed nothing out, as those of a start that failed, each replica's list is
-- right by itself, in this sense.
pub record HaveRan {S : Type 0} (IsRight : ℕ → List (OwnMove S) → Type 0) (g : Group) (early late : List (CodeMove S))
    : Type 0 where
  pub kept_early : List (CodeMove S)
  pub kept_late : List (CodeMove S)
  pub without_early : IsWithoutSilent early kept_early
  pub without_late : IsWithoutSilent late kept_late
  pub replicas : (i : ℕ) → i < group_size g.f → IsRight i (own_moves i (kept_early ++ kept_late))
  pub no_others : (i : ℕ) → group_size g.f ≤ i → own_moves i (kept_early ++ kept_late) ≡ []
  pub clients : (c : ℕ) → AreStepsOverStarts g.f c g.answer first_client (own_steps c (early ++ late))
  pub taken : AllTakeHanded g [] (early ++ late)

-- There is one run of the group in which replicas do the same, but for moves that handed nothing out; in which clients
-- submit and hear the same, and what they did is one history; and in which whatever was handed out is.
pub record RanAsOne {S : Type 0} (g : Group) (early late : List (CodeMove S)) : Type 0 where
  pub first : List (CodeMove S)
  pub second : List (CodeMove S)
  pub one : AreOneRun g first second
  pub kept : List (CodeMove S)
  pub without : IsWithoutSilent early kept
  pub replicas : (i : ℕ) → own_moves i first ≡ own_moves i kept
  pub history : IsHistoryOf g.answer (clients_in first)
  pub asks : asked (clients_in first) ≡ asked (clients_in early)
  pub handed : (a : code.Message) → ((n : ℕ) × (slice_get (all_handed early) n ≡ Some a))
      → (n : ℕ) × (slice_get (all_handed first) n ≡ Some a)
