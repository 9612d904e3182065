-- The moves of a group whose machines have a key: what is taken came over a connection with that key.
use Rattle.std.specs.Prelude.{◌≡◌, ℕ, ◌+◌, ◌<◌, ◌≤◌, ◌⊎◌, Bool, List, [], ◌∷◌, ◌++◌, map, Contains, Option, None}
use Rattle.std.specs.List.{AllByRecursion}
use Rattle.io_model.specs.Streams.{Ending}
use Rattle.il_model.specs.declared.command.Command.{Command}
use Rattle.il_model.specs.declared.command.Answer.{Answer}
use Rattle.vr_model.specs.declared.event.Event.{Event}
use Rattle.vr_model.specs.declared.event.Event.TheVariants as event
use Rattle.vr_model.specs.declared.event.Stored.{Stored}
use Rattle.vr_model.specs.declared.message.Message as code
use Rattle.vr_model.specs.declared.message.Party.TheVariants as party
use Rattle.vr_model.specs.Groups.{group_size}
use Rattle.vr_model.specs.Logs.{Request}
use Rattle.vr_model.specs.Membership.{Group}
use Rattle.vr_model.specs.Messages.{Client}
use Rattle.vr_model.specs.StandsFor.{party_of, message_with, AllStand}
use Rattle.vr_model.specs.Steps.{ClientAction, Hears, AreClientSteps, first_client}
use Rattle.vr_core.specs.StandsFor.{IsSavedAs}
use Rattle.vr_serving.specs.Serving.{sends_in}
use Rattle.vr_wire.specs.declared.fault.WireFault.{WireFault}
use Rattle.net_keys.specs.Forging.{FitsSealed, Sealed}
use Rattle.laws_threads.specs.CodeMoves.{CodeMove, Starts, Steps, Dies, Serves}
use Rattle.laws_threads.specs.OwnMoves.{OwnMove, AllTakeHanded, own_moves, own_steps}
use Rattle.laws_threads.specs.MachineMoves.{AreMachineMoves}
use Rattle.laws_threads.specs.SilentMoves.{IsWithoutSilent}
use Rattle.laws_threads.specs.ClientStarts.{AreStepsOverStarts}
use Rattle.laws_keys.specs.Ways.{Way, FitsWay, ForgedCame, HasOpened, HasSealed}

-- the bytes that came over a way, and what was opened of them, each record a body with the sum that came with it
pub record Heard : Type 0 where
  pub way : Way
  pub came : List ℕ
  pub opened : List (List ℕ × List ℕ)

-- What had gone over all connections by each moment, which is the number of moves before it: what whoever has the key
-- of two machines had sealed, by that key; and what had come, and been opened.
pub record Book : Type 0 where
  pub sealed : ℕ → List ℕ → List Sealed
  pub heard : ℕ → List Heard

-- by some moment a record had come, and been opened, that somebody made who hasn't the key
pub record AnyForgedIn (book : Book) : Type 0 where
  pub moment : ℕ
  pub one : Heard
  pub among : Contains (book.heard moment) one
  pub forged : ForgedCame (book.sealed moment one.way.pair) one.way one.came one.opened

-- The message was given over a way by this moment, at whose other end only what was handed out before was put.
pub record CameOver (book : Book) (moment : ℕ) (sent : List code.Message) (m : code.Message) : Type 0 where
  pub one : Heard
  pub heard : Contains (book.heard moment) one
  pub fits : FitsWay one.way
  pub all_fit : AllByRecursion FitsSealed (book.sealed moment one.way.pair)
  pub put : List code.Message
  pub handed : (x : code.Message) → Contains put x → Contains sent x
  pub has_sealed : HasSealed (book.sealed moment one.way.pair) one.way put
  pub given : List code.Message
  pub ending : Ending WireFault
  pub has_opened : HasOpened one.way one.came one.opened given ending
  pub among : Contains given m

-- it did so, or it went within its machine, where it was handed out before
abbrev pub IsBrought : Book → ℕ → List code.Message → code.Message → Type 0
IsBrought book moment sent m = Contains sent m ⊎ CameOver book moment sent m

module _ (g : Group) where
  abbrev pub EventBrought : Book → ℕ → List code.Message → ℕ → Event → Type 0
  EventBrought book moment sent i (event.Message a) = IsBrought book moment sent a × (a.to ≡ party.Replica i)
  EventBrought book moment sent i _ = Unit {0}

  -- what a client hears says this, whatever log is meant
  abbrev pub HearsBrought : Book → ℕ → List code.Message → ℕ → ClientAction Command Answer → Type 0
  HearsBrought book moment sent c (Hears m) = (a : code.Message) × IsBrought book moment sent a
      × (party_of a.to ≡ Client c) × ((l : List (Request Command)) → message_with l a ≡ m)
  HearsBrought book moment sent c _ = Unit {0}

  -- In this order, from this moment on, each message that is taken was brought, to its taker; and what a client hands
  -- out are the requests of its step.
  abbrev pub AllAreBrought : {S : Type 0} → Book → ℕ → List code.Message → List (CodeMove S) → Type 0
  AllAreBrought book moment sent [] = Unit {0}
  AllAreBrought book moment sent (Starts i q found left number starts ∷ ms) =
      AllAreBrought book (moment + 1) sent ms
  AllAreBrought book moment sent (Steps i e place r left result ∷ ms) =
      EventBrought book moment sent i e × AllAreBrought book (moment + 1) (sent ++ sends_in result) ms
  AllAreBrought book moment sent (Dies i e place left ∷ ms) =
      EventBrought book moment sent i e × AllAreBrought book (moment + 1) sent ms
  AllAreBrought book moment sent (Serves c d out place ∷ ms) =
      AllStand IsSavedAs g out d.sends × HearsBrought book moment sent c d.action
      × AllAreBrought book (moment + 1) (sent ++ out) ms

-- ---- the same moves, wherever what is taken stands among all that was handed out

abbrev pub unplaced : {S : Type 0} → CodeMove S → CodeMove S
unplaced (Starts i q found left number starts) = Starts i q found left number starts
unplaced (Steps i e place r left result) = Steps i e 0 r left result
unplaced (Dies i e place left) = Dies i e 0 left
unplaced (Serves c d out place) = Serves c d out 0

abbrev pub AreSameMoves : {S : Type 0} → List (CodeMove S) → List (CodeMove S) → Type 0
AreSameMoves ms ns = map unplaced ms ≡ map unplaced ns

-- in these moves each message that is taken was handed out before, to its taker: there are places at which
pub record HasPlaces {S : Type 0} (g : Group) (ms : List (CodeMove S)) : Type 0 where
  pub placed : List (CodeMove S)
  pub same : AreSameMoves placed ms
  pub taken : AllTakeHanded g [] placed

-- ---- machines

module _ {S : Type 0} (load_gives : S → Option Stored → S → Type 0) (save_gives : S → ℕ → Bool → S → Type 0)
    (faults : S → ℕ) (begin_gives : S → Option Stored → S → Type 0) (holds : S → (ℕ → Bool) → Type 0)
    (is_first : S → Bool) (g : Group) (book : Book) where
  -- each machine's list is right by itself, from before its first start, and so is each client's; and the moves are
  -- these in one order, in which all that is taken was brought
  pub record KeyedMachinesInOneOrder (ms : List (CodeMove S)) : Type 0 where
    pub machines : (i : ℕ) → i < group_size g.f
        → AreMachineMoves load_gives save_gives faults begin_gives holds is_first g i None 0 (own_moves i ms)
    pub no_others : (i : ℕ) → group_size g.f ≤ i → own_moves i ms ≡ []
    pub clients : (c : ℕ) → AreClientSteps g.f c g.answer first_client (own_steps c ms)
    pub brought : AllAreBrought g book 0 [] ms

-- ---- what was done, as it was

-- In this order each message that was taken was brought, and each client kept to its rule over all its starts. Without
-- some moves that handed nothing out, as those of a start that failed, each replica's list is right by itself, in this
-- sense.
pub record HaveRanByKeys {S : Type 0} (IsRight : ℕ → List (OwnMove S) → Type 0) (g : Group) (book : Book)
    (early late : List (CodeMove S)) : Type 0 where
  pub kept_early : List (CodeMove S)
  pub kept_late : List (CodeMove S)
  pub without_early : IsWithoutSilent early kept_early
  pub without_late : IsWithoutSilent late kept_late
  pub replicas : (i : ℕ) → i < group_size g.f → IsRight i (own_moves i (kept_early ++ kept_late))
  pub no_others : (i : ℕ) → group_size g.f ≤ i → own_moves i (kept_early ++ kept_late) ≡ []
  pub clients : (c : ℕ) → AreStepsOverStarts g.f c g.answer first_client (own_steps c (early ++ late))
  pub brought : AllAreBrought g book 0 [] (early ++ late)
