-- What a client does over its starts, in one process or in several, and lists in which its clients keep to the rules.
use Rattle.std.specs.Prelude.{◌≡◌, ℕ, ◌<◌, ◌^◌, List, [], ◌∷◌, ◌++◌, Some, None, slice_get}
use Rattle.il_model.specs.declared.command.Command.{Command}
use Rattle.il_model.specs.declared.command.Answer.{Answer}
use Rattle.vr_model.specs.declared.message.Message as code
use Rattle.vr_model.specs.Groups.{client_count}
use Rattle.vr_model.specs.Interleaving.{requests}
use Rattle.vr_model.specs.Logs.{Request}
use Rattle.vr_model.specs.Membership.{Group}
use Rattle.vr_model.specs.Messages.{Message}
use Rattle.vr_model.specs.World.{ClientState}
use Rattle.vr_model.specs.Steps.{ClientAction, Submits, Retries, StartsAgain, Hears, ClientStep, MayClient, client_after}
use Rattle.vr_model.specs.Steps.{client_sends, AreClientSteps, first_client}
use Rattle.laws_threads.specs.CodeMoves.{CodeMove, all_handed, clients_in}
use Rattle.laws_threads.specs.OwnMoves.{AllTakeHanded, own_moves, own_steps}

-- the client c of 2f+1 replicas
module _ {C A : Type 0} (f c : ℕ) (answer : List C → A) where
  -- A client that starts counts more starts than before, by however many; it has given no number since, and waits for
  -- nothing. It may know no view, or any.
  abbrev pub HasBegun : ClientState C → ClientState C → Type 0
  HasBegun k next = (k.starts < next.starts) × (next.starts < 2 ^ 32) × (next.sequence ≡ 0) × (next.waits ≡ None)

  -- by this step the client comes from the one state to the other; all but a start is by the rules
  abbrev pub ComesTo : ClientState C → ClientAction C A → List (Message C A) → ClientState C → Type 0
  ComesTo k StartsAgain sends next = (c < client_count) × HasBegun k next × (sends ≡ [])
  ComesTo k a sends next = MayClient f c answer k a × (sends ≡ client_sends f c answer k a)
      × (next ≡ client_after f c answer k a)

  abbrev pub AreStepsOverStarts : ClientState C → List (ClientStep C A) → Type 0
  AreStepsOverStarts k [] = Unit {0}
  AreStepsOverStarts k (d ∷ ds) = (next : ClientState C) × ComesTo k d.action d.sends next × AreStepsOverStarts next ds

-- what a client submitted, with the request that it made of it, or what it heard
abbrev pub ClientDeed : Type 0
ClientDeed = ℕ × ClientAction Command Answer × List (Request Command)

abbrev pub asked_by : ℕ → ClientAction Command Answer → List (Message Command Answer) → List ClientDeed
asked_by c (Submits command) sends = (c, Submits command, requests sends) ∷ []
asked_by c (Hears m) sends = (c, Hears m, []) ∷ []
asked_by c Retries sends = []
asked_by c StartsAgain sends = []

-- what clients submitted and what they heard, in order
abbrev pub asked : List (ℕ × ClientStep Command Answer) → List ClientDeed
asked [] = []
asked (x ∷ xs) = asked_by x.0 x.1.action x.1.sends ++ asked xs

-- The same moves of replicas, in a list whose clients keep to the rules: they submit and hear the same. Each request
-- goes to every replica there, and a client that starts takes each start up to its count; so more is handed out, and
-- what is taken stands at another place.
pub record WithClientsByRule {S : Type 0} (g : Group) (early late : List (CodeMove S)) : Type 0 where
  pub first : List (CodeMove S)
  pub second : List (CodeMove S)
  pub first_replicas : (i : ℕ) → own_moves i first ≡ own_moves i early
  pub replicas : (i : ℕ) → own_moves i (first ++ second) ≡ own_moves i (early ++ late)
  pub clients : (c : ℕ) → AreClientSteps g.f c g.answer first_client (own_steps c (first ++ second))
  pub taken : AllTakeHanded g [] (first ++ second)
  pub asks : asked (clients_in first) ≡ asked (clients_in early)
  pub handed : (a : code.Message) → ((n : ℕ) × (slice_get (all_handed early) n ≡ Some a))
      → (n : ℕ) × (slice_get (all_handed first) n ≡ Some a)
