-- Lists of moves without some that handed nothing out: so nobody could tell that they were made.
use Rattle.std.specs.Prelude.{◌≡◌, ◌⊎◌, List, [], ◌∷◌}
use Rattle.vr_model.specs.Membership.{Group}
use Rattle.vr_serving.specs.Serving.{sends_in}
use Rattle.laws_threads.specs.CodeMoves.{CodeMove, Starts, Steps, Dies, Serves, all_handed, clients_in}
use Rattle.laws_threads.specs.OwnMoves.{AllTakeHanded}

module _ {S : Type 0} where
  -- a move of a replica that handed nothing out
  abbrev pub IsSilent : CodeMove S → Type 0
  IsSilent (Starts i q found left number starts) = Unit {0}
  IsSilent (Steps i e place r left result) = sends_in result ≡ []
  IsSilent (Dies i e place left) = Unit {0}
  IsSilent (Serves c d out place) = ⊥

  -- the second list is the first one without some silent moves
  abbrev pub IsWithoutSilent : List (CodeMove S) → List (CodeMove S) → Type 0
  IsWithoutSilent [] [] = Unit {0}
  IsWithoutSilent [] (n ∷ ns) = ⊥
  IsWithoutSilent (m ∷ ms) [] = IsSilent m × IsWithoutSilent ms []
  IsWithoutSilent (m ∷ ms) (n ∷ ns) =
      (IsSilent m × IsWithoutSilent ms (n ∷ ns)) ⊎ ((m ≡ n) × IsWithoutSilent ms ns)

  -- Without them the same was handed out, in the same order, and clients did the same; so what is taken was handed out
  -- before.
  pub record ShowsTheSame (g : Group) (ms kept : List (CodeMove S)) : Type 0 where
    pub handed : all_handed kept ≡ all_handed ms
    pub clients : clients_in kept ≡ clients_in ms
    pub taken : AllTakeHanded g [] ms → AllTakeHanded g [] kept
