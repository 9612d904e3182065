-- One move more behind others.
use Rattle.std.proofs.Common.{◌≡◌, ℕ, List, [], ◌∷◌, ◌++◌, refl, sym, ap, ◌∙◌, subst, append-nil, append_assoc}
use Rattle.il_model.specs.declared.command.Command.{Command}
use Rattle.il_model.specs.declared.command.Answer.{Answer}
use Rattle.vr_model.specs.Membership.{Group}
use Rattle.vr_model.specs.Messages.{Message}
use Rattle.vr_model.specs.Replicas.{put}
use Rattle.vr_model.specs.Steps.{client_after}
use Rattle.vr_model.specs.World.{ClientState}
use Rattle.laws_durable.specs.Machines.{Machine, leaves, machine_after}
use Rattle.laws_durable.specs.DurableMoves.{DurableMove, OfMachine, OfClient, AreMovesFrom, machines_after, handed_from}
use Rattle.laws_durable_calls.specs.CodeOfDurables.{clients_from}

module _ (g : Group) where
  pub moves_more : (machines : ℕ → Machine Command Answer) (clients : ℕ → ClientState Command) (handed : List (Message Command Answer)) (ms : List (DurableMove Command Answer)) (m : DurableMove Command Answer) → AreMovesFrom g.f g.answer machines clients handed ms
      → AreMovesFrom g.f g.answer (machines_after g.f g.answer machines ms) (clients_from g clients ms) (handed ++ handed_from g.f g.answer machines ms) (m ∷ []) → AreMovesFrom g.f g.answer machines clients handed (ms ++ m ∷ [])
  moves_more machines clients handed [] m are one = subst (λ (hs : List (Message Command Answer)). AreMovesFrom g.f g.answer machines clients hs (m ∷ [])) (append-nil handed) one
  moves_more machines clients handed (OfMachine i d ∷ ms) m are one =
      let left : List (Message Command Answer) = leaves (machines i) d in
      let then : ℕ → Machine Command Answer = put machines i (machine_after g.f i g.answer (machines i) d) in (
        are.0,
        are.1,
        are.2,
        moves_more then clients (handed ++ left) ms m are.3
            (subst (λ (hs : List (Message Command Answer)). AreMovesFrom g.f g.answer (machines_after g.f g.answer then ms) (clients_from g clients ms) hs (m ∷ [])) (sym (append_assoc handed left (handed_from g.f g.answer then ms))) one),
      )
  moves_more machines clients handed (OfClient c d ∷ ms) m are one =
      let then : ℕ → ClientState Command = put clients c (client_after g.f c g.answer (clients c) d.action) in (
        are.0,
        are.1,
        are.2,
        moves_more machines then (handed ++ d.sends) ms m are.3
            (subst (λ (hs : List (Message Command Answer)). AreMovesFrom g.f g.answer (machines_after g.f g.answer machines ms) (clients_from g then ms) hs (m ∷ [])) (sym (append_assoc handed d.sends (handed_from g.f g.answer machines ms))) one),
      )

  pub machines_more : (machines : ℕ → Machine Command Answer) (ms : List (DurableMove Command Answer)) (m : DurableMove Command Answer) (j : ℕ) → machines_after g.f g.answer machines (ms ++ m ∷ []) j ≡ machines_after g.f g.answer (machines_after g.f g.answer machines ms) (m ∷ []) j
  machines_more machines [] m j = refl
  machines_more machines (OfMachine i d ∷ ms) m j = machines_more (put machines i (machine_after g.f i g.answer (machines i) d)) ms m j
  machines_more machines (OfClient c d ∷ ms) m j = machines_more machines ms m j

  pub clients_more : (clients : ℕ → ClientState Command) (ms : List (DurableMove Command Answer)) (m : DurableMove Command Answer) (j : ℕ) → clients_from g clients (ms ++ m ∷ []) j ≡ clients_from g (clients_from g clients ms) (m ∷ []) j
  clients_more clients [] m j = refl
  clients_more clients (OfMachine i d ∷ ms) m j = clients_more clients ms m j
  clients_more clients (OfClient c d ∷ ms) m j = clients_more (put clients c (client_after g.f c g.answer (clients c) d.action)) ms m j

  pub handed_more : (machines : ℕ → Machine Command Answer) (ms : List (DurableMove Command Answer)) (m : DurableMove Command Answer)
      → handed_from g.f g.answer machines (ms ++ m ∷ []) ≡ handed_from g.f g.answer machines ms ++ handed_from g.f g.answer (machines_after g.f g.answer machines ms) (m ∷ [])
  handed_more machines [] m = refl
  handed_more machines (OfMachine i d ∷ ms) m =
      let left : List (Message Command Answer) = leaves (machines i) d in
      let then : ℕ → Machine Command Answer = put machines i (machine_after g.f i g.answer (machines i) d) in
      ap (λ (hs : List (Message Command Answer)). left ++ hs) (handed_more then ms m)
      ∙ sym (append_assoc left (handed_from g.f g.answer then ms) (handed_from g.f g.answer (machines_after g.f g.answer then ms) (m ∷ [])))
  handed_more machines (OfClient c d ∷ ms) m =
      ap (λ (hs : List (Message Command Answer)). d.sends ++ hs) (handed_more machines ms m)
      ∙ sym (append_assoc d.sends (handed_from g.f g.answer machines ms) (handed_from g.f g.answer (machines_after g.f g.answer machines ms) (m ∷ [])))
