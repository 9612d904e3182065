-- Moves that handed nothing out may be left out.
use Rattle.std.proofs.Common.{◌≡◌, ℕ, List, [], ◌∷◌, ◌++◌, refl, sym, ap, ◌∙◌, subst, inl, inr}
use Rattle.std.proofs.lemmas.List.{append-nil}
use Rattle.il_model.specs.declared.command.Command.{Command}
use Rattle.il_model.specs.declared.command.Answer.{Answer}
use Rattle.vr_model.specs.declared.message.Message as code
use Rattle.vr_model.specs.Membership.{Group}
use Rattle.vr_model.specs.Steps.{ClientStep}
use Rattle.vr_serving.specs.Serving.{sends_in}
use Rattle.laws_threads.specs.CodeMoves.{CodeMove, Starts, Steps, Dies, Serves, handed_by, all_handed, clients_in}
use Rattle.laws_threads.specs.OwnMoves.{AllTakeHanded}
use Rattle.laws_threads.specs.SilentMoves.{IsSilent, IsWithoutSilent, ShowsTheSame}

module _ {S : Type 0} (g : Group) where
  -- what a move does to all that there is to see
  silent_handed : (m : CodeMove S) → IsSilent m → handed_by m ≡ []
  silent_handed (Starts i q found left number starts) s = refl
  silent_handed (Steps i e place r left result) s = s
  silent_handed (Dies i e place left) s = refl
  silent_handed (Serves c d out place) s = absurd s

  silent_clients : (m : CodeMove S) (ms : List (CodeMove S)) → IsSilent m → clients_in (m ∷ ms) ≡ clients_in ms
  silent_clients (Starts i q found left number starts) ms s = refl
  silent_clients (Steps i e place r left result) ms s = refl
  silent_clients (Dies i e place left) ms s = refl
  silent_clients (Serves c d out place) ms s = absurd s

  silent_taken : (m : CodeMove S) (ms : List (CodeMove S)) (sent : List code.Message) → IsSilent m → AllTakeHanded g sent (m ∷ ms) → AllTakeHanded g sent ms
  silent_taken (Starts i q found left number starts) ms sent s taken = taken
  silent_taken (Steps i e place r left result) ms sent s taken =
      subst (λ xs. AllTakeHanded g xs ms) (ap (λ (xs : List code.Message). sent ++ xs) s ∙ append-nil sent) taken.1
  silent_taken (Dies i e place left) ms sent s taken = taken.1
  silent_taken (Serves c d out place) ms sent s taken = absurd s

  -- a move that stays
  stays_clients : (m : CodeMove S) (ms ns : List (CodeMove S)) → clients_in ns ≡ clients_in ms → clients_in (m ∷ ns) ≡ clients_in (m ∷ ms)
  stays_clients (Starts i q found left number starts) ms ns same = same
  stays_clients (Steps i e place r left result) ms ns same = same
  stays_clients (Dies i e place left) ms ns same = same
  stays_clients (Serves c d out place) ms ns same = ap (λ (xs : List (ℕ × ClientStep Command Answer)). (c, d) ∷ xs) same

  stays_taken : (m : CodeMove S) (ms ns : List (CodeMove S)) (sent : List code.Message) → ((more : List code.Message) → AllTakeHanded g more ms → AllTakeHanded g more ns) → AllTakeHanded g sent (m ∷ ms) → AllTakeHanded g sent (m ∷ ns)
  stays_taken (Starts i q found left number starts) ms ns sent rest taken = rest sent taken
  stays_taken (Steps i e place r left result) ms ns sent rest taken = (taken.0, rest (sent ++ sends_in result) taken.1)
  stays_taken (Dies i e place left) ms ns sent rest taken = (taken.0, rest sent taken.1)
  stays_taken (Serves c d out place) ms ns sent rest taken = (taken.0, taken.1, rest (sent ++ out) taken.2)

  handed : (ms ns : List (CodeMove S)) → IsWithoutSilent ms ns → all_handed ns ≡ all_handed ms
  handed [] [] w = refl
  handed [] (n ∷ ns) w = absurd w
  handed (m ∷ ms) [] w = handed ms [] w.1 ∙ ap (λ (xs : List code.Message). xs ++ all_handed ms) (sym (silent_handed m w.0))
  handed (m ∷ ms) (n ∷ ns) w = elim w [
    | inl x ↦ handed ms (n ∷ ns) x.1 ∙ ap (λ (xs : List code.Message). xs ++ all_handed ms) (sym (silent_handed m x.0))
    | inr x ↦ ap (λ (xs : List code.Message). handed_by n ++ xs) (handed ms ns x.1) ∙ ap (λ (y : CodeMove S). handed_by y ++ all_handed ms) (sym x.0)
  ]

  clients : (ms ns : List (CodeMove S)) → IsWithoutSilent ms ns → clients_in ns ≡ clients_in ms
  clients [] [] w = refl
  clients [] (n ∷ ns) w = absurd w
  clients (m ∷ ms) [] w = clients ms [] w.1 ∙ sym (silent_clients m ms w.0)
  clients (m ∷ ms) (n ∷ ns) w = elim w [
    | inl x ↦ clients ms (n ∷ ns) x.1 ∙ sym (silent_clients m ms x.0)
    | inr x ↦ ap (λ (y : CodeMove S). clients_in (y ∷ ns)) (sym x.0) ∙ stays_clients m ms ns (clients ms ns x.1)
  ]

  taken : (ms ns : List (CodeMove S)) (sent : List code.Message) → IsWithoutSilent ms ns → AllTakeHanded g sent ms → AllTakeHanded g sent ns
  taken [] [] sent w t = tt
  taken [] (n ∷ ns) sent w t = absurd w
  taken (m ∷ ms) [] sent w t = tt
  taken (m ∷ ms) (n ∷ ns) sent w t = elim w [
    | inl x ↦ taken ms (n ∷ ns) sent x.1 (silent_taken m ms sent x.0 t)
    | inr x ↦ subst (λ (y : CodeMove S). AllTakeHanded g sent (y ∷ ns)) x.0 (stays_taken m ms ns sent (λ more u. taken ms ns more x.1 u) t)
  ]

  pub shows_the_same : (ms kept : List (CodeMove S)) → IsWithoutSilent ms kept → ShowsTheSame g ms kept
  shows_the_same ms kept w = record { handed = handed ms kept w; clients = clients ms kept w; taken = λ t. taken ms kept [] w t }

  -- one list behind the other
  pub both_without : (ms kept more left : List (CodeMove S)) → IsWithoutSilent ms kept → IsWithoutSilent more left → IsWithoutSilent (ms ++ more) (kept ++ left)
  both_without [] [] more left v w = w
  both_without [] (n ∷ ns) more left v w = absurd v
  both_without (m ∷ ms) [] more [] v w = (v.0, both_without ms [] more [] v.1 w)
  both_without (m ∷ ms) [] more (l ∷ left) v w = inl (v.0, both_without ms [] more (l ∷ left) v.1 w)
  both_without (m ∷ ms) (n ∷ ns) more left v w = elim v [
    | inl x ↦ inl (x.0, both_without ms (n ∷ ns) more left x.1 w)
    | inr x ↦ inr (x.0, both_without ms ns more left x.1 w)
  ]
