-- Lists that are right by themselves, in one order, are moves that are right along it.
use Rattle.std.proofs.Common.{◌≡◌, ℕ, ◌<◌, ◌≤◌, Bool, false, cond, eqb, List, [], ◌∷◌, ◌++◌, Option, Some, None, refl, sym, ap, ◌∙◌, subst, inl, inr}
use Rattle.std.proofs.lemmas.Bool.{cases_eq, cases_lt, eq-eqb, ne_eqb}
use Rattle.il_model.specs.declared.command.Command.{Command}
use Rattle.il_model.specs.declared.command.Answer.{Answer}
use Rattle.vr_model.specs.declared.event.Event.{Event}
use Rattle.vr_model.specs.declared.event.Event.TheVariants as event
use Rattle.vr_model.specs.declared.event.Stored.{Stored}
use Rattle.vr_model.specs.declared.message.Message as code
use Rattle.vr_model.specs.Groups.{group_size}
use Rattle.vr_model.specs.Membership.{Group}
use Rattle.vr_model.specs.Replicas.{put}
use Rattle.vr_model.specs.World.{ClientState}
use Rattle.vr_model.specs.Steps.{ClientStep, AreClientSteps, client_after, first_client}
use Rattle.vr_serving.specs.Serving.{sends_in}
use Rattle.laws_threads.specs.CodeMoves.{CodeMove, Starts, Steps, Dies, Serves, Seat, runs, killed, given_with, TakesHanded, AreCodeMoves, AreFromTheStart}
use Rattle.laws_threads.specs.OwnMoves.{OwnMove, Started, Stepped, Died, MayTake, own_moves, own_steps, EventHanded, AllTakeHanded, AreOwnMoves, EachInOneOrder}
use Rattle.laws_threads.proofs.Tables.{put_same, put_other}

takes_handed : (g : Group) (sent : List code.Message) (i place : ℕ) (waits : Option ℕ) (e : Event) → MayTake waits e → EventHanded g sent i e place → TakesHanded sent i waits e place
takes_handed g sent i place waits (event.Message a) may h = (may, h.0, h.1)
takes_handed g sent i place waits event.Timeout may h = may
takes_handed g sent i place waits event.Resend may h = may
takes_handed g sent i place waits (event.Restart n) may h = may

module _ {S : Type 0} (loads : S → Option Stored → S → Type 0) (saves : S → ℕ → Bool → S → Type 0) (faults : S → ℕ) (begins : S → Option Stored → S → Type 0) (holds : S → (ℕ → Bool) → Type 0) (g : Group) where
  abbrev Own : ℕ → Option (Seat S) → (ℕ → Bool) → List (OwnMove S) → Type 0
  Own i seat given ms = AreOwnMoves loads saves faults begins holds g i seat given ms

  -- the next move of one list is the first of that, and none of the others
  low : (i : ℕ) (x : OwnMove S) (xs : List (OwnMove S)) → (group_size g.f ≤ i → cond (eqb i i) (x ∷ xs) xs ≡ []) → i < group_size g.f
  low i x xs none = elim (cases_lt i (group_size g.f)) [
    | inl lt ↦ lt
    | inr le ↦ absurd (let wrong : x ∷ xs ≡ [] = ap (λ b. cond b (x ∷ xs) xs) (sym (eq-eqb i i refl)) ∙ none le in cc)
  ]

  own_here : (i : ℕ) (seat : Option (Seat S)) (given : ℕ → Bool) (x : OwnMove S) (xs : List (OwnMove S)) → Own i seat given (cond (eqb i i) (x ∷ xs) xs) → Own i seat given (x ∷ xs)
  own_here i seat given x xs h = subst (λ b. Own i seat given (cond b (x ∷ xs) xs)) (eq-eqb i i refl) h

  own_there : (j i : ℕ) (seat after : Option (Seat S)) (given more : ℕ → Bool) (x : OwnMove S) (xs : List (OwnMove S)) → (j ≡ i → ⊥) → after ≡ seat → more ≡ given → Own j seat given (cond (eqb j i) (x ∷ xs) xs) → Own j after more xs
  own_there j i seat after given more x xs ne same_seat same_given h =
      subst (λ o. Own j o more xs) (sym same_seat) (subst (λ u. Own j seat u xs) (sym same_given) (subst (λ b. Own j seat given (cond b (x ∷ xs) xs)) (ne_eqb j i ne) h))

  own_next : (j i : ℕ) (seats : ℕ → Option (Seat S)) (given : ℕ → ℕ → Bool) (seat : Option (Seat S)) (more : ℕ → Bool) (x : OwnMove S) (xs : ℕ → List (OwnMove S)) → (j < group_size g.f → Own j (seats j) (given j) (cond (eqb j i) (x ∷ xs j) (xs j))) → Own i seat more (xs i)
      → j < group_size g.f → Own j (put seats i seat j) (put given i more j) (xs j)
  own_next j i seats given seat more x xs own here l = elim (cases_eq j i) [
    | inl e ↦ subst (λ o. Own j o (put given i more j) (xs j)) (sym (put_same seats i seat j e)) (subst (λ u. Own j seat u (xs j)) (sym (put_same given i more j e)) (subst (λ k. Own k seat more (xs k)) (sym e) here))
    | inr ne ↦ own_there j i (seats j) (put seats i seat j) (given j) (put given i more j) x (xs j) ne (put_other seats i seat j ne) (put_other given i more j ne) (own l)
  ]

  -- likewise of a move that gives no nonce
  own_still : (i j : ℕ) (seats : ℕ → Option (Seat S)) (given : ℕ → ℕ → Bool) (seat : Option (Seat S)) (x : OwnMove S) (xs : ℕ → List (OwnMove S)) → ((k : ℕ) → k < group_size g.f → Own k (seats k) (given k) (cond (eqb k i) (x ∷ xs k) (xs k))) → Own i seat (given i) (xs i)
      → j < group_size g.f → Own j (put seats i seat j) (given j) (xs j)
  own_still i j seats given seat x xs own here l = subst (λ u. Own j (put seats i seat j) u (xs j)) same_given (own_next j i seats given seat (given i) x xs (own j) here l)
    where
      same_given : put given i (given i) j ≡ given j
      same_given = elim (cases_eq j i) [ inl e ↦ put_same given i (given i) j e ∙ ap given (sym e) | inr ne ↦ put_other given i (given i) j ne ]

  empty_next : (j i : ℕ) (x : OwnMove S) (xs : List (OwnMove S)) → i < group_size g.f → group_size g.f ≤ j → cond (eqb j i) (x ∷ xs) xs ≡ [] → xs ≡ []
  empty_next j i x xs l le none = elim (cases_eq j i) [
    | inl e ↦ absurd (let wrong : x ∷ xs ≡ [] = ap (λ b. cond b (x ∷ xs) xs) (sym (eq-eqb j i e)) ∙ none in cc)
    | inr ne ↦ ap (λ b. cond b (x ∷ xs) xs) (sym (ne_eqb j i ne)) ∙ none
  ]

  abbrev Served : ℕ → ClientState Command → List (ClientStep Command Answer) → Type 0
  Served c k ds = AreClientSteps g.f c g.answer k ds

  ordered : (ms : List (CodeMove S)) (seats : ℕ → Option (Seat S)) (given : ℕ → ℕ → Bool) (clients : ℕ → ClientState Command) (sent : List code.Message) → ((i : ℕ) → i < group_size g.f → Own i (seats i) (given i) (own_moves i ms)) → ((i : ℕ) → group_size g.f ≤ i → own_moves i ms ≡ [])
      → ((c : ℕ) → Served c (clients c) (own_steps c ms)) → AllTakeHanded g sent ms → AreCodeMoves loads saves faults begins holds g seats given clients sent ms
  ordered [] seats given clients sent own none served taken = tt
  ordered (Starts i q found left number starts ∷ ms) seats given clients sent own none served taken =
      let x : OwnMove S = Started q found left number starts in
      let l : i < group_size g.f = low i x (own_moves i ms) (none i) in
      let h : Own i (seats i) (given i) (x ∷ own_moves i ms) = own_here i (seats i) (given i) x (own_moves i ms) (own i l) in
      let seat : Option (Seat S) = Some (runs q left number) in (
        l,
        h.0,
        h.1,
        h.2,
        ordered ms (put seats i seat) (put given i (given_with (given i) number)) clients sent
            (λ j lj. own_next j i seats given seat (given_with (given i) number) x (λ k. own_moves k ms) (own j) h.3 lj) (λ j le. empty_next j i x (own_moves j ms) l le (none j le)) served taken,
      )
  ordered (Steps i e place r left result ∷ ms) seats given clients sent own none served taken =
      let x : OwnMove S = Stepped e r left result in
      let l : i < group_size g.f = low i x (own_moves i ms) (none i) in
      let h : Own i (seats i) (given i) (x ∷ own_moves i ms) = own_here i (seats i) (given i) x (own_moves i ms) (own i l) in
      let seat : Option (Seat S) = Some (runs r left None) in (
        h.0,
        h.1,
        h.2,
        l,
        h.3,
        h.4,
        takes_handed g sent i place h.2 e h.5 taken.0,
        ordered ms (put seats i seat) given clients (sent ++ sends_in result)
            (λ j lj. own_still i j seats given seat x (λ k. own_moves k ms) own h.6 lj) (λ j le. empty_next j i x (own_moves j ms) l le (none j le)) served taken.1,
      )
  ordered (Dies i e place left ∷ ms) seats given clients sent own none served taken =
      let x : OwnMove S = Died e left in
      let l : i < group_size g.f = low i x (own_moves i ms) (none i) in
      let h : Own i (seats i) (given i) (x ∷ own_moves i ms) = own_here i (seats i) (given i) x (own_moves i ms) (own i l) in
      let seat : Option (Seat S) = Some (killed left) in (
        h.0,
        h.1,
        h.2,
        l,
        h.3,
        h.4,
        takes_handed g sent i place h.2 e h.5 taken.0,
        ordered ms (put seats i seat) given clients sent
            (λ j lj. own_still i j seats given seat x (λ k. own_moves k ms) own h.6 lj) (λ j le. empty_next j i x (own_moves j ms) l le (none j le)) served taken.1,
      )
  ordered (Serves c d out place ∷ ms) seats given clients sent own none served taken =
      let h : Served c (clients c) (d ∷ own_steps c ms) = subst (λ b. Served c (clients c) (cond b (d ∷ own_steps c ms) (own_steps c ms))) (eq-eqb c c refl) (served c) in
      let k : ClientState Command = client_after g.f c g.answer (clients c) d.action in (
        h.0,
        h.1,
        taken.0,
        taken.1,
        ordered ms seats given (put clients c k) (sent ++ out) own none
            (λ e. elim (cases_eq e c) [
              | inl is ↦ subst (λ q. Served e q (own_steps e ms)) (sym (put_same clients c k e is)) (subst (λ q. Served q k (own_steps q ms)) (sym is) h.2)
              | inr ne ↦ subst (λ q. Served e q (own_steps e ms)) (sym (put_other clients c k e ne)) (subst (λ b. Served e (clients e) (cond b (d ∷ own_steps e ms) (own_steps e ms))) (ne_eqb e c ne) (served e))
            ])
            taken.2,
      )

  pub in_one_order : (ms : List (CodeMove S)) → EachInOneOrder loads saves faults begins holds g ms → AreFromTheStart loads saves faults begins holds g ms
  in_one_order ms each = ordered ms (λ i. None) (λ i x. false) (λ c. first_client) [] each.replicas each.no_others each.clients each.taken
