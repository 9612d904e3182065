-- Moves do the same wherever what is taken stands; so machines with a key are one run, or a sum was forged.
use Rattle.std.proofs.Common.{◌≡◌, ℕ, ◌==◌, ◌⊎◌, inl, inr, if◌then◌else◌, Bool, List, [], ◌∷◌, ◌++◌, Option, Some, None, length, map, take, drop, refl, sym, ap, ◌∙◌, subst}
use Rattle.std.proofs.lemmas.List.{take-append-drop, take_at, take-map, length-map, map-append}
use Rattle.il_model.specs.declared.command.Command.{Command}
use Rattle.il_model.specs.declared.command.Answer.{Answer}
use Rattle.vr_model.specs.declared.event.Stored.{Stored}
use Rattle.vr_model.specs.declared.message.Message as code
use Rattle.vr_model.specs.Membership.{Group}
use Rattle.vr_model.specs.Replicas.{put}
use Rattle.vr_model.specs.StandsFor.{AllStand}
use Rattle.vr_model.specs.Steps.{ClientStep, AreClientSteps, first_client}
use Rattle.vr_core.specs.StandsFor.{IsSavedAs}
use Rattle.laws_threads.specs.ObservedMoves.{all_said}
use Rattle.laws_threads.specs.CodeMoves.{CodeMove, Starts, Steps, Dies, Serves, Seat, runs, killed, AreOneRun, seats_after, handed_by, all_handed, clients_in}
use Rattle.laws_threads.specs.OwnMoves.{OwnMove, Started, Stepped, Died, AllTakeHanded, own_moves, own_steps}
use Rattle.laws_threads.specs.MachineMoves.{AreMachineMoves, MachinesInOneOrder}
use Rattle.laws_keys.specs.Ways.{OnlySealedIsGiven}
use Rattle.laws_keys.specs.Brought.{AnyForgedIn, AreSameMoves, Book, HasPlaces, KeyedMachinesInOneOrder, unplaced}
use Rattle.laws_keys.proofs.Placed.{has_places}

module _ {S : Type 0} where
  pub own_unplaced : (i : ℕ) (ms : List (CodeMove S)) → own_moves i (map unplaced ms) ≡ own_moves i ms
  own_unplaced i [] = refl
  own_unplaced i (Starts j q found left number starts ∷ ms) = ap (λ (xs : List (OwnMove S)). if i == j then Started q found left number starts ∷ xs else xs) (own_unplaced i ms)
  own_unplaced i (Steps j e place r left result ∷ ms) = ap (λ (xs : List (OwnMove S)). if i == j then Stepped e r left result ∷ xs else xs) (own_unplaced i ms)
  own_unplaced i (Dies j e place left ∷ ms) = ap (λ (xs : List (OwnMove S)). if i == j then Died e left ∷ xs else xs) (own_unplaced i ms)
  own_unplaced i (Serves c d out place ∷ ms) = own_unplaced i ms

  pub steps_unplaced : (c : ℕ) (ms : List (CodeMove S)) → own_steps c (map unplaced ms) ≡ own_steps c ms
  steps_unplaced c [] = refl
  steps_unplaced c (Starts j q found left number starts ∷ ms) = steps_unplaced c ms
  steps_unplaced c (Steps j e place r left result ∷ ms) = steps_unplaced c ms
  steps_unplaced c (Dies j e place left ∷ ms) = steps_unplaced c ms
  steps_unplaced c (Serves e d out place ∷ ms) = ap (λ (xs : List (ClientStep Command Answer)). if c == e then d ∷ xs else xs) (steps_unplaced c ms)

  seats_unplaced : (seats : ℕ → Option (Seat S)) (ms : List (CodeMove S)) → seats_after seats (map unplaced ms) ≡ seats_after seats ms
  seats_unplaced seats [] = refl
  seats_unplaced seats (Starts i q found left number starts ∷ ms) = seats_unplaced (put seats i (Some (runs q left number))) ms
  seats_unplaced seats (Steps i e place r left result ∷ ms) = seats_unplaced (put seats i (Some (runs r left None))) ms
  seats_unplaced seats (Dies i e place left ∷ ms) = seats_unplaced (put seats i (Some (killed left))) ms
  seats_unplaced seats (Serves c d out place ∷ ms) = seats_unplaced seats ms

  pub handed_unplaced : (ms : List (CodeMove S)) → all_handed (map unplaced ms) ≡ all_handed ms
  handed_unplaced [] = refl
  handed_unplaced (Starts i q found left number starts ∷ ms) = handed_unplaced ms
  handed_unplaced (Steps i e place r left result ∷ ms) = ap (λ (xs : List code.Message). handed_by (Steps i e place r left result) ++ xs) (handed_unplaced ms)
  handed_unplaced (Dies i e place left ∷ ms) = handed_unplaced ms
  handed_unplaced (Serves c d out place ∷ ms) = ap (λ (xs : List code.Message). out ++ xs) (handed_unplaced ms)

  pub clients_unplaced : (ms : List (CodeMove S)) → clients_in (map unplaced ms) ≡ clients_in ms
  clients_unplaced [] = refl
  clients_unplaced (Starts i q found left number starts ∷ ms) = clients_unplaced ms
  clients_unplaced (Steps i e place r left result ∷ ms) = clients_unplaced ms
  clients_unplaced (Dies i e place left ∷ ms) = clients_unplaced ms
  clients_unplaced (Serves c d out place ∷ ms) = ap (λ (xs : List (ℕ × ClientStep Command Answer)). (c, d) ∷ xs) (clients_unplaced ms)

  -- a part of the same moves in front
  pub front_same : (placed early late : List (CodeMove S)) → AreSameMoves placed (early ++ late) → AreSameMoves (take (length early) placed) early
  front_same placed early late same =
      let long : length (map unplaced early) ≡ length early = length-map early unplaced in
      sym (take-map unplaced (length early) placed) ∙ (ap (λ (xs : List (CodeMove S)). take (length early) xs) (same ∙ map-append unplaced early late) ∙ take_at (map unplaced early) (map unplaced late) (length early) long)

  as_one_run : (g : Group) (first second early late : List (CodeMove S)) → AreSameMoves first early → AreOneRun g first second → AreOneRun g early late
  as_one_run g first second early late same one =
      let none : ℕ → Option (Seat S) = λ i. None in
      let seats : seats_after none early ≡ seats_after none first = sym (seats_unplaced none early) ∙ (ap (λ (xs : List (CodeMove S)). seats_after none xs) (sym same) ∙ seats_unplaced none first) in
      let handed : all_handed first ≡ all_handed early = sym (handed_unplaced first) ∙ (ap (λ (xs : List (CodeMove S)). all_handed xs) same ∙ handed_unplaced early) in
      let clients : clients_in first ≡ clients_in early = sym (clients_unplaced first) ∙ (ap (λ (xs : List (CodeMove S)). clients_in xs) same ∙ clients_unplaced early) in
      record {
        first = one.first;
        second = one.second;
        run = one.run;
        replicas = λ i seat q at is. one.replicas i seat q (ap (λ (s : ℕ → Option (Seat S)). s i) (sym seats) ∙ at) is;
        messages = subst (λ (xs : List code.Message). AllStand IsSavedAs g xs (all_said one.first)) handed one.messages;
        clients = one.clients ∙ clients;
      }

module _ {S : Type 0} (loads : S → Option Stored → S → Type 0) (saves : S → ℕ → Bool → S → Type 0) (faults : S → ℕ) (begins : S → Option Stored → S → Type 0) (holds : S → (ℕ → Bool) → Type 0) (is_first : S → Bool)
    (law : OnlySealedIsGiven) (machines : (g : Group) (early late : List (CodeMove S)) → MachinesInOneOrder loads saves faults begins holds is_first g (early ++ late) → AreOneRun g early late) where
  run_or_forged : (g : Group) (book : Book) (early late : List (CodeMove S)) → KeyedMachinesInOneOrder loads saves faults begins holds is_first g book (early ++ late) → HasPlaces g (early ++ late) → AreOneRun g early late
  run_or_forged g book early late each p =
      let first = take (length early) p.placed in
      let second = drop (length early) p.placed in
      let parts : first ++ second ≡ p.placed = take-append-drop (length early) p.placed in
      let same : map unplaced (first ++ second) ≡ map unplaced (early ++ late) = ap (λ (xs : List (CodeMove S)). map unplaced xs) parts ∙ p.same in
      let own : (i : ℕ) → own_moves i (first ++ second) ≡ own_moves i (early ++ late) =
      λ i. sym (own_unplaced i (first ++ second)) ∙ (ap (λ (xs : List (CodeMove S)). own_moves i xs) same ∙ own_unplaced i (early ++ late)) in
      let steps : (c : ℕ) → own_steps c (first ++ second) ≡ own_steps c (early ++ late) =
      λ c. sym (steps_unplaced c (first ++ second)) ∙ (ap (λ (xs : List (CodeMove S)). own_steps c xs) same ∙ steps_unplaced c (early ++ late)) in
      as_one_run g first second early late (front_same p.placed early late p.same) (machines g first second (record {
        machines = λ i low. subst (λ (xs : List (OwnMove S)). AreMachineMoves loads saves faults begins holds is_first g i None 0 xs) (sym (own i)) (each.machines i low);
        no_others = λ i high. own i ∙ each.no_others i high;
        clients = λ c. subst (λ (xs : List (ClientStep Command Answer)). AreClientSteps g.f c g.answer first_client xs) (sym (steps c)) (each.clients c);
        taken = subst (λ (xs : List (CodeMove S)). AllTakeHanded g [] xs) (sym parts) p.taken;
      }))

  pub keyed_run : (g : Group) (book : Book) (early late : List (CodeMove S)) → KeyedMachinesInOneOrder loads saves faults begins holds is_first g book (early ++ late) → AreOneRun g early late ⊎ AnyForgedIn book
  keyed_run g book early late each = elim (has_places law book g (early ++ late) each.brought) [
    | inr forged ↦ inr forged
    | inl p ↦ inl (run_or_forged g book early late each p)
  ]
