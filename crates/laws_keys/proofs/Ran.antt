-- The same moves without the same silent ones; so what machines with a key did, as it was, comes to one run, or a sum was
-- forged.
use Rattle.std.proofs.Common.{◌≡◌, ℕ, ◌⊎◌, inl, inr, List, [], ◌∷◌, ◌++◌, length, map, take, drop, refl, sym, ap, ◌∙◌, subst}
use Rattle.std.specs.Prelude.{slice_get}
use Rattle.std.proofs.lemmas.List.{take-append-drop, drop_at, drop-map, length-map, map-append}
use Rattle.il_model.specs.declared.command.Command.{Command}
use Rattle.il_model.specs.declared.command.Answer.{Answer}
use Rattle.vr_model.specs.declared.message.Message as code
use Rattle.vr_model.specs.Membership.{Group}
use Rattle.vr_model.specs.Steps.{ClientStep, first_client}
use Rattle.laws_threads.specs.CodeMoves.{CodeMove, Starts, Steps, Dies, Serves, all_handed, clients_in}
use Rattle.laws_threads.specs.OwnMoves.{OwnMove, AllTakeHanded, own_moves, own_steps}
use Rattle.laws_threads.specs.SilentMoves.{IsSilent, IsWithoutSilent}
use Rattle.laws_threads.specs.ClientStarts.{AreStepsOverStarts, asked}
use Rattle.laws_threads.specs.Ran.{HaveRan, RanAsOne}
use Rattle.laws_keys.specs.Ways.{OnlySealedIsGiven}
use Rattle.laws_keys.specs.Brought.{AnyForgedIn, AreSameMoves, Book, HasPlaces, HaveRanByKeys, unplaced}
use Rattle.laws_keys.proofs.Placed.{has_places}
use Rattle.laws_keys.proofs.Runs.{own_unplaced, steps_unplaced, handed_unplaced, clients_unplaced, front_same}

heads : {A : Type 0} (x y : A) (xs ys : List A) → x ∷ xs ≡ y ∷ ys → (x ≡ y) × (xs ≡ ys)
heads x y xs ys e = (cc, cc)

module _ {S : Type 0} where
  -- ---- silent moves

  silent_unplaced : (m : CodeMove S) → IsSilent m → IsSilent (unplaced m)
  silent_unplaced (Starts i q found left number starts) s = s
  silent_unplaced (Steps i e place r left result) s = s
  silent_unplaced (Dies i e place left) s = s
  silent_unplaced (Serves c d out place) s = s

  silent_placed : (m : CodeMove S) → IsSilent (unplaced m) → IsSilent m
  silent_placed (Starts i q found left number starts) s = s
  silent_placed (Steps i e place r left result) s = s
  silent_placed (Dies i e place left) s = s
  silent_placed (Serves c d out place) s = s

  silent_same : (m n : CodeMove S) → unplaced m ≡ unplaced n → IsSilent m → IsSilent n
  silent_same m n e s = silent_placed n (subst (λ (x : CodeMove S). IsSilent x) e (silent_unplaced m s))

  one_less : (m : CodeMove S) (ms left : List (CodeMove S)) → IsSilent m → IsWithoutSilent ms left → IsWithoutSilent (m ∷ ms) left
  one_less m ms [] s w = (s, w)
  one_less m ms (l ∷ left) s w = inl (s, w)

  record Without (ms kept : List (CodeMove S)) : Type 0 where
    left : List (CodeMove S)
    without : IsWithoutSilent ms left
    same : AreSameMoves left kept

  -- lists of the same moves, one of which was left without some silent ones: so may be the other
  without_same : (ms ns kept : List (CodeMove S)) → AreSameMoves ns ms → IsWithoutSilent ms kept → Without ns kept
  without_same [] [] [] e w = record { left = []; without = tt; same = refl }
  without_same [] [] (k ∷ kept) e w = absurd w
  without_same [] (n ∷ ns) kept e w = absurd cc
  without_same (m ∷ ms) [] kept e w = absurd cc
  without_same (m ∷ ms) (n ∷ ns) [] e w =
      let h = heads (unplaced n) (unplaced m) (map unplaced ns) (map unplaced ms) e in
      let l = without_same ms ns [] h.1 w.1 in
      record { left = l.left; without = one_less n ns l.left (silent_same m n (sym h.0) w.0) l.without; same = l.same }
  without_same (m ∷ ms) (n ∷ ns) (k ∷ kept) e w =
      let h = heads (unplaced n) (unplaced m) (map unplaced ns) (map unplaced ms) e in
      elim w [
        | inl x ↦ let l = without_same ms ns (k ∷ kept) h.1 x.1 in
            record { left = l.left; without = one_less n ns l.left (silent_same m n (sym h.0) x.0) l.without; same = l.same }
        | inr x ↦ let l = without_same ms ns kept h.1 x.1 in
            record {
              left = n ∷ l.left;
              without = inr (refl, l.without);
              same = ap (λ (y : CodeMove S). y ∷ map unplaced l.left) (h.0 ∙ ap unplaced x.0) ∙ ap (λ (ys : List (CodeMove S)). unplaced k ∷ ys) l.same;
            }
      ]

  -- ---- what the same moves have alike

  same_append : (ks ms ls ns : List (CodeMove S)) → AreSameMoves ks ms → AreSameMoves ls ns → AreSameMoves (ks ++ ls) (ms ++ ns)
  same_append ks ms ls ns e f =
      map-append unplaced ks ls
      ∙ (ap (λ (xs : List (CodeMove S)). xs ++ map unplaced ls) e
      ∙ (ap (λ (xs : List (CodeMove S)). map unplaced ms ++ xs) f ∙ sym (map-append unplaced ms ns)))

  same_own : (i : ℕ) (ms ns : List (CodeMove S)) → AreSameMoves ms ns → own_moves i ms ≡ own_moves i ns
  same_own i ms ns e = sym (own_unplaced i ms) ∙ (ap (λ (xs : List (CodeMove S)). own_moves i xs) e ∙ own_unplaced i ns)

  same_steps : (c : ℕ) (ms ns : List (CodeMove S)) → AreSameMoves ms ns → own_steps c ms ≡ own_steps c ns
  same_steps c ms ns e = sym (steps_unplaced c ms) ∙ (ap (λ (xs : List (CodeMove S)). own_steps c xs) e ∙ steps_unplaced c ns)

  same_handed : (ms ns : List (CodeMove S)) → AreSameMoves ms ns → all_handed ms ≡ all_handed ns
  same_handed ms ns e = sym (handed_unplaced ms) ∙ (ap (λ (xs : List (CodeMove S)). all_handed xs) e ∙ handed_unplaced ns)

  same_clients : (ms ns : List (CodeMove S)) → AreSameMoves ms ns → clients_in ms ≡ clients_in ns
  same_clients ms ns e = sym (clients_unplaced ms) ∙ (ap (λ (xs : List (CodeMove S)). clients_in xs) e ∙ clients_unplaced ns)

  -- the part of the same moves behind the front
  back_same : (placed early late : List (CodeMove S)) → AreSameMoves placed (early ++ late) → AreSameMoves (drop (length early) placed) late
  back_same placed early late same =
      let long : length (map unplaced early) ≡ length early = length-map early unplaced in
      sym (drop-map unplaced (length early) placed) ∙ (ap (λ (xs : List (CodeMove S)). drop (length early) xs) (same ∙ map-append unplaced early late) ∙ drop_at (map unplaced early) (map unplaced late) (length early) long)

  -- ---- one run

  ran_as_one : (g : Group) (first second early late : List (CodeMove S)) → AreSameMoves first early → RanAsOne g first second → RanAsOne g early late
  ran_as_one g first second early late same r =
      let l : Without early r.kept = without_same first early r.kept (sym same) r.without in
      record {
        first = r.first;
        second = r.second;
        one = r.one;
        kept = l.left;
        without = l.without;
        replicas = λ i. r.replicas i ∙ sym (same_own i l.left r.kept l.same);
        history = r.history;
        asks = r.asks ∙ ap asked (same_clients first early same);
        handed = λ a h. r.handed a (h.0, ap (λ (ms : List code.Message). slice_get ms (h.0)) (same_handed first early same) ∙ h.1);
      }

module _ {S : Type 0} (IsRight : ℕ → List (OwnMove S) → Type 0) (g : Group) (law : OnlySealedIsGiven)
    (ran : (early late : List (CodeMove S)) → HaveRan IsRight g early late → RanAsOne g early late) where
  with_places : (book : Book) (early late : List (CodeMove S)) → HaveRanByKeys IsRight g book early late → HasPlaces g (early ++ late) → RanAsOne g early late
  with_places book early late did p =
      let first = take (length early) p.placed in
      let second = drop (length early) p.placed in
      let parts : first ++ second ≡ p.placed = take-append-drop (length early) p.placed in
      let front : AreSameMoves first early = front_same p.placed early late p.same in
      let back : AreSameMoves second late = back_same p.placed early late p.same in
      let one : Without first did.kept_early = without_same early first did.kept_early front did.without_early in
      let two : Without second did.kept_late = without_same late second did.kept_late back did.without_late in
      let kept : AreSameMoves (one.left ++ two.left) (did.kept_early ++ did.kept_late) = same_append one.left did.kept_early two.left did.kept_late one.same two.same in
      ran_as_one g first second early late front (ran first second (record {
        kept_early = one.left;
        kept_late = two.left;
        without_early = one.without;
        without_late = two.without;
        replicas = λ i low. subst (λ (xs : List (OwnMove S)). IsRight i xs) (sym (same_own i (one.left ++ two.left) (did.kept_early ++ did.kept_late) kept)) (did.replicas i low);
        no_others = λ i high. same_own i (one.left ++ two.left) (did.kept_early ++ did.kept_late) kept ∙ did.no_others i high;
        clients = λ c. subst (λ (xs : List (ClientStep Command Answer)). AreStepsOverStarts g.f c g.answer first_client xs)
            (sym (same_steps c (first ++ second) (early ++ late) (same_append first early second late front back))) (did.clients c);
        taken = subst (λ (xs : List (CodeMove S)). AllTakeHanded g [] xs) (sym parts) p.taken;
      }))

  pub keyed_ran : (book : Book) (early late : List (CodeMove S)) → HaveRanByKeys IsRight g book early late → RanAsOne g early late ⊎ AnyForgedIn book
  keyed_ran book early late did = elim (has_places law book g (early ++ late) did.brought) [
    | inr forged ↦ inr forged
    | inl p ↦ inl (with_places book early late did p)
  ]
