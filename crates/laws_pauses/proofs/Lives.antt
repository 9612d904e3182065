-- A durable replica's life is that of one that never crashed.
use Rattle.std.proofs.Common.{◌≡◌, ◌<◌, ℕ, ◌+◌, Bool, true, false, if◌then◌else◌, List, [], ◌∷◌, ◌++◌, refl, sym, ap, ◌∙◌, subst, append_assoc, inl, inr, arith}
use Rattle.std.specs.List.{AllByRecursion, Contains}
use Rattle.std.proofs.lemmas.List.{append-nil}
use Rattle.std.proofs.lemmas.List.Elements.{Contains-append_left, Contains-append_right, Contains-append_cases, Contains-push, Contains-push_cases}
use Rattle.vr_model.specs.Messages.{Message}
use Rattle.vr_model.specs.Replicas.{ReplicaState}
use Rattle.vr_model.specs.Steps.{Input, acts}
use Rattle.vr_model.specs.Stores.{Observation, Did, KnownState, AreObservations, last_known_state, next}
use Rattle.laws_pauses.specs.Pauses.{Taken, Durable, DurableStep, TakesUp, HandsOut, Rebases, PowerCut, inputs, written, surviving, all_said, said, all_heard, heard, IsDone, all_taken, replayed, all_sends, did, durable, durable_after, durable_ends, MayDurable, AreDurable, all_handed, all_settled, IsUnbroken, begun}

-- ---- what lists contain

pub nothing : {X : Type 0} (x : X) {P : Type 0} → Contains [] x → P
nothing x here = let none : here.0 < 0 = here.1 in absurd (omega arith)

pub here_first : {X : Type 0} (x : X) (xs : List X) → Contains (x ∷ xs) x
here_first x xs = Contains-append_left (x ∷ []) xs x (Contains-push [] x)

pub only_one : {X : Type 0} (x y : X) → Contains (x ∷ []) y → x ≡ y
only_one x y here = elim (Contains-push_cases [] x y here) [
  | inl h ↦ nothing y h
  | inr e ↦ e
]

pub first_or_later : {X : Type 0} (P : Type 0) (x : X) (xs : List X) (y : X) → Contains (x ∷ xs) y → (x ≡ y → P) → (Contains xs y → P) → P
first_or_later P x xs y here first later = elim (Contains-append_cases (x ∷ []) xs y here) [
  | inl h ↦ first (only_one x y h)
  | inr h ↦ later h
]

module _ {C A : Type 0} where
  pub written_is_taken : (ts : List (Taken C A)) (x : Input C A) → Contains (written ts) x → Contains (inputs ts) x
  written_is_taken [] x here = here
  written_is_taken (t ∷ ts) x here = by_mark (written_is_taken ts x) t.written here
    where
      by_mark : (Contains (written ts) x → Contains (inputs ts) x) → (w : Bool) → Contains (if w then t.input ∷ written ts else written ts) x → Contains (t.input ∷ inputs ts) x
      by_mark later true h =
          first_or_later (Contains (t.input ∷ inputs ts) x) t.input (written ts) x h (λ e. subst (λ (y : Input C A). Contains (t.input ∷ inputs ts) y) e (here_first t.input (inputs ts)))
          (λ more. Contains-append_right (t.input ∷ []) (inputs ts) x (later more))
      by_mark later false h = Contains-append_right (t.input ∷ []) (inputs ts) x (later h)

  pub surviving_is_among : (survives : ℕ → Bool) (n : ℕ) (xs : List (Input C A)) (x : Input C A) → Contains (surviving survives n xs) x → Contains xs x
  surviving_is_among survives n [] x here = here
  surviving_is_among survives n (y ∷ ys) x here = by_place (surviving_is_among survives (n + 1) ys x) (survives n) here
    where
      by_place : (Contains (surviving survives (n + 1) ys) x → Contains ys x) → (b : Bool) → Contains (if b then y ∷ surviving survives (n + 1) ys else surviving survives (n + 1) ys) x → Contains (y ∷ ys) x
      by_place later true h =
          first_or_later (Contains (y ∷ ys) x) y (surviving survives (n + 1) ys) x h (λ e. subst (λ (z : Input C A). Contains (y ∷ ys) z) e (here_first y ys))
          (λ more. Contains-append_right (y ∷ []) ys x (later more))
      by_place later false h = Contains-append_right (y ∷ []) ys x (later h)

  pub done_append : (gs hs : List (Observation C A)) → AllByRecursion IsDone gs → AllByRecursion IsDone hs → AllByRecursion IsDone (gs ++ hs)
  done_append [] hs a b = b
  done_append (g ∷ gs) hs a b = (a.0, done_append gs hs a.1 b)

  pub said_append : (gs hs : List (Observation C A)) → all_said (gs ++ hs) ≡ all_said gs ++ all_said hs
  said_append [] hs = refl
  said_append (g ∷ gs) hs = ap (λ xs. said g ++ xs) (said_append gs hs) ∙ sym (append_assoc (said g) (all_said gs) (all_said hs))

  pub heard_append : (gs hs : List (Observation C A)) → all_heard (gs ++ hs) ≡ all_heard gs ++ all_heard hs
  heard_append [] hs = refl
  heard_append (g ∷ gs) hs = ap (λ xs. heard g ++ xs) (heard_append gs hs) ∙ sym (append_assoc (heard g) (all_heard gs) (all_heard hs))

  pub inputs_append : (ts us : List (Taken C A)) → inputs (ts ++ us) ≡ inputs ts ++ inputs us
  inputs_append [] us = refl
  inputs_append (t ∷ ts) us = ap (λ xs. t.input ∷ xs) (inputs_append ts us)

  pub written_append : (ts us : List (Taken C A)) → written (ts ++ us) ≡ written ts ++ written us
  written_append [] us = refl
  written_append (t ∷ ts) us = by_mark (written_append ts us) t.written
    where
      by_mark : written (ts ++ us) ≡ written ts ++ written us → (w : Bool) → (if w then t.input ∷ written (ts ++ us) else written (ts ++ us)) ≡ (if w then t.input ∷ written ts else written ts) ++ written us
      by_mark more true = ap (λ xs. t.input ∷ xs) more
      by_mark more false = more

module _ {C A : Type 0} (f i : ℕ) (answer : List C → A) where
  abbrev Right : KnownState C → List (Observation C A) → Type 0
  Right k gs = AreObservations f i answer k gs

  abbrev Last : KnownState C → List (Observation C A) → KnownState C
  Last k gs = last_known_state f i answer k gs

  abbrev again : ReplicaState C → List (Input C A) → ReplicaState C
  again r xs = replayed f i answer r xs

  pub replayed_append : (r : ReplicaState C) (xs ys : List (Input C A)) → again r (xs ++ ys) ≡ again (again r xs) ys
  replayed_append r [] ys = refl
  replayed_append r (x ∷ xs) ys = replayed_append (acts f i answer r x).replica xs ys

  pub sends_append : (r : ReplicaState C) (xs ys : List (Input C A)) → all_sends f i answer r (xs ++ ys) ≡ all_sends f i answer r xs ++ all_sends f i answer (again r xs) ys
  sends_append r [] ys = refl
  sends_append r (x ∷ xs) ys =
      ap (λ zs. (acts f i answer r x).sends ++ zs) (sends_append (acts f i answer r x).replica xs ys)
      ∙ sym (append_assoc (acts f i answer r x).sends (all_sends f i answer (acts f i answer r x).replica xs) (all_sends f i answer (again (acts f i answer r x).replica xs) ys))

  pub did_said : (r : ReplicaState C) (xs : List (Input C A)) → all_said (did f i answer r xs) ≡ all_sends f i answer r xs
  did_said r [] = refl
  did_said r (x ∷ xs) = ap (λ zs. (acts f i answer r x).sends ++ zs) (did_said (acts f i answer r x).replica xs)

  pub did_heard : (r : ReplicaState C) (xs : List (Input C A)) → all_heard (did f i answer r xs) ≡ xs
  did_heard r [] = refl
  did_heard r (x ∷ xs) = ap (λ zs. x ∷ zs) (did_heard (acts f i answer r x).replica xs)

  pub did_done : (r : ReplicaState C) (xs : List (Input C A)) → AllByRecursion IsDone (did f i answer r xs)
  did_done r [] = tt
  did_done r (x ∷ xs) = (tt, did_done (acts f i answer r x).replica xs)

  pub did_right : (k : KnownState C) (xs : List (Input C A)) → Right k (did f i answer k.replica xs)
  did_right k [] = tt
  did_right k (x ∷ xs) = (refl, did_right (next f i answer k (Did x (acts f i answer k.replica x).sends)) xs)

  pub did_ends : (k : KnownState C) (xs : List (Input C A)) → (Last k (did f i answer k.replica xs)).replica ≡ again k.replica xs
  did_ends k [] = refl
  did_ends k (x ∷ xs) = did_ends (next f i answer k (Did x (acts f i answer k.replica x).sends)) xs

  pub right_append : (k : KnownState C) (gs hs : List (Observation C A)) → Right k gs → Right (Last k gs) hs → Right k (gs ++ hs)
  right_append k [] hs a b = b
  right_append k (g ∷ gs) hs a b = (a.0, right_append (next f i answer k g) gs hs a.1 b)

  pub last_append : (k : KnownState C) (gs hs : List (Observation C A)) → Last k (gs ++ hs) ≡ Last (Last k gs) hs
  last_append k [] hs = refl
  last_append k (g ∷ gs) hs = last_append (next f i answer k g) gs hs

  right_from : (k : KnownState C) (r : ReplicaState C) (xs : List (Input C A)) → k.replica ≡ r → Right k (did f i answer r xs)
  right_from k r xs e = subst (λ (q : ReplicaState C). Right k (did f i answer q xs)) e (did_right k xs)

  ends_from : (k : KnownState C) (r : ReplicaState C) (xs : List (Input C A)) → k.replica ≡ r → (Last k (did f i answer r xs)).replica ≡ again r xs
  ends_from k r xs e = subst (λ (q : ReplicaState C). (Last k (did f i answer q xs)).replica ≡ again q xs) e (did_ends k xs)

  -- These observations lead to this replica; what it handed out was said by then; and what they heard was taken up, in
  -- the steps or before them.
  record Lives (k : KnownState C) (before : List (Message C A)) (open_inputs : List (Input C A)) (gs : List (Observation C A)) (out : List (Message C A)) (took : List (Input C A))
      (e : Durable C A) : Type 0 where
    pub right : Right k gs
    pub done : AllByRecursion IsDone gs
    pub stands : (Last k gs).replica ≡ durable f i answer e
    pub now : e.now ≡ again (durable f i answer e) (inputs e.unflushed)
    pub told : (m : Message C A) → Contains out m → Contains (before ++ all_said gs) m
    pub heard : (x : Input C A) → Contains (all_heard gs) x → Contains (open_inputs ++ took) x

  joins : (k : KnownState C) (before : List (Message C A)) (was now : List (Input C A)) (gs hs : List (Observation C A)) (out more : List (Message C A)) (took : List (Input C A)) (e : Durable C A)
      → Right k gs → AllByRecursion IsDone gs → ((m : Message C A) → Contains out m → Contains (before ++ all_said gs) m) → ((x : Input C A) → Contains (all_heard gs) x → Contains was x)
      → ((x : Input C A) → Contains now x → Contains was x) → Lives (Last k gs) (before ++ all_said gs) now hs more took e → Lives k before was (gs ++ hs) (out ++ more) took e
  joins k before was now gs hs out more took e right done told heard narrower rest =
      let said_both : (before ++ all_said gs) ++ all_said hs ≡ before ++ all_said (gs ++ hs) =
      append_assoc before (all_said gs) (all_said hs) ∙ ap (λ xs. before ++ xs) (sym (said_append gs hs)) in
      record {
        right = right_append k gs hs right rest.right;
        done = done_append gs hs done rest.done;
        stands = ap (λ (n : KnownState C). n.replica) (last_append k gs hs) ∙ rest.stands;
        now = rest.now;
        told = λ m here. subst (λ (xs : List (Message C A)). Contains xs m) said_both (elim (Contains-append_cases out more m here) [
          | inl h ↦ Contains-append_left (before ++ all_said gs) (all_said hs) m (told m h)
          | inr h ↦ rest.told m h
        ]);
        heard = λ x here. elim (Contains-append_cases (all_heard gs) (all_heard hs) x (subst (λ (xs : List (Input C A)). Contains xs x) (heard_append gs hs) here)) [
          | inl h ↦ Contains-append_left was took x (heard x h)
          | inr h ↦ elim (Contains-append_cases now took x (rest.heard x h)) [
            | inl n ↦ Contains-append_left was took x (narrower x n)
            | inr t ↦ Contains-append_right was took x t
          ]
        ];
      }

  -- In memory it is what its store has and what it took up since, written down or not, and what it holds it said, or says
  -- by that.
  record IsSound (before : List (Message C A)) (d : Durable C A) : Type 0 where
    pub now : d.now ≡ again (durable f i answer d) (inputs d.unflushed)
    pub same : again (durable f i answer d) (written d.unflushed) ≡ again (durable f i answer d) (inputs d.unflushed)
    pub told : (m : Message C A) → Contains d.held m → Contains (before ++ all_sends f i answer (durable f i answer d) (inputs d.unflushed)) m

  took_one : (before : List (Message C A)) (d : Durable C A) (x : Input C A) (w : Bool) → MayDurable f i answer d (TakesUp x w) → IsSound before d
      → IsSound before (durable_after f i answer d (TakesUp x w))
  took_one before d x w may sound =
      let t : Taken C A = record { input = x; written = w } in
      let r : ReplicaState C = durable f i answer d in
      let xs : List (Input C A) = inputs d.unflushed in
      let all : inputs (d.unflushed ++ t ∷ []) ≡ xs ++ x ∷ [] = inputs_append d.unflushed (t ∷ []) in
      let now_is : (acts f i answer d.now x).replica ≡ again r (inputs (d.unflushed ++ t ∷ [])) =
      ap (λ (q : ReplicaState C). (acts f i answer q x).replica) sound.now ∙ sym (replayed_append r xs (x ∷ [])) ∙ sym (ap (λ (ys : List (Input C A)). again r ys) all) in
      let sends_are : all_sends f i answer r xs ++ (acts f i answer d.now x).sends ≡ all_sends f i answer r (inputs (d.unflushed ++ t ∷ [])) =
      ap (λ (q : ReplicaState C). all_sends f i answer r xs ++ (acts f i answer q x).sends) sound.now
      ∙ ap (λ (ys : List (Message C A)). all_sends f i answer r xs ++ ys) (sym (append-nil (acts f i answer (again r xs) x).sends))
      ∙ sym (sends_append r xs (x ∷ [])) ∙ sym (ap (λ (ys : List (Input C A)). all_sends f i answer r ys) all) in
      let all_are : (before ++ all_sends f i answer r xs) ++ (acts f i answer d.now x).sends ≡ before ++ all_sends f i answer r (inputs (d.unflushed ++ t ∷ [])) =
      append_assoc before (all_sends f i answer r xs) (acts f i answer d.now x).sends ∙ ap (λ ys. before ++ ys) sends_are in
      record {
        now = now_is;
        same = by_mark w may (written_append d.unflushed (t ∷ [])) now_is;
        told = λ m here. subst (λ (ys : List (Message C A)). Contains ys m) all_are (elim (Contains-append_cases d.held (acts f i answer d.now x).sends m here) [
          | inl h ↦ Contains-append_left (before ++ all_sends f i answer r xs) (acts f i answer d.now x).sends m (sound.told m h)
          | inr h ↦ Contains-append_right (before ++ all_sends f i answer r xs) (acts f i answer d.now x).sends m h
        ]);
      }
    where
      by_mark : (v : Bool) → MayDurable f i answer d (TakesUp x v)
          → written (d.unflushed ++ record { input = x; written = v } ∷ []) ≡ written d.unflushed ++ written (record { input = x; written = v } ∷ [])
          → (acts f i answer d.now x).replica ≡ again (durable f i answer d) (inputs (d.unflushed ++ record { input = x; written = v } ∷ []))
          → again (durable f i answer d) (written (d.unflushed ++ record { input = x; written = v } ∷ [])) ≡ again (durable f i answer d) (inputs (d.unflushed ++ record { input = x; written = v } ∷ []))
      by_mark true may is now_is =
          ap (λ (ys : List (Input C A)). again (durable f i answer d) ys) is ∙ replayed_append (durable f i answer d) (written d.unflushed) (x ∷ [])
          ∙ ap (λ (q : ReplicaState C). (acts f i answer q x).replica) (sound.same ∙ sym sound.now) ∙ now_is
      by_mark false may is now_is =
          ap (λ (ys : List (Input C A)). again (durable f i answer d) ys) (is ∙ append-nil (written d.unflushed))
          ∙ sound.same ∙ sym sound.now ∙ sym may ∙ now_is

  lives : (ss : List (DurableStep C A)) (k : KnownState C) (before : List (Message C A)) (d : Durable C A) → k.replica ≡ durable f i answer d → IsSound before d → AreDurable f i answer d ss
      → Lives k before (inputs d.unflushed) (all_settled f i answer d ss) (all_handed f i answer d ss) (all_taken ss) (durable_ends f i answer d ss)
  lives [] k before d e sound may = record { right = tt; done = tt; stands = e; now = sound.now; told = λ m here. nothing m here; heard = λ x here. nothing x here }
  lives (TakesUp x w ∷ ss) k before d e sound may =
      let t : Taken C A = record { input = x; written = w } in
      let rest : Lives k before (inputs (d.unflushed ++ t ∷ [])) (all_settled f i answer (durable_after f i answer d (TakesUp x w)) ss) (all_handed f i answer (durable_after f i answer d (TakesUp x w)) ss) (all_taken ss) (durable_ends f i answer (durable_after f i answer d (TakesUp x w)) ss) =
      lives ss k before (durable_after f i answer d (TakesUp x w)) e (took_one before d x w may.0 sound) may.1 in
      record {
        right = rest.right;
        done = rest.done;
        stands = rest.stands;
        now = rest.now;
        told = rest.told;
        heard = λ y here. subst (λ (ys : List (Input C A)). Contains ys y)
            (ap (λ (ys : List (Input C A)). ys ++ all_taken ss) (inputs_append d.unflushed (t ∷ [])) ∙ append_assoc (inputs d.unflushed) (x ∷ []) (all_taken ss)) (rest.heard y here);
      }
  lives (HandsOut ∷ ss) k before d e sound may =
      let r : ReplicaState C = durable f i answer d in
      let xs : List (Input C A) = inputs d.unflushed in
      let gs : List (Observation C A) = did f i answer r xs in
      let d' : Durable C A = durable_after f i answer d HandsOut in
      let kept : durable f i answer d' ≡ again r xs = replayed_append d.base d.kept (written d.unflushed) ∙ sound.same in
      let said_is : before ++ all_sends f i answer r xs ≡ before ++ all_said gs = ap (λ ys. before ++ ys) (sym (did_said r xs)) in
      joins k before xs [] gs (all_settled f i answer d' ss) d.held (all_handed f i answer d' ss) (all_taken ss) (durable_ends f i answer d' ss)
      (right_from k r xs e) (did_done r xs)
      (λ m here. subst (λ (ys : List (Message C A)). Contains ys m) said_is (sound.told m here))
      (λ x here. subst (λ (ys : List (Input C A)). Contains ys x) (did_heard r xs) here)
      (λ x here. nothing x here)
      (lives ss (Last k gs) (before ++ all_said gs) d' (ends_from k r xs e ∙ sym kept)
      (record { now = sound.now ∙ sym kept; same = refl; told = λ m here. nothing m here }) may.1)
  lives (Rebases ∷ ss) k before d e sound may =
      let r : ReplicaState C = durable f i answer d in
      let xs : List (Input C A) = inputs d.unflushed in
      let gs : List (Observation C A) = did f i answer r xs in
      let d' : Durable C A = durable_after f i answer d Rebases in
      let said_is : before ++ all_sends f i answer r xs ≡ before ++ all_said gs = ap (λ ys. before ++ ys) (sym (did_said r xs)) in
      joins k before xs [] gs (all_settled f i answer d' ss) [] (all_handed f i answer d' ss) (all_taken ss) (durable_ends f i answer d' ss)
      (right_from k r xs e) (did_done r xs) (λ m here. nothing m here)
      (λ x here. subst (λ (ys : List (Input C A)). Contains ys x) (did_heard r xs) here)
      (λ x here. nothing x here)
      (lives ss (Last k gs) (before ++ all_said gs) d' (ends_from k r xs e ∙ sym sound.now)
      (record {
        now = refl;
        same = refl;
        told = λ m here. Contains-append_left (before ++ all_said gs) [] m (subst (λ (ys : List (Message C A)). Contains ys m) said_is (sound.told m here));
      }) may.1)
  lives (PowerCut survives ∷ ss) k before d e sound may =
      let r : ReplicaState C = durable f i answer d in
      let xs : List (Input C A) = surviving survives 0 (written d.unflushed) in
      let gs : List (Observation C A) = did f i answer r xs in
      let d' : Durable C A = durable_after f i answer d (PowerCut survives) in
      let kept : durable f i answer d' ≡ again r xs = replayed_append d.base d.kept xs in
      joins k before (inputs d.unflushed) [] gs (all_settled f i answer d' ss) [] (all_handed f i answer d' ss) (all_taken ss) (durable_ends f i answer d' ss)
      (right_from k r xs e) (did_done r xs) (λ m here. nothing m here)
      (λ x here. written_is_taken d.unflushed x (surviving_is_among survives 0 (written d.unflushed) x (subst (λ (ys : List (Input C A)). Contains ys x) (did_heard r xs) here)))
      (λ x here. nothing x here)
      (lives ss (Last k gs) (before ++ all_said gs) d' (ends_from k r xs e ∙ sym kept)
      (record { now = sym kept; same = refl; told = λ m here. nothing m here }) may.1)

  pub unbroken : (k : KnownState C) (ss : List (DurableStep C A)) → AreDurable f i answer (begun k.replica) ss → IsUnbroken f i answer k (begun k.replica) ss
  unbroken k ss may =
      let it : Lives k [] [] (all_settled f i answer (begun k.replica) ss) (all_handed f i answer (begun k.replica) ss) (all_taken ss) (durable_ends f i answer (begun k.replica) ss) =
      lives ss k [] (begun k.replica) refl (record { now = refl; same = refl; told = λ m here. nothing m here }) may in
      record { right = it.right; done = it.done; stands = it.stands; now = it.now; said = it.told; heard = it.heard }
