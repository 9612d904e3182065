-- One machine: what is settled by each of its deeds is right, and its life goes on from that.
use Rattle.std.proofs.Common.{◌≡◌, ℕ, ◌+◌, Bool, true, false, if◌then◌else◌, List, [], ◌∷◌, ◌++◌, refl, sym, ap, ◌∙◌, subst, append_assoc, inl, inr}
use Rattle.std.specs.List.{Contains}
use Rattle.std.proofs.lemmas.List.{append-nil}
use Rattle.std.proofs.lemmas.List.Elements.{Contains-append_left, Contains-append_right, Contains-append_cases}
use Rattle.vr_model.specs.Messages.{Message}
use Rattle.vr_model.specs.Replicas.{ReplicaState}
use Rattle.vr_model.specs.Steps.{Input, acts}
use Rattle.vr_model.specs.Stores.{KnownState, AreObservations, last_known_state}
use Rattle.laws_pauses.specs.Pauses as pauses
use Rattle.laws_pauses.specs.Pauses.{Taken, MayDurable, inputs, written, surviving, all_said, said, replayed, all_sends, did, durable, durable_after}
use Rattle.laws_pauses.proofs.Lives.{nothing, inputs_append, written_append, replayed_append, sends_append, did_said, did_right, did_ends}
use Rattle.laws_durable.specs.Machines.{Deed, TakesUp, HandsOut, Rebases, Resumes, Shows, Machine, leaves, settles, machine_after, MayDo}
use Rattle.laws_durable.specs.DurableMoves.{TakesHanded, DeedTakesHanded}
use Rattle.laws_durable.proofs.Settling.{AllShowHanded, takes_more}

module _ {C A : Type 0} where
  abbrev pub AllTake : List (Message C A) → ℕ → List (Input C A) → Type 0
  AllTake sent i [] = Unit {0}
  AllTake sent i (x ∷ xs) = TakesHanded sent i x × AllTake sent i xs

  takes_append : (sent : List (Message C A)) (i : ℕ) (xs ys : List (Input C A)) → AllTake sent i xs → AllTake sent i ys → AllTake sent i (xs ++ ys)
  takes_append sent i [] ys a b = b
  takes_append sent i (x ∷ xs) ys a b = (a.0, takes_append sent i xs ys a.1 b)

  pub all_take_more : (sent more : List (Message C A)) (i : ℕ) (xs : List (Input C A)) → AllTake sent i xs → AllTake (sent ++ more) i xs
  all_take_more sent more i [] h = tt
  all_take_more sent more i (x ∷ xs) h = (takes_more sent more i x h.0, all_take_more sent more i xs h.1)

  written_take : (sent : List (Message C A)) (i : ℕ) (ts : List (Taken C A)) → AllTake sent i (inputs ts) → AllTake sent i (written ts)
  written_take sent i [] h = tt
  written_take sent i (t ∷ ts) h = by_mark (written_take sent i ts h.1) t.written
    where
      by_mark : AllTake sent i (written ts) → (w : Bool) → AllTake sent i (if w then t.input ∷ written ts else written ts)
      by_mark later true = (h.0, later)
      by_mark later false = later

  surviving_take : (sent : List (Message C A)) (i : ℕ) (survives : ℕ → Bool) (n : ℕ) (xs : List (Input C A)) → AllTake sent i xs → AllTake sent i (surviving survives n xs)
  surviving_take sent i survives n [] h = tt
  surviving_take sent i survives n (x ∷ xs) h = by_place (surviving_take sent i survives (n + 1) xs h.1) (survives n)
    where
      by_place : AllTake sent i (surviving survives (n + 1) xs) → (b : Bool) → AllTake sent i (if b then x ∷ surviving survives (n + 1) xs else surviving survives (n + 1) xs)
      by_place later true = (h.0, later)
      by_place later false = later

module _ {C A : Type 0} (f i : ℕ) (answer : List C → A) where
  did_take : (sent : List (Message C A)) (r : ReplicaState C) (xs : List (Input C A)) → AllTake sent i xs → AllShowHanded sent i (did f i answer r xs)
  did_take sent r [] h = tt
  did_take sent r (x ∷ xs) h = (h.0, did_take sent (acts f i answer r x).replica xs h.1)

  right_from : (k : KnownState C) (r : ReplicaState C) (xs : List (Input C A)) → k.replica ≡ r → AreObservations f i answer k (did f i answer r xs)
  right_from k r xs e = subst (λ (q : ReplicaState C). AreObservations f i answer k (did f i answer q xs)) e (did_right f i answer k xs)

  ends_from : (k : KnownState C) (r : ReplicaState C) (xs : List (Input C A)) → k.replica ≡ r → (last_known_state f i answer k (did f i answer r xs)).replica ≡ replayed f i answer r xs
  ends_from k r xs e = subst (λ (q : ReplicaState C). (last_known_state f i answer k (did f i answer q xs)).replica ≡ replayed f i answer q xs) e (did_ends f i answer k xs)

  -- What is settled of it is what its store makes of it; in memory it's that, with what it took up since; what it holds
  -- was said, or is by that; and what it took up left its sender before.
  pub record IsSound (m : Machine C A) (sent : List (Message C A)) : Type 0 where
    pub stands : m.known.replica ≡ durable f i answer m.life
    pub now : m.life.now ≡ replayed f i answer (durable f i answer m.life) (inputs m.life.unflushed)
    pub same : replayed f i answer (durable f i answer m.life) (written m.life.unflushed) ≡ replayed f i answer (durable f i answer m.life) (inputs m.life.unflushed)
    pub told : (x : Message C A) → Contains m.life.held x → Contains (sent ++ all_sends f i answer (durable f i answer m.life) (inputs m.life.unflushed)) x
    pub heard : AllTake sent i (inputs m.life.unflushed)

  -- a deed settles what is right, hands out what was said, and leaves it so
  pub record IsDone (m : Machine C A) (sent : List (Message C A)) (d : Deed C A) : Type 0 where
    pub right : AreObservations f i answer m.known (settles f i answer m d)
    pub takes : AllShowHanded sent i (settles f i answer m d)
    pub sound : IsSound (machine_after f i answer m d) (sent ++ all_said (settles f i answer m d))
    pub told : (x : Message C A) → Contains (leaves m d) x → Contains (sent ++ all_said (settles f i answer m d)) x

  -- what was sent grows
  pub still_sound : (m : Machine C A) (sent more : List (Message C A)) → IsSound m sent → IsSound m (sent ++ more)
  still_sound m sent more s = record {
    stands = s.stands;
    now = s.now;
    same = s.same;
    told = λ x here. elim (Contains-append_cases sent (all_sends f i answer (durable f i answer m.life) (inputs m.life.unflushed)) x (s.told x here)) [
      | inl h ↦ Contains-append_left (sent ++ more) (all_sends f i answer (durable f i answer m.life) (inputs m.life.unflushed)) x (Contains-append_left sent more x h)
      | inr h ↦ Contains-append_right (sent ++ more) (all_sends f i answer (durable f i answer m.life) (inputs m.life.unflushed)) x h
    ];
    heard = all_take_more sent more i (inputs m.life.unflushed) s.heard;
  }

  module _ (m : Machine C A) (sent : List (Message C A)) (s : IsSound m sent) where
    abbrev r : ReplicaState C
    r = durable f i answer m.life

    abbrev xs : List (Input C A)
    xs = inputs m.life.unflushed

    took : (x : Input C A) (w : Bool) → MayDurable f i answer m.life (pauses.TakesUp x w) → TakesHanded sent i x → IsSound (machine_after f i answer m (TakesUp x w)) sent
    took x w may takes = record {
      stands = s.stands;
      now = now_is;
      same = by_mark w may (written_append m.life.unflushed (t ∷ []));
      told = λ y here. subst (λ (ys : List (Message C A)). Contains ys y) all_are (elim (Contains-append_cases m.life.held (acts f i answer m.life.now x).sends y here) [
        | inl h ↦ Contains-append_left (sent ++ all_sends f i answer r xs) (acts f i answer m.life.now x).sends y (s.told y h)
        | inr h ↦ Contains-append_right (sent ++ all_sends f i answer r xs) (acts f i answer m.life.now x).sends y h
      ]);
      heard = subst (λ (ys : List (Input C A)). AllTake sent i ys) (sym all) (takes_append sent i xs (x ∷ []) s.heard (takes, tt));
    }
      where
        t : Taken C A
        t = record { input = x; written = w }

        all : inputs (m.life.unflushed ++ t ∷ []) ≡ xs ++ x ∷ []
        all = inputs_append m.life.unflushed (t ∷ [])

        now_is : (acts f i answer m.life.now x).replica ≡ replayed f i answer r (inputs (m.life.unflushed ++ t ∷ []))
        now_is = ap (λ (q : ReplicaState C). (acts f i answer q x).replica) s.now ∙ sym (replayed_append f i answer r xs (x ∷ [])) ∙ sym (ap (λ (ys : List (Input C A)). replayed f i answer r ys) all)

        sends_are : all_sends f i answer r xs ++ (acts f i answer m.life.now x).sends ≡ all_sends f i answer r (inputs (m.life.unflushed ++ t ∷ []))
        sends_are =
            ap (λ (q : ReplicaState C). all_sends f i answer r xs ++ (acts f i answer q x).sends) s.now
            ∙ ap (λ (ys : List (Message C A)). all_sends f i answer r xs ++ ys) (sym (append-nil (acts f i answer (replayed f i answer r xs) x).sends))
            ∙ sym (sends_append f i answer r xs (x ∷ [])) ∙ sym (ap (λ (ys : List (Input C A)). all_sends f i answer r ys) all)

        all_are : (sent ++ all_sends f i answer r xs) ++ (acts f i answer m.life.now x).sends ≡ sent ++ all_sends f i answer r (inputs (m.life.unflushed ++ t ∷ []))
        all_are = append_assoc sent (all_sends f i answer r xs) (acts f i answer m.life.now x).sends ∙ ap (λ ys. sent ++ ys) sends_are

        by_mark : (v : Bool) → MayDurable f i answer m.life (pauses.TakesUp x v)
            → written (m.life.unflushed ++ record { input = x; written = v } ∷ []) ≡ written m.life.unflushed ++ written (record { input = x; written = v } ∷ [])
            → replayed f i answer r (written (m.life.unflushed ++ record { input = x; written = v } ∷ [])) ≡ replayed f i answer r (inputs (m.life.unflushed ++ t ∷ []))
        by_mark true can is =
            ap (λ (ys : List (Input C A)). replayed f i answer r ys) is ∙ replayed_append f i answer r (written m.life.unflushed) (x ∷ [])
            ∙ ap (λ (q : ReplicaState C). (acts f i answer q x).replica) (s.same ∙ sym s.now) ∙ now_is
        by_mark false can is =
            ap (λ (ys : List (Input C A)). replayed f i answer r ys) (is ∙ append-nil (written m.life.unflushed))
            ∙ s.same ∙ sym s.now ∙ sym can ∙ now_is

    -- what it holds is said where all that it took up is settled
    held_said : (x : Message C A) → Contains m.life.held x → Contains (sent ++ all_said (did f i answer r xs)) x
    held_said x here = subst (λ (ys : List (Message C A)). Contains ys x) (ap (λ ys. sent ++ ys) (sym (did_said f i answer r xs))) (s.told x here)

    pub done : (d : Deed C A) → MayDo f i answer m d → DeedTakesHanded sent i d → IsDone m sent d
    done (TakesUp x w) may takes = record {
      right = tt;
      takes = tt;
      sound = subst (λ (ys : List (Message C A)). IsSound (machine_after f i answer m (TakesUp x w)) ys) (sym (append-nil sent)) (took x w may takes);
      told = λ y here. nothing y here;
    }
    done HandsOut may takes =
        let kept : durable f i answer (durable_after f i answer m.life pauses.HandsOut) ≡ replayed f i answer r xs = replayed_append f i answer m.life.base m.life.kept (written m.life.unflushed) ∙ s.same in
        record {
          right = right_from m.known r xs s.stands;
          takes = did_take sent r xs s.heard;
          sound = record {
            stands = ends_from m.known r xs s.stands ∙ sym kept;
            now = s.now ∙ sym kept;
            same = refl;
            told = λ y here. nothing y here;
            heard = tt;
          };
          told = held_said;
        }
    done Rebases may takes = record {
      right = right_from m.known r xs s.stands;
      takes = did_take sent r xs s.heard;
      sound = record {
        stands = ends_from m.known r xs s.stands ∙ sym s.now;
        now = refl;
        same = refl;
        told = λ y here. Contains-append_left (sent ++ all_said (did f i answer r xs)) [] y (held_said y here);
        heard = tt;
      };
      told = λ y here. nothing y here;
    }
    done (Resumes survives base ys) may takes =
        let left : List (Input C A) = surviving survives 0 (written m.life.unflushed) in
        let read : replayed f i answer base ys ≡ replayed f i answer r left =
        ap (λ (q : ReplicaState C). replayed f i answer q ys) may.base_is ∙ ap (λ (zs : List (Input C A)). replayed f i answer m.life.base zs) may.inputs_are
        ∙ replayed_append f i answer m.life.base m.life.kept left in
        record {
          right = right_from m.known r left s.stands;
          takes = did_take sent r left (surviving_take sent i survives 0 (written m.life.unflushed) (written_take sent i m.life.unflushed s.heard));
          sound = record {
            stands = ends_from m.known r left s.stands ∙ sym read;
            now = refl;
            same = refl;
            told = λ y here. nothing y here;
            heard = tt;
          };
          told = λ y here. nothing y here;
        }
    done (Shows g) may takes = record {
      right = (may, tt);
      takes = (takes, tt);
      sound = record { stands = refl; now = refl; same = refl; told = λ y here. nothing y here; heard = tt };
      told = λ y here. Contains-append_right sent (said g ++ []) y (subst (λ (ys : List (Message C A)). Contains ys y) (sym (append-nil (said g))) here);
    }
