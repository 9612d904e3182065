-- Each move of the code as a deed of its machine, or as none.
use Rattle.std.proofs.Common.{◌≡◌, ℕ, ◌<◌, true, List, [], ◌∷◌, ◌++◌, Option, Some, None, inl, inr, refl, sym, ap, ◌∙◌, subst, append-nil}
use Rattle.std.proofs.lemmas.Option.{same_Some}
use Rattle.il_model.specs.declared.command.Command.{Command}
use Rattle.il_model.specs.declared.command.Answer.{Answer}
use Rattle.vr_model.specs.declared.message.Message as sent
use Rattle.vr_model.specs.Groups.{group_size}
use Rattle.vr_model.specs.Membership.{Group, Membership, member}
use Rattle.vr_model.specs.Messages.{Message}
use Rattle.vr_model.specs.Replicas.{put}
use Rattle.vr_model.specs.StandsFor.{AllStand}
use Rattle.vr_model.specs.Steps.{Input, ClientStep, client_after, client_sends, first_client, MayClient}
use Rattle.vr_model.specs.World.{ClientState, first_replica}
use Rattle.laws_pauses.specs.Pauses as pauses
use Rattle.laws_pauses.specs.Pauses.{begun, replayed, surviving, written}
use Rattle.laws_threads.proofs.Tables.{put_same, put_other, put_cases}
use Rattle.vr_core.specs.StandsFor.{IsSavedAs}
use Rattle.vr_replica.specs.Standing.{StandsFor}
use Rattle.vr_durable.specs.declared.durable.Durable.{Durable}
use Rattle.vr_durable.specs.Standing.{Stands, WereSaid}
use Rattle.laws_durable.specs.Machines as machines
use Rattle.laws_durable.specs.Machines.{Deed, Machine, first_machine, leaves, machine_after, MayDo}
use Rattle.laws_durable.specs.DurableMoves as moves
use Rattle.laws_durable.specs.DurableMoves.{DurableMove, AreDurableMoves, AreOneRun, DeedTakesHanded, machines_after, machine_behind, all_handed}
use Rattle.laws_durable_calls.specs.CodeOfDurables.{Happening, Began, TookUp, HandedOut, Stayed, Rebased, Resumed, CodeMove, OfMachine, OfClient, left_by, handed_in, handed_by, values_with, clients_with, clients_from, At, Happens, IsByClause, MayBe, AreMovesOf, AreFromTheStart, values_after, clients_behind, all_out, ShowAsOneRun}
use Rattle.laws_durable_calls.proofs.Appending.{moves_more, machines_more, clients_more, handed_more}

abbrev IsThere : {X : Type 0} → Option X → Type 0
IsThere None = ⊥
IsThere (Some x) = Unit {0}

no_value : {X : Type 0} (x : X) → Some x ≡ None → ⊥
no_value {X} x e = subst (λ (o : Option X). IsThere o) e tt

said_all : (m : Membership) (hs : List sent.Message) (xs : List (Message Command Answer)) → WereSaid m hs xs → AllStand IsSavedAs m.group hs xs
said_all m [] [] said = tt
said_all m [] (x ∷ xs) said = absurd said
said_all m (a ∷ hs) [] said = absurd said
said_all m (a ∷ hs) (x ∷ xs) said = (said.0.1.stands, said_all m hs xs said.1)

all_append : (g : Group) (hs bs : List sent.Message) (xs ys : List (Message Command Answer)) → AllStand IsSavedAs g hs xs → AllStand IsSavedAs g bs ys → AllStand IsSavedAs g (hs ++ bs) (xs ++ ys)
all_append g [] bs [] ys a b = b
all_append g [] bs (x ∷ xs) ys a b = absurd a
all_append g (s ∷ hs) bs [] ys a b = absurd a
all_append g (s ∷ hs) bs (x ∷ xs) ys a b = (a.0, all_append g hs bs xs ys a.1 b)

module _ (g : Group) (values : ℕ → Option Durable) (clients : ℕ → ClientState Command) (out : List sent.Message) (ms : List (DurableMove Command Answer)) (at : At g values clients out ms) where
  abbrev here : ℕ → Machine Command Answer
  here = machines_after g.f g.answer (λ k. first_machine) ms

  -- where a move leads
  abbrev Next : CodeMove → Type 0
  Next c = (more : List (DurableMove Command Answer)) × At g (values_with values c) (clients_with g clients c) (out ++ handed_by c) more

  -- by a deed of its machine
  module _ (i : ℕ) (low : i < group_size g.f) (d : Deed Command Answer) (v : Durable) (o : List sent.Message) (may : MayDo g.f i g.answer (here i) d) (takes : DeedTakesHanded (all_handed g.f g.answer ms) i d)
      (stands : Stands v (member g i) (machine_after g.f i g.answer (here i) d).life) (said : AllStand IsSavedAs g o (leaves (here i) d)) where
    abbrev then : Machine Command Answer
    then = machine_after g.f i g.answer (here i) d

    abbrev all : List (DurableMove Command Answer)
    all = ms ++ moves.OfMachine i d ∷ []

    behind_is : (j : ℕ) → machine_behind g.f g.answer all j ≡ put here i then j
    behind_is j = machines_more g (λ k. first_machine) ms (moves.OfMachine i d) j

    stands_then : (j : ℕ) (e : Durable) → put values i (Some v) j ≡ Some e → Stands e (member g j) (put here i then j).life
    stands_then j e is = put_cases here i then j (λ (n : Machine Command Answer). Stands e (member g j) n.life)
        (λ eq. subst (λ (k : ℕ). Stands e (member g k) then.life) (sym eq) (subst (λ (x : Durable). Stands x (member g i) then.life) (same_Some v e (sym (put_same values i (Some v) j eq) ∙ is)) stands))
        (λ ne. at.stands j e (sym (put_other values i (Some v) j ne) ∙ is))

    unstarted_then : (j : ℕ) → put values i (Some v) j ≡ None → (put here i then j).life ≡ begun first_replica
    unstarted_then j is = put_cases here i then j (λ (n : Machine Command Answer). n.life ≡ begun first_replica)
        (λ eq. absurd (no_value v (sym (put_same values i (Some v) j eq) ∙ is)))
        (λ ne. at.unstarted j (sym (put_other values i (Some v) j ne) ∙ is))

    handed_is : all_handed g.f g.answer all ≡ all_handed g.f g.answer ms ++ leaves (here i) d
    handed_is = handed_more g (λ k. first_machine) ms (moves.OfMachine i d) ∙ ap (λ (hs : List (Message Command Answer)). all_handed g.f g.answer ms ++ hs) (append-nil (leaves (here i) d))

    by_deed : At g (put values i (Some v)) clients (out ++ o) all
    by_deed = record {
      right = moves_more g (λ k. first_machine) (λ c. first_client) [] ms (moves.OfMachine i d) at.right (low, may, takes, tt);
      stands = λ j e is. subst (λ (n : Machine Command Answer). Stands e (member g j) n.life) (sym (behind_is j)) (stands_then j e is);
      unstarted = λ j is. subst (λ (n : Machine Command Answer). n.life ≡ begun first_replica) (sym (behind_is j)) (unstarted_then j is);
      client = λ c. clients_more g (λ k. first_client) ms (moves.OfMachine i d) c ∙ at.client c;
      said = subst (λ (hs : List (Message Command Answer)). AllStand IsSavedAs g (out ++ o) hs) (sym handed_is) (all_append g out o (all_handed g.f g.answer ms) (leaves (here i) d) at.said said);
    }

  -- by none: its value is another one, which stands for the same life
  silent : (i : ℕ) (v : Durable) → Stands v (member g i) (here i).life → At g (put values i (Some v)) clients (out ++ []) ms
  silent i v stands = record {
    right = at.right;
    stands = λ j e is. put_cases values i (Some v) j (λ (o : Option Durable). o ≡ Some e → Stands e (member g j) (here j).life)
        (λ eq h. subst (λ (k : ℕ). Stands e (member g k) (here k).life) (sym eq) (subst (λ (x : Durable). Stands x (member g i) (here i).life) (same_Some v e h) stands))
        (λ ne h. at.stands j e h) is;
    unstarted = λ j is. put_cases values i (Some v) j (λ (o : Option Durable). o ≡ None → (here j).life ≡ begun first_replica)
        (λ eq h. absurd (no_value v h)) (λ ne h. at.unstarted j h) is;
    client = at.client;
    said = subst (λ (os : List sent.Message). AllStand IsSavedAs g os (all_handed g.f g.answer ms)) (sym (append-nil out)) at.said;
  }

  happened : (before : Option Durable) (i : ℕ) (low : i < group_size g.f) (h : Happening) → values i ≡ before → Happens g before i h → MayBe g ms (OfMachine i h) → Next (OfMachine i h)
  happened None i low (Began new) is stands may = (ms, silent i new (subst (λ (p : pauses.Durable Command Answer). Stands new (member g i) p) (sym (at.unstarted i is)) stands))
  happened None i low (TookUp e new) is none may = absurd none
  happened None i low (HandedOut o new) is none may = absurd none
  happened None i low (Stayed new) is none may = absurd none
  happened None i low (Rebased new) is none may = absurd none
  happened None i low (Resumed survives core marks log es new) is none may = absurd none
  happened (Some d) i low (Began new) is none may = absurd none
  happened (Some d) i low (TookUp e new) is takes may = (
    ms ++ moves.OfMachine i (machines.TakesUp may.0 true) ∷ [],
    by_deed i low (machines.TakesUp may.0 true) new [] tt may.2 (takes (member g i) (here i).life may.0 (at.stands i d is) may.1) tt,
  )
  happened (Some d) i low (HandedOut o new) is hands may = elim (hands (member g i) (here i).life (at.stands i d is)) [
    | inl none ↦ (ms, subst (λ (os : List sent.Message). At g (put values i (Some new)) clients (out ++ os) ms) (sym none.0) (silent i new none.1))
    | inr all_of ↦ (
      ms ++ moves.OfMachine i machines.HandsOut ∷ [],
      by_deed i low machines.HandsOut new o tt tt all_of.1 (said_all (member g i) o (here i).life.held all_of.0),
    )
  ]
  happened (Some d) i low (Stayed new) is stays may = (ms, silent i new (stays (member g i) (here i).life (at.stands i d is)))
  happened (Some d) i low (Rebased new) is stays may =
      let s : Stands new (member g i) (here i).life = stays (member g i) (here i).life (at.stands i d is) in
      (ms ++ moves.OfMachine i machines.Rebases ∷ [], by_deed i low machines.Rebases new [] tt tt (record { now = s.now; held = s.held }) tt)
  happened (Some d) i low (Resumed survives core marks log es new) is call reads =
      let life : pauses.Durable Command Answer = (here i).life in
      let left : List (Input Command Answer) = life.kept ++ surviving survives 0 (written life.unflushed) in
      let goes_on : StandsFor new.replica (member g i) (replayed g.f i g.answer life.base left) = call.2 (member g i) life.base left call.0 reads.base reads.inputs in (
        ms ++ moves.OfMachine i (machines.Resumes survives life.base left) ∷ [],
        by_deed i low (machines.Resumes survives life.base left) new [] (record { base_is = refl; inputs_are = refl }) tt
            (record { now = goes_on; held = subst (λ (hs : List sent.Message). WereSaid (member g i) hs []) (sym call.1) tt }) tt,
      )

  -- a client's step
  module _ (c : ℕ) (d : ClientStep Command Answer) (o : List sent.Message) (by : IsByClause g values clients (OfClient c d o)) (hears : MayBe g ms (OfClient c d o)) where
    abbrev with_step : List (DurableMove Command Answer)
    with_step = ms ++ moves.OfClient c d ∷ []

    abbrev were : ℕ → ClientState Command
    were = clients_from g (λ k. first_client) ms

    client_then : (j : ℕ) → put were c (client_after g.f c g.answer (were c) d.action) j ≡ put clients c (client_after g.f c g.answer (clients c) d.action) j
    client_then j = put_cases clients c (client_after g.f c g.answer (clients c) d.action) j (λ (k : ClientState Command). put were c (client_after g.f c g.answer (were c) d.action) j ≡ k)
        (λ eq. put_same were c (client_after g.f c g.answer (were c) d.action) j eq ∙ ap (λ (k : ClientState Command). client_after g.f c g.answer k d.action) (at.client c))
        (λ ne. put_other were c (client_after g.f c g.answer (were c) d.action) j ne ∙ at.client j)

    sent_is : all_handed g.f g.answer with_step ≡ all_handed g.f g.answer ms ++ d.sends
    sent_is = handed_more g (λ k. first_machine) ms (moves.OfClient c d) ∙ ap (λ (hs : List (Message Command Answer)). all_handed g.f g.answer ms ++ hs) (append-nil d.sends)

    by_client : Next (OfClient c d o)
    by_client = (
      with_step,
      record {
        right = moves_more g (λ k. first_machine) (λ k. first_client) [] ms (moves.OfClient c d) at.right (
          subst (λ (k : ClientState Command). MayClient g.f c g.answer k d.action) (sym (at.client c)) by.0,
          subst (λ (k : ClientState Command). d.sends ≡ client_sends g.f c g.answer k d.action) (sym (at.client c)) by.1,
          hears,
          tt,
        );
        stands = λ i e is. subst (λ (n : Machine Command Answer). Stands e (member g i) n.life) (sym (machines_more g (λ k. first_machine) ms (moves.OfClient c d) i)) (at.stands i e is);
        unstarted = λ i is. subst (λ (n : Machine Command Answer). n.life ≡ begun first_replica) (sym (machines_more g (λ k. first_machine) ms (moves.OfClient c d) i)) (at.unstarted i is);
        client = λ j. clients_more g (λ k. first_client) ms (moves.OfClient c d) j ∙ client_then j;
        said = subst (λ (hs : List (Message Command Answer)). AllStand IsSavedAs g (out ++ o) hs) (sym sent_is) (all_append g out o (all_handed g.f g.answer ms) d.sends at.said by.2);
      },
    )

  next : (c : CodeMove) → IsByClause g values clients c → MayBe g ms c → Next c
  next (OfMachine i h) by may = happened (values i) i by.0 h refl by.1 may
  next (OfClient c d o) by may = by_client c d o by may

walk : (g : Group) (values : ℕ → Option Durable) (clients : ℕ → ClientState Command) (out : List sent.Message) (cs : List CodeMove) (ms : List (DurableMove Command Answer)) → At g values clients out ms → AreMovesOf g values clients out cs
    → (more : List (DurableMove Command Answer)) × At g (values_after g values cs) (clients_behind g clients cs) (all_out g out cs) more
walk g values clients out [] ms at are = (ms, at)
walk g values clients out (c ∷ cs) ms at are =
    let n = next g values clients out ms at c are.0 (are.1 ms at) in
    walk g (values_with values c) (clients_with g clients c) (out ++ handed_by c) cs n.0 n.1 are.2

first_at : (g : Group) → At g (λ i. None) (λ c. first_client) [] []
first_at g = record {
  right = tt;
  stands = λ i d is. absurd (no_value d (sym is));
  unstarted = λ i is. refl;
  client = λ c. refl;
  said = tt;
}

pub one_run : ((f : ℕ) (answer : List Command → Answer) (early late : List (DurableMove Command Answer)) → AreDurableMoves f answer (early ++ late) → AreOneRun f answer early late) → (g : Group) (cs : List CodeMove) → AreFromTheStart g cs → ShowAsOneRun g cs
one_run law g cs are =
    let all = walk g (λ i. None) (λ c. first_client) [] cs [] (first_at g) are in
    record {
      shown = all.0;
      at = all.1;
      one = law g.f g.answer all.0 [] (subst (λ (ms : List (DurableMove Command Answer)). AreDurableMoves g.f g.answer ms) (sym (append-nil all.0)) all.1.right);
    }
