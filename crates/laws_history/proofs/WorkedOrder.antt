-- The worked order, computed.
use Rattle.std.proofs.Common.{List, [], arith, refl, sym, subst, inl, inr}
use Rattle.std.proofs.lemmas.Bool.{cases_eq, ne_eqb}
use Rattle.vr_model.specs.Steps.{AreSteps, first_local_state, AreClientSteps, first_client}
use Rattle.vr_model.specs.Interleaving.{steps_of, client_steps_of, AllTakeSent, EachByItself}
use Rattle.laws_history.specs.WorkedOrder.{moves, WorkedOrder}

module _ {C A : Type 0} (answer : List C → A) (a : C) where
  steps_0 : AreSteps 1 0 answer first_local_state (steps_of 0 (moves answer a))
  steps_0 = (tt, refl, (tt, refl, tt))

  steps_1 : AreSteps 1 1 answer first_local_state (steps_of 1 (moves answer a))
  steps_1 = (refl, refl, (tt, refl, ((refl, refl), refl, tt)))

  steps_2 : AreSteps 1 2 answer first_local_state (steps_of 2 (moves answer a))
  steps_2 = ((λ same none. absurd cc), refl, (tt, refl, tt))

  client_steps_0 : AreClientSteps 1 0 answer first_client (client_steps_of 0 (moves answer a))
  client_steps_0 = ((omega arith, refl, omega arith), refl, (tt, refl, tt))

  taken : AllTakeSent [] (moves answer a)
  taken = (tt, ((refl, refl), (tt, ((refl, refl), (tt, ((refl, refl), ((refl, refl), ((refl, refl), ((refl, refl), tt)))))))))

  each : EachByItself 1 answer (λ i. steps_of i (moves answer a)) (λ c. client_steps_of c (moves answer a))
  each = record {
    replicas = λ i l. elim (cases_eq i 0) [
      | inl e ↦ subst (λ n. AreSteps 1 n answer first_local_state (steps_of n (moves answer a))) (sym e) steps_0
      | inr zero_not ↦ elim (cases_eq i 1) [
        | inl e ↦ subst (λ n. AreSteps 1 n answer first_local_state (steps_of n (moves answer a))) (sym e) steps_1
        | inr one_not ↦ elim (cases_eq i 2) [
          | inl e ↦ subst (λ n. AreSteps 1 n answer first_local_state (steps_of n (moves answer a))) (sym e) steps_2
          | inr two_not ↦ absurd (omega (arith, l))
        ]
      ]
    ];
    no_others = λ i far. rw (ne_eqb i 0 (λ e. omega arith), ne_eqb i 1 (λ e. omega arith), ne_eqb i 2 (λ e. omega arith)) refl;
    clients = λ c. elim (cases_eq c 0) [
      | inl e ↦ subst (λ n. AreClientSteps 1 n answer first_client (client_steps_of n (moves answer a))) (sym e) client_steps_0
      | inr ne ↦ rw (ne_eqb c 0 ne) tt
    ];
  }

  pub worked_order : WorkedOrder answer a
  worked_order = record {
    each = each;
    order = record { replicas = λ i. refl; clients = λ c. refl; taken = taken };
    schedule_is = refl;
    sent = refl;
    committed = refl;
    submitted = refl;
  }
