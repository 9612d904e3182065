-- Calls, one after another, and a cut.
use Rattle.std.proofs.Common.{true, List, [], ◌∷◌, ◌++◌, inl, inr, sym, subst}
use Rattle.il_model.specs.declared.command.Command.{Command}
use Rattle.il_model.specs.declared.command.Answer.{Answer}
use Rattle.vr_model.specs.declared.message.Message as sent
use Rattle.vr_model.specs.Membership.{Membership}
use Rattle.vr_model.specs.Messages.{Message}
use Rattle.vr_model.specs.Replicas.{ReplicaState}
use Rattle.vr_model.specs.Steps.{Input}
use Rattle.laws_pauses.specs.Pauses as pauses
use Rattle.laws_pauses.specs.Pauses.{all_handed, handed, durable, durable_after, replayed, surviving, written}
use Rattle.laws_pauses.proofs.Lives.{replayed_append}
use Rattle.vr_replica.specs.declared.state.Replica.{Replica}
use Rattle.vr_replica.specs.Standing.{StandsFor}
use Rattle.vr_resumed.specs.Resuming.{AllMean}
use Rattle.vr_durable.specs.declared.durable.Durable.{Durable}
use Rattle.vr_durable.specs.Standing.{WereSaid, Stands, TakesUp, HandsOut}
use Rattle.vr_durable.specs.Calls.{Call, TookUp, HandedOut, Stayed, AreCalls, events_in, out_of, IsLife, CutsArePauses}

said_behind : (m : Membership) (hs bs : List sent.Message) (xs ys : List (Message Command Answer)) → WereSaid m hs xs → WereSaid m bs ys → WereSaid m (hs ++ bs) (xs ++ ys)
said_behind m [] bs [] ys a b = b
said_behind m [] bs (x ∷ xs) ys a b = absurd a
said_behind m (s ∷ hs) bs [] ys a b = absurd a
said_behind m (s ∷ hs) bs (x ∷ xs) ys a b = (a.0, said_behind m hs bs xs ys a.1 b)

pub are_a_life : (m : Membership) (p : pauses.Durable Command Answer) (d : Durable) (cs : List Call) (xs : List (Input Command Answer)) → Stands d m p → AllMean m p.now (events_in cs) xs → AreCalls d cs → IsLife m p d cs
are_a_life m p d [] xs stands mean are = record { steps = []; right = tt; stands = stands; said = tt }
are_a_life m p d (TookUp e new ∷ cs) [] stands mean are = absurd mean
are_a_life m p d (TookUp e new ∷ cs) (x ∷ xs) stands mean are =
    let then : pauses.Durable Command Answer = durable_after m.f m.number m.answer p (pauses.TakesUp x true) in
    let rest : IsLife m then new cs = are_a_life m then new cs xs (are.0 m p x stands mean.0) mean.1 are.1 in
    record { steps = pauses.TakesUp x true ∷ rest.steps; right = (tt, rest.right); stands = rest.stands; said = rest.said }
are_a_life m p d (Stayed new ∷ cs) xs stands mean are =
    let rest : IsLife m p new cs = are_a_life m p new cs xs (are.0 m p stands) mean are.1 in
    record { steps = rest.steps; right = rest.right; stands = rest.stands; said = rest.said }
are_a_life m p d (HandedOut out new ∷ cs) xs stands mean are = elim (are.0 m p stands) [
  | inl none ↦
      let rest : IsLife m p new cs = are_a_life m p new cs xs none.1 mean are.1 in
      record {
        steps = rest.steps;
        right = rest.right;
        stands = rest.stands;
        said = subst (λ (ms : List sent.Message). WereSaid m (ms ++ out_of cs) (all_handed m.f m.number m.answer p rest.steps)) (sym none.0) rest.said;
      }
  | inr all ↦
      let then : pauses.Durable Command Answer = durable_after m.f m.number m.answer p pauses.HandsOut in
      let rest : IsLife m then new cs = are_a_life m then new cs xs all.1 mean are.1 in
      record {
        steps = pauses.HandsOut ∷ rest.steps;
        right = (tt, rest.right);
        stands = rest.stands;
        said = said_behind m out (out_of cs) (handed m.f m.number m.answer p pauses.HandsOut) (all_handed m.f m.number m.answer then rest.steps) all.0 rest.said;
      }
]

pub pauses_only : CutsArePauses
pauses_only m p survives core marks log es replica d of_core read goes same none =
    let left : List (Input Command Answer) = surviving survives 0 (written p.unflushed) in
    let now : StandsFor replica m (replayed m.f m.number m.answer p.base (p.kept ++ left)) = goes m p.base (p.kept ++ left) of_core read.base read.inputs in
    record {
      now = subst (λ (q : Replica). StandsFor q m (replayed m.f m.number m.answer (durable m.f m.number m.answer p) left)) (sym same)
          (subst (λ (r : ReplicaState Command). StandsFor replica m r) (replayed_append m.f m.number m.answer p.base p.kept left) now);
      held = subst (λ (ms : List sent.Message). WereSaid m ms []) (sym none) tt;
    }
