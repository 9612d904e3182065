-- What is taken up again, one event after the other.
use Rattle.std.proofs.Common.{◌≡◌, ℕ, List, [], ◌∷◌, ◌++◌, Bool, true, false, Option, Result, Ok, Err, inl, inr, refl, sym, ap, ◌∙◌, subst, arith}
use Rattle.std.specs.Prelude.{IfOk, OnErr}
use Rattle.std.specs.Result.{IsErrOf}
use Rattle.io_model.specs.Streams.{Failed}
use Rattle.il_model.specs.declared.command.Command.{Command}
use Rattle.il_model.specs.declared.command.Answer.{Answer}
use Rattle.vr_model.specs.declared.event.Event.{Event}
use Rattle.vr_model.specs.declared.event.Event.TheVariants as event
use Rattle.vr_model.specs.declared.message.Message as sent
use Rattle.vr_model.specs.declared.event.Stored.{Stored}
use Rattle.vr_model.specs.Membership.{Membership}
use Rattle.vr_model.specs.Replicas.{Normal, ReplicaState, is_down, is_recovering}
use Rattle.vr_model.specs.Steps.{Input, Takes, TimesOut, Resends, acts}
use Rattle.laws_pauses.specs.Pauses.{replayed}
use Rattle.vr_core.specs.declared.state.Core.{Core}
use Rattle.vr_core.specs.StandsFor as core
use Rattle.vr_core.specs.StandsFor.{IsSavedAs}
use Rattle.vr_replica.specs.declared.state.Replica.{Replica}
use Rattle.vr_replica.specs.Standing.{StandsFor}
use Rattle.vr_replica.specs.declared.fault.StepFault.TheVariants as fault
use Rattle.vr_replica.specs.Stepped.{StepResult, Stepped, Acted}
use Rattle.vr_resumed.specs.Resuming.{Means, AllMean, Did, Steps, StaysAtErr, TakesUpAgain, IsNormally}

-- ---- one step

module _ {S : Type 0} (load_gives : S → Option Stored → S → Type 0) (save_gives : S → ℕ → Bool → S → Type 0) (old new : Replica) (s t : S) where
  -- what a step of the replica owes, at this event
  abbrev Row : Event → StepResult → Type 0
  Row e result = (m : Membership) (r : ReplicaState Command) → StandsFor old m r → Stepped load_gives save_gives IsSavedAs (StandsFor new m) m r s t e result

  acted : (e : Event) (result : StepResult) → Row e result → (m : Membership) (r : ReplicaState Command) (x : Input Command Answer) → StandsFor old m r → Means m r e x
      → Acted load_gives save_gives IsSavedAs (StandsFor new m) m r s t (acts m.f m.number m.answer r x) result
  acted (event.Message a) result row m r x stands means =
      subst (λ (y : Input Command Answer). Acted load_gives save_gives IsSavedAs (StandsFor new m) m r s t (acts m.f m.number m.answer r y) result) (sym means.1) (row m r stands means.0 means.2 means.3 means.4)
  acted event.Timeout result row m r x stands means =
      subst (λ (y : Input Command Answer). Acted load_gives save_gives IsSavedAs (StandsFor new m) m r s t (acts m.f m.number m.answer r y) result) (sym means) (row m r stands)
  acted event.Resend result row m r x stands means =
      subst (λ (y : Input Command Answer). Acted load_gives save_gives IsSavedAs (StandsFor new m) m r s t (acts m.f m.number m.answer r y) result) (sym means) (row m r stands)
  acted (event.Restart nonce) result row m r x stands means = absurd means

  pub steps : (e : Event) (result : StepResult) → Row e result → IfOk result (λ sends. Steps old e new sends.items)
  steps e (Ok sends) row = λ m r x stands means.
      let done = acted e (Ok sends) row m r x stands means in
      record { replica = done.replica; said = done.sends }
  steps e (Err why) row = tt

  pub stays : (e : Event) (result : StepResult) → Row e result → (IsErrOf result fault.Store → ⊥) → OnErr result (StaysAtErr old e new)
  stays e (Ok sends) row none = tt
  stays e (Err fault.Memory) row none = λ m r x stands means. (acted e (Err fault.Memory) row m r x stands means).replica
  stays e (Err fault.Store) row none = absurd (none refl)
  stays e (Err fault.Down) row none = λ m r x stands means. (acted e (Err fault.Down) row m r x stands means).1.replica

-- a store that counts no faults didn't fail
pub no_fault : (n : ℕ) → n ≡ 0 → Failed n n → ⊥
no_fault n e (inl lt) = absurd (omega arith)
no_fault n e (inr all) = absurd (omega arith)

-- ---- several

-- what a member that is this record becomes by these inputs
abbrev becomes : Membership → ReplicaState Command → List (Input Command Answer) → ReplicaState Command
becomes m r xs = replayed m.f m.number m.answer r xs

abbrev next : Membership → ReplicaState Command → Input Command Answer → ReplicaState Command
next m r x = (acts m.f m.number m.answer r x).replica

becomes_more : (m : Membership) (r : ReplicaState Command) (xs : List (Input Command Answer)) (x : Input Command Answer) → becomes m r (xs ++ x ∷ []) ≡ next m (becomes m r xs) x
becomes_more m r [] x = refl
becomes_more m r (y ∷ xs) x = becomes_more m (next m r y) xs x

-- the inputs that several events mean, and behind them what one more means
record AreAndOne (m : Membership) (r : ReplicaState Command) (es : List Event) (e : Event) (xs : List (Input Command Answer)) : Type 0 where
  before : List (Input Command Answer)
  last : Input Command Answer
  is : xs ≡ before ++ last ∷ []
  all : AllMean m r es before
  one : Means m (becomes m r before) e last

last_apart : (m : Membership) (r : ReplicaState Command) (es : List Event) (e : Event) (xs : List (Input Command Answer)) → AllMean m r (es ++ e ∷ []) xs → AreAndOne m r es e xs
last_apart m r [] e [] mean = absurd mean
last_apart m r [] e (x ∷ []) mean = record { before = []; last = x; is = refl; all = tt; one = mean.0 }
last_apart m r [] e (x ∷ y ∷ xs) mean = absurd mean.1
last_apart m r (d ∷ es) e [] mean = absurd mean
last_apart m r (d ∷ es) e (x ∷ xs) mean =
    let rest : AreAndOne m (next m r x) es e xs = last_apart m (next m r x) es e xs mean.1 in
    record {
      before = x ∷ rest.before;
      last = rest.last;
      is = ap (λ (ys : List (Input Command Answer)). x ∷ ys) rest.is;
      all = (mean.0, rest.all);
      one = rest.one;
    }

pub none_so_far : (old : Replica) → TakesUpAgain old [] old
none_so_far old m r [] stands mean = stands
none_so_far old m r (x ∷ xs) stands mean = absurd mean

pub one_more : (old between new : Replica) (es : List Event) (e : Event) → TakesUpAgain old es between → (sends : List sent.Message) → Steps between e new sends → TakesUpAgain old (es ++ e ∷ []) new
one_more old between new es e so sends steps m r xs stands mean =
    let parts : AreAndOne m r es e xs = last_apart m r es e xs mean in
    let there : becomes m r xs ≡ next m (becomes m r parts.before) parts.last = ap (λ (ys : List (Input Command Answer)). becomes m r ys) parts.is ∙ becomes_more m r parts.before parts.last in
    subst (λ (q : ReplicaState Command). StandsFor new m q) (sym there) (steps m (becomes m r parts.before) parts.last (so m r parts.before stands parts.all) parts.one).replica

-- a normal core as a replica
normal_up : (r : ReplicaState Command) → r.status ≡ Normal → is_down r.status ≡ true → ⊥
normal_up r e y = let n : is_down r.status ≡ false = ap is_down e in absurd cc

normal_recovered : (r : ReplicaState Command) → r.status ≡ Normal → is_recovering r.status ≡ true → ⊥
normal_recovered r e y = let n : is_recovering r.status ≡ false = ap is_recovering e in absurd cc

pub normally : (c : Core) → IsNormally c (record { core = c })
normally c m r e stands = record {
  member = stands.member;
  status = stands.status;
  commit_number = stands.commit_number;
  recovering = λ y. absurd (normal_recovered r e y);
  up = λ n. stands;
  down = λ y. absurd (normal_up r e y);
}
