-- Changes of the program among entries: all that a step executes are ready before the first of them is executed.
use Rattle.std.specs.Prelude.{◌≡◌, ℕ, ◌+◌, ◌<◌, ◌≤◌, max, List, [], ◌∷◌, ◌++◌, length, filter, take, drop, Option, Some}
use Rattle.std.specs.Prelude.{slice_get, option_to_list}
use Rattle.il_model.specs.declared.command.Command.{Command}
use Rattle.il_model.specs.declared.command.Answer.{Answer}
use Rattle.il_model.specs.Answers.{is_change}
use Rattle.ctl_debugger.specs.Owned.{Owned}
use Rattle.ctl_debugger.specs.Outcome.{outcome}
use Rattle.ctl_debugger.specs.Prepared.{Prepared, IsReady}
use Rattle.vr_model.specs.declared.message.Message as sent
use Rattle.vr_model.specs.Logs.{Request}
use Rattle.vr_model.specs.Membership.{Membership}
use Rattle.vr_model.specs.Replicas.{ReplicaState}
use Rattle.vr_model.specs.Choices.{commands}
use Rattle.vr_model.specs.Rules.{reply_of}
use Rattle.vr_model.specs.Checkpoints.{KeptLog, base_of, LogStands}
use Rattle.vr_core.specs.declared.state.Core.{Core}
use Rattle.vr_core.specs.declared.handed.Readied.{Readied}
use Rattle.vr_core.specs.StandsFor.{StandsFor, IsSavedAs, own_group}
use Rattle.vr_core.specs.Follows.{Rule, AreSent, Leaves}
use Rattle.vr_core.specs.Checkpoints.{IsBegun}

-- those of some commands that change the program
abbrev pub changes_in : List Command → List Command
changes_in cs = filter is_change cs

-- each of these commands is ready, in order
abbrev pub AllReady : List Command → List Prepared → Type 0
AllReady [] [] = Unit {0}
AllReady (c ∷ cs) (p ∷ ps) = IsReady c p × AllReady cs ps
AllReady cs ps = ⊥

-- the changes among these entries are
abbrev pub AreReady : List (Request Command) → List Prepared → Type 0
AreReady entries ps = AllReady (changes_in (commands entries)) ps

-- the entries of a log past the first k, up to the n-th
abbrev pub between : List (Request Command) → ℕ → ℕ → List (Request Command)
between log k n = drop k (take n log)

-- ---- what is ready for a core

-- of the entries up to the n-th, for those that it has not executed
pub record IsReadyTo (core : Core) (n : ℕ) (ps : List Prepared) : Type 0 where
  pub ready : (w : Membership) (r : ReplicaState Command) → StandsFor core w r
      → AreReady (between r.log r.commit_number n) ps

-- the same of the log that it has once these entries come past an op number of its own
pub record IsReadyPast (core : Core) (place : ℕ) (more : List (Request Command)) (n : ℕ)
    (ps : List Prepared) : Type 0 where
  pub ready : (w : Membership) (r : ReplicaState Command) → StandsFor core w r → place ≤ length r.log
      → AreReady (between (take place r.log ++ more) r.commit_number n) ps

-- the same of a log that is handed in: for the entries past its checkpoint and past what the core has executed
pub record IsReadyFor (core : Core) (handed : KeptLog) (n : ℕ) (ps : List Prepared) : Type 0 where
  pub ready : (l : List (Request Command)) → LogStands IsSavedAs (own_group core) handed l
      → AreReady (between l (max core.commit_number (base_of handed.checkpoint)) n) ps

-- ---- executing

-- a command was performed, with what is ready for it and for others behind it; for those this is left
pub record Performs (old : Owned) (command : Command) (rest : List Command) (new : Owned) (left : List Prepared)
    (result : Option Answer) : Type 0 where
  pub answer : Answer
  pub given : result ≡ Some answer
  pub does : (answer, new) ≡ outcome old command
  pub others : AllReady (changes_in rest) left

-- there is an entry to execute before the n-th, and these are ready for those up to there
pub record HasNext (core : Core) (w : Membership) (r : ReplicaState Command) (n : ℕ) (ps : List Prepared) : Type 0 where
  pub stands : StandsFor core w r
  pub within : r.commit_number < length r.log
  pub before : r.commit_number < n
  pub ready : AreReady (between r.log r.commit_number n) ps

-- the entry after the last executed one was executed, with what was ready for it, and its client gets this reply
pub record ExecutesNext (old : Core) (ps : List Prepared) (new : Core) (left : List Prepared)
    (reply : Option sent.Message) : Type 0 where
  pub next : (w : Membership) (r : ReplicaState Command) (n : ℕ) → HasNext old w r n ps
      → StandsFor new w (record r { commit_number = r.commit_number + 1 })
  pub replies : (w : Membership) (r : ReplicaState Command) (n : ℕ) → HasNext old w r n ps
      → AreSent w.group (option_to_list reply)
      (reply_of w.f w.number w.answer r r.commit_number (slice_get r.log r.commit_number))
  pub others : (w : Membership) (r : ReplicaState Command) (n : ℕ) → HasNext old w r n ps
      → AreReady (between r.log (r.commit_number + 1) n) left

-- the core stands for what each replica becomes that it stood for, if these are ready for its entries up to the n-th
pub record BecomesIfReady (old : Core) (n : ℕ) (ps : List Prepared)
    (change : Membership → ReplicaState Command → ReplicaState Command) (new : Core) : Type 0 where
  pub becomes : (w : Membership) (r : ReplicaState Command) → StandsFor old w r
      → AreReady (between r.log r.commit_number n) ps → StandsFor new w (change w r)

-- and the call did what the rule says
pub record FollowsIfReady (old : Core) (n : ℕ) (ps : List Prepared) (rule : Rule) (new : Core)
    (sends : List sent.Message) : Type 0 where
  pub leaves : (w : Membership) (r : ReplicaState Command) → StandsFor old w r
      → AreReady (between r.log r.commit_number n) ps → Leaves old new sends w (rule w r)

-- ---- what a log that is handed in needs before it takes the place of a core's

-- the controller that has executed what its checkpoint stands in place of, and the changes up to the n-th entry
pub record IsReadied (core : Core) (handed : KeptLog) (n : ℕ) (readied : Readied) : Type 0 where
  pub begun : IsBegun core handed readied.begun
  pub changes : IsReadyFor core handed n readied.changes
