-- What a replica tells of its log, and which responses of others it keeps.
use Rattle.std.specs.Prelude.{ℕ, nat_le, ◌==◌, if◌then◌else◌, List, Option, Some, None, ◌≡◌, nat_lt, ◌&&◌, ◌||◌, Bool}
use Rattle.std.specs.Prelude.{false, not, slice_index_or, slice_set}
use Rattle.il_model.specs.declared.command.Command.{Command}
use Rattle.vr_model.specs.declared.message.PrimaryState.{PrimaryState}
use Rattle.vr_model.specs.declared.message.PrimaryState as code
use Rattle.vr_model.specs.declared.message.Message as sent
use Rattle.vr_model.specs.Groups.{primary}
use Rattle.vr_model.specs.Membership.{Membership}
use Rattle.vr_model.specs.Replicas.{ReplicaState, put}
use Rattle.vr_model.specs.Checkpoints.{KeptLog, base_of, entries_past, end_of}
use Rattle.vr_model.specs.StandsFor.{AllStandFrom}
use Rattle.vr_model.specs.Messages.{RecoveryResponse}
use Rattle.vr_model.specs.Choices.{kept_response}
use Rattle.vr_core.specs.declared.state.Core.{Core}
use Rattle.vr_core.specs.declared.state.Response.{Response}
use Rattle.vr_core.specs.StandsFor.{StandsFor, IsSavedAs, ResponseStands}
use Rattle.vr_core.specs.Follows.{Rule}
use Rattle.vr_core.specs.Checkpoints.{IsUnfit}

-- ---- what it tells

-- the entries past this op number; or all that is kept, where the checkpoint is past that
abbrev pub kept_past : KeptLog → ℕ → KeptLog
kept_past log place = if nat_le (base_of log.checkpoint) place then entries_past log place else log

-- what a primary adds to a response
abbrev pub told_state : Core → Option PrimaryState
told_state core = if primary core.config.f core.view == core.number
    then Some (record { commit_number = core.commit_number; log = core.log }) else None

-- each message stands for the rule's, and a checkpoint in one is of the log that its sender has
pub record SendsOwn (core : Core) (rule : Rule) (sends : List sent.Message) : Type 0 where
  pub own : (w : Membership) (r : ReplicaState Command) → StandsFor core w r
      → AllStandFrom IsSavedAs w.group r sends (rule w r).sends

-- ---- which response is kept, and what the primary of a view told

-- the response that is kept of this replica
abbrev pub kept_of : Core → ℕ → Option Response
kept_of core s = slice_index_or core.responses.items s None

-- the length of its log, 0 without one
abbrev pub told_length : Option code.PrimaryState → ℕ
told_length None = 0
told_length (Some state) = end_of state.log

-- b has a later view than a, or the same and a longer log
abbrev pub is_fresher : Response → Response → Bool
is_fresher a b = nat_lt a.view b.view || (a.view == b.view) && nat_lt (told_length a.state) (told_length b.state)

-- what is kept stays where b comes
abbrev pub stays : Option Response → Response → Bool
stays None b = false
stays (Some a) b = not (is_fresher a b)

-- with what was kept of s before, if another took its place
abbrev pub with_back : List (Option Response) → ℕ → Option (Option Response) → List (Option Response)
with_back kept s None = kept
with_back kept s (Some o) = slice_set kept s o

-- it keeps the response of s: whoever stood for what was there before stands for it with the one that the rule keeps
pub record Keeps (old : Core) (s : ℕ) (a : Response) (new : Core) : Type 0 where
  pub keeps : (w : Membership) (r : ReplicaState Command) (content : RecoveryResponse Command) → StandsFor old w r
      → ResponseStands w.group a content
      → StandsFor new w (record r { responses = put r.responses s (Some (kept_response (r.responses s) content)) })

-- the primary of this view told its state in it
pub record HasState (core : Core) (view : ℕ) : Type 0 where
  pub response : Response
  pub state : code.PrimaryState
  pub at : kept_of core (primary core.config.f view) ≡ Some response
  pub of_view : response.view ≡ view
  pub has : response.state ≡ Some state

-- the response would be kept of this sender, and tells of a log whose checkpoint can't be taken up
pub record IsUnfitResponse (core : Core) (sender : ℕ) (a : Response) : Type 0 where
  pub state : code.PrimaryState
  pub tells : a.state ≡ Some state
  pub comes : stays (kept_of core sender) a ≡ false
  pub unfit : IsUnfit core state.commit_number state.log
