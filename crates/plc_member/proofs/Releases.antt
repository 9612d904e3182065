-- What the trace is told of a message that a node takes as released.
use Rattle.std.proofs.Common.{◌≡◌, ℕ, Option, subst}
use Rattle.il_model.specs.declared.command.Command.{Command}
use Rattle.il_model.specs.declared.command.Answer.{Answer}
use Rattle.vr_model.specs.Messages.{Body}
use Rattle.io_image.specs.declared.release.Release.{Release}
use Rattle.plc_trace.specs.declared.trace.Trace.{Trace}
use Rattle.plc_member.specs.Driving.{TracesRelease, traced_by}
use Rattle.plc_member.specs.declared.scans.Entered.{Entered}

-- by a tracer of the same number and epoch, into the same trace
pub traced_back : (taken release : Option Release) → taken ≡ release → (number number' epoch epoch' : ℕ) → number' ≡ number → epoch' ≡ epoch → (before before' after : Option Trace) → before' ≡ before → (body : Body Command Answer) → ((x : Option Entered) × TracesRelease taken (traced_by number' epoch' x body) before' after) → (x : Option Entered) × TracesRelease release (traced_by number epoch x body) before after
traced_back taken release same number number' epoch epoch' same_number same_epoch before before' after same_before body told = (
  told.0,
  subst (λ r. TracesRelease r (traced_by number epoch told.0 body) before after) same
      (subst (λ n. TracesRelease taken (traced_by n epoch told.0 body) before after) same_number
      (subst (λ e. TracesRelease taken (traced_by number' e told.0 body) before after) same_epoch
      (subst (λ t. TracesRelease taken (traced_by number' epoch' told.0 body) t after) same_before told.1))),
)
