use Rattle.std.proofs.Common.{Option, MatchOption, subst}
use Rattle.vr_core.specs.declared.state.Core.{Core}
use Rattle.vr_pausing.specs.Bases.{Resumes, ResumesNone}
use Rattle.vr_resumed.proofs.resuming.resume.Goals as goal

pub returns : goal.returns
returns c = λ m r xs of_core is mean.
    let resumed : Resumes c.args.core c.args.marks.now c.args.log c.in-Some.core =
    subst (λ (o : Option Core). MatchOption o (ResumesNone c.args.core c.args.marks.now c.args.log) (λ new. Resumes c.args.core c.args.marks.now c.args.log new)) c.in-Some.is c.in_ok-core.ensures in
    c.in_ok-take_up_again.ensures m r xs (c.normally-replica.ensures m r is.status (resumed m r of_core is)) mean
