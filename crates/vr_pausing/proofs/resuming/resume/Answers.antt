use Rattle.std.proofs.Common.{Option, MatchOption, sym, subst}
use Rattle.vr_core.specs.declared.handed.Readied.{Readied}
use Rattle.vr_core.specs.declared.state.Core.{Core}
use Rattle.vr_core.specs.Changes.{IsReadied}
use Rattle.vr_core.specs.Checkpoints.{IsOfNone}
use Rattle.vr_pausing.specs.Bases.{Resumes}
use Rattle.vr_pausing.proofs.GoingOn.{resumes}
use Rattle.vr_pausing.proofs.resuming.resume.Goals as goal

pub returns : goal.returns
returns c =
    let core = c.args.core in
    let log = c.args.log in
    let marks = c.args.marks.now in
    let readied : IsReadied core log marks.commit_number c.in-Some.ready =
    subst (λ (o : Option Readied). MatchOption o (IsOfNone core log) (IsReadied core log marks.commit_number)) c.in-Some.is c.in_ok-ready.ensures.readied in
    subst (λ (x : Core). Resumes core marks log x) (sym c.marked.ensures)
    (resumes core c.replace_log.new.self c.execute_to.new.self marks log c.in-Some.ready.changes c.requires.new c.replace_log.ensures.replaces readied.changes c.execute_to.ensures)
