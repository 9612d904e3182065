use Rattle.vr_threads.proofs.working.Work.start.Goals as goal

pub returns-clause-started : goal.returns-clause-started
returns-clause-started g c = rw c.in_ok-image.ensures at c.in_ok-started.ensures
