use Rattle.std.proofs.Common.{◌≡◌, ap, ◌∙◌, rules}
use Rattle.ctl_blocks.specs.Timers.{pulse_after, tp_holds}
use Rattle.ctl_blocks.proofs.Timers.{tp_runs, start-fits}
use Rattle.ctl_blocks.proofs.timer.PulseEquations.next.Goals as goal

pub returns-then-s-clause-holds : goal.returns-then-s-clause-holds
returns-then-s-clause-holds c =
    let i = c.args.i.now in
    let s = c.args.s.now in
    let value : c.pulse_after.result ≡ pulse_after i.input i.pt s.start c.args.now = search rules in
    ap tp_holds value ∙ tp_runs i.input i.pt s.start c.args.now (start-fits s c.requires.fits) (search rules)
