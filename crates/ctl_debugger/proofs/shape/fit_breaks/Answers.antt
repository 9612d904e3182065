use Rattle.ctl_model.proofs.Rising.{breaks_fit}
use Rattle.ctl_debugger.proofs.shape.fit_breaks.Goals as goal

pub loop-position-init : goal.loop-position-init
loop-position-init c = breaks_fit c.args.end c.args.positions.now
