use Rattle.ctl_debugger.proofs.Changed.{changed_by_names}
use Rattle.ctl_debugger.proofs.a_change_goes_by_names.Goals as goal

pub returns : goal.returns
returns c = changed_by_names c.a_change_carries_over.ensures.carries c.a_change_carries_over.ensures.suits c.know_well_formed.ensures.image
