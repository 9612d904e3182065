use Rattle.std.proofs.Common.{List, Option, subst}
use Rattle.vr_model.specs.declared.log.Executed.{Executed}
use Rattle.vr_core.specs.Checkpoints.{IsCheckpointOf}
use Rattle.vr_core.proofs.OwnCheckpoint.{IsCheckpointFor, first_same}
use Rattle.vr_core.proofs.state.Core.put_first.Goals as goal

pub returns-in-Ok : goal.returns-in-Ok
returns-in-Ok c =
    let core = c.args.self.now in
    let of : IsCheckpointFor core c.in-Ok.checkpoint.value =
    subst (λ (xs : List (Option Executed)). IsCheckpointOf core.controller core.commit_number xs c.in-Ok.checkpoint.value) c.requires.clients c.in-Ok.ensures in
    first_same core c.in-Ok.checkpoint.value c.put_checkpoint.new.self c.requires.none of c.put_checkpoint.ensures
