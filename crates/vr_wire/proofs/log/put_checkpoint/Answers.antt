use Rattle.std.proofs.Common.{◌++◌, List, Option, ap, ◌∙◌}
use Rattle.std.proofs.lemmas.Result.{on_ok_weaker}
use Rattle.std.specs.Int.{w64, to_be_bytes}
use Rattle.vr_model.specs.declared.log.Executed.{Executed}
use Rattle.vr_model.specs.Checkpoints.{SavedCheckpoint}
use Rattle.vr_wire.specs.Logs.{clients_bytes, checkpoint_bytes}
use Rattle.vr_wire.specs.Snapshots.{snapshot_bytes}
use Rattle.vr_wire.proofs.Appends.{behind_two}
use Rattle.vr_wire.proofs.log.put_checkpoint.Goals as goal

pub returns-clause-text : goal.returns-clause-text
returns-clause-text c =
    let s = c.c.inside in
    let clients = c.in_ok-put_clients.ensures.text ∙ ap (λ (xs : List (Option Executed)). c.put_u64.new.out.items ++ clients_bytes xs) c.as_slice.ensures.value in
    on_ok_weaker c.put_snapshot.result (λ e.
    behind_two c.args.out.now.items (to_be_bytes w64 s.base) (clients_bytes s.clients.items) (snapshot_bytes s.snapshot) c.put_u64.new.out.items c.put_clients.new.out.items c.put_snapshot.new.out.items c.in_ok-put_u64.ensures clients e
    ∙ ap (λ (x : SavedCheckpoint). c.args.out.now.items ++ checkpoint_bytes x) c.c.view_is) c.put_snapshot.ensures.text
