use Rattle.std.proofs.lemmas.Result.{on_ok_weaker}
use Rattle.std.specs.Int.{w64, to_be_bytes}
use Rattle.vr_wire.specs.Logs.{log_bytes}
use Rattle.vr_wire.proofs.Appends.{behind_two}
use Rattle.vr_wire.proofs.body.put_start_view.Goals as goal

pub returns-clause-text : goal.returns-clause-text
returns-clause-text c =
    on_ok_weaker c.put_log.result (λ e. behind_two c.args.out.now.items (to_be_bytes w64 c.args.view) (to_be_bytes w64 c.args.commit_number) (log_bytes c.args.log.now) c.put_u64.new.out.items c.put_u64-2.new.out.items c.put_log.new.out.items c.in_ok-put_u64.ensures c.in_ok-put_u64-2.ensures e) c.put_log.ensures.text
