use Rattle.std.proofs.lemmas.Result.{on_ok_weaker}
use Rattle.std.specs.Int.{w64, to_be_bytes}
use Rattle.vr_wire.specs.Logs.{log_bytes}
use Rattle.vr_wire.proofs.Appends.{behind_three}
use Rattle.vr_wire.proofs.body.put_numbers_and_log.Goals as goal

pub returns-clause-text : goal.returns-clause-text
returns-clause-text c =
    on_ok_weaker c.put_log.result (λ e. behind_three c.args.out.now.items (to_be_bytes w64 c.args.first) (to_be_bytes w64 c.args.second) (to_be_bytes w64 c.args.commit_number) (log_bytes c.args.log.now) c.put_u64.new.out.items c.put_u64-2.new.out.items c.put_u64-3.new.out.items c.put_log.new.out.items c.in_ok-put_u64.ensures c.in_ok-put_u64-2.ensures c.in_ok-put_u64-3.ensures e) c.put_log.ensures.text
