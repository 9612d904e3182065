use Rattle.std.proofs.Common.{List, ℕ}
use Rattle.il_model.specs.declared.cells.Cells.{Cells}
use Rattle.modbus_replies.specs.Replies.{read_reply}
use Rattle.modbus_replies.proofs.Settling.{looked}
use Rattle.modbus_replies.proofs.permitted.permitted_reply.Goals as goal

pub returns-in-ReadsAlone : goal.returns-in-ReadsAlone
returns-in-ReadsAlone g c =
    let answer : Cells → List ℕ = λ staged. read_reply c.args.are_stale c.args.pdu.now staged c.args.released.now.image.cells in
    rw c.in-ReadsAlone.is
    (looked (g.S.Staging.told c.args.staging.now) (g.S.Staging.told c.read.new.self) answer c.read_reply.result.items c.read.result.cells c.read.ensures c.read_reply.ensures)
