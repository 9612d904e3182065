use Rattle.std.proofs.Common.{◌≡◌, true, ap, ◌∙◌}
use Rattle.modbus_wire.specs.Requests.{is_request, request_of}
use Rattle.modbus_wire.proofs.RequestLaws.{read_back}
use Rattle.modbus_wire.proofs.request.Request.write.Goals as goal

pub returns-then-is_lawful-clause-back : goal.returns-then-is_lawful-clause-back
returns-then-is_lawful-clause-back c =
    let lawful : is_request c.args.self.now ≡ true = cc in
    ap request_of c.bytes.ensures.is ∙ read_back c.args.self.now c.bytes.ensures.ranges lawful
