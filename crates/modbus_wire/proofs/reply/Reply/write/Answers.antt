use Rattle.std.proofs.Common.{◌≡◌, true, ap, ◌∙◌}
use Rattle.modbus_wire.specs.Functions.{code_of}
use Rattle.modbus_wire.specs.Requests.{is_request}
use Rattle.modbus_wire.proofs.ReplyLaws.{wrote_back}
use Rattle.modbus_wire.proofs.reply.Reply.write.Goals as goal

pub returns-clause-back : goal.returns-clause-back
returns-clause-back c =
    let lawful : is_request c.args.request.now ≡ true = cc in
    wrote_back c.args.request.now c.args.self.now c.expected.result c.code.result c.write.result lawful c.expected.ensures.is (c.code.ensures ∙ ap code_of c.function.ensures)
    c.write.ensures.suits c.write.ensures.bytes c.write.ensures.fits
