use Rattle.vr_kept.proofs.Framed.{is_popped, is_no_fault}
use Rattle.vr_kept.proofs.message.last_in.Goals as goal

pub returns-in-Ok : goal.returns-in-Ok
returns-in-Ok c = λ m f.
    is_popped c.any_pieces.ensures c.args.bytes.now m c.new.result c.feed.new.self c.new-messages.result.items c.feed.new.out.items c.new.ensures c.new-messages.ensures.items f c.in-Ok.ensures.fed.0
    c.feed.new.out.len c.pop.result c.feed.new.out.ok.0 c.pop.ensures.value

pub returns-in-Err-Fault : goal.returns-in-Err-Fault
returns-in-Err-Fault c = λ m f.
    absurd (is_no_fault c.any_pieces.ensures c.args.bytes.now m c.new.result c.feed.new.self c.new-messages.result.items c.feed.new.out.items c.new.ensures c.new-messages.ensures.items f
    c.in-Err-Fault.field-0 c.in-Err-Fault.field-0-0 c.in-Err-Fault.field-0-is c.in-Err-Fault.ensures.fed)
