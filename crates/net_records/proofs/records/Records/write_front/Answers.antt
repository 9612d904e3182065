use Rattle.std.proofs.Common.{take, refl, arith, length-take}
use Rattle.net_records.proofs.Going.{put_went}
use Rattle.net_records.proofs.records.Records.write_front.Goals as goal

pub returns-in-Ok-clause-taken : goal.returns-in-Ok-clause-taken
returns-in-Ok-clause-taken g c =
    let body = take c.min-count.result c.args.bytes.now in
    put_went _ _ _ body body (omega (arith, length-take c.min-count.result c.args.bytes.now)) refl c.in-Ok.ensures.ok
