use Rattle.std.proofs.Common.{ap}
use Rattle.net_records.proofs.Going.{beat_from}
use Rattle.net_records.proofs.records.Records.beat.Goals as goal

pub returns-clause-bytes : goal.returns-clause-bytes
returns-clause-bytes g c = beat_from _ _ _ _ _ _ (ap g.T.NonBlockingWrite.held c.put_beat.ensures.inner) c.put_beat.ensures.waiting c.push.ensures.went
