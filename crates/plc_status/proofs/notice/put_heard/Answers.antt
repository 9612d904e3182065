use Rattle.std.proofs.Common.{codes}
use Rattle.plc_status.proofs.Lines.{then}
use Rattle.plc_status.specs.Notices.{epoch_text}
use Rattle.plc_status.proofs.notice.put_heard.Goals as goal

pub returns : goal.returns
returns g c = then {a = epoch_text c.args.epoch (codes " heard from machine ")} c.in_ok-put_epoch_text.ensures c.put_speaker.ensures
