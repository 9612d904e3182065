use Rattle.std.proofs.Common.{◌∙◌, ap}
use Rattle.vr_model.specs.Checkpoints.{requests_of}
use Rattle.vr_replica.specs.Scans.{last_scan_of}
use Rattle.vr_replica.proofs.LastScan.{last_of_replica}
use Rattle.vr_replica.proofs.state.Replica.last_scan.Goals as goal

pub returns-clause-last : goal.returns-clause-last
returns-clause-last c = λ m r st. last_of_replica c.args.self.now m r c.last_scan.result st (c.last_scan.ensures ∙ ap (λ es. last_scan_of (requests_of es)) c.entries.ensures)
