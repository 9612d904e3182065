use Rattle.std.proofs.Common.{refl}
use Rattle.plc_serve.proofs.Endings.{refusal}
use Rattle.plc_serve.proofs.serving.served.Goals as goal

pub returns-in-Err-clause-refused : goal.returns-in-Err-clause-refused
returns-in-Err-clause-refused g c = λ one. (refusal c.args.service.source.items c.in-Err.fault c.in-Err.ensures.refused one, refl, (refl, refl))
