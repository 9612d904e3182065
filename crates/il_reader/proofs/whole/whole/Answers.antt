use Rattle.il_reader.proofs.Complete.{is_found, is_read}
use Rattle.il_reader.proofs.whole.whole.Goals as goal

pub returns-clause-found : goal.returns-clause-found
returns-clause-found c = is_found c.args.dialect c.args.bytes.now c.all.result c.all.ensures

pub returns-clause-only : goal.returns-clause-only
returns-clause-only c = λ p says. is_read c.args.dialect c.args.bytes.now p says
