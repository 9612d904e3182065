use Rattle.plc_serve.proofs.Endings.{served, refused, failed}
use Rattle.plc_serve.proofs.serving.serve.Goals as goal

pub returns-clause-told : goal.returns-clause-told
returns-clause-told g c = λ zero. served g.E.CountedWrite _ c.args.err.now c.served.new.err c.ended.new.err c.served.result (c.ended.ensures.good zero) c.served.ensures.told c.ended.ensures.ends

pub returns-clause-refused : goal.returns-clause-refused
returns-clause-refused g c = λ one. refused g.E.CountedWrite _ c.args.err.now c.served.new.err c.ended.new.err c.args.service.source.items _ c.served.result one c.served.ensures.refused c.ended.ensures.ends

pub returns-clause-failed : goal.returns-clause-failed
returns-clause-failed g c = λ two. failed g.E.CountedWrite _ c.args.err.now c.served.new.err c.ended.new.err c.served.result two c.served.ensures.at_most c.ended.ensures.ends
