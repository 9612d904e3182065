use Rattle.std.proofs.Common.{◌∙◌, inl, refl, ap, Option}
use Rattle.il_model.specs.Program.{Program}
use Rattle.plc_console.specs.Mirrored.{goes_on_with}
use Rattle.plc_console.proofs.Sessions.{answered_one}
use Rattle.plc_console.proofs.session.submit.Goals as goal

pub returns-in_default-clause-took : goal.returns-in_default-clause-took
returns-in_default-clause-took g c = inl refl

pub returns-in-Ok-submit-clause-took : goal.returns-in-Ok-submit-clause-took
returns-in-Ok-submit-clause-took g c =
    answered_one c.put_answer.result _ c.args.command.now c.in-Ok-submit.answer (g.D.Submits.answered c.args.desk.now) (g.D.Submits.answered c.submit.new.self) (g.W.CountedWrite.held c.args.writer.now) (g.W.CountedWrite.held c.put_answer.new.writer) c.args.image.now c.follow.new.image c.in-Ok-submit.ensures.answered
    (c.follow.ensures ∙ ap (λ (o : Option Program). goes_on_with c.args.image.now o c.in-Ok-submit.answer) c.in-Ok.ensures) c.put_answer.ensures.wrote
