use Rattle.std.proofs.Common.{ap, ◌∙◌}
use Rattle.il_loader.specs.Judging.{image_of}
use Rattle.ctl_debugger.specs.Owned.{Owned}
use Rattle.plc_names.specs.Named.{answers_by}
use Rattle.plc_tool.proofs.answering.answers.Goals as goal

pub returns-clause-found : goal.returns-clause-found
returns-clause-found c = record {
  program = c.in_ok-image.image;
  is = c.in_ok-image.ensures.found;
  typed = c.know_lawful.ensures.typed;
  reading = image_of;
  reads = c.know_reading.ensures.reads;
  answers_are = c.in_ok-answers_of.ensures ∙ ap (λ (o : Owned). answers_by o c.args.commands.now) c.in_ok-controller.ensures;
}
