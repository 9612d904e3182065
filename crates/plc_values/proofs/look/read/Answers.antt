use Rattle.std.proofs.Common.{◌∙◌}
use Rattle.plc_values.proofs.ReadSlots.{is_read, is_same}
use Rattle.plc_values.proofs.look.read.Goals as goal

pub returns : goal.returns
returns c = record {
  value = c.value_of.ensures ∙ is_read c.args.controller.now c.apply-answer.new.self c.args.slot c.apply-answer.result c.apply-answer.ensures.outcome;
  same = is_same c.args.controller.now c.apply-answer.new.self c.args.slot c.apply-answer.result c.apply-answer.ensures.outcome;
}
