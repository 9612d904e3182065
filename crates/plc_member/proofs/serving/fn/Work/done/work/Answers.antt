use mir.Syntax.{of_param}
use denote.Exit.{yes}
use denote.Param.Send.{Quiet-if}
use Rattle.plc_member.proofs.serving.fn.Work.done.work.Goals as goal

pub new-requires-send-J : goal.new-requires-send-J
new-requires-send-J g c = λ κs within. record {
  owned = c.requires.1.1.1.1.1.1.1.1.owned;
  leaving = λ k. Quiet-if (k (of_param 1)) _ _ (c.requires.1.1.1.1.1.1.1.1.leaving yes) (λ x w. tt);
}

pub run-requires-send-J : goal.run-requires-send-J
run-requires-send-J g c = λ κs within. record {
  owned = c.requires.1.1.1.1.1.1.1.1.owned;
  leaving = λ k. Quiet-if (k (of_param 1)) _ _ (c.requires.1.1.1.1.1.1.1.1.leaving yes) (λ x w. tt);
}
