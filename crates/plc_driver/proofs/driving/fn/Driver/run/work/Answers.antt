use mir.Syntax.{of_param}
use denote.Exit.{yes}
use denote.Param.Send.{Quiet-if}
use Rattle.plc_driver.proofs.driving.fn.Driver.run.work.Goals as goal

pub run_to_end-requires-send-L : goal.run_to_end-requires-send-L
run_to_end-requires-send-L g c = λ κs within. record {
  owned = c.requires.1.1.1.1.1.1.1.1.1.1.1.1.1.owned;
  leaving = λ k. Quiet-if (k (of_param 1)) _ _ (c.requires.1.1.1.1.1.1.1.1.1.1.1.1.1.leaving yes) (λ x w. tt);
}

pub run_to_end-requires-send-J : goal.run_to_end-requires-send-J
run_to_end-requires-send-J g c = λ κs within. record {
  owned = c.requires.1.1.1.1.1.1.1.1.1.1.1.1.2.owned;
  leaving = λ k. Quiet-if (k (of_param 2)) _ _ (c.requires.1.1.1.1.1.1.1.1.1.1.1.1.2.leaving yes) (λ x w. tt);
}

pub run_to_end-requires-send-P : goal.run_to_end-requires-send-P
run_to_end-requires-send-P g c = λ κs within. record {
  owned = c.requires.1.1.1.1.1.1.1.1.1.1.1.1.3.owned;
  leaving = λ k. Quiet-if (k (of_param 3)) _ _ (c.requires.1.1.1.1.1.1.1.1.1.1.1.1.3.leaving yes) (λ x w. tt);
}

pub run_to_end-requires-send-L-Cutter : goal.run_to_end-requires-send-L-Cutter
run_to_end-requires-send-L-Cutter g c = λ κs within. record {
  owned = c.requires.1.1.1.1.1.1.1.1.1.1.1.1.4.owned;
  leaving = λ k. Quiet-if (k (of_param 4)) _ _ (c.requires.1.1.1.1.1.1.1.1.1.1.1.1.4.leaving yes) (λ x w. tt);
}
