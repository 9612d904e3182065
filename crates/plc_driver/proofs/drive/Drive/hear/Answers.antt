use Rattle.plc_driver.proofs.drive.Drive.hear.Goals as goal

pub returns-else-not-is_released-clause-scanned : goal.returns-else-not-is_released-clause-scanned
returns-else-not-is_released-clause-scanned g c = record {
  message = c.in-Message.message;
  knows = c.args.self.now.driver.state;
  halts = c.halt_in.ensures;
  published = c.in_ok-is_released-in-Message.ensures.published;
}
