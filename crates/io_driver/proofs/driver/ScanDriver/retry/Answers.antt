use Rattle.io_driver.proofs.driver.ScanDriver.retry.Goals as goal

pub returns : goal.returns
returns c = rw (← c.self.view_is) c.retry.ensures
