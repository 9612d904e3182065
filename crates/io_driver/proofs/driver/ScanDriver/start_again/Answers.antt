use Rattle.io_driver.proofs.driver.ScanDriver.start_again.Goals as goal

pub returns-clause-may : goal.returns-clause-may
returns-clause-may c = rw (← c.self.view_is) c.start_again.ensures.may

pub returns-clause-again : goal.returns-clause-again
returns-clause-again c = rw (← c.self.view_is) c.start_again.ensures.again
