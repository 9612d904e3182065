use Rattle.io_driver.proofs.driver.ScanDriver.sample_and_submit.Goals as goal

pub returns-clause-some : goal.returns-clause-some
returns-clause-some g c =
    let submits = c.in-Some.ensures.some in
    rw (← c.self.view_is) record {
      cells = c.sample.result.inputs.cells;
      next = c.sample.result.next;
      sample = c.sample.ensures;
      may = submits.may;
      sent = rw (c.in-Ok.ensures.items, c.in_ok-sends.ensures.items) submits.sent;
      waits = submits.waits;
    }
