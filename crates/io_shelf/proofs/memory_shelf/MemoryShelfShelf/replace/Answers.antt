use Rattle.io_shelf.proofs.Kept.{elapses_change}
use Rattle.io_shelf.proofs.memory_shelf.MemoryShelfShelf.replace.Goals as goal

pub returns-in-Ok-clause-time : goal.returns-in-Ok-clause-time
returns-in-Ok-clause-time c =
    elapses_change c.change.result c.args.self.now.past.items c.change.new.self.past.items c.args.self.now.content c.change.new.self.content c.change.ensures.past c.change.ensures.past_err c.change.ensures.content_err
