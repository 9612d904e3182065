use Rattle.il_text.proofs.telling.put_fault.Goals as goal

pub returns-in-Memory : goal.returns-in-Memory
returns-in-Memory g c = rw c.in-Memory.is c.put-in-Memory.ensures

pub returns-in-ScheduleAt : goal.returns-in-ScheduleAt
returns-in-ScheduleAt g c = rw c.in-ScheduleAt.is (rw c.from-in-ScheduleAt.ensures at c.put_pair-in-ScheduleAt.ensures)
