use Rattle.std.proofs.Common.{ℕ, arith, rules}
use Rattle.net_sealed.proofs.Readings.{reads_blank, stops_blank}
use Rattle.net_sealed.proofs.records.SealedRecords.read_bodies.Goals as goal

pub returns-in-Err-clause-reads : goal.returns-in-Err-clause-reads
returns-in-Err-clause-reads g c =
    stops_blank (Unit {0}) ℕ c.in-Err.stop _ _ _ _ c.turns.self.incoming c.give-given.new.self _ c.give-given.new.out c.give-given.result c.turns.invariant.reads c.give-given.ensures.given (omega arith) c.in-Err.ensures.reads

pub turns-preserved : goal.turns-preserved
turns-preserved g c = record {
  reads = reads_blank _ _ _ _ c.turns.self.incoming c.give-given.new.self _ c.give-given.new.out c.give-given.result c.turns.invariant.reads c.give-given.ensures.given (omega arith) c.in-Ok.ensures.reads;
  stops = search rules;
  room = search rules;
}
