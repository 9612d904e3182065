use Rattle.std.proofs.Common.{rules}
use Rattle.net_records.proofs.Going.{pushes_more}
use Rattle.net_records.proofs.records.Records.push.Goals as goal

pub writing-preserved : goal.writing-preserved
writing-preserved g c = record {
  went = pushes_more _ _ _ _ _ _ c.writing.invariant.went c.write_once.ensures.went;
  stops = search rules;
}

pub returns-in-Err-clause-went : goal.returns-in-Err-clause-went
returns-in-Err-clause-went g c = pushes_more _ _ _ _ _ _ c.writing.invariant.went c.write_once.ensures.went
