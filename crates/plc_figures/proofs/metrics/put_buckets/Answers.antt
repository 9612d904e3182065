use Rattle.std.proofs.Common.{arith}
use Rattle.plc_figures.specs.Readings.{bounds}
use Rattle.plc_figures.specs.Metrics.{bucket_text}
use Rattle.plc_figures.proofs.Chains.{nothing}
use Rattle.plc_figures.proofs.Numbered.{all, more}
use Rattle.plc_figures.proofs.metrics.put_buckets.Goals as goal

pub loop-bucket-init : goal.loop-bucket-init
loop-bucket-init c = nothing

pub loop-bucket-preserved : goal.loop-bucket-preserved
loop-bucket-preserved c = more (bucket_text c.args.counts.now) bounds _ _ (omega arith) c.loop-bucket.invariant c.in_ok-put_bucket.ensures

pub returns : goal.returns
returns c = all (bucket_text c.args.counts.now) bounds _ c.loop-bucket-test.false c.loop-bucket.invariant
