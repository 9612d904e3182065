use Rattle.plc_figures.specs.Readings.{bounds}
use Rattle.plc_figures.specs.Metrics.{bucket_text}
use Rattle.plc_figures.proofs.Numbered.{texts_before}
use Rattle.plc_figures.specs.Texts.{IsAdded}
use Rattle.plc_figures.proofs.metrics.put_buckets.Given as goal

abbrev pub invariant-loop-bucket : goal.invariant-loop-bucket
invariant-loop-bucket l = IsAdded l.initial.out.items (texts_before (bucket_text l.counts) bounds l.bucket) l.out.items
