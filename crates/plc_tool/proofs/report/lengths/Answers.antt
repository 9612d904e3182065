use Rattle.std.proofs.Common.{arith, refl}
use Rattle.plc_tool.specs.Reports.{length_text}
use Rattle.il_text.proofs.Numbered.{none_written, more_written, all_written}
use Rattle.plc_tool.proofs.report.lengths.Goals as goal

pub loop-index-init : goal.loop-index-init
loop-index-init g c = λ plain. none_written _ length_text c.args.lengths.now _ plain

pub loop-index-preserved : goal.loop-index-preserved
loop-index-preserved g c = λ plain. let h = c.loop-index.invariant plain in more_written _ length_text c.args.lengths.now _ _ _ _ _ (omega arith) h (c.in_ok-length.ensures h.plain refl)

pub returns : goal.returns
returns g c = λ plain ok. all_written _ length_text c.args.lengths.now _ _ _ c.loop-index-test.false (c.loop-index.invariant plain)
