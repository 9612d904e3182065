use Rattle.std.proofs.Common.{arith, refl}
use Rattle.plc_tool.specs.Reports.{release_text}
use Rattle.plc_tool.proofs.Items.{item_written}
use Rattle.il_text.proofs.Numbered.{none_written, all_written}
use Rattle.plc_tool.proofs.report.releases.Goals as goal

pub loop-index-init : goal.loop-index-init
loop-index-init g c = λ plain. none_written _ release_text c.args.releases.now _ plain

pub loop-index-preserved : goal.loop-index-preserved
loop-index-preserved g c = λ plain. let h = c.loop-index.invariant plain in item_written _ release_text c.args.releases.now _ _ _ _ c.index-releases-index.result (omega arith) c.index-releases-index.is h (c.in_ok-release.ensures h.plain refl)

pub returns : goal.returns
returns g c = λ plain ok. all_written _ release_text c.args.releases.now _ _ _ c.loop-index-test.false (c.loop-index.invariant plain)
