use Rattle.std.proofs.Common.{arith}
use Rattle.field_page.specs.Texts.{escaped}
use Rattle.plc_figures.proofs.Chains.{nothing}
use Rattle.plc_figures.proofs.Numbered.{all_plain, one_more_by}
use Rattle.field_page.proofs.text.put_within.Goals as goal

pub loop-byte-init : goal.loop-byte-init
loop-byte-init c = nothing

pub loop-byte-preserved : goal.loop-byte-preserved
loop-byte-preserved c = one_more_by (escaped c.args.within) c.args.text.now _ _ (omega arith) c.loop-byte.invariant c.in_ok-put_byte.ensures

pub returns : goal.returns
returns c = all_plain (escaped c.args.within) c.args.text.now _ c.loop-byte-test.false c.loop-byte.invariant
