use Rattle.plc_figures.proofs.Chains.{equally, then}
use Rattle.field_page.proofs.page.put_device.Goals as goal

pub returns : goal.returns
returns c = then c.in_ok-put_party.ensures (then c.in_ok-put_spans.ensures ((equally (c.outputs_words.ensures) c.in_ok-put.ensures)))
