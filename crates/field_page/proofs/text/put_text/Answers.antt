use Rattle.plc_figures.proofs.Chains.{equally}
use Rattle.field_page.proofs.text.put_text.Goals as goal

pub returns : goal.returns
returns c = equally c.as_bytes.ensures.value c.in_ok-put.ensures
