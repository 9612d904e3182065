use Rattle.il_real.proofs.Texts.{reads_back}
use Rattle.il_real.proofs.text.a_text_is_read_back.Goals as goal

pub returns : goal.returns
returns c = λ r. reads_back r
