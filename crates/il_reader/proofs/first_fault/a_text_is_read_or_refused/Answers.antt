use Rattle.il_reader.proofs.TextFaults.{one_of_both, never_both, one_source, one_fault}
use Rattle.il_reader.proofs.first_fault.a_text_is_read_or_refused.Goals as goal

pub returns : goal.returns
returns c = record {
  one_of_both = λ bytes. one_of_both bytes;
  never_both = λ bytes s g a b. never_both bytes s g a b;
  source = λ bytes s r a b. one_source bytes s r a b;
  fault = λ bytes f g a b. one_fault bytes f g a b;
}
