use Rattle.il_text.proofs.OneMeaning.{one_typed, one_fault, some_meaning, never_both}
use Rattle.il_text.proofs.one_meaning.a_text_means_one_thing.Goals as goal

pub returns : goal.returns
returns c = record {
  program = λ text P Q a b. one_typed text P Q a b;
  fault = λ text f g a b. one_fault text f g a b;
  one_of_both = λ text. some_meaning text;
  never_both = λ text P f is fault. never_both text P f is fault;
}
