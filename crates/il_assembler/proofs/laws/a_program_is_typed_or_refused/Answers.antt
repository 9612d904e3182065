use Rattle.il_assembler.proofs.FirstFault.{one_of_both, never_both, one_typed, one_fault}
use Rattle.il_assembler.proofs.laws.a_program_is_typed_or_refused.Goals as goal

pub returns : goal.returns
returns c = record {
  one_of_both = λ P. one_of_both P;
  never_both = λ P Q n f is fault. never_both P Q n f is fault;
  typed = λ P Q R a b. one_typed P Q R a b;
  fault = λ P m n f g a b. one_fault P m n f g a b;
}
