-- A typed program has no bare numbers, so it is its own typed program.
use Rattle.std.proofs.Common.{◌≡◌, ℕ, Result, Ok, ap, ◌∙◌}
use Rattle.il_model.specs.declared.typing.TypeFault.{TypeFault}
use Rattle.il_model.specs.Program.{Program}
use Rattle.il_model.specs.Typing.{IsTyped}
use Rattle.il_model.specs.Checking.{◌>>=◌, HasNoTypeFault}
use Rattle.il_model.specs.Settled.{typed_program_of, IsTypedProgramOf}
use Rattle.il_model.proofs.Judged.{faultless}
use Rattle.il_model.proofs.SettledPrograms.{typed_plain, settled_plain, typed_program}

settles : (Q : Program) → HasNoTypeFault Q → typed_program_of Q ≡ Ok Q
settles Q typed = settled_plain Q (typed_plain Q typed) ∙ ap (λ (r : Result (Unit {0}) (TypeFault × ℕ)). r >>= λ _. Ok Q) typed

pub typed_settles : (Q : Program) → IsTyped Q → IsTypedProgramOf Q Q
typed_settles Q typed = typed_program Q Q (settles Q (faultless Q typed))
