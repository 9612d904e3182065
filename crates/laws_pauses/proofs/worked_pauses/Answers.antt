use Rattle.std.proofs.Common.{refl}
use Rattle.laws_pauses.proofs.worked_pauses.Goals as goal

-- all computed by the definitions
pub returns : goal.returns
returns g c = λ answer a. record {
  lost = refl;
  uncommitted = refl;
  survived = refl;
  committed = refl;
  logs = (refl, refl);
  handed = (refl, refl);
  replied = refl;
  forgotten = refl;
}
