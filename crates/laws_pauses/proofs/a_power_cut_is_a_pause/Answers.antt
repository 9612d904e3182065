use Rattle.laws_pauses.proofs.Lives.{unbroken}
use Rattle.laws_pauses.proofs.a_power_cut_is_a_pause.Goals as goal

pub returns : goal.returns
returns g c = λ f i answer known steps right. unbroken f i answer known steps right
