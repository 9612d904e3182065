use Rattle.laws_keys.proofs.Placed.{has_places}
use Rattle.laws_keys.proofs.only_handed_is_taken.Goals as goal

pub returns : goal.returns
returns g c = λ group book moves brought. has_places c.only_sealed_is_given.ensures book group moves brought
