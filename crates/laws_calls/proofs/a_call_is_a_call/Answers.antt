use Rattle.laws_calls.proofs.Made.{does_alike}
use Rattle.laws_calls.proofs.a_call_is_a_call.Goals as goal

pub returns : goal.returns
returns c = λ start M text above program s end all. does_alike M text above program all s end
