use Rattle.std.proofs.Common.{refl, arith}
use Rattle.il_reader.specs.Texts.{column_behind}
use Rattle.il_places.proofs.reaching.Reached.beginning.Goals as goal

pub returns-clause-reached : goal.returns-clause-reached
unfolding column_behind
returns-clause-reached c = λ text. record { within = omega arith; is = refl }
