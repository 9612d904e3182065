use Rattle.std.proofs.Common.{◌≡◌, ◌+◌, length}
use Rattle.il_model.specs.Marks.{words_in, address_of}
use Rattle.il_loader.proofs.typing.address_of.Given as goal

abbrev pub invariant-loop-rest : goal.invariant-loop-rest
invariant-loop-rest l = record { same : l.address + address_of l.rest l.left ≡ address_of l.code l.n; within : l.address + words_in l.rest ≡ words_in l.code }

abbrev pub decreases-loop-rest : goal.decreases-loop-rest
decreases-loop-rest l = length l.rest
