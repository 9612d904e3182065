use Rattle.std.proofs.Common.{◌≡◌, [], ◌+◌}
use Rattle.il_model.specs.Faulty.{faulty_argument}
use Rattle.il_model.proofs.FaultyWords.{faulty_from}
use Rattle.il_model.proofs.faulty.faulty_argument.Given as goal

abbrev pub invariant-loop-i : goal.invariant-loop-i
invariant-loop-i l = l.i + faulty_from l.program l.kind l.arguments l.i ≡ faulty_argument l.program l.kind [] l.arguments
