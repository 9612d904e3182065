use Rattle.std.proofs.Common.{◌≡◌, [], map}
use Rattle.il_model.specs.Checking.{first_fault, arguments_fault}
use Rattle.il_model.specs.Settled.{as_settled}
use Rattle.il_model.proofs.ArgumentFaults.{IsLate, fault_from}
use Rattle.il_model.proofs.arguments.arguments_fault.Given as goal

abbrev pub invariant-loop-i : goal.invariant-loop-i
invariant-loop-i l = record {
  late : IsLate l.found;
  rest : first_fault l.found (fault_from l.program l.kind l.settles l.arguments l.i) ≡ arguments_fault l.program l.kind [] (map (as_settled l.settles) l.arguments);
}
