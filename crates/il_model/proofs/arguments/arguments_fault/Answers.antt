use Rattle.std.proofs.Common.{rules, ◌≡◌, ap, sym, ◌∙◌, subst, ◌+◌, take}
use Rattle.std.specs.Prelude.{[], map, Option, Some}
use Rattle.il_model.specs.declared.typing.TypeFault.{TypeFault}
use Rattle.il_model.specs.Checking.{first_fault, arguments_fault}
use Rattle.il_model.specs.Settled.{as_settled}
use Rattle.il_model.proofs.ArgumentFaults.{IsLate, argument_late, first_late, fault_from, one_more, ends_bad}
use Rattle.il_model.proofs.arguments.arguments_fault.Goals as goal

pub returns-in-Some-BadField : goal.returns-in-Some-BadField
returns-in-Some-BadField c =
    let bad : c.argument_fault-fault.result ≡ Some TypeFault.BadField = search rules in
    bad
    ∙ ends_bad c.args.program.now c.args.kind c.args.settles c.args.arguments.now c.loop-i.i c.index-arguments-i.result c.loop-i.found
    (arguments_fault c.args.program.now c.args.kind [] (map (as_settled c.args.settles) c.args.arguments.now))
    c.loop-i-test.true c.index-arguments-i.is (sym c.argument_fault-fault.ensures ∙ bad) c.loop-i.invariant.late c.loop-i.invariant.rest

pub loop-i-preserved : goal.loop-i-preserved
loop-i-preserved c =
    let fault = c.argument_fault-fault.result in
    let late = subst IsLate (sym c.argument_fault-fault.ensures) (argument_late c.args.program.now c.args.kind (take c.loop-i.i c.args.arguments.now) (as_settled c.args.settles c.index-arguments-i.result)) in
    record {
      late = subst IsLate (sym c.first_fault-found.ensures) (first_late c.loop-i.found fault c.loop-i.invariant.late late);
      rest =
          ap (λ (o : Option TypeFault). first_fault o (fault_from c.args.program.now c.args.kind c.args.settles c.args.arguments.now (c.loop-i.i + 1))) c.first_fault-found.ensures
          ∙ one_more c.args.program.now c.args.kind c.args.settles c.args.arguments.now c.loop-i.i c.index-arguments-i.result c.loop-i.found fault
          (arguments_fault c.args.program.now c.args.kind [] (map (as_settled c.args.settles) c.args.arguments.now))
          c.loop-i-test.true c.index-arguments-i.is c.argument_fault-fault.ensures c.loop-i.invariant.rest;
    }
