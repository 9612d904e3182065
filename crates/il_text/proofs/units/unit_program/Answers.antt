use Rattle.std.proofs.Common.{◌⊎◌}
use Rattle.std.proofs.lemmas.Result.{err_from_is_err_and}
use Rattle.il_units.specs.Units.{unit_text}
use Rattle.il_text.specs.Meaning.{IsUnitsReadFault, IsUnitsFault}
use Rattle.il_text.proofs.UnitWalk.{begins, goes_on, units_refused, last_declared, last_typed, last_found, last_memory}
use Rattle.il_text.proofs.units.unit_program.Goals as goal

pub loop-unit-init : goal.loop-unit-init
loop-unit-init c = begins c.args.text.now unit_text c.units-unit-items.result.now c.new-above.result.items c.new-above.ensures.items

pub loop-unit-preserved : goal.loop-unit-preserved
loop-unit-preserved c =
    goes_on c.args.text.now c.in_ok-units.units.text unit_text c.units-unit-items.result.now c.loop-unit.unit-index c.unit-item.result c.loop-unit.above.items c.as_slice.result.now c.push.new.self.items c.in_ok-flat.flat c.in_ok-flat.program c.loop-unit.last c.in_ok-units.ensures.found.0 c.as_slice.ensures.value c.loop-unit-test.true c.unit-item.is c.in_ok-flat.ensures.flat c.in_ok-push.ensures.items c.in_ok-flat.ensures.declared c.in_ok-flat.ensures.found c.in_ok-flat.ensures.good c.loop-unit.invariant

pub returns-in_err-flat-clause-refused : goal.returns-in_err-flat-clause-refused
returns-in_err-flat-clause-refused c =
    let p = err_from_is_err_and c.from_residual-in_err-flat.result c.from_residual-in_err-flat.ensures.1 in
    rw (p.1, p.2) (units_refused c.args.text.now c.in_ok-units.units.text c.in_ok-units.units.units unit_text c.units-unit-items.result.now c.loop-unit.unit-index c.unit-item.result c.loop-unit.above.items c.as_slice.result.now c.loop-unit.last c.in_err-flat.field-0.0 c.requires c.in_ok-units.ensures.found.0 c.as_slice.ensures.value c.in_ok-units.ensures.found.1 c.units-unit-items.ensures c.loop-unit-test.true c.unit-item.is c.loop-unit.invariant c.in_err-flat.ensures.refused)

pub returns-clause-declared : goal.returns-clause-declared
returns-clause-declared c = last_declared c.loop-unit.above.items c.loop-unit.last c.loop-unit.invariant.program

pub returns-clause-typed : goal.returns-clause-typed
returns-clause-typed c = last_typed c.loop-unit.above.items c.loop-unit.last c.loop-unit.invariant.program

pub returns-clause-found : goal.returns-clause-found
returns-clause-found c =
    last_found c.args.text.now c.in_ok-units.units.units unit_text c.units-unit-items.result.now c.loop-unit.unit-index c.loop-unit.above.items c.loop-unit.last c.requires c.in_ok-units.ensures.found.1 c.units-unit-items.ensures c.loop-unit-test.false c.loop-unit.invariant

pub returns-clause-refused : goal.returns-clause-refused
returns-clause-refused c = last_memory (λ told. IsUnitsReadFault c.args.text.now told ⊎ IsUnitsFault c.args.text.now told) c.loop-unit.above.items c.loop-unit.last c.loop-unit.invariant.program
