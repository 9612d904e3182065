use Rattle.std.proofs.Common.{rules, ◌≡◌, Some, sym, ap, ◌∙◌}
use Rattle.il_model.specs.declared.coded_operand.CodedOperand.TheVariants.{Location}
use Rattle.il_model.specs.CodedOperands.{any_loc, with_code}
use Rattle.il_model.proofs.CodedOperands.{coded_again, loc_back}
use Rattle.il_model.proofs.coded_operand.CodedOperand.of_code.Goals as goal

pub returns-in_err-loc-clause-found : goal.returns-in_err-loc-clause-found
returns-in_err-loc-clause-found c = λ operand own is.
    let none : c.from_residual.result ≡ with_code c.args.code = search rules in
    none ∙ ap with_code (sym is) ∙ coded_again operand own

pub returns-in_ok-loc-clause-found : goal.returns-in_ok-loc-clause-found
returns-in_ok-loc-clause-found c = λ operand own is.
    let there : Some (Location c.in_ok-loc.loc) ≡ with_code c.args.code = search rules in
    there ∙ ap with_code (sym is) ∙ coded_again operand own

pub returns-in_ok-loc-clause-only : goal.returns-in_ok-loc-clause-only
returns-in_ok-loc-clause-only c =
    let at : any_loc c.args.code ≡ Some c.in_ok-loc.loc = search rules in
    let back = loc_back c.args.code c.in_ok-loc.loc at in
    (back.cell, back.code)
