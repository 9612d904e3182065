use Rattle.std.proofs.Common.{◌≡◌, ◌∙◌, Bool, sym, ap, arith}
use Rattle.std.proofs.lemmas.List.{take_all}
use Rattle.il_model.specs.declared.program.Variable.{Variable}
use Rattle.il_lister.specs.Listing.{turn_text, variable_text}
use Rattle.il_lister.proofs.Parts.{equally, then}
use Rattle.il_lister.proofs.Sections.{runs, variable_run, variables_are, last_at, more_run, breaks_run, cut}
use Rattle.il_lister.proofs.declaration.write_variables.Goals as goal

abbrev flag : Variable → Bool
flag x = x.retained

-- the turn is by the one before, which the invariant tells
turn_is : (x : Variable) (a b : Bool) → a ≡ b → turn_text a x.retained x.name ≡ turn_text b x.retained x.name
turn_is x a b e = ap (λ (before : Bool). turn_text before x.retained x.name) e

pub loop-variable-preserved : goal.loop-variable-preserved
loop-variable-preserved g c = record {
  sent = more_run flag variable_run c.args.before c.args.variables.now c.loop-variable.variable-index c.variable-item.result (omega arith) c.variable-item.is c.loop-variable.invariant.sent
      (then (equally (turn_is c.variable-item.result _ _ c.loop-variable.invariant.last) c.in_ok-write_turn.ensures) c.in_ok-write_variable.ensures);
  last = sym (last_at flag c.args.before c.args.variables.now c.loop-variable.variable-index c.variable-item.result (omega arith) c.variable-item.is);
}

pub returns-in_err-write_turn : goal.returns-in_err-write_turn
returns-in_err-write_turn g c = equally (sym (variables_are c.args.before c.args.variables.now))
    (breaks_run flag variable_run c.args.before c.args.variables.now c.loop-variable.variable-index c.variable-item.result (omega arith) c.variable-item.is c.loop-variable.invariant.sent c.from_residual.ensures.0
    (cut (variable_text c.variable-item.result) (equally (turn_is c.variable-item.result _ _ c.loop-variable.invariant.last) c.in_err-write_turn.ensures)))

pub returns-in_err-write_variable : goal.returns-in_err-write_variable
returns-in_err-write_variable g c = equally (sym (variables_are c.args.before c.args.variables.now))
    (breaks_run flag variable_run c.args.before c.args.variables.now c.loop-variable.variable-index c.variable-item.result (omega arith) c.variable-item.is c.loop-variable.invariant.sent c.from_residual-in_err-write_variable.ensures.0
    (then (equally (turn_is c.variable-item.result _ _ c.loop-variable.invariant.last) c.in_ok-write_turn.ensures) c.in_err-write_variable.ensures))

pub returns : goal.returns
returns g c = equally (ap (runs flag variable_run c.args.before) (take_all c.loop-variable.variable-index c.args.variables.now (omega arith)) ∙ sym (variables_are c.args.before c.args.variables.now)) c.loop-variable.invariant.sent
