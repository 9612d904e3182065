-- The answer to a command that runs a scan on.
use Rattle.std.proofs.Common.{◌≡◌, sym, subst}
use Rattle.il_model.specs.declared.command.Command.{Command}
use Rattle.il_model.specs.declared.command.Answer.{Answer}
use Rattle.il_model.specs.Typing.{IsTyped}
use Rattle.ctl_model.specs.Commands.{Control, command_outcome}
use Rattle.ctl_model.specs.Runs.{AnswersRun, HasWholeInputs}
use Rattle.ctl_model.specs.Suits.{Suits}
use Rattle.ctl_model.proofs.OneEnd.{answers_run}
use Rattle.ctl_debugger.specs.Owned.{Owned}

pub answered : (o now : Owned) (c : Command) (x : Answer × Control) → o ≡ now → IsTyped o.program → Suits o.program o.control.cycle.state → HasWholeInputs c
    → x ≡ command_outcome now.program now.budget now.control c → AnswersRun now.program now.budget now.control c x
answered o now c x same typed suits whole is =
    let kept = subst (λ (p : Owned). IsTyped p.program × Suits p.program p.control.cycle.state) same (typed, suits) in
    subst (AnswersRun now.program now.budget now.control c) (sym is) (answers_run now.program now.budget now.control c kept.0 kept.1 whole)
