-- The answers that are still to come.
use Rattle.std.proofs.Common.{◌≡◌, ◌+◌, ◌<◌, ℕ, suc, List, ◌∷◌, drop, length, get_or, ap, sym, ◌∙◌, add-one, drop-cons}
use Rattle.il_model.specs.declared.command.Answer.{Answer}
use Rattle.ctl_debugger.specs.Owned.{Owned}
use Rattle.ctl_debugger.specs.Outcome.{outcome}
use Rattle.plc_json.specs.declared.command.NamedCommand.{NamedCommand}
use Rattle.plc_names.specs.Named.{meant, answers_by}

-- the answers of what is left, behind that of the next command
pub next_answers : (c d : Owned) (commands : List NamedCommand) (i : ℕ) (named : NamedCommand) (answer : Answer)
    → i < length commands → named ≡ get_or commands i named → (answer, d) ≡ outcome c (meant c.program named)
    → answers_by c (drop i commands) ≡ answer ∷ answers_by d (drop (i + 1) commands)
next_answers c d commands i named answer lt is does =
    let rest : drop i commands ≡ named ∷ drop (i + 1) commands = rw add-one (drop-cons commands i named lt ∙ ap (λ (x : NamedCommand). x ∷ drop (suc i) commands) (sym is)) in
    ap (answers_by c) rest ∙ ap (λ (x : Answer × Owned). x.0 ∷ answers_by x.1 (drop (i + 1) commands)) (sym does)
