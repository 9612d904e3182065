-- The lines of the answers that are told, and of those that are still to come.
use Rattle.std.proofs.Common.{◌≡◌, ◌+◌, ◌<◌, ℕ, List, ◌++◌, drop, length, get_or, ap, sym, ◌∙◌, append_assoc}
use Rattle.il_model.specs.declared.command.Answer.{Answer}
use Rattle.ctl_debugger.specs.Owned.{Owned}
use Rattle.ctl_debugger.specs.Outcome.{outcome}
use Rattle.plc_json.specs.declared.command.NamedCommand.{NamedCommand}
use Rattle.il_places.specs.Places.{PlacesText}
use Rattle.il_places.specs.Located.{placed_line, placed_lines}
use Rattle.plc_names.specs.Named.{meant, answers_by}
use Rattle.plc_names.proofs.Next.{next_answers}

module _ (ps : PlacesText) (told all : List ℕ) (c d : Owned) (commands : List NamedCommand) (i : ℕ) (named : NamedCommand) (answer : Answer)
    (lt : i < length commands) (is : named ≡ get_or commands i named) (does : (answer, d) ≡ outcome c (meant c.program named))
    (whole : told ++ placed_lines ps (answers_by c (drop i commands)) ≡ all) where
  -- a line more, and the lines behind it
  pub lines_around : told ++ (placed_line ps answer ++ placed_lines ps (answers_by d (drop (i + 1) commands))) ≡ all
  lines_around = ap (λ (l : List Answer). told ++ placed_lines ps l) (sym (next_answers c d commands i named answer lt is does)) ∙ whole

  pub lines_more : (told ++ placed_line ps answer) ++ placed_lines ps (answers_by d (drop (i + 1) commands)) ≡ all
  lines_more = append_assoc told (placed_line ps answer) (placed_lines ps (answers_by d (drop (i + 1) commands))) ∙ lines_around
