use Rattle.std.proofs.Common.{◌≡◌, ◌+◌, map, drop}
use Rattle.il_units.specs.Units.{line_text}
use Rattle.il_units.specs.Expansion.{scope_text, body_from}
use Rattle.il_units.specs.Misuse.{lines_fault}
use Rattle.il_units.proofs.units.with_lines.Given as goal

abbrev pub invariant-loop-i : goal.invariant-loop-i
invariant-loop-i l = (lines_fault (scope_text l.scope) l.body (l.i + 1) (map line_text (drop l.i l.lines)) ≡ lines_fault (scope_text l.scope) l.fn.before 1 (map line_text l.lines)) × (body_from (scope_text l.scope) l.body (l.i + 1) (map line_text (drop l.i l.lines)) ≡ body_from (scope_text l.scope) l.fn.before 1 (map line_text l.lines))
