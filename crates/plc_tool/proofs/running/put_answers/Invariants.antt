use Rattle.std.proofs.Common.{◌≡◌, ◌++◌, ℕ, List, Ok, drop}
use Rattle.il_places.specs.Located.{placed_lines}
use Rattle.plc_names.specs.Named.{answers_by}
use Rattle.il_text.specs.Telling.{Puts}
use Rattle.plc_tool.proofs.running.put_answers.Given as goal

abbrev pub invariant-loop-named : goal.invariant-loop-named
invariant-loop-named g l = record {
  told : List ℕ;
  put : Puts g.W.CountedWrite told l.initial.out l.out (Ok tt);
  whole : told ++ placed_lines l.places (answers_by l.controller (drop l.named-index l.commands)) ≡ placed_lines l.places (answers_by l.initial.controller l.commands);
}
