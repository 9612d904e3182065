use Rattle.std.proofs.Common.{◌≡◌, ◌++◌, drop}
use Rattle.il_places.specs.Located.{asked_lines}
use Rattle.il_places.specs.Places.{IsReached}
use Rattle.il_places.proofs.locating.asked_lines.Given as goal

abbrev pub invariant-loop-n : goal.invariant-loop-n
invariant-loop-n l = record {
  lines : l.found.items ++ asked_lines l.places.text l.asked l.n (drop l.n l.places.origins) ≡ asked_lines l.places.text l.asked 0 l.places.origins;
  here : IsReached l.places.text l.reached;
}
