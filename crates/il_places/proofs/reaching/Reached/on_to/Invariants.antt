use Rattle.std.proofs.Common.{◌≡◌, take}
use Rattle.il_reader.specs.Texts.{place_behind}
use Rattle.il_places.proofs.reaching.Reached.on_to.Given as goal

abbrev pub invariant-loop-i : goal.invariant-loop-i
invariant-loop-i l = l.place ≡ place_behind (take l.i l.text)
