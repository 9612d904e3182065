use Rattle.std.proofs.Common.{◌≡◌, drop}
use Rattle.il_loader.specs.Judging.{label_place}
use Rattle.il_loader.proofs.judging.label_place.Given as goal

abbrev pub invariant-loop-label : goal.invariant-loop-label
invariant-loop-label l = label_place l.place (drop l.label-index l.labels) ≡ label_place l.end l.labels
