use Rattle.std.proofs.Common.{◌≡◌, ◌++◌}
use Rattle.il_places.proofs.origins.put_body.Given as goal

abbrev pub invariant-loop-origin : goal.invariant-loop-origin
invariant-loop-origin l = l.found.items ≡ l.initial.found.items ++ l.yielded
