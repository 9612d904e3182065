use Rattle.std.proofs.Common.{Bool, subst}
use Rattle.il_places.specs.Places.{AreKnownPlaces}
use Rattle.plc_tool.proofs.running.told_places.Goals as goal

pub returns-in-Some-clause-found : goal.returns-in-Some-clause-found
returns-in-Some-clause-found c = subst (λ (b : Bool). AreKnownPlaces c.args.text.now b c.in-Some.places) c.any_changes.ensures c.in-Some.ensures
