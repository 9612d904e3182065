use Rattle.std.proofs.Common.{◌≡◌}
use Rattle.std.specs.Io.KnownBytes.{Keeps}
use Rattle.io_model.proofs.counted.CountedCountedWrite.write.Given as goal

abbrev pub invariant-loop : goal.invariant-loop
invariant-loop g l = record {
  bytes : Keeps (g.T.Write.contents l.initial.self-inside.inner) (g.T.Write.contents l.self-inside.inner);
  failures : l.self-inside.failures ≡ l.initial.self-inside.failures;
}
