use Rattle.std.proofs.Common.{◌≡◌}
use Rattle.std.specs.Io.KnownBytes.{Keeps}
use Rattle.io_model.proofs.counted.CountedCountedRead.read.Given as goal

abbrev pub invariant-loop : goal.invariant-loop
invariant-loop g l = record {
  bytes : Keeps (g.T.Read.remaining l.initial.self-inside.inner) (g.T.Read.remaining l.self-inside.inner);
  failures : l.self-inside.failures ≡ l.initial.self-inside.failures;
}
