-- A line that is told in parts.
use Rattle.std.proofs.Common.{◌≡◌, ◌<◌, ◌≤◌, ℕ, List, ◌++◌, Result, Ok, Err, arith}
use Rattle.std.proofs.KnownBytes.{Appends-trans}
use Rattle.io_model.specs.Streams.{Failed}
use Rattle.io_model.specs.declared.counted.DeviceFault.{DeviceFault}
use Rattle.io_model.specs.declared.counted.CountedWrite.{Ghosts as CountedWriter}
use Rattle.il_text.specs.Telling.{Sends}

failed_later : (a b c : ℕ) → a ≤ b → b ≤ c → Failed b c → Failed a c
failed_later a b c le up h = grind arith

-- the first part, and then the second
pub then : {W : Type 0} {w : CountedWriter W} {a b : List ℕ} {s t u : W} {x : Unit {0}} {r : Result (Unit {0}) DeviceFault} → Sends w a s t (Ok x) → Sends w b t u r → Sends w (a ++ b) s u r
then {w = w} {a = a} {b = b} {s = s} {t = t} {u = u} {r = Ok y} h k = record {
  sent = Appends-trans (w.held s) (w.held t) (w.held u) a b h.sent k.sent;
  device = tt;
  counts = omega arith;
}
then {w = w} {a = a} {b = b} {s = s} {t = t} {u = u} {r = Err e} h k = record {
  sent = tt;
  device = failed_later (w.faults s) (w.faults t) (w.faults u) h.counts k.counts k.device;
  counts = omega arith;
}
