-- What writing a text does to a counted writer, and the numbers of what fails.
use Rattle.std.specs.Prelude.{ℕ, ◌≤◌, List, take, Result, MatchResult, OnErr}
use Rattle.std.specs.Io.KnownBytes.{Appends}
use Rattle.io_model.specs.declared.counted.CountedWrite.{Ghosts as CountedWriter}
use Rattle.io_model.specs.Streams.{Failed}
use Rattle.il_lister.specs.declared.fault.ListFault.{ListFault}
use Rattle.il_lister.specs.declared.fault.ListFault.TheVariants.{Device}

abbrev pub fault_number : ListFault → ℕ
fault_number Device = 1

-- all of the text went out, or a prefix of it where the writer failed
pub record Writes {W : Type 0} (w : CountedWriter W) (text : List ℕ) (old new : W)
    (result : Result (Unit {0}) ListFault) : Type 0 where
  pub sent : MatchResult result (λ _. Appends (w.held old) (w.held new) text)
      (λ _. (n : ℕ) × Appends (w.held old) (w.held new) (take n text))
  pub device : OnErr result (Failed (w.faults old) (w.faults new))
  pub counts : w.faults old ≤ w.faults new
