-- What a power cut leaves of a file, and what is kept by that.
use Rattle.std.specs.Prelude.{◌≡◌, ℕ, List, ◌++◌, map}
use Rattle.std.specs.List.{AllByRecursion}
use Rattle.vr_journal.specs.declared.kept.Kept.{Kept}
use Rattle.vr_journal.specs.Journals.{Keeps, beginning, inputs}
use Rattle.vr_journal.specs.Records.{Entry, AreHonest, Fits, IsPrefix, first_sum, spelt, sum_behind_all}

-- What is trusted of a disk: the records that were flushed stand in the file as they were written. Of what was being
-- written behind them any bytes may stand there, or others; but none in which another record's sum is right by chance.
pub record IsLeft (flushed writing : List Entry) (bytes : List ℕ) : Type 0 where
  pub tail : List ℕ
  pub is : bytes ≡ spelt first_sum flushed ++ tail
  pub honest : AreHonest (sum_behind_all first_sum flushed) writing tail

-- What is kept then: the base, the inputs that were flushed, and behind them some first ones of those that were being
-- written.
pub record IsKept (what : List ℕ) (later writing : List Entry) (k : Kept) : Type 0 where
  pub some : List Entry
  pub first_of : IsPrefix some writing
  pub base : k.base.items ≡ what
  pub taken : map (λ v. v.items) k.inputs.items ≡ inputs later ++ inputs some

abbrev pub CutsKeepWhatWasFlushed : Type 0
CutsKeepWhatWasFlushed = (owner what bytes : List ℕ) (generation start : ℕ) (later writing : List Entry) (k : Kept)
    → AllByRecursion Fits (beginning owner generation start what ++ later)
    → IsLeft (beginning owner generation start what ++ later) writing bytes → Keeps owner bytes k
    → IsKept what later writing k
