-- A save that is tried again, told try by try.
use Rattle.std.proofs.Common.{◌≡◌, ◌≤◌, ℕ, zero, suc, Bool, true, false, Option, Result, Ok, Err, arith}
use Rattle.std.specs.Prelude.{MatchResult, OnErr, is_ok}
use Rattle.io_model.specs.Streams.{Failed}
use Rattle.vr_model.specs.declared.event.Stored.{Stored}
use Rattle.vr_threads.specs.Trying.{SavesAtLast, TriesAgain}

module _ {S E : Type 0} (load_gives : S → Option Stored → S → Type 0) (save_gives : S → ℕ → Bool → S → Type 0) where
  -- the first try
  pub at_first : (s : S) (view : ℕ) (t : S) (r : Result (Unit {0}) E) → MatchResult r (λ _. save_gives s view true t) (λ _. save_gives s view false t) → MatchResult r (λ _. SavesAtLast load_gives save_gives s view true t) (λ _. SavesAtLast load_gives save_gives s view false t)
  at_first s view t (Ok done) h = (0, h)
  at_first s view t (Err e) h = (0, h)

  -- one try more
  pub one_more : (s : S) (view : ℕ) (failed t : S) (r : Result (Unit {0}) E) → SavesAtLast load_gives save_gives s view false failed → MatchResult r (λ _. TriesAgain load_gives save_gives failed view true t) (λ _. TriesAgain load_gives save_gives failed view false t) → MatchResult r (λ _. SavesAtLast load_gives save_gives s view true t) (λ _. SavesAtLast load_gives save_gives s view false t)
  one_more s view failed t (Ok done) before h = (suc before.0, (failed, before.1, h))
  one_more s view failed t (Err e) before h = (suc before.0, (failed, before.1, h))

  -- the last try failed where it isn't well
  pub at_last_failed : (s : S) (view : ℕ) (t : S) (r : Result (Unit {0}) E) → is_ok r ≡ false → MatchResult r (λ _. SavesAtLast load_gives save_gives s view true t) (λ _. SavesAtLast load_gives save_gives s view false t) → SavesAtLast load_gives save_gives s view false t
  at_last_failed s view t (Ok done) failed h = absurd cc
  at_last_failed s view t (Err e) failed h = h

-- a device that failed has failed since an earlier time, too
pub failed_later : (w v w' : ℕ) → w ≤ v → v ≤ w' → Failed v w' → Failed w w'
failed_later w v w' low high h = grind arith

pub later : {E : Type 0} (r : Result (Unit {0}) E) (w v w' : ℕ) → w ≤ v → v ≤ w' → OnErr r (Failed v w') → OnErr r (Failed w w')
later (Ok done) w v w' low high h = h
later (Err e) w v w' low high h = failed_later w v w' low high h
