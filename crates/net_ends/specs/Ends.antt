-- The two ends of a connection that carries frames of messages, over readers and writers that never wait.
use Rattle.std.specs.Prelude.{ℕ, ◌≡◌, ◌-◌, ◌^◌, ◌<◌, ◌⊎◌, Result, Ok, Err, ◌+◌, ◌≤◌, List, [], ◌++◌, length, Option}
use Rattle.std.specs.Io.KnownBytes.{Appends, Consumes}
use Rattle.io_model.specs.Streams.{Ending, Took, IsRest}
use Rattle.vr_model.specs.declared.message.Message.{Message}
use Rattle.vr_wire.specs.declared.fault.WireFault.{WireFault}
use Rattle.vr_wire.specs.Streams.{frames}
use Rattle.net_ends.specs.declared.non_blocking.Stop.{Stop}
use Rattle.net_ends.specs.declared.non_blocking.Stop.TheVariants.{ForNow, ForGood}
use Rattle.net_ends.specs.declared.inbox.Flow.{Flow}
use Rattle.net_ends.specs.declared.inbox.Flow.TheVariants.{More}

-- ---- readers and writers that never wait, and count the calls in which no byte went

-- how often no byte went for now, and how often none goes any more
pub record Stops : Type 0 where
  pub pauses : ℕ
  pub ends : ℕ

-- one more was counted; the count goes no further than 2 ^ 64 - 1
abbrev pub IsCounted : ℕ → ℕ → Type 0
IsCounted before after = (before < after) ⊎ (before ≡ 2 ^ 64 - 1)

-- in the call it paused, or came to its end
abbrev pub HasPaused : Stops → Stops → Type 0
HasPaused before after = IsCounted before.pauses after.pauses

abbrev pub HasEnded : Stops → Stops → Type 0
HasEnded before after = IsCounted before.ends after.ends

-- what a call counts, by its answer
abbrev pub Counts : {A : Type 0} → Result A Stop → Stops → Stops → Type 0
Counts (Ok went) before after = after ≡ before
Counts (Err ForNow) before after = HasPaused before after × (after.ends ≡ before.ends)
Counts (Err ForGood) before after = HasEnded before after × (after.pauses ≡ before.pauses)

-- a reader or a writer with its counts
pub record Counting (T : Type 0) : Type 0 where
  pub inner : T
  pub stops : Stops

-- ---- the ends

-- so many bytes may wait
abbrev pub most_waiting : ℕ
most_waiting = 1048576

-- something waits, and with this frame it's more than may wait
abbrev pub IsTooMuch : List ℕ → List ℕ → Type 0
IsTooMuch waits frame = (0 < length waits) × (most_waiting < length waits + length frame)

-- These bytes of what waits were written, and the others wait.
pub record Flushes (held held' : Option (List ℕ)) (waits waits' : List ℕ) : Type 0 where
  pub written : List ℕ
  pub rest : waits ≡ written ++ waits'
  pub went : Appends held held' written

-- what a stream has come to, the bytes after it that were read and not fed yet, and how often in a row memory ran out
-- when they were fed
pub record Reading : Type 0 where
  pub stream : Ending WireFault
  pub kept : List ℕ
  pub tries : ℕ

-- so often bytes are fed for which memory runs out
abbrev pub most_tries : ℕ
most_tries = 100

-- memory ran out once more, and the bytes are kept
pub record KeepsPiece (before after : Reading) : Type 0 where
  pub stream : after.stream ≡ before.stream
  pub kept : after.kept ≡ before.kept
  pub tries : after.tries ≡ before.tries + 1
  pub few : after.tries ≤ most_tries

-- The reader came to its end, the stream goes on with no frame, or memory ran out too often.
abbrev pub IsOver : Stops → Stops → Reading → Reading → Type 0
IsOver stops stops' before after = HasEnded stops stops' ⊎ ((IsRest after.stream → ⊥) ⊎ (most_tries ≤ before.tries))

-- nothing was fed, or a piece was
abbrev pub Goes : Ending WireFault → List ℕ → Ending WireFault → List Message → List Message → Type 0
Goes before piece after out out' = ((piece ≡ []) × (after ≡ before) × (out' ≡ out))
    ⊎ Took frames before piece after out out'

-- These bytes were read, after those that were kept.
pub record Filled (before after : Reading) (left left' : Option (List ℕ)) : Type 0 where
  pub came : List ℕ
  pub read : Consumes left left' came
  pub kept : after.kept ≡ before.kept ++ came
  pub same : after.stream ≡ before.stream
  pub tries : after.tries ≡ before.tries

-- The front of what was kept was fed, and the messages that were whole then were added.
pub record Given (before after : Reading) (out out' : List Message) : Type 0 where
  pub piece : List ℕ
  pub fed : before.kept ≡ piece ++ after.kept
  pub goes : Goes before.stream piece after.stream out out'

-- These bytes were read; of all that was not fed yet the front was fed, and the messages that were whole then were
-- added. Where there may be more at once, something was fed.
pub record Reads (flow : Flow) (before after : Reading) (left left' : Option (List ℕ)) (out out' : List Message)
    : Type 0 where
  pub came : List ℕ
  pub piece : List ℕ
  pub read : Consumes left left' came
  pub fed : before.kept ++ came ≡ piece ++ after.kept
  pub goes : Goes before.stream piece after.stream out out'
  pub some : flow ≡ More → 0 < length piece
