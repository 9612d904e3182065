-- How long a controller was out, and which command is the first one behind that.
use Rattle.std.specs.Prelude.{◌≡◌, ℕ, ◌+◌, ◌<◌, ◌⊎◌, List, Option, Some, None, MatchOption, Any}
use Rattle.il_model.specs.declared.command.Command.{Command}
use Rattle.il_model.specs.declared.command.Command.TheVariants as commands
use Rattle.plc_restarts.specs.declared.outage.Clocks.{Clocks}
use Rattle.plc_restarts.specs.declared.outage.LastScan.{LastScan}
use Rattle.plc_restarts.specs.declared.outage.LastScan.TheVariants.{NoScan, Heard, Before}
use Rattle.plc_restarts.specs.declared.restart.Restart.{Restart}
use Rattle.plc_restarts.specs.declared.restart.Restart.TheVariants.{Hot, Warm, Cold}
use Rattle.plc_restarts.specs.declared.restart.Restarts.{Restarts}

-- The last scan is so old: by the machine's own clock where this process took it up, else by the wall clock and the
-- last time that was written down. No age is one's that came before any time was, or before a clock went back.
abbrev pub IsAge : LastScan → Clocks → ℕ → Type 0
IsAge NoScan now age = ⊥
IsAge (Heard at) now age = now.own ≡ at + age
IsAge (Before None) now age = ⊥
IsAge (Before (Some at)) now age = now.wall ≡ at + age

abbrev pub HasNoAge : LastScan → Clocks → Type 0
HasNoAge last now = (age : ℕ) → IsAge last now age → ⊥

-- it's younger than a limit: one without an age is older than any
pub record IsYoung (limit : ℕ) (last : LastScan) (now : Clocks) : Type 0 where
  pub age : ℕ
  pub aged : IsAge last now age
  pub below : age < limit

-- a restart of this kind was made by this command: a cold one leaves a warm one nothing to do
abbrev pub IsRestart : Restart → Command → Type 0
IsRestart Hot c = ⊥
IsRestart Warm c = (c ≡ commands.Warm) ⊎ (c ≡ commands.Reset)
IsRestart Cold c = c ≡ commands.Reset

-- one of these commands made it
abbrev pub IsRestarted : Restart → List Command → Type 0
IsRestarted kind behind = Any (IsRestart kind) behind

-- The controller goes on as it was, where it scanned never; where it's to go on whatever the outage was, or the outage
-- was short; or where, by what stands in the log behind its last scan, it was restarted since.
abbrev pub GoesOn : Restarts → LastScan → Clocks → List Command → Type 0
GoesOn r last now behind =
    (last ≡ NoScan) ⊎ ((r.kind ≡ Hot) ⊎ (IsYoung r.hot_within last now ⊎ IsRestarted r.kind behind))

-- the command that makes a restart of this kind
abbrev pub Makes : Restart → Command → Type 0
Makes Hot c = ⊥
Makes Warm c = c ≡ commands.Warm
Makes Cold c = c ≡ commands.Reset

-- which command is the first one, if one is
abbrev pub IsFirst : Restarts → LastScan → Clocks → List Command → Option Command → Type 0
IsFirst r last now behind first =
    MatchOption first (GoesOn r last now behind) (λ c. (GoesOn r last now behind → ⊥) × Makes r.kind c)
