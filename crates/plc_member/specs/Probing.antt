-- When the address of another machine is tried, for how long, and what is told of it.
use Rattle.std.specs.Prelude.{Bool, true, false, not, ◌&&◌, ℕ, ◌-◌, nat_le, Option, Some, None, if◌then◌else◌}
use Rattle.plc_member.specs.declared.prober.Reach.{Reach}
use Rattle.plc_member.specs.declared.prober.Reach.TheVariants as reaches
use Rattle.plc_member.specs.declared.prober.Verdict.{Verdict}
use Rattle.plc_member.specs.declared.prober.Verdict.TheVariants as verdicts

-- once a minute, by milliseconds, while there is a connection with the machine
abbrev pub is_to_try : Bool → Option ℕ → ℕ → Bool
is_to_try is_connected None now = is_connected
is_to_try is_connected (Some last) now = is_connected && nat_le 60000 (now - last)

-- a try that neither connects nor is refused ends after two seconds
abbrev pub judged : Reach → ℕ → ℕ → Verdict
judged reaches.Connected since now = verdicts.Found
judged reaches.Refused since now = verdicts.Missed
judged reaches.UnderWay since now = if nat_le 2000 (now - since) then verdicts.Missed else verdicts.Open

abbrev pub is_missed : Verdict → Bool
is_missed verdicts.Missed = true
is_missed verdicts.Found = false
is_missed verdicts.Open = false

-- A machine that there is a connection with isn't where the group's file has it. That's told once, until it's found.
abbrev pub is_told_of : Verdict → Bool → Bool → Bool
is_told_of came is_connected was_told = is_missed came && (is_connected && not was_told)

-- in nanoseconds: so long it's tried to reach a machine with a word, which may be far where there is a connection with it
abbrev pub reaching : Bool → ℕ
reaching true = 400_000_000
reaching false = 20_000_000
