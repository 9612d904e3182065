-- When a connection to a party is dialled, given up, kept alive by a beat, and ended. All times are in milliseconds.
use Rattle.std.specs.Prelude.{◌≡◌, ℕ, ◌+◌, ◌-◌, ◌*◌, ◌/◌, ◌^◌, ◌<◌, ◌≤◌, nat_le, min, if◌then◌else◌}
use Rattle.net_peers.specs.declared.course.Pulse.{Pulse}
use Rattle.net_peers.specs.declared.phase.Phase.{Phase}
use Rattle.net_peers.specs.declared.phase.Phase.TheVariants.{Away, Joining, Open}
use Rattle.net_peers.specs.declared.phase.Duty.{Duty}
use Rattle.net_peers.specs.declared.phase.Duty.TheVariants.{Nothing, Dial, GiveUp, Beat, End}

-- after so long a dial is given up, and so is an end that hasn't said hello
abbrev pub joining_limit : ℕ
joining_limit = 400

-- the longest pause between two dials; the first is 50
abbrev pub longest_pause : ℕ
longest_pause = 400

-- a connection over which nothing came for so long is over
abbrev pub silence_limit : ℕ
silence_limit = 500

-- The pulse of a group by the patience of its replicas, and by how often they send again: from whom something came
-- within three fifths of the patience is near, if that isn't so long that the connection is over; and there are two
-- beats at least within that time.
abbrev pub pulse_of : ℕ → ℕ → Pulse
pulse_of patience resend = let near = min silence_limit (3 * patience / 5) in
    record { beat = min resend (near / 2); near = near }

-- what is to be done now; an end that has sent nothing for so long sends a beat. Times end with the last of 64 bits.
abbrev pub duty_at : ℕ → Phase → ℕ → Duty
duty_at beat (Away due) now = if nat_le due now then Dial else Nothing
duty_at beat (Joining since) now = if nat_le joining_limit (now - since) then GiveUp else Nothing
duty_at beat (Open since heard sent) now = if nat_le silence_limit (now - heard) then End
    else (if nat_le (min (sent + beat) (2 ^ 64 - 1)) now then Beat else Nothing)

abbrev pub heard_at : Phase → ℕ → Phase
heard_at (Away due) now = Away due
heard_at (Joining since) now = Joining since
heard_at (Open since heard sent) now = Open since now sent

abbrev pub sent_at : Phase → ℕ → Phase
sent_at (Away due) now = Away due
sent_at (Joining since) now = Joining since
sent_at (Open since heard sent) now = Open since heard now

-- It's dialled again after the pause, and the pause doubles, up to the longest. Times end with the last of 64 bits.
pub record IsFailed (pause : ℕ) (phase : Phase) (next_pause now : ℕ) : Type 0 where
  pub due : phase ≡ Away (min (now + pause) (2 ^ 64 - 1))
  pub longer : next_pause ≡ min (2 * pause) longest_pause

-- it was open for at least as long as a silence may last
abbrev pub WasLong : Phase → ℕ → Type 0
WasLong (Away due) now = ⊥
WasLong (Joining since) now = ⊥
WasLong (Open since heard sent) now = silence_limit ≤ now - since

abbrev pub IsOpen : Phase → Type 0
IsOpen (Away due) = ⊥
IsOpen (Joining since) = ⊥
IsOpen (Open since heard sent) = Unit {0}

-- something came over it within so long
abbrev pub IsNear : ℕ → Phase → ℕ → Type 0
IsNear near (Away due) now = ⊥
IsNear near (Joining since) now = ⊥
IsNear near (Open since heard sent) now = now - heard < near
