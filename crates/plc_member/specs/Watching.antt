-- What an operator is told of a machine, and the port of it for Modbus clients.
use Rattle.std.specs.Prelude.{Bool, true, false, ◌≡◌, ℕ, ◌==◌, if◌then◌else◌, Option, Some, None}
use Rattle.plc_status.specs.declared.journal.Journal.{Journal}
use Rattle.plc_status.specs.declared.notice.Notice.{Notice}
use Rattle.plc_status.specs.declared.notice.Notice.TheVariants as notices
use Rattle.plc_status.specs.Journal.{IsPut}
use Rattle.plc_member.specs.declared.port.Serving.{Serving}
use Rattle.plc_member.specs.declared.port.Turn.{Turn}
use Rattle.plc_member.specs.declared.port.Serving.TheVariants as servings
use Rattle.plc_member.specs.declared.port.Turn.TheVariants as turns

-- ---- the port

-- whether clients are let in
abbrev pub is_open : {C O : Type 0} → Serving C O → Bool
is_open (servings.Closed seats) = false
is_open (servings.Open server) = true

-- what became of a port by a look at it: by whether it was open, whether it is now, and whether it's to be
abbrev pub turn_of_port : Bool → Bool → Bool → Turn
turn_of_port false true wanted = turns.Opened
turn_of_port true false wanted = turns.Closed
turn_of_port false false true = turns.Refused
turn_of_port false false false = turns.Same
turn_of_port true true wanted = turns.Same

-- ---- what is told

-- what is told of a replica by the view in which it was normal before, if in any, and by that in which it is now
abbrev pub turn_of : Option ℕ → Option ℕ → Option Notice
turn_of (Some before) None = Some notices.ReplicaNotNormal
turn_of (Some before) (Some view) = if before == view then None else Some (notices.ReplicaNormalIn view)
turn_of None (Some view) = Some (notices.ReplicaNormalIn view)
turn_of None None = None

-- it was put into the journal, where there is something to be told, and else nothing was
abbrev pub IsNoted : Option Notice → Journal → Journal → Type 0
IsNoted None old new = new ≡ old
IsNoted (Some notice) old new = IsPut notice old new

-- what is told of a port that took this turn in this view: that it isn't to be had once a view
abbrev pub notice_of_port : Turn → ℕ → Option ℕ → Option Notice
notice_of_port turns.Same view refused = None
notice_of_port turns.Opened view refused = Some (notices.Driving view)
notice_of_port turns.Closed view refused = Some (notices.Stale view)
notice_of_port turns.Refused view (Some before) = if before == view then None else Some (notices.NoPort view)
notice_of_port turns.Refused view None = Some (notices.NoPort view)
