-- The lines that tell an operator what changed, and the report of a controller that was served.
use Rattle.std.specs.Prelude.{◌≡◌, ◌⊎◌, ◌==◌, if◌then◌else◌, Bool, true, false, ℕ, List, [], ◌∷◌, ◌++◌}
use Rattle.std.specs.Prelude.{Option, Some, None, codes, slice_index}
use Rattle.std.specs.Fmt.{decimal}
use Rattle.std.specs.Io.KnownBytes.{Appends}
use Rattle.std.specs.Net.Addr.{ipv4_octets}
use Rattle.std.specs.Net.Socket.{v4_ip, v4_port, v6_port}
use Rattle.std.specs.declared.net.socket_addr.SocketAddr.{SocketAddr}
use Rattle.std.specs.declared.net.socket_addr.SocketAddr.TheVariants as addresses
use Rattle.std.specs.declared.net.socket_addr.SocketAddrV4.{SocketAddrV4}
use Rattle.std.specs.declared.net.socket_addr.SocketAddrV6.{SocketAddrV6}
use Rattle.hex.specs.Hex.{encode_lower}
use Rattle.io_model.specs.declared.counted.CountedWrite.{Ghosts as CountedWriter}
use Rattle.il_model.specs.declared.command.Command.{Command}
use Rattle.il_values.specs.declared.value.Stop.{Stop}
use Rattle.il_model.specs.declared.command.Command.TheVariants as commands
use Rattle.il_text.specs.Lines.{stop_name}
use Rattle.il_text.specs.Telling.{WentOut, numbered}
use Rattle.plc_status.specs.declared.deed.Deed.{Deed}
use Rattle.plc_status.specs.declared.door.Doorway.{Doorway}
use Rattle.plc_status.specs.declared.group.GroupNotice.{GroupNotice}
use Rattle.plc_status.specs.declared.notice.Notice.{Notice}
use Rattle.plc_status.specs.declared.notice.Why.{Why}
use Rattle.plc_status.specs.declared.deed.Deed.TheVariants as deeds
use Rattle.plc_status.specs.declared.door.Doorway.TheVariants as doorways
use Rattle.plc_status.specs.declared.group.GroupNotice.TheVariants as of_group
use Rattle.plc_status.specs.declared.notice.Notice.TheVariants as notices
use Rattle.plc_status.specs.declared.notice.Why.TheVariants as causes

-- a number between two texts
abbrev pub numbered_line : List ℕ → ℕ → List ℕ → List ℕ
numbered_line before number after = numbered before number ++ after

abbrev pub replica_line : ℕ → List ℕ → List ℕ
replica_line number what = numbered_line (codes "replica ") number what

abbrev pub machine_line : ℕ → List ℕ → List ℕ
machine_line number what = numbered_line (codes "machine ") number what

-- of this machine in a view
abbrev pub view_line : List ℕ → ℕ → List ℕ
view_line what view = what ++ numbered_line (codes " view ") view (codes "\n")

abbrev pub why_name : Why → List ℕ
why_name causes.OtherVersion = codes "another version"
why_name causes.OtherGroup = codes "another group"
why_name causes.OtherEpoch = codes "another epoch"
why_name causes.OtherProgram = codes "another program"
why_name causes.OwnParty = codes "own party"
why_name causes.NoMember = codes "no member"
why_name causes.FewerStarts = codes "fewer starts"
why_name causes.MoreStarts = codes "more starts"
why_name causes.OtherFresh = codes "another fresh"
why_name causes.OtherStore = codes "another store: format it with --wait"
why_name causes.OwnStore = codes "it has seen another store of this machine: format this one with --wait"
why_name causes.OwnStarts = codes "it has seen a copy of this machine's store"
why_name causes.NoChallenge = codes "no challenge"
why_name causes.NoKey = codes "no key"
why_name causes.OtherKey = codes "another key"
why_name causes.OtherMachine = codes "another machine: see the addresses"
why_name causes.OwnChallenge = codes "own challenge"
why_name causes.Forged = codes "forged or damaged record"

-- who was refused: the machine of this number, or one that told none
abbrev pub refused_party : Option ℕ → List ℕ
refused_party (Some number) = machine_line number (codes " refused: ")
refused_party None = codes "machine refused: "

abbrev pub refused_line : Option ℕ → Why → List ℕ
refused_line number why = refused_party number ++ (why_name why ++ codes "\n")

-- of a replica that wasn't normal for a minute: why it may never be again
abbrev pub long_line : List ℕ
long_line = codes "replica not normal for a minute: if most machines have lost their memory, a new epoch is due\n"

-- more than half of a group of 2f+1 machines
abbrev pub majority_of : ℕ → List ℕ
majority_of f = if f == 0 then codes "one of one" else (if f == 1 then codes "two of three"
    else (if f == 2 then codes "three of five" else (if f == 3 then codes "four of seven" else codes "most")))

abbrev pub cold_start_line : ℕ → ℕ → List ℕ
cold_start_line f epoch =
    majority_of f ++ numbered_line (codes " have lost their memory: cold start, epoch ") epoch (codes "\n")

abbrev pub waits_line : ℕ → ℕ → List ℕ
waits_line number epoch =
    machine_line number (codes " waits") ++ numbered_line (codes " for an epoch after ") epoch (codes "\n")

abbrev pub normal_in_line : Option ℕ → List ℕ
normal_in_line (Some epoch) = numbered_line (codes ": was normal in ") epoch (codes "\n")
normal_in_line None = codes "\n"

-- what is told of an epoch
abbrev pub epoch_text : ℕ → List ℕ → List ℕ
epoch_text epoch what = numbered_line (codes "epoch ") epoch what

abbrev pub heard_line : ℕ → ℕ → Option ℕ → List ℕ
heard_line epoch machine normal_in =
    epoch_text epoch (codes " heard from machine ") ++ (numbered_line [] machine [] ++ normal_in_line normal_in)

-- no majority: hears 0 of 2
abbrev pub hearing_line : ℕ → ℕ → List ℕ
hearing_line heard others =
    numbered (codes "no majority: hears ") heard ++ numbered_line (codes " of ") others (codes "\n")

-- waits: hears 1 of 3 machines, wants 2
abbrev pub waiting_line : ℕ → ℕ → ℕ → List ℕ
waiting_line heard machines wanted =
    numbered (codes "waits: hears ") heard
    ++ (numbered (codes " of ") machines ++ numbered_line (codes " machines, wants ") wanted (codes "\n"))

abbrev pub by_hand_line : ℕ → List ℕ
by_hand_line f =
    majority_of f ++ codes " have lost their memory: cold start by hand, plc format --next-epoch at each\n"

-- of a later epoch that isn't followed: who is in it, and the first bytes of its program's sum
abbrev pub goes_on_line : ℕ → ℕ → List ℕ → List ℕ
goes_on_line epoch machine program =
    epoch_text epoch (codes " heard from machine ")
    ++ (numbered_line [] machine (codes ", program ") ++ (encode_lower program ++ codes ": this group goes on\n"))

abbrev pub far_line : ℕ → ℕ → List ℕ
far_line epoch machine =
    epoch_text epoch (codes " heard from machine ")
    ++ numbered_line [] machine (codes ": too far above, an operator is needed\n")

-- four numbers with dots between them
abbrev pub octets_text : List ℕ → List ℕ
octets_text octets = numbered [] (slice_index octets 0)
    ++ (numbered (codes ".") (slice_index octets 1)
    ++ (numbered (codes ".") (slice_index octets 2) ++ numbered (codes ".") (slice_index octets 3)))

abbrev pub v4_text : SocketAddrV4 → List ℕ
v4_text address = octets_text (ipv4_octets (v4_ip address)) ++ numbered (codes ":") (v4_port address)

abbrev pub v6_text : SocketAddrV6 → List ℕ
v6_text address = numbered (codes "its address of IPv6, port ") (v6_port address)

-- an address and its port; of IPv6 the port alone
abbrev pub address_text : SocketAddr → List ℕ
address_text (addresses.V4 address) = v4_text address
address_text (addresses.V6 address) = v6_text address

-- machine 2 isn't at 10.0.0.3:7700
abbrev pub not_at_line : ℕ → SocketAddr → List ℕ
not_at_line number address = machine_line number (codes " isn't at ") ++ (address_text address ++ codes "\n")

abbrev pub group_line : GroupNotice → List ℕ
group_line (of_group.NoMajority heard others) = hearing_line heard others
group_line of_group.Majority = codes "majority\n"
group_line (of_group.Waits heard machines wanted) = waiting_line heard machines wanted
group_line (of_group.ByHand f) = by_hand_line f
group_line (of_group.EpochRefused epoch machine program) = goes_on_line epoch machine program
group_line (of_group.EpochFarAbove epoch machine) = far_line epoch machine
group_line (of_group.NotAt number address) = not_at_line number address

-- what is told of where a console or a page is found, by whether it's had
abbrev pub door_line : Doorway → Bool → List ℕ
door_line (doorways.ConsolePort port) false = numbered_line (codes "no console port ") port (codes "\n")
door_line (doorways.ConsolePort port) true = numbered_line (codes "console port ") port (codes "\n")
door_line doorways.ConsoleSocket false = codes "no console socket\n"
door_line doorways.ConsoleSocket true = codes "console socket\n"
door_line (doorways.PagePort port) false = numbered_line (codes "no page port ") port (codes "\n")
door_line (doorways.PagePort port) true = numbered_line (codes "page port ") port (codes "\n")

-- the line that tells the port at which clients are served
abbrev pub port_line : ℕ → List ℕ
port_line port = numbered_line (codes "serving on 127.0.0.1:") port (codes "\n")

abbrev pub stopped_line : Stop → ℕ → List ℕ
stopped_line stop position =
    codes "stopped " ++ (stop_name stop ++ numbered_line (codes " ") position (codes "\n"))

-- what a command does, unless it's a scan or only reads
abbrev pub deed_of : Command → Option Deed
deed_of (commands.SetBreak position) = Some (deeds.Break position)
deed_of (commands.ClearBreak position) = Some (deeds.Clear position)
deed_of commands.Step = Some deeds.Step
deed_of commands.Continue = Some deeds.Continue
deed_of (commands.Force slot value) = Some (deeds.Force slot)
deed_of (commands.Unforce slot) = Some (deeds.Unforce slot)
deed_of commands.Reset = Some deeds.Reset
deed_of commands.Warm = Some deeds.Warm
deed_of (commands.Change image) = Some deeds.Change
deed_of (commands.Scan inputs moment) = None
deed_of (commands.ReadVar slot) = None
deed_of commands.ReadCr = None

-- the line of what was done at a console: the command's word, and its position or slot, if it has one
abbrev pub deed_line : Deed → List ℕ
deed_line (deeds.Break position) = numbered_line (codes "console break ") position (codes "\n")
deed_line (deeds.Clear position) = numbered_line (codes "console clear ") position (codes "\n")
deed_line deeds.Step = codes "console step\n"
deed_line deeds.Continue = codes "console continue\n"
deed_line (deeds.Force slot) = numbered_line (codes "console force ") slot.0 (codes "\n")
deed_line (deeds.Unforce slot) = numbered_line (codes "console unforce ") slot.0 (codes "\n")
deed_line deeds.Reset = codes "console reset\n"
deed_line deeds.Warm = codes "console warm\n"
deed_line deeds.Change = codes "console change\n"

abbrev pub notice_line : Notice → List ℕ
notice_line (notices.Starts number) = replica_line number (codes " starts\n")
notice_line (notices.Down number) = replica_line number (codes " down\n")
notice_line (notices.Normal number) = replica_line number (codes " normal\n")
notice_line (notices.Store number) = replica_line number (codes " store\n")
notice_line (notices.Crashed number) = replica_line number (codes " crashed\n")
notice_line (notices.NoFrame number) = replica_line number (codes " no frame\n")
notice_line (notices.Hangs number) = replica_line number (codes " hangs\n")
notice_line (notices.MachineJoined number) = machine_line number (codes " joined\n")
notice_line (notices.MachineLost number) = machine_line number (codes " lost\n")
notice_line (notices.MachineForged number) = machine_line number (codes " lost: forged or damaged record\n")
notice_line (notices.MachineRefused number why) = refused_line number why
notice_line (notices.ReplicaNormalIn view) = view_line (codes "replica normal") view
notice_line notices.ReplicaNotNormal = codes "replica not normal\n"
notice_line notices.NotNormalLong = long_line
notice_line (notices.ColdStart f epoch) = cold_start_line f epoch
notice_line (notices.WaitsAfter number epoch) = waits_line number epoch
notice_line (notices.EpochHeard epoch machine normal_in) = heard_line epoch machine normal_in
notice_line (notices.OtherProgram epoch) =
    numbered_line (codes "program of epoch ") epoch (codes " is another: format with it\n")
notice_line (notices.WaitsForOthers epoch) =
    numbered_line (codes "epoch ") epoch (codes " waits for other machines\n")
notice_line (notices.ProgramChanged epoch) =
    numbered_line (codes "program changed in epoch ") epoch (codes ": no cold start by itself\n")
notice_line (notices.Driving view) = view_line (codes "driving") view
notice_line (notices.StandingBy view) = view_line (codes "standing by") view
notice_line (notices.Stale view) = view_line (codes "stale") view
notice_line (notices.NoPort view) = view_line (codes "no port") view
notice_line notices.NoTrace = codes "no trace\n"
notice_line (notices.Held position) = numbered_line (codes "held ") position (codes "\n")
notice_line (notices.Stopped stop position) = stopped_line stop position
notice_line notices.GoesOn = codes "goes on\n"
notice_line notices.ConsoleBegins = codes "console begins\n"
notice_line notices.ConsoleEnds = codes "console ends\n"
notice_line notices.ConsoleTaken = codes "console taken over\n"
notice_line notices.ConsoleRefused = codes "console refused\n"
notice_line (notices.Door notice) = door_line notice.doorway notice.is_had
notice_line (notices.Group notice) = group_line notice
notice_line (notices.Done deed) = deed_line deed
notice_line (notices.Lost count) = numbered_line [] count (codes " lines lost\n")

-- the lines of these went out, one behind the other, and nothing else
abbrev pub WentOutInOrder : {W : Type 0} → CountedWriter W → List Notice → W → W → Type 0
WentOutInOrder w [] old new = new ≡ old
WentOutInOrder {W} w (notice ∷ notices) old new = (next : W) × WentOut w (notice_line notice) old next
    × WentOutInOrder w notices next new

-- there are changes that were told, each by its line, and nothing else was
pub record AreNoticesTold {W : Type 0} (w : CountedWriter W) (old new : W) : Type 0 where
  pub told : List Notice
  pub lines : WentOutInOrder w told old new

-- the line of a port went out, and nothing else was told
pub record IsPortTold {W : Type 0} (w : CountedWriter W) (old new : W) : Type 0 where
  pub port : ℕ
  pub line : WentOut w (port_line port) old new

-- the line of a port went out, then those of what changed while clients were served, and nothing else was told
pub record IsServingTold {W : Type 0} (w : CountedWriter W) (old new : W) : Type 0 where
  pub opened : W
  pub port : IsPortTold w old opened
  pub notices : AreNoticesTold w opened new

-- nothing was told, or the lines of serving were
abbrev pub IsAtMostServingTold : {W : Type 0} → CountedWriter W → W → W → Type 0
IsAtMostServingTold w old new = (new ≡ old) ⊎ IsServingTold w old new

-- ---- the report

-- the line of a report: compact JSON (RFC 8259), its keys in order
abbrev pub report_line : ℕ → ℕ → ℕ → ℕ → List ℕ
report_line crashes scans sessions writes =
    codes "{\"crashes\":" ++ (decimal crashes
    ++ (codes ",\"scans\":"
    ++ (decimal scans
    ++ (codes ",\"sessions\":"
    ++ (decimal sessions ++ (codes ",\"writes\":" ++ (decimal writes ++ codes "}\n")))))))

-- a report with so many scans was written
pub record IsReported {W : Type 0} (w : CountedWriter W) (scans : ℕ) (old new : W) : Type 0 where
  pub crashes : ℕ
  pub sessions : ℕ
  pub writes : ℕ
  pub line : Appends (w.held old) (w.held new) (report_line crashes scans sessions writes)
