-- When a life of a machine ends for another epoch, and what is told of it.
use Rattle.std.specs.Prelude.{◌≡◌, ℕ, ◌-◌, nat_le, Bool, true, false, not, ◌&&◌, List, bytes_eq, replicate}
use Rattle.std.specs.Prelude.{take, Option, Some, None}
use Rattle.std.specs.Prelude.{if◌then◌else◌}
use Rattle.net_hello.specs.declared.hello.Epoch.{Epoch}
use Rattle.plc_epochs.specs.declared.cold_start.Greeting.{Greeting}
use Rattle.plc_epochs.specs.declared.cold_start.Greeting.TheVariants as greetings
use Rattle.plc_epochs.specs.declared.kept.Kept.{Kept}
use Rattle.plc_epochs.specs.declared.kept.Kept.TheVariants as keeps
use Rattle.plc_group.specs.declared.group.ColdStart.{ColdStart}
use Rattle.plc_group.specs.declared.group.ColdStart.TheVariants as beginnings
use Rattle.plc_status.specs.declared.notice.Notice.{Notice}
use Rattle.plc_status.specs.declared.notice.Notice.TheVariants as notices
use Rattle.plc_status.specs.declared.group.GroupNotice.TheVariants as groups
use Rattle.plc_host.specs.declared.failed.Failed.TheVariants as failures
use Rattle.plc_host.specs.declared.failed.Failed.{Failed}
use Rattle.plc_host_core.specs.declared.epoch_keeper.EpochAction.{EpochAction}
use Rattle.plc_host_core.specs.declared.epoch_keeper.EpochAction.TheVariants as actions
use Rattle.plc_host_core.specs.declared.epoch_keeper.EpochNotice.TheVariants as tells
use Rattle.plc_host_core.specs.declared.epoch_keeper.LifeEnd.{LifeEnd}
use Rattle.plc_host_core.specs.declared.epoch_keeper.LifeEnd.TheVariants as ends
use Rattle.plc_node_core.specs.declared.ending.Ending.{Ending}
use Rattle.plc_node_core.specs.declared.ending.Ending.TheVariants as endings
use Rattle.plc_node_core.specs.declared.ending.Failure.{Failure}
use Rattle.plc_node_core.specs.declared.ending.Failure.TheVariants as causes
use Rattle.plc_member.specs.declared.drive.Parting.{Parting}
use Rattle.plc_member.specs.declared.drive.Parting.TheVariants as partings
use Rattle.plc_store.specs.declared.judging.Start.{Start}
use Rattle.plc_store.specs.declared.judging.Start.TheVariants as judgements
use Rattle.plc_member.specs.declared.opening.Way.{Way}
use Rattle.plc_member.specs.declared.opening.Way.TheVariants as ways
use Rattle.plc_member.specs.declared.storing.Entry.{Entry}
use Rattle.plc_member.specs.declared.storing.Entry.TheVariants as entries
use Rattle.net_peers.specs.declared.machine.Machine.{Machine}
use Rattle.plc_store.specs.declared.header.Header.{Header}
use Rattle.plc_member.specs.declared.keeper.Heard.{Heard}
use Rattle.plc_member.specs.declared.keeper.Leaving.{Leaving}

-- What is told of a life that is over: in which epoch its group begins anew, or which later one was heard of. One that
-- waits above an epoch is told of by its next life.
abbrev pub end_notice : LifeEnd → Kept → Heard → Option Notice
end_notice ends.EpochEnded (keeps.Entered epoch) heard = Some (notices.ColdStart heard.f epoch.number)
end_notice ends.LaterHeard (keeps.Entered epoch) heard =
    Some (notices.EpochHeard epoch.number heard.from heard.normal_in)
end_notice why kept heard = None

-- it ends where that is to be done about epochs, with what the store is to have then, and by nothing else
abbrev pub leaving_by : EpochAction → Heard → Option Leaving
leaving_by (actions.Leaves why kept) heard = Some (record { kept = kept; notice = end_notice why kept heard })
leaving_by action heard = None

-- the first eight bytes of the sum of its image
abbrev pub program_of : Epoch → List ℕ
program_of epoch = take 8 epoch.image

-- a machine that stays where it is tells why: it goes on with its group, or following the other takes a person
abbrev pub staying_by : EpochAction → ℕ → Option Notice
staying_by (actions.Tells (tells.Refused epoch)) from =
    Some (notices.Group (groups.EpochRefused epoch.number from (program_of epoch)))
staying_by (actions.Tells (tells.FarAbove epoch)) from =
    Some (notices.Group (groups.EpochFarAbove epoch.number from))
staying_by (actions.Tells (tells.OtherProgram epoch)) from = Some (notices.OtherProgram epoch.number)
staying_by action from = None

-- why a machine can't go on whose node can't
abbrev pub failed_of : Failure → ℕ → Failed
failed_of causes.Store number = failures.Store number
failed_of causes.Thread number = failures.Thread
failed_of causes.Memory number = failures.Memory
failed_of causes.NumbersUsedUp number = failures.Device

-- how a machine's driver ends whose node ends so: it leaves its epoch only with what its store is to have
abbrev pub parting_of : Ending → Option Kept → ℕ → Parting
parting_of endings.Stopped kept number = partings.Stopped
parting_of (endings.Failed failure) kept number = partings.Failed (failed_of failure number)
parting_of endings.Leaves (Some kept) number = partings.Leaves kept
parting_of endings.Leaves None number = partings.Failed (failures.Store number)

-- A life whose epoch was begun has its replica started as new exactly where that was judged to be its first start; one
-- whose epoch wasn't waits until it may be.
abbrev pub way_of : Kept → Start → Way
way_of (keeps.Begun epoch) judgements.First = ways.StartsAsNew
way_of (keeps.Begun epoch) judgements.Again = ways.StartsAgain
way_of (keeps.Begun epoch) judgements.Waits = ways.StartsAgain
way_of keeps.Nothing start = ways.Waits
way_of (keeps.Above epoch) start = ways.Waits
way_of (keeps.Entered epoch) start = ways.Waits

-- what a store is to say: what the life before left behind, or that an epoch is begun
abbrev pub kept_by : Entry → Kept
kept_by (entries.Left left) = left.kept
kept_by (entries.Begins epoch) = keeps.Begun epoch

-- what a machine that has begun no epoch waits for, where that may take a person: for an epoch above one that others
-- are in, and for a store with the program of its epoch
abbrev pub waited_for : Kept → List ℕ → ℕ → Option Notice
waited_for (keeps.Above epoch) program number = Some (notices.WaitsAfter number epoch.number)
waited_for (keeps.Entered epoch) program number =
    if bytes_eq epoch.image program then None else Some (notices.OtherProgram epoch.number)
waited_for kept program number = None

-- who waits for others tells that behind three seconds, by milliseconds, and then each minute
abbrev pub is_wait_told : Option ℕ → ℕ → Bool
is_wait_told None now = nat_le 3000 now
is_wait_told (Some last) now = nat_le 60000 (now - last)

abbrev pub is_auto : ColdStart → Bool
is_auto beginnings.Auto = true
is_auto beginnings.ByHand = false

-- a group begins anew by itself as far as a machine is concerned, where its file says so and the machine's store isn't
-- marked by a change of the program
abbrev pub begins_by_itself : ColdStart → Bool → Bool
begins_by_itself cold_start is_marked = is_auto cold_start && not is_marked

-- no epoch has number 0
abbrev pub hello_of : Greeting → Epoch
hello_of (greetings.Hello epoch) = epoch
hello_of greeting = record { number = 0; image = replicate 32 0 }

-- What a machine says of itself is what its store says: its group, its number, its store and those that it saw; it says
-- it in this epoch, with so many starts there.
abbrev pub IsToldBy : Header → Epoch → ℕ → Machine → Type 0
IsToldBy header epoch starts machine = (machine.identity ≡ header.identity) × (machine.number ≡ header.machine)
    × (machine.store ≡ header.store) × (machine.seen ≡ header.seen)
    × (machine.epoch ≡ epoch) × (machine.starts ≡ starts)
