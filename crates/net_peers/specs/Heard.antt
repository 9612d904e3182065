-- What is heard at the beginning of a connection: a hello or a visit, of whom a hello is, and which is accepted.
use Rattle.std.specs.Prelude.{ℕ, ◌==◌, ◌&&◌, not, Bool, List, ◌∷◌, [], length, bytes_eq, nat_eq, nat_le, ◌-◌, Option, Some}
use Rattle.std.specs.Prelude.{None, Result, Ok, Err, if◌then◌else◌, ◌≡◌}
use Rattle.std.specs.List.{starts_with}
use Rattle.vr_model.specs.declared.message.Party.{Party}
use Rattle.vr_model.specs.declared.message.Party.TheVariants.{Replica, Client}
use Rattle.net_hello.specs.declared.hello.Epoch.{Epoch}
use Rattle.net_hello.specs.declared.hello.Known.{Known}
use Rattle.net_hello.specs.declared.hello.Hello.{Hello}
use Rattle.net_hello.specs.declared.hello.HelloFault.{HelloFault}
use Rattle.net_hello.specs.Hellos.{hello_of}
use Rattle.net_hello.specs.Identity.{AreOfTwo, is_another_store}
use Rattle.net_peers.specs.declared.greeting.Greeted.{Greeted}
use Rattle.net_peers.specs.declared.greeting.Greeted.TheVariants as greeted

-- "PLC-CS" and version 2, with which each visit begins, and no hello
abbrev pub visit_front : List ℕ
visit_front = 0x50 ∷ 0x4C ∷ 0x43 ∷ 0x2D ∷ 0x43 ∷ 0x53 ∷ 0 ∷ 2 ∷ []

-- so many bytes
abbrev pub visit_length : ℕ
visit_length = 153

abbrev pub begins_visit : List ℕ → Bool
begins_visit bytes = starts_with nat_eq bytes visit_front

abbrev pub said_in_hello : Result (Option Hello) HelloFault → Greeted
said_in_hello (Ok (Some hello)) = greeted.Said hello
said_in_hello (Ok None) = greeted.Waits
said_in_hello (Err fault) = greeted.Faulty fault

-- a visit, once it's whole
abbrev pub visited_by : List ℕ → Greeted
visited_by bytes = if length bytes == visit_length then greeted.Visits bytes else greeted.Waits

-- what is said so far
abbrev pub greeted_by : List ℕ → Greeted
greeted_by bytes = if begins_visit bytes then visited_by bytes else said_in_hello (hello_of bytes)

abbrev pub replica_in : Party → Epoch → Option (ℕ × Epoch)
replica_in (Replica number) epoch = Some (number, epoch)
replica_in (Client client) epoch = None

-- it's in one's own epoch, and has seen another store of one's own machine there
abbrev pub denies : Hello → Hello → Bool
denies own hello = (own.epoch.number == hello.epoch.number) && bytes_eq own.epoch.image hello.epoch.image
    && is_another_store hello.known.store own.store

-- the replica of one's own group that says a hello, and the epoch in which it does, accepted or not; but not of one that
-- has seen another store of one's own machine
abbrev pub heard_in : Hello → Hello → Option (ℕ × Epoch)
heard_in own hello = if bytes_eq own.identity hello.identity && not (denies own hello)
    then replica_in hello.party hello.epoch else None

-- ---- which hello is accepted

-- the other end speaks for another party of this group in this epoch
abbrev pub IsAccepted : Hello → Hello → Type 0
IsAccepted own other = AreOfTwo own other

-- ---- what is known of a party

-- for so long behind the end of its connection its starts are known
abbrev pub remembering : ℕ
remembering = 10_000

-- now, where its connection ended then, if it has none: its store for good, its starts for a while
abbrev pub known_at : Known → Option ℕ → ℕ → Known
known_at known None now = known
known_at known (Some ended) now = if nat_le remembering (now - ended) then record known { starts = 0 } else known

-- by a hello that was accepted
abbrev pub known_by : Hello → Known
known_by hello = record { store = hello.store; starts = hello.starts }
