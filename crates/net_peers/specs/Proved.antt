-- What a machine has proved by the key: that it says a hello, or leaves a visit.
use Rattle.std.specs.Prelude.{◌≡◌, ℕ, ◌%◌, ◌⊎◌, List}
use Rattle.vr_model.specs.declared.message.Party.{Party}
use Rattle.vr_model.specs.declared.message.Party.TheVariants.{Replica, Client}
use Rattle.net_hello.specs.declared.hello.Hello.{Hello}
use Rattle.net_hello.specs.Hellos.{IsHello}
use Rattle.net_keys.specs.Keys.{key_name, pair_key}
use Rattle.net_keys.specs.Sealing.{Opens}
use Rattle.net_keys.specs.Meeting.{HasAnswered, MeetsDialler, MeetsListener}
use Rattle.net_keys.specs.declared.challenge.Challenge.{Challenge}
use Rattle.net_keys.specs.declared.sealing.Opener.{Opener}
use Rattle.net_keys.specs.declared.meeting.Ends.{Ends}
use Rattle.net_keys.specs.declared.meeting.Dialled.{Dialled}
use Rattle.net_keys.specs.declared.meeting.Answered.{Answered}
use Rattle.net_peers.specs.declared.guard.Guard.{Guard}

-- the machine of a party: clients are drivers and consoles, eight of each
abbrev pub machine_of : Party → ℕ
machine_of (Replica number) = number
machine_of (Client client) = client.number % 8

-- a machine that was dialled by the key that is spoken, with this nonce
abbrev pub dialled_by : Guard → ℕ → List ℕ → Dialled
dialled_by guard machine nonce = record {
  own = record { from = guard.own; to = machine; key = key_name guard.keys.speaks; nonce = nonce };
  pair = pair_key guard.keys.speaks guard.own machine;
}

-- The machine of this number was dialled with this nonce, and met by its challenge and the sum of its first record; this
-- opens what it says behind that.
pub record HasCalled (guard : Guard) (machine : ℕ) (nonce : List ℕ) (answer : Challenge) (proof : List ℕ)
    (opener : Opener) : Type 0 where
  pub ends : Ends
  pub met : MeetsListener (dialled_by guard machine nonce) answer proof ends
  pub opener_is : opener ≡ ends.opener

-- The machine of this number was dialled, and says this behind what it has proved, by this sum; this opens what it says
-- next.
pub record IsSaidByListener (guard : Guard) (machine : ℕ) (body sum : List ℕ) (opener : Opener) : Type 0 where
  pub nonce : List ℕ
  pub answer : Challenge
  pub proof : List ℕ
  pub before : Opener
  pub called : HasCalled guard machine nonce answer proof before
  pub opens : Opens before opener body sum

-- The machine of this number dialled, was answered with a nonce of this end's own, and is met by this, which it says
-- first, by this sum; this opens what it says next.
pub record IsSaidByDialler (guard : Guard) (machine : ℕ) (body sum : List ℕ) (opener : Opener) : Type 0 where
  pub challenge : Challenge
  pub from : challenge.from ≡ machine
  pub nonce : List ℕ
  pub answered : Answered
  pub has_answered : HasAnswered guard.keys guard.own challenge nonce answered
  pub ends : Ends
  pub met : MeetsDialler answered body sum ends
  pub opener_is : opener ≡ ends.opener

-- The machine of the party that says this hello has proved by this sum that it does; this opens what it says next.
pub record IsProved (guard : Guard) (hello : Hello) (sum : List ℕ) (opener : Opener) : Type 0 where
  pub body : List ℕ
  pub spells : IsHello hello body
  pub said : IsSaidByDialler guard (machine_of hello.party) body sum opener
      ⊎ IsSaidByListener guard (machine_of hello.party) body sum opener

-- the machine of this number has proved by this sum that it leaves these bytes
pub record IsLeft (guard : Guard) (machine : ℕ) (bytes sum : List ℕ) : Type 0 where
  pub opener : Opener
  pub said : IsSaidByDialler guard machine bytes sum opener
