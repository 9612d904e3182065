-- A connection behind the hello of a machine that has proved by the key that it says it: a way from that machine.
use Rattle.std.specs.Prelude.{◌≡◌, ℕ, ◌^◌, ◌<◌, ◌⊎◌, List, [], ◌∷◌, ◌++◌, Option, Some}
use Rattle.std.proofs.Common.{inl, inr}
use Rattle.io_model.specs.Streams.{Ending, Splits}
use Rattle.vr_model.specs.declared.message.Message.{Message}
use Rattle.vr_wire.specs.declared.fault.WireFault.{WireFault}
use Rattle.vr_wire.specs.Streams.{frames}
use Rattle.net_hello.specs.declared.hello.Hello.{Hello}
use Rattle.net_keys.specs.Keys.{pair_key}
use Rattle.net_keys.specs.Meeting.{connection_key}
use Rattle.net_keys.specs.Forging.{AreOpened}
use Rattle.net_keys.specs.declared.key.Key.{Key}
use Rattle.net_keys.specs.declared.keys.Keys.{Keys}
use Rattle.net_keys.specs.declared.challenge.Challenge.{Challenge}
use Rattle.net_keys.specs.declared.sealing.Side.{Side}
use Rattle.net_keys.specs.declared.sealing.Side.TheVariants.{Dialler, Listener}
use Rattle.net_keys.specs.declared.sealing.Opener.{Opener}
use Rattle.net_sealed.specs.Coming.{Coming, Reads}
use Rattle.net_peers.specs.Proved.{IsLeft, IsProved, IsSaidByDialler, IsSaidByListener, machine_of}
use Rattle.net_peers.specs.declared.guard.Guard.{Guard}
use Rattle.laws_keys.specs.Ways.{Way, HasOpened, StandsIn}

abbrev pub IsHeard : Keys → Key → Type 0
IsHeard keys key = (key ≡ keys.speaks) ⊎ (keys.hears ≡ Some key)

-- of the challenges of both ends, that of the end which seals, or which opens
abbrev pub sealing : Side → Challenge → Challenge → Challenge
sealing Dialler dialler listener = dialler
sealing Listener dialler listener = listener

abbrev pub opening : Side → Challenge → Challenge → Challenge
opening Dialler dialler listener = listener
opening Listener dialler listener = dialler

-- the way goes from the one machine to the other, by a key that the other one hears
pub record GoesFrom (keys : Keys) (from to : ℕ) (w : Way) : Type 0 where
  pub key : Key
  pub heard : IsHeard keys key
  pub pair : w.pair ≡ pair_key key w.dialler.from w.listener.from
  pub from_is : (sealing w.side w.dialler w.listener).from ≡ from
  pub to_is : (opening w.side w.dialler w.listener).from ≡ to

-- what opens the records behind those by which both have met
abbrev pub opens_behind : Opener → Coming
opens_behind opener = record { opener = opener; opened = []; waiting = [] }

-- the sums by which it was said stand in the bytes that came first, each behind what it's of
abbrev pub SumsStand : (guard : Guard) (machine : ℕ) (body sum : List ℕ) (opener : Opener) → List ℕ
    → IsSaidByDialler guard machine body sum opener ⊎ IsSaidByListener guard machine body sum opener → Type 0
SumsStand guard machine body sum opener came (inl said) = StandsIn came (body ++ sum)
SumsStand guard machine body sum opener came (inr said) = StandsIn came said.proof × StandsIn came (body ++ sum)

-- its sayer has proved that it says this hello, by this sum, which came first
pub record CameProved (guard : Guard) (hello : Hello) (sum : List ℕ) (opener : Opener) (first : List ℕ) : Type 0 where
  pub proved : IsProved guard hello sum opener
  pub stand : SumsStand guard (machine_of hello.party) proved.body sum opener first proved.said

-- what was given in two readings, one behind the other, was given in one
abbrev pub ReadingsJoin : Type 0
ReadingsJoin =
    (first second third : Option (List ℕ)) (before between after : Coming) (given more : List ℕ)
    → Reads first second before between given → Reads second third between after more
    → Reads first third before after (given ++ more)

-- A machine that has these keys, and this number, accepted a hello that its sayer has proved, by sums that came first.
-- Behind it stand the bytes of that connection, of which all but the rest were read; what was given of them splits into
-- these messages. Then they were opened, of the bytes that came, over a way from that sayer's machine.
abbrev pub ProvedOpenWays : Type 0
ProvedOpenWays =
    (keys : Keys) (own : ℕ) (hello : Hello) (sum : List ℕ) (opener : Opener) (first : List ℕ)
    → CameProved (record { keys = keys; own = own }) hello sum opener first
    → (wire rest : List ℕ) (after : Coming) (bytes : List ℕ) (given : List Message) (ending : Ending WireFault)
    → Reads (Some wire) (Some rest) (opens_behind opener) after bytes → after.opener.next < 2 ^ 64
    → Splits frames bytes given ending
    → (way : Way) × (opened : List (List ℕ × List ℕ)) × GoesFrom keys (machine_of hello.party) own way
    × HasOpened way (first ++ wire) opened given ending

-- What such a machine accepted as left by another one, by a sum that came, was opened as the first record over a way
-- from that one.
abbrev pub LeftOpenWays : Type 0
LeftOpenWays =
    (keys : Keys) (own machine : ℕ) (bytes sum first : List ℕ)
    → IsLeft (record { keys = keys; own = own }) machine bytes sum → StandsIn first (bytes ++ sum)
    → (way : Way) × GoesFrom keys machine own way × StandsIn first (bytes ++ sum)
    × AreOpened (connection_key way.pair way.dialler way.listener) way.side 0 ((bytes, sum) ∷ [])
