-- One way over a connection between two machines that have a key: what one end has sealed there by a moment, and what
-- the other end has opened.
use Rattle.std.specs.Prelude.{◌≡◌, ℕ, ◌^◌, ◌≤◌, ◌⊎◌, List, [], ◌∷◌, ◌++◌, length, drop}
use Rattle.std.specs.List.{flat_map, AllByRecursion}
use Rattle.io_model.specs.Streams.{Ending, Splits, IsRest}
use Rattle.vr_model.specs.declared.message.Message.{Message}
use Rattle.vr_wire.specs.declared.fault.WireFault.{WireFault}
use Rattle.vr_wire.specs.Frames.{frame_of, IsFramed}
use Rattle.vr_wire.specs.Streams.{frames}
use Rattle.net_keys.specs.Challenges.{FitsChallenge}
use Rattle.net_keys.specs.Meeting.{connection_key}
use Rattle.net_keys.specs.Forging.{AreOpened, FitsSealed, HasForged, IsSealedThere, Sealed}
use Rattle.net_keys.specs.declared.challenge.Challenge.{Challenge}
use Rattle.net_keys.specs.declared.sealing.Side.{Side}
use Rattle.net_sealed.specs.Coming.{bodies_in}

-- a way, told by the key of its two machines, both challenges of its connection, and the end that seals; so many
-- records go while both ends meet, before any frame does
pub record Way : Type 0 where
  pub pair : List ℕ
  pub dialler : Challenge
  pub listener : Challenge
  pub side : Side
  pub meeting : ℕ

pub record FitsWay (w : Way) : Type 0 where
  pub dialler : FitsChallenge w.dialler
  pub listener : FitsChallenge w.listener

abbrev pub joined : List (List ℕ) → List ℕ
joined [] = []
joined (body ∷ bodies) = body ++ joined bodies

-- Of all that was sealed by whoever has the key of the two machines, this was there: the records by which both have
-- met, and behind them the frames of these messages, as far as they have gone.
pub record HasSealed (all : List Sealed) (w : Way) (put : List Message) : Type 0 where
  pub first : List (List ℕ)
  pub bodies : List (List ℕ)
  pub rest : List ℕ
  pub there : IsSealedThere all w.dialler w.listener w.side (first ++ bodies)
  pub met : length first ≡ w.meeting
  pub framed : AllByRecursion IsFramed put
  pub went : joined bodies ++ rest ≡ flat_map frame_of put

-- this part stands in all of it
abbrev pub StandsIn : List ℕ → List ℕ → Type 0
StandsIn all part = (front : List ℕ) × (rest : List ℕ) × (all ≡ front ++ (part ++ rest))

-- each of these records stands in the bytes that came, its body with its sum behind it
abbrev pub HaveCome : List ℕ → List (List ℕ × List ℕ) → Type 0
HaveCome came [] = Unit {0}
HaveCome came ((body, sum) ∷ records) = StandsIn came (body ++ sum) × HaveCome came records

-- Of the bytes that came over the way, the other end has opened these records, each a body with the sum that came with
-- it, in order, each under the next number. What it gave of them, behind those by which both have met, splits into
-- these messages.
pub record HasOpened (w : Way) (came : List ℕ) (opened : List (List ℕ × List ℕ)) (given : List Message)
    (ending : Ending WireFault) : Type 0 where
  pub stand : HaveCome came opened
  pub each : AreOpened (connection_key w.pair w.dialler w.listener) w.side 0 opened
  pub count : length opened ≤ 2 ^ 64
  pub met : w.meeting ≤ length opened
  pub gave : List ℕ
  pub left : List ℕ
  pub bodies : bodies_in (drop w.meeting opened) ≡ gave ++ left
  pub split : Splits frames gave given ending

-- One of the records that were opened over a way was forged, and it came over it: body and sum stand in the bytes that
-- did, the sum is right, and nobody who has the key has sealed that there.
pub record ForgedCame (all : List Sealed) (w : Way) (came : List ℕ) (opened : List (List ℕ × List ℕ)) : Type 0 where
  pub forged : HasForged w.pair all w.dialler w.listener w.side opened
  pub stands : StandsIn came (forged.body ++ forged.sum)

-- What was given over a way is a prefix of the messages that were put at the end which seals, in order, and no fault
-- was met; or a forged record came over it, and was opened.
abbrev pub OnlySealedIsGiven : Type 0
OnlySealedIsGiven =
    (all : List Sealed) (w : Way) (put given : List Message) (came : List ℕ) (opened : List (List ℕ × List ℕ))
    (ending : Ending WireFault)
    → AllByRecursion FitsSealed all → FitsWay w → HasSealed all w put → HasOpened w came opened given ending
    → ((later : List Message) × (put ≡ given ++ later) × IsRest ending) ⊎ ForgedCame all w came opened
