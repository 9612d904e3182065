-- Which messages a connection may bring.
use Rattle.std.specs.Prelude.{◌≡◌, ◌==◌, ◌&&◌, Bool, true, false, List}
use Rattle.std.specs.List.{All}
use Rattle.vr_model.specs.declared.message.Party.{Party}
use Rattle.vr_model.specs.declared.message.Party.TheVariants as parties
use Rattle.vr_model.specs.declared.message.Message.{Message}
use Rattle.vr_ports.specs.declared.link.Input.{Input}
use Rattle.vr_ports.specs.declared.link.Input.TheVariants as inputs

abbrev pub is_same : Party → Party → Bool
is_same (parties.Replica i) (parties.Replica j) = i == j
is_same (parties.Client c) (parties.Client d) = c.number == d.number
is_same (parties.Replica i) (parties.Client d) = false
is_same (parties.Client c) (parties.Replica j) = false

-- it's from one of these to the other
abbrev pub is_between : Party → Party → Message → Bool
is_between from to message = is_same message.from from && is_same message.to to

-- each of these is from one of these parties to the other
abbrev pub AreBetween : Party → Party → List Message → Type 0
AreBetween from to messages = All (λ message. is_between from to message ≡ true) messages

-- what is given is a message from one of these parties to the other, or none
abbrev pub IsBetween : Party → Party → Input → Type 0
IsBetween from to (inputs.Message message) = is_between from to message ≡ true
IsBetween from to inputs.Nothing = Unit {0}
IsBetween from to inputs.Closed = Unit {0}
