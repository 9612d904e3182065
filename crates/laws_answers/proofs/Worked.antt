-- Moves worked out: client 3 submits a command; replica 1 dies; the client hears an answer, the message that was handed
-- out at place 7.
use Rattle.std.proofs.Common.{◌≡◌, List, [], ◌∷◌, refl}
use Rattle.il_model.specs.declared.command.Command.TheVariants.{Reset}
use Rattle.il_model.specs.declared.command.Answer.{Answer}
use Rattle.vr_model.specs.declared.event.Event.TheVariants.{Timeout}
use Rattle.vr_model.specs.Messages.{Replica, Client, Reply}
use Rattle.vr_model.specs.Steps.{Submits, Hears}
use Rattle.vr_schedules.specs.declared.event.WorldEvent.TheVariants.{Submit, Deliver}
use Rattle.laws_threads.specs.CodeMoves.{CodeMove, Dies, Serves}
use Rattle.laws_answers.specs.Seen.{schedule_of, heard_from}

module _ {S : Type 0} (left : S) (answer : Answer) where
  abbrev moves : List (CodeMove S)
  moves = Serves 3 (record { action = Submits Reset; sends = [] }) [] 0
      ∷ Dies 1 Timeout 0 left
      ∷ Serves 3 (record { action = Hears (record { from = Replica 0; to = Client 3; body = Reply 0 1 answer }); sends = [] }) [] 7
      ∷ []

  events : schedule_of moves ≡ Submit 3 Reset ∷ Deliver 7 ∷ []
  events = refl

  heard : heard_from 0 moves ≡ record { event = 1; client = 3; number = 1; answer = answer } ∷ []
  heard = refl
