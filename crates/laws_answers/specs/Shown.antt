-- What readers of released outputs are shown: by the answers that the driver's client heard.
use Rattle.std.specs.Prelude.{◌≡◌, ℕ, List, Some, slice_get}
use Rattle.il_model.specs.declared.command.Command.{Command}
use Rattle.il_model.specs.declared.command.Answer.{Answer}
use Rattle.il_model.specs.Answers.{released_image}
use Rattle.vr_model.specs.Report as report
use Rattle.vr_schedules.specs.declared.trace.Trace.{Trace}
use Rattle.vr_schedules.specs.declared.trace.Release as told
use Rattle.vr_world.specs.History.{IsAnswered}
use Rattle.io_image.specs.declared.release.Release.{Release}
use Rattle.io_image.specs.declared.release.View.{View}
use Rattle.laws_threads.specs.CodeMoves.{CodeMove}
use Rattle.laws_answers.specs.Seen.{heard_from}

-- this answer to client c, under that number, released these outputs
pub record Releases (answer : report.Release Answer) (c : ℕ) (release : Release) : Type 0 where
  pub client : answer.client ≡ c
  pub number : answer.number ≡ release.number
  pub image : released_image answer.answer ≡ Some release.image

-- outputs were released by an answer that client c heard among these moves
pub record WasReleased {S : Type 0} (moves : List (CodeMove S)) (c : ℕ) (release : Release) : Type 0 where
  pub answer : report.Release Answer
  pub place : ℕ
  pub heard : slice_get (heard_from 0 moves) place ≡ Some answer
  pub releases : Releases answer c release

-- What is shown are outputs of an answer to client c; and that is the answer at its request's place in the one list,
-- which had come to that place.
pub record ShowsAnswer (answers : List Command → List Answer) (trace : Trace) (c : ℕ) (view : View) : Type 0 where
  pub release : told.Release
  pub client : release.client.number ≡ c
  pub number : release.number ≡ view.number
  pub image : released_image release.answer ≡ Some view.image
  pub stands : IsAnswered answers trace release
