-- What is presupposed of the machines of a group beside the moves that each of them may make: an answer that comes was
-- given before, to the machine that it comes to; a question that is confirmed was asked before; and each start of a
-- process counts more than all starts of its machine before.
use Rattle.std.specs.Prelude.{◌≡◌, ℕ, ◌+◌, ◌≤◌, List, [], ◌∷◌, ◌++◌, Option, Some, None}
use Rattle.vr_model.specs.Replicas.{put}
use Rattle.net_hello.specs.declared.hello.Epoch.{Epoch}
use Rattle.plc_epochs.specs.declared.kept.Kept.{Kept}
use Rattle.plc_epochs.specs.declared.word.Word.{Word}
use Rattle.plc_epochs.specs.declared.word.Word.TheVariants.{Freeze, Frozen, Confirm, StillFrozen, Marked}
use Rattle.plc_epochs.specs.declared.cold_start.ColdStart.{ColdStart}
use Rattle.plc_epochs.specs.declared.cold_start.Step.{Step}
use Rattle.plc_epochs.specs.declared.cold_start.Step.TheVariants as steps
use Rattle.plc_epochs.specs.Table.{question_in, spoken_in}
use Rattle.laws_epochs.specs.Machines.{Telling, WordCame, Move, Starts, Takes, Machine, AreMoves, after_moves, at_rest}

-- what a machine says to the one that asked, if it answers
abbrev pub answer_in : Step → Option Word
answer_in (steps.Freezes word) = Some word
answer_in (steps.Confirms word) = Some word
answer_in step = None

-- a machine that is up has begun this epoch, and asks this of the others
pub record Asks (machine : Machine) (epoch : Epoch) (question : Word) : Type 0 where
  pub value : ColdStart
  pub runs : machine.runs ≡ Some value
  pub part : spoken_in value.phase ≡ Some epoch
  pub question_is : question_in value.phase ≡ Some question

-- by one of these moves a machine that has begun this epoch gave this answer to what that machine had asked
pub record WasAnswered (moves : List Move) (from to : ℕ) (epoch : Epoch) (answer : Word) : Type 0 where
  pub early : List Move
  pub late : List Move
  pub asked_in : Epoch
  pub question : Word
  pub now : ℕ
  pub step : Step
  pub becomes : ColdStart
  pub is : moves ≡ early ++ Takes from (WordCame to asked_in question now) step becomes ∷ late
  pub answers : answer_in step ≡ Some answer
  pub part : spoken_in becomes.phase ≡ Some epoch

-- a group of 2f+1 machines whose stores have this before any process starts
module _ (f : ℕ) (stores : ℕ → Kept) where
  -- a machine behind these moves
  abbrev pub machine_behind : List Move → ℕ → Machine
  machine_behind moves i = (after_moves f (at_rest stores) moves).at i

  -- at some moment of these moves a machine asked this in this epoch
  pub record WasAsked (moves : List Move) (from : ℕ) (epoch : Epoch) (question : Word) : Type 0 where
    pub early : List Move
    pub late : List Move
    pub is : moves ≡ early ++ late
    pub asks : Asks (machine_behind early from) epoch question

  -- Of who asks to freeze, and of who is marked, nothing is presupposed: such words may be forged.
  abbrev pub WordWasSaid : List Move → ℕ → ℕ → Epoch → Word → Type 0
  WordWasSaid moves from to epoch (Freeze question) = Unit {0}
  WordWasSaid moves from to epoch (Frozen answer) = WasAnswered moves from to epoch (Frozen answer)
  WordWasSaid moves from to epoch (Confirm question asked) = WasAsked moves from epoch (Confirm question asked)
  WordWasSaid moves from to epoch (StillFrozen answer) = WasAnswered moves from to epoch (StillFrozen answer)
  WordWasSaid moves from to epoch (Marked question) = Unit {0}

  abbrev pub TellingIsTrue : List Move → ℕ → Telling → Type 0
  TellingIsTrue moves i (WordCame from epoch word now) = WordWasSaid moves from i epoch word
  TellingIsTrue moves i telling = Unit {0}

  abbrev pub MoveIsTrue : List Move → Move → Type 0
  MoveIsTrue moves (Takes i telling step becomes) = TellingIsTrue moves i telling
  MoveIsTrue moves move = Unit {0}

  -- behind these moves each word that comes was said by then
  abbrev pub AllWereSaid : List Move → List Move → Type 0
  AllWereSaid moves [] = Unit {0}
  AllWereSaid moves (m ∷ ms) = MoveIsTrue moves m × AllWereSaid (moves ++ m ∷ []) ms

-- ---- starts

-- a start counts no less than its machine's next one has to
abbrev pub CountsOn : (ℕ → ℕ) → Move → Type 0
CountsOn least (Starts i place image starts now becomes) = least i ≤ starts
CountsOn least move = Unit {0}

-- how much the next start of each machine has to count
abbrev pub least_after : (ℕ → ℕ) → Move → ℕ → ℕ
least_after least (Starts i place image starts now becomes) = put least i (starts + 1)
least_after least move = least

abbrev pub AllCountOn : (ℕ → ℕ) → List Move → Type 0
AllCountOn least [] = Unit {0}
AllCountOn least (m ∷ ms) = CountsOn least m × AllCountOn (least_after least m) ms

pub record AreTrueMoves (f : ℕ) (stores : ℕ → Kept) (moves : List Move) : Type 0 where
  pub may : AreMoves f (at_rest stores) moves
  pub said : AllWereSaid f stores [] moves
  pub count : AllCountOn (λ i. 0) moves
