-- Inputs as what the records of a journal say of them.
use Rattle.std.specs.Prelude.{◌≡◌, ℕ, List, [], ◌∷◌, ◌++◌, map}
use Rattle.std.specs.List.{AllByRecursion}
use Rattle.vr_journal.specs.declared.record.Kind.TheVariants.{Input}
use Rattle.vr_journal.specs.Journals.{inputs}
use Rattle.vr_journal.specs.Records.{Entry}
use Rattle.vr_model.specs.declared.event.Event.{Event}
use Rattle.vr_model.specs.declared.event.Event.TheVariants.{Message, Timeout, Resend, Restart}
use Rattle.vr_model.specs.declared.message.Message as sent
use Rattle.vr_wire.specs.Frames.{frame_of, IsFramed}

-- in bytes: past so many a file is left for another one
abbrev pub longest : ℕ
longest = 65536

-- ---- one input

-- a tag, and of a message its frame
abbrev pub input_bytes : Event → List ℕ
input_bytes (Message m) = 0 ∷ frame_of m
input_bytes Timeout = 1 ∷ []
input_bytes Resend = 2 ∷ []
input_bytes (Restart nonce) = []

-- it may be kept: a message has a frame, and a restart is none of what goes on
abbrev pub IsKept : Event → Type 0
IsKept (Message m) = IsFramed m
IsKept Timeout = Unit {0}
IsKept Resend = Unit {0}
IsKept (Restart nonce) = ⊥

-- its record in a journal
abbrev pub input_record : Event → Entry
input_record e = record { kind = Input; bytes = input_bytes e }

-- these bytes are the frame of that message
pub record IsFrame (bytes : List ℕ) (m : sent.Message) : Type 0 where
  pub framed : IsFramed m
  pub bytes_are : frame_of m ≡ bytes

abbrev pub IsNoFrame : List ℕ → Type 0
IsNoFrame bytes = (m : sent.Message) → IsFrame bytes m → ⊥

-- a record of that input says these bytes
pub record IsOf (bytes : List ℕ) (e : Event) : Type 0 where
  pub kept : IsKept e
  pub bytes_are : input_bytes e ≡ bytes

abbrev pub IsOfNone : List ℕ → Type 0
IsOfNone bytes = (e : Event) → IsOf bytes e → ⊥

-- ---- several

-- records of these inputs say these bytes, each at its place
abbrev pub AreOf : List (List ℕ) → List Event → Type 0
AreOf [] [] = Unit {0}
AreOf [] (e ∷ es) = ⊥
AreOf (b ∷ bs) [] = ⊥
AreOf (b ∷ bs) (e ∷ es) = IsOf b e × AreOf bs es

abbrev pub AreOfNone : List (List ℕ) → Type 0
AreOfNone bs = (es : List Event) → AreOf bs es → ⊥

-- ---- what is promised of what was kept

pub record ReadBack : Type 0 where
  -- no two inputs have one spelling
  pub one : (e other : Event) → IsKept e → IsKept other → input_bytes e ≡ input_bytes other → e ≡ other
  -- of a file that has these records behind its base, the inputs are the spellings of these
  pub put : (es : List Event) → inputs (map input_record es) ≡ map input_bytes es
  -- of these, and of whatever else was put behind them, they are read first, each once and in order
  pub first : (es found : List Event) (more : List (List ℕ)) → AllByRecursion IsKept es
      → AreOf (map input_bytes es ++ more) found → (later : List Event) × (found ≡ es ++ later)
