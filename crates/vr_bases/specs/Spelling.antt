-- What a normal replica is at some moment, as the bytes of a base.
use Rattle.std.specs.Prelude.{◌≡◌, ℕ, zero, suc, ◌+◌, ◌*◌, ◌^◌, ◌<◌, ◌==◌, Bool, true, false, List, [], ◌∷◌, ◌++◌}
use Rattle.std.specs.Prelude.{drop, length, map}
use Rattle.std.specs.List.{AllByRecursion}
use Rattle.byteorder.specs.Endian.{big_bytes, big_number}
use Rattle.vr_model.specs.Groups.{most_replicas}
use Rattle.vr_model.specs.Checkpoints.{KeptLog}
use Rattle.vr_model.specs.declared.event.Event.TheVariants as event
use Rattle.vr_model.specs.declared.message.Body.TheVariants as says
use Rattle.vr_model.specs.declared.message.Message.{Message}
use Rattle.vr_model.specs.declared.message.Party.TheVariants as party
use Rattle.vr_wire.specs.Frames.{IsFramed}
use Rattle.vr_kept.specs.Inputs.{input_bytes}
use Rattle.vr_pausing.specs.declared.marking.Marks.{Marks}
use Rattle.vr_bases.specs.declared.base.Base.{Base}

-- ---- the marks that stand in front

-- so many bytes they have: 17 numbers of eight
abbrev pub marks_length : ℕ
marks_length = 136

abbrev pub flag : Bool → ℕ
flag false = 0
flag true = 1

-- as a number
abbrev pub flag_bytes : Bool → List ℕ
flag_bytes b = big_bytes 8 (flag b)

-- its stored view, its nonce, how far each replica has acknowledged, whether its DOVIEWCHANGE is sent, and who sent
-- STARTVIEWCHANGE
abbrev pub numbers_of : Marks → List ℕ
numbers_of m =
    m.stored_view ∷ m.nonce ∷ (m.acknowledged ++ (flag m.sent_do_view_change ∷ map flag m.start_view_changes))

-- numbers, each in eight bytes
abbrev pub numbers_bytes : List ℕ → List ℕ
numbers_bytes [] = []
numbers_bytes (n ∷ ns) = big_bytes 8 n ++ numbers_bytes ns

abbrev pub marks_bytes : Marks → List ℕ
marks_bytes m = numbers_bytes (numbers_of m)

-- the number at this place, and so many from there on
abbrev pub number_at : List ℕ → ℕ → ℕ
number_at bytes place = big_number 8 (drop (place * 8) bytes)

abbrev pub numbers_at : List ℕ → ℕ → ℕ → List ℕ
numbers_at bytes place zero = []
numbers_at bytes place (suc count) = number_at bytes place ∷ numbers_at bytes (place + 1) count

-- ---- a base

-- the rest of it is what its DOVIEWCHANGE would say; who sends that, and to whom, is told by none
abbrev pub told_by : ℕ → ℕ → ℕ → KeptLog → Message
told_by view last_normal_view commit_number log = record {
  from = party.Replica 0;
  to = party.Replica 0;
  body = says.DoViewChange view last_normal_view commit_number log;
}

abbrev pub told : Marks → KeptLog → Message
told m log = told_by m.view m.last_normal_view m.commit_number log

-- the marks that stand in front, and behind them that message as an input is kept
abbrev pub base_bytes : Marks → KeptLog → List ℕ
base_bytes m log = marks_bytes m ++ input_bytes (event.Message (told m log))

-- each number has 64 bits, and there is one for each replica, as in the code
pub record FitsMarks (m : Marks) : Type 0 where
  pub stored_view : m.stored_view < 2 ^ 64
  pub nonce : m.nonce < 2 ^ 64
  pub acknowledged : AllByRecursion (λ n. n < 2 ^ 64) m.acknowledged
  pub each_acknowledged : length m.acknowledged ≡ most_replicas
  pub each_change : length m.start_view_changes ≡ most_replicas

-- these bytes are the base of a replica with these marks and this log
pub record IsBase (bytes : List ℕ) (m : Marks) (log : KeptLog) : Type 0 where
  pub framed : IsFramed (told m log)
  pub bytes_are : base_bytes m log ≡ bytes

abbrev pub IsNoBase : List ℕ → Type 0
IsNoBase bytes = (m : Marks) (log : KeptLog) → FitsMarks m → IsBase bytes m log → ⊥

-- the base of which these would be the bytes, where a DOVIEWCHANGE behind the marks in front tells this
abbrev pub is_read : List ℕ → ℕ → ℕ → ℕ → KeptLog → Base
is_read bytes view last_normal_view commit_number log = record {
  marks = record {
    view = view;
    commit_number = commit_number;
    last_normal_view = last_normal_view;
    stored_view = number_at bytes 0;
    acknowledged = numbers_at bytes 2 7;
    start_view_changes = map (λ n. n == 1) (numbers_at bytes 10 7);
    sent_do_view_change = number_at bytes 9 == 1;
    nonce = number_at bytes 1;
  };
  log = log;
}

-- what is read of these bytes, of whomever they may be the base, is that
abbrev pub OneBase : Type 0
OneBase = (bytes : List ℕ) (m n : Marks) (log other : KeptLog) → FitsMarks m → FitsMarks n → IsBase bytes m log
    → IsBase bytes n other → (m ≡ n) × (log ≡ other)
