-- A machine that recovers in its epoch. Times are in milliseconds.
use Rattle.std.specs.Prelude.{ℕ, ◌+◌, ◌-◌, ◌*◌, ◌%◌, ◌==◌, Bool, true, false, ◌&&◌, ◌||◌, List, Option, Some, None}
use Rattle.std.specs.Prelude.{count_by, is_some, nat_le, nat_lt, slice_set, unwrap_or, if◌then◌else◌}
use Rattle.plc_epochs.specs.Epochs.{has_told, nothing_told}
use Rattle.plc_epochs.specs.declared.word.Answer.{Answer}
use Rattle.plc_epochs.specs.declared.word.Word.{Word}
use Rattle.plc_epochs.specs.declared.word.Word.TheVariants.{Freeze, Confirm}
use Rattle.plc_epochs.specs.declared.recovery.Question.{Question}
use Rattle.plc_epochs.specs.declared.recovery.Question.TheVariants.{Unasked, First, Second}
use Rattle.plc_epochs.specs.declared.recovery.Recovery.{Recovery}

-- each start of a machine has 2 ^ 32 nonces of its words, one for each time that its replica recovers
abbrev pub first_nonce : ℕ → ℕ
first_nonce starts = starts * 4_294_967_296

-- the one behind, if it's of the same start
abbrev pub next_nonce : ℕ → Option ℕ
next_nonce nonce = if nat_lt (nonce % 4_294_967_296) 4_294_967_295 then Some (nonce + 1) else None

-- from now on, neither frozen nor asking
abbrev pub recovering_under : ℕ → ℕ → Recovery
recovering_under nonce now = record { nonce = nonce; since = now; frozen = None; question = Unasked }

-- for a second, under its nonce
abbrev pub recovers_long : Recovery → ℕ → Bool
recovers_long r now = nat_le 1000 (now - r.since)

abbrev pub is_unasked : Question → Bool
is_unasked Unasked = true
is_unasked (First frozen) = false
is_unasked (Second asked still) = false

-- once under a nonce
abbrev pub may_ask : Recovery → ℕ → Bool
may_ask r now = is_unasked r.question && recovers_long r now

-- whoever asks is frozen
abbrev pub asking : Recovery → ℕ → Recovery
asking r now = record r { frozen = Some (unwrap_or r.frozen now); question = First nothing_told }

-- who is frozen stays so; who recovers for less than a second doesn't freeze
abbrev pub may_freeze : Recovery → ℕ → Bool
may_freeze r now = is_some r.frozen || recovers_long r now

abbrev pub freezing : Recovery → ℕ → Recovery
freezing r now = record r { frozen = Some (unwrap_or r.frozen now) }

abbrev pub answer_of : Recovery → ℕ → Answer
answer_of r question = record { question = question; nonce = r.nonce }

abbrev pub is_first_in : Question → ℕ → ℕ → Bool
is_first_in Unasked nonce question = false
is_first_in (First frozen) nonce question = question == nonce
is_first_in (Second asked still) nonce question = false

-- to what it asks under its nonce, as long as it asks that first
abbrev pub is_first_answer : Recovery → Answer → Bool
is_first_answer r answer = is_first_in r.question r.nonce answer.question

abbrev pub with_first_in : Question → ℕ → ℕ → Question
with_first_in Unasked from nonce = Unasked
with_first_in (First frozen) from nonce = First (slice_set frozen from (Some nonce))
with_first_in (Second asked still) from nonce = Second asked still

-- the machine froze under this nonce
abbrev pub with_first : Recovery → ℕ → ℕ → Recovery
with_first r from nonce = record r { question = with_first_in r.question from nonce }

abbrev pub is_frozen_by : Question → ℕ → Bool
is_frozen_by Unasked f = false
is_frozen_by (First frozen) f = nat_le f (count_by is_some frozen)
is_frozen_by (Second asked still) f = false

-- f others have frozen
abbrev pub may_ask_again : Recovery → ℕ → Bool
may_ask_again r f = is_frozen_by r.question f

abbrev pub again : Question → Question
again Unasked = Unasked
again (First frozen) = Second frozen nothing_told
again (Second asked still) = Second asked still

-- those that froze are asked, and no others
abbrev pub asking_again : Recovery → Recovery
asking_again r = record r { question = again r.question }

-- it's frozen, and asked under its own nonce
abbrev pub may_confirm : Recovery → ℕ → List (Option ℕ) → Bool
may_confirm r number asked = is_some r.frozen && has_told asked number r.nonce

abbrev pub is_second_in : Question → ℕ → ℕ → Answer → Bool
is_second_in Unasked nonce from answer = false
is_second_in (First frozen) nonce from answer = false
is_second_in (Second asked still) nonce from answer = (answer.question == nonce) && has_told asked from answer.nonce

-- to what it asks under its nonce, of a machine that was asked, under the nonce that it told first
abbrev pub is_second_answer : Recovery → ℕ → Answer → Bool
is_second_answer r from answer = is_second_in r.question r.nonce from answer

abbrev pub with_second_in : Question → ℕ → ℕ → Question
with_second_in Unasked from nonce = Unasked
with_second_in (First frozen) from nonce = First frozen
with_second_in (Second asked still) from nonce = Second asked (slice_set still from (Some nonce))

-- the machine is still frozen under this nonce
abbrev pub with_second : Recovery → ℕ → ℕ → Recovery
with_second r from nonce = record r { question = with_second_in r.question from nonce }

abbrev pub is_still_frozen_by : Question → ℕ → Bool
is_still_frozen_by Unasked f = false
is_still_frozen_by (First frozen) f = false
is_still_frozen_by (Second asked still) f = nat_le f (count_by is_some still)

-- it's frozen, and f others still are: with itself f+1, of which none is normal again under these nonces
abbrev pub evidence : Recovery → ℕ → Bool
evidence r f = is_some r.frozen && is_still_frozen_by r.question f

abbrev pub is_past : Option ℕ → ℕ → ℕ → Bool
is_past None time now = false
is_past (Some since) time now = nat_le time (now - since)

-- for f+1 seconds: a machine thaws for a second of each f+2, so f+1 of them don't thaw in turn for ever, one at each time
abbrev pub is_frozen_long : Recovery → ℕ → ℕ → Bool
is_frozen_long r f now = is_past r.frozen ((f + 1) * 1000) now

abbrev pub recovering_anew : Option ℕ → ℕ → Option Recovery
recovering_anew None now = None
recovering_anew (Some nonce) now = Some (recovering_under nonce now)

-- under a nonce that was never used: all that was frozen, asked or answered is forgotten
abbrev pub thawed : Recovery → ℕ → ℕ → Option Recovery
thawed r f now = if is_frozen_long r f now then recovering_anew (next_nonce r.nonce) now else None

-- what it asks others
abbrev pub question_word : ℕ → Question → Option Word
question_word nonce Unasked = None
question_word nonce (First frozen) = Some (Freeze nonce)
question_word nonce (Second asked still) = Some (Confirm nonce asked)
