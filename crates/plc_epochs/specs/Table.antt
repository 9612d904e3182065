-- What one machine does about the epochs of its group: by what comes, and by what it is, each step.
use Rattle.std.specs.Prelude.{◌≡◌, ◌==◌, ◌+◌, ℕ, Bool, true, false, not, ◌&&◌, List, Option, Some, None}
use Rattle.std.specs.Prelude.{MatchBool, bytes_eq, count_by, is_some, nat_le, nat_lt, slice_set, if◌then◌else◌}
use Rattle.vr_model.specs.Groups.{group_size}
use Rattle.net_hello.specs.declared.hello.Epoch.{Epoch}
use Rattle.plc_epochs.specs.Epochs.{is_far_above, is_later, is_same, last_number, next_epoch, is_recent, is_recent_of}
use Rattle.plc_epochs.specs.Epochs.{nothing_told}
use Rattle.plc_epochs.specs.Recovering as recovering
use Rattle.plc_epochs.specs.Recovering.{answer_of, question_word, recovering_under, thawed}
use Rattle.plc_epochs.specs.declared.word.Answer.{Answer}
use Rattle.plc_epochs.specs.declared.word.Word.{Word}
use Rattle.plc_epochs.specs.declared.word.Word.TheVariants.{Freeze, Frozen, Confirm, StillFrozen, Marked}
use Rattle.plc_epochs.specs.declared.kept.Kept.{Kept}
use Rattle.plc_epochs.specs.declared.kept.Kept.TheVariants as keeps
use Rattle.plc_epochs.specs.declared.recovery.Recovery.{Recovery}
use Rattle.plc_epochs.specs.declared.cold_start.Place.{Place}
use Rattle.plc_epochs.specs.declared.cold_start.Phase.{Phase}
use Rattle.plc_epochs.specs.declared.cold_start.Phase.TheVariants.{Waiting, Above, Entering, Entered, Beginning}
use Rattle.plc_epochs.specs.declared.cold_start.Phase.TheVariants.{TakingPart, Recovering}
use Rattle.plc_epochs.specs.declared.cold_start.Step.{Step}
use Rattle.plc_epochs.specs.declared.cold_start.Step.TheVariants as steps
use Rattle.plc_epochs.specs.declared.cold_start.Greeting.{Greeting}
use Rattle.plc_epochs.specs.declared.cold_start.Greeting.TheVariants.{Silence, Waits, Hello}
use Rattle.plc_epochs.specs.declared.cold_start.OthersHeard.{OthersHeard}
use Rattle.plc_epochs.specs.declared.cold_start.ColdStart.{ColdStart}

-- ---- What it is

-- a process that starts: one that has begun an epoch recovers in it
abbrev pub phase_from : Kept → ℕ → ℕ → Phase
phase_from keeps.Nothing nonce now = Waiting nothing_told None
phase_from (keeps.Above above) nonce now = Above above
phase_from (keeps.Entered epoch) nonce now = Entered epoch nothing_told
phase_from (keeps.Begun epoch) nonce now = Recovering epoch (recovering_under nonce now)

abbrev pub StartsAs : Place → Kept → List ℕ → ℕ → ℕ → ColdStart → Type 0
StartsAs place kept image nonce now a = (a.place ≡ place) × (a.image ≡ image)
    × (a.phase ≡ phase_from kept nonce now) × (a.recoveries ≡ nothing_told) × (a.parts ≡ nothing_told)

-- what its store is to have
abbrev pub kept_in : Phase → Kept
kept_in (Waiting heard above) = keeps.Nothing
kept_in (Above above) = keeps.Above above
kept_in (Entering epoch heard) = keeps.Entered epoch
kept_in (Entered epoch heard) = keeps.Entered epoch
kept_in (Beginning epoch) = keeps.Begun epoch
kept_in (TakingPart epoch) = keeps.Begun epoch
kept_in (Recovering epoch recovery) = keeps.Begun epoch

-- nothing is said in an epoch that the store doesn't have
abbrev pub greeting_in : Phase → Greeting
greeting_in (Waiting heard above) = Waits
greeting_in (Above above) = Waits
greeting_in (Entering epoch heard) = Silence
greeting_in (Entered epoch heard) = Hello epoch
greeting_in (Beginning epoch) = Hello epoch
greeting_in (TakingPart epoch) = Hello epoch
greeting_in (Recovering epoch recovery) = Hello epoch

-- and nothing but hello in one that it hasn't begun
abbrev pub spoken_in : Phase → Option Epoch
spoken_in (Waiting heard above) = None
spoken_in (Above above) = None
spoken_in (Entering epoch heard) = None
spoken_in (Entered epoch heard) = None
spoken_in (Beginning epoch) = None
spoken_in (TakingPart epoch) = Some epoch
spoken_in (Recovering epoch recovery) = Some epoch

abbrev pub question_in : Phase → Option Word
question_in (Recovering epoch recovery) = question_word recovery.nonce recovery.question
question_in phase = None

abbrev pub recovers_in : Phase → Bool
recovers_in (Recovering epoch recovery) = true
recovers_in phase = false

-- of one that recovers, and isn't frozen
abbrev pub takes_answers_in : Phase → Bool
takes_answers_in (Recovering epoch recovery) = not (is_some recovery.frozen)
takes_answers_in phase = false

-- for so many others, of which so many were heard: where it has lost its disk, for f+1 that tell their epochs; where it
-- has entered an epoch, for f in it
abbrev pub waits_in : Phase → ℕ → Option OthersHeard
waits_in (Waiting heard above) f = Some (record { heard = count_by is_some heard; wanted = f + 1 })
waits_in (Entered epoch heard) f = Some (record { heard = count_by is_some heard; wanted = f })
waits_in phase f = None

abbrev pub recovered_if : Bool → Epoch → Phase → Phase
recovered_if true epoch phase = TakingPart epoch
recovered_if false epoch phase = phase

-- its replica is normal again, never of one that is frozen
abbrev pub recovered_in : Phase → Phase
recovered_in (Recovering epoch recovery) =
    recovered_if (not (is_some recovery.frozen)) epoch (Recovering epoch recovery)
recovered_in phase = phase

abbrev pub is_other : Place → ℕ → Bool
is_other place machine = not (machine == place.number) && nat_lt machine (group_size place.config.f)

-- ---- Steps

-- nothing is done, and nothing changes
abbrev pub Stays : ColdStart → Step → ColdStart → Type 0
Stays a step b = (step ≡ steps.Nothing) × (b ≡ a)

-- it does this, and is in this phase then
abbrev pub Goes : Phase → Step → ColdStart → Step → ColdStart → Type 0
Goes phase does a step b = (step ≡ does) × (b ≡ record a { phase = phase })

-- it tells this, and nothing changes
abbrev pub Tells : Step → ColdStart → Step → ColdStart → Type 0
Tells does a step b = (step ≡ does) × (b ≡ a)

-- it has left its epoch: what it had in memory is forgotten
abbrev pub leaving : ColdStart → Epoch → List (Option ℕ) → ColdStart
leaving a epoch heard =
    record a { phase = Entering epoch heard; recoveries = nothing_told; parts = nothing_told }

abbrev pub Leaves : Epoch → List (Option ℕ) → Step → ColdStart → Step → ColdStart → Type 0
Leaves epoch heard does a step b = (step ≡ does) × (b ≡ leaving a epoch heard)

-- ---- Its store has what it was to have

abbrev pub StoresEntered : Epoch → List (Option ℕ) → Kept → ColdStart → Step → ColdStart → Type 0
StoresEntered epoch heard (keeps.Entered has) a step b =
    MatchBool (is_same has epoch) (Goes (Entered epoch heard) (steps.Enters epoch) a step b) (Stays a step b)
StoresEntered epoch heard keeps.Nothing a step b = Stays a step b
StoresEntered epoch heard (keeps.Above above) a step b = Stays a step b
StoresEntered epoch heard (keeps.Begun has) a step b = Stays a step b

abbrev pub StoresBegun : Epoch → Kept → ColdStart → Step → ColdStart → Type 0
StoresBegun epoch (keeps.Begun has) a step b =
    MatchBool (is_same has epoch) (Goes (TakingPart epoch) (steps.Starts epoch) a step b) (Stays a step b)
StoresBegun epoch keeps.Nothing a step b = Stays a step b
StoresBegun epoch (keeps.Above above) a step b = Stays a step b
StoresBegun epoch (keeps.Entered has) a step b = Stays a step b

abbrev pub StoresIn : Phase → Kept → ColdStart → Step → ColdStart → Type 0
StoresIn (Entering epoch heard) kept a step b = StoresEntered epoch heard kept a step b
StoresIn (Beginning epoch) kept a step b = StoresBegun epoch kept a step b
StoresIn phase kept a step b = Stays a step b

-- An epoch that it left for is entered, and one that it begins is begun, once the store has just that.
abbrev pub Stores : Kept → ColdStart → Step → ColdStart → Type 0
Stores kept a step b = StoresIn a.phase kept a step b

-- ---- Time has passed

-- f others have said hello in it, and the image in force here is the one that it begins with
abbrev pub may_begin : ColdStart → Epoch → List (Option ℕ) → Bool
may_begin a epoch heard = nat_le a.place.config.f (count_by is_some heard) && bytes_eq epoch.image a.image

abbrev pub LooksEntered : Epoch → List (Option ℕ) → ColdStart → Step → ColdStart → Type 0
LooksEntered epoch heard a step b =
    MatchBool (may_begin a epoch heard) (Goes (Beginning epoch) (steps.Begins epoch) a step b) (Stays a step b)

-- the group begins anew by itself, and the machine isn't marked; it has recovered for a second under its nonce, and
-- asked nothing under it; and of f others a RECOVERY came within the last second
abbrev pub may_ask : ColdStart → Recovery → ℕ → Bool
may_ask a recovery now = a.place.is_automatic && not a.place.is_marked && recovering.may_ask recovery now
    && nat_le a.place.config.f (count_by (is_recent now) a.recoveries)

abbrev pub AsksOrStays : Epoch → Recovery → ℕ → ColdStart → Step → ColdStart → Type 0
AsksOrStays epoch recovery now a step b = MatchBool (may_ask a recovery now)
    (Goes (Recovering epoch (recovering.asking recovery now)) steps.Asks a step b) (Stays a step b)

abbrev pub LooksBy : Epoch → Recovery → ℕ → Option Recovery → ColdStart → Step → ColdStart → Type 0
LooksBy epoch recovery now (Some after) a step b = Goes (Recovering epoch after) (steps.Thaws after.nonce) a step b
LooksBy epoch recovery now None a step b = AsksOrStays epoch recovery now a step b

abbrev pub LooksIn : Phase → ℕ → ColdStart → Step → ColdStart → Type 0
LooksIn (Entered epoch heard) now a step b = LooksEntered epoch heard a step b
LooksIn (Recovering epoch recovery) now a step b =
    LooksBy epoch recovery now (thawed recovery a.place.config.f now) a step b
LooksIn phase now a step b = Stays a step b

-- It begins an epoch that it has entered; it thaws; or it asks.
abbrev pub Looks : ℕ → ColdStart → Step → ColdStart → Type 0
Looks now a step b = LooksIn a.phase now a step b

-- ---- A machine says hello

abbrev pub later_of : Option Epoch → Epoch → Epoch
later_of None epoch = epoch
later_of (Some above) epoch = if is_later above epoch then above else epoch

-- once f+1 others have said theirs, it waits above the greatest
abbrev pub HearsWaiting : List (Option ℕ) → Epoch → ColdStart → Step → ColdStart → Type 0
HearsWaiting heard above a step b = MatchBool (nat_lt a.place.config.f (count_by is_some heard))
    (Goes (Above above) (steps.WaitsAbove above) a step b) (Goes (Waiting heard (Some above)) steps.Counts a step b)

abbrev pub goes_on_in : Phase → ColdStart → ℕ → Bool
goes_on_in (TakingPart own) a now = nat_le a.place.config.f (count_by (is_recent now) a.parts)
goes_on_in (Recovering own recovery) a now = nat_lt a.place.config.f (count_by (is_recent now) a.parts)
goes_on_in phase a now = false

-- a majority takes part in its epoch: itself, and f others within the last second; or it recovers there, and f+1 others
abbrev pub goes_on : ColdStart → ℕ → Bool
goes_on a now = goes_on_in a.phase a now

abbrev pub is_early_in : Phase → ℕ → Bool
is_early_in (Recovering own recovery) now = not (recovering.recovers_long recovery now)
is_early_in phase now = false

-- it has recovered for less than a second, and can't know yet who takes part
abbrev pub is_early : ColdStart → ℕ → Bool
is_early a now = is_early_in a.phase now

-- why it stays in its own epoch though another machine is in this later one: it can't know yet whether its group goes
-- on, or it does; or following takes a person, since that is more than one above its own, or has another image than its
-- store. None where it leaves
abbrev pub staying : ColdStart → Epoch → Epoch → ℕ → Option Step
staying a own epoch now = if is_early a now then Some steps.Nothing
    else (if goes_on a now then Some (steps.Refuses epoch)
    else (if is_far_above epoch own then Some (steps.FarAbove epoch)
    else (if bytes_eq epoch.image a.image then None else Some (steps.OtherProgram epoch))))

abbrev pub LeavesUnless : Option Step → ℕ → Epoch → ℕ → ColdStart → Step → ColdStart → Type 0
LeavesUnless (Some stays) from epoch now a step b = Tells stays a step b
LeavesUnless None from epoch now a step b =
    Leaves epoch (slice_set nothing_told from (Some now)) (steps.Hears epoch) a step b

-- it leaves its own for a later one, in which it has heard that machine, unless there's a reason to stay
abbrev pub HearsLater : Epoch → ℕ → Epoch → ℕ → ColdStart → Step → ColdStart → Type 0
HearsLater own from epoch now a step b = MatchBool (is_later epoch own)
    (LeavesUnless (staying a own epoch now) from epoch now a step b) (Stays a step b)

-- in the epoch that it's to enter, or has entered, one more machine is heard
abbrev pub HearsEntering : Epoch → List (Option ℕ) → ℕ → Epoch → ℕ → ColdStart → Step → ColdStart → Type 0
HearsEntering own heard from epoch now a step b = MatchBool (is_same epoch own)
    (Goes (Entering own (slice_set heard from (Some now))) steps.Counts a step b)
    (HearsLater own from epoch now a step b)

-- one more machine is in it, or in one before it
abbrev pub HearsNoLater : Epoch → List (Option ℕ) → ℕ → Epoch → ℕ → ColdStart → Step → ColdStart → Type 0
HearsNoLater own heard from epoch now a step b = MatchBool (is_same epoch own)
    (Goes (Entered own (slice_set heard from (Some now))) steps.Counts a step b) (Tells (steps.Before epoch) a step b)

abbrev pub HearsEntered : Epoch → List (Option ℕ) → ℕ → Epoch → ℕ → ColdStart → Step → ColdStart → Type 0
HearsEntered own heard from epoch now a step b = MatchBool (is_later epoch own)
    (HearsLater own from epoch now a step b) (HearsNoLater own heard from epoch now a step b)

abbrev pub HearsIn : Phase → ℕ → Epoch → ℕ → ColdStart → Step → ColdStart → Type 0
HearsIn (Waiting heard above) from epoch now a step b =
    HearsWaiting (slice_set heard from (Some now)) (later_of above epoch) a step b
HearsIn (Above above) from epoch now a step b = HearsLater above from epoch now a step b
HearsIn (Entering own heard) from epoch now a step b = HearsEntering own heard from epoch now a step b
HearsIn (Entered own heard) from epoch now a step b = HearsEntered own heard from epoch now a step b
HearsIn (Beginning own) from epoch now a step b = HearsLater own from epoch now a step b
HearsIn (TakingPart own) from epoch now a step b = HearsLater own from epoch now a step b
HearsIn (Recovering own recovery) from epoch now a step b = HearsLater own from epoch now a step b

-- of another machine of the group, in an epoch whose number isn't the greatest
abbrev pub is_heard : ColdStart → ℕ → Epoch → Bool
is_heard a from epoch = is_other a.place from && nat_lt epoch.number last_number

abbrev pub HearsHello : ℕ → Epoch → ℕ → ColdStart → Step → ColdStart → Type 0
HearsHello from epoch now a step b = MatchBool (is_heard a from epoch)
    (HearsIn a.phase from epoch now a step b) (Stays a step b)

-- ---- Words of one epoch

-- of another machine of the group, in the epoch that it has begun
abbrev pub is_taken : ColdStart → ℕ → Epoch → Epoch → Bool
is_taken a from epoch own = is_other a.place from && is_same epoch own

abbrev pub SignIn : Option Epoch → ℕ → Epoch → ℕ → ColdStart → Step → ColdStart → Type 0
SignIn (Some own) from epoch now a step b =
    MatchBool (is_taken a from epoch own && not (is_recent_of a.recoveries from now))
    ((step ≡ steps.Counts) × (b ≡ record a { parts = slice_set a.parts from (Some now) })) (Stays a step b)
SignIn None from epoch now a step b = Stays a step b

-- something came of that machine over a connection of this epoch: it takes part, if no RECOVERY of it came within the
-- last second
abbrev pub HearsSign : ℕ → Epoch → ℕ → ColdStart → Step → ColdStart → Type 0
HearsSign from epoch now a step b = SignIn (spoken_in a.phase) from epoch now a step b

-- of who recovers, which takes no part
abbrev pub recovers_now : ColdStart → ℕ → ℕ → ColdStart
recovers_now a from now =
    record a { recoveries = slice_set a.recoveries from (Some now); parts = slice_set a.parts from None }

abbrev pub RecoveryIn : Option Epoch → ℕ → Epoch → ℕ → ColdStart → Step → ColdStart → Type 0
RecoveryIn (Some own) from epoch now a step b = MatchBool (is_taken a from epoch own)
    ((step ≡ steps.Counts) × (b ≡ recovers_now a from now)) (Stays a step b)
RecoveryIn None from epoch now a step b = Stays a step b

abbrev pub HearsRecovery : ℕ → Epoch → ℕ → ColdStart → Step → ColdStart → Type 0
HearsRecovery from epoch now a step b = RecoveryIn (spoken_in a.phase) from epoch now a step b

-- in a group that begins by itself
abbrev pub may_freeze : ColdStart → Recovery → ℕ → Bool
may_freeze a recovery now = a.place.is_automatic && recovering.may_freeze recovery now

abbrev pub FreezesOrStays : Epoch → Recovery → ℕ → ℕ → ColdStart → Step → ColdStart → Type 0
FreezesOrStays epoch recovery question now a step b = MatchBool (may_freeze a recovery now)
    (Goes (Recovering epoch (recovering.freezing recovery now)) (steps.Freezes (Frozen (answer_of recovery question))) a
    step b) (Stays a step b)

-- one that is marked says so
abbrev pub HearsFreeze : Epoch → Recovery → ℕ → ℕ → ColdStart → Step → ColdStart → Type 0
HearsFreeze epoch recovery question now a step b = MatchBool a.place.is_marked
    (Tells (steps.Declines (Marked question)) a step b) (FreezesOrStays epoch recovery question now a step b)

-- to what it asks first
abbrev pub marked_step : Recovery → ℕ → Step
marked_step recovery question =
    if recovering.is_first_in recovery.question recovery.nonce question then steps.HearsMarked else steps.Nothing

abbrev pub ConfirmsOrStays : Recovery → ℕ → List (Option ℕ) → ColdStart → Step → ColdStart → Type 0
ConfirmsOrStays recovery question asked a step b = MatchBool (recovering.may_confirm recovery a.place.number asked)
    ((step ≡ steps.Confirms (StillFrozen (answer_of recovery question))) × (b ≡ a)) (Stays a step b)

-- one more froze; once f others have, those are asked once more
abbrev pub CountsFrozen : Epoch → Recovery → ColdStart → Step → ColdStart → Type 0
CountsFrozen epoch recovery a step b = MatchBool (recovering.may_ask_again recovery a.place.config.f)
    (Goes (Recovering epoch (recovering.asking_again recovery)) steps.AsksAgain a step b)
    (Goes (Recovering epoch recovery) steps.Counts a step b)

abbrev pub HearsFrozen : Epoch → Recovery → ℕ → Answer → ColdStart → Step → ColdStart → Type 0
HearsFrozen epoch recovery from answer a step b = MatchBool (recovering.is_first_answer recovery answer)
    (CountsFrozen epoch (recovering.with_first recovery from answer.nonce) a step b) (Stays a step b)

-- behind one that can't go on; it begins with the image in force here
abbrev pub epoch_behind : ColdStart → Epoch → Recovery → Option Epoch
epoch_behind a epoch recovery =
    if recovering.evidence recovery a.place.config.f then next_epoch epoch a.image else None

abbrev pub EndsWith : Option Epoch → Epoch → Recovery → ColdStart → Step → ColdStart → Type 0
EndsWith (Some next) epoch recovery a step b = Leaves next nothing_told (steps.Ends next) a step b
EndsWith None epoch recovery a step b = Goes (Recovering epoch recovery) steps.Counts a step b

-- one more is still frozen; once f others are, its epoch has ended
abbrev pub CountsStillFrozen : Epoch → Recovery → ColdStart → Step → ColdStart → Type 0
CountsStillFrozen epoch recovery a step b = EndsWith (epoch_behind a epoch recovery) epoch recovery a step b

abbrev pub HearsStillFrozen : Epoch → Recovery → ℕ → Answer → ColdStart → Step → ColdStart → Type 0
HearsStillFrozen epoch recovery from answer a step b = MatchBool (recovering.is_second_answer recovery from answer)
    (CountsStillFrozen epoch (recovering.with_second recovery from answer.nonce) a step b) (Stays a step b)

abbrev pub TakesWord : Word → Epoch → Recovery → ℕ → ℕ → ColdStart → Step → ColdStart → Type 0
TakesWord (Freeze question) epoch recovery from now a step b = HearsFreeze epoch recovery question now a step b
TakesWord (Frozen answer) epoch recovery from now a step b = HearsFrozen epoch recovery from answer a step b
TakesWord (Confirm question asked) epoch recovery from now a step b = ConfirmsOrStays recovery question asked a step b
TakesWord (StillFrozen answer) epoch recovery from now a step b = HearsStillFrozen epoch recovery from answer a step b
TakesWord (Marked question) epoch recovery from now a step b = Tells (marked_step recovery question) a step b

abbrev pub WordIn : Phase → ℕ → Epoch → Word → ℕ → ColdStart → Step → ColdStart → Type 0
WordIn (Recovering own recovery) from epoch word now a step b = MatchBool (is_taken a from epoch own)
    (TakesWord word own recovery from now a step b) (Stays a step b)
WordIn phase from epoch word now a step b = Stays a step b

-- It takes words only while it recovers.
abbrev pub HearsWord : ℕ → Epoch → Word → ℕ → ColdStart → Step → ColdStart → Type 0
HearsWord from epoch word now a step b = WordIn a.phase from epoch word now a step b
