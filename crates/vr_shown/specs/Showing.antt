-- What shows of a replica to other threads, and the words that are published for it.
use Rattle.std.specs.Prelude.{ℕ, ◌+◌, ◌-◌, ◌^◌, min, ◌&&◌, ◌||◌, not, Bool, true, false, List, [], ◌∷◌, Option, Some}
use Rattle.std.specs.Prelude.{None}
use Rattle.vr_model.specs.declared.standing.Standing.{Standing}
use Rattle.vr_model.specs.declared.standing.Status.{Status}
use Rattle.vr_model.specs.declared.standing.Status.TheVariants as statuses
use Rattle.vr_model.specs.Replicas.{is_normal}
use Rattle.vr_model.specs.StandsFor.{status_of}
use Rattle.vr_shown.specs.declared.shown.Shown.{Shown}

abbrev pub down_standing : Standing
down_standing = record { status = statuses.Down; view = 0; is_primary = false }

-- no start was counted
abbrev pub nothing_shown : Shown
nothing_shown = record { standing = down_standing; starts = 0; has_failed = false; tries = 0; is_served = false; frameless = 0 }

abbrev pub shows_normal : Shown → Bool
shows_normal s = is_normal (status_of s.standing.status) && not s.has_failed

abbrev pub status_word : Status → ℕ
status_word statuses.Down = 0
status_word statuses.Normal = 1
status_word statuses.ViewChange = 2
status_word statuses.Recovering = 3

abbrev pub flag_word : Bool → ℕ
flag_word false = 0
flag_word true = 1

-- the words that are published
abbrev pub shown_words : Shown → List ℕ
shown_words s =
    status_word s.standing.status ∷ s.standing.view ∷ flag_word s.standing.is_primary ∷ s.starts
    ∷ flag_word s.has_failed ∷ s.tries ∷ flag_word s.is_served ∷ s.frameless ∷ []

-- one order more that came to an end, as far as that is counted
abbrev pub one_more : ℕ → ℕ
one_more tries = min (tries + 1) (2 ^ 64 - 1)

-- an order to start it was given that has not come to its end: it is down, whatever it was
abbrev pub while_starting : Shown → Shown
while_starting before = record before { standing = down_standing }

-- the replica started, and its store counted this start; or its store failed
abbrev pub at_start : Shown → Standing → Option ℕ → Shown
at_start before standing (Some count) = record before {
  standing = standing;
  starts = count;
  has_failed = false;
  tries = one_more before.tries;
  is_served = true;
}
at_start before standing None =
    record before { standing = standing; has_failed = true; tries = one_more before.tries; is_served = true }

-- it could not be started
abbrev pub not_started : Shown → Shown
not_started before =
    record before { standing = down_standing; tries = one_more before.tries; is_served = false }

-- after a step, in which the store failed or not, with so many messages lost that have no frame
abbrev pub after_step : Shown → Standing → Bool → ℕ → Shown
after_step before standing failed lost =
    record before { standing = standing; has_failed = before.has_failed || failed; frameless = lost }

-- it is served no more
abbrev pub at_end : Shown → Shown
at_end before = record before { standing = down_standing; is_served = false }
