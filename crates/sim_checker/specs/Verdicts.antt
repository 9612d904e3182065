-- What is wrong of a run.
use Rattle.sim_checker.specs.declared.verdicts.Point.{Point}
use Rattle.sim_checker.specs.declared.verdicts.Sampled.{Sampled}
use Rattle.sim_checker.specs.declared.verdicts.Wrong.TheVariants.{InputsFellBack, MomentFellBack}
use Rattle.sim_checker.specs.declared.verdicts.Submitted.{Submitted}
use Rattle.sim_checker.specs.declared.verdicts.Wrong.{Wrong}
use Rattle.std.specs.Prelude.{◌≡◌, ◌⊎◌, ◌<◌, ◌+◌, ◌-◌, ◌*◌, ◌/◌, ℕ, Option, Some, None, nat_lt, if◌then◌else◌}

-- what is wrong of a scan behind another one
abbrev pub fallen : Sampled → Sampled → Option Wrong
fallen before scan =
    if nat_lt scan.value before.value then Some InputsFellBack
    else (if nat_lt scan.moment before.moment then Some MomentFellBack else None)

-- its moment is ahead of the time since that other scan, by more than a hundredth of that time and 100 ms
abbrev pub IsAheadBy : ℕ → Submitted → Submitted → Type 0
IsAheadBy since first scan = first.moment * 1000 + since + since / 100 + 100000 < scan.moment * 1000

abbrev pub IsAhead : Submitted → Submitted → Type 0
IsAhead first scan = IsAheadBy (scan.at - first.at) first scan

-- in an epoch before, or in the same one at a place before
abbrev pub IsBefore : Point → Point → Type 0
IsBefore one other = (one.epoch < other.epoch) ⊎ ((one.epoch ≡ other.epoch) × (one.place < other.place))

-- what was wrong first stays
abbrev pub first_of : Option Wrong → Option Wrong → Option Wrong
first_of None wrong = wrong
first_of (Some before) wrong = Some before
