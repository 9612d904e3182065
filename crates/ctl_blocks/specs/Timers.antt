-- The timers TP, TON and TOF (IEC 61131-3:2003, 2.5.2.3.4), at discrete moments: a timer changes when it is called,
-- and a call knows the moment of its scan. That is this project's own. Moments and times are natural numbers of ms.
-- An edge is IN that is TRUE and was FALSE at the last call, a fall is IN that is FALSE and was TRUE.
use Rattle.std.specs.Prelude.{ℕ, ◌+◌, ◌-◌, ◌^◌, min, Bool, true, false, not, ◌&&◌, ◌||◌, List, [], ◌∷◌, ℤ, pos, negsuc}
use Rattle.std.specs.Prelude.{nat_le, nat_lt, nat_eq, if◌then◌else◌}
use Rattle.il_values.specs.Values.{is_within}
use Rattle.il_values.specs.Operators.{same_truth}
use Rattle.ctl_blocks.specs.Words.{saved_words, is_zero}
use Rattle.ctl_blocks.specs.declared.timer.TimerState.{TimerState}
use Rattle.ctl_blocks.specs.declared.timer.TimerIn.{TimerIn}
use Rattle.ctl_blocks.specs.declared.timer.TimerOut.{TimerOut}

-- a time as a natural number of ms: one below 0 counts as 0
abbrev pub milliseconds : ℤ → ℕ
milliseconds (pos n) = n
milliseconds (negsuc n) = 0

-- how long a timer has run, at most its preset time; 0 where now is below start
abbrev pub elapsed_time : ℤ → ℕ → ℕ → ℕ
elapsed_time pt start now = min (now - start) (milliseconds pt)

abbrev pub cold_timer : TimerState
cold_timer = record { called = false; q = false; last = false; run = false; et = pos 0; pt = pos 0; start = 0 }

-- a timer that doesn't run
abbrev pub resting_timer : Bool → Bool → ℤ → TimerState
resting_timer q input pt = record { called = true; q = q; last = input; run = false; et = pos 0; pt = pt; start = 0 }

-- an on-delay that runs: Q once the time is over
abbrev pub running_delay : ℤ → ℕ → ℕ → TimerState
running_delay pt start now =
    record {
      called = true;
      q = nat_le (milliseconds pt) (elapsed_time pt start now);
      last = true;
      run = true;
      et = pos (elapsed_time pt start now);
      pt = pt;
      start = start;
    }

-- a pulse or an off-delay that runs: Q until the time is over
abbrev pub running_pulse : Bool → ℤ → ℕ → ℕ → TimerState
running_pulse input pt start now =
    record {
      called = true;
      q = nat_lt (elapsed_time pt start now) (milliseconds pt);
      last = input;
      run = true;
      et = pos (elapsed_time pt start now);
      pt = pt;
      start = start;
    }

-- it runs while IN is TRUE, from the edge on
abbrev pub ton_after : TimerState → TimerIn → ℕ → TimerState
ton_after s i now = if i.input then running_delay i.pt (if s.last then s.start else now) now
    else resting_timer false false i.pt

-- it runs while IN is FALSE, from the fall on
abbrev pub tof_after : TimerState → TimerIn → ℕ → TimerState
tof_after s i now =
    if i.input then resting_timer true true i.pt
    else (if s.last then running_pulse false i.pt now now
    else (if s.run then running_pulse false i.pt s.start now else resting_timer false false i.pt))

-- a pulse that runs ends once its time is over and IN is FALSE
abbrev pub pulse_after : Bool → ℤ → ℕ → ℕ → TimerState
pulse_after input pt start now = if nat_eq (elapsed_time pt start now) (milliseconds pt) && not input
    then resting_timer false false pt else running_pulse input pt start now

-- an edge starts it, unless it runs
abbrev pub tp_after : TimerState → TimerIn → ℕ → TimerState
tp_after s i now =
    if s.run then pulse_after i.input i.pt s.start now
    else (if i.input && not s.last then pulse_after true i.pt now now else resting_timer false i.input i.pt)

abbrev pub timer_outs : TimerState → TimerOut
timer_outs s = record { q = s.q; et = s.et }

-- ET and PT are numbers of TIME, and the start is a moment of 64 bits
abbrev pub fits_timer : TimerState → Bool
fits_timer s = is_within (2 ^ 31) s.et && is_within (2 ^ 31) s.pt && nat_lt s.start (2 ^ 64)

-- 0 <= time <= limit
abbrev pub is_up_to : ℕ → ℤ → Bool
is_up_to limit (pos n) = nat_le n limit
is_up_to limit (negsuc n) = false

abbrev pub is_cold_timer : TimerState → Bool
is_cold_timer s = not s.q && not s.last && not s.run && is_zero s.et && is_zero s.pt && nat_eq s.start 0

-- with run: 0 <= ET <= PT, and start + ET is a moment of 64 bits
abbrev pub is_running : TimerState → Bool
is_running s = is_up_to (milliseconds s.pt) s.et && nat_lt (s.start + milliseconds s.et) (2 ^ 64)

-- without run: both are 0
abbrev pub is_resting : TimerState → Bool
is_resting s = is_zero s.et && nat_eq s.start 0

-- before the first call a timer is cold
abbrev pub ton_holds : TimerState → Bool
ton_holds s =
    if not s.called then is_cold_timer s
    else (if s.run then is_running s && s.last && same_truth s.q (nat_le (milliseconds s.pt) (milliseconds s.et))
    else is_resting s && not s.last && not s.q)

abbrev pub tof_holds : TimerState → Bool
tof_holds s =
    if not s.called then is_cold_timer s
    else (if s.run then is_running s && not s.last && same_truth s.q (nat_lt (milliseconds s.et) (milliseconds s.pt))
    else is_resting s && same_truth s.q s.last)

abbrev pub tp_holds : TimerState → Bool
tp_holds s =
    if not s.called then is_cold_timer s
    else (if s.run then is_running s && same_truth s.q (nat_lt (milliseconds s.et) (milliseconds s.pt))
    && (not (nat_eq (milliseconds s.et) (milliseconds s.pt)) || s.last)
    else is_resting s && not s.last && not s.q)

abbrev pub timer_words : TimerState → List ℕ
timer_words s = saved_words (s.called ∷ s.q ∷ s.last ∷ s.run ∷ []) s.pt s.et s.start
