use Rattle.std.proofs.Common.{◌≡◌, ℕ, ◌+◌, ◌-◌, ◌<◌, ◌≤◌, Bool, true, false, List, refl, arith, cond}
use Rattle.std.specs.Prelude.{ℤ, pos, ◌&&◌, ◌||◌, ◌^◌, not, nat_lt, nat_eq, slice_index}
use Rattle.std.proofs.lemmas.Bool.{ltb-true, lt-ltb, le-leb}
use Rattle.std.proofs.Math.Nat.{min-le_left, min-le_right}
use Rattle.il_values.specs.Values.{is_within}
use Rattle.ctl_blocks.specs.declared.timer.TimerState.{TimerState}
use Rattle.ctl_blocks.specs.Words.{has_bit, high_of, low_of}
use Rattle.ctl_blocks.specs.Timers.{milliseconds, elapsed_time, resting_timer, running_pulse, pulse_after, is_up_to, fits_timer, tp_holds, timer_words}
use Rattle.ctl_blocks.proofs.SavedWords.{bits_back, low_back, high_back}
use Rattle.ctl_blocks.proofs.Logic.{and_yes, same_self}

fits : (start now e : ℕ) → start < 18446744073709551616 → now < 18446744073709551616 → e ≤ now - start → start + e < 18446744073709551616
fits start now e s n le = omega arith

-- the elapsed time is at most the timer's, and its end is a moment
elapsed_time-fits : (pt : ℤ) (start now : ℕ) → start < 18446744073709551616 → now < 18446744073709551616 →
    (is_up_to (milliseconds pt) (pos (elapsed_time pt start now)) ≡ true) × (nat_lt (start + elapsed_time pt start now) 18446744073709551616 ≡ true)
elapsed_time-fits pt start now s n =
    let a = min-le_left (now - start) (milliseconds pt) in
    let b = min-le_right (now - start) (milliseconds pt) in (
      le-leb (elapsed_time pt start now) (milliseconds pt) b,
      lt-ltb (start + elapsed_time pt start now) 18446744073709551616 (fits start now (elapsed_time pt start now) s n a),
    )

not_both : (a b : Bool) → (a && not b) ≡ false → (not a || b) ≡ true
not_both true true e = refl
not_both true false e = absurd cc
not_both false b e = refl

tp_by : (b input : Bool) (pt : ℤ) (start now : ℕ) → (nat_eq (elapsed_time pt start now) (milliseconds pt) && not input) ≡ b → start < 18446744073709551616 → now < 18446744073709551616 → tp_holds (cond b (resting_timer false false pt) (running_pulse input pt start now)) ≡ true
tp_by true input pt start now e s n = refl
tp_by false input pt start now e s n =
    let f = elapsed_time-fits pt start now s n in
    rw (f.0, f.1, same_self (nat_lt (elapsed_time pt start now) (milliseconds pt)), not_both (nat_eq (elapsed_time pt start now) (milliseconds pt)) input e) refl

pub tp_runs : (input : Bool) (pt : ℤ) (start now : ℕ) → start < 18446744073709551616 → now < 18446744073709551616 → tp_holds (pulse_after input pt start now) ≡ true
tp_runs input pt start now s n = tp_by (nat_eq (elapsed_time pt start now) (milliseconds pt) && not input) input pt start now refl s n

pub start-fits : (s : TimerState) → fits_timer s ≡ true → s.start < 18446744073709551616
start-fits s f = ltb-true s.start 18446744073709551616 (and_yes (is_within (2 ^ 31) s.et && is_within (2 ^ 31) s.pt) (nat_lt s.start (2 ^ 64)) f).1

-- what stands in the words of a state
abbrev pub timer_in : List ℕ → TimerState
timer_in ws = record { called = has_bit (slice_index ws 0) 1; q = has_bit (slice_index ws 0) 2; last = has_bit (slice_index ws 0) 4; run = has_bit (slice_index ws 0) 8; et = low_of (slice_index ws 1); pt = high_of (slice_index ws 1); start = slice_index ws 2 }

pub timer_back : (s : TimerState) → fits_timer s ≡ true → timer_in (timer_words s) ≡ s
timer_back s h =
    let fit = and_yes (is_within (2 ^ 31) s.et) (is_within (2 ^ 31) s.pt) (and_yes (is_within (2 ^ 31) s.et && is_within (2 ^ 31) s.pt) (nat_lt s.start (2 ^ 64)) h).0 in
    let f = bits_back s.called s.q s.last s.run false in
    rw (f.0, f.1, f.2, f.3, low_back s.pt s.et fit.0, high_back s.pt s.et fit.1 fit.0) refl
