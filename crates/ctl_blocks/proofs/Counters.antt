use Rattle.std.proofs.Common.{◌≡◌, ℕ, true, false, List, refl}
use Rattle.std.specs.Prelude.{◌^◌, slice_index}
use Rattle.il_values.specs.Values.{is_within}
use Rattle.ctl_blocks.specs.declared.counter.CounterState.{CounterState}
use Rattle.ctl_blocks.specs.declared.counter.CtudState.{CtudState}
use Rattle.ctl_blocks.specs.Words.{has_bit, high_of, low_of, int_or_zero}
use Rattle.ctl_blocks.specs.Counters.{counter_words, ctud_words, fits_counter, fits_ctud}
use Rattle.ctl_blocks.proofs.Logic.{and_yes}
use Rattle.ctl_blocks.proofs.SavedWords.{bits_back, ints_back}

-- what stands in the words of a state
abbrev pub counter_in : List ℕ → CounterState
counter_in ws = record { called = has_bit (slice_index ws 0) 1; q = has_bit (slice_index ws 0) 2; last = has_bit (slice_index ws 0) 4; cv = int_or_zero (low_of (slice_index ws 1)); pv = int_or_zero (high_of (slice_index ws 1)) }

abbrev pub ctud_in : List ℕ → CtudState
ctud_in ws = record { called = has_bit (slice_index ws 0) 1; qu = has_bit (slice_index ws 0) 2; qd = has_bit (slice_index ws 0) 4; last_up = has_bit (slice_index ws 0) 8; last_down = has_bit (slice_index ws 0) 16; cv = int_or_zero (low_of (slice_index ws 1)); pv = int_or_zero (high_of (slice_index ws 1)) }

pub counter_back : (s : CounterState) → fits_counter s ≡ true → counter_in (counter_words s) ≡ s
counter_back s h =
    let fit = and_yes (is_within (2 ^ 15) s.cv) (is_within (2 ^ 15) s.pv) h in
    let f = bits_back s.called s.q s.last false false in
    let n = ints_back s.pv s.cv fit.1 fit.0 in
    rw (f.0, f.1, f.2, n.0, n.1) refl

pub ctud_back : (s : CtudState) → fits_ctud s ≡ true → ctud_in (ctud_words s) ≡ s
ctud_back s h =
    let fit = and_yes (is_within (2 ^ 15) s.cv) (is_within (2 ^ 15) s.pv) h in
    let f = bits_back s.called s.qu s.qd s.last_up s.last_down in
    let n = ints_back s.pv s.cv fit.1 fit.0 in
    rw (f.0, f.1, f.2, f.3, f.4, n.0, n.1) refl
