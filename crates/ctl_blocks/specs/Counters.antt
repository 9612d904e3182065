-- The counters CTU, CTD and CTUD (IEC 61131-3:2003, 2.5.2.3.3). Numbers are whole numbers without bounds.
-- An edge is an input that is TRUE and was FALSE at the last call; what it was is kept at each call, whatever wins.
use Rattle.std.specs.Prelude.{ℕ, Bool, true, false, not, ◌&&◌, List, [], ◌∷◌, ℤ, pos, negsuc, ◌+ℤ◌, ◌-ℤ◌, ◌^◌}
use Rattle.std.specs.Prelude.{if◌then◌else◌}
use Rattle.std.specs.Int.Signed.{lt_z}
use Rattle.il_values.specs.Values.{is_within}
use Rattle.il_values.specs.Operators.{same_truth}
use Rattle.ctl_blocks.specs.Words.{saved_words, is_zero}
use Rattle.ctl_blocks.specs.declared.counter.CounterState.{CounterState}
use Rattle.ctl_blocks.specs.declared.counter.CounterOut.{CounterOut}
use Rattle.ctl_blocks.specs.declared.counter.CtuIn.{CtuIn}
use Rattle.ctl_blocks.specs.declared.counter.CtdIn.{CtdIn}
use Rattle.ctl_blocks.specs.declared.counter.CtudState.{CtudState}
use Rattle.ctl_blocks.specs.declared.counter.CtudIn.{CtudIn}
use Rattle.ctl_blocks.specs.declared.counter.CtudOut.{CtudOut}

abbrev pub cold_counter : CounterState
cold_counter = record { called = false; q = false; last = false; cv = pos 0; pv = pos 0 }

abbrev pub cold_ctud : CtudState
cold_ctud = record {
  called = false;
  qu = false;
  qd = false;
  last_up = false;
  last_down = false;
  cv = pos 0;
  pv = pos 0;
}

-- one more below the greatest INT, one less above the least
abbrev pub one_up : ℤ → ℤ
one_up cv = if lt_z cv (pos 32767) then cv +ℤ pos 1 else cv

abbrev pub one_down : ℤ → ℤ
one_down cv = if lt_z (negsuc 32767) cv then cv -ℤ pos 1 else cv

-- CV >= PV
abbrev pub is_full : ℤ → ℤ → Bool
is_full cv pv = not (lt_z cv pv)

-- CV <= 0
abbrev pub is_empty : ℤ → Bool
is_empty cv = not (lt_z (pos 0) cv)

-- R wins over an edge of CU
abbrev pub ctu_count : CounterState → CtuIn → ℤ
ctu_count s i = if i.r then pos 0 else (if i.cu && not s.last then one_up s.cv else s.cv)

abbrev pub ctu_after : CounterState → CtuIn → CounterState
ctu_after s i = record { called = true; q = is_full (ctu_count s i) i.pv; last = i.cu; cv = ctu_count s i; pv = i.pv }

-- LD wins over an edge of CD
abbrev pub ctd_count : CounterState → CtdIn → ℤ
ctd_count s i = if i.ld then i.pv else (if i.cd && not s.last then one_down s.cv else s.cv)

abbrev pub ctd_after : CounterState → CtdIn → CounterState
ctd_after s i = record { called = true; q = is_empty (ctd_count s i); last = i.cd; cv = ctd_count s i; pv = i.pv }

-- the count after an edge of CU, of CD, of both, of neither
abbrev pub moved_count : Bool → Bool → ℤ → ℤ
moved_count true true cv = cv
moved_count true false cv = one_up cv
moved_count false true cv = one_down cv
moved_count false false cv = cv

-- R wins over LD, and LD over edges
abbrev pub ctud_count : CtudState → CtudIn → ℤ
ctud_count s i = if i.r then pos 0
    else (if i.ld then i.pv else moved_count (i.cu && not s.last_up) (i.cd && not s.last_down) s.cv)

abbrev pub ctud_after : CtudState → CtudIn → CtudState
ctud_after s i = record {
  called = true;
  qu = is_full (ctud_count s i) i.pv;
  qd = is_empty (ctud_count s i);
  last_up = i.cu;
  last_down = i.cd;
  cv = ctud_count s i;
  pv = i.pv;
}

abbrev pub counter_outs : CounterState → CounterOut
counter_outs s = record { q = s.q; cv = s.cv }

abbrev pub ctud_outs : CtudState → CtudOut
ctud_outs s = record { qu = s.qu; qd = s.qd; cv = s.cv }

abbrev pub is_cold_counter : CounterState → Bool
is_cold_counter s = not s.q && not s.last && is_zero s.cv && is_zero s.pv

abbrev pub is_cold_ctud : CtudState → Bool
is_cold_ctud s = not s.qu && not s.qd && not s.last_up && not s.last_down && is_zero s.cv && is_zero s.pv

-- CV and PV are numbers of INT
abbrev pub fits_counter : CounterState → Bool
fits_counter s = is_within (2 ^ 15) s.cv && is_within (2 ^ 15) s.pv

abbrev pub fits_ctud : CtudState → Bool
fits_ctud s = is_within (2 ^ 15) s.cv && is_within (2 ^ 15) s.pv

-- Once called, Q is what the counts give, and CTU never counts below 0; before that it is cold.
abbrev pub ctu_holds : CounterState → Bool
ctu_holds s = if s.called then same_truth s.q (is_full s.cv s.pv) && not (lt_z s.cv (pos 0)) else is_cold_counter s

abbrev pub ctd_holds : CounterState → Bool
ctd_holds s = if s.called then same_truth s.q (is_empty s.cv) else is_cold_counter s

abbrev pub ctud_holds : CtudState → Bool
ctud_holds s = if s.called then same_truth s.qu (is_full s.cv s.pv) && same_truth s.qd (is_empty s.cv)
    else is_cold_ctud s

abbrev pub counter_words : CounterState → List ℕ
counter_words s = saved_words (s.called ∷ s.q ∷ s.last ∷ []) s.pv s.cv 0

abbrev pub ctud_words : CtudState → List ℕ
ctud_words s = saved_words (s.called ∷ s.qu ∷ s.qd ∷ s.last_up ∷ s.last_down ∷ []) s.pv s.cv 0
