-- The bistable blocks SR and RS (IEC 61131-3:2003, 2.5.2.3.1).
use Rattle.std.specs.Prelude.{ℕ, Bool, true, false, not, ◌&&◌, ◌||◌, List, [], ◌∷◌, pos}
use Rattle.ctl_blocks.specs.Words.{saved_words}
use Rattle.ctl_blocks.specs.declared.bistable.BistableState.{BistableState}
use Rattle.ctl_blocks.specs.declared.bistable.BistableOut.{BistableOut}
use Rattle.ctl_blocks.specs.declared.bistable.SrIn.{SrIn}
use Rattle.ctl_blocks.specs.declared.bistable.RsIn.{RsIn}

abbrev pub cold_bistable : BistableState
cold_bistable = record { called = false; q1 = false }

-- setting wins
abbrev pub sr_after : BistableState → SrIn → BistableState
sr_after s i = record { called = true; q1 = i.s1 || (not i.r && s.q1) }

-- resetting wins
abbrev pub rs_after : BistableState → RsIn → BistableState
rs_after s i = record { called = true; q1 = not i.r1 && (i.s || s.q1) }

abbrev pub bistable_outs : BistableState → BistableOut
bistable_outs s = record { q1 = s.q1 }

-- Q1 may be anything once called; before that it is FALSE
abbrev pub is_bistable : BistableState → Bool
is_bistable s = s.called || not s.q1

abbrev pub bistable_words : BistableState → List ℕ
bistable_words s = saved_words (s.called ∷ s.q1 ∷ []) (pos 0) (pos 0) 0
