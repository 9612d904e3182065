-- The edge detectors R_TRIG and F_TRIG (IEC 61131-3:2003, 2.5.2.3.2).
-- A first call of F_TRIG with CLK FALSE is an edge, since M is FALSE before it.
use Rattle.std.specs.Prelude.{ℕ, Bool, true, false, not, ◌&&◌, ◌||◌, List, [], ◌∷◌, pos, if◌then◌else◌}
use Rattle.ctl_blocks.specs.Words.{saved_words}
use Rattle.ctl_blocks.specs.declared.edge.EdgeState.{EdgeState}
use Rattle.ctl_blocks.specs.declared.edge.EdgeIn.{EdgeIn}
use Rattle.ctl_blocks.specs.declared.edge.EdgeOut.{EdgeOut}

abbrev pub cold_edge : EdgeState
cold_edge = record { called = false; q = false; m = false }

-- M keeps CLK
abbrev pub r_trig_after : EdgeState → EdgeIn → EdgeState
r_trig_after s i = record { called = true; q = i.clk && not s.m; m = i.clk }

-- M keeps NOT CLK
abbrev pub f_trig_after : EdgeState → EdgeIn → EdgeState
f_trig_after s i = record { called = true; q = not i.clk && not s.m; m = not i.clk }

abbrev pub edge_outs : EdgeState → EdgeOut
edge_outs s = record { q = s.q }

-- Q only with M; before the first call both are FALSE
abbrev pub is_edge : EdgeState → Bool
is_edge s = if s.called then not s.q || s.m else not s.q && not s.m

abbrev pub edge_words : EdgeState → List ℕ
edge_words s = saved_words (s.called ∷ s.q ∷ s.m ∷ []) (pos 0) (pos 0) 0
