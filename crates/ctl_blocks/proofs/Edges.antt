use Rattle.std.proofs.Common.{◌≡◌, ℕ, false, List, refl}
use Rattle.std.specs.Prelude.{slice_index}
use Rattle.ctl_blocks.specs.declared.edge.EdgeState.{EdgeState}
use Rattle.ctl_blocks.specs.Words.{has_bit}
use Rattle.ctl_blocks.specs.Edges.{edge_words}
use Rattle.ctl_blocks.proofs.SavedWords.{bits_back}

-- what stands in the words of a state
abbrev pub edge_in : List ℕ → EdgeState
edge_in ws = record { called = has_bit (slice_index ws 0) 1; q = has_bit (slice_index ws 0) 2; m = has_bit (slice_index ws 0) 4 }

pub edge_back : (s : EdgeState) → edge_in (edge_words s) ≡ s
edge_back s = let f = bits_back s.called s.q s.m false false in rw (f.0, f.1, f.2) refl
