use Rattle.std.proofs.Common.{◌≡◌, ℕ, false, List, refl}
use Rattle.std.specs.Prelude.{slice_index}
use Rattle.ctl_blocks.specs.declared.bistable.BistableState.{BistableState}
use Rattle.ctl_blocks.specs.Words.{has_bit}
use Rattle.ctl_blocks.specs.Bistables.{bistable_words}
use Rattle.ctl_blocks.proofs.SavedWords.{bits_back}

-- what stands in the words of a state
abbrev pub bistable_in : List ℕ → BistableState
bistable_in ws = record { called = has_bit (slice_index ws 0) 1; q1 = has_bit (slice_index ws 0) 2 }

pub bistable_back : (s : BistableState) → bistable_in (bistable_words s) ≡ s
bistable_back s = let f = bits_back s.called s.q1 false false false in rw (f.0, f.1) refl
