use Rattle.std.proofs.Common.{inl, inr}
use Rattle.laws_threads.proofs.killed_files_hold_either.Goals as goal

pub returns-clause-views : goal.returns-clause-views
returns-clause-views g = λ before behind left k either here there v may. elim (either v may.1) [
  | inl one ↦ here v (may.0, one)
  | inr one ↦ there v (may.0, one)
]

pub returns-clause-counts : goal.returns-clause-counts
returns-clause-counts g = λ before behind left counted either here there v one. elim (either v one) [
  | inl it ↦ here v it
  | inr it ↦ there v it
]
