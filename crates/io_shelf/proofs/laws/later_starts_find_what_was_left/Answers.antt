use Rattle.std.proofs.Common.{[], ◌∷◌, inl, inr, ⊎_elim}
use Rattle.io_shelf.proofs.Lives.{left_all}
use Rattle.io_shelf.proofs.laws.later_starts_find_what_was_left.Goals as goal

pub returns-clause-between : goal.returns-clause-between
returns-clause-between g c = λ found deeds opened done knows did d left. left_all g.S.Shelf.may_leave deeds (found ∷ []) opened done (λ e at. inl (knows e at)) did d left

pub returns-clause-within : goal.returns-clause-within
returns-clause-within g c = λ found next deeds opened done end knows did changes d left.
    ⊎_elim (λ old. inr (left_all g.S.Shelf.may_leave deeds (found ∷ []) opened done (λ e at. inl (knows e at)) did d old)) (λ is. inl is) (changes d left)
