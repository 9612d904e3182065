use Rattle.std.proofs.Common.{inl, inr}
use Rattle.il_places.proofs.locating.refused.Goals as goal

pub unread-requires : goal.unread-requires
unread-requires c = elim c.requires [ inl first ↦ first | inr memory ↦ absurd (c.in_default.not-Memory memory) ]
