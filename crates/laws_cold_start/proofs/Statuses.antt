-- Statuses of a replica.
use Rattle.std.proofs.Common.{◌≡◌, true, false, refl, ◌⊎◌, inl, inr}
use Rattle.vr_model.specs.Replicas.{Status, Normal, ViewChange, Recovering, Down, is_normal, is_view_change, is_recovering, takes_part, is_down}

pub only_recovering : (s : Status) → is_recovering s ≡ true → s ≡ Recovering
only_recovering Normal e = absurd cc
only_recovering ViewChange e = absurd cc
only_recovering Recovering e = refl
only_recovering Down e = absurd cc

pub recovers_not_down : (s : Status) → takes_part s ≡ false → is_down s ≡ false → is_recovering s ≡ true
recovers_not_down Normal a b = absurd cc
recovers_not_down ViewChange a b = absurd cc
recovers_not_down Recovering a b = refl
recovers_not_down Down a b = absurd cc

pub not_down : (s : Status) → is_down s ≡ false → (takes_part s ≡ true) ⊎ (is_recovering s ≡ true)
not_down Normal e = inl refl
not_down ViewChange e = inl refl
not_down Recovering e = inr refl
not_down Down e = absurd cc

pub part_or_recovering : (s : Status) → takes_part s ≡ true → is_recovering s ≡ true → ⊥
part_or_recovering Normal a b = absurd cc
part_or_recovering ViewChange a b = absurd cc
part_or_recovering Recovering a b = absurd cc
part_or_recovering Down a b = absurd cc

pub normal_or_recovering : (s : Status) → is_normal s ≡ true → is_recovering s ≡ true → ⊥
normal_or_recovering Normal a b = absurd cc
normal_or_recovering ViewChange a b = absurd cc
normal_or_recovering Recovering a b = absurd cc
normal_or_recovering Down a b = absurd cc

pub normal_or_late : (s : Status) → is_normal s ≡ true → is_view_change s ≡ true → ⊥
normal_or_late Normal a b = absurd cc
normal_or_late ViewChange a b = absurd cc
normal_or_late Recovering a b = absurd cc
normal_or_late Down a b = absurd cc

pub normal_is_part : (s : Status) → is_normal s ≡ true → takes_part s ≡ true
normal_is_part Normal a = refl
normal_is_part ViewChange a = absurd cc
normal_is_part Recovering a = absurd cc
normal_is_part Down a = absurd cc
