-- The words of lawful blocks are states.
use Rattle.std.proofs.Common.{◌≡◌, List, [], ◌∷◌, map, sym, ap}
use Rattle.il_model.specs.Snapshots.{SavedBlock}
use Rattle.ctl_model.specs.State.{BlockInstance}
use Rattle.ctl_model.specs.Snapshots.{saved_instance}
use Rattle.ctl_scan.specs.Kept.{AreLawful, HasNoState, Here, Later}

head_same : {A : Type 0} (x y : A) (xs ys : List A) → x ∷ xs ≡ y ∷ ys → x ≡ y
head_same x y xs ys e = cc

tail_same : {A : Type 0} (x y : A) (xs ys : List A) → x ∷ xs ≡ y ∷ ys → xs ≡ ys
tail_same x y xs ys e = cc

nothing : (x : SavedBlock) (xs : List SavedBlock) → x ∷ xs ≡ [] → ⊥
nothing x xs e = cc

-- words that are those of lawful blocks are states
pub states : (ys : List BlockInstance) (xs : List SavedBlock) → xs ≡ map saved_instance ys → AreLawful ys → HasNoState xs → ⊥
states [] xs e l (Here x more h) = nothing x more e
states [] xs e l (Later x more h) = nothing x more e
states (y ∷ ys) xs e l (Here x more h) =
    let is = head_same x (saved_instance y) more (map saved_instance ys) e in
    h y.block l.0 (sym (ap (λ (s : SavedBlock). s.kind) is)) (sym (ap (λ (s : SavedBlock). s.words) is))
states (y ∷ ys) xs e l (Later x more h) = states ys more (tail_same x (saved_instance y) more (map saved_instance ys) e) l.1 h
