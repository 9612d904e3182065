-- A lawful instance is known by what a snapshot has of it, as a block is by its kind and its words.
use Rattle.std.proofs.Common.{◌≡◌, true, List, [], ◌∷◌, map, refl, ap, ◌∙◌}
use Rattle.il_values.specs.declared.value.Value.{Value}
use Rattle.il_model.specs.Snapshots.{SavedBlock}
use Rattle.ctl_blocks.specs.declared.block.Block.{Block}
use Rattle.ctl_blocks.specs.Blocks.{is_block, IsKnown}
use Rattle.ctl_model.specs.State.{BlockInstance}
use Rattle.ctl_model.specs.Snapshots.{saved_instance, AreKnown}

instance_same : ((a b : Block) → IsKnown a b) → (x y : BlockInstance) → is_block x.block ≡ true → is_block y.block ≡ true → saved_instance x ≡ saved_instance y → x ≡ y
instance_same known x y lx ly e =
    let inputs : x.inputs ≡ y.inputs = ap (λ (s : SavedBlock). s.inputs) e in
    let block : x.block ≡ y.block = known x.block y.block lx ly (ap (λ (s : SavedBlock). s.kind) e) (ap (λ (s : SavedBlock). s.words) e) in
    ap (λ (vs : List Value). let i : BlockInstance = record { inputs = vs; block = x.block } in i) inputs
    ∙ ap (λ (b : Block). let i : BlockInstance = record { inputs = y.inputs; block = b } in i) block

head_same : {A : Type 0} (x y : A) (xs ys : List A) → x ∷ xs ≡ y ∷ ys → x ≡ y
head_same x y xs ys e = cc

tail_same : {A : Type 0} (x y : A) (xs ys : List A) → x ∷ xs ≡ y ∷ ys → xs ≡ ys
tail_same x y xs ys e = cc

pub instances_same : ((a b : Block) → IsKnown a b) → (xs ys : List BlockInstance) → AreKnown xs ys
instances_same known [] [] lx ly e = refl
instances_same known [] (y ∷ ys) lx ly e = absurd cc
instances_same known (x ∷ xs) [] lx ly e = absurd cc
instances_same known (x ∷ xs) (y ∷ ys) lx ly e =
    ap (λ (z : BlockInstance). z ∷ xs) (instance_same known x y lx.0 ly.0 (head_same (saved_instance x) (saved_instance y) (map saved_instance xs) (map saved_instance ys) e))
    ∙ ap (λ zs. y ∷ zs) (instances_same known xs ys lx.1 ly.1 (tail_same (saved_instance x) (saved_instance y) (map saved_instance xs) (map saved_instance ys) e))
