-- Entries of what is seen, one after another, while the controller stays the same.
use Rattle.std.proofs.Common.{◌≡◌, ◌+◌, ◌<◌, ℕ, List, length, get_or, ap, ◌∙◌, arith}
use Rattle.il_model.specs.declared.program.Area.{Area}
use Rattle.il_model.specs.declared.program.Area.TheVariants as areas
use Rattle.il_model.specs.declared.program.Loc.TheVariants.{Word}
use Rattle.il_model.specs.CodedOperands.{loc_code}
use Rattle.ctl_debugger.specs.Owned.{Owned}
use Rattle.plc_figures.proofs.Chains.{equally}
use Rattle.plc_figures.proofs.Numbered.{more, more_at, texts_before}
use Rattle.plc_figures.specs.Texts.{IsAdded}
use Rattle.plc_values.specs.Values.{entry_json, shown_at}
use Rattle.plc_values.specs.declared.shown.Shown.{Shown}

-- behind the code of a word there are others
pub word_small : (a : Area) (n : ℕ) → n < 65536 → loc_code (Word a n) + 1 < 18446744073709551616
word_small areas.Input n lt = omega (arith, lt)
word_small areas.Output n lt = omega (arith, lt)
word_small areas.Memory n lt = omega (arith, lt)

-- the entry of a slot, by an equal name and an equal slot
pub entry_of : (o : Owned) (k : ℕ) {name name' : List ℕ} {shown : Shown} {n m : ℕ} → name ≡ name' → shown ≡ shown_at o n → n ≡ m → entry_json k name shown ≡ entry_json k name' (shown_at o m)
entry_of o k {name} {name'} {shown} {n} {m} same is at = ap (λ (t : List ℕ). entry_json k t shown) same ∙ ap (entry_json k name') (is ∙ ap (shown_at o) at)

-- the same, by what is seen
pub entry_by : (k : ℕ) {name name' : List ℕ} {shown shown' : Shown} → name ≡ name' → shown ≡ shown' → entry_json k name shown ≡ entry_json k name' shown'
entry_by k {name} {name'} {shown} {shown'} same is = ap (λ (t : List ℕ). entry_json k t shown) same ∙ ap (entry_json k name') is

-- the text of one item more, told of an equal controller
pub more_of : {X : Type 0} (text : Owned → ℕ × X → List ℕ) (o o' : Owned) (xs : List X) (i : ℕ) (x : X) {first out new : List ℕ} → i < length xs → x ≡ get_or xs i x → o' ≡ o → IsAdded first (texts_before (text o) xs i) out → IsAdded out (text o' (i, x)) new → IsAdded first (texts_before (text o) xs (i + 1)) new
more_of text o o' xs i x lt at same before added = more_at (text o) xs i x lt at before (equally (ap (λ (p : Owned). text p (i, x)) same) added)

-- the same of an item that was taken with a value that stands for one that isn't there
pub more_by : {X : Type 0} (text : Owned → ℕ × X → List ℕ) (o o' : Owned) (xs : List X) (i : ℕ) (d : X) {first out new : List ℕ} → i < length xs → o' ≡ o → IsAdded first (texts_before (text o) xs i) out → IsAdded out (text o' (i, get_or xs i d)) new → IsAdded first (texts_before (text o) xs (i + 1)) new
more_by text o o' xs i d lt same before added = more (text o) xs i d lt before (equally (ap (λ (p : Owned). text p (i, get_or xs i d)) same) added)
