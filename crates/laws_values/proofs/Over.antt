-- Forces laid over the outputs one by one, and at once.
use Rattle.std.proofs.Common.{◌≡◌, ℕ, zero, suc, ◌+◌, ◌-◌, ◌<◌, ◌≤◌, Bool, List, [], ◌∷◌, ◌++◌, length, Option, Some, None, refl, sym, ap, ◌∙◌, arith, append_assoc}
use Rattle.std.specs.Prelude.{ℤ, fold, slice_set}
use Rattle.std.proofs.lemmas.List.{length-append}
use Rattle.std.proofs.lemmas.List.Sums.{fold-append}
use Rattle.il_values.specs.declared.value.Value.{Value}
use Rattle.il_values.specs.declared.value.Value.TheVariants as values
use Rattle.il_model.specs.declared.cells.Cells.{Cells}
use Rattle.il_model.specs.declared.program.Area.TheVariants as areas
use Rattle.il_model.specs.declared.program.Loc.TheVariants.{Word}
use Rattle.il_model.specs.declared.snapshot.ForcedSlot.{ForcedSlot}
use Rattle.il_model.specs.CodedOperands.{area_loc}
use Rattle.ctl_model.specs.declared.forces.Forces.{Forces}
use Rattle.ctl_model.specs.Forces.{overlay, with_forces}
use Rattle.ctl_model.specs.Snapshots.{forced_slots}
use Rattle.ctl_model.proofs.ForcedSlots.{slot_as, listed, bits_listed, words_listed, bit_there, word_there, input_there, output_there}
use Rattle.ctl_scan.specs.Kept.{AreMasks}
use Rattle.plc_values.specs.Values.{laid, laid_at}

-- ---- a list of cells

set_past : {A : Type 0} (xs : List A) (k : ℕ) (a : A) → length xs ≤ k → slice_set xs k a ≡ xs
set_past [] zero a le = refl
set_past [] (suc k) a le = refl
set_past (x ∷ xs) zero a le = absurd (omega (arith, le))
set_past (x ∷ xs) (suc k) a le = ap (λ ys. x ∷ ys) (set_past xs k a (omega (arith, le)))

set_there : {A : Type 0} (front : List A) (x a : A) (rest : List A) (k : ℕ) → length front ≡ k → slice_set (front ++ x ∷ rest) k a ≡ front ++ a ∷ rest
set_there [] x a rest zero e = refl
set_there [] x a rest (suc k) e = absurd (omega (arith, e))
set_there (y ∷ front) x a rest zero e = absurd (omega (arith, e))
set_there (y ∷ front) x a rest (suc k) e = ap (λ ys. y ∷ ys) (set_there front x a rest k (omega (arith, e)))

one_more : {A : Type 0} (front : List A) (x : A) (k : ℕ) → length front ≡ k → length (front ++ x ∷ []) ≡ suc k
one_more front x k e = omega (arith, length-append front (x ∷ []), e)

-- ---- one mask

-- a force of the cell with number k, at the slot that stands so far behind the base, sets this cell of a list
abbrev Sets : {A : Type 0} → (A → Value) → ℕ → ℕ → (List A → Cells) → Type 0
Sets {A} g base size put = (xs : List A) (k n : ℕ) (a : A) → n ≡ base + k → k < size → laid (put xs) (slot_as n (g a)) ≡ put (slice_set xs k a)

over_past : {A : Type 0} (g : A → Value) (base size : ℕ) (put : List A → Cells) → Sets g base size put → (fs : List (Option A)) (xs : List A) (k n : ℕ) → length xs ≤ k → n ≡ base + k → k + length fs ≤ size → fold laid (put xs) (listed g n fs) ≡ put xs
over_past g base size put sets [] xs k n le e lt = refl
over_past g base size put sets (None ∷ fs) xs k n le e lt = over_past g base size put sets fs xs (suc k) (suc n) (omega (arith, le)) (omega (arith, e)) (omega (arith, lt))
over_past g base size put sets (Some a ∷ fs) xs k n le e lt =
    ap (λ c. fold laid c (listed g (suc n) fs)) (sets xs k n a e (omega (arith, lt)) ∙ ap put (set_past xs k a le))
    ∙ over_past g base size put sets fs xs (suc k) (suc n) (omega (arith, le)) (omega (arith, e)) (omega (arith, lt))

over : {A : Type 0} (g : A → Value) (base size : ℕ) (put : List A → Cells) → Sets g base size put → (fs : List (Option A)) (front rest : List A) (k n : ℕ) → length front ≡ k → n ≡ base + k → k + length fs ≤ size → fold laid (put (front ++ rest)) (listed g n fs) ≡ put (front ++ overlay fs rest)
over g base size put sets [] front rest k n is e lt = refl
over g base size put sets (f ∷ fs) front [] k n is e lt = over_past g base size put sets (f ∷ fs) (front ++ []) k n (omega (arith, length-append front [], is)) e lt
over g base size put sets (None ∷ fs) front (x ∷ rest) k n is e lt =
    ap (λ xs. fold laid (put xs) (listed g (suc n) fs)) (sym (append_assoc front (x ∷ []) rest))
    ∙ over g base size put sets fs (front ++ x ∷ []) rest (suc k) (suc n) (one_more front x k is) (omega (arith, e)) (omega (arith, lt))
    ∙ ap put (append_assoc front (x ∷ []) (overlay fs rest))
over g base size put sets (Some a ∷ fs) front (x ∷ rest) k n is e lt =
    ap (λ c. fold laid c (listed g (suc n) fs)) (sets (front ++ x ∷ rest) k n a e (omega (arith, lt)) ∙ ap put (set_there front x a rest k is ∙ sym (append_assoc front (a ∷ []) rest)))
    ∙ over g base size put sets fs (front ++ a ∷ []) rest (suc k) (suc n) (one_more front a k is) (omega (arith, e)) (omega (arith, lt))
    ∙ ap put (append_assoc front (a ∷ []) (overlay fs rest))

-- ---- the four masks

input_bit : (cells : Cells) → Sets values.Bool 0 512 (λ xs. cells)
input_bit cells xs k n b e lt = ap (λ loc. laid_at cells loc (values.Bool b)) (input_there n (omega (arith, e, lt)) ∙ bit_there areas.Input n (omega (arith, e, lt)))

input_word : (cells : Cells) → Sets values.Int 1024 64 (λ xs. cells)
input_word cells xs k n z e lt = ap (λ loc. laid_at cells loc (values.Int z)) (input_there n (omega (arith, e, lt)) ∙ word_there areas.Input n (omega (arith, e)) (omega (arith, e, lt)))

abbrev with_bits : Cells → List Bool → Cells
with_bits cells bits = record cells { bits = bits }

abbrev with_words : Cells → List ℤ → Cells
with_words cells words = record cells { words = words }

output_bit : (cells : Cells) → Sets values.Bool 4096 512 (with_bits cells)
output_bit cells xs k n b e lt =
    let is : n - 4096 ≡ k = omega (arith, e) in
    ap (λ loc. laid_at (with_bits cells xs) loc (values.Bool b)) (output_there n (omega (arith, e)) (omega (arith, e, lt)) ∙ ap (area_loc areas.Output) is ∙ bit_there areas.Output k lt)

output_word : (cells : Cells) → Sets values.Int 5120 64 (with_words cells)
output_word cells xs k n z e lt =
    let is : n - 4096 ≡ 1024 + k = omega (arith, e) in
    let at : (1024 + k) - 1024 ≡ k = omega arith in
    ap (λ loc. laid_at (with_words cells xs) loc (values.Int z)) (output_there n (omega (arith, e)) (omega (arith, e, lt)) ∙ ap (area_loc areas.Output) is ∙ word_there areas.Output (1024 + k) (omega arith) (omega (arith, lt)) ∙ ap (λ j. Some (Word areas.Output j)) at)

abbrev inputs_of : Forces → List ForcedSlot
inputs_of f = listed values.Bool 0 f.input.bits ++ listed values.Int 1024 f.input.words

abbrev outputs_of : Forces → List ForcedSlot
outputs_of f = listed values.Bool 4096 f.output.bits ++ listed values.Int 5120 f.output.words

slots_are : (f : Forces) → forced_slots f ≡ inputs_of f ++ outputs_of f
slots_are f = rw (bits_listed 0 f.input.bits, words_listed 1024 f.input.words, bits_listed 4096 f.output.bits, words_listed 5120 f.output.words) refl

inputs_laid : (f : Forces) (cells : Cells) → AreMasks f → fold laid cells (inputs_of f) ≡ cells
inputs_laid f cells are =
    fold-append laid cells (listed values.Bool 0 f.input.bits) (listed values.Int 1024 f.input.words)
    ∙ ap (λ c. fold laid c (listed values.Int 1024 f.input.words)) (over values.Bool 0 512 (λ xs. cells) (input_bit cells) f.input.bits [] [] 0 0 refl refl (omega (arith, are.input.bits)))
    ∙ over values.Int 1024 64 (λ xs. cells) (input_word cells) f.input.words [] [] 0 1024 refl refl (omega (arith, are.input.words))

outputs_laid : (f : Forces) (cells : Cells) → AreMasks f → fold laid cells (outputs_of f) ≡ with_forces f.output cells
outputs_laid f cells are =
    let bits = overlay f.output.bits cells.bits in
    fold-append laid cells (listed values.Bool 4096 f.output.bits) (listed values.Int 5120 f.output.words)
    ∙ ap (λ c. fold laid c (listed values.Int 5120 f.output.words)) (over values.Bool 4096 512 (with_bits cells) (output_bit cells) f.output.bits [] cells.bits 0 4096 refl refl (omega (arith, are.output.bits)))
    ∙ over values.Int 5120 64 (with_words (with_bits cells bits)) (output_word (with_bits cells bits)) f.output.words [] cells.words 0 5120 refl refl (omega (arith, are.output.words))

pub laid_slots : (f : Forces) (cells : Cells) → AreMasks f → fold laid cells (forced_slots f) ≡ with_forces f.output cells
laid_slots f cells are =
    ap (fold laid cells) (slots_are f)
    ∙ fold-append laid cells (inputs_of f) (outputs_of f)
    ∙ ap (λ c. fold laid c (outputs_of f)) (inputs_laid f cells are)
    ∙ outputs_laid f cells are
