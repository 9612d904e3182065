-- The list of what is forced fits, and no two forces have one list.
use Rattle.std.proofs.Common.{◌≡◌, cond, ℕ, suc, ◌+◌, ◌-◌, ◌<◌, ◌≤◌, Bool, true, false, List, [], ◌∷◌, ◌++◌, length, Option, Some, None, refl, sym, ap, ◌∙◌, arith, append_assoc}
use Rattle.std.specs.Prelude.{ℤ, nat_le}
use Rattle.std.specs.Option.{option_and_then}
use Rattle.std.proofs.lemmas.Bool.{le-leb, lt-ltb}
use Rattle.std.proofs.lemmas.List.{append-nil}
use Rattle.il_values.specs.declared.value.Ty.TheVariants as types
use Rattle.il_values.specs.declared.value.Value.{Value}
use Rattle.il_values.specs.declared.value.Value.TheVariants as values
use Rattle.il_model.specs.declared.program.Area.{Area}
use Rattle.il_model.specs.declared.program.Area.TheVariants as areas
use Rattle.il_model.specs.declared.program.Loc.TheVariants.{Bit, Word}
use Rattle.il_model.specs.declared.snapshot.ForcedSlot.{ForcedSlot}
use Rattle.il_model.specs.Row.{same_type}
use Rattle.il_model.specs.CodedOperands.{any_loc}
use Rattle.ctl_model.specs.declared.forces.Forces.{Forces}
use Rattle.ctl_model.specs.Commands.{forcible, forcible_at}
use Rattle.ctl_model.specs.Snapshots.{forced_bits, forced_words, forced_slots, fits_location, fit_forces}
use Rattle.ctl_model.proofs.Rising.{forces_from, forces_fit}
use Rattle.ctl_model.proofs.Fitting.{and_both}
use Rattle.ctl_model.proofs.ForcedSlots.{slot_as, listed, bits_listed, words_listed, bit_there, word_there, input_there, output_there}
use Rattle.ctl_scan.specs.Kept.{AreMasks}

-- ---- it fits

list_fits : {A : Type 0} (g : A → Value) (least n : ℕ) (ms : List (Option A)) (rest : List ForcedSlot) → least ≤ n → ((p : ℕ) → n ≤ p → p < n + length ms → (x : A) → fits_location (g x) (forcible_at p) ≡ true) → ((more : ℕ) → more ≤ n + length ms → forces_from more rest ≡ true) → forces_from least (listed g n ms ++ rest) ≡ true
list_fits g least n [] rest le h r = r least (omega (arith, le))
list_fits g least n (None ∷ ms) rest le h r = list_fits g least (suc n) ms rest (omega (arith, le)) (λ p a b x. h p (omega (arith, a)) (omega (arith, b)) x) (λ more a. r more (omega (arith, a)))
list_fits g least n (Some x ∷ ms) rest le h r =
    and_both (nat_le least n) _ (le-leb least n le)
    (and_both (fits_location (g x) (forcible_at n)) _ (h n (omega arith) (omega arith) x)
    (list_fits g (suc n) (suc n) ms rest (omega arith) (λ p a b x. h p (omega (arith, a)) (omega (arith, b)) x) (λ more a. r more (omega (arith, a)))))

bit_fits : (p k : ℕ) (area : Area) (b : Bool) → any_loc p ≡ Some (Bit area k) → forcible (Bit area k) ≡ Some (Bit area k) → k < 512 → fits_location (values.Bool b) (forcible_at p) ≡ true
bit_fits p k area b e f lt =
    ap (λ o. fits_location (values.Bool b) (option_and_then forcible o)) e ∙ ap (fits_location (values.Bool b)) f
    ∙ ap (λ t. elim (cond t (Some types.Bool) None) [ Some t ↦ same_type types.Bool t | None ↦ false ]) (lt-ltb k 512 lt)

word_fits : (p k : ℕ) (area : Area) (z : ℤ) → any_loc p ≡ Some (Word area k) → forcible (Word area k) ≡ Some (Word area k) → k < 64 → fits_location (values.Int z) (forcible_at p) ≡ true
word_fits p k area z e f lt =
    ap (λ o. fits_location (values.Int z) (option_and_then forcible o)) e ∙ ap (fits_location (values.Int z)) f
    ∙ ap (λ t. elim (cond t (Some types.Int) None) [ Some t ↦ same_type types.Int t | None ↦ false ]) (lt-ltb k 64 lt)

input_bit_fits : (p : ℕ) (b : Bool) → p < 512 → fits_location (values.Bool b) (forcible_at p) ≡ true
input_bit_fits p b lt = bit_fits p p areas.Input b (input_there p (omega (arith, lt)) ∙ bit_there areas.Input p lt) refl lt

input_word_fits : (p : ℕ) (z : ℤ) → 1024 ≤ p → p < 1088 → fits_location (values.Int z) (forcible_at p) ≡ true
input_word_fits p z le lt = word_fits p (p - 1024) areas.Input z (input_there p (omega (arith, lt)) ∙ word_there areas.Input p le lt) refl (omega (arith, le, lt))

output_bit_fits : (p : ℕ) (b : Bool) → 4096 ≤ p → p < 4608 → fits_location (values.Bool b) (forcible_at p) ≡ true
output_bit_fits p b le lt = let small : p - 4096 < 512 = omega (arith, le, lt) in bit_fits p (p - 4096) areas.Output b (output_there p le (omega (arith, lt)) ∙ bit_there areas.Output (p - 4096) small) refl small

output_word_fits : (p : ℕ) (z : ℤ) → 5120 ≤ p → p < 5184 → fits_location (values.Int z) (forcible_at p) ≡ true
output_word_fits p z le lt =
    let low : 1024 ≤ p - 4096 = omega (arith, le) in
    let high : p - 4096 < 1088 = omega (arith, le, lt) in
    word_fits p (p - 4096 - 1024) areas.Output z (output_there p (omega (arith, le)) (omega (arith, lt)) ∙ word_there areas.Output (p - 4096) low high) refl (omega (arith, le, lt))

-- the four lists one after another
abbrev chain : Forces → List ForcedSlot
chain f = listed values.Bool 0 f.input.bits ++ (listed values.Int 1024 f.input.words ++ (listed values.Bool 4096 f.output.bits ++ (listed values.Int 5120 f.output.words ++ [])))

slots_chain : (f : Forces) → forced_slots f ≡ chain f
slots_chain f =
    ap (λ a. (a ++ forced_words 1024 f.input.words) ++ (forced_bits 4096 f.output.bits ++ forced_words 5120 f.output.words)) (bits_listed 0 f.input.bits)
    ∙ ap (λ b. (listed values.Bool 0 f.input.bits ++ b) ++ (forced_bits 4096 f.output.bits ++ forced_words 5120 f.output.words)) (words_listed 1024 f.input.words)
    ∙ ap (λ c. (listed values.Bool 0 f.input.bits ++ listed values.Int 1024 f.input.words) ++ (c ++ forced_words 5120 f.output.words)) (bits_listed 4096 f.output.bits)
    ∙ ap (λ d. (listed values.Bool 0 f.input.bits ++ listed values.Int 1024 f.input.words) ++ (listed values.Bool 4096 f.output.bits ++ d)) (words_listed 5120 f.output.words ∙ sym (append-nil (listed values.Int 5120 f.output.words)))
    ∙ append_assoc (listed values.Bool 0 f.input.bits) (listed values.Int 1024 f.input.words) (listed values.Bool 4096 f.output.bits ++ (listed values.Int 5120 f.output.words ++ []))

pub slots_fit : (f : Forces) → AreMasks f → fit_forces (forced_slots f) ≡ true
slots_fit f m =
    sym (forces_fit (forced_slots f)) ∙ ap (forces_from 0) (slots_chain f)
    ∙ list_fits values.Bool 0 0 f.input.bits _ (omega arith) (λ p a b x. input_bit_fits p x (omega (arith, b, m.input.bits)))
    (λ more a. list_fits values.Int more 1024 f.input.words _ (omega (arith, a, m.input.bits)) (λ p a b x. input_word_fits p x a (omega (arith, b, m.input.words)))
    (λ more a. list_fits values.Bool more 4096 f.output.bits _ (omega (arith, a, m.input.words)) (λ p a b x. output_bit_fits p x a (omega (arith, b, m.output.bits)))
    (λ more a. list_fits values.Int more 5120 f.output.words [] (omega (arith, a, m.output.bits)) (λ p a b x. output_word_fits p x a (omega (arith, b, m.output.words)))
    (λ more a. refl))))

-- ---- it is one's own

-- the list is empty or begins at that slot or above
abbrev IsAbove : ℕ → List ForcedSlot → Type 0
IsAbove n [] = Unit {0}
IsAbove n (x ∷ xs) = n ≤ x.slot.0

above_less : (m n : ℕ) (xs : List ForcedSlot) → m ≤ n → IsAbove n xs → IsAbove m xs
above_less m n [] le h = tt
above_less m n (x ∷ xs) le h = omega (arith, le, h)

list_above : {A : Type 0} (g : A → Value) (n : ℕ) (ms : List (Option A)) (rest : List ForcedSlot) → IsAbove (n + length ms) rest → IsAbove n (listed g n ms ++ rest)
list_above g n [] rest h = above_less n (n + 0) rest (omega arith) h
list_above g n (None ∷ ms) rest h =
    above_less n (suc n) (listed g (suc n) ms ++ rest) (omega arith) (list_above g (suc n) ms rest (above_less (suc n + length ms) (n + suc (length ms)) rest (omega arith) h))
list_above g n (Some x ∷ ms) rest h = omega arith

slot_same : (x y : ForcedSlot) (xs ys : List ForcedSlot) → x ∷ xs ≡ y ∷ ys → (x ≡ y) × (xs ≡ ys)
slot_same x y xs ys e = (cc, cc)

not_above : (n : ℕ) (v : Value) (xs ys : List ForcedSlot) → IsAbove (suc n) ys → slot_as n v ∷ xs ≡ ys → ⊥
not_above n v xs [] h e = absurd cc
not_above n v xs (y ∷ ys) h e =
    let s = ap (λ (f : ForcedSlot). f.slot.0) (slot_same (slot_as n v) y xs ys e).0 in
    omega (arith, h, s)

lists_same : {A : Type 0} (g : A → Value) → ((a b : A) → g a ≡ g b → a ≡ b) → (n : ℕ) (ms ks : List (Option A)) (r q : List ForcedSlot) → length ms ≡ length ks → IsAbove (n + length ms) r → IsAbove (n + length ks) q → listed g n ms ++ r ≡ listed g n ks ++ q → (ms ≡ ks) × (r ≡ q)
lists_same g one n [] [] r q same a b e = (refl, e)
lists_same g one n [] (k ∷ ks) r q same a b e = absurd (omega (arith, same))
lists_same g one n (m ∷ ms) [] r q same a b e = absurd (omega (arith, same))
lists_same g one n (None ∷ ms) (None ∷ ks) r q same a b e =
    let s = lists_same g one (suc n) ms ks r q (omega (arith, same)) (above_less (suc n + length ms) (n + suc (length ms)) r (omega arith) a) (above_less (suc n + length ks) (n + suc (length ks)) q (omega arith) b) e in
    (ap (λ xs. None ∷ xs) s.0, s.1)
lists_same g one n (None ∷ ms) (Some y ∷ ks) r q same a b e =
    absurd (not_above n (g y) (listed g (suc n) ks ++ q) (listed g (suc n) ms ++ r) (list_above g (suc n) ms r (above_less (suc n + length ms) (n + suc (length ms)) r (omega arith) a)) (sym e))
lists_same g one n (Some x ∷ ms) (None ∷ ks) r q same a b e =
    absurd (not_above n (g x) (listed g (suc n) ms ++ r) (listed g (suc n) ks ++ q) (list_above g (suc n) ks q (above_less (suc n + length ks) (n + suc (length ks)) q (omega arith) b)) e)
lists_same g one n (Some x ∷ ms) (Some y ∷ ks) r q same a b e =
    let h = slot_same (slot_as n (g x)) (slot_as n (g y)) (listed g (suc n) ms ++ r) (listed g (suc n) ks ++ q) e in
    let s = lists_same g one (suc n) ms ks r q (omega (arith, same)) (above_less (suc n + length ms) (n + suc (length ms)) r (omega arith) a) (above_less (suc n + length ks) (n + suc (length ks)) q (omega arith) b) h.1 in
    let v : g x ≡ g y = ap (λ (f : ForcedSlot). f.value) h.0 in
    (ap (λ z. Some z ∷ ms) (one x y v) ∙ ap (λ xs. Some y ∷ xs) s.0, s.1)

bool_same : (a b : Bool) → values.Bool a ≡ values.Bool b → a ≡ b
bool_same a b e = cc

int_same : (a b : ℤ) → values.Int a ≡ values.Int b → a ≡ b
int_same a b e = cc

past_words : (f : Forces) (m : AreMasks f) → IsAbove 4096 (listed values.Bool 4096 f.output.bits ++ (listed values.Int 5120 f.output.words ++ []))
past_words f m = list_above values.Bool 4096 f.output.bits _ (above_less (4096 + length f.output.bits) 5120 _ (omega (arith, m.output.bits)) (list_above values.Int 5120 f.output.words [] tt))

past_bits : (f : Forces) (m : AreMasks f) → IsAbove 1024 (listed values.Int 1024 f.input.words ++ (listed values.Bool 4096 f.output.bits ++ (listed values.Int 5120 f.output.words ++ [])))
past_bits f m = list_above values.Int 1024 f.input.words _ (above_less (1024 + length f.input.words) 4096 _ (omega (arith, m.input.words)) (past_words f m))

abbrev forces_with : List (Option Bool) → List (Option ℤ) → List (Option Bool) → List (Option ℤ) → Forces
forces_with a b c d = record { input = record { bits = a; words = b }; output = record { bits = c; words = d } }

forces_by : (a a2 : List (Option Bool)) (b b2 : List (Option ℤ)) (c c2 : List (Option Bool)) (d d2 : List (Option ℤ)) → a ≡ a2 → b ≡ b2 → c ≡ c2 → d ≡ d2 → forces_with a b c d ≡ forces_with a2 b2 c2 d2
forces_by a a2 b b2 c c2 d d2 e f g h = rw (e, f, g, h) refl

pub forces_same : (f g : Forces) → AreMasks f → AreMasks g → forced_slots f ≡ forced_slots g → f ≡ g
forces_same f g m k e =
    let all = sym (slots_chain f) ∙ e ∙ slots_chain g in
    let a = lists_same values.Bool bool_same 0 f.input.bits g.input.bits _ _ (m.input.bits ∙ sym k.input.bits) (above_less (0 + length f.input.bits) 1024 _ (omega (arith, m.input.bits)) (past_bits f m)) (above_less (0 + length g.input.bits) 1024 _ (omega (arith, k.input.bits)) (past_bits g k)) all in
    let b = lists_same values.Int int_same 1024 f.input.words g.input.words _ _ (m.input.words ∙ sym k.input.words) (above_less (1024 + length f.input.words) 4096 _ (omega (arith, m.input.words)) (past_words f m)) (above_less (1024 + length g.input.words) 4096 _ (omega (arith, k.input.words)) (past_words g k)) a.1 in
    let c = lists_same values.Bool bool_same 4096 f.output.bits g.output.bits _ _ (m.output.bits ∙ sym k.output.bits) (above_less (4096 + length f.output.bits) 5120 _ (omega (arith, m.output.bits)) (list_above values.Int 5120 f.output.words [] tt)) (above_less (4096 + length g.output.bits) 5120 _ (omega (arith, k.output.bits)) (list_above values.Int 5120 g.output.words [] tt)) b.1 in
    let d = lists_same values.Int int_same 5120 f.output.words g.output.words [] [] (m.output.words ∙ sym k.output.words) tt tt c.1 in
    forces_by _ _ _ _ _ _ _ _ a.0 b.0 c.0 d.0
