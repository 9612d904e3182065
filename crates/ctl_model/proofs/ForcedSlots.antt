-- The list of what is forced, and the forces that it stands for.
use Rattle.std.proofs.Common.{◌≡◌, cond, ℕ, zero, suc, ◌+◌, ◌-◌, ◌<◌, ◌≤◌, Bool, true, false, List, [], ◌∷◌, ◌++◌, length, set, Option, Some, None, refl, sym, ap, subst, ◌∙◌, arith, append_assoc}
use Rattle.std.specs.Prelude.{ℤ, nat_lt, replicate}
use Rattle.std.specs.Option.{option_map, option_and_then}
use Rattle.std.proofs.lemmas.Bool.{ltb-true, ltb-false, lt-ltb}
use Rattle.std.proofs.lemmas.List.{append-nil}
use Rattle.il_values.specs.declared.value.Ty.TheVariants as types
use Rattle.il_values.specs.declared.value.Value.{Value}
use Rattle.il_values.specs.declared.value.Value.TheVariants as values
use Rattle.il_model.specs.declared.program.Area.{Area}
use Rattle.il_model.specs.declared.program.Area.TheVariants as areas
use Rattle.il_model.specs.declared.program.Loc.{Loc}
use Rattle.il_model.specs.declared.program.Loc.TheVariants.{Bit, Word, Pattern, Double}
use Rattle.il_model.specs.declared.program.DoubleType.{DoubleType}
use Rattle.il_model.specs.declared.program.DoubleType.TheVariants as doubles
use Rattle.il_model.specs.declared.snapshot.ForcedSlot.{ForcedSlot}
use Rattle.il_values.specs.Values.{ty_of}
use Rattle.il_model.specs.Row.{same_type}
use Rattle.il_model.specs.Locations.{begins_double}
use Rattle.il_model.specs.CodedOperands.{double_loc, pattern_loc, double_there, area_loc, any_loc}
use Rattle.il_model.proofs.RowTypes.{same_type_is}
use Rattle.ctl_model.specs.declared.forces.Mask.{Mask}
use Rattle.ctl_model.specs.declared.forces.Forces.{Forces}
use Rattle.ctl_model.specs.Forces.{put_force, no_forces}
use Rattle.ctl_model.specs.Commands.{forcible, forcible_at}
use Rattle.ctl_model.specs.Snapshots.{forced_bits, forced_words, forced_slots, fits_location}
use Rattle.ctl_model.proofs.Safe.{truth_value}

-- ---- one list of forces

abbrev pub slot_as : ℕ → Value → ForcedSlot
slot_as n v = record { slot = record { 0 = n }; value = v }

abbrev pub listed : {A : Type 0} → (A → Value) → ℕ → List (Option A) → List ForcedSlot
listed g n [] = []
listed g n (None ∷ fs) = listed g (suc n) fs
listed g n (Some x ∷ fs) = slot_as n (g x) ∷ listed g (suc n) fs

pub bits_listed : (n : ℕ) (fs : List (Option Bool)) → forced_bits n fs ≡ listed values.Bool n fs
bits_listed n [] = refl
bits_listed n (None ∷ fs) = bits_listed (suc n) fs
bits_listed n (Some x ∷ fs) = ap (λ ys. slot_as n (values.Bool x) ∷ ys) (bits_listed (suc n) fs)

pub words_listed : (n : ℕ) (fs : List (Option ℤ)) → forced_words n fs ≡ listed values.Int n fs
words_listed n [] = refl
words_listed n (None ∷ fs) = words_listed (suc n) fs
words_listed n (Some x ∷ fs) = ap (λ ys. slot_as n (values.Int x) ∷ ys) (words_listed (suc n) fs)

-- nothing is forced from that slot on; the list begins at slot n
abbrev pub FreeFrom : {A : Type 0} → ℕ → ℕ → List (Option A) → Type 0
FreeFrom least n [] = Unit {0}
FreeFrom least n (m ∷ ms) = (least ≤ n → m ≡ None) × FreeFrom least (suc n) ms

pub none_listed : {A : Type 0} (g : A → Value) (least n : ℕ) (ms : List (Option A)) → FreeFrom least n ms → least ≤ n → listed g n ms ≡ []
none_listed g least n [] free le = refl
none_listed g least n (None ∷ ms) free le = none_listed g least (suc n) ms free.1 (omega (arith, le))
none_listed g least n (Some x ∷ ms) free le = let e = free.0 le in absurd cc

later_free : {A : Type 0} (least more n : ℕ) (ms : List (Option A)) → least ≤ more → FreeFrom least n ms → FreeFrom more n ms
later_free least more n [] le free = tt
later_free least more n (m ∷ ms) le free = (λ h. free.0 (omega (arith, le, h)), later_free least more (suc n) ms le free.1)

-- one more force behind all others stands behind all others in the list
pub set_listed : {A : Type 0} (g : A → Value) (least n : ℕ) (ms : List (Option A)) (k p : ℕ) (x : A) → FreeFrom least n ms → p ≡ n + k → least ≤ p → k < length ms → (listed g n (set ms k (Some x)) ≡ listed g n ms ++ slot_as p (g x) ∷ []) × FreeFrom (suc p) n (set ms k (Some x))
set_listed g least n [] k p x free e le lt = absurd (omega (arith, lt))
set_listed g least n (None ∷ ms) zero p x free e le lt =
    let is : p ≡ n = omega (arith, e) in
    let empty = none_listed g least (suc n) ms free.1 (omega (arith, le, is)) in (
      ap (λ ys. slot_as n (g x) ∷ ys) empty ∙ ap (λ q. slot_as q (g x) ∷ []) (sym is) ∙ ap (λ ys. ys ++ slot_as p (g x) ∷ []) (sym empty),
      (λ h. absurd (omega (arith, h, is)), later_free least (suc p) (suc n) ms (omega (arith, le)) free.1),
    )
set_listed g least n (Some y ∷ ms) zero p x free e le lt = let is = free.0 (omega (arith, e, le)) in absurd cc
set_listed g least n (None ∷ ms) (suc k) p x free e le lt =
    let r = set_listed g least (suc n) ms k p x free.1 (omega (arith, e)) le (omega (arith, lt)) in
    (r.0, (λ h. refl, r.1))
set_listed g least n (Some y ∷ ms) (suc k) p x free e le lt =
    let r = set_listed g least (suc n) ms k p x free.1 (omega (arith, e)) le (omega (arith, lt)) in
    (ap (λ ys. slot_as n (g y) ∷ ys) r.0, (λ h. absurd (omega (arith, h, e)), r.1))

set_length : {A : Type 0} (ms : List A) (k : ℕ) (x : A) → length (set ms k x) ≡ length ms
set_length [] zero x = refl
set_length [] (suc k) x = refl
set_length (m ∷ ms) zero x = refl
set_length (m ∷ ms) (suc k) x = ap suc (set_length ms k x)

none_free : (A : Type 0) (least n k : ℕ) → FreeFrom {A = A} least n (replicate k None)
none_free A least n zero = tt
none_free A least n (suc k) = (λ h. refl, none_free A least (suc n) k)

none_there : (A : Type 0) (g : A → Value) (n k : ℕ) → listed g n (replicate k None) ≡ []
none_there A g n zero = refl
none_there A g n (suc k) = none_there A g (suc n) k

-- ---- locations by their slots

no_less : (b : Bool) (n m : ℕ) → nat_lt n m ≡ b → m ≤ n → b ≡ false
no_less true n m e le = absurd (omega (arith, ltb-true n m e, le))
no_less false n m e le = refl

not_less : (n m : ℕ) → m ≤ n → nat_lt n m ≡ false
not_less n m le = no_less (nat_lt n m) n m refl le

pub bit_there : (area : Area) (n : ℕ) → n < 512 → area_loc area n ≡ Some (Bit area n)
bit_there area n lt = ap (λ b. cond b (Some (Bit area n)) (cond (nat_lt n 1024) None (cond (nat_lt n 1088) (Some (Word area (n - 1024))) (double_there area n)))) (lt-ltb n 512 lt)

pub word_there : (area : Area) (n : ℕ) → 1024 ≤ n → n < 1088 → area_loc area n ≡ Some (Word area (n - 1024))
word_there area n le lt =
    ap (λ b. cond b (Some (Bit area n)) (cond (nat_lt n 1024) None (cond (nat_lt n 1088) (Some (Word area (n - 1024))) (double_there area n)))) (not_less n 512 (omega (arith, le)))
    ∙ ap (λ b. cond b None (cond (nat_lt n 1088) (Some (Word area (n - 1024))) (double_there area n))) (not_less n 1024 le)
    ∙ ap (λ b. cond b (Some (Word area (n - 1024))) (double_there area n)) (lt-ltb n 1088 lt)

nothing_between : (area : Area) (n : ℕ) → 512 ≤ n → n < 1024 → area_loc area n ≡ None
nothing_between area n le lt =
    ap (λ b. cond b (Some (Bit area n)) (cond (nat_lt n 1024) None (cond (nat_lt n 1088) (Some (Word area (n - 1024))) (double_there area n)))) (not_less n 512 le)
    ∙ ap (λ b. cond b None (cond (nat_lt n 1088) (Some (Word area (n - 1024))) (double_there area n))) (lt-ltb n 1024 lt)

no_cell_past : (area : Area) (n : ℕ) → 1088 ≤ n → area_loc area n ≡ double_there area n
no_cell_past area n le =
    ap (λ b. cond b (Some (Bit area n)) (cond (nat_lt n 1024) None (cond (nat_lt n 1088) (Some (Word area (n - 1024))) (double_there area n)))) (not_less n 512 (omega (arith, le)))
    ∙ ap (λ b. cond b None (cond (nat_lt n 1088) (Some (Word area (n - 1024))) (double_there area n))) (not_less n 1024 (omega (arith, le)))
    ∙ ap (λ b. cond b (Some (Word area (n - 1024))) (double_there area n)) (not_less n 1088 le)

-- a double word can't be forced
double_not : (area : Area) (t : DoubleType) (n : ℕ) (loc : Loc) → double_loc area t n ≡ Some loc → forcible loc ≡ None
double_not area t n loc e = by_test (begins_double n) e
  where
    by_test : (p : Bool) → cond p (Some (Double area n t)) None ≡ Some loc → forcible loc ≡ None
    by_test true f = let is : Double area n t ≡ loc = cc in ap forcible (sym is)
    by_test false f = absurd cc

-- nor a pattern
pattern_not : (area : Area) (n : ℕ) (loc : Loc) → pattern_loc area n ≡ Some loc → forcible loc ≡ None
pattern_not area n loc e = by_test (nat_lt n 64) e
  where
    by_test : (p : Bool) → cond p (Some (Pattern area n)) None ≡ Some loc → forcible loc ≡ None
    by_test true f = let is : Pattern area n ≡ loc = cc in ap forcible (sym is)
    by_test false f = absurd cc

no_double : (area : Area) (n : ℕ) (loc : Loc) → double_there area n ≡ Some loc → forcible loc ≡ None
no_double area n loc e = by_tests (nat_lt n 1280) (nat_lt n 1536) (nat_lt n 1792) (nat_lt n 2048) (nat_lt n 2304) e
  where
    by_tests : (p q r s t : Bool) → cond p None (cond q (double_loc area doubles.Dint (n - 1280)) (cond r (double_loc area doubles.Time (n - 1536)) (cond s (double_loc area doubles.Real (n - 1792)) (cond t (double_loc area doubles.Dword (n - 2048)) (pattern_loc area (n - 2304)))))) ≡ Some loc → forcible loc ≡ None
    by_tests true q r s t f = absurd cc
    by_tests false true r s t f = double_not area doubles.Dint (n - 1280) loc f
    by_tests false false true s t f = double_not area doubles.Time (n - 1536) loc f
    by_tests false false false true t f = double_not area doubles.Real (n - 1792) loc f
    by_tests false false false false true f = double_not area doubles.Dword (n - 2048) loc f
    by_tests false false false false false f = pattern_not area (n - 2304) loc f

pub input_there : (n : ℕ) → n < 4096 → any_loc n ≡ area_loc areas.Input n
input_there n lt = ap (λ b. cond b (area_loc areas.Input n) (cond (nat_lt n 8192) (area_loc areas.Output (n - 4096)) (area_loc areas.Memory (n - 8192)))) (lt-ltb n 4096 lt)

pub output_there : (n : ℕ) → 4096 ≤ n → n < 8192 → any_loc n ≡ area_loc areas.Output (n - 4096)
output_there n le lt =
    ap (λ b. cond b (area_loc areas.Input n) (cond (nat_lt n 8192) (area_loc areas.Output (n - 4096)) (area_loc areas.Memory (n - 8192)))) (not_less n 4096 le)
    ∙ ap (λ b. cond b (area_loc areas.Output (n - 4096)) (area_loc areas.Memory (n - 8192))) (lt-ltb n 8192 lt)

memory_there : (n : ℕ) → 8192 ≤ n → any_loc n ≡ area_loc areas.Memory (n - 8192)
memory_there n le =
    ap (λ b. cond b (area_loc areas.Input n) (cond (nat_lt n 8192) (area_loc areas.Output (n - 4096)) (area_loc areas.Memory (n - 8192)))) (not_less n 4096 (omega (arith, le)))
    ∙ ap (λ b. cond b (area_loc areas.Output (n - 4096)) (area_loc areas.Memory (n - 8192))) (not_less n 8192 le)

-- a slot with a value that it can be forced to
pub data Forcible : ℕ → Value → Type 0 where
  InputBit : (n : ℕ) (b : Bool) → n < 512 → any_loc n ≡ Some (Bit areas.Input n) → Forcible n (values.Bool b)
  InputWord : (n : ℕ) (z : ℤ) → 1024 ≤ n → n < 1088 → any_loc n ≡ Some (Word areas.Input (n - 1024)) → Forcible n (values.Int z)
  OutputBit : (n : ℕ) (b : Bool) → 4096 ≤ n → n < 4608 → any_loc n ≡ Some (Bit areas.Output (n - 4096)) → Forcible n (values.Bool b)
  OutputWord : (n : ℕ) (z : ℤ) → 5120 ≤ n → n < 5184 → any_loc n ≡ Some (Word areas.Output (n - 4096 - 1024)) → Forcible n (values.Int z)

int_value : (v : Value) → ty_of v ≡ types.Int → (z : ℤ) × (v ≡ values.Int z)
int_value (values.Bool b) e = absurd cc
int_value (values.Int z) e = (z, refl)
int_value (values.Dint z) e = absurd cc
int_value (values.Time z) e = absurd cc
int_value (values.Lint z) e = absurd cc
int_value (values.Real r) e = absurd cc
int_value (values.Word n) e = absurd cc
int_value (values.Dword n) e = absurd cc

at_none : (n : ℕ) (v : Value) → any_loc n ≡ None → fits_location v (forcible_at n) ≡ true → ⊥
at_none n v e h = let f = ap (λ o. fits_location v (option_and_then forcible o)) e in absurd cc

at_unforcible : (n : ℕ) (v : Value) (o : Option Loc) → any_loc n ≡ o → ((loc : Loc) → o ≡ Some loc → forcible loc ≡ None) → fits_location v (forcible_at n) ≡ true → ⊥
at_unforcible n v None e none h = at_none n v e h
at_unforcible n v (Some loc) e none h = let f = ap (λ o. fits_location v (option_and_then forcible o)) e ∙ ap (fits_location v) (none loc refl) in absurd cc

bit_value : (n k : ℕ) (area : Area) (v : Value) → any_loc n ≡ Some (Bit area k) → forcible (Bit area k) ≡ Some (Bit area k) → k < 512 → fits_location v (forcible_at n) ≡ true → (b : Bool) × (v ≡ values.Bool b)
bit_value n k area v e f lt h =
    let g = ap (λ o. fits_location v (option_and_then forcible o)) e ∙ ap (fits_location v) f ∙ ap (λ b. elim (cond b (Some types.Bool) None) [ Some t ↦ same_type (ty_of v) t | None ↦ false ]) (lt-ltb k 512 lt) in
    truth_value v (same_type_is (ty_of v) types.Bool (sym g ∙ h))

word_value : (n k : ℕ) (area : Area) (v : Value) → any_loc n ≡ Some (Word area k) → forcible (Word area k) ≡ Some (Word area k) → k < 64 → fits_location v (forcible_at n) ≡ true → (z : ℤ) × (v ≡ values.Int z)
word_value n k area v e f lt h =
    let g = ap (λ o. fits_location v (option_and_then forcible o)) e ∙ ap (fits_location v) f ∙ ap (λ b. elim (cond b (Some types.Int) None) [ Some t ↦ same_type (ty_of v) t | None ↦ false ]) (lt-ltb k 64 lt) in
    int_value v (same_type_is (ty_of v) types.Int (sym g ∙ h))

input_case : (n : ℕ) (v : Value) (p q r : Bool) → n < 4096 → nat_lt n 512 ≡ p → nat_lt n 1024 ≡ q → nat_lt n 1088 ≡ r → fits_location v (forcible_at n) ≡ true → Forcible n v
input_case n v true q r lt e f g h =
    let small = ltb-true n 512 e in
    let at = input_there n lt ∙ bit_there areas.Input n small in
    let b = bit_value n n areas.Input v at refl small h in
    subst (Forcible n) (sym b.1) (InputBit n b.0 small at)
input_case n v false true r lt e f g h = absurd (at_none n v (input_there n lt ∙ nothing_between areas.Input n (ltb-false n 512 e) (ltb-true n 1024 f)) h)
input_case n v false false true lt e f g h =
    let at = input_there n lt ∙ word_there areas.Input n (ltb-false n 1024 f) (ltb-true n 1088 g) in
    let z = word_value n (n - 1024) areas.Input v at refl (omega (arith, ltb-true n 1088 g, ltb-false n 1024 f)) h in
    subst (Forcible n) (sym z.1) (InputWord n z.0 (ltb-false n 1024 f) (ltb-true n 1088 g) at)
input_case n v false false false lt e f g h = absurd (at_unforcible n v (double_there areas.Input n) (input_there n lt ∙ no_cell_past areas.Input n (ltb-false n 1088 g)) (no_double areas.Input n) h)

output_case : (n k : ℕ) (v : Value) (p q r : Bool) → k ≡ n - 4096 → 4096 ≤ n → n < 8192 → nat_lt k 512 ≡ p → nat_lt k 1024 ≡ q → nat_lt k 1088 ≡ r → fits_location v (forcible_at n) ≡ true → Forcible n v
output_case n k v true q r is le lt e f g h =
    let small = ltb-true k 512 e in
    let at = output_there n le lt ∙ ap (area_loc areas.Output) (sym is) ∙ bit_there areas.Output k small in
    let b = bit_value n k areas.Output v at refl small h in
    subst (Forcible n) (sym b.1) (OutputBit n b.0 le (omega (arith, small, is)) (at ∙ ap (λ k. Some (Bit areas.Output k)) is))
output_case n k v false true r is le lt e f g h = absurd (at_none n v (output_there n le lt ∙ ap (area_loc areas.Output) (sym is) ∙ nothing_between areas.Output k (ltb-false k 512 e) (ltb-true k 1024 f)) h)
output_case n k v false false true is le lt e f g h =
    let at = output_there n le lt ∙ ap (area_loc areas.Output) (sym is) ∙ word_there areas.Output k (ltb-false k 1024 f) (ltb-true k 1088 g) in
    let z = word_value n (k - 1024) areas.Output v at refl (omega (arith, ltb-true k 1088 g, ltb-false k 1024 f)) h in
    subst (Forcible n) (sym z.1) (OutputWord n z.0 (omega (arith, is, le, ltb-false k 1024 f)) (omega (arith, is, le, ltb-true k 1088 g)) (at ∙ ap (λ k. Some (Word areas.Output (k - 1024))) is))
output_case n k v false false false is le lt e f g h = absurd (at_unforcible n v (double_there areas.Output k) (output_there n le lt ∙ ap (area_loc areas.Output) (sym is) ∙ no_cell_past areas.Output k (ltb-false k 1088 g)) (no_double areas.Output k) h)

memory_by : (p q r : Bool) (k : ℕ) (loc : Loc) → cond p (Some (Bit areas.Memory k)) (cond q None (cond r (Some (Word areas.Memory (k - 1024))) (double_there areas.Memory k))) ≡ Some loc → forcible loc ≡ None
memory_by true q r k loc e = let is : Bit areas.Memory k ≡ loc = cc in ap forcible (sym is)
memory_by false true r k loc e = absurd cc
memory_by false false true k loc e = let is : Word areas.Memory (k - 1024) ≡ loc = cc in ap forcible (sym is)
memory_by false false false k loc e = no_double areas.Memory k loc e

memory_not : (k : ℕ) (loc : Loc) → area_loc areas.Memory k ≡ Some loc → forcible loc ≡ None
memory_not k loc e = memory_by (nat_lt k 512) (nat_lt k 1024) (nat_lt k 1088) k loc e

area_case : (n : ℕ) (v : Value) (p q : Bool) → nat_lt n 4096 ≡ p → nat_lt n 8192 ≡ q → fits_location v (forcible_at n) ≡ true → Forcible n v
area_case n v true q e f h = input_case n v (nat_lt n 512) (nat_lt n 1024) (nat_lt n 1088) (ltb-true n 4096 e) refl refl refl h
area_case n v false true e f h = output_case n (n - 4096) v (nat_lt (n - 4096) 512) (nat_lt (n - 4096) 1024) (nat_lt (n - 4096) 1088) refl (ltb-false n 4096 e) (ltb-true n 8192 f) refl refl refl h
area_case n v false false e f h =
    absurd (at_unforcible n v (area_loc areas.Memory (n - 8192)) (memory_there n (ltb-false n 8192 f)) (memory_not (n - 8192)) h)

pub forcible_by : (n : ℕ) (v : Value) → fits_location v (forcible_at n) ≡ true → Forcible n v
forcible_by n v h = area_case n v (nat_lt n 4096) (nat_lt n 8192) refl refl h

-- ---- all four lists

-- nothing is forced from that slot on, and there is a place for each cell
pub record AreFree (least : ℕ) (f : Forces) : Type 0 where
  pub input_bits : FreeFrom least 0 f.input.bits
  pub input_words : FreeFrom least 1024 f.input.words
  pub output_bits : FreeFrom least 4096 f.output.bits
  pub output_words : FreeFrom least 5120 f.output.words
  pub input_bit_count : length f.input.bits ≡ 512
  pub input_word_count : length f.input.words ≡ 64
  pub output_bit_count : length f.output.bits ≡ 512
  pub output_word_count : length f.output.words ≡ 64

pub no_forces_free : AreFree 0 no_forces
no_forces_free = record {
  input_bits = none_free Bool 0 0 512;
  input_words = none_free ℤ 0 1024 64;
  output_bits = none_free Bool 0 4096 512;
  output_words = none_free ℤ 0 5120 64;
  input_bit_count = refl;
  input_word_count = refl;
  output_bit_count = refl;
  output_word_count = refl;
}

abbrev four : Forces → List ForcedSlot
four f = (listed values.Bool 0 f.input.bits ++ listed values.Int 1024 f.input.words) ++ (listed values.Bool 4096 f.output.bits ++ listed values.Int 5120 f.output.words)

slots_four : (f : Forces) → forced_slots f ≡ four f
slots_four f = rw (bits_listed 0 f.input.bits, words_listed 1024 f.input.words, bits_listed 4096 f.output.bits, words_listed 5120 f.output.words) refl

pub no_forces_slots : forced_slots no_forces ≡ []
no_forces_slots = slots_four no_forces ∙ rw (none_there Bool values.Bool 0 512, none_there ℤ values.Int 1024 64, none_there Bool values.Bool 4096 512, none_there ℤ values.Int 5120 64) refl

last_four : (a b c d x : List ForcedSlot) → (a ++ b) ++ (c ++ (d ++ x)) ≡ ((a ++ b) ++ (c ++ d)) ++ x
last_four a b c d x = ap (λ ys. (a ++ b) ++ ys) (sym (append_assoc c d x)) ∙ sym (append_assoc (a ++ b) (c ++ d) x)

last_three : (a b c d x : List ForcedSlot) → d ≡ [] → (a ++ b) ++ ((c ++ x) ++ d) ≡ ((a ++ b) ++ (c ++ d)) ++ x
last_three a b c d x e =
    ap (λ ys. (a ++ b) ++ ((c ++ x) ++ ys)) e ∙ ap (λ ys. (a ++ b) ++ ys) (append-nil (c ++ x)) ∙ sym (append_assoc (a ++ b) c x)
    ∙ ap (λ ys. ((a ++ b) ++ ys) ++ x) (sym (append-nil c)) ∙ ap (λ ys. ((a ++ b) ++ (c ++ ys)) ++ x) (sym e)

last_two : (a b c d x : List ForcedSlot) → c ++ d ≡ [] → (a ++ (b ++ x)) ++ (c ++ d) ≡ ((a ++ b) ++ (c ++ d)) ++ x
last_two a b c d x e =
    ap (λ ys. (a ++ (b ++ x)) ++ ys) e ∙ append-nil (a ++ (b ++ x)) ∙ sym (append_assoc a b x)
    ∙ ap (λ ys. ys ++ x) (sym (append-nil (a ++ b))) ∙ ap (λ ys. ((a ++ b) ++ ys) ++ x) (sym e)

last_one : (a b c d x : List ForcedSlot) → b ≡ [] → c ++ d ≡ [] → ((a ++ x) ++ b) ++ (c ++ d) ≡ ((a ++ b) ++ (c ++ d)) ++ x
last_one a b c d x e f =
    ap (λ ys. ((a ++ x) ++ ys) ++ (c ++ d)) e ∙ ap (λ ys. ((a ++ x) ++ []) ++ ys) f ∙ append-nil ((a ++ x) ++ []) ∙ append-nil (a ++ x)
    ∙ ap (λ ys. ys ++ x) (sym (append-nil a) ∙ sym (append-nil (a ++ []))) ∙ ap (λ ys. ((a ++ []) ++ ys) ++ x) (sym f) ∙ ap (λ ys. ((a ++ ys) ++ (c ++ d)) ++ x) (sym e)

none_two : (c d : List ForcedSlot) → c ≡ [] → d ≡ [] → c ++ d ≡ []
none_two c d e f = rw (e, f) refl

-- the slot is forced behind all others
pub record IsForced (f : Forces) (n : ℕ) (v : Value) (loc : Loc) : Type 0 where
  pub next : Forces
  pub is : put_force f loc v ≡ Some next
  pub slots : forced_slots next ≡ forced_slots f ++ slot_as n v ∷ []
  pub free : AreFree (suc n) next

pub input_bit : (f : Forces) (least n : ℕ) (b : Bool) → AreFree least f → least ≤ n → n < 512 → IsForced f n (values.Bool b) (Bit areas.Input n)
input_bit f least n b free le lt =
    let within : n < length f.input.bits = omega (arith, lt, free.input_bit_count) in
    let r = set_listed values.Bool least 0 f.input.bits n n b free.input_bits (omega arith) le within in
    let bs = set f.input.bits n (Some b) in
    let next : Forces = record { input = record { bits = bs; words = f.input.words }; output = f.output } in
    let last = last_one (listed values.Bool 0 f.input.bits) (listed values.Int 1024 f.input.words) (listed values.Bool 4096 f.output.bits) (listed values.Int 5120 f.output.words) (slot_as n (values.Bool b) ∷ [])
    (none_listed values.Int least 1024 f.input.words free.input_words (omega (arith, le, lt)))
    (none_two _ _ (none_listed values.Bool least 4096 f.output.bits free.output_bits (omega (arith, le, lt))) (none_listed values.Int least 5120 f.output.words free.output_words (omega (arith, le, lt)))) in
    record {
      next = next;
      is = ap (λ t. option_map (λ (m : Mask). let g : Forces = record f { input = m } in g) (cond t (let m : Mask = record { bits = bs; words = f.input.words } in Some m) None)) (lt-ltb n (length f.input.bits) within);
      slots = slots_four next ∙ ap (λ ys. (ys ++ listed values.Int 1024 f.input.words) ++ (listed values.Bool 4096 f.output.bits ++ listed values.Int 5120 f.output.words)) r.0 ∙ last ∙ ap (λ ys. ys ++ slot_as n (values.Bool b) ∷ []) (sym (slots_four f));
      free = record {
        input_bits = r.1;
        input_words = later_free least (suc n) 1024 f.input.words (omega (arith, le)) free.input_words;
        output_bits = later_free least (suc n) 4096 f.output.bits (omega (arith, le)) free.output_bits;
        output_words = later_free least (suc n) 5120 f.output.words (omega (arith, le)) free.output_words;
        input_bit_count = set_length f.input.bits n (Some b) ∙ free.input_bit_count;
        input_word_count = free.input_word_count;
        output_bit_count = free.output_bit_count;
        output_word_count = free.output_word_count;
      };
    }

pub input_word : (f : Forces) (least n k : ℕ) (z : ℤ) → AreFree least f → least ≤ n → n ≡ 1024 + k → k < 64 → IsForced f n (values.Int z) (Word areas.Input k)
input_word f least n k z free le e lt =
    let within : k < length f.input.words = omega (arith, lt, free.input_word_count) in
    let r = set_listed values.Int least 1024 f.input.words k n z free.input_words e le within in
    let ws = set f.input.words k (Some z) in
    let next : Forces = record { input = record { bits = f.input.bits; words = ws }; output = f.output } in
    let last = last_two (listed values.Bool 0 f.input.bits) (listed values.Int 1024 f.input.words) (listed values.Bool 4096 f.output.bits) (listed values.Int 5120 f.output.words) (slot_as n (values.Int z) ∷ [])
    (none_two _ _ (none_listed values.Bool least 4096 f.output.bits free.output_bits (omega (arith, le, lt, e))) (none_listed values.Int least 5120 f.output.words free.output_words (omega (arith, le, lt, e)))) in
    record {
      next = next;
      is = ap (λ t. option_map (λ (m : Mask). let g : Forces = record f { input = m } in g) (cond t (let m : Mask = record { bits = f.input.bits; words = ws } in Some m) None)) (lt-ltb k (length f.input.words) within);
      slots = slots_four next ∙ ap (λ ys. (listed values.Bool 0 f.input.bits ++ ys) ++ (listed values.Bool 4096 f.output.bits ++ listed values.Int 5120 f.output.words)) r.0 ∙ last ∙ ap (λ ys. ys ++ slot_as n (values.Int z) ∷ []) (sym (slots_four f));
      free = record {
        input_bits = later_free least (suc n) 0 f.input.bits (omega (arith, le)) free.input_bits;
        input_words = r.1;
        output_bits = later_free least (suc n) 4096 f.output.bits (omega (arith, le)) free.output_bits;
        output_words = later_free least (suc n) 5120 f.output.words (omega (arith, le)) free.output_words;
        input_bit_count = free.input_bit_count;
        input_word_count = set_length f.input.words k (Some z) ∙ free.input_word_count;
        output_bit_count = free.output_bit_count;
        output_word_count = free.output_word_count;
      };
    }

pub output_bit : (f : Forces) (least n k : ℕ) (b : Bool) → AreFree least f → least ≤ n → n ≡ 4096 + k → k < 512 → IsForced f n (values.Bool b) (Bit areas.Output k)
output_bit f least n k b free le e lt =
    let within : k < length f.output.bits = omega (arith, lt, free.output_bit_count) in
    let r = set_listed values.Bool least 4096 f.output.bits k n b free.output_bits e le within in
    let bs = set f.output.bits k (Some b) in
    let next : Forces = record { input = f.input; output = record { bits = bs; words = f.output.words } } in
    let last = last_three (listed values.Bool 0 f.input.bits) (listed values.Int 1024 f.input.words) (listed values.Bool 4096 f.output.bits) (listed values.Int 5120 f.output.words) (slot_as n (values.Bool b) ∷ [])
    (none_listed values.Int least 5120 f.output.words free.output_words (omega (arith, le, lt, e))) in
    record {
      next = next;
      is = ap (λ t. option_map (λ (m : Mask). let g : Forces = record f { output = m } in g) (cond t (let m : Mask = record { bits = bs; words = f.output.words } in Some m) None)) (lt-ltb k (length f.output.bits) within);
      slots = slots_four next ∙ ap (λ ys. (listed values.Bool 0 f.input.bits ++ listed values.Int 1024 f.input.words) ++ (ys ++ listed values.Int 5120 f.output.words)) r.0 ∙ last ∙ ap (λ ys. ys ++ slot_as n (values.Bool b) ∷ []) (sym (slots_four f));
      free = record {
        input_bits = later_free least (suc n) 0 f.input.bits (omega (arith, le)) free.input_bits;
        input_words = later_free least (suc n) 1024 f.input.words (omega (arith, le)) free.input_words;
        output_bits = r.1;
        output_words = later_free least (suc n) 5120 f.output.words (omega (arith, le)) free.output_words;
        input_bit_count = free.input_bit_count;
        input_word_count = free.input_word_count;
        output_bit_count = set_length f.output.bits k (Some b) ∙ free.output_bit_count;
        output_word_count = free.output_word_count;
      };
    }

pub output_word : (f : Forces) (least n k : ℕ) (z : ℤ) → AreFree least f → least ≤ n → n ≡ 5120 + k → k < 64 → IsForced f n (values.Int z) (Word areas.Output k)
output_word f least n k z free le e lt =
    let within : k < length f.output.words = omega (arith, lt, free.output_word_count) in
    let r = set_listed values.Int least 5120 f.output.words k n z free.output_words e le within in
    let ws = set f.output.words k (Some z) in
    let next : Forces = record { input = f.input; output = record { bits = f.output.bits; words = ws } } in
    let last = last_four (listed values.Bool 0 f.input.bits) (listed values.Int 1024 f.input.words) (listed values.Bool 4096 f.output.bits) (listed values.Int 5120 f.output.words) (slot_as n (values.Int z) ∷ []) in
    record {
      next = next;
      is = ap (λ t. option_map (λ (m : Mask). let g : Forces = record f { output = m } in g) (cond t (let m : Mask = record { bits = f.output.bits; words = ws } in Some m) None)) (lt-ltb k (length f.output.words) within);
      slots = slots_four next ∙ ap (λ ys. (listed values.Bool 0 f.input.bits ++ listed values.Int 1024 f.input.words) ++ (listed values.Bool 4096 f.output.bits ++ ys)) r.0 ∙ last ∙ ap (λ ys. ys ++ slot_as n (values.Int z) ∷ []) (sym (slots_four f));
      free = record {
        input_bits = later_free least (suc n) 0 f.input.bits (omega (arith, le)) free.input_bits;
        input_words = later_free least (suc n) 1024 f.input.words (omega (arith, le)) free.input_words;
        output_bits = later_free least (suc n) 4096 f.output.bits (omega (arith, le)) free.output_bits;
        output_words = r.1;
        input_bit_count = free.input_bit_count;
        input_word_count = free.input_word_count;
        output_bit_count = free.output_bit_count;
        output_word_count = set_length f.output.words k (Some z) ∙ free.output_word_count;
      };
    }

-- the location of a slot, and the forces with it forced
pub record IsTaken (f : Forces) (n : ℕ) (v : Value) : Type 0 where
  pub loc : Loc
  pub at : any_loc n ≡ Some loc
  pub forced : IsForced f n v loc

pub taken : (f : Forces) (least n : ℕ) (v : Value) → AreFree least f → least ≤ n → Forcible n v → IsTaken f n v
taken f least n v free le (InputBit n2 b lt at) = record { loc = Bit areas.Input n; at = at; forced = input_bit f least n b free le lt }
taken f least n v free le (InputWord n2 z low lt at) = record { loc = Word areas.Input (n - 1024); at = at; forced = input_word f least n (n - 1024) z free le (omega (arith, low)) (omega (arith, low, lt)) }
taken f least n v free le (OutputBit n2 b low lt at) = record { loc = Bit areas.Output (n - 4096); at = at; forced = output_bit f least n (n - 4096) b free le (omega (arith, low)) (omega (arith, low, lt)) }
taken f least n v free le (OutputWord n2 z low lt at) = record { loc = Word areas.Output (n - 4096 - 1024); at = at; forced = output_word f least n (n - 4096 - 1024) z free le (omega (arith, low)) (omega (arith, low, lt)) }
