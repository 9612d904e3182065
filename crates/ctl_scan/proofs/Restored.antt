-- Forces to slots, and back, one at a time.
use Rattle.std.proofs.Common.{◌≡◌, ℕ, zero, suc, ◌+◌, ◌<◌, ◌≤◌, Bool, true, List, [], ◌∷◌, ◌++◌, length, take, drop, get_or, Option, Some, None, refl, sym, ap, subst, ◌∙◌, arith, append_assoc}
use Rattle.std.specs.Prelude.{◌&&◌, nat_le, unwrap_or, ℤ}
use Rattle.std.proofs.Math.Seq.{drop-cons}
use Rattle.std.proofs.lemmas.Bool.{leb-true}
use Rattle.il_values.specs.declared.value.Value.{Value}
use Rattle.il_values.specs.declared.value.Value.TheVariants as values
use Rattle.il_model.specs.declared.program.Loc.{Loc}
use Rattle.il_model.specs.declared.snapshot.ForcedSlot.{ForcedSlot}
use Rattle.il_model.specs.CodedOperands.{any_loc}
use Rattle.il_model.proofs.RowTypes.{and_yes}
use Rattle.ctl_model.specs.declared.forces.Forces.{Forces}
use Rattle.ctl_model.specs.Forces.{put_force, no_forces}
use Rattle.ctl_model.specs.Commands.{forcible_at}
use Rattle.ctl_model.specs.Snapshots.{forced_bits, forced_words, forced_slots, fits_location, fit_forces}
use Rattle.ctl_model.proofs.Rising.{forces_from, forces_fit}
use Rattle.ctl_scan.specs.Kept.{forced_word}
use Rattle.ctl_model.proofs.ForcedSlots.{slot_as, listed, bits_listed, words_listed, AreFree, IsTaken, forcible_by, taken, no_forces_free}

-- ---- to slots

none_some : {A : Type 0} (x : A) → None ≡ Some x → ⊥
none_some x e = cc

some_slot : (a b : ForcedSlot) → Some a ≡ Some b → a ≡ b
some_slot a b e = cc

take_none : {A : Type 0} (g : A → Value) (n : ℕ) (ms : List (Option A)) (i : ℕ) (d : Option A) → i < length ms → get_or ms i d ≡ None → listed g n (take (suc i) ms) ≡ listed g n (take i ms)
take_none g n [] i d lt e = absurd (omega (arith, lt))
take_none g n (None ∷ ms) zero d lt e = refl
take_none g n (Some x ∷ ms) zero d lt e = absurd cc
take_none g n (None ∷ ms) (suc i) d lt e = take_none g (suc n) ms i d (omega (arith, lt)) e
take_none g n (Some x ∷ ms) (suc i) d lt e = ap (λ ys. slot_as n (g x) ∷ ys) (take_none g (suc n) ms i d (omega (arith, lt)) e)

take_some : {A : Type 0} (g : A → Value) (n : ℕ) (ms : List (Option A)) (i p : ℕ) (d : Option A) (x : A) → i < length ms → p ≡ n + i → get_or ms i d ≡ Some x → listed g n (take (suc i) ms) ≡ listed g n (take i ms) ++ slot_as p (g x) ∷ []
take_some g n [] i p d x lt e f = absurd (omega (arith, lt))
take_some g n (None ∷ ms) zero p d x lt e f = absurd cc
take_some g n (Some y ∷ ms) zero p d x lt e f = let is : y ≡ x = cc in let at : n ≡ p = omega (arith, e) in ap (λ z. slot_as n (g z) ∷ []) is ∙ ap (λ q. slot_as q (g x) ∷ []) at
take_some g n (None ∷ ms) (suc i) p d x lt e f = take_some g (suc n) ms i p d x (omega (arith, lt)) (omega (arith, e)) f
take_some g n (Some y ∷ ms) (suc i) p d x lt e f = ap (λ ys. slot_as n (g y) ∷ ys) (take_some g (suc n) ms i p d x (omega (arith, lt)) (omega (arith, e)) f)

pub bits_next : (before now after : List ForcedSlot) (n i p : ℕ) (ms : List (Option Bool)) (d : Option Bool) (b : Bool) → i < length ms → p ≡ n + i → get_or ms i d ≡ Some b → now ≡ before ++ forced_bits n (take i ms) → after ≡ now ++ slot_as p (values.Bool b) ∷ [] → after ≡ before ++ forced_bits n (take (i + 1) ms)
bits_next before now after n i p ms d b lt at is h e =
    let one : i + 1 ≡ suc i = omega arith in
    e ∙ ap (λ ys. ys ++ slot_as p (values.Bool b) ∷ []) h ∙ append_assoc before (forced_bits n (take i ms)) (slot_as p (values.Bool b) ∷ [])
    ∙ ap (λ ys. before ++ ys) (ap (λ ys. ys ++ slot_as p (values.Bool b) ∷ []) (bits_listed n (take i ms)) ∙ sym (take_some values.Bool n ms i p d b lt at is) ∙ sym (bits_listed n (take (suc i) ms)) ∙ ap (λ k. forced_bits n (take k ms)) (sym one))

pub bits_same : (before now : List ForcedSlot) (n i : ℕ) (ms : List (Option Bool)) (d : Option Bool) → i < length ms → get_or ms i d ≡ None → now ≡ before ++ forced_bits n (take i ms) → now ≡ before ++ forced_bits n (take (i + 1) ms)
bits_same before now n i ms d lt is h =
    let one : i + 1 ≡ suc i = omega arith in
    h ∙ ap (λ ys. before ++ ys) (bits_listed n (take i ms) ∙ sym (take_none values.Bool n ms i d lt is) ∙ sym (bits_listed n (take (suc i) ms)) ∙ ap (λ k. forced_bits n (take k ms)) (sym one))

pub words_next : (before now after : List ForcedSlot) (n i p : ℕ) (ms : List (Option ℤ)) (d : Option ℤ) (z : ℤ) → i < length ms → p ≡ n + i → get_or ms i d ≡ Some z → now ≡ before ++ forced_words n (take i ms) → after ≡ now ++ slot_as p (values.Int z) ∷ [] → after ≡ before ++ forced_words n (take (i + 1) ms)
words_next before now after n i p ms d z lt at is h e =
    let one : i + 1 ≡ suc i = omega arith in
    e ∙ ap (λ ys. ys ++ slot_as p (values.Int z) ∷ []) h ∙ append_assoc before (forced_words n (take i ms)) (slot_as p (values.Int z) ∷ [])
    ∙ ap (λ ys. before ++ ys) (ap (λ ys. ys ++ slot_as p (values.Int z) ∷ []) (words_listed n (take i ms)) ∙ sym (take_some values.Int n ms i p d z lt at is) ∙ sym (words_listed n (take (suc i) ms)) ∙ ap (λ k. forced_words n (take k ms)) (sym one))

pub words_same : (before now : List ForcedSlot) (n i : ℕ) (ms : List (Option ℤ)) (d : Option ℤ) → i < length ms → get_or ms i d ≡ None → now ≡ before ++ forced_words n (take i ms) → now ≡ before ++ forced_words n (take (i + 1) ms)
words_same before now n i ms d lt is h =
    let one : i + 1 ≡ suc i = omega arith in
    h ∙ ap (λ ys. before ++ ys) (words_listed n (take i ms) ∙ sym (take_none values.Int n ms i d lt is) ∙ sym (words_listed n (take (suc i) ms)) ∙ ap (λ k. forced_words n (take k ms)) (sym one))

word_by : (m : Option ℤ) (before now after : List ForcedSlot) (n i p : ℕ) (ms : List (Option ℤ)) (d : Option ℤ) (o : Option ForcedSlot) (x : ForcedSlot) → get_or ms i d ≡ m → i < length ms → p ≡ n + i → o ≡ forced_word p m → o ≡ Some x → now ≡ before ++ forced_words n (take i ms) → after ≡ now ++ x ∷ [] → after ≡ before ++ forced_words n (take (i + 1) ms)
word_by None before now after n i p ms d o x m lt at is some h e = absurd (none_some x (sym is ∙ some))
word_by (Some z) before now after n i p ms d o x m lt at is some h e =
    let same = some_slot (slot_as p (values.Int z)) x (sym is ∙ some) in
    words_next before now after n i p ms d z lt at m h (e ∙ ap (λ (y : ForcedSlot). now ++ y ∷ []) (sym same))

pub word_step : (before now after : List ForcedSlot) (n i p : ℕ) (ms : List (Option ℤ)) (d : Option ℤ) (o : Option ForcedSlot) (x : ForcedSlot) → i < length ms → p ≡ n + i → o ≡ forced_word p (get_or ms i d) → o ≡ Some x → now ≡ before ++ forced_words n (take i ms) → after ≡ now ++ x ∷ [] → after ≡ before ++ forced_words n (take (i + 1) ms)
word_step before now after n i p ms d o x lt at is some h e = word_by (get_or ms i d) before now after n i p ms d o x refl lt at is some h e

free_by : (m : Option ℤ) (p : ℕ) (o : Option ForcedSlot) → o ≡ forced_word p m → o ≡ None → m ≡ None
free_by None p o is none = refl
free_by (Some z) p o is none = absurd (none_some (slot_as p (values.Int z)) (sym none ∙ is))

pub word_free : (before now : List ForcedSlot) (n i p : ℕ) (ms : List (Option ℤ)) (d : Option ℤ) (o : Option ForcedSlot) → i < length ms → o ≡ forced_word p (get_or ms i d) → o ≡ None → now ≡ before ++ forced_words n (take i ms) → now ≡ before ++ forced_words n (take (i + 1) ms)
word_free before now n i p ms d o lt is none h = words_same before now n i ms d lt (free_by (get_or ms i d) p o is none) h

-- ---- and back

-- the slots that are left are above all that is forced
pub record IsNext (f : Forces) (rest : List ForcedSlot) : Type 0 where
  pub least : ℕ
  pub free : AreFree least f
  pub fits : forces_from least rest ≡ true

pub record IsStep (f : Forces) (all : List ForcedSlot) (i : ℕ) : Type 0 where
  pub slots : forced_slots f ≡ take i all
  pub next : IsNext f (drop i all)

pub begins : (slots : List ForcedSlot) → fit_forces slots ≡ true → IsNext no_forces slots
begins slots h = record { least = 0; free = no_forces_free; fits = forces_fit slots ∙ h }

take_suc : (xs : List ForcedSlot) (i : ℕ) (d : ForcedSlot) → i < length xs → take (suc i) xs ≡ take i xs ++ get_or xs i d ∷ []
take_suc [] i d lt = absurd (omega (arith, lt))
take_suc (x ∷ xs) zero d lt = refl
take_suc (x ∷ xs) (suc i) d lt = ap (λ ys. x ∷ ys) (take_suc xs i d (omega (arith, lt)))

-- what is known of the slot that comes next
record IsHere (f : Forces) (later : List ForcedSlot) (x : ForcedSlot) : Type 0 where
  least : ℕ
  free : AreFree least f
  above : least ≤ x.slot.0
  taken : IsTaken f x.slot.0 x.value
  rest : forces_from (suc x.slot.0) later ≡ true

here_by : (f : Forces) (least : ℕ) (x : ForcedSlot) (rest : List ForcedSlot) → AreFree least f → forces_from least (x ∷ rest) ≡ true → IsHere f rest x
here_by f least x rest free h =
    let a = and_yes (nat_le least x.slot.0) (fits_location x.value (forcible_at x.slot.0) && forces_from (suc x.slot.0) rest) h in
    let b = and_yes (fits_location x.value (forcible_at x.slot.0)) (forces_from (suc x.slot.0) rest) a.1 in
    let le : least ≤ x.slot.0 = leb-true least x.slot.0 a.0 in
    record { least = least; free = free; above = le; taken = taken f least x.slot.0 x.value free le (forcible_by x.slot.0 x.value b.0); rest = b.1 }

here : (f : Forces) (slots : List ForcedSlot) (i : ℕ) (x d : ForcedSlot) → i < length slots → get_or slots i d ≡ x → IsNext f (drop i slots) → IsHere f (drop (suc i) slots) x
here f slots i x d lt is next =
    here_by f next.least x (drop (suc i) slots) next.free (ap (forces_from next.least) (ap (λ (y : ForcedSlot). y ∷ drop (suc i) slots) (sym is) ∙ sym (drop-cons slots i d lt)) ∙ next.fits)

no_both : (l : Loc) → None ≡ Some l → ⊥
no_both l e = cc

some_same : {A : Type 0} (a b : A) → Some a ≡ Some b → a ≡ b
some_same a b e = cc

pub goes_on : (f new : Forces) (slots : List ForcedSlot) (i : ℕ) (x d : ForcedSlot) (loc : Loc) → i < length slots → get_or slots i d ≡ x → forced_slots f ≡ take i slots → IsNext f (drop i slots) → any_loc x.slot.0 ≡ Some loc → new ≡ unwrap_or (put_force f loc x.value) f → IsStep new slots (i + 1)
goes_on f new slots i x d loc lt is done next at becomes =
    let h = here f slots i x d lt is next in
    let one : i + 1 ≡ suc i = omega arith in
    let same = some_same loc h.taken.loc (sym at ∙ h.taken.at) in
    let result : new ≡ h.taken.forced.next = becomes ∙ ap (λ (l : Loc). unwrap_or (put_force f l x.value) f) same ∙ ap (λ (o : Option Forces). unwrap_or o f) h.taken.forced.is in
    record {
      slots = ap forced_slots result ∙ h.taken.forced.slots ∙ ap (λ ys. ys ++ x ∷ []) done ∙ ap (λ (y : ForcedSlot). take i slots ++ y ∷ []) (sym is) ∙ sym (take_suc slots i d lt) ∙ ap (λ n. take n slots) (sym one);
      next = record {
        least = suc x.slot.0;
        free = subst (AreFree (suc x.slot.0)) (sym result) h.taken.forced.free;
        fits = ap (λ n. forces_from (suc x.slot.0) (drop n slots)) one ∙ h.rest;
      };
    }

pub never_none : (f : Forces) (slots : List ForcedSlot) (i : ℕ) (x d : ForcedSlot) → i < length slots → get_or slots i d ≡ x → IsNext f (drop i slots) → any_loc x.slot.0 ≡ None → ⊥
never_none f slots i x d lt is next at =
    let h = here f slots i x d lt is next in
    no_both h.taken.loc (sym at ∙ h.taken.at)
