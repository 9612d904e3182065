-- Reading item after item, as a loop does.
use Rattle.std.proofs.Common.{◌≡◌, ℕ, zero, suc, false, eqb, length, ◌-◌, ◌+◌, ◌≤◌, ◌<◌, List, [], ◌∷◌, ◌++◌, Option, Some, None, refl, sym, ap, ◌∙◌, append_assoc, arith}
use Rattle.std.proofs.Math.Dec.{eqb-suc-zero}
use Rattle.std.proofs.lemmas.List.{append-nil}
use Rattle.vr_wire.specs.declared.fault.ReadError.{ReadError}
use Rattle.vr_wire.specs.declared.fault.ReadError.TheVariants as errors
use Rattle.vr_wire.specs.Reading.{◌>>=◌, Fails, items_at, end_of, ended}

-- what was read before, and what is still read
abbrev pub with_front : {X : Type 0} → List X → Option (List X × List ℕ) → Option (List X × List ℕ)
with_front front read = read >>= λ x. Some (front ++ x.0, x.1)

regroup : {X : Type 0} (front : List X) (x : X) (read : Option (List X × List ℕ)) → with_front front (read >>= λ xs. Some (x ∷ xs.0, xs.1)) ≡ with_front (front ++ x ∷ []) read
regroup {X} front x (Some xs) = ap (λ (ys : List X). Some (ys, xs.1)) (simp append_assoc)
regroup front x None = refl

pub goes_on : {X : Type 0} (item : List ℕ → Option (X × List ℕ)) (front : List X) (count i : ℕ) (bytes : List ℕ) (x : X) (after : List ℕ) (total : Option (List X × List ℕ)) → i < count → item bytes ≡ Some (x, after)
    → with_front front (items_at item (count - i) bytes) ≡ total → with_front (front ++ x ∷ []) (items_at item (count - (i + 1)) after) ≡ total
unfolding items_at
goes_on item front count i bytes x after total lt h so_far =
    let k : count - i ≡ suc (count - (i + 1)) = omega arith in
    let one : with_front front (items_at item (count - i) bytes) ≡ with_front (front ++ x ∷ []) (items_at item (count - (i + 1)) after) = rw (k, h) (regroup front x (items_at item (count - (i + 1)) after)) in
    sym one ∙ so_far

pub ends : {X : Type 0} (e : ReadError) (item : List ℕ → Option (X × List ℕ)) (front : List X) (count i : ℕ) (bytes : List ℕ) (total : Option (List X × List ℕ)) → i < count → Fails e (item bytes)
    → with_front front (items_at item (count - i) bytes) ≡ total → Fails e total
unfolding items_at
ends errors.Memory item front count i bytes total lt h so_far = tt
ends errors.Malformed item front count i bytes total lt h so_far =
    let k : count - i ≡ suc (count - (i + 1)) = omega arith in
    let one : with_front front (items_at item (count - i) bytes) ≡ None = rw (k, h) refl in
    sym so_far ∙ one

pub is_done : {X : Type 0} (item : List ℕ → Option (X × List ℕ)) (front : List X) (count i : ℕ) (bytes : List ℕ) (total : Option (List X × List ℕ)) → count ≤ i → with_front front (items_at item (count - i) bytes) ≡ total → total ≡ Some (front, bytes)
unfolding items_at
is_done {X} item front count i bytes total le so_far =
    let k : count - i ≡ 0 = omega arith in
    let one : with_front front (items_at item (count - i) bytes) ≡ Some (front, bytes) = rw k (ap (λ (xs : List X). Some (xs, bytes)) (append-nil front)) in
    sym so_far ∙ one

-- ---- where items end

pub past_made : {A B : Type 0} (make : A → B) (read : Option (A × List ℕ)) → end_of (λ bytes. read >>= λ x. Some (make x.0, x.1)) [] ≡ end_of (λ bytes. read) []
past_made make (Some x) = refl
past_made make None = refl

pub one_past : {X : Type 0} (item : List ℕ → Option (X × List ℕ)) (n : ℕ) (bytes after : List ℕ) (read : Option (X × List ℕ)) → item bytes ≡ read → (read >>= λ x. Some x.1) ≡ Some after
    → end_of (items_at item (suc n)) bytes ≡ end_of (items_at item n) after
unfolding items_at
one_past {X} item n bytes after (Some x) h e = let is : x.1 ≡ after = cc in rw (h, ← is) (past_made (λ (xs : List X). x.0 ∷ xs) (items_at item n x.1))
one_past item n bytes after None h e = absurd cc

pub none_past : {X : Type 0} (item : List ℕ → Option (X × List ℕ)) (n : ℕ) (bytes : List ℕ) (read : Option (X × List ℕ)) → item bytes ≡ read → (read >>= λ x. Some x.1) ≡ None → end_of (items_at item (suc n)) bytes ≡ None
unfolding items_at
none_past item n bytes (Some x) h e = absurd cc
none_past item n bytes None h e = rw h refl

pub end_goes_on : {X : Type 0} (item : List ℕ → Option (X × List ℕ)) (count i : ℕ) (bytes after : List ℕ) (total : Option (List ℕ)) → i < count → end_of item bytes ≡ Some after
    → end_of (items_at item (count - i)) bytes ≡ total → end_of (items_at item (count - (i + 1))) after ≡ total
end_goes_on item count i bytes after total lt h so_far =
    let k : count - i ≡ suc (count - (i + 1)) = omega arith in
    sym (one_past item (count - (i + 1)) bytes after (item bytes) refl h) ∙ (ap (λ (n : ℕ). end_of (items_at item n) bytes) (sym k) ∙ so_far)

pub end_fails : {X : Type 0} (e : ReadError) (item : List ℕ → Option (X × List ℕ)) (count i : ℕ) (bytes : List ℕ) (total : Option (List ℕ)) → i < count → Fails e (end_of item bytes) → end_of (items_at item (count - i)) bytes ≡ total → Fails e total
end_fails errors.Memory item count i bytes total lt h so_far = tt
end_fails errors.Malformed item count i bytes total lt h so_far =
    let k : count - i ≡ suc (count - (i + 1)) = omega arith in
    sym so_far ∙ (ap (λ (n : ℕ). end_of (items_at item n) bytes) k ∙ none_past item (count - (i + 1)) bytes (item bytes) refl h)

pub end_done : {X : Type 0} (item : List ℕ → Option (X × List ℕ)) (count i : ℕ) (bytes : List ℕ) (total : Option (List ℕ)) → count ≤ i → end_of (items_at item (count - i)) bytes ≡ total → total ≡ Some bytes
unfolding items_at
end_done item count i bytes total le so_far = let k : count - i ≡ 0 = omega arith in sym so_far ∙ rw k refl

-- what ends where all of the bytes do is all of them
pub whole_read : {X : Type 0} (read : Option (X × List ℕ)) (x : X) (after behind : List ℕ) → (read >>= λ y. Some y.1) ≡ Some behind → length behind ≡ 0 → read ≡ Some (x, after) → (read >>= λ y. ended y.0 y.1) ≡ Some x
whole_read (Some y) x after behind e none is = let one : y.1 ≡ behind = cc in let same : y.0 ≡ x = cc in rw (one, none, same) refl
whole_read None x after behind e none is = absurd cc

not_none : (n : ℕ) → 0 < n → eqb n 0 ≡ false
not_none zero lt = absurd (omega arith)
not_none (suc n) lt = eqb-suc-zero _

pub more_read : {X : Type 0} (read : Option (X × List ℕ)) (behind : List ℕ) → (read >>= λ y. Some y.1) ≡ Some behind → 0 < length behind → (read >>= λ y. ended y.0 y.1) ≡ None
more_read (Some y) behind e some = let one : y.1 ≡ behind = cc in let more : eqb (length behind) 0 ≡ false = not_none (length behind) some in rw (one, more) refl
more_read None behind e some = refl

pub none_read : {X : Type 0} (read : Option (X × List ℕ)) → (read >>= λ y. Some y.1) ≡ None → (read >>= λ y. ended y.0 y.1) ≡ None
none_read (Some y) e = absurd cc
none_read None e = refl
