-- The loop that reads several records.
use Rattle.std.proofs.Common.{◌≡◌, ℕ, ◌+◌, ◌≤◌, List, [], ◌∷◌, ◌++◌, Vec, Global, drop, length, map, refl, sym, subst, append_assoc, arith, length-drop}
use Rattle.vr_model.specs.declared.event.Event.{Event}
use Rattle.std.proofs.lemmas.List.{append-nil, nil_from_length}
use Rattle.vr_kept.specs.Inputs.{IsOf, IsOfNone, AreOf, AreOfNone}

-- of these records all but those that are left are read
pub record AreSoFar (bs left : List (List ℕ)) (found : List Event) : Type 0 where
  pub sound : (rest : List Event) → AreOf left rest → AreOf bs (found ++ rest)
  pub whole : (es : List Event) → AreOf bs es → (rest : List Event) × AreOf left rest

pub none_so_far : (bs : List (List ℕ)) → AreSoFar bs bs []
none_so_far bs = record { sound = λ rest h. h; whole = λ es h. (es, h) }

pub one_more : (bs : List (List ℕ)) (b : List ℕ) (left : List (List ℕ)) (found : List Event) (e : Event) → AreSoFar bs (b ∷ left) found → IsOf b e → AreSoFar bs left (found ++ e ∷ [])
one_more bs b left found e s is = record {
  sound = λ rest h. subst (λ (es : List Event). AreOf bs es) (sym (append_assoc found (e ∷ []) rest)) (s.sound (e ∷ rest) (is, h));
  whole = λ es h. behind (s.whole es h);
}
  where
    behind : ((rest : List Event) × AreOf (b ∷ left) rest) → (rest : List Event) × AreOf left rest
    behind ([], h) = absurd h
    behind (x ∷ rest, h) = (rest, h.1)

pub no_more : (bs : List (List ℕ)) (b : List ℕ) (left : List (List ℕ)) (found : List Event) → AreSoFar bs (b ∷ left) found → IsOfNone b → AreOfNone bs
no_more bs b left found s none es h = first (s.whole es h)
  where
    first : ((rest : List Event) × AreOf (b ∷ left) rest) → ⊥
    first ([], k) = k
    first (x ∷ rest, k) = none x k.0

pub all_read : (bs : List (List ℕ)) (found : List Event) → AreSoFar bs [] found → AreOf bs found
all_read bs found s = subst (λ (es : List Event). AreOf bs es) e (s.sound [] tt)
  where
    e : found ++ [] ≡ found
    e = append-nil found

-- ---- at a place of the records

module _ (rs : List (Vec ℕ Global)) (i : ℕ) (r : Vec ℕ Global) (found : List Event) (there : drop i rs ≡ r ∷ drop (i + 1) rs) (so : AreSoFar (map (λ v. v.items) rs) (map (λ v. v.items) (drop i rs)) found) where
  here : AreSoFar (map (λ v. v.items) rs) (r.items ∷ map (λ v. v.items) (drop (i + 1) rs)) found
  here = subst (λ (vs : List (Vec ℕ Global)). AreSoFar (map (λ v. v.items) rs) (map (λ v. v.items) vs) found) there so

  pub one_more_at : (b : List ℕ) (e : Event) (found' : List Event) → b ≡ r.items → IsOf b e → found' ≡ found ++ e ∷ [] → AreSoFar (map (λ v. v.items) rs) (map (λ v. v.items) (drop (i + 1) rs)) found'
  one_more_at b e found' same is grown =
      subst (λ (es : List Event). AreSoFar (map (λ v. v.items) rs) (map (λ v. v.items) (drop (i + 1) rs)) es) (sym grown)
      (one_more (map (λ v. v.items) rs) r.items (map (λ v. v.items) (drop (i + 1) rs)) found e here (subst (λ (bs : List ℕ). IsOf bs e) same is))

  pub no_more_at : (b : List ℕ) → b ≡ r.items → IsOfNone b → AreOfNone (map (λ v. v.items) rs)
  no_more_at b same none = no_more (map (λ v. v.items) rs) r.items (map (λ v. v.items) (drop (i + 1) rs)) found here (subst (λ (bs : List ℕ). IsOfNone bs) same none)

pub all_read_at : (rs : List (Vec ℕ Global)) (i : ℕ) (found : List Event) → length rs ≤ i → AreSoFar (map (λ v. v.items) rs) (map (λ v. v.items) (drop i rs)) found → AreOf (map (λ v. v.items) rs) found
all_read_at rs i found le so =
    let none : drop i rs ≡ [] = nil_from_length (drop i rs) (omega (arith, length-drop i rs)) in
    all_read (map (λ v. v.items) rs) found (subst (λ (vs : List (Vec ℕ Global)). AreSoFar (map (λ v. v.items) rs) (map (λ v. v.items) vs) found) none so)
