-- What was opened over a connection was sealed there, or one of these records was forged.
use Rattle.std.proofs.Common.{◌≡◌, ℕ, zero, suc, ◌+◌, ◌^◌, ◌<◌, ◌≤◌, ◌⊎◌, inl, inr, List, [], ◌∷◌, ◌++◌, length, map, drop, Bool, true, false, refl, sym, ap, ap₂, subst, ◌∙◌, arith}
use Rattle.std.specs.Prelude.{Contains, Some, bytes_eq, slice_get}
use Rattle.std.specs.Bool.{Decides}
use Rattle.std.specs.List.{AllByRecursion}
use Rattle.std.proofs.lemmas.List.{drop-drop}
use Rattle.std.proofs.lemmas.List.Concat.{flat_map-cons}
use Rattle.std.proofs.lemmas.Slice.Eq.{bytes_eq-Decides}
use Rattle.net_keys.specs.Challenges.{FitsChallenge}
use Rattle.net_keys.specs.Sealing.{text_of}
use Rattle.net_keys.specs.Meeting.{connection_key, terms_of}
use Rattle.net_keys.specs.Forging.{AreOpened, FitsSealed, HasForged, IsForged, IsSealedThere, OnlySealedIsHeard, Sealed, all_summed, bodies_of, summed_by, texts_from}
use Rattle.net_keys.specs.declared.challenge.Challenge.{Challenge}
use Rattle.net_keys.specs.declared.sealing.Side.{Side}
use Rattle.net_keys.proofs.Texts.{record_told, connection_told}

-- ---- whether a list has a pair

abbrev Pair : Type 0
Pair = List ℕ × List ℕ

contains_none : {A : Type 0} (x : A) → Contains [] x → ⊥
contains_none x has = absurd (omega (arith, has.1))

contains_cons : {A : Type 0} (y : A) (ys : List A) (x : A) → Contains (y ∷ ys) x → (y ≡ x) ⊎ Contains ys x
contains_cons y ys x (zero, lt, is) = inl is
contains_cons y ys x (suc k, lt, is) = inr (k, omega arith, is)

contains_append : {A : Type 0} (xs ys : List A) (x : A) → Contains (xs ++ ys) x → Contains xs x ⊎ Contains ys x
contains_append [] ys x has = inr has
contains_append (y ∷ xs) ys x has = elim (contains_cons y (xs ++ ys) x has) [
  | inl e ↦ inl (0, omega arith, e)
  | inr c ↦ elim (contains_append xs ys x c) [ inl d ↦ inl (suc d.0, omega arith, d.2) | inr d ↦ inr d ]
]

decided : (b : Bool) (P : Type 0) → Decides b P → P ⊎ (P → ⊥)
decided true P d = inl (d.0 refl)
decided false P d = inr (λ p. let no : false ≡ true = d.1 p in cc)

same_or_not : (xs ys : List ℕ) → (xs ≡ ys) ⊎ (xs ≡ ys → ⊥)
same_or_not xs ys = decided (bytes_eq xs ys) (xs ≡ ys) (bytes_eq-Decides xs ys)

both_or_not : (p q : Pair) → (p.0 ≡ q.0) ⊎ (p.0 ≡ q.0 → ⊥) → (p.1 ≡ q.1) ⊎ (p.1 ≡ q.1 → ⊥) → (p ≡ q) ⊎ (p ≡ q → ⊥)
both_or_not p q (inl a) (inl b) = inl (λ i. (a i, b i))
both_or_not p q (inl a) (inr differ) = inr (λ e. differ (ap (λ (x : Pair). x.1) e))
both_or_not p q (inr differ) b = inr (λ e. differ (ap (λ (x : Pair). x.0) e))

has_with : (x : Pair) (xs : List Pair) (p : Pair) → (x ≡ p) ⊎ (x ≡ p → ⊥) → Contains xs p ⊎ (Contains xs p → ⊥) → Contains (x ∷ xs) p ⊎ (Contains (x ∷ xs) p → ⊥)
has_with x xs p (inl is) others = inl (0, omega arith, is)
has_with x xs p (inr differ) (inl has) = inl (suc has.0, omega arith, has.2)
has_with x xs p (inr differ) (inr none) = inr (λ h. elim (contains_cons x xs p h) [ inl e ↦ differ e | inr c ↦ none c ])

has_or_not : (xs : List Pair) (p : Pair) → Contains xs p ⊎ (Contains xs p → ⊥)
has_or_not [] p = inr (contains_none p)
has_or_not (x ∷ xs) p = has_with x xs p (both_or_not x p (same_or_not x.0 p.0) (same_or_not x.1 p.1)) (has_or_not xs p)

all_at : (all : List Sealed) (s : Sealed) → AllByRecursion FitsSealed all → Contains all s → FitsSealed s
all_at [] s each has = absurd (contains_none s has)
all_at (x ∷ all) s each has = elim (contains_cons x all s has) [ inl e ↦ subst FitsSealed e each.0 | inr c ↦ all_at all s each.1 c ]

-- ---- where a text is from

-- one of these bodies, which have numbers from here on, has this text
abbrev HasText : Side → ℕ → List (List ℕ) → List ℕ → Type 0
HasText side from [] text = ⊥
HasText side from (body ∷ bodies) text = (text_of side from body ≡ text) ⊎ HasText side (from + 1) bodies text

text_among : (side : Side) (from : ℕ) (bodies : List (List ℕ)) (terms : List ℕ) (p : Pair) → Contains (map (λ text. (terms, text)) (texts_from side from bodies)) p → (terms ≡ p.0) × HasText side from bodies p.1
text_among side from [] terms p has = absurd (contains_none p has)
text_among side from (body ∷ bodies) terms p has = elim (contains_cons (terms, text_of side from body) (map (λ text. (terms, text)) (texts_from side (from + 1) bodies)) p has) [
  | inl e ↦ (ap (λ (x : Pair). x.0) e, inl (ap (λ (x : Pair). x.1) e))
  | inr c ↦ let rest = text_among side (from + 1) bodies terms p c in (rest.0, inr rest.1)
]

record Source (all : List Sealed) (p : Pair) : Type 0 where
  one : Sealed
  among : Contains all one
  terms_are : terms_of one.dialler one.listener ≡ p.0
  has_text : HasText one.side 0 one.bodies p.1

source : (all : List Sealed) (p : Pair) → Contains (all_summed all) p → Source all p
source [] p has = absurd (contains_none p has)
source (s ∷ all) p has =
    let parts : Contains (summed_by s ++ all_summed all) p = subst (λ (l : List Pair). Contains l p) (flat_map-cons summed_by s all) has in
    elim (contains_append (summed_by s) (all_summed all) p parts) [
      | inl c ↦ let is = text_among s.side 0 s.bodies (terms_of s.dialler s.listener) p c in
          record { one = s; among = (0, omega arith, refl); terms_are = is.0; has_text = is.1 }
      | inr c ↦ let rest = source all p c in
          record { one = rest.one; among = (suc rest.among.0, omega arith, rest.among.2); terms_are = rest.terms_are; has_text = rest.has_text }
    ]

-- this body stands at a place
record At (bodies : List (List ℕ)) (place : ℕ) (body : List ℕ) : Type 0 where
  rest : List (List ℕ)
  is : drop place bodies ≡ body ∷ rest

record Found (side other : Side) (from number : ℕ) (bodies : List (List ℕ)) (body : List ℕ) : Type 0 where
  side_is : side ≡ other
  place : ℕ
  number_is : from + place ≡ number
  at : At bodies place body

found : (side other : Side) (from number : ℕ) (bodies : List (List ℕ)) (body : List ℕ) → from + length bodies ≤ 2 ^ 64 → number < 2 ^ 64 → HasText side from bodies (text_of other number body) → Found side other from number bodies body
found side other from number [] body fits lt has = absurd has
found side other from number (b ∷ bs) body fits lt (inl e) =
    let told = record_told side other from number b body (omega arith) lt e in
    record { side_is = told.0; place = 0; number_is = omega (arith, told.1); at = record { rest = bs; is = ap (λ (x : List ℕ). x ∷ bs) told.2 } }
found side other from number (b ∷ bs) body fits lt (inr more) =
    let rest = found side other (from + 1) number bs body (omega arith) lt more in
    record { side_is = rest.side_is; place = suc rest.place; number_is = omega (arith, rest.number_is); at = record { rest = rest.at.rest; is = rest.at.is } }

-- ---- what is opened

one_more : (bodies : List (List ℕ)) (n : ℕ) (body : List ℕ) (rest given later : List (List ℕ)) → drop n bodies ≡ body ∷ rest → drop (n + 1) bodies ≡ given ++ later → drop n bodies ≡ body ∷ (given ++ later)
one_more bodies n body rest given later here next =
    let behind : rest ≡ drop (n + 1) bodies = ap (drop 1) (sym here) ∙ drop-drop 1 n bodies in
    here ∙ ap (λ (l : List (List ℕ)). body ∷ l) (behind ∙ next)

record Place (all : List Sealed) (dialler listener : Challenge) : Type 0 where
  all_fit : AllByRecursion FitsSealed all
  dialler_fits : FitsChallenge dialler
  listener_fits : FitsChallenge listener

-- a text of this connection was sealed there
sealed_there : (all : List Sealed) (dialler listener : Challenge) (side : Side) (bodies : List (List ℕ)) (number : ℕ) (body : List ℕ) → Place all dialler listener → IsSealedThere all dialler listener side bodies → number < 2 ^ 64 → Source all (terms_of dialler listener, text_of side number body) → At bodies number body
sealed_there all dialler listener side bodies number body place there lt from =
    let fits = all_at all from.one place.all_fit from.among in
    let told = connection_told from.one.dialler from.one.listener dialler listener fits.dialler fits.listener place.dialler_fits place.listener_fits from.terms_are in
    let at = found from.one.side side 0 number from.one.bodies body (omega (arith, fits.count)) lt from.has_text in
    let same : from.one.bodies ≡ bodies = there from.one from.among told.0 told.1 at.side_is in
    let here : at.place ≡ number = omega (arith, at.number_is) in
    record { rest = at.at.rest; is = ap₂ (λ (n : ℕ) (l : List (List ℕ)). drop n l) (sym here) (sym same) ∙ at.at.is }

module _ (pair : List ℕ) (all : List Sealed) (dialler listener : Challenge) (side : Side) where
  abbrev IsForgedAt : ℕ → List ℕ → List ℕ → Type 0
  IsForgedAt number body sum = IsForged pair (all_summed all) (terms_of dialler listener) (text_of side number body) sum

  -- of the records from this number on, the one so many places further was forged
  record ForgedFrom (number : ℕ) (opened : List Pair) : Type 0 where
    place : ℕ
    body : List ℕ
    sum : List ℕ
    there : slice_get opened place ≡ Some (body, sum)
    forged : IsForgedAt (number + place) body sum

  forged_now : (number : ℕ) (body sum : List ℕ) (rest : List Pair) → IsForgedAt number body sum → ForgedFrom number ((body, sum) ∷ rest)
  forged_now number body sum rest is =
      let same : number ≡ number + 0 = omega arith in
      record { place = 0; body = body; sum = sum; there = refl; forged = subst (λ (n : ℕ). IsForgedAt n body sum) same is }

  forged_later : (number : ℕ) (first : Pair) (opened : List Pair) → ForgedFrom (number + 1) opened → ForgedFrom number (first ∷ opened)
  forged_later number first opened f =
      let same : number + 1 + f.place ≡ number + suc f.place = omega arith in
      record {
        place = suc f.place;
        body = f.body;
        sum = f.sum;
        there = f.there;
        forged = subst (λ (n : ℕ). IsForgedAt n f.body f.sum) same f.forged;
      }

  forged_there : (opened : List Pair) → ForgedFrom 0 opened → HasForged pair all dialler listener side opened
  forged_there opened f =
      let same : 0 + f.place ≡ f.place = omega arith in
      record {
        place = f.place;
        body = f.body;
        sum = f.sum;
        there = f.there;
        forged = subst (λ (n : ℕ). IsForgedAt n f.body f.sum) same f.forged;
      }

  opened_from : (bodies : List (List ℕ)) (number : ℕ) (opened : List Pair) → Place all dialler listener → IsSealedThere all dialler listener side bodies → number + length opened ≤ 2 ^ 64 → AreOpened (connection_key pair dialler listener) side number opened → ((later : List (List ℕ)) × (drop number bodies ≡ bodies_of opened ++ later)) ⊎ ForgedFrom number opened
  opened_from bodies number [] place there fits are = inl (drop number bodies, refl)
  opened_from bodies number ((body, sum) ∷ rest) place there fits are =
      elim (has_or_not (all_summed all) (terms_of dialler listener, text_of side number body)) [
        | inr none ↦ inr (forged_now number body sum rest (are.0, none))
        | inl has ↦ elim (opened_from bodies (number + 1) rest place there (omega arith) are.1) [
          | inr forged ↦ inr (forged_later number (body, sum) rest forged)
          | inl next ↦
              let at = sealed_there all dialler listener side bodies number body place there (omega arith) (source all (terms_of dialler listener, text_of side number body) has) in
              inl (next.0, one_more bodies number body at.rest (bodies_of rest) next.0 at.is next.1)
        ]
      ]

pub only_sealed_is_heard : OnlySealedIsHeard
only_sealed_is_heard pair all dialler listener side bodies opened each fits fits' count there are =
    let place : Place all dialler listener = record { all_fit = each; dialler_fits = fits; listener_fits = fits' } in
    elim (opened_from pair all dialler listener side bodies 0 opened place there (omega arith) are) [
      | inl prefix ↦ inl prefix
      | inr forged ↦ inr (forged_there pair all dialler listener side opened forged)
    ]
