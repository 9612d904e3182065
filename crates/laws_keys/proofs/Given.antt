-- What an end of a way gives is a prefix of what was put at the other, or a record was forged.
use Rattle.std.proofs.Common.{◌≡◌, ℕ, zero, suc, inl, inr, List, [], ◌∷◌, ◌++◌, Option, Some, None, length, take, drop, refl, sym, ap, subst, ◌∙◌, append_assoc}
use Rattle.std.specs.Prelude.{slice_get}
use Rattle.std.specs.List.{flat_map}
use Rattle.std.proofs.lemmas.List.{drop_at, length-map, length-take-le, take-append-drop}
use Rattle.vr_wire.specs.Frames.{frame_of}
use Rattle.vr_wire.specs.Streams.{OnlyFramed}
use Rattle.net_keys.specs.Forging.{OnlySealedIsHeard, bodies_of}
use Rattle.net_sealed.specs.Coming.{bodies_in}
use Rattle.laws_keys.specs.Ways.{HaveCome, OnlySealedIsGiven, StandsIn, joined}

abbrev Opened : Type 0
Opened = List ℕ × List ℕ

joined_append : (xs ys : List (List ℕ)) → joined (xs ++ ys) ≡ joined xs ++ joined ys
joined_append [] ys = refl
joined_append (x ∷ xs) ys = ap (λ (t : List ℕ). x ++ t) (joined_append xs ys) ∙ sym (append_assoc x (joined xs) (joined ys))

joined_bodies : (os : List Opened) → joined (bodies_of os) ≡ bodies_in os
joined_bodies [] = refl
joined_bodies ((body, sum) ∷ os) = ap (λ (t : List ℕ). body ++ t) (joined_bodies os)

bodies_append : (xs ys : List Opened) → bodies_of (xs ++ ys) ≡ bodies_of xs ++ bodies_of ys
bodies_append [] ys = refl
bodies_append (x ∷ xs) ys = ap (λ (t : List (List ℕ)). x.0 ∷ t) (bodies_append xs ys)

-- behind as many records as went while both met
behind : (first bodies later : List (List ℕ)) (met records : List Opened) (n : ℕ) → length first ≡ n → length met ≡ n → first ++ bodies ≡ bodies_of (met ++ records) ++ later → bodies ≡ bodies_of records ++ later
behind first bodies later met records n f m e =
    let split : bodies_of (met ++ records) ++ later ≡ bodies_of met ++ (bodies_of records ++ later) =
    ap (λ (t : List (List ℕ)). t ++ later) (bodies_append met records) ∙ append_assoc (bodies_of met) (bodies_of records) later in
    let long : length (bodies_of met) ≡ n = length-map met (λ (o : Opened). o.0) ∙ m in
    sym (drop_at first bodies n f) ∙ (ap (λ (t : List (List ℕ)). drop n t) (e ∙ split) ∙ drop_at (bodies_of met) (bodies_of records ++ later) n long)

all_went : (bodies later : List (List ℕ)) (records : List Opened) (came left rest all : List ℕ) → bodies ≡ bodies_of records ++ later → bodies_in records ≡ came ++ left → joined bodies ++ rest ≡ all → came ++ (left ++ (joined later ++ rest)) ≡ all
all_went bodies later records came left rest all b r w =
    let parts : joined bodies ≡ (came ++ left) ++ joined later =
    ap joined b ∙ (joined_append (bodies_of records) later ∙ ap (λ (t : List ℕ). t ++ joined later) (joined_bodies records ∙ r)) in
    let whole : joined bodies ++ rest ≡ came ++ (left ++ (joined later ++ rest)) =
    ap (λ (t : List ℕ). t ++ rest) parts ∙ (append_assoc (came ++ left) (joined later) rest ∙ append_assoc came left (joined later ++ rest)) in
    sym whole ∙ w

abbrev body_at : Option Opened → List ℕ
body_at None = []
body_at (Some one) = one.0

abbrev sum_at : Option Opened → List ℕ
sum_at None = []
sum_at (Some one) = one.1

-- what was opened at this place came
stands_at : (came : List ℕ) (opened : List Opened) (place : ℕ) (body sum : List ℕ) → HaveCome came opened → slice_get opened place ≡ Some (body, sum) → StandsIn came (body ++ sum)
stands_at came [] place body sum stand there = absurd cc
stands_at came ((b, s) ∷ opened) zero body sum stand there =
    let one : b ≡ body = ap body_at there in
    let other : s ≡ sum = ap sum_at there in
    subst (λ (x : List ℕ). StandsIn came (x ++ sum)) one (subst (λ (x : List ℕ). StandsIn came (b ++ x)) other stand.0)
stands_at came ((b, s) ∷ opened) (suc place) body sum stand there = stands_at came opened place body sum stand.1 there

pub only_sealed_is_given : OnlySealedIsHeard → OnlyFramed → OnlySealedIsGiven
only_sealed_is_given heard framed all w put given came opened ending each fits s o =
    elim (heard w.pair all w.dialler w.listener w.side (s.first ++ s.bodies) opened each fits.dialler fits.listener o.count s.there o.each) [
      | inr forged ↦ inr (record { forged = forged; stands = stands_at came opened forged.place forged.body forged.sum o.stand forged.there })
      | inl prefix ↦
          let first : List Opened = take w.meeting opened in
          let records : List Opened = drop w.meeting opened in
          let parts : opened ≡ first ++ records = sym (take-append-drop w.meeting opened) in
          let met : length first ≡ w.meeting = length-take-le w.meeting opened o.met in
          let both : s.first ++ s.bodies ≡ bodies_of (first ++ records) ++ prefix.0 = prefix.1 ∙ ap (λ (t : List Opened). bodies_of t ++ prefix.0) parts in
          let bodies = behind s.first s.bodies prefix.0 first records w.meeting s.met met both in
          let whole = all_went s.bodies prefix.0 records o.gave o.left s.rest (flat_map frame_of put) bodies o.bodies s.went in
          inl (framed o.gave (o.left ++ (joined prefix.0 ++ s.rest)) put given ending s.framed whole o.split)
    ]
