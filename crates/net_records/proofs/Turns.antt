-- What is given of what comes.
use Rattle.std.proofs.Common.{◌≡◌, ℕ, List, [], ◌∷◌, ◌++◌, Option, Some, None, suc, ◌+◌, ◌≤◌, length, take, refl, sym, ap, subst, ◌∙◌, append_assoc, arith, length-append, length-take}
use borrow.Rule.Slice.PartMut.{put_mid, post_of}
use Rattle.std.specs.Prelude.{slice_range}
use Rattle.std.proofs.lemmas.List.{take-append-drop, take-append-le}
use Rattle.std.specs.Io.KnownBytes.{Consumes, Keeps}
use Rattle.net_records.specs.declared.place.Place.{Place}
use Rattle.net_records.specs.Records.{bodies_from, place_behind}
use Rattle.net_records.specs.Ends.{Coming, Unwraps, to_give}
use Rattle.net_records.proofs.Bodies.{bodies_append, place_append}
use Rattle.net_records.proofs.Going.{range_rest}

pub unwraps_none : (coming : Coming) → Unwraps coming coming []
unwraps_none coming = record { used = []; front = refl; given_is = refl; place = refl }

pub unwraps_more : (before between after : Coming) (given more : List ℕ) → Unwraps before between given → Unwraps between after more → Unwraps before after (given ++ more)
unwraps_more before between after given more p q =
    let both : bodies_from before.place p.used ++ bodies_from between.place q.used ≡ bodies_from before.place (p.used ++ q.used) = ap (λ (place : Place). bodies_from before.place p.used ++ bodies_from place q.used) p.place ∙ sym (bodies_append before.place p.used q.used) in
    record {
      used = p.used ++ q.used;
      front = p.front ∙ (ap (λ (t : List ℕ). p.used ++ t) q.front ∙ sym (append_assoc p.used q.used after.waiting));
      given_is = ap (λ (t : List ℕ). t ++ more) p.given_is ∙ (ap (λ (t : List ℕ). bodies_from before.place p.used ++ t) q.given_is ∙ both);
      place = q.place ∙ (ap (λ (place : Place). place_behind place q.used) p.place ∙ sym (place_append before.place p.used q.used));
    }

-- what is given is the front of what was to be given
pub unwrapped : (before after : Coming) (given : List ℕ) (left : Option (List ℕ)) → Unwraps before after given → Consumes (to_give before left) (to_give after left) given
unwrapped before after given None p = tt
unwrapped before after given (Some bytes) p =
    let whole : before.waiting ++ bytes ≡ p.used ++ (after.waiting ++ bytes) = ap (λ (t : List ℕ). t ++ bytes) p.front ∙ append_assoc p.used after.waiting bytes in
    let rest = after.waiting ++ bytes in
    ap (bodies_from before.place) whole ∙ (bodies_append before.place p.used rest
    ∙ (ap (λ (t : List ℕ). t ++ bodies_from (place_behind before.place p.used) rest) (sym p.given_is) ∙ ap (λ (place : Place). given ++ bodies_from place rest) (sym p.place)))

-- a piece that comes changes nothing of it
pub filled : (before after : Coming) (left left' : Option (List ℕ)) → before.waiting ≡ [] → after.place ≡ before.place → Consumes left left' after.waiting → Keeps (to_give before left) (to_give after left')
filled before after None left' none place came = tt
filled before after (Some bytes) None none place came = absurd came
filled before after (Some bytes) (Some bytes') none place came =
    ap (λ (p : Place). bodies_from p (after.waiting ++ bytes')) place ∙ (ap (bodies_from before.place) (sym came) ∙ ap (λ (t : List ℕ). bodies_from before.place (t ++ bytes)) (sym none))

-- no piece came
pub unfilled : (before after : Coming) (left left' : Option (List ℕ)) → before.waiting ≡ [] → after.place ≡ before.place → after.waiting ≡ [] → Keeps left left' → Keeps (to_give before left) (to_give after left')
unfilled before after None left' none place empty kept = tt
unfilled before after (Some bytes) None none place empty kept = absurd kept
unfilled before after (Some bytes) (Some bytes') none place empty kept =
    ap (λ (p : Place). bodies_from p (after.waiting ++ bytes')) place ∙ (ap (λ (t : List ℕ). bodies_from before.place (t ++ bytes')) empty ∙ (ap (bodies_from before.place) kept ∙ ap (λ (t : List ℕ). bodies_from before.place (t ++ bytes)) (sym none)))

pub Keeps-Consumes : (a b c : Option (List ℕ)) (bs : List ℕ) → Keeps a b → Consumes b c bs → Consumes a c bs
Keeps-Consumes None b c bs p q = tt
Keeps-Consumes (Some x) None c bs p q = absurd p
Keeps-Consumes (Some x) (Some y) None bs p q = absurd q
Keeps-Consumes (Some x) (Some y) (Some z) bs p q = sym p ∙ q

-- a turn gave bytes
pub turn_given : (first left left' : Option (List ℕ)) (before after : Coming) (given : List ℕ) → Keeps first (to_give before left) → left' ≡ left → Unwraps before after given → Consumes first (to_give after left') given
turn_given first left left' before after given kept same p =
    Keeps-Consumes first (to_give before left) (to_give after left') given kept (subst (λ (l : Option (List ℕ)). Consumes (to_give before left) (to_give after l) given) (sym same) (unwrapped before after given left p))

consumes_none : (a b : Option (List ℕ)) → Consumes a b [] → Keeps a b
consumes_none None b p = tt
consumes_none (Some x) None p = absurd p
consumes_none (Some x) (Some y) p = sym p

-- a turn gave none
pub blank_turn : (first left left' : Option (List ℕ)) (before after : Coming) (out : List ℕ) (count : ℕ) → Keeps first (to_give before left) → left' ≡ left → Unwraps before after (take count out) → count ≤ 0 → Keeps first (to_give after left')
blank_turn first left left' before after out count kept same p le =
    let none : count ≡ 0 = omega arith in
    let p' : Unwraps before after [] = subst (λ (n : ℕ). Unwraps before after (take n out)) none p in
    consumes_none first (to_give after left') (turn_given first left left' before after [] kept same p')

-- ---- within a piece

pub turned : (place place' : Place) (piece : List ℕ) (used count k : ℕ) (given : List ℕ) → given ≡ bodies_from place (take k (slice_range piece used count)) → place' ≡ place_behind place (take k (slice_range piece used count))
    → Unwraps (record { place = place; waiting = slice_range piece used count }) (record { place = place'; waiting = slice_range piece (used + k) count }) given
turned place place' piece used count k given is behind = record {
  used = take k (slice_range piece used count);
  front = sym (take-append-drop k (slice_range piece used count)) ∙ ap (λ (t : List ℕ). take k (slice_range piece used count) ++ t) (sym (range_rest piece used k count));
  given_is = is;
  place = behind;
}

take_past : (p q : List ℕ) (r : ℕ) → take (length p + r) (p ++ q) ≡ p ++ take r q
take_past [] q r = ap (λ (n : ℕ). take n q) (let e : 0 + r ≡ r = omega arith in e)
take_past (x ∷ p) q r =
    let e : length (x ∷ p) + r ≡ suc (length p + r) = omega arith in
    ap (λ (n : ℕ). take n (x ∷ (p ++ q))) e ∙ ap (λ (t : List ℕ). x ∷ t) (take_past p q r)

-- what was written behind the first bytes
pub mid_taken : (g r k : ℕ) (xs ys : List ℕ) → g ≤ length xs → r ≤ length ys → take (g + r) (put_mid g k xs ys) ≡ take g xs ++ take r ys
mid_taken g r k xs ys le fits =
    let long : length (take g xs) ≡ g = omega (arith, length-take g xs) in
    ap (λ (n : ℕ). take (n + r) (put_mid g k xs ys)) (sym long) ∙ (take_past (take g xs) (ys ++ post_of g k xs) r ∙ ap (λ (t : List ℕ). take g xs ++ t) (take-append-le r ys (post_of g k xs) fits))

pub mid_fits : (g r k : ℕ) (xs ys : List ℕ) → g ≤ length xs → r ≤ length ys → g + r ≤ length (put_mid g k xs ys)
mid_fits g r k xs ys le fits = omega (arith, le, fits, length-append (take g xs) (ys ++ post_of g k xs), length-append ys (post_of g k xs), length-take g xs)
