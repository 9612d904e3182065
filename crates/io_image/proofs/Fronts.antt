-- Prefixes of one rising list.
use Rattle.std.proofs.Common.{◌≡◌, ℕ, ◌+◌, ◌<◌, ◌≤◌, List, [], ◌∷◌, ◌++◌, length, refl, ap, sym, ◌∙◌, arith, length-append}
use mathlib.Core.List.{IsPrefix}
use Rattle.io_image.specs.declared.release.Release.{Release}
use Rattle.il_model.specs.declared.cells.OutImage.{OutImage}
use Rattle.io_image.specs.Releases.{number_from, image_from, IsRisingFrom, shown, view_of}

pub number_from-snoc : (n : ℕ) (xs : List Release) (r : Release) → number_from n (xs ++ r ∷ []) ≡ r.number
number_from-snoc n [] r = refl
number_from-snoc n (x ∷ xs) r = number_from-snoc x.number xs r

pub image_from-snoc : (i : OutImage) (xs : List Release) (r : Release) → image_from i (xs ++ r ∷ []) ≡ r.image
image_from-snoc i [] r = refl
image_from-snoc i (x ∷ xs) r = image_from-snoc x.image xs r

-- a list that ends with a release shows that one
pub shown-snoc : (xs : List Release) (r : Release) → shown (xs ++ r ∷ []) ≡ view_of r
shown-snoc xs r = rw (number_from-snoc, image_from-snoc) refl

pub rising-snoc : (n : ℕ) (xs : List Release) (r : Release) → IsRisingFrom n xs → number_from n xs < r.number → IsRisingFrom n (xs ++ r ∷ [])
rising-snoc n [] r h low = (low, tt)
rising-snoc n (x ∷ xs) r h low = (h.0, rising-snoc x.number xs r h.1 low)

-- a rising list is no longer than its last number
pub length-number : (n : ℕ) (xs : List Release) → IsRisingFrom n xs → n + length xs ≤ number_from n xs
length-number n [] h = omega arith
length-number n (x ∷ xs) h = omega (arith, length-number x.number xs h.1, h.0)

pub number-rises : (n : ℕ) (xs : List Release) → IsRisingFrom n xs → n ≤ number_from n xs
number-rises n xs h = omega (arith, length-number n xs h)

-- a prefix of a rising list with the same last number is the whole
pub rising_whole : (n : ℕ) (xs ys : List Release) → IsRisingFrom n ys → IsPrefix xs ys → number_from n ys ≡ number_from n xs → xs ≡ ys
rising_whole n [] [] h p e = refl
rising_whole n [] (y ∷ ys) h p e = absurd (omega (arith, number-rises y.number ys h.1, h.0))
rising_whole n (x ∷ xs) [] h p e = absurd (cc (p.1))
rising_whole n (x ∷ xs) (y ∷ ys) h p e =
    let heads : x ≡ y = cc (p.1) in
    let same : number_from y.number ys ≡ number_from y.number xs = rw (ap (λ (r : Release). r.number) heads) at e in
    let rest = rising_whole y.number xs ys h.1 (p.0, cc (p.1)) same in cc (heads, rest)

-- of two prefixes of one list the shorter is a prefix of the longer
pub prefix_shorter : {A : Type 0} (xs ys zs : List A) → IsPrefix xs zs → IsPrefix ys zs → length xs ≤ length ys → IsPrefix xs ys
prefix_shorter [] ys zs p q le = (ys, refl)
prefix_shorter (x ∷ xs) [] zs p q le = absurd (omega arith)
prefix_shorter (x ∷ xs) (y ∷ ys) [] p q le = absurd (cc (p.1))
prefix_shorter (x ∷ xs) (y ∷ ys) (z ∷ zs) p q le =
    let heads : x ≡ y = cc (p.1, q.1) in
    let rest = prefix_shorter xs ys zs (p.0, cc (p.1)) (q.0, cc (q.1)) (omega arith) in
    (rest.0, cc (heads, rest.1))

-- releases that show alike are the same
same_view : (r s : Release) → view_of r ≡ view_of s → r ≡ s
same_view r s e = λ i. record { number = (e i).number; image = (e i).image }

with_rest : (xs ys : List Release) (r : Release) (rest : List Release) → xs ++ rest ≡ ys → length ys ≡ length xs + 1 → shown ys ≡ view_of r → ys ≡ xs ++ r ∷ []
with_rest xs ys r [] e len last = absurd (omega (arith, sym (ap length e) ∙ length-append xs []))
with_rest xs ys r (z ∷ []) e len last = let same : z ≡ r = same_view z r (sym (shown-snoc xs z) ∙ (ap shown e ∙ last)) in rw same at (sym e)
with_rest xs ys r (z ∷ w ∷ more) e len last = absurd (omega (arith, sym (ap length e) ∙ length-append xs (z ∷ w ∷ more)))

-- a list with one element more, which is its last
pub one_more : (xs ys : List Release) (r : Release) → IsPrefix xs ys → length ys ≡ length xs + 1 → shown ys ≡ view_of r → ys ≡ xs ++ r ∷ []
one_more xs ys r p len last = with_rest xs ys r p.0 p.1 len last
