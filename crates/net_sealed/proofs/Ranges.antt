-- What is opened and given, as ranges of the bytes that came.
use Rattle.std.proofs.Common.{◌≡◌, ℕ, ◌+◌, ◌-◌, ◌≤◌, Bool, true, false, List, [], ◌∷◌, ◌++◌, length, take, drop, get_or, refl, sym, ap, ap₂, ◌∙◌, arith, length-take, length-drop}
use Rattle.std.specs.Prelude.{◌==◌, IsTrue, slice_range}
use Rattle.std.proofs.Math.Dec.{eqb-suc-zero}
use Rattle.std.proofs.lemmas.List.{take-append-drop, take-take, take_at, drop-take, drop-drop}
use lib.Seq.{drop-cons}
use Rattle.net_keys.specs.declared.sealing.Opener.{Opener}
use Rattle.net_keys.specs.Sealing.{Opens}
use Rattle.net_sealed.specs.declared.incoming.Front.TheVariants.{Whole}
use Rattle.net_sealed.specs.Coming.{Gives, IsFront, OpensNext}

-- whether nothing is there
pub empty_tells : (xs : List ℕ) (b : Bool) → b ≡ (length xs == 0) → (IsTrue b → xs ≡ []) × (xs ≡ [] → IsTrue b)
empty_tells [] b e = (λ t. refl, λ n. e)
empty_tells (x ∷ xs) b e =
    let e' : b ≡ false = e ∙ eqb-suc-zero (length xs) in
    (λ t. let no : true ≡ false = sym t ∙ e' in cc, λ n. cc)

-- a range is its front and its rest
range_split : (xs : List ℕ) (a n b : ℕ) → a + n ≤ b → slice_range xs a b ≡ slice_range xs a (a + n) ++ slice_range xs (a + n) b
range_split xs a n b le =
    let ys = drop a xs in
    let all : b - a ≡ n + (b - (a + n)) = omega (arith, le) in
    let one : a + n - a ≡ n = omega arith in
    let front : take n (take (b - a) ys) ≡ take (a + n - a) ys = take-take n (b - a) ys (omega (arith, le)) ∙ ap (λ (m : ℕ). take m ys) (sym one) in
    let back : drop n (take (b - a) ys) ≡ take (b - (a + n)) (drop (a + n) xs) = ap (λ (m : ℕ). drop n (take m ys)) all ∙ (drop-take n (b - (a + n)) ys ∙ ap (take (b - (a + n))) (drop-drop n a xs)) in
    sym (take-append-drop n (take (b - a) ys)) ∙ ap₂ (λ (x y : List ℕ). x ++ y) front back

-- and so is what stands behind a place
drop_split : (xs : List ℕ) (a n : ℕ) → drop a xs ≡ slice_range xs a (a + n) ++ drop (a + n) xs
drop_split xs a n =
    let one : a + n - a ≡ n = omega arith in
    sym (take-append-drop n (drop a xs)) ∙ ap₂ (λ (x y : List ℕ). x ++ y) (ap (λ (m : ℕ). take m (drop a xs)) (sym one)) (drop-drop n a xs)

range_length : (xs : List ℕ) (a n : ℕ) → a + n ≤ length xs → length (slice_range xs a (a + n)) ≡ n
range_length xs a n le = omega (arith, le, length-take (a + n - a) (drop a xs), length-drop a xs)

-- the front of what was opened is given
pub given_front : (opener : Opener) (bytes : List ℕ) (given n end next : ℕ) (out piece : List ℕ) → given + n ≤ end → end ≤ length bytes → piece ≡ slice_range bytes given (given + n)
    → Gives (record { opener = opener; opened = slice_range bytes given end; waiting = drop next bytes }) (record { opener = opener; opened = slice_range bytes (given + n) end; waiting = drop next bytes }) (take n (piece ++ drop n out))
given_front opener bytes given n end next out piece le fits is =
    let long : length piece ≡ n = ap length is ∙ range_length bytes given n (omega (arith, le, fits)) in
    let took : take n (piece ++ drop n out) ≡ slice_range bytes given (given + n) = take_at piece (drop n out) n long ∙ is in
    record {
      front = range_split bytes given n end le ∙ ap (λ (t : List ℕ). t ++ slice_range bytes (given + n) end) (sym took);
      opener = refl;
      waiting = refl;
    }

-- a record that is whole is opened
pub opened_next : (before after : Opener) (bytes left : List ℕ) (next n : ℕ) (sum : List ℕ) → IsFront (Whole n) (drop next bytes)
    → sum ≡ slice_range bytes (next + 2 + n) (next + 2 + n + 16) → Opens before after (slice_range bytes (next + 2) (next + 2 + n)) sum
    → OpensNext (record { opener = before; opened = left; waiting = drop next bytes }) (record { opener = after; opened = slice_range bytes (next + 2) (next + 2 + n); waiting = drop (next + 2 + n + 16) bytes })
opened_next before after bytes left next n sum whole is opens =
    let w = drop next bytes in
    let long = length-drop next bytes in
    let cells : w ≡ get_or w 0 0 ∷ get_or w 1 0 ∷ drop 2 w = drop-cons w 0 0 (omega (arith, whole.1)) ∙ ap (λ (t : List ℕ). get_or w 0 0 ∷ t) (drop-cons w 1 0 (omega (arith, whole.1))) in
    let rest : drop 2 w ≡ slice_range bytes (next + 2) (next + 2 + n) ++ drop (next + 2 + n) bytes = drop-drop 2 next bytes ∙ drop_split bytes (next + 2) n in
    let behind : drop (next + 2 + n) bytes ≡ sum ++ drop (next + 2 + n + 16) bytes = drop_split bytes (next + 2 + n) 16 ∙ ap (λ (t : List ℕ). t ++ drop (next + 2 + n + 16) bytes) (sym is) in
    let body = slice_range bytes (next + 2) (next + 2 + n) in
    record {
      high = get_or w 0 0;
      low = get_or w 1 0;
      sum = sum;
      front = cells ∙ ap (λ (t : List ℕ). get_or w 0 0 ∷ get_or w 1 0 ∷ t) (rest ∙ ap (λ (t : List ℕ). body ++ t) behind);
      length_is = range_length bytes (next + 2) n (omega (arith, whole.1, long)) ∙ sym whole.2;
      opens = opens;
    }
