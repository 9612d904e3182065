-- A record at the front of bytes, as ranges of them.
use Rattle.std.proofs.Common.{◌≡◌, ℕ, ◌+◌, ◌*◌, ◌-◌, ◌≤◌, List, [], ◌∷◌, ◌++◌, length, take, drop, get_or, refl, sym, ap, ap₂, ◌∙◌, arith, length-take, length-drop}
use Rattle.std.specs.Prelude.{slice_index, slice_range}
use Rattle.std.proofs.lemmas.List.{take-append-drop, drop-drop}
use lib.Seq.{drop-cons}
use Rattle.net_peers.specs.Saying.{IsRecord}

drop_split : (xs : List ℕ) (a n : ℕ) → drop a xs ≡ slice_range xs a (a + n) ++ drop (a + n) xs
drop_split xs a n =
    let one : a + n - a ≡ n = omega arith in
    sym (take-append-drop n (drop a xs)) ∙ ap₂ (λ (x y : List ℕ). x ++ y) (ap (λ (m : ℕ). take m (drop a xs)) (sym one)) (drop-drop n a xs)

pub range_length : (xs : List ℕ) (a n : ℕ) → a + n ≤ length xs → length (slice_range xs a (a + n)) ≡ n
range_length xs a n le = omega (arith, le, length-take (a + n - a) (drop a xs), length-drop a xs)

pub record_first : (bytes : List ℕ) (n : ℕ) (body sum : List ℕ) → n ≡ slice_index bytes 0 * 256 + slice_index bytes 1 → n + 18 ≤ length bytes
    → body ≡ slice_range bytes 2 (2 + n) → sum ≡ slice_range bytes (2 + n) (2 + n + 16) → IsRecord bytes body sum
record_first bytes n body sum length_is whole body_is sum_is =
    let cells : bytes ≡ get_or bytes 0 0 ∷ get_or bytes 1 0 ∷ drop 2 bytes = drop-cons bytes 0 0 (omega (arith, whole)) ∙ ap (λ (t : List ℕ). get_or bytes 0 0 ∷ t) (drop-cons bytes 1 0 (omega (arith, whole))) in
    let rest : drop 2 bytes ≡ body ++ drop (2 + n) bytes = drop_split bytes 2 n ∙ ap (λ (t : List ℕ). t ++ drop (2 + n) bytes) (sym body_is) in
    let behind : drop (2 + n) bytes ≡ sum ++ drop (2 + n + 16) bytes = drop_split bytes (2 + n) 16 ∙ ap (λ (t : List ℕ). t ++ drop (2 + n + 16) bytes) (sym sum_is) in
    let long : length body ≡ n = ap length body_is ∙ range_length bytes 2 n (omega (arith, whole)) in
    let same : n ≡ slice_index bytes 0 * 256 + slice_index bytes 1 = length_is in
    record {
      high = get_or bytes 0 0;
      low = get_or bytes 1 0;
      rest = drop (2 + n + 16) bytes;
      bytes_are = cells ∙ ap (λ (t : List ℕ). get_or bytes 0 0 ∷ get_or bytes 1 0 ∷ t) (rest ∙ ap (λ (t : List ℕ). body ++ t) behind);
      length_is = let swapped : slice_index bytes 0 * 256 + slice_index bytes 1 ≡ 256 * slice_index bytes 0 + slice_index bytes 1 = omega arith in long ∙ (same ∙ swapped);
    }
