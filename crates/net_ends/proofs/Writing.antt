-- What is written in several writes.
use Rattle.std.proofs.Common.{◌≡◌, ℕ, ◌+◌, List, ◌++◌, take, drop, sym, ap, ◌∙◌, append_assoc, Option}
use Rattle.std.specs.Io.KnownBytes.{Appends}
use Rattle.std.proofs.KnownBytes.{Appends-trans}
use Rattle.std.proofs.lemmas.List.{take-append-drop, drop-drop}
use Rattle.net_ends.specs.Ends.{Flushes}

-- so many bytes more were written
pub more_written : (held mid after : Option (List ℕ)) (all bytes : List ℕ) (done n : ℕ) → Flushes held mid all (drop done bytes) → Appends mid after (take n (drop done bytes)) → Flushes held after all (drop (done + n) bytes)
more_written held mid after all bytes done n before more =
    let front : drop done bytes ≡ take n (drop done bytes) ++ drop (done + n) bytes = sym (take-append-drop n (drop done bytes)) ∙ ap (λ (t : List ℕ). take n (drop done bytes) ++ t) (drop-drop n done bytes) in
    record {
      written = before.written ++ take n (drop done bytes);
      rest = before.rest ∙ (ap (λ (t : List ℕ). before.written ++ t) front ∙ sym (append_assoc before.written (take n (drop done bytes)) (drop (done + n) bytes)));
      went = Appends-trans _ _ _ _ _ before.went more;
    }
