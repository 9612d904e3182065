-- What no start left in a file.
use Rattle.std.proofs.Common.{◌≡◌, ℕ, ◌+◌, List, [], ◌∷◌, ◌++◌, length, Option, Some, None, ap, ◌∙◌, append-nil, length-append, arith}
use Rattle.std.specs.Prelude.{IfSome}
use Rattle.std.specs.Io.KnownBytes.{Consumes}
use Rattle.vr_model.specs.declared.event.Stored.{Stored}
use Rattle.vr_threads.specs.Keeping.{IsFileOf, stored_from}

-- bytes that count no start
pub unstarted : (a b : Option (List ℕ)) (bytes : List ℕ) → length bytes ≡ 16 → Consumes a b bytes → (stored_from bytes).starts ≡ 0
    → IfSome a (λ all. (stored : Stored) → IsFileOf stored all → ⊥)
unstarted None b bytes len read zero = tt
unstarted (Some all) None bytes len read zero = absurd read
unstarted (Some all) (Some []) bytes len read zero = λ stored is.
    let same : all ≡ bytes = read ∙ append-nil bytes in
    let starts : stored.starts ≡ 0 = ap (λ (s : Stored). s.starts) is.1 ∙ ap (λ (bs : List ℕ). (stored_from bs).starts) same ∙ zero in
    absurd (omega (arith, starts, is.2))
unstarted (Some all) (Some (x ∷ rest)) bytes len read zero = λ stored is.
    let longer : length all ≡ length bytes + length (x ∷ rest) = ap length read ∙ length-append bytes (x ∷ rest) in
    absurd (omega (arith, longer, len, is.0))

-- bytes with another one behind them
pub longer : (a b c : Option (List ℕ)) (bytes : List ℕ) (byte : ℕ) → length bytes ≡ 16 → Consumes a b bytes → Consumes b c (byte ∷ [])
    → IfSome a (λ all. (stored : Stored) → IsFileOf stored all → ⊥)
longer None b c bytes byte len first second = tt
longer (Some all) None c bytes byte len first second = absurd first
longer (Some all) (Some rest) None bytes byte len first second = absurd second
longer (Some all) (Some rest) (Some ys) bytes byte len first second = λ stored is.
    let more : length all ≡ length bytes + length (byte ∷ ys) = ap length first ∙ length-append bytes rest ∙ ap (λ (r : List ℕ). length bytes + length r) second in
    absurd (omega (arith, more, len, is.0))
