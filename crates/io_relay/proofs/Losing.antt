-- A line that is sent, by whether those that were lost before it could be told.
use Rattle.std.proofs.Common.{◌≡◌, ℕ, zero, suc, ◌+◌, ◌-◌, ◌^◌, ◌<◌, min, List, [], ◌++◌, inl, inr, refl, sym, ap, ◌∙◌, append_assoc, append-nil, arith}
use Rattle.std.specs.Prelude.{codes}
use Rattle.std.specs.Fmt.{decimal}
use Rattle.io_relay.specs.declared.lines.Lines.{Lines}
use Rattle.io_relay.specs.Losing.{IsLossTold, IsSent, loss, passed}

none_lost : (n : ℕ) → n ≡ 0 → loss n ≡ []
none_lost n is = ap loss is

some_lost : (n : ℕ) → 0 < n → loss n ≡ decimal n ++ codes " lines lost\n"
some_lost zero h = absurd (omega (arith, h))
some_lost (suc n) h = refl

-- none was lost
pub none : (old new : Lines) → old.lost ≡ 0 → new.lost ≡ 0 → passed new ≡ passed old → IsLossTold old new
none old new is after same = inl (same ∙ sym (append-nil (passed old)) ∙ ap (λ (xs : List ℕ). passed old ++ xs) (sym (none_lost old.lost is)), after)

-- some were, and that's told
pub told : (old new : Lines) → 0 < old.lost → passed new ≡ passed old ++ (decimal old.lost ++ codes " lines lost\n") → new.lost ≡ 0 → IsLossTold old new
told old new some line after = inl (line ∙ ap (λ (xs : List ℕ). passed old ++ xs) (sym (some_lost old.lost some)), after)

-- some were, and that isn't told yet: the line is lost, too
pub untold : (line : List ℕ) (old between new : Lines) → IsLossTold old between → 0 < between.lost → passed new ≡ passed between → new.lost ≡ min (between.lost + 1) (2 ^ 64 - 1) → IsSent line old new
untold line old between new (inl was) some same more = absurd (omega (arith, some, was.1))
untold line old between new (inr not_yet) some same more = inr (inl (same ∙ not_yet.0, more ∙ ap (λ (n : ℕ). min (n + 1) (2 ^ 64 - 1)) not_yet.1))

-- it finds no room
pub full : (line : List ℕ) (old between new : Lines) → IsLossTold old between → between.lost ≡ 0 → passed new ≡ passed between → new.lost ≡ min (between.lost + 1) (2 ^ 64 - 1) → IsSent line old new
full line old between new (inl was) zero_lost same more = inr (inr (same ∙ was.0, more ∙ ap (λ (n : ℕ). min (n + 1) (2 ^ 64 - 1)) zero_lost))
full line old between new (inr not_yet) zero_lost same more = inr (inl (same ∙ not_yet.0, more ∙ ap (λ (n : ℕ). min (n + 1) (2 ^ 64 - 1)) not_yet.1))

-- it finds room
pub whole : (line : List ℕ) (old between new : Lines) → IsLossTold old between → between.lost ≡ 0 → passed new ≡ passed between ++ line → new.lost ≡ between.lost → IsSent line old new
whole line old between new (inl was) zero_lost put same = inl (
  put ∙ (ap (λ (xs : List ℕ). xs ++ line) was.0 ∙ append_assoc (passed old) (loss old.lost) line),
  same ∙ zero_lost,
)
whole line old between new (inr not_yet) zero_lost put same = inl (
  put ∙ (ap (λ (xs : List ℕ). xs ++ line) not_yet.0 ∙ ap (λ (xs : List ℕ). passed old ++ (xs ++ line)) (sym (none_lost old.lost (sym not_yet.1 ∙ zero_lost)))),
  same ∙ zero_lost,
)
