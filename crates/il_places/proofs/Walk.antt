-- The walk over the lines of a unit.
use Rattle.std.proofs.Common.{◌≡◌, ℕ, ◌+◌, ◌<◌, List, [], ◌∷◌, ◌++◌, length, get_or, drop, Option, Some, sym, ap, ◌∙◌, arith}
use Rattle.std.specs.Prelude.{option_and_then, slice_get}
use Rattle.std.proofs.lemmas.List.{at_drop_more}
use Rattle.std.proofs.lemmas.Option.{slice_get-get_or}
use Rattle.il_units.specs.declared.word.Line.{Line}
use Rattle.il_units.specs.Expansion.{left_of}
use Rattle.il_places.specs.declared.calls.CalledUnit.{CalledUnit}
use Rattle.il_places.specs.declared.origins.Origin.{Origin}
use Rattle.il_places.specs.Origins.{TraceText, by_itself, with_body, ended_by, label_text, label_at, origins_from}

-- one line more
pub line_next : (traces : List TraceText) (calls : List CalledUnit) (before after total : List Origin) (lines : List Line) (n : ℕ) → n < length lines
    → after ≡ with_body before (ended_by traces calls (label_at lines n)) ++ by_itself (left_of (slice_get lines n)) ∷ []
    → origins_from traces calls before (drop n lines) ≡ total
    → origins_from traces calls after (drop (n + 1) lines) ≡ total
unfolding origins_from
line_next traces calls before after total [] n lt put so_far = absurd (omega arith)
line_next traces calls before after total (l ∷ ls) n lt put so_far =
    let x = get_or (l ∷ ls) n l in
    let rest = drop (n + 1) (l ∷ ls) in
    let here : slice_get (l ∷ ls) n ≡ Some x = slice_get-get_or (l ∷ ls) n l lt in
    let behind : List Origin = with_body before (ended_by traces calls (label_text x.label)) ++ by_itself x.left ∷ [] in
    let label : label_at (l ∷ ls) n ≡ label_text x.label = ap (λ (o : Option Line). label_text (option_and_then (λ (y : Line). y.label) o)) here in
    let left : left_of (slice_get (l ∷ ls) n) ≡ x.left = ap left_of here in
    let same : after ≡ behind = put
    ∙ ap (λ (t : List ℕ). with_body before (ended_by traces calls t) ++ by_itself (left_of (slice_get (l ∷ ls) n)) ∷ []) label
    ∙ ap (λ (m : ℕ). with_body before (ended_by traces calls (label_text x.label)) ++ by_itself m ∷ []) left in
    let step : origins_from traces calls before (drop n (l ∷ ls)) ≡ origins_from traces calls behind rest = at_drop_more (origins_from traces calls before) (l ∷ ls) n l lt in
    ap (λ (os : List Origin). origins_from traces calls os rest) same ∙ sym step ∙ so_far
