use Rattle.std.proofs.Common.{◌≡◌, ℕ, ◌+◌, ◌-◌, ◌<◌, ◌≤◌, List, length, take, drop, get_or, Option, Some, None, arith, rules, sym, refl, ap, ◌∙◌}
use Rattle.std.specs.Option.{option_map}
use Rattle.std.proofs.lemmas.Bool.{ne_eqb}
use Rattle.std.proofs.lemmas.List.{take_rest, take_all, length-take-le}
use Rattle.il_model.specs.Words.{split_last}
use Rattle.il_model.proofs.NameParts.{last_dot, more_dot, split_is, last_within}
use Rattle.il_model.proofs.name.split_last.Goals as goal
use Rattle.il_model.proofs.name.split_last.Goals.{then-b-eq46, else-b-eq46}

-- the byte is a dot
at_dot : (name : List ℕ) (i : ℕ) → i < length name → get_or name i 0 ≡ 46 → last_dot (take (i + 1) name) ≡ Some i
at_dot name i lt is = more_dot name i 46 lt (sym is) ∙ ap (λ n. Some n) (length-take-le i name (omega (arith, lt)))

-- it's another
at_another : (name : List ℕ) (i : ℕ) → i < length name → (get_or name i 0 ≡ 46 → ⊥) → last_dot (take (i + 1) name) ≡ last_dot (take i name)
at_another name i lt other = rw (ne_eqb (get_or name i 0) 46 other) at (more_dot name i (get_or name i 0) lt refl)

-- at the end of the name
ended : (name : List ℕ) (i : ℕ) (found : Option ℕ) → found ≡ last_dot (take i name) → length name ≤ i → last_dot name ≡ found
ended name i found is past = sym (is ∙ ap last_dot (take_all i name past))

split_there : (name : List ℕ) (k : ℕ) → last_dot name ≡ Some k → Some (take k name, take (length name - (k + 1)) (drop (k + 1) name)) ≡ split_last name
split_there name k is = rw (take_rest name (k + 1)) (sym (split_is name ∙ ap (option_map (λ k. (take k name, drop (k + 1) name))) is))

split_nowhere : (name : List ℕ) → last_dot name ≡ None → None ≡ split_last name
split_nowhere name is = sym (split_is name ∙ ap (option_map (λ k. (take k name, drop (k + 1) name))) is)

pub loop-i-preserved : goal.loop-i-preserved
loop-i-preserved c = elim c.if-b-eq46.branch [
  | then-b-eq46 w ↦ w.found-is ∙ sym (at_dot c.args.name.now c.loop-i.i c.loop-i-test.true w.if-b-eq46.true)
  | else-b-eq46 w ↦ w.found-is ∙ c.loop-i.invariant ∙ sym (at_another c.args.name.now c.loop-i.i c.loop-i-test.true w.if-b-eq46.false)
]

pub returns-in_err-at : goal.returns-in_err-at
returns-in_err-at c =
    let name = c.args.name.now in
    rw c.from_residual.ensures (split_nowhere name (ended name c.loop-i.i c.loop-i.found c.loop-i.invariant c.loop-i-test.false ∙ c.in_err-at.was))

pub slice_bounds-result-end : goal.slice_bounds-result-end
slice_bounds-result-end c =
    let name = c.args.name.now in
    let lt = last_within name c.in_ok-at.at (ended name c.loop-i.i c.loop-i.found c.loop-i.invariant c.loop-i-test.false ∙ c.in_ok-at.was) in
    sym (length-take-le c.in_ok-at.at name (omega (arith, lt)))

pub overflow_add-result : goal.overflow_add-result
overflow_add-result c =
    let name = c.args.name.now in
    let lt = last_within name c.in_ok-at.at (ended name c.loop-i.i c.loop-i.found c.loop-i.invariant c.loop-i-test.false ∙ c.in_ok-at.was) in
    omega (arith, lt)

pub slice_bounds-result-count : goal.slice_bounds-result-count
slice_bounds-result-count c =
    let name = c.args.name.now in
    let lt = last_within name c.in_ok-at.at (ended name c.loop-i.i c.loop-i.found c.loop-i.invariant c.loop-i-test.false ∙ c.in_ok-at.was) in
    omega (arith, lt)

pub slice_bounds-result-start : goal.slice_bounds-result-start
slice_bounds-result-start c =
    let name = c.args.name.now in
    let lt = last_within name c.in_ok-at.at (ended name c.loop-i.i c.loop-i.found c.loop-i.invariant c.loop-i-test.false ∙ c.in_ok-at.was) in
    let more : c.in_ok-at.at + 1 ≤ length name = omega (arith, lt) in
    search rules

pub returns : goal.returns
returns c =
    let name = c.args.name.now in
    split_there name c.in_ok-at.at (ended name c.loop-i.i c.loop-i.found c.loop-i.invariant c.loop-i-test.false ∙ c.in_ok-at.was)
