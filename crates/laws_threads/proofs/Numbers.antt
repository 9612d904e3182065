-- The numbers of a replica's starts.
use Rattle.std.proofs.Common.{◌≡◌, ◌≤◌, ◌<◌, ◌+◌, ◌*◌, ◌/◌, ◌==◌, ◌&&◌, ℕ, Bool, true, false, cond, sym, ◌∙◌, inl, inr, arith}
use Rattle.std.proofs.lemmas.Bool.{eqb-true, and_parts, cases_Bool, cond-false, cond_both, le-ltb}
use Rattle.std.proofs.lemmas.Nat.{div-mul-add}
use Rattle.vr_threads.specs.Numbering.{number_of, count_in, HasNumber}

-- but for the very first start
usual : (count before : ℕ) → (count ≡ 1 → before ≡ 0 → ⊥) → number_of count before ≡ count * 4_294_967_296 + before
usual count before ne = cond-false ((count == 1) && (before == 0)) 1 (count * 4_294_967_296 + before) (elim (cases_Bool ((count == 1) && (before == 0))) [
  | inl both ↦ (let p = and_parts (count == 1) (before == 0) both in absurd (ne (eqb-true count 1 p.0) (eqb-true before 0 p.1)))
  | inr isnt ↦ isnt
])

at_most : (count before : ℕ) → 0 < count → number_of count before ≤ count * 4_294_967_296 + before
at_most count before counted = cond_both ((count == 1) && (before == 0)) 1 (count * 4_294_967_296 + before) (λ (n : ℕ). n ≤ count * 4_294_967_296 + before) (λ is. omega (arith, counted)) (λ is. omega arith)

pub within : (count before later : ℕ) → HasNumber count before → before < later → number_of count before < number_of count later
within count before later has less =
    let le : number_of count before ≤ count * 4_294_967_296 + before = at_most count before has.0 in
    let is : number_of count later ≡ count * 4_294_967_296 + later = usual count later (λ one none. let wrong : ⊥ = omega (arith, less, none) in wrong) in
    omega (arith, le, is, less)

pub between : (count before later : ℕ) → HasNumber count before → count < later → number_of count before < number_of later 0
between count before later has less =
    let counted : 0 < count = has.0 in
    let low : before < 4_294_967_296 = has.2 in
    let le : number_of count before ≤ count * 4_294_967_296 + before = at_most count before has.0 in
    let is : number_of later 0 ≡ later * 4_294_967_296 + 0 = usual later 0 (λ one none. let wrong : ⊥ = omega (arith, counted, less, one) in wrong) in
    omega (arith, le, is, less, low)

pub tells : (count before : ℕ) → HasNumber count before → count_in (number_of count before) ≡ count
tells count before has = cond_both ((count == 1) && (before == 0)) 1 (count * 4_294_967_296 + before) (λ (n : ℕ). count_in n ≡ count) first other
  where
    first : ((count == 1) && (before == 0)) ≡ true → count_in 1 ≡ count
    first is = sym (eqb-true count 1 (and_parts (count == 1) (before == 0) is).0)

    other : ((count == 1) && (before == 0)) ≡ false → count_in (count * 4_294_967_296 + before) ≡ count
    other is =
        let counted : 0 < count = has.0 in
        let many : 4_294_967_296 ≤ count * 4_294_967_296 + before = omega (arith, counted) in
        cond-false _ (count * 4_294_967_296 + before) ((count * 4_294_967_296 + before) / 4_294_967_296) (le-ltb (count * 4_294_967_296 + before) 4_294_967_296 many)
        ∙ div-mul-add count 4_294_967_296 before has.2
