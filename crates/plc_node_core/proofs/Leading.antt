-- A node that begins to lead doesn't go on as it is.
use Rattle.std.proofs.Common.{◌≡◌, ◌⊎◌, inl, inr, ℕ, Bool, true, false, Option, Some, None, ◌==◌, refl, sym}
use Rattle.std.proofs.lemmas.Bool.{eq-eqb, eqb-true}
use Rattle.plc_machine.specs.declared.leading.Course.{Course}
use Rattle.plc_machine.specs.declared.leading.Course.TheVariants.{StandingBy, Leading}
use Rattle.plc_machine.specs.Driving.{IsKept}
use Rattle.plc_node_core.specs.Actions.{led_in}
use Rattle.plc_node_core.specs.Turns.{begins_to_lead}

pub turned : (leads : Option ℕ) (course : Course) → begins_to_lead leads (led_in course) ≡ true → IsKept leads course → ⊥
turned None course is kept = cc
turned (Some view) StandingBy is kept = kept
turned (Some view) (Leading lead) is kept = let same : (view == lead.view) ≡ true = eq-eqb view lead.view (sym kept) in cc

by_test : (view led : ℕ) (is : Bool) → (led == view) ≡ is → (led ≡ view) ⊎ ((led ≡ view) → ⊥)
by_test view led true same = inl (eqb-true led view same)
by_test view led false other = inr (λ same. let is : (led == view) ≡ true = eq-eqb led view same in cc)

-- it does, or it doesn't
pub kept_or_turned : (leads : Option ℕ) (course : Course) → IsKept leads course ⊎ (IsKept leads course → ⊥)
kept_or_turned None StandingBy = inl tt
kept_or_turned None (Leading lead) = inr (λ kept. kept)
kept_or_turned (Some view) StandingBy = inr (λ kept. kept)
kept_or_turned (Some view) (Leading lead) = by_test view lead.view (lead.view == view) refl
