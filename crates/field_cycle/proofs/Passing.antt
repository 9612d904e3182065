-- Steps that are passed over.
use Rattle.std.proofs.Common.{◌≡◌, ℕ, ◌+◌, ◌≤◌, ◌<◌, ◌⊎◌, inl, inr, refl, sym, subst, arith, Bool, true, false}
use Rattle.std.specs.Prelude.{nat_eq}
use Rattle.std.proofs.lemmas.Bool.Decides.{nat_tests}
use Rattle.std.specs.Prelude.{None}
use Rattle.field_map.specs.declared.reading.Outputs.{Outputs}
use Rattle.field_map.specs.declared.device.Device.{Device}
use Rattle.field_map.specs.Rounds.{asked_at}
use Rattle.field_cycle.specs.Rounds.{ArePassed, IsPassed, Reaches}

-- one more
passed_next : (d : Device) (o : Outputs) (from to : ℕ) → ArePassed d o from to → IsPassed d o to
    → (k : ℕ) → from ≤ k → k < to + 1 → (k ≡ to) ⊎ (k < to) → IsPassed d o k
passed_next d o from to h here k le lt (inl e) = subst (IsPassed d o) (sym e) here
passed_next d o from to h here k le lt (inr below) = h.passed k le below

last_or_below : (k n : ℕ) → k < n + 1 → (k ≡ n) ⊎ (k < n)
last_or_below k n h = by_test (nat_eq k n) refl
  where
    by_test : (b : Bool) → nat_eq k n ≡ b → (k ≡ n) ⊎ (k < n)
    by_test true e = inl (grind (arith, nat_tests))
    by_test false e = inr (grind (arith, nat_tests))

pub passed_one : (d : Device) (o : Outputs) (from to : ℕ) → ArePassed d o from to → IsPassed d o to
    → ArePassed d o from (to + 1)
passed_one d o from to h here =
    record { passed = λ k le lt. passed_next d o from to h here k le lt (last_or_below k to lt) }

-- a step that is asked nothing
pub passed_more : (d : Device) (o : Outputs) (from to : ℕ) → ArePassed d o from to → asked_at d to o ≡ None
    → ArePassed d o from (to + 1)
passed_more d o from to h here = passed_one d o from to h (inl here)

-- up to what is reached
pub passed_to : (d : Device) (o : Outputs) (from step to : ℕ) → ArePassed d o from step → Reaches d o step to
    → ArePassed d o from to
passed_to d o from step to h (inl e) = subst (ArePassed d o from) (sym e) h
passed_to d o from step to h (inr r) = subst (ArePassed d o from) (sym r.0) (passed_one d o from step h (inr r.1))
