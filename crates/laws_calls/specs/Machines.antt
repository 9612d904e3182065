-- What performs instructions, and what runs come to.
use Rattle.std.specs.Prelude.{◌≡◌, ℕ, zero, suc, List, Option, Some, None, Result, Ok, Err, Bool, true, false, not}
use Rattle.std.specs.Prelude.{option_map, if◌then◌else◌}
use Rattle.il_values.specs.declared.op.Modifier.{Modifier}
use Rattle.il_values.specs.declared.value.Stop.{Stop}
use Rattle.il_units.specs.declared.word.Word.{Word}

-- What performs instructions. Nothing is asked of it, so that it may be the controller (`Controller`).
pub record Machine (S : Type 0) : Type 0 where
  -- at words that are no jump, no return and no call of an own block: the state behind them, or a stop, which leaves
  -- the state as it was; nothing where it's stuck. The controller does there what its instruction does.
  pub does : List Word → S → Option (Result S Stop)
  -- the truth that the current result is, where it is one: all that C and CN look at
  pub truth : S → Option Bool
  -- the state without the current result, as the controller has it at a label
  pub forgets : S → S

pub data RunEnd (S : Type 0) : Type 0 where
  Done : S → RunEnd S
  Stopped : Stop → S → RunEnd S

-- what a step comes to, with what is left to do then
pub data Turn (C S : Type 0) : Type 0 where
  Next : C → S → Turn C S
  Ends : RunEnd S → Turn C S
  Stuck : Turn C S

-- a run comes to that end, with so many steps before the one that ends it
abbrev pub ComesIn : {C S : Type 0} → (C → S → Turn C S) → ℕ → C → S → RunEnd S → Type 0
ComesIn step zero left s end = step left s ≡ Ends end
ComesIn {C} {S} step (suc n) left s end =
    (rest : C) × (t : S) × (step left s ≡ Next rest t) × ComesIn step n rest t end

abbrev pub Comes : {C S : Type 0} → (C → S → Turn C S) → C → S → RunEnd S → Type 0
Comes step left s end = (n : ℕ) × ComesIn step n left s end

-- ---- jumps, returns and calls with C or CN

abbrev pub is_met : Modifier → Bool → Bool
is_met m truth = if m.negated then not truth else truth

-- with C it's made where the current result is TRUE, with CN where it is FALSE
abbrev pub test : Modifier → Option Bool → Option Bool
test m truth = if m.conditional then option_map (is_met m) truth else Some true

abbrev pub where_met : {C S : Type 0} → Option Bool → Turn C S → Turn C S → Turn C S
where_met None made other = Stuck
where_met (Some true) made other = made
where_met (Some false) made other = other

abbrev pub goes_to : {C S : Type 0} → Option C → S → Turn C S
goes_to None s = Stuck
goes_to (Some left) s = Next left s

abbrev pub performed : {C S : Type 0} → Option (Result S Stop) → C → S → Turn C S
performed None next s = Stuck
performed (Some (Ok t)) next s = Next next t
performed (Some (Err stop)) next s = Ends (Stopped stop s)

-- at a label there is no current result
abbrev pub arrived : {X S : Type 0} → Machine S → Option X → S → S
arrived M None s = s
arrived M (Some label) s = M.forgets s
