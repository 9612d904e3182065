-- An expansion does what its calls do.
use Rattle.std.specs.Prelude.{◌≡◌, ℕ, ◌<◌, ◌^◌, List, [], ◌∷◌, ◌++◌, Option, Some, None, false, codes, length}
use Rattle.std.specs.List.{AllByRecursion}
use Rattle.il_model.specs.Words.{has_dot}
use Rattle.il_reader.specs.Tokens.{Token}
use Rattle.il_reader.specs.Grammar.{BehindText, Target}
use Rattle.il_units.specs.declared.word.Line.{Line}
use Rattle.il_units.specs.Units.{UnitText, LineText, StepText, Operation, Function}
use Rattle.il_units.specs.Words.{capitals}
use Rattle.il_units.specs.Flats.{FlatUnit}
use Rattle.il_units.specs.Expansion.{flat_of, flats_from}
use Rattle.il_units.specs.Misuse.{fault_of}
use Rattle.laws_calls.specs.Machines.{Machine, RunEnd, Comes}
use Rattle.laws_calls.specs.Lines.{line_step}
use Rattle.laws_calls.specs.Calls.{call_step, begun}

-- ---- labels that a unit may have

-- a label has no dot, and is none of the words RET and CAL, which are operators
pub record IsLabel (name : List ℕ) : Type 0 where
  pub part : has_dot name ≡ false
  pub no_return : name ≡ codes "RET" → ⊥
  pub no_call : name ≡ codes "CAL" → ⊥

abbrev pub HasLabel : Option Token → Type 0
HasLabel None = Unit {0}
HasLabel (Some t) = IsLabel (capitals t.text)

abbrev pub HasTarget : BehindText → Type 0
HasTarget (Target t) = IsLabel (capitals t.text)
HasTarget behind = Unit {0}

abbrev pub HasStep : Option StepText → Type 0
HasStep None = Unit {0}
HasStep (Some (Operation o)) = HasTarget o.behind
HasStep (Some (Function t xs)) = Unit {0}

pub record HasLabels (l : LineText) : Type 0 where
  pub label : HasLabel l.label
  pub step : HasStep l.step

pub record IsPlainUnit (u : UnitText) : Type 0 where
  pub lines : AllByRecursion HasLabels u.lines
  pub few : length u.lines < 2 ^ 64

-- ---- what has such labels

abbrev pub IsNoOperator : List ℕ → Type 0
IsNoOperator name = (name ≡ codes "RET" → ⊥) × (name ≡ codes "CAL" → ⊥)

abbrev pub LabelIsNoOperator : Option Token → Type 0
LabelIsNoOperator None = Unit {0}
LabelIsNoOperator (Some t) = IsNoOperator (capitals t.text)

abbrev pub TargetIsNoOperator : BehindText → Type 0
TargetIsNoOperator (Target t) = IsNoOperator (capitals t.text)
TargetIsNoOperator behind = Unit {0}

abbrev pub StepIsNoOperator : Option StepText → Type 0
StepIsNoOperator None = Unit {0}
StepIsNoOperator (Some (Operation o)) = TargetIsNoOperator o.behind
StepIsNoOperator (Some (Function t xs)) = Unit {0}

-- neither its label nor the target of its jump is an operator that the labels of calls are named after
abbrev pub AreNoOperators : LineText → Type 0
AreNoOperators l = LabelIsNoOperator l.label × StepIsNoOperator l.step

-- a unit in which il_units finds no fault beside those above it, and none of whose labels is such an operator
abbrev pub AFaultlessUnitIsPlain : Type 0
AFaultlessUnitIsPlain = (text : List ℕ) (above : List FlatUnit) (unit : UnitText) → fault_of text above unit ≡ None
    → AllByRecursion AreNoOperators unit.lines → length unit.lines < 2 ^ 64 → IsPlainUnit unit

-- ---- the law

-- the lines of the expansion of a program
abbrev pub expanded_lines : List ℕ → List UnitText → UnitText → List Line
expanded_lines text above program = let u = flat_of text (flats_from text [] above) program in u.lines

-- the program run by its calls, and its expansion line by line, come to the same ends from the same states
abbrev pub DoAlike : {S : Type 0} → Machine S → List ℕ → List UnitText → UnitText → S → RunEnd S → Type 0
DoAlike M text above program s end = let ls = expanded_lines text above program in
    (Comes (call_step M text) (begun above program) s end → Comes (line_step M ls) ls s end)
    × (Comes (line_step M ls) ls s end → Comes (call_step M text) (begun above program) s end)

-- whatever states the machine has, and whatever it does at the operators
abbrev pub ACallIsACall : Type 0 → Type 0
ACallIsACall S = (M : Machine S) (text : List ℕ) (above : List UnitText) (program : UnitText) (s : S)
    (end : RunEnd S) → AllByRecursion IsPlainUnit (above ++ program ∷ []) → DoAlike M text above program s end
