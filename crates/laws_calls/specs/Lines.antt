-- Lines of words performed one after the other, as an expansion has them.
use Rattle.std.specs.Prelude.{ℕ, List, [], ◌∷◌, Option, Some, None, Bool, true, false, if◌then◌else◌}
use Rattle.std.specs.Str.{bytes_eq}
use Rattle.il_values.specs.declared.op.Modifier.{Modifier}
use Rattle.il_model.specs.declared.words.Mnemonic.{Mnemonic}
use Rattle.il_model.specs.declared.dialect.Dialect.TheVariants as dialects
use Rattle.il_model.specs.Words.{plain}
use Rattle.il_model.specs.Dialects.{operator_in}
use Rattle.il_units.specs.declared.word.Sort.{Sort}
use Rattle.il_units.specs.declared.word.Sort.TheVariants as sorts
use Rattle.il_units.specs.declared.word.Word.{Word}
use Rattle.il_units.specs.declared.word.Line.{Line}
use Rattle.laws_calls.specs.Machines.{Machine, Turn, Next, Ends, Done, test, where_met, goes_to, performed, arrived}

-- ---- what the words of a line say

-- no word; a jump to a label; a return; or what the machine performs
pub data Control : Type 0 where
  Nothing : Control
  Jump : Modifier → List ℕ → Control
  Return : Modifier → Control
  Performs : Control

abbrev pub letters_in : Option Mnemonic → Modifier
letters_in None = plain
letters_in (Some m) = m.modifier

-- the letters behind an operator
abbrev pub letters_of : List ℕ → Modifier
letters_of word = letters_in (operator_in dialects.Extended word)

abbrev pub is_label : Sort → Bool
is_label sorts.Label = true
is_label sort = false

-- behind the operator of a jump stands a label alone
abbrev pub behind_operator : List ℕ → List Word → Control
behind_operator op [] = Performs
behind_operator op (x ∷ []) = if is_label x.sort then Jump (letters_of op) x.text else Performs
behind_operator op (x ∷ y ∷ more) = Performs

abbrev pub control_by : Sort → List ℕ → List Word → Control
control_by (sorts.Return letters) op ws = Return letters
control_by sort op ws = behind_operator op ws

abbrev pub control_of : List Word → Control
control_of [] = Nothing
control_of (w ∷ ws) = control_by w.sort w.text ws

-- ---- steps

-- what words come to: at a label of some name, behind the body, and at what comes next something is left to do
abbrev pub turn_by : {C S : Type 0} → Machine S → Control → List Word → (List ℕ → Option C) → C → C → S → Turn C S
turn_by M Nothing ws at behind next s = Next next s
turn_by M (Jump m name) ws at behind next s = where_met (test m (M.truth s)) (goes_to (at name) s) (Next next s)
turn_by M (Return m) ws at behind next s = where_met (test m (M.truth s)) (Next behind s) (Next next s)
turn_by M Performs ws at behind next s = performed (M.does ws s) next s

abbrev pub bears : List ℕ → Option Word → Bool
bears name None = false
bears name (Some w) = bytes_eq w.text name

-- the lines from the first on that bears the label
abbrev pub from : List ℕ → List Line → Option (List Line)
from name [] = None
from name (l ∷ ls) = if bears name l.label then Some (l ∷ ls) else from name ls

-- the first of the lines that are left of all
abbrev pub line_step : {S : Type 0} → Machine S → List Line → List Line → S → Turn (List Line) S
line_step M all [] s = Ends (Done s)
line_step M all (l ∷ ls) s =
    turn_by M (control_of l.words) l.words (λ name. from name all) [] ls (arrived M l.label s)
