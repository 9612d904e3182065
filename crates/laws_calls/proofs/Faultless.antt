-- A unit without a fault has labels without a dot.
use Rattle.std.proofs.Common.{◌≡◌, ℕ, suc, ◌-◌, ◌≤◌, Bool, true, false, List, [], ◌∷◌, Option, Some, None, refl, sym, ◌∙◌, arith}
use Rattle.std.specs.Prelude.{◌&&◌, nat_le, if◌then◌else◌}
use Rattle.std.specs.List.{AllByRecursion}
use Rattle.std.proofs.lemmas.Bool.{leb-true, ne_eqb}
use Rattle.il_values.specs.declared.op.Op.{Op}
use Rattle.il_model.specs.Words.{is_dot, has_dot}
use Rattle.il_reader.specs.Tokens.{Token}
use Rattle.il_reader.specs.Grammar.{BehindText, Nothing, Given, Target, Opened, Called}
use Rattle.il_units.specs.declared.fault.UnitFaultAt.{UnitFaultAt}
use Rattle.il_units.specs.Units.{LineText, StepText, Operation, Function}
use Rattle.il_units.specs.Words.{capitals}
use Rattle.il_units.specs.Members.{members_of}
use Rattle.il_units.specs.Flats.{Body, no_lines, joined, begun_from}
use Rattle.il_units.specs.Expansion.{ScopeText, line_body}
use Rattle.il_units.specs.Misuse.{◌<+>◌, misused_if, name_fault, members_fault, label_fault, behind_fault, optional_step_fault, line_fault, room_fault, lines_fault}
use Rattle.laws_calls.specs.Laws.{IsLabel, HasLabel, HasTarget, HasStep, HasLabels, IsNoOperator, LabelIsNoOperator, TargetIsNoOperator, StepIsNoOperator, AreNoOperators, AFaultlessUnitIsPlain}

-- ---- none of two faults

first_none : (a b : Option UnitFaultAt) → (a <+> b) ≡ None → a ≡ None
first_none None b e = refl
first_none (Some f) b e = absurd cc

later_none : (a b : Option UnitFaultAt) → (a <+> b) ≡ None → b ≡ None
later_none None b e = e
later_none (Some f) b e = absurd cc

unmisused : (b : Bool) (left : ℕ) → misused_if b left ≡ None → b ≡ false
unmisused true left e = absurd cc
unmisused false left e = refl

-- ---- a dot stays one in capital letters, and nothing else becomes one

both_true : (a b : Bool) → (a && b) ≡ true → (a ≡ true) × (b ≡ true)
both_true true b e = (refl, e)
both_true false b e = absurd cc

dot_by : (b : ℕ) (t : Bool) → (nat_le 97 b && nat_le b 122) ≡ t → is_dot (if t then b - 32 else b) ≡ is_dot b
dot_by b true small =
    let least : 97 ≤ b = leb-true 97 b (both_true (nat_le 97 b) (nat_le b 122) small).0 in
    ne_eqb (b - 32) 46 (λ (e : b - 32 ≡ 46). omega arith) ∙ sym (ne_eqb b 46 (λ (e : b ≡ 46). omega arith))
dot_by b false other = refl

dots_kept : (name : List ℕ) → has_dot (capitals name) ≡ has_dot name
dots_kept [] = refl
dots_kept (b ∷ bs) = rw (dot_by b (nat_le 97 b && nat_le b 122) refl, dots_kept bs) refl

is_label : (t : Token) → has_dot t.text ≡ false → IsNoOperator (capitals t.text) → IsLabel (capitals t.text)
is_label t part other = record { part = dots_kept t.text ∙ part; no_return = other.0; no_call = other.1 }

-- ---- a line

label_has : (o : Option Token) → label_fault o ≡ None → LabelIsNoOperator o → HasLabel o
label_has None e other = tt
label_has (Some t) e other = is_label t (unmisused (has_dot t.text) t.left e) other

target_has : (s : ScopeText) (op : Op) (b : BehindText) → behind_fault s op b ≡ None → TargetIsNoOperator b → HasTarget b
target_has s op Nothing e other = tt
target_has s op (Given x) e other = tt
target_has s op (Target t) e other = is_label t (unmisused (has_dot t.text) t.left e) other
target_has s op (Opened x) e other = tt
target_has s op (Called c) e other = tt

step_has : (s : ScopeText) (o : Option StepText) → optional_step_fault s o ≡ None → StepIsNoOperator o → HasStep o
step_has s None e other = tt
step_has s (Some (Operation o)) e other = target_has s o.operator.mnemonic.op o.behind e other
step_has s (Some (Function t xs)) e other = tt

line_has : (s : ScopeText) (l : LineText) → line_fault s l ≡ None → AreNoOperators l → HasLabels l
line_has s l e other = record {
  label = label_has l.label (first_none (label_fault l.label) (optional_step_fault s l.step) e) other.0;
  step = step_has s l.step (later_none (label_fault l.label) (optional_step_fault s l.step) e) other.1;
}

lines_have : (s : ScopeText) (b : Body) (k : ℕ) (ls : List LineText) → lines_fault s b k ls ≡ None → AllByRecursion AreNoOperators ls → AllByRecursion HasLabels ls
unfolding lines_fault
lines_have s b k [] e other = tt
lines_have s b k (l ∷ ls) e other =
    let after = joined b (line_body s k l) in
    let later = later_none (line_fault s l) (room_fault after l <+> lines_fault s after (suc k) ls) e in (
      line_has s l (first_none (line_fault s l) (room_fault after l <+> lines_fault s after (suc k) ls) e) other.0,
      lines_have s after (suc k) ls (later_none (room_fault after l) (lines_fault s after (suc k) ls) later) other.1,
    )

pub faultless_plain : AFaultlessUnitIsPlain
faultless_plain text above unit e other few =
    let members = members_of unit in
    let s : ScopeText = record { text = text; above = above; members = members } in
    let b = begun_from above no_lines members in
    let name = name_fault above (capitals unit.name.text) unit.name.left in
    let mine = members_fault above unit.kind (capitals unit.name.text) unit.name.left [] members in
    let lines = lines_fault s b 1 unit.lines in
    record { lines = lines_have s b 1 unit.lines (later_none mine lines (later_none name (mine <+> lines) e)) other; few = few }
