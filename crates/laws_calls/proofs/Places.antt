-- Where the labels of a unit, and those of its calls, stand among its lines.
use Rattle.std.proofs.Common.{◌≡◌, ℕ, zero, suc, ◌+◌, ◌<◌, ◌≤◌, ◌^◌, Bool, true, false, List, [], ◌∷◌, ◌++◌, length, Option, Some, None, refl, sym, ap, ◌∙◌, subst, arith, codes, inl, inr}
use Rattle.std.specs.Prelude.{◌⊎◌, option_map, is_none, if◌then◌else◌}
use Rattle.std.specs.List.{AllByRecursion, flat_map, filter}
use Rattle.std.specs.Str.{bytes_eq}
use Rattle.il_values.specs.declared.op.Modifier.{Modifier}
use Rattle.il_model.specs.Words.{has_dot, under}
use Rattle.il_reader.specs.Tokens.{Token}
use Rattle.il_reader.specs.Grammar.{OperandText, CallText, BehindText, Nothing, Given, Target, Opened, Called, OperationText, arguments_of}
use Rattle.il_units.specs.declared.word.Word.{Word}
use Rattle.il_units.specs.declared.word.Line.{Line}
use Rattle.il_units.specs.Units.{LineText, StepText, Operation, Function}
use Rattle.il_units.specs.Words.{capitals, label, mark}
use Rattle.il_units.specs.Members.{members_of}
use Rattle.il_units.specs.Flats.{FlatUnit, Body}
use Rattle.il_units.specs.Calls.{back, behind, skip_word, skipped, jump, input_of, output_of, instance_placing, placed_body, made_call, called_lines, is_input, function_inputs, first_value, function_placing, applied_lines, ld, shared_in}
use Rattle.il_units.specs.Choices.{choice_named}
use Rattle.il_units.specs.Expansion.{call_name, called_or_plain, operated_as, function_by, optional_step, lone_label, labelled_lines, with_label, line_body, choice_by}
use Rattle.laws_calls.proofs.Apart.{calls_apart}
use Rattle.laws_calls.specs.Lines.{bears, from}
use Rattle.laws_calls.specs.Calls.{UnitAt, used_by, block_at, bears_label, lines_at}
use Rattle.laws_calls.specs.Laws.{IsLabel, HasLabel, HasLabels, IsPlainUnit}
use Rattle.laws_calls.proofs.Labels.{all_both, all_also, under_no_part, dotted, bytes_differ, from_found, from_passed, from_first, from_next, none_from, none_under, HasLabelWord, IsLabelWord, IsUnder, HasUnder}
use Rattle.laws_calls.proofs.Units.{flat_at, scope_at, unit_is, block_is, block_at_used, used_good, lines_in, unit_lines}
use Rattle.laws_calls.proofs.Fragments.{straight_inputs, straight_outputs, straight_function_inputs, straight_first_values, straight_under, placed_under, operator_choice, operators_under}

-- ---- what a line comes to bears labels under its call

-- the bodies of what a unit uses bear labels
abbrev pub UsesLabelled : List ℕ → UnitAt → Type 0
UsesLabelled text u = (name : List ℕ) (v : UnitAt) → used_by u name ≡ Some v → AllByRecursion HasLabelWord ((flat_at text v).lines)

skipped_under : (call : List ℕ) (m : Modifier) (left : ℕ) → AllByRecursion (HasUnder call) (skipped call m left)
skipped_under call m left = by_truth m.conditional
  where
    by_truth : (b : Bool) → AllByRecursion (HasUnder call) (if b then jump (skip_word m) (behind call) left ∷ [] else [])
    by_truth true = (tt, tt)
    by_truth false = tt

called_under : (text : List ℕ) (u v : UnitAt) (call : List ℕ) (m : Modifier) (c : CallText) (left : ℕ) → AllByRecursion HasLabelWord ((flat_at text v).lines)
    → AllByRecursion (HasUnder call) (called_lines (members_of u.unit) (flat_at text v) call m c left)
called_under text u v call m c left all =
    let ms = members_of u.unit in let block = flat_at text v in let front = capitals c.instance.text in
    let P = HasUnder call in
    all_both P (skipped call m left) (made_call ms block call c left ++ mark (behind call) left ∷ []) (skipped_under call m left)
    (all_both P (made_call ms block call c left) (mark (behind call) left ∷ [])
    (all_both P (flat_map (input_of ms block front) (arguments_of c)) (placed_body (instance_placing ms block call c left) block ++ (mark (back call) left ∷ flat_map (output_of ms block front) (arguments_of c)))
    (straight_under call (flat_map (input_of ms block front) (arguments_of c)) (straight_inputs ms block front (arguments_of c)))
    (all_both P (placed_body (instance_placing ms block call c left) block) (mark (back call) left ∷ flat_map (output_of ms block front) (arguments_of c))
    (placed_under (instance_placing ms block call c left) block.lines all)
    ((refl, (codes "RET", refl)), straight_under call (flat_map (output_of ms block front) (arguments_of c)) (straight_outputs ms block front (arguments_of c)))))
    ((refl, (codes "CAL", refl)), tt))

applied_under : (text : List ℕ) (u v : UnitAt) (call : List ℕ) (xs : List OperandText) (left : ℕ) → AllByRecursion HasLabelWord ((flat_at text v).lines)
    → AllByRecursion (HasUnder call) (applied_lines (members_of u.unit) (flat_at text v) call xs left)
applied_under text u v call xs left all =
    let ms = members_of u.unit in let f = flat_at text v in let P = HasUnder call in
    all_both P (function_inputs ms f left (filter is_input f.members) xs) (flat_map (first_value f left) f.members ++ (placed_body (function_placing f call left) f ++ mark (back call) left ∷ ld (shared_in f f.name left) left ∷ []))
    (straight_under call (function_inputs ms f left (filter is_input f.members) xs) (straight_function_inputs ms f left (filter is_input f.members) xs))
    (all_both P (flat_map (first_value f left) f.members) (placed_body (function_placing f call left) f ++ mark (back call) left ∷ ld (shared_in f f.name left) left ∷ [])
    (straight_under call (flat_map (first_value f left) f.members) (straight_first_values f left f.members))
    (all_both P (placed_body (function_placing f call left) f) (mark (back call) left ∷ ld (shared_in f f.name left) left ∷ [])
    (placed_under (function_placing f call left) f.lines all)
    ((refl, (codes "RET", refl)), (tt, tt))))

called_or_under : (text : List ℕ) (u : UnitAt) (call : List ℕ) (c : CallText) (o : OperationText) (b : Option UnitAt)
    → ((v : UnitAt) → b ≡ Some v → AllByRecursion HasLabelWord ((flat_at text v).lines))
    → AllByRecursion (HasUnder call) ((called_or_plain (option_map (flat_at text) b) (scope_at text u) call c o).lines)
called_or_under text u call c o None all = (tt, tt)
called_or_under text u call c o (Some v) all = called_under text u v call o.operator.mnemonic.modifier c o.operator.left (all v refl)

operated_under : (text : List ℕ) (u : UnitAt) (call : List ℕ) (o : OperationText) (b : BehindText) → UsesLabelled text u → AllByRecursion (HasUnder call) ((operated_as b (scope_at text u) call o).lines)
operated_under text u call o (Called c) uses =
    subst (λ (b : Option FlatUnit). AllByRecursion (HasUnder call) ((called_or_plain b (scope_at text u) call c o).lines)) (sym (block_is text u (capitals c.instance.text)))
    (called_or_under text u call c o (block_at u (capitals c.instance.text)) (λ (v : UnitAt) (e : block_at u (capitals c.instance.text) ≡ Some v). let w = block_at_used u (capitals c.instance.text) v e in uses w.0 v w.1))
operated_under text u call o Nothing uses = (tt, tt)
operated_under text u call o (Given x) uses = (tt, tt)
operated_under text u call o (Target t) uses = (tt, tt)
operated_under text u call o (Opened x) uses = (tt, tt)

function_under : (text : List ℕ) (u : UnitAt) (call : List ℕ) (t : Token) (xs : List OperandText) (b : Option UnitAt)
    → ((v : UnitAt) → b ≡ Some v → AllByRecursion HasLabelWord ((flat_at text v).lines))
    → AllByRecursion (HasUnder call) ((function_by (option_map (flat_at text) b) (scope_at text u) call t xs).lines)
function_under text u call t xs None all = operators_under call (choice_by (choice_named (capitals t.text)) (scope_at text u) call xs t.left).lines (operator_choice (choice_named (capitals t.text)) (scope_at text u) call xs t.left)
function_under text u call t xs (Some v) all = applied_under text u v call xs t.left (all v refl)

pub step_under : (text : List ℕ) (u : UnitAt) (call : List ℕ) (o : Option StepText) → UsesLabelled text u → AllByRecursion (HasUnder call) ((optional_step (scope_at text u) call o).lines)
step_under text u call None uses = tt
step_under text u call (Some (Operation o)) uses = operated_under text u call o o.behind uses
step_under text u call (Some (Function t xs)) uses =
    subst (λ (b : Option FlatUnit). AllByRecursion (HasUnder call) ((function_by b (scope_at text u) call t xs).lines)) (sym (unit_is text u.above (capitals t.text)))
    (function_under text u call t xs (used_by u (capitals t.text)) (λ (v : UnitAt) (e : used_by u (capitals t.text) ≡ Some v). uses (capitals t.text) v e))

-- ---- a label before lines

labelled_by : (w : Word) (x : Line) (xs : List Line) (name : List ℕ) (o : Option Word) → x.label ≡ o → bears name (Some w) ≡ false
    → from name (if is_none o then record { label = Some w; words = x.words; left = x.left } ∷ xs else lone_label w ∷ x ∷ xs) ≡ from name (x ∷ xs)
labelled_by w x xs name None is lacks = from_next name (record { label = Some w; words = x.words; left = x.left }) xs lacks ∙ sym (from_next name x xs (ap (bears name) is))
labelled_by w x xs name (Some v) is lacks = from_next name (lone_label w) (x ∷ xs) lacks

pub labelled_from : (w : Word) (ls : List Line) (name : List ℕ) → bears name (Some w) ≡ false → from name (labelled_lines w ls) ≡ from name ls
labelled_from w [] name lacks = from_next name (lone_label w) [] lacks
labelled_from w (x ∷ xs) name lacks = labelled_by w x xs name x.label refl lacks

first_by : (w : Word) (x : Line) (xs rest : List Line) (name : List ℕ) (b : Bool) → bears name (Some w) ≡ true
    → from name ((if b then record { label = Some w; words = x.words; left = x.left } ∷ xs else lone_label w ∷ x ∷ xs) ++ rest)
    ≡ Some ((if b then record { label = Some w; words = x.words; left = x.left } ∷ xs else lone_label w ∷ x ∷ xs) ++ rest)
first_by w x xs rest name true bears_it = from_first name (record { label = Some w; words = x.words; left = x.left }) (xs ++ rest) bears_it
first_by w x xs rest name false bears_it = from_first name (lone_label w) (x ∷ xs ++ rest) bears_it

labelled_first : (w : Word) (ls rest : List Line) (name : List ℕ) → bears name (Some w) ≡ true → from name (labelled_lines w ls ++ rest) ≡ Some (labelled_lines w ls ++ rest)
labelled_first w [] rest name bears_it = from_first name (lone_label w) rest bears_it
labelled_first w (x ∷ xs) rest name bears_it = first_by w x xs rest name (is_none x.label) bears_it

same_by : (name : List ℕ) (a b rest : List Line) (o : Option (List Line)) → from name a ≡ o → from name b ≡ o → from name (a ++ rest) ≡ from name (b ++ rest)
same_by name a b rest None p q = from_passed name a rest p ∙ sym (from_passed name b rest q)
same_by name a b rest (Some r) p q = from_found name a rest r p ∙ sym (from_found name b rest r q)

pub same_from : (name : List ℕ) (a b rest : List Line) → from name a ≡ from name b → from name (a ++ rest) ≡ from name (b ++ rest)
same_from name a b rest e = same_by name a b rest (from name a) refl (sym e)

-- ---- a label of the unit's own

own_here : (text : List ℕ) (u : UnitAt) (name : List ℕ) (k : ℕ) (t : Token) (b : Body) (rest : List Line) (found : Option (ℕ × List LineText)) (l : LineText) (ls : List LineText) (truth : Bool) → bytes_eq (capitals t.text) name ≡ truth
    → ((labelled_lines (label (capitals t.text) t.left) b.lines) ++ rest ≡ lines_in (scope_at text u) k (l ∷ ls))
    → from name b.lines ≡ None
    → from name rest ≡ option_map (λ (p : ℕ × List LineText). lines_in (scope_at text u) p.0 p.1) found
    → from name (labelled_lines (label (capitals t.text) t.left) b.lines ++ rest) ≡ option_map (λ (p : ℕ × List LineText). lines_in (scope_at text u) p.0 p.1) (if truth then Some (k, l ∷ ls) else found)
own_here text u name k t b rest found l ls true is whole none more = labelled_first (label (capitals t.text) t.left) b.lines rest name is ∙ ap Some whole
own_here text u name k t b rest found l ls false is whole none more =
    from_passed name (labelled_lines (label (capitals t.text) t.left) b.lines) rest (labelled_from (label (capitals t.text) t.left) b.lines name is ∙ none) ∙ more

own_by : (text : List ℕ) (u : UnitAt) (name : List ℕ) (k : ℕ) (o : Option Token) (step : Option StepText) (b : Body) (rest : List Line) (ls : List LineText) (found : Option (ℕ × List LineText))
    → ((with_label o b).lines ++ rest ≡ lines_in (scope_at text u) k (record { label = o; step = step } ∷ ls))
    → from name b.lines ≡ None
    → from name rest ≡ option_map (λ (p : ℕ × List LineText). lines_in (scope_at text u) p.0 p.1) found
    → from name ((with_label o b).lines ++ rest) ≡ option_map (λ (p : ℕ × List LineText). lines_in (scope_at text u) p.0 p.1) (if bears_label name o then Some (k, record { label = o; step = step } ∷ ls) else found)
own_by text u name k None step b rest ls found whole none more = from_passed name b.lines rest none ∙ more
own_by text u name k (Some t) step b rest ls found whole none more = own_here text u name k t b rest found (record { label = Some t; step = step }) ls (bytes_eq (capitals t.text) name) refl whole none more

pub own_from : (text : List ℕ) (u : UnitAt) (name : List ℕ) → has_dot name ≡ false → UsesLabelled text u → (k : ℕ) (ls : List LineText)
    → from name (lines_in (scope_at text u) k ls) ≡ option_map (λ (p : ℕ × List LineText). lines_in (scope_at text u) p.0 p.1) (lines_at name k ls)
own_from text u name part uses k [] = refl
own_from text u name part uses k (l ∷ ls) =
    own_by text u name k l.label l.step (optional_step (scope_at text u) (call_name k) l.step) (lines_in (scope_at text u) (suc k) ls) ls (lines_at name (suc k) ls) refl
    (none_under (call_name k) name (optional_step (scope_at text u) (call_name k) l.step).lines (λ (z : List ℕ). under_no_part (call_name k) z name part) (step_under text u (call_name k) l.step uses))
    (own_from text u name part uses (suc k) ls)

-- ---- a label of a call

not_own : (call y : List ℕ) (t : Token) → IsLabel (capitals t.text) → bears (under call y) (Some (label (capitals t.text) t.left)) ≡ false
not_own call y t own = bytes_differ (capitals t.text) (under call y) (λ (e : capitals t.text ≡ under call y). under_no_part call y (capitals t.text) own.part (sym e))

labelled_same : (call y : List ℕ) (o : Option Token) (b : Body) → HasLabel o → from (under call y) ((with_label o b).lines) ≡ from (under call y) b.lines
labelled_same call y None b own = refl
labelled_same call y (Some t) b own = labelled_from (label (capitals t.text) t.left) b.lines (under call y) (not_own call y t own)

other_call : (j k : ℕ) (y : List ℕ) → j < 2 ^ 64 → k < 2 ^ 64 → (j ≡ k → ⊥) → (z : List ℕ) → under (call_name j) z ≡ under (call_name k) y → ⊥
other_call j k y small least lacks z e = lacks (calls_apart j k z y small least e).0

line_without : (text : List ℕ) (u : UnitAt) (j k : ℕ) (y : List ℕ) (l : LineText) → UsesLabelled text u → HasLabels l → j < 2 ^ 64 → k < 2 ^ 64 → (j ≡ k → ⊥)
    → from (under (call_name k) y) ((line_body (scope_at text u) j l).lines) ≡ None
line_without text u j k y l uses has small least lacks =
    labelled_same (call_name k) y l.label (optional_step (scope_at text u) (call_name j) l.step) has.label
    ∙ none_under (call_name j) (under (call_name k) y) (optional_step (scope_at text u) (call_name j) l.step).lines (other_call j k y small least lacks) (step_under text u (call_name j) l.step uses)

-- no line behind bears a label of the call
pub behind_call : (text : List ℕ) (u : UnitAt) (k : ℕ) (y : List ℕ) → UsesLabelled text u → k < 2 ^ 64 → (j : ℕ) (ls : List LineText) → k < j → j + length ls ≤ 2 ^ 64 → AllByRecursion HasLabels ls
    → from (under (call_name k) y) (lines_in (scope_at text u) j ls) ≡ None
behind_call text u k y uses least j [] lt few has = refl
behind_call text u k y uses least j (l ∷ ls) lt few has =
    from_passed (under (call_name k) y) ((line_body (scope_at text u) j l).lines) (lines_in (scope_at text u) (suc j) ls) (line_without text u j k y l uses has.0 (omega arith) least (λ (e : j ≡ k). omega arith))
    ∙ behind_call text u k y uses least (suc j) ls (omega arith) (omega arith) has.1

-- nor does one before it
before_call : (text : List ℕ) (u : UnitAt) (k : ℕ) (y : List ℕ) → UsesLabelled text u → k < 2 ^ 64 → (j : ℕ) (before ls : List LineText) → j + length before ≡ k → AllByRecursion HasLabels before
    → from (under (call_name k) y) (lines_in (scope_at text u) j (before ++ ls)) ≡ from (under (call_name k) y) (lines_in (scope_at text u) k ls)
before_call text u k y uses least j [] ls sum has = let same : j ≡ k = omega arith in ap (λ (i : ℕ). from (under (call_name k) y) (lines_in (scope_at text u) i ls)) same
before_call text u k y uses least j (l ∷ before) ls sum has =
    from_passed (under (call_name k) y) ((line_body (scope_at text u) j l).lines) (lines_in (scope_at text u) (suc j) (before ++ ls)) (line_without text u j k y l uses has.0 (omega arith) least (λ (e : j ≡ k). omega arith))
    ∙ before_call text u k y uses least (suc j) before ls (omega arith) has.1

-- it stands in what the line comes to
pub call_from : (text : List ℕ) (u : UnitAt) (y : List ℕ) (before ls : List LineText) (l : LineText) → UsesLabelled text u → IsPlainUnit u.unit → u.unit.lines ≡ before ++ l ∷ ls
    → AllByRecursion HasLabels before → HasLabels l → suc (length before) < 2 ^ 64
    → from (under (call_name (suc (length before))) y) (lines_in (scope_at text u) 1 u.unit.lines)
    ≡ from (under (call_name (suc (length before))) y) ((optional_step (scope_at text u) (call_name (suc (length before))) l.step).lines ++ lines_in (scope_at text u) (suc (suc (length before))) ls)
call_from text u y before ls l uses plain parts has here small =
    let k : ℕ = suc (length before) in
    ap (λ (all : List LineText). from (under (call_name k) y) (lines_in (scope_at text u) 1 all)) parts
    ∙ before_call text u k y uses small 1 before (l ∷ ls) (omega arith) has
    ∙ same_from (under (call_name k) y) ((line_body (scope_at text u) k l).lines) ((optional_step (scope_at text u) (call_name k) l.step).lines) (lines_in (scope_at text u) (suc k) ls)
    (labelled_same (call_name k) y l.label (optional_step (scope_at text u) (call_name k) l.step) here.label)

-- ---- the labels of a whole unit

-- a label of the unit's own, or one with a dot
abbrev pub IsKnown : Option Word → Type 0
IsKnown None = Unit {0}
IsKnown (Some w) = IsLabelWord (Some w) × ((has_dot w.text ≡ true) ⊎ IsLabel w.text)

abbrev pub HasKnown : Line → Type 0
HasKnown l = IsKnown l.label

under_known : (call : List ℕ) (o : Option Word) → IsUnder call o → IsKnown o
under_known call None is = tt
under_known call (Some w) is = (is.0, inl (ap has_dot is.1.1 ∙ dotted call is.1.0))

all_known : (call : List ℕ) (ls : List Line) → AllByRecursion (HasUnder call) ls → AllByRecursion HasKnown ls
all_known call ls all = all_also (HasUnder call) HasKnown (λ (l : Line) (is : HasUnder call l). under_known call l.label is) ls all

labelled_known : (call : List ℕ) (t : Token) (ls : List Line) → IsLabel (capitals t.text) → AllByRecursion (HasUnder call) ls → AllByRecursion HasKnown (labelled_lines (label (capitals t.text) t.left) ls)
labelled_known call t [] own all = ((refl, inr own), tt)
labelled_known call t (x ∷ xs) own all = by_truth (is_none x.label)
  where
    by_truth : (b : Bool) → AllByRecursion HasKnown (if b then record { label = Some (label (capitals t.text) t.left); words = x.words; left = x.left } ∷ xs else lone_label (label (capitals t.text) t.left) ∷ x ∷ xs)
    by_truth true = ((refl, inr own), all_known call xs all.1)
    by_truth false = ((refl, inr own), (under_known call x.label all.0, all_known call xs all.1))

line_known : (call : List ℕ) (o : Option Token) (b : Body) → HasLabel o → AllByRecursion (HasUnder call) b.lines → AllByRecursion HasKnown ((with_label o b).lines)
line_known call None b own all = all_known call b.lines all
line_known call (Some t) b own all = labelled_known call t b.lines own all

lines_known : (text : List ℕ) (u : UnitAt) → UsesLabelled text u → (k : ℕ) (ls : List LineText) → AllByRecursion HasLabels ls → AllByRecursion HasKnown (lines_in (scope_at text u) k ls)
lines_known text u uses k [] has = tt
lines_known text u uses k (l ∷ ls) has =
    all_both HasKnown ((line_body (scope_at text u) k l).lines) (lines_in (scope_at text u) (suc k) ls)
    (line_known (call_name k) l.label (optional_step (scope_at text u) (call_name k) l.step) has.0.label (step_under text u (call_name k) l.step uses))
    (lines_known text u uses (suc k) ls has.1)

unit_uses : (text : List ℕ) (u : UnitAt) → AllByRecursion IsPlainUnit u.above
    → ((v : UnitAt) → length v.above < length u.above → AllByRecursion IsPlainUnit v.above → IsPlainUnit v.unit → AllByRecursion HasKnown ((flat_at text v).lines))
    → UsesLabelled text u
unit_uses text u plain known name v e =
    let r = used_good IsPlainUnit [] u.above name v e tt plain in
    all_also HasKnown HasLabelWord (λ (l : Line) (is : HasKnown l). label_word l.label is) ((flat_at text v).lines) (known v (omega (arith, r.2)) r.0 r.1)
  where
    label_word : (o : Option Word) → IsKnown o → IsLabelWord o
    label_word None is = tt
    label_word (Some w) is = is.0

known_within : (text : List ℕ) (n : ℕ) (u : UnitAt) → length u.above < n → AllByRecursion IsPlainUnit u.above → IsPlainUnit u.unit → AllByRecursion HasKnown ((flat_at text u).lines)
known_within text zero u lt above plain = absurd (omega arith)
known_within text (suc n) u lt above plain =
    subst (λ (ls : List Line). AllByRecursion HasKnown ls) (sym (unit_lines text u))
    (lines_known text u (unit_uses text u above (λ (v : UnitAt) (less : length v.above < length u.above). known_within text n v (omega arith))) 1 u.unit.lines plain.lines)

pub unit_known : (text : List ℕ) (u : UnitAt) → AllByRecursion IsPlainUnit u.above → IsPlainUnit u.unit → AllByRecursion HasKnown ((flat_at text u).lines)
unit_known text u above plain = known_within text (suc (length u.above)) u (omega arith) above plain

pub uses_labelled : (text : List ℕ) (u : UnitAt) → AllByRecursion IsPlainUnit u.above → UsesLabelled text u
uses_labelled text u above = unit_uses text u above (λ (v : UnitAt) (less : length v.above < length u.above). unit_known text v)

-- a word that is no label of a unit
pub record IsWord (name : List ℕ) : Type 0 where
  pub part : has_dot name ≡ false
  pub free : (own : List ℕ) → IsLabel own → own ≡ name → ⊥

pub return_word : IsWord (codes "RET")
return_word = record { part = refl; free = λ own is e. is.no_return e }

pub call_word : IsWord (codes "CAL")
call_word = record { part = refl; free = λ own is e. is.no_call e }

known_bears : (name : List ℕ) (o : Option Word) → IsWord name → IsKnown o → bears name o ≡ false
known_bears name None word is = refl
known_bears name (Some w) word is = bytes_differ w.text name (no_word is.1)
  where
    no_word : (has_dot w.text ≡ true) ⊎ IsLabel w.text → w.text ≡ name → ⊥
    no_word (inl dots) e = absurd (cc (dots, ap has_dot e, word.part))
    no_word (inr own) e = word.free w.text own e

pub none_known : (name : List ℕ) (ls : List Line) → IsWord name → AllByRecursion HasKnown ls → from name ls ≡ None
none_known name ls word all = none_from HasKnown name (λ (l : Line) (is : HasKnown l). known_bears name l.label word is) ls all

pub known_words : (ls : List Line) → AllByRecursion HasKnown ls → AllByRecursion HasLabelWord ls
known_words ls all = all_also HasKnown HasLabelWord (λ (l : Line) (is : HasKnown l). label_word l.label is) ls all
  where
    label_word : (o : Option Word) → IsKnown o → IsLabelWord o
    label_word None is = tt
    label_word (Some w) is = is.0
