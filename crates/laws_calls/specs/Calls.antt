-- Calls, without any expansion: a call runs the body of what is called, from its first line to its end or a return.
use Rattle.std.specs.Prelude.{ℕ, suc, List, [], ◌∷◌, ◌++◌, map, Option, Some, None, option_map, option_and_then, Bool}
use Rattle.std.specs.Prelude.{false, if◌then◌else◌}
use Rattle.std.specs.List.{flat_map, filter}
use Rattle.std.specs.Str.{bytes_eq}
use Rattle.il_reader.specs.Tokens.{Token}
use Rattle.il_reader.specs.Grammar.{OperandText, CallText, arguments_of, BehindText, Called, OperationText}
use Rattle.il_units.specs.declared.word.Word.{Word}
use Rattle.il_units.specs.declared.word.Line.{Line}
use Rattle.il_units.specs.declared.members.Member.{Member}
use Rattle.il_units.specs.Units.{UnitText, LineText, StepText, Operation, Function}
use Rattle.il_units.specs.Words.{capitals, Placing, placed}
use Rattle.il_units.specs.Members.{members_of, member_named}
use Rattle.il_units.specs.Flats.{FlatUnit, is_block}
use Rattle.il_units.specs.Calls.{ld, input_of, output_of, instance_placing, is_input, shared_in, function_inputs}
use Rattle.il_units.specs.Calls.{first_value, function_placing}
use Rattle.il_units.specs.Choices.{choice_named}
use Rattle.il_units.specs.Expansion.{ScopeText, written_at, operation_words, call_name, choice_by}
use Rattle.laws_calls.specs.Machines.{Machine, Turn, Next, Ends, Done, test, where_met, arrived}
use Rattle.laws_calls.specs.Lines.{control_of, turn_by, from}

-- ---- units and what they use

-- a unit, and the units above it
pub record UnitAt : Type 0 where
  pub above : List UnitText
  pub unit : UnitText

-- the first unit of a name, which has those before it above it
abbrev pub unit_in : List UnitText → List UnitText → List ℕ → Option UnitAt
unit_in before [] name = None
unit_in before (u ∷ us) name = if bytes_eq (capitals u.name.text) name
    then Some (record { above = before; unit = u }) else unit_in (before ++ u ∷ []) us name

-- what a unit uses by a name
abbrev pub used_by : UnitAt → List ℕ → Option UnitAt
used_by u name = unit_in [] u.above name

abbrev pub only_block : UnitAt → Option UnitAt
only_block u = if is_block u.unit.kind then Some u else None

-- the own block of which the member of a name is an instance
abbrev pub block_at : UnitAt → List ℕ → Option UnitAt
block_at u name = option_and_then (λ (m : Member). option_and_then only_block (used_by u m.ty.text))
    (member_named (members_of u.unit) name)

-- a unit as those see it that use it: what it declares, and none of its lines
abbrev pub declared_by : UnitText → FlatUnit
declared_by unit = record {
  kind = unit.kind;
  name = capitals unit.name.text;
  members = members_of unit;
  shared = [];
  bound = [];
  declared = [];
  lines = [];
  depth = 0;
}

-- ---- names

-- What a word of a body means, by the calls that are open, the innermost first. The variable x of the instance i is
-- i.x, so that an instance has a record of its own; a VAR_IN_OUT means what the call gives, in the body that calls.
abbrev pub word_in : List Placing → Word → Word
word_in [] word = word
word_in (at ∷ more) word = word_in more (placed at word)

-- ---- what is left to do

-- in the body of a call: the lines of its unit from the k-th on; of all these operators the last of them; or no current
-- result from now on
pub data Task : Type 0 where
  Lines : List Placing → UnitAt → ℕ → List LineText → Task
  Operators : List Placing → List Line → List Line → Task
  Forget : Task

-- the k-th line of a unit, in the body of a call: what is left of the body behind it, and what comes behind the body
pub record Here : Type 0 where
  pub calls : List Placing
  pub unit : UnitAt
  pub number : ℕ
  pub left : List LineText
  pub behind : List Task

abbrev pub next : Here → List Task
next h = Lines h.calls h.unit (suc h.number) h.left ∷ h.behind

-- operators first
abbrev pub first : List Placing → List Line → List Task → List Task
first calls ls more = Operators calls ls ls ∷ more

abbrev pub bears_label : List ℕ → Option Token → Bool
bears_label name None = false
bears_label name (Some t) = bytes_eq (capitals t.text) name

-- a unit's lines from a label on, the first of them the k-th
abbrev pub lines_at : List ℕ → ℕ → List LineText → Option (ℕ × List LineText)
lines_at name k [] = None
lines_at name k (l ∷ ls) = if bears_label name l.label then Some (k, l ∷ ls) else lines_at name (suc k) ls

abbrev pub lines_from : Here → ℕ × List LineText → List Task
lines_from h at = Lines h.calls h.unit at.0 at.1 ∷ h.behind

abbrev pub jumped : Here → List ℕ → Option (List Task)
jumped h name = option_map (lines_from h) (lines_at name 1 h.unit.unit.lines)

-- ---- calls

-- The inputs as they are given, the body to its end, then the outputs that are asked for. There is no current result
-- behind the body, nor behind the call.
abbrev pub call_tasks : Here → UnitAt → CallText → ℕ → List Task
call_tasks h v c left =
    let ms = members_of h.unit.unit in let block = declared_by v.unit in let instance = capitals c.instance.text in
    first h.calls (flat_map (input_of ms block instance) (arguments_of c))
    (Lines (instance_placing ms block (call_name h.number) c left ∷ h.calls) v 1 v.unit.lines ∷ Forget
    ∷ first h.calls (flat_map (output_of ms block instance) (arguments_of c)) (Forget ∷ next h))

-- The current result is the first input, and the other inputs are given; the function's other variables begin with
-- their first values; then the body to its end, and its result is the current result.
abbrev pub function_tasks : Here → UnitAt → List OperandText → ℕ → List Task
function_tasks h v xs left =
    let f = declared_by v.unit in
    first h.calls (function_inputs (members_of h.unit.unit) f left (filter is_input f.members) xs)
    (first h.calls (flat_map (first_value f left) f.members)
    (Lines (function_placing f (call_name h.number) left ∷ h.calls) v 1 v.unit.lines ∷ Forget
    ∷ first h.calls (ld (shared_in f f.name left) left ∷ []) (next h)))

-- the operators of LIMIT, SEL and MUX
abbrev pub choice_lines : List ℕ → Here → Token → List OperandText → List Line
choice_lines text h t xs = let u = h.unit in
    let s : ScopeText = record { text = text; above = map declared_by u.above; members = members_of u.unit } in
    let chosen = choice_by (choice_named (capitals t.text)) s (call_name h.number) xs t.left in chosen.lines

abbrev pub applied_tasks : List ℕ → Here → Token → List OperandText → Option UnitAt → List Task
applied_tasks text h t xs (Some v) = function_tasks h v xs t.left
applied_tasks text h t xs None = first h.calls (choice_lines text h t xs) (next h)

-- ---- steps

-- an operation that is no call, in the names of its unit
abbrev pub plain_words : List ℕ → UnitAt → OperationText → List Word
plain_words text u o = let left = o.operator.left in
    operation_words (members_of u.unit) o.operator.mnemonic (written_at text left) o.behind left

abbrev pub plain_turn : {S : Type 0} → Machine S → List ℕ → Here → OperationText → S → Turn (List Task) S
plain_turn M text h o s = let ws = plain_words text h.unit o in
    turn_by M (control_of ws) (map (word_in h.calls) ws) (jumped h) h.behind (next h) s

-- a call with C or CN is made, or left out
abbrev pub called_turn : {S : Type 0} → Machine S → List ℕ → Here → OperationText → CallText → Option UnitAt → S
    → Turn (List Task) S
called_turn M text h o c None s = plain_turn M text h o s
called_turn M text h o c (Some v) s = where_met (test o.operator.mnemonic.modifier (M.truth s))
    (Next (call_tasks h v c o.operator.left) s) (Next (Forget ∷ next h) s)

abbrev pub operation_turn : {S : Type 0} → Machine S → List ℕ → Here → OperationText → BehindText → S
    → Turn (List Task) S
operation_turn M text h o (Called c) s = called_turn M text h o c (block_at h.unit (capitals c.instance.text)) s
operation_turn M text h o behind s = plain_turn M text h o s

abbrev pub step_turn : {S : Type 0} → Machine S → List ℕ → Here → Option StepText → S → Turn (List Task) S
step_turn M text h None s = Next (next h) s
step_turn M text h (Some (Operation o)) s = operation_turn M text h o o.behind s
step_turn M text h (Some (Function t xs)) s =
    Next (applied_tasks text h t xs (used_by h.unit (capitals t.text))) s

-- one of some operators
abbrev pub operator_turn : {S : Type 0} → Machine S → List Placing → List Line → Line → List Line → List Task → S
    → Turn (List Task) S
operator_turn M calls all l ls more s = turn_by M (control_of l.words) (map (word_in calls) l.words)
    (λ name. option_map (λ rest. Operators calls all rest ∷ more) (from name all)) more (Operators calls all ls ∷ more)
    s

-- the first of what is left to do, where what is done already is passed over
abbrev pub call_step : {S : Type 0} → Machine S → List ℕ → List Task → S → Turn (List Task) S
call_step M text [] s = Ends (Done s)
call_step M text (Forget ∷ more) s = Next more (M.forgets s)
call_step M text (Operators calls all [] ∷ more) s = call_step M text more s
call_step M text (Operators calls all (l ∷ ls) ∷ more) s =
    operator_turn M calls all l ls more (arrived M l.label s)
call_step M text (Lines calls u k [] ∷ more) s = call_step M text more s
call_step M text (Lines calls u k (l ∷ ls) ∷ more) s = let h : Here =
    record { calls = calls; unit = u; number = k; left = ls; behind = more } in
    step_turn M text h l.step (arrived M l.label s)

-- the program of a text of units, at the beginning of a scan
abbrev pub begun : List UnitText → UnitText → List Task
begun above program = Lines [] (record { above = above; unit = program }) 1 program.lines ∷ []
