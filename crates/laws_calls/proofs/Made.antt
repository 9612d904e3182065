-- Calls that are made, choices, and all steps.
use Rattle.std.proofs.Common.{◌≡◌, ℕ, zero, suc, ◌<◌, Bool, true, false, List, [], ◌∷◌, ◌++◌, map, length, Option, Some, None, refl, sym, ap, ◌∙◌, subst, arith, codes, append_assoc, append-nil, inl}
use Rattle.std.specs.Prelude.{option_map, if◌then◌else◌}
use Rattle.std.specs.List.{AllByRecursion, flat_map, filter, zip}
use Rattle.std.proofs.lemmas.List.{map-id}
use Rattle.il_values.specs.declared.op.Modifier.{Modifier}
use Rattle.il_model.specs.Words.{under}
use Rattle.il_reader.specs.Tokens.{Token}
use Rattle.il_reader.specs.Grammar.{OperandText, CallText, BehindText, Nothing, Given, Target, Opened, Called, OperationText, arguments_of}
use Rattle.il_units.specs.declared.contents.SectionKind.{SectionKind}
use Rattle.il_units.specs.declared.contents.SectionKind.TheVariants as sections
use Rattle.il_units.specs.declared.word.Sort.TheVariants as sorts
use Rattle.il_units.specs.declared.word.Word.{Word}
use Rattle.il_units.specs.declared.word.Line.{Line}
use Rattle.il_units.specs.declared.members.Member.{Member}
use Rattle.il_units.specs.Units.{UnitText, LineText, StepText, Operation, Function}
use Rattle.il_units.specs.Words.{capitals, said, shared, line_of, mark, Placing, placed_line}
use Rattle.il_units.specs.Members.{members_of, operand_word}
use Rattle.il_units.specs.Flats.{FlatUnit, Body}
use Rattle.il_units.specs.Calls.{back, behind, skip_word, skipped, jump, input_of, output_of, instance_placing, called_lines, is_input, passed, other_input, function_inputs, first_literal, first_value_as, first_value, function_placing, applied_lines, ld, st, shared_in}
use Rattle.il_units.specs.Choices.{choice_named}
use Rattle.il_units.specs.Expansion.{call_name, called_or_plain, operated_as, function_by, optional_step}
use Rattle.laws_calls.specs.Machines.{Machine, RunEnd, Turn, Next, Comes, test, where_met, goes_to, arrived}
use Rattle.laws_calls.specs.Lines as line_words
use Rattle.laws_calls.specs.Lines.{Jump, letters_of, control_of, from, line_step}
use Rattle.laws_calls.specs.Calls.{UnitAt, used_by, block_at, declared_by, Task, Lines, Operators, Forget, Here, next, first, call_tasks, function_tasks, choice_lines, applied_tasks, plain_words, plain_turn, called_turn, operation_turn, step_turn, call_step, begun}
use Rattle.laws_calls.specs.Laws.{HasTarget, HasStep, IsPlainUnit, expanded_lines}
use Rattle.laws_calls.proofs.Steps.{follows_after, Less, forth, back as backward}
use Rattle.laws_calls.proofs.Words.{line_in, label_in, jumps_in}
use Rattle.laws_calls.proofs.Labels.{all_also, all_first, all_second, from_passed, from_found}
use Rattle.laws_calls.proofs.Units.{flat_at, scope_at, unit_is, block_is, block_at_used, used_good, lines_in, unit_lines, choice_same}
use Rattle.laws_calls.proofs.Fragments.{IsStraight, none_straight, straight_operand, straight_inputs, straight_outputs, straight_function_inputs, straight_first_values, good_instance, good_function, IsOperator, OperatorForm, operator_choice}
use Rattle.laws_calls.proofs.Fragments as fragments
use Rattle.laws_calls.proofs.Places.{call_word}
use Rattle.laws_calls.proofs.Calls.{block_tail, tail_without, tail_behind, past_mark}
use Rattle.laws_calls.proofs.Letters.{skip_test, other_met, unconditional}
use Rattle.laws_calls.proofs.Matching.{lines_of, FindsAs, IsFree, InBody, OperatorLine, Matches, high, low, Followed, one_step, met_followed, step_is, arrived_in, label_gets}
use Rattle.laws_calls.proofs.Matching as matching
use Rattle.laws_calls.proofs.Bodies.{lines_split, compose_option, here_labels, rest_without, call_found, word_found, in_body, operators_match, mark_match, body_match, operators_low, body_low, next_less}
use Rattle.laws_calls.proofs.Follow.{next_match, operator_followed, plain_followed}

-- ---- lists

block_parts : (a b p o rest : List Line) (m n : Line) → (a ++ ((b ++ (p ++ (m ∷ o))) ++ (n ∷ []))) ++ rest ≡ (a ++ b) ++ (p ++ (m ∷ (o ++ (n ∷ rest))))
block_parts a b p o rest m n = simp append_assoc

function_parts : (a b p rest : List Line) (m n : Line) → (a ++ (b ++ (p ++ (m ∷ n ∷ [])))) ++ rest ≡ (a ++ b) ++ (p ++ (m ∷ n ∷ rest))
function_parts a b p rest m n = simp append_assoc

-- of a function only its name counts in its inputs and its first values
others_same : (ms : List Member) (f g : FlatUnit) (left : ℕ) (ps : List (Member × OperandText)) → f.name ≡ g.name → flat_map (other_input ms f left) ps ≡ flat_map (other_input ms g left) ps
others_same ms f g left [] e = refl
others_same ms f g left (p ∷ ps) e =
    ap (λ (front : List ℕ). passed p.0.ty.text (operand_word ms p.1) (shared (under front p.0.name.text) left) left ++ flat_map (other_input ms f left) ps) e
    ∙ ap (λ (rest : List Line). other_input ms g left p ++ rest) (others_same ms f g left ps e)

inputs_same : (ms : List Member) (f g : FlatUnit) (left : ℕ) (ins : List Member) (xs : List OperandText) → f.name ≡ g.name → function_inputs ms f left ins xs ≡ function_inputs ms g left ins xs
inputs_same ms f g left [] xs e = refl
inputs_same ms f g left (m ∷ more) xs e =
    ap (λ (front : List ℕ). st (shared (under front m.name.text) left) left ∷ flat_map (other_input ms f left) (zip more xs)) e
    ∙ ap (λ (rest : List Line). st (shared_in g m.name.text left) left ∷ rest) (others_same ms f g left (zip more xs) e)

first_same : (f g : FlatUnit) (left : ℕ) (m : Member) (kind : SectionKind) → f.name ≡ g.name → first_value_as kind f left m ≡ first_value_as kind g left m
first_same f g left m sections.Local e = ap (λ (front : List ℕ). passed m.ty.text (said (first_literal m.ty.text m.initial) left) (shared (under front m.name.text) left) left) e
first_same f g left m sections.Input e = refl
first_same f g left m sections.Output e = refl
first_same f g left m sections.InOut e = refl
first_same f g left m sections.Constant e = refl

firsts_same : (f g : FlatUnit) (left : ℕ) (ms : List Member) → f.name ≡ g.name → flat_map (first_value f left) ms ≡ flat_map (first_value g left) ms
firsts_same f g left [] e = refl
firsts_same f g left (m ∷ ms) e =
    ap (λ (one : List Line). one ++ flat_map (first_value f left) ms) (first_same f g left m m.kind e)
    ∙ ap (λ (rest : List Line). first_value g left m ++ rest) (firsts_same f g left ms e)

applied_same : (ms : List Member) (f g : FlatUnit) (call : List ℕ) (xs : List OperandText) (left : ℕ) → f.name ≡ g.name
    → applied_lines ms f call xs left ≡ function_inputs ms g left (filter is_input f.members) xs ++ (flat_map (first_value g left) f.members
    ++ (map (placed_line (function_placing g call left)) f.lines ++ mark (back call) left ∷ ld (shared_in g g.name left) left ∷ []))
applied_same ms f g call xs left e =
    ap (λ (a : List Line). a ++ (flat_map (first_value f left) f.members ++ (map (placed_line (function_placing f call left)) f.lines ++ mark (back call) left ∷ ld (shared_in f f.name left) left ∷ []))) (inputs_same ms f g left (filter is_input f.members) xs e)
    ∙ ap (λ (b : List Line). function_inputs ms g left (filter is_input f.members) xs ++ (b ++ (map (placed_line (function_placing f call left)) f.lines ++ mark (back call) left ∷ ld (shared_in f f.name left) left ∷ []))) (firsts_same f g left f.members e)
    ∙ ap (λ (front : List ℕ). function_inputs ms g left (filter is_input f.members) xs ++ (flat_map (first_value g left) f.members
    ++ (map (placed_line (record { front = front; sort = sorts.Shared; call = call; given = []; left = left })) f.lines ++ mark (back call) left ∷ ld (shared (under front front) left) left ∷ []))) e

none_skipped : (name call : List ℕ) (m : Modifier) (left : ℕ) (b : Bool) → from name (if b then jump (skip_word m) (behind call) left ∷ [] else []) ≡ None
none_skipped name call m left true = refl
none_skipped name call m left false = refl

before_by : (name : List ℕ) (a b : List Line) (o : Option (List Line)) → from name a ≡ o → from name b ≡ None → from name (a ++ b) ≡ option_map (λ (r : List Line). r ++ b) o
before_by name a b None e none = from_passed name a b e ∙ none
before_by name a b (Some r) e none = from_found name a b r e

module _ {S : Type 0} (M : Machine S) (text : List ℕ) (P : List Line) (calls : List Placing) (u : UnitAt) (k : ℕ) (l : LineText) (ls : List LineText) (K : List Line) (more : List Task)
    (body : InBody text P calls u k (l ∷ ls) K more) (m : Matches text P more K) where
  abbrev here : Here
  here = record { calls = calls; unit = u; number = k; left = ls; behind = more }

  abbrev rest : List Line
  rest = lines_in (scope_at text u) (suc k) ls

  abbrev step_lines : List Line
  step_lines = (optional_step (scope_at text u) (call_name k) l.step).lines

  abbrev Goes : List Line → S → Turn (List Task) S → Type 0
  Goes flat s turn = Followed M text P (Less high low (Lines calls u k (l ∷ ls) ∷ more)) flat s turn

  next_is : Matches text P (next here) (lines_of calls rest ++ K)
  next_is = next_match text P calls u k l ls K more body m

  -- ---- a call of a block

  module _ (v : UnitAt) (c : CallText) (x : Modifier) (left : ℕ) (above : AllByRecursion IsPlainUnit v.above) (plain : IsPlainUnit v.unit) (higher : length v.above < length u.above)
      (is : step_lines ≡ called_lines (members_of u.unit) (flat_at text v) (call_name k) x c left) where
    abbrev at : Placing
    at = instance_placing (members_of u.unit) (declared_by v.unit) (call_name k) c left

    abbrev ins : List Line
    ins = flat_map (input_of (members_of u.unit) (declared_by v.unit) (capitals c.instance.text)) (arguments_of c)

    abbrev outs : List Line
    outs = flat_map (output_of (members_of u.unit) (declared_by v.unit) (capitals c.instance.text)) (arguments_of c)

    abbrev tail : List Line
    tail = block_tail (call_name k) left outs rest

    abbrev placed : List Line
    placed = map (placed_line at) (flat_at text v).lines

    straight_ins : AllByRecursion IsStraight ins
    straight_ins = straight_inputs (members_of u.unit) (declared_by v.unit) (capitals c.instance.text) (arguments_of c)

    straight_outs : AllByRecursion IsStraight outs
    straight_outs = straight_outputs (members_of u.unit) (declared_by v.unit) (capitals c.instance.text) (arguments_of c)

    parts : step_lines ++ rest ≡ (skipped (call_name k) x left ++ ins) ++ (placed ++ tail)
    parts = ap (λ (ns : List Line). ns ++ rest) is ∙ block_parts (skipped (call_name k) x left) ins placed outs rest (mark (back (call_name k)) left) (mark (behind (call_name k)) left)

    lacks_before : (name : List ℕ) → from (under at.call name) (skipped (call_name k) x left ++ ins) ≡ None
    lacks_before name =
        from_passed (under at.call name) (skipped (call_name k) x left) ins (none_skipped (under at.call name) (call_name k) x left x.conditional)
        ∙ none_straight (under at.call name) ins straight_ins

    lacks_tail : (name : List ℕ) → IsFree name → from (under at.call name) tail ≡ None
    lacks_tail name free = tail_without (call_name k) name left outs rest free.0 free.1 straight_outs (rest_without text P calls u k l ls K more body name)

    made : Matches text P (call_tasks here v c left) (lines_of calls (ins ++ (placed ++ tail)) ++ K)
    made =
        operators_match text P calls ins (placed ++ tail) K (Lines (at ∷ calls) v 1 v.unit.lines ∷ Forget ∷ first calls outs (Forget ∷ next here)) body.good straight_ins
        (body_match text P calls at v tail K (Forget ∷ first calls outs (Forget ∷ next here))
        (in_body text P calls u k l ls K more body at refl v (skipped (call_name k) x left ++ ins) tail parts lacks_before above plain left (outs ++ mark (behind (call_name k)) left ∷ rest) refl
        (good_instance (members_of u.unit) (declared_by v.unit) (call_name k) c left) lacks_tail (Forget ∷ first calls outs (Forget ∷ next here)) tt)
        (mark_match text P calls (back (call_name k)) left (outs ++ mark (behind (call_name k)) left ∷ rest) K (first calls outs (Forget ∷ next here))
        (operators_match text P calls outs (mark (behind (call_name k)) left ∷ rest) K (Forget ∷ next here) body.good straight_outs
        (mark_match text P calls (behind (call_name k)) left rest K (next here) next_is))))

    left_out : Matches text P (Forget ∷ next here) (lines_of calls (mark (behind (call_name k)) left ∷ rest) ++ K)
    left_out = mark_match text P calls (behind (call_name k)) left rest K (next here) next_is

    jumps_out : from (label_in calls (behind (call_name k))) P ≡ Some (lines_of calls (mark (behind (call_name k)) left ∷ rest) ++ K)
    jumps_out =
        word_found text P calls u k l ls K more body at refl v (skipped (call_name k) x left ++ ins) tail parts lacks_before above plain (codes "CAL") call_word
        ∙ ap (option_map (λ (r : List Line). lines_of calls r ++ K)) (tail_behind (call_name k) left outs rest straight_outs)

    made_less : Less high low (Lines calls u k (l ∷ ls) ∷ more) (call_tasks here v c left)
    made_less = inl (operators_low calls ins (Lines (at ∷ calls) v 1 v.unit.lines ∷ Forget ∷ first calls outs (Forget ∷ next here)) (suc (length u.above)) (omega arith)
        (body_low (at ∷ calls) v v.unit.lines (first calls outs (Forget ∷ next here)) (suc (length u.above)) (omega arith) (omega arith)))

    made_goes : (s : S) → Goes (lines_of calls (ins ++ (placed ++ tail)) ++ K) s (Next (call_tasks here v c left) s)
    made_goes s = (zero, lines_of calls (ins ++ (placed ++ tail)) ++ K, refl, made, λ z. made_less)

    called_by : (s : S) (b : Bool) → x.conditional ≡ b
        → Goes (lines_of calls (((if b then jump (skip_word x) (behind (call_name k)) left ∷ [] else []) ++ ins) ++ (placed ++ tail)) ++ K) s
        (where_met (test x (M.truth s)) (Next (call_tasks here v c left) s) (Next (Forget ∷ next here) s))
    called_by s false cond =
        subst (λ (t : Option Bool). Goes (lines_of calls (ins ++ (placed ++ tail)) ++ K) s (where_met t (Next (call_tasks here v c left) s) (Next (Forget ∷ next here) s))) (sym (unconditional x cond (M.truth s))) (made_goes s)
    called_by s true cond =
        let skip = jump (skip_word x) (behind (call_name k)) left in
        let inner = lines_of calls (ins ++ (placed ++ tail)) ++ K in
        let outer = lines_of calls (mark (behind (call_name k)) left ∷ rest) ++ K in
        let step : line_step M P (line_in calls skip ∷ inner) s ≡ where_met (test x (M.truth s)) (Next inner s) (Next outer s) =
        step_is M P (Jump (letters_of (skip_word x)) (label_in calls (behind (call_name k)))) (line_in calls skip).words (line_in calls skip) inner s s
        (jumps_in calls skip (skip_word x) left (behind (call_name k)) left refl) refl (arrived_in M P calls skip s)
        ∙ ap (λ (o : Option (List Line)). where_met (test (letters_of (skip_word x)) (M.truth s)) (goes_to o s) (Next inner s)) jumps_out
        ∙ ap (λ (t : Option Bool). where_met t (Next outer s) (Next inner s)) (skip_test x cond (M.truth s))
        ∙ other_met (test x (M.truth s)) (Next outer s) (Next inner s) in
        met_followed M text P (Less high low (Lines calls u k (l ∷ ls) ∷ more)) (test x (M.truth s)) (line_in calls skip ∷ inner) s (Next (call_tasks here v c left) s) (Next (Forget ∷ next here) s) (Next inner s) (Next outer s) step
        (λ e. one_step M text P (Less high low (Lines calls u k (l ∷ ls) ∷ more)) (line_in calls skip ∷ inner) s inner s (call_tasks here v c left) e made)
        (λ e. one_step M text P (Less high low (Lines calls u k (l ∷ ls) ∷ more)) (line_in calls skip ∷ inner) s outer s (Forget ∷ next here) e left_out)

    pub called_followed : (s : S) → Goes (lines_of calls (step_lines ++ rest) ++ K) s (where_met (test x (M.truth s)) (Next (call_tasks here v c left) s) (Next (Forget ∷ next here) s))
    called_followed s =
        subst (λ (ns : List Line). Goes (lines_of calls ns ++ K) s (where_met (test x (M.truth s)) (Next (call_tasks here v c left) s) (Next (Forget ∷ next here) s))) (sym parts) (called_by s x.conditional refl)

  -- ---- a function

  module _ (v : UnitAt) (xs : List OperandText) (left : ℕ) (above : AllByRecursion IsPlainUnit v.above) (plain : IsPlainUnit v.unit) (higher : length v.above < length u.above)
      (is : step_lines ≡ applied_lines (members_of u.unit) (flat_at text v) (call_name k) xs left) where
    abbrev at' : Placing
    at' = function_placing (declared_by v.unit) (call_name k) left

    abbrev inputs : List Line
    inputs = function_inputs (members_of u.unit) (declared_by v.unit) left (filter is_input (members_of v.unit)) xs

    abbrev firsts : List Line
    firsts = flat_map (first_value (declared_by v.unit) left) (members_of v.unit)

    abbrev loads : Line
    loads = ld (shared_in (declared_by v.unit) (capitals v.unit.name.text) left) left

    abbrev tail' : List Line
    tail' = mark (back (call_name k)) left ∷ loads ∷ rest

    abbrev placed' : List Line
    placed' = map (placed_line at') (flat_at text v).lines

    straight_in : AllByRecursion IsStraight inputs
    straight_in = straight_function_inputs (members_of u.unit) (declared_by v.unit) left (filter is_input (members_of v.unit)) xs

    straight_first : AllByRecursion IsStraight firsts
    straight_first = straight_first_values (declared_by v.unit) left (members_of v.unit)

    parts' : step_lines ++ rest ≡ (inputs ++ firsts) ++ (placed' ++ tail')
    parts' = ap (λ (ns : List Line). ns ++ rest) (is ∙ applied_same (members_of u.unit) (flat_at text v) (declared_by v.unit) (call_name k) xs left refl) ∙ function_parts inputs firsts placed' rest (mark (back (call_name k)) left) loads

    lacks_before' : (name : List ℕ) → from (under at'.call name) (inputs ++ firsts) ≡ None
    lacks_before' name = from_passed (under at'.call name) inputs firsts (none_straight (under at'.call name) inputs straight_in) ∙ none_straight (under at'.call name) firsts straight_first

    lacks_tail' : (name : List ℕ) → IsFree name → from (under at'.call name) tail' ≡ None
    lacks_tail' name free = past_mark (call_name k) name (codes "RET") left (loads ∷ rest) free.0 ∙ rest_without text P calls u k l ls K more body name

    applied : Matches text P (function_tasks here v xs left) (lines_of calls (inputs ++ (firsts ++ (placed' ++ tail'))) ++ K)
    applied =
        operators_match text P calls inputs (firsts ++ (placed' ++ tail')) K (first calls firsts (Lines (at' ∷ calls) v 1 v.unit.lines ∷ Forget ∷ first calls (loads ∷ []) (next here))) body.good straight_in
        (operators_match text P calls firsts (placed' ++ tail') K (Lines (at' ∷ calls) v 1 v.unit.lines ∷ Forget ∷ first calls (loads ∷ []) (next here)) body.good straight_first
        (body_match text P calls at' v tail' K (Forget ∷ first calls (loads ∷ []) (next here))
        (in_body text P calls u k l ls K more body at' refl v (inputs ++ firsts) tail' parts' lacks_before' above plain left (loads ∷ rest) refl
        (good_function (declared_by v.unit) (call_name k) left) lacks_tail' (Forget ∷ first calls (loads ∷ []) (next here)) tt)
        (mark_match text P calls (back (call_name k)) left (loads ∷ rest) K (first calls (loads ∷ []) (next here))
        (operators_match text P calls (loads ∷ []) rest K (next here) body.good (straight_operand (codes "LD") (shared_in (declared_by v.unit) (capitals v.unit.name.text) left) left refl, tt) next_is))))

    applied_less : Less high low (Lines calls u k (l ∷ ls) ∷ more) (function_tasks here v xs left)
    applied_less = inl (operators_low calls inputs (first calls firsts (Lines (at' ∷ calls) v 1 v.unit.lines ∷ Forget ∷ first calls (loads ∷ []) (next here))) (suc (length u.above)) (omega arith)
        (operators_low calls firsts (Lines (at' ∷ calls) v 1 v.unit.lines ∷ Forget ∷ first calls (loads ∷ []) (next here)) (suc (length u.above)) (omega arith)
        (body_low (at' ∷ calls) v v.unit.lines (first calls (loads ∷ []) (next here)) (suc (length u.above)) (omega arith) (omega arith))))

    pub function_followed : (s : S) → Goes (lines_of calls (step_lines ++ rest) ++ K) s (Next (function_tasks here v xs left) s)
    function_followed s =
        (zero, lines_of calls (inputs ++ (firsts ++ (placed' ++ tail'))) ++ K, ap (λ (ns : List Line). line_step M P (lines_of calls ns ++ K) s) (parts' ∙ append_assoc inputs firsts (placed' ++ tail')), applied, λ z. applied_less)

  -- ---- LIMIT, SEL and MUX

  choice_less : (ops : List Line) → Less high low (Lines calls u k (l ∷ ls) ∷ more) (first calls ops (next here))
  choice_less [] = next_less calls u k l ls more body.ends
  choice_less (o ∷ ops) = inl (omega arith)

  module _ (ops : List Line) (each : AllByRecursion (IsOperator (call_name k)) ops) (is : step_lines ≡ ops) where
    finds_in : (name : List ℕ) → FindsAs P calls ops (lines_of calls rest ++ K) (under (call_name k) name)
    finds_in name =
        call_found text P calls u k l ls K more body name (ops ++ rest) (ap (λ (ns : List Line). ns ++ rest) is)
        ∙ ap (option_map (λ (r : List Line). lines_of calls r ++ K)) (before_by (under (call_name k) name) ops rest (from (under (call_name k) name) ops) refl (rest_without text P calls u k l ls K more body name))
        ∙ compose_option (λ (r : List Line). lines_of calls r ++ K) (λ (r : List Line). r ++ rest) (λ (r : List Line). lines_of calls r ++ (lines_of calls rest ++ K)) (λ (r : List Line). lines_split calls r rest K) (from (under (call_name k) name) ops)

    form_in : (n : Line) → OperatorForm (call_name k) n → OperatorLine P calls ops (lines_of calls rest ++ K) n
    form_in n (fragments.Bare e) = matching.Bare e
    form_in n (fragments.Does op left words e other) = matching.Does op left words e other
    form_in n (fragments.Jumps op left name there e) = matching.Jumps op left (under (call_name k) name) there e (finds_in name)

    lines_here : AllByRecursion (OperatorLine P calls ops (lines_of calls rest ++ K)) ops
    lines_here = all_also (IsOperator (call_name k)) (OperatorLine P calls ops (lines_of calls rest ++ K)) (λ (n : Line) (o : IsOperator (call_name k) n). form_in n o.form) ops each

    pub choice_followed : (s : S) → Goes (lines_of calls (step_lines ++ rest) ++ K) s (Next (first calls ops (next here)) s)
    choice_followed s = (
      zero,
      lines_of calls (ops ++ rest) ++ K,
      ap (λ (ns : List Line). line_step M P (lines_of calls (ns ++ rest) ++ K) s) is,
      (lines_of calls rest ++ K, lines_split calls ops rest K, body.good, lines_here, lines_here, next_is),
      λ z. choice_less ops,
    )

  -- ---- each step

  plain_step : (o : OperationText) (s : S) → HasTarget o.behind → step_lines ≡ line_of o.operator.left (plain_words text u o) ∷ [] → Goes (lines_of calls (step_lines ++ rest) ++ K) s (plain_turn M text here o s)
  plain_step o s own is =
      subst (λ (ns : List Line). Goes (lines_of calls (ns ++ rest) ++ K) s (plain_turn M text here o s)) (sym is) (plain_followed M text P (Less high low (Lines calls u k (l ∷ ls) ∷ more)) calls u k l ls K more body m o s own)

  called_step : (o : OperationText) (c : CallText) (s : S) (b : Option UnitAt) → HasTarget o.behind → block_at u (capitals c.instance.text) ≡ b
      → step_lines ≡ (called_or_plain (option_map (flat_at text) b) (scope_at text u) (call_name k) c o).lines
      → Goes (lines_of calls (step_lines ++ rest) ++ K) s (called_turn M text here o c b s)
  called_step o c s None own e is = plain_step o s own is
  called_step o c s (Some v) own e is =
      let w = block_at_used u (capitals c.instance.text) v e in
      let r = used_good IsPlainUnit [] u.above w.0 v w.1 tt body.above in
      called_followed v c o.operator.mnemonic.modifier o.operator.left r.0 r.1 (omega (arith, r.2)) is s

  operation_step : (o : OperationText) (s : S) (b : BehindText) → HasTarget o.behind
      → step_lines ≡ (operated_as b (scope_at text u) (call_name k) o).lines
      → Goes (lines_of calls (step_lines ++ rest) ++ K) s (operation_turn M text here o b s)
  operation_step o s (Called c) own is =
      called_step o c s (block_at u (capitals c.instance.text)) own refl
      (is ∙ ap (λ (b : Option FlatUnit). (called_or_plain b (scope_at text u) (call_name k) c o).lines) (block_is text u (capitals c.instance.text)))
  operation_step o s Nothing own is = plain_step o s own is
  operation_step o s (Given x) own is = plain_step o s own is
  operation_step o s (Target t) own is = plain_step o s own is
  operation_step o s (Opened x) own is = plain_step o s own is

  function_step : (t : Token) (xs : List OperandText) (s : S) (b : Option UnitAt) → used_by u (capitals t.text) ≡ b
      → step_lines ≡ (function_by (option_map (flat_at text) b) (scope_at text u) (call_name k) t xs).lines
      → Goes (lines_of calls (step_lines ++ rest) ++ K) s (Next (applied_tasks text here t xs b) s)
  function_step t xs s (Some v) e is =
      let r = used_good IsPlainUnit [] u.above (capitals t.text) v e tt body.above in
      function_followed v xs t.left r.0 r.1 (omega (arith, r.2)) is s
  function_step t xs s None e is =
      let same = choice_same text u (call_name k) xs t.left (choice_named (capitals t.text)) in
      choice_followed (choice_lines text here t xs)
      (subst (λ (b : Body). AllByRecursion (IsOperator (call_name k)) b.lines) same (operator_choice (choice_named (capitals t.text)) (scope_at text u) (call_name k) xs t.left))
      (is ∙ ap (λ (b : Body). b.lines) same) s

  step_by : (s : S) (o : Option StepText) → HasStep o → step_lines ≡ (optional_step (scope_at text u) (call_name k) o).lines → Goes (lines_of calls (step_lines ++ rest) ++ K) s (step_turn M text here o s)
  step_by s None own is =
      (zero, lines_of calls rest ++ K, ap (λ (ns : List Line). line_step M P (lines_of calls (ns ++ rest) ++ K) s) is, next_is, λ z. next_less calls u k l ls more body.ends)
  step_by s (Some (Operation o)) own is = operation_step o s o.behind own is
  step_by s (Some (Function t xs)) own is =
      function_step t xs s (used_by u (capitals t.text)) refl
      (is ∙ ap (λ (b : Option FlatUnit). (function_by b (scope_at text u) (call_name k) t xs).lines) (unit_is text u.above (capitals t.text)))

  pub line_followed : (s : S) → Goes (lines_of calls (lines_in (scope_at text u) k (l ∷ ls)) ++ K) s (step_turn M text here l.step (arrived M l.label s))
  line_followed s =
      let g = label_gets M P calls l.label (optional_step (scope_at text u) (call_name k) l.step) rest K s in
      let labels = here_labels text P calls u k l ls K more body in
      follows_after (line_step M P) (Matches text P) (Less high low (Lines calls u k (l ∷ ls) ∷ more)) g.0
      (lines_of calls (lines_in (scope_at text u) k (l ∷ ls)) ++ K) (lines_of calls (step_lines ++ rest) ++ K) s (arrived M l.label s) (step_turn M text here l.step (arrived M l.label s)) g.1
      (step_by (arrived M l.label s) l.step labels.step refl)

-- ---- all of what is left to do

module _ {S : Type 0} (M : Machine S) (text : List ℕ) (P : List Line) where
  pub follow : (tasks : List Task) (flat : List Line) (s : S) → Matches text P tasks flat → Followed M text P (Less high low tasks) flat s (call_step M text tasks s)
  follow [] flat s m = (zero, flat, s, refl, ap (λ (ns : List Line). line_step M P ns s) m)
  follow (Forget ∷ more) flat s m =
      one_step M text P (Less high low (Forget ∷ more)) flat s m.2 (M.forgets s) more
      (ap (λ (ns : List Line). line_step M P ns s) m.3 ∙ step_is M P line_words.Nothing [] m.0 m.2 s (M.forgets s) (ap control_of m.4) m.4 (ap (λ (o : Option Word). arrived M o s) m.5)) m.6
  follow (Operators calls all [] ∷ more) flat s m =
      subst (λ (ns : List Line). Followed M text P (Less high low more) ns s (call_step M text more s)) (sym m.1) (follow more m.0 s m.5)
  follow (Operators calls all (l ∷ ls) ∷ more) flat s m =
      subst (λ (ns : List Line). Followed M text P (Less high low (Operators calls all (l ∷ ls) ∷ more)) ns s (call_step M text (Operators calls all (l ∷ ls) ∷ more) s)) (sym m.1)
      (operator_followed M text P (Less high low (Operators calls all (l ∷ ls) ∷ more)) calls all l ls m.0 more s m.2 m.3 m.4.1 m.5 m.4.0)
  follow (Lines calls u k [] ∷ more) flat s m =
      subst (λ (ns : List Line). Followed M text P (Less high low more) ns s (call_step M text more s)) (sym m.1) (follow more m.0 s m.3)
  follow (Lines calls u k (l ∷ ls) ∷ more) flat s m =
      subst (λ (ns : List Line). Followed M text P (Less high low (Lines calls u k (l ∷ ls) ∷ more)) ns s (call_step M text (Lines calls u k (l ∷ ls) ∷ more) s)) (sym m.1)
      (line_followed M text P calls u k l ls m.0 more m.2 m.3 s)

-- ---- a whole program

same_option : (o : Option (List Line)) → o ≡ option_map (λ (r : List Line). lines_of [] r ++ []) o
same_option None = refl
same_option (Some r) = ap Some (sym (append-nil (lines_of [] r) ∙ map-id r))

module _ {S : Type 0} (M : Machine S) (text : List ℕ) (above : List UnitText) (program : UnitText) (all : AllByRecursion IsPlainUnit (above ++ program ∷ [])) where
  abbrev whole : UnitAt
  whole = record { above = above; unit = program }

  begins_so : Matches text (expanded_lines text above program) (begun above program) (expanded_lines text above program)
  begins_so = (
    [],
    unit_lines text whole ∙ sym (append-nil (lines_of [] (lines_in (scope_at text whole) 1 program.lines)) ∙ map-id (lines_in (scope_at text whole) 1 program.lines)),
    record {
      good = tt;
      above = all_first IsPlainUnit above (program ∷ []) all;
      plain = (all_second IsPlainUnit above (program ∷ []) all).0;
      before = [];
      parts = refl;
      number = refl;
      finds = λ name free. ap (from name) (unit_lines text whole) ∙ same_option (from name (lines_in (scope_at text whole) 1 program.lines));
      returns = refl;
      ends = tt;
    },
    refl,
  )

  pub does_alike : (s : S) (end : RunEnd S) → (Comes (call_step M text) (begun above program) s end → Comes (line_step M (expanded_lines text above program)) (expanded_lines text above program) s end)
      × (Comes (line_step M (expanded_lines text above program)) (expanded_lines text above program) s end → Comes (call_step M text) (begun above program) s end)
  does_alike s end =
      let P = expanded_lines text above program in (
        (λ r. forth (call_step M text) (line_step M P) (Matches text P) high low (follow M text P) r.0 (begun above program) P s end begins_so r.1),
        (λ r. backward (call_step M text) (line_step M P) (Matches text P) high low (follow M text P) r.0 (begun above program) P s end begins_so r.1),
      )
