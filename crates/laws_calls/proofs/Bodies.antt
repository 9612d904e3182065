-- A body that is placed: where its labels stand among all lines, and what stands for it.
use Rattle.std.proofs.Common.{◌≡◌, ℕ, suc, ◌+◌, ◌<◌, ◌≤◌, ◌^◌, List, [], ◌∷◌, ◌++◌, map, length, Option, Some, None, refl, sym, ap, ◌∙◌, subst, arith, codes, append_assoc, length-append, inl, inr}
use Rattle.std.specs.Prelude.{option_map}
use Rattle.std.specs.List.{AllByRecursion}
use Rattle.std.proofs.lemmas.List.{map-append}
use Rattle.il_model.specs.Words.{under}
use Rattle.il_units.specs.declared.word.Line.{Line}
use Rattle.il_units.specs.Units.{LineText}
use Rattle.il_units.specs.Words.{label, mark, Placing, placed_line}
use Rattle.il_units.specs.Expansion.{call_name, optional_step}
use Rattle.laws_calls.specs.Lines.{from}
use Rattle.laws_calls.specs.Calls.{UnitAt, Task, Lines, Operators, Forget, first}
use Rattle.laws_calls.specs.Laws.{HasLabels, IsPlainUnit}
use Rattle.laws_calls.proofs.Steps.{Less}
use Rattle.laws_calls.proofs.Words.{line_in, label_in, AreGood, IsGoodPlacing, empty_in, labelled_in}
use Rattle.laws_calls.proofs.Labels.{under_no_part, all_first, all_second, all_also}
use Rattle.laws_calls.proofs.Units.{flat_at, scope_at, lines_in, unit_lines}
use Rattle.laws_calls.proofs.Fragments.{IsStraight}
use Rattle.laws_calls.proofs.Places.{behind_call, call_from, none_known, known_words, unit_known, uses_labelled, IsWord, return_word}
use Rattle.laws_calls.proofs.Calls.{placed_from, placed_behind, at_mark}
use Rattle.laws_calls.proofs.Matching.{lines_of, FindsAs, IsFree, InBody, OperatorLine, Does, Matches, high, low, EndsBody}

-- ---- lists

pub lines_split : (calls : List Placing) (a b K : List Line) → lines_of calls (a ++ b) ++ K ≡ lines_of calls a ++ (lines_of calls b ++ K)
lines_split calls a b K = ap (λ (ls : List Line). ls ++ K) (map-append (line_in calls) a b) ∙ append_assoc (lines_of calls a) (lines_of calls b) K

maps_lines : (at : Placing) (calls : List Placing) (ls : List Line) → lines_of calls (map (placed_line at) ls) ≡ lines_of (at ∷ calls) ls
maps_lines at calls [] = refl
maps_lines at calls (l ∷ ls) = ap (λ (more : List Line). line_in calls (placed_line at l) ∷ more) (maps_lines at calls ls)

body_split : (at : Placing) (calls : List Placing) (ls tail K : List Line) → lines_of calls (map (placed_line at) ls ++ tail) ++ K ≡ lines_of (at ∷ calls) ls ++ (lines_of calls tail ++ K)
body_split at calls ls tail K =
    lines_split calls (map (placed_line at) ls) tail K ∙ ap (λ (more : List Line). more ++ (lines_of calls tail ++ K)) (maps_lines at calls ls)

pub compose_option : {X Y Z : Type 0} (f : Y → Z) (g : X → Y) (h : X → Z) → ((x : X) → f (g x) ≡ h x) → (o : Option X) → option_map f (option_map g o) ≡ option_map h o
compose_option f g h each None = refl
compose_option f g h each (Some x) = ap Some (each x)

-- ---- labels of a call, among all lines

call_free : (call name : List ℕ) → IsFree (under call name)
call_free call name = ((λ e. under_no_part call name (codes "RET") refl (sym e)), (λ e. under_no_part call name (codes "CAL") refl (sym e)))

module _ (text : List ℕ) (P : List Line) (calls : List Placing) (u : UnitAt) (k : ℕ) (l : LineText) (ls : List LineText) (K : List Line) (more : List Task) (body : InBody text P calls u k (l ∷ ls) K more) where
  abbrev rest : List Line
  rest = lines_in (scope_at text u) (suc k) ls

  abbrev step_lines : List Line
  step_lines = (optional_step (scope_at text u) (call_name k) l.step).lines

  has_labels : AllByRecursion HasLabels (body.before ++ l ∷ ls)
  has_labels = subst (λ (all : List LineText). AllByRecursion HasLabels all) body.parts body.plain.lines

  pub here_labels : HasLabels l
  here_labels = (all_second HasLabels body.before (l ∷ ls) has_labels).0

  few : suc k + length ls ≤ 2 ^ 64
  few =
      let n : length u.unit.lines ≡ length body.before + length (l ∷ ls) = ap length body.parts ∙ length-append body.before (l ∷ ls) in
      let m : length u.unit.lines < 2 ^ 64 = body.plain.few in
      let e : k ≡ suc (length body.before) = body.number in omega arith

  pub rest_without : (name : List ℕ) → from (under (call_name k) name) rest ≡ None
  rest_without name =
      let all = all_second HasLabels body.before (l ∷ ls) has_labels in
      behind_call text u k name (uses_labelled text u body.above) (omega (arith, few)) (suc k) ls (omega arith) few all.1

  found_in : (name : List ℕ) → from (under (call_name k) name) (lines_in (scope_at text u) 1 u.unit.lines) ≡ from (under (call_name k) name) (step_lines ++ rest)
  found_in name =
      subst (λ (j : ℕ). from (under (call_name j) name) (lines_in (scope_at text u) 1 u.unit.lines) ≡ from (under (call_name j) name) ((optional_step (scope_at text u) (call_name j) l.step).lines ++ lines_in (scope_at text u) (suc j) ls))
      (sym body.number)
      (call_from text u name body.before ls l (uses_labelled text u body.above) body.plain body.parts (all_first HasLabels body.before (l ∷ ls) has_labels) here_labels (let e : k ≡ suc (length body.before) = body.number in omega (arith, few)))

  pub call_found : (name : List ℕ) (N : List Line) → step_lines ++ rest ≡ N → from (label_in calls (under (call_name k) name)) P ≡ option_map (λ (r : List Line). lines_of calls r ++ K) (from (under (call_name k) name) N)
  call_found name N e =
      body.finds (under (call_name k) name) (call_free (call_name k) name)
      ∙ ap (option_map (λ (r : List Line). lines_of calls r ++ K)) (found_in name ∙ ap (from (under (call_name k) name)) e)

  -- ---- a body in a call of this line

  module _ (at : Placing) (is : at.call ≡ call_name k) (v : UnitAt) (before tail : List Line) (parts : step_lines ++ rest ≡ before ++ (map (placed_line at) (flat_at text v).lines ++ tail))
      (lacks : (name : List ℕ) → from (under at.call name) before ≡ None) (above : AllByRecursion IsPlainUnit v.above) (plain : IsPlainUnit v.unit) where
    found_at : (name : List ℕ) → from (label_in calls (under at.call name)) P ≡ option_map (λ (r : List Line). lines_of calls r ++ K) (from (under at.call name) (before ++ (map (placed_line at) (flat_at text v).lines ++ tail)))
    found_at name = subst (λ (c : List ℕ). from (label_in calls (under c name)) P ≡ option_map (λ (r : List Line). lines_of calls r ++ K) (from (under c name) (before ++ (map (placed_line at) (flat_at text v).lines ++ tail)))) (sym is) (call_found name (before ++ (map (placed_line at) (flat_at text v).lines ++ tail)) parts)

    pub word_found : (name : List ℕ) → IsWord name → from (label_in calls (under at.call name)) P ≡ option_map (λ (r : List Line). lines_of calls r ++ K) (from (under at.call name) tail)
    word_found name word =
        found_at name ∙ ap (option_map (λ (r : List Line). lines_of calls r ++ K))
        (placed_behind at name before (flat_at text v).lines tail (lacks name) (known_words (flat_at text v).lines (unit_known text v above plain)) (none_known name (flat_at text v).lines word (unit_known text v above plain)))

    body_finds : ((name : List ℕ) → IsFree name → from (under at.call name) tail ≡ None) → (name : List ℕ) → IsFree name → FindsAs P (at ∷ calls) (lines_in (scope_at text v) 1 v.unit.lines) (lines_of calls tail ++ K) name
    body_finds none name free =
        found_at name
        ∙ ap (option_map (λ (r : List Line). lines_of calls r ++ K)) (placed_from at name before (flat_at text v).lines tail (lacks name) (known_words (flat_at text v).lines (unit_known text v above plain)) (none name free))
        ∙ compose_option (λ (r : List Line). lines_of calls r ++ K) (λ (r : List Line). map (placed_line at) r ++ tail) (λ (r : List Line). lines_of (at ∷ calls) r ++ (lines_of calls tail ++ K)) (λ (r : List Line). body_split at calls r tail K) (from name (flat_at text v).lines)
        ∙ ap (λ (all : List Line). option_map (λ (r : List Line). lines_of (at ∷ calls) r ++ (lines_of calls tail ++ K)) (from name all)) (unit_lines text v)

    pub in_body : (left : ℕ) (tail' : List Line) → tail ≡ mark (under at.call (codes "RET")) left ∷ tail' → IsGoodPlacing at → ((name : List ℕ) → IsFree name → from (under at.call name) tail ≡ None)
        → (behind : List Task) → EndsBody behind → InBody text P (at ∷ calls) v 1 v.unit.lines (lines_of calls tail ++ K) behind
    in_body left tail' begins good none behind ends = record {
      good = (good, body.good);
      above = above;
      plain = plain;
      before = [];
      parts = refl;
      number = refl;
      finds = body_finds none;
      returns = word_found (codes "RET") return_word ∙ ap (option_map (λ (r : List Line). lines_of calls r ++ K)) (subst (λ (t : List Line). from (under at.call (codes "RET")) t ≡ Some t) (sym begins) (at_mark at.call (codes "RET") left tail'));
      ends = ends;
    }

-- ---- what stands for what is left to do

pub straight_lines : (P : List Line) (calls : List Placing) (all K ls : List Line) → AllByRecursion IsStraight ls → AllByRecursion (OperatorLine P calls all K) ls
straight_lines P calls all K ls straight = all_also IsStraight (OperatorLine P calls all K) (λ (l : Line) (is : IsStraight l). Does is.op is.left is.words is.is is.other) ls straight

pub operators_match : (text : List ℕ) (P : List Line) (calls : List Placing) (ops b K : List Line) (more : List Task) → AreGood calls → AllByRecursion IsStraight ops → Matches text P more (lines_of calls b ++ K)
    → Matches text P (first calls ops more) (lines_of calls (ops ++ b) ++ K)
operators_match text P calls ops b K more good straight m =
    (lines_of calls b ++ K, lines_split calls ops b K, good, straight_lines P calls ops (lines_of calls b ++ K) ops straight, straight_lines P calls ops (lines_of calls b ++ K) ops straight, m)

pub mark_match : (text : List ℕ) (P : List Line) (calls : List Placing) (name : List ℕ) (left : ℕ) (b K : List Line) (more : List Task) → Matches text P more (lines_of calls b ++ K)
    → Matches text P (Forget ∷ more) (lines_of calls (mark name left ∷ b) ++ K)
mark_match text P calls name left b K more m =
    let w = labelled_in calls (mark name left) (label name left) refl in
    (line_in calls (mark name left), w.0, lines_of calls b ++ K, refl, empty_in calls (mark name left) refl, w.1, m)

pub body_match : (text : List ℕ) (P : List Line) (calls : List Placing) (at : Placing) (v : UnitAt) (tail K : List Line) (more : List Task) → InBody text P (at ∷ calls) v 1 v.unit.lines (lines_of calls tail ++ K) more
    → Matches text P more (lines_of calls tail ++ K) → Matches text P (Lines (at ∷ calls) v 1 v.unit.lines ∷ more) (lines_of calls (map (placed_line at) (flat_at text v).lines ++ tail) ++ K)
body_match text P calls at v tail K more is m =
    (lines_of calls tail ++ K, body_split at calls (flat_at text v).lines tail K ∙ ap (λ (ls : List Line). lines_of (at ∷ calls) ls ++ (lines_of calls tail ++ K)) (unit_lines text v), is, m)

-- ---- what is less

pub operators_low : (calls : List Placing) (ops : List Line) (more : List Task) (n : ℕ) → 0 < n → high more < n → high (first calls ops more) < n
operators_low calls [] more n some lt = lt
operators_low calls (l ∷ ls) more n some lt = some

pub body_low : (calls : List Placing) (v : UnitAt) (ls : List LineText) (more : List Task) (n : ℕ) → 0 < n → suc (length v.above) < n → high (Lines calls v 1 ls ∷ Forget ∷ more) < n
body_low calls v [] more n some lt = some
body_low calls v (l ∷ ls) more n some lt = lt

ends_low : (more : List Task) (n : ℕ) → EndsBody more → high more < suc n
ends_low [] n ends = omega arith
ends_low (Forget ∷ more) n ends = omega arith
ends_low (Lines calls u k ls ∷ more) n ends = absurd ends
ends_low (Operators calls all ls ∷ more) n ends = absurd ends

pub next_less : (calls : List Placing) (u : UnitAt) (k : ℕ) (l : LineText) (ls : List LineText) (more : List Task) → EndsBody more → Less high low (Lines calls u k (l ∷ ls) ∷ more) (Lines calls u (suc k) ls ∷ more)
next_less calls u k l [] more ends = inl (ends_low more (length u.above) ends)
next_less calls u k l (x ∷ xs) more ends = inr (refl, omega arith)

pub next_body : (text : List ℕ) (P : List Line) (calls : List Placing) (u : UnitAt) (k : ℕ) (l : LineText) (ls : List LineText) (K : List Line) (more : List Task) → InBody text P calls u k (l ∷ ls) K more → InBody text P calls u (suc k) ls K more
next_body text P calls u k l ls K more body = record {
  good = body.good;
  above = body.above;
  plain = body.plain;
  before = body.before ++ l ∷ [];
  parts = body.parts ∙ sym (append_assoc body.before (l ∷ []) ls);
  number = let n : length (body.before ++ l ∷ []) ≡ length body.before + length (l ∷ []) = length-append body.before (l ∷ []) in let e : k ≡ suc (length body.before) = body.number in omega arith;
  finds = body.finds;
  returns = body.returns;
  ends = body.ends;
}
