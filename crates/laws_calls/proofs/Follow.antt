-- Each step of calls, followed by the lines of the expansion.
use Rattle.std.proofs.Common.{◌≡◌, ℕ, suc, ◌+◌, Bool, true, false, List, [], ◌∷◌, ◌++◌, map, length, Option, Some, None, refl, sym, ap, ◌∙◌, subst, arith, codes}
use Rattle.std.specs.Prelude.{option_map, if◌then◌else◌}
use Rattle.std.specs.List.{AllByRecursion, flat_map}
use Rattle.il_values.specs.declared.op.Modifier.{Modifier}
use Rattle.il_model.specs.Words.{under}
use Rattle.il_model.specs.declared.words.Mnemonic.{Mnemonic}
use Rattle.il_reader.specs.Grammar.{OperandText, ArgumentText, BehindText, Nothing, Given, Target, Opened, Called, OperationText, arguments_of}
use Rattle.il_units.specs.declared.word.Sort.TheVariants as sorts
use Rattle.il_units.specs.declared.word.Word.{Word}
use Rattle.il_units.specs.declared.word.Line.{Line}
use Rattle.il_units.specs.declared.members.Member.{Member}
use Rattle.il_units.specs.Units.{LineText}
use Rattle.il_units.specs.Words.{capitals, said, label, line_of, Placing, jump_with}
use Rattle.il_units.specs.Members.{members_of, operand_word}
use Rattle.il_units.specs.Calls.{behind}
use Rattle.il_units.specs.Expansion.{written_at, operation_words, optional_words, argument_words, next_argument_words, all_argument_words, is_return}
use Rattle.laws_calls.specs.Machines.{Machine, arrived}
use Rattle.laws_calls.specs.Lines as line_words
use Rattle.laws_calls.specs.Lines.{Control, Jump, Return, Performs, letters_of, control_of, turn_by, from}
use Rattle.laws_calls.specs.Calls.{UnitAt, word_in, Task, Lines, Operators, Here, next, bears_label, lines_at, lines_from, jumped, plain_words, plain_turn, operator_turn}
use Rattle.laws_calls.specs.Laws.{IsLabel, HasTarget}
use Rattle.laws_calls.proofs.Words.{line_in, label_in, IsOther, AreOther, AreGood, words_in, performs_in, performs, jumps_in, returns_in, empty_in}
use Rattle.laws_calls.proofs.Labels.{all_both}
use Rattle.laws_calls.proofs.Units.{scope_at, lines_in}
use Rattle.laws_calls.proofs.Fragments.{operand_other}
use Rattle.laws_calls.proofs.Places.{uses_labelled, own_from}
use Rattle.laws_calls.proofs.Letters.{jump_test}
use Rattle.laws_calls.proofs.Matching.{lines_of, ReturnsTo, InBody, OperatorLine, Matches, Related, Followed, turn_followed, step_is, arrived_in}
use Rattle.laws_calls.proofs.Matching as matching
use Rattle.laws_calls.proofs.Bodies.{next_body}

-- ---- a line of the unit where it is placed

module _ {S : Type 0} (M : Machine S) (text : List ℕ) (P : List Line) (L : List Task → Type 0) (calls : List Placing) (l : Line) (rest : List Line) (s : S)
    (at : List ℕ → Option (List Task)) (behind next : List Task) (m : Matches text P next rest) where
  bare_turn : (ws : List Word) → l.words ≡ [] → Followed M text P L (line_in calls l ∷ rest) s (turn_by M (control_of l.words) ws at behind next (arrived M l.label s))
  bare_turn ws e =
      subst (λ (c : Control). Followed M text P L (line_in calls l ∷ rest) s (turn_by M c ws at behind next (arrived M l.label s))) (sym (ap control_of e))
      (turn_followed M text P L line_words.Nothing line_words.Nothing ws at behind next (line_in calls l ∷ rest) rest s (arrived M l.label s)
      (step_is M P line_words.Nothing [] (line_in calls l) rest s (arrived M l.label s) (ap control_of (empty_in calls l e)) (empty_in calls l e) (arrived_in M P calls l s)) tt m)

  does_turn : (op : List ℕ) (i : ℕ) (xs : List Word) → AreGood calls → l.words ≡ said op i ∷ xs → AreOther xs
      → Followed M text P L (line_in calls l ∷ rest) s (turn_by M (control_of l.words) (map (word_in calls) l.words) at behind next (arrived M l.label s))
  does_turn op i xs good e other =
      subst (λ (c : Control). Followed M text P L (line_in calls l ∷ rest) s (turn_by M c (map (word_in calls) l.words) at behind next (arrived M l.label s))) (sym (ap control_of e ∙ performs op xs other))
      (turn_followed M text P L Performs Performs (map (word_in calls) l.words) at behind next (line_in calls l ∷ rest) rest s (arrived M l.label s)
      (step_is M P Performs (map (word_in calls) l.words) (line_in calls l) rest s (arrived M l.label s) (performs_in calls l op i xs good e other) (words_in calls l op i xs good e other) (arrived_in M P calls l s)) tt m)

  jump_turn : (ws : List Word) (op : List ℕ) (i : ℕ) (x : List ℕ) (j : ℕ) → l.words ≡ said op i ∷ label x j ∷ [] → Related text P (at x) (from (label_in calls x) P)
      → Followed M text P L (line_in calls l ∷ rest) s (turn_by M (control_of l.words) ws at behind next (arrived M l.label s))
  jump_turn ws op i x j e related =
      subst (λ (c : Control). Followed M text P L (line_in calls l ∷ rest) s (turn_by M c ws at behind next (arrived M l.label s))) (sym (ap control_of e))
      (turn_followed M text P L (Jump (letters_of op) x) (Jump (letters_of op) (label_in calls x)) ws at behind next (line_in calls l ∷ rest) rest s (arrived M l.label s)
      (step_is M P (Jump (letters_of op) (label_in calls x)) (line_in calls l).words (line_in calls l) rest s (arrived M l.label s) (jumps_in calls l op i x j e) refl (arrived_in M P calls l s)) (refl, related) m)

module _ {S : Type 0} (M : Machine S) (text : List ℕ) (P : List Line) (L : List Task → Type 0) where
  return_turn : (calls : List Placing) (l : Line) (rest K : List Line) (s : S) (at : List ℕ → Option (List Task)) (behind next : List Task) → Matches text P next rest
      → (ws : List Word) (x : Modifier) (op : List ℕ) (i : ℕ) → l.words ≡ record { sort = sorts.Return x; text = op; left = i } ∷ [] → ReturnsTo P calls K → Matches text P behind K
      → Followed M text P L (line_in calls l ∷ rest) s (turn_by M (control_of l.words) ws at behind next (arrived M l.label s))
  return_turn [] l rest K s at behind next m ws x op i e returns n =
      subst (λ (c : Control). Followed M text P L (l ∷ rest) s (turn_by M c ws at behind next (arrived M l.label s))) (sym (ap control_of e))
      (turn_followed M text P L (Return x) (Return x) ws at behind next (l ∷ rest) rest s (arrived M l.label s)
      (step_is M P (Return x) l.words l rest s (arrived M l.label s) (ap control_of e) refl refl) (refl, subst (λ (k : List Line). Matches text P behind k) returns n) m)
  return_turn (p ∷ calls) l rest K s at behind next m ws x op i e returns n =
      subst (λ (c : Control). Followed M text P L (line_in (p ∷ calls) l ∷ rest) s (turn_by M c ws at behind next (arrived M l.label s))) (sym (ap control_of e))
      (turn_followed M text P L (Return x) (Jump (letters_of (jump_with x)) (label_in calls (under p.call (codes "RET")))) ws at behind next (line_in (p ∷ calls) l ∷ rest) rest s (arrived M l.label s)
      (step_is M P (Jump (letters_of (jump_with x)) (label_in calls (under p.call (codes "RET")))) (line_in (p ∷ calls) l).words (line_in (p ∷ calls) l) rest s (arrived M l.label s) (returns_in p calls l x op i e) refl (arrived_in M P (p ∷ calls) l s))
      (jump_test x, (K, returns, n)) m)

-- ---- operators

from_truth : (Q : Line → Type 0) (l : Line) (ls r : List Line) (o : Option (List Line)) (b : Bool) → (if b then Some (l ∷ ls) else o) ≡ Some r → AllByRecursion Q (l ∷ ls) → (o ≡ Some r → AllByRecursion Q r) → AllByRecursion Q r
from_truth Q l ls r o true e all more = let same : l ∷ ls ≡ r = cc in subst (λ (x : List Line). AllByRecursion Q x) same all
from_truth Q l ls r o false e all more = more e

all_from : (Q : Line → Type 0) (name : List ℕ) (ls r : List Line) → from name ls ≡ Some r → AllByRecursion Q ls → AllByRecursion Q r
all_from Q name [] r e all = absurd cc
all_from Q name (l ∷ ls) r e all = from_truth Q l ls r (from name ls) (line_words.bears name l.label) e all (λ (f : from name ls ≡ Some r). all_from Q name ls r f all.1)

operators_related : (text : List ℕ) (P : List Line) (calls : List Placing) (all K : List Line) (more : List Task) → AreGood calls → AllByRecursion (OperatorLine P calls all K) all → Matches text P more K
    → (name : List ℕ) (o : Option (List Line)) → from name all ≡ o
    → Related text P (option_map (λ (rest : List Line). Operators calls all rest ∷ more) o) (option_map (λ (r : List Line). lines_of calls r ++ K) o)
operators_related text P calls all K more good each m name None e = tt
operators_related text P calls all K more good each m name (Some r) e = (K, refl, good, each, all_from (OperatorLine P calls all K) name all r e each, m)

module _ {S : Type 0} (M : Machine S) (text : List ℕ) (P : List Line) (L : List Task → Type 0) where
  pub operator_followed : (calls : List Placing) (all : List Line) (l : Line) (ls K : List Line) (more : List Task) (s : S) → AreGood calls → AllByRecursion (OperatorLine P calls all K) all → AllByRecursion (OperatorLine P calls all K) ls
      → Matches text P more K → OperatorLine P calls all K l
      → Followed M text P L (line_in calls l ∷ (lines_of calls ls ++ K)) s (operator_turn M calls all l ls more (arrived M l.label s))
  operator_followed calls all l ls K more s good each left m (matching.Bare e) =
      bare_turn M text P L calls l (lines_of calls ls ++ K) s (λ (name : List ℕ). option_map (λ (rest : List Line). Operators calls all rest ∷ more) (from name all)) more (Operators calls all ls ∷ more) (K, refl, good, each, left, m) (map (word_in calls) l.words) e
  operator_followed calls all l ls K more s good each left m (matching.Does op i xs e other) =
      does_turn M text P L calls l (lines_of calls ls ++ K) s (λ (name : List ℕ). option_map (λ (rest : List Line). Operators calls all rest ∷ more) (from name all)) more (Operators calls all ls ∷ more) (K, refl, good, each, left, m) op i xs good e other
  operator_followed calls all l ls K more s good each left m (matching.Jumps op i x j e finds) =
      jump_turn M text P L calls l (lines_of calls ls ++ K) s (λ (name : List ℕ). option_map (λ (rest : List Line). Operators calls all rest ∷ more) (from name all)) more (Operators calls all ls ∷ more) (K, refl, good, each, left, m) (map (word_in calls) l.words) op i x j e
      (subst (λ (o : Option (List Line)). Related text P (option_map (λ (rest : List Line). Operators calls all rest ∷ more) (from x all)) o) (sym finds) (operators_related text P calls all K more good each m x (from x all) refl))

-- ---- an operation that is no call

pub data PlainForm (ws : List Word) : Type 0 where
  Performing : (op : List ℕ) (i : ℕ) (xs : List Word) → ws ≡ said op i ∷ xs → AreOther xs → PlainForm ws
  Jumping : (op : List ℕ) (i : ℕ) (x : List ℕ) (j : ℕ) → ws ≡ said op i ∷ label x j ∷ [] → IsLabel x → PlainForm ws
  Returning : (x : Modifier) (op : List ℕ) (i : ℕ) → ws ≡ record { sort = sorts.Return x; text = op; left = i } ∷ [] → PlainForm ws

lone_form : (x : Modifier) (op : List ℕ) (left : ℕ) (b : Bool) → PlainForm ((if b then record { sort = sorts.Return x; text = op; left = left } else said op left) ∷ [])
lone_form x op left true = Returning x op left refl
lone_form x op left false = Performing op left [] refl tt

optional_other : (ms : List Member) (o : Option OperandText) → AreOther (optional_words ms o)
optional_other ms None = tt
optional_other ms (Some x) = (operand_other ms x, tt)

next_arguments_other : (ms : List Member) (args : List ArgumentText) → AreOther (flat_map (next_argument_words ms) args)
next_arguments_other ms [] = tt
next_arguments_other ms (a ∷ args) = all_both IsOther (next_argument_words ms a) (flat_map (next_argument_words ms) args) (refl, (refl, (refl, (operand_other ms a.operand, tt)))) (next_arguments_other ms args)

arguments_other : (ms : List Member) (args : List ArgumentText) → AreOther (all_argument_words ms args)
arguments_other ms [] = tt
arguments_other ms (a ∷ args) = all_both IsOther (argument_words ms a) (flat_map (next_argument_words ms) args) (refl, (refl, (operand_other ms a.operand, tt))) (next_arguments_other ms args)

plain_form : (ms : List Member) (x : Mnemonic) (op : List ℕ) (b : BehindText) (left : ℕ) → HasTarget b → PlainForm (operation_words ms x op b left)
plain_form ms x op Nothing left own = lone_form x.modifier op left (is_return x.op)
plain_form ms x op (Given y) left own = Performing op left (operand_word ms y ∷ []) refl (operand_other ms y, tt)
plain_form ms x op (Target t) left own = Jumping op left (capitals t.text) t.left refl own
plain_form ms x op (Opened o) left own = Performing op left (said (codes "(") left ∷ optional_words ms o) refl (refl, optional_other ms o)
plain_form ms x op (Called c) left own =
    Performing op left (_ ∷ said (codes "(") left ∷ (all_argument_words ms (arguments_of c) ++ said (codes ")") left ∷ [])) refl
    (refl, (refl, all_both IsOther (all_argument_words ms (arguments_of c)) (said (codes ")") left ∷ []) (arguments_other ms (arguments_of c)) (refl, tt)))

lines_truth : (k : ℕ) (l : LineText) (ls : List LineText) (o : Option (ℕ × List LineText)) (p : ℕ × List LineText) (b : Bool) → (if b then Some (k, l ∷ ls) else o) ≡ Some p
    → (o ≡ Some p → (before : List LineText) × (ls ≡ before ++ p.1) × (p.0 ≡ suc k + length before))
    → (before : List LineText) × (l ∷ ls ≡ before ++ p.1) × (p.0 ≡ k + length before)
lines_truth k l ls o p true e more = let same : (k, l ∷ ls) ≡ p = some_same e in ([], ap (λ (q : ℕ × List LineText). q.1) same, let n = ap (λ (q : ℕ × List LineText). q.0) same in omega arith)
  where
    some_same : {X : Type 0} {a b : X} → Some a ≡ Some b → a ≡ b
    some_same f = cc
lines_truth k l ls o p false e more = let r = more e in (l ∷ r.0, ap (λ (x : List LineText). l ∷ x) r.1, omega (arith, r.2))

lines_parts : (name : List ℕ) (k : ℕ) (ls : List LineText) (p : ℕ × List LineText) → lines_at name k ls ≡ Some p → (before : List LineText) × (ls ≡ before ++ p.1) × (p.0 ≡ k + length before)
lines_parts name k [] p e = absurd cc
lines_parts name k (l ∷ ls) p e = lines_truth k l ls (lines_at name (suc k) ls) p (bears_label name l.label) e (λ (f : lines_at name (suc k) ls ≡ Some p). lines_parts name (suc k) ls p f)

body_at : (text : List ℕ) (P : List Line) (calls : List Placing) (u : UnitAt) (k : ℕ) (ls : List LineText) (K : List Line) (more : List Task) → InBody text P calls u k ls K more
    → (j : ℕ) (rs before : List LineText) → u.unit.lines ≡ before ++ rs → j ≡ suc (length before) → InBody text P calls u j rs K more
body_at text P calls u k ls K more body j rs before parts number = record {
  good = body.good;
  above = body.above;
  plain = body.plain;
  before = before;
  parts = parts;
  number = number;
  finds = body.finds;
  returns = body.returns;
  ends = body.ends;
}

jumped_related : (text : List ℕ) (P : List Line) (h : Here) (k : ℕ) (ls : List LineText) (K : List Line) → InBody text P h.calls h.unit k ls K h.behind → Matches text P h.behind K
    → (name : List ℕ) (o : Option (ℕ × List LineText)) → lines_at name 1 h.unit.unit.lines ≡ o
    → Related text P (option_map (lines_from h) o) (option_map (λ (r : List Line). lines_of h.calls r ++ K) (option_map (λ (p : ℕ × List LineText). lines_in (scope_at text h.unit) p.0 p.1) o))
jumped_related text P h k ls K body m name None e = tt
jumped_related text P h k ls K body m name (Some p) e =
    let r = lines_parts name 1 h.unit.unit.lines p e in
    (K, refl, body_at text P h.calls h.unit k ls K h.behind body p.0 p.1 r.0 r.1 (omega (arith, r.2)), m)

jumped_to : (text : List ℕ) (P : List Line) (h : Here) (k : ℕ) (ls : List LineText) (K : List Line) → InBody text P h.calls h.unit k ls K h.behind → Matches text P h.behind K
    → (name : List ℕ) → IsLabel name → Related text P (jumped h name) (from (label_in h.calls name) P)
jumped_to text P h k ls K body m name own =
    subst (λ (o : Option (List Line)). Related text P (jumped h name) o)
    (sym (body.finds name ((λ (e : codes "RET" ≡ name). own.no_return (sym e)), (λ (e : codes "CAL" ≡ name). own.no_call (sym e)))
    ∙ ap (option_map (λ (r : List Line). lines_of h.calls r ++ K)) (own_from text h.unit name own.part (uses_labelled text h.unit body.above) 1 h.unit.unit.lines)))
    (jumped_related text P h k ls K body m name (lines_at name 1 h.unit.unit.lines) refl)

pub next_match : (text : List ℕ) (P : List Line) (calls : List Placing) (u : UnitAt) (k : ℕ) (l : LineText) (ls : List LineText) (K : List Line) (more : List Task) → InBody text P calls u k (l ∷ ls) K more → Matches text P more K
    → Matches text P (Lines calls u (suc k) ls ∷ more) (lines_of calls (lines_in (scope_at text u) (suc k) ls) ++ K)
next_match text P calls u k l ls K more body m = (K, refl, next_body text P calls u k l ls K more body, m)

module _ {S : Type 0} (M : Machine S) (text : List ℕ) (P : List Line) (L : List Task → Type 0) (calls : List Placing) (u : UnitAt) (k : ℕ) (l : LineText) (ls : List LineText) (K : List Line) (more : List Task)
    (body : InBody text P calls u k (l ∷ ls) K more) (m : Matches text P more K) where
  abbrev here : Here
  here = record { calls = calls; unit = u; number = k; left = ls; behind = more }

  abbrev plain_line : OperationText → Line
  plain_line o = line_of o.operator.left (plain_words text u o)

  plain_by : (o : OperationText) (s : S) → PlainForm (plain_words text u o)
      → Followed M text P L (line_in calls (plain_line o) ∷ (lines_of calls (lines_in (scope_at text u) (suc k) ls) ++ K)) s (plain_turn M text here o s)
  plain_by o s (Performing op i xs e other) =
      does_turn M text P L calls (plain_line o) (lines_of calls (lines_in (scope_at text u) (suc k) ls) ++ K) s (jumped here) more (next here) (next_match text P calls u k l ls K more body m) op i xs body.good e other
  plain_by o s (Jumping op i x j e own) =
      jump_turn M text P L calls (plain_line o) (lines_of calls (lines_in (scope_at text u) (suc k) ls) ++ K) s (jumped here) more (next here) (next_match text P calls u k l ls K more body m) (map (word_in calls) (plain_words text u o)) op i x j e
      (jumped_to text P here k (l ∷ ls) K body m x own)
  plain_by o s (Returning x op i e) =
      return_turn M text P L calls (plain_line o) (lines_of calls (lines_in (scope_at text u) (suc k) ls) ++ K) K s (jumped here) more (next here) (next_match text P calls u k l ls K more body m) (map (word_in calls) (plain_words text u o)) x op i e body.returns m

  pub plain_followed : (o : OperationText) (s : S) → HasTarget o.behind
      → Followed M text P L (line_in calls (plain_line o) ∷ (lines_of calls (lines_in (scope_at text u) (suc k) ls) ++ K)) s (plain_turn M text here o s)
  plain_followed o s own = plain_by o s (plain_form (members_of u.unit) o.operator.mnemonic (written_at text o.operator.left) o.behind o.operator.left own)
