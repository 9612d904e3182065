-- When lines stand for what is left to do, and how one line follows one step.
use Rattle.std.proofs.Common.{◌≡◌, ℕ, zero, suc, Bool, true, false, List, [], ◌∷◌, ◌++◌, map, length, Option, Some, None, Result, Ok, Err, refl, sym, ap, ◌∙◌, arith, codes}
use Rattle.std.specs.Prelude.{option_map, is_none, if◌then◌else◌}
use Rattle.std.specs.List.{AllByRecursion}
use Rattle.il_values.specs.declared.op.Modifier.{Modifier}
use Rattle.il_values.specs.declared.value.Stop.{Stop}
use Rattle.il_model.specs.Words.{under}
use Rattle.il_reader.specs.Tokens.{Token}
use Rattle.il_units.specs.declared.word.Word.{Word}
use Rattle.il_units.specs.declared.word.Line.{Line}
use Rattle.il_units.specs.Units.{LineText}
use Rattle.il_units.specs.Words.{capitals, said, label, Placing, placed_line, placed_words}
use Rattle.il_units.specs.Flats.{Body}
use Rattle.il_units.specs.Expansion.{lone_label, labelled_lines, with_label}
use Rattle.laws_calls.specs.Machines.{Machine, Turn, Next, test, where_met, goes_to, performed, arrived}
use Rattle.laws_calls.specs.Lines.{Control, Nothing, Jump, Return, Performs, control_of, turn_by, from, line_step}
use Rattle.laws_calls.specs.Calls.{UnitAt, Task, Lines, Operators, Forget}
use Rattle.laws_calls.specs.Laws.{IsPlainUnit}
use Rattle.laws_calls.proofs.Steps.{Gets, Follows}
use Rattle.laws_calls.proofs.Words.{line_in, label_in, AreOther, AreGood, empty_in, unlabelled_in, labelled_in}
use Rattle.laws_calls.proofs.Units.{scope_at, lines_in}

abbrev pub lines_of : List Placing → List Line → List Line
lines_of calls ls = map (line_in calls) ls

-- among all lines a label of a body stands where it stands in the body, with what is behind the body
abbrev pub FindsAs : List Line → List Placing → List Line → List Line → List ℕ → Type 0
FindsAs P calls body K name = from (label_in calls name) P ≡ option_map (λ (r : List Line). lines_of calls r ++ K) (from name body)

-- a return is the end of the program, or a jump behind the body
abbrev pub ReturnsTo : List Line → List Placing → List Line → Type 0
ReturnsTo P [] K = K ≡ []
ReturnsTo P (at ∷ calls) K = from (label_in calls (under at.call (codes "RET"))) P ≡ Some K

-- behind a body there is nothing, or the current result is dropped
abbrev pub EndsBody : List Task → Type 0
EndsBody [] = Unit {0}
EndsBody (Forget ∷ more) = Unit {0}
EndsBody (Lines calls u k ls ∷ more) = ⊥
EndsBody (Operators calls all ls ∷ more) = ⊥

abbrev pub IsFree : List ℕ → Type 0
IsFree name = (codes "RET" ≡ name → ⊥) × (codes "CAL" ≡ name → ⊥)

pub record InBody (text : List ℕ) (P : List Line) (calls : List Placing) (u : UnitAt) (k : ℕ) (ls : List LineText) (K : List Line) (behind : List Task) : Type 0 where
  pub good : AreGood calls
  pub above : AllByRecursion IsPlainUnit u.above
  pub plain : IsPlainUnit u.unit
  pub before : List LineText
  pub parts : u.unit.lines ≡ before ++ ls
  pub number : k ≡ suc (length before)
  pub finds : (name : List ℕ) → IsFree name → FindsAs P calls (lines_in (scope_at text u) 1 u.unit.lines) K name
  pub returns : ReturnsTo P calls K
  pub ends : EndsBody behind

pub data OperatorLine (P : List Line) (calls : List Placing) (all K : List Line) (l : Line) : Type 0 where
  Bare : l.words ≡ [] → OperatorLine P calls all K l
  Does : (op : List ℕ) (left : ℕ) (words : List Word) → l.words ≡ said op left ∷ words → AreOther words → OperatorLine P calls all K l
  Jumps : (op : List ℕ) (left : ℕ) (name : List ℕ) (there : ℕ) → l.words ≡ said op left ∷ label name there ∷ [] → FindsAs P calls all K name → OperatorLine P calls all K l

-- the lines stand for what is left to do
abbrev pub Matches : List ℕ → List Line → List Task → List Line → Type 0
Matches text P [] flat = flat ≡ []
Matches text P (Forget ∷ more) flat = (l : Line) × (w : Word) × (K : List Line) × (flat ≡ l ∷ K) × (l.words ≡ []) × (l.label ≡ Some w) × Matches text P more K
Matches text P (Operators calls all ls ∷ more) flat = (K : List Line) × (flat ≡ lines_of calls ls ++ K) × AreGood calls
    × AllByRecursion (OperatorLine P calls all K) all × AllByRecursion (OperatorLine P calls all K) ls × Matches text P more K
Matches text P (Lines calls u k ls ∷ more) flat = (K : List Line) × (flat ≡ lines_of calls (lines_in (scope_at text u) k ls) ++ K)
    × InBody text P calls u k ls K more × Matches text P more K

-- ---- what is left before a line is performed: how deep the unit is that has the next line, and how many lines it has

abbrev pub high : List Task → ℕ
high [] = 0
high (Forget ∷ more) = 0
high (Operators calls all [] ∷ more) = high more
high (Operators calls all (l ∷ ls) ∷ more) = 0
high (Lines calls u k [] ∷ more) = high more
high (Lines calls u k (l ∷ ls) ∷ more) = suc (length u.above)

abbrev pub low : List Task → ℕ
low [] = 0
low (Forget ∷ more) = 0
low (Operators calls all [] ∷ more) = low more
low (Operators calls all (l ∷ ls) ∷ more) = 0
low (Lines calls u k [] ∷ more) = low more
low (Lines calls u k (l ∷ ls) ∷ more) = suc (length ls)

-- ---- one line

abbrev pub Related : List ℕ → List Line → Option (List Task) → Option (List Line) → Type 0
Related text P None None = Unit {0}
Related text P (Some c) (Some d) = Matches text P c d
Related text P None (Some d) = ⊥
Related text P (Some c) None = ⊥

-- what the words of a line say where it is placed, beside what they say in the unit
abbrev pub AreLike : List ℕ → List Line → (List ℕ → Option (List Task)) → List Task → Control → Control → Type 0
AreLike text P at behind Nothing Nothing = Unit {0}
AreLike text P at behind Performs Performs = Unit {0}
AreLike text P at behind (Jump m name) (Jump n there) = (m ≡ n) × Related text P (at name) (from there P)
AreLike text P at behind (Return m) (Return n) = (m ≡ n) × Matches text P behind []
AreLike text P at behind (Return m) (Jump n there) = ((t : Option Bool) → test m t ≡ test n t) × ((K : List Line) × (from there P ≡ Some K) × Matches text P behind K)
AreLike text P at behind c d = ⊥

module _ {S : Type 0} (M : Machine S) (text : List ℕ) (P : List Line) (L : List Task → Type 0) where
  abbrev pub Followed : List Line → S → Turn (List Task) S → Type 0
  Followed flat s turn = Follows (line_step M P) (Matches text P) L flat s turn

  pub one_step : (flat : List Line) (s : S) (rest : List Line) (t : S) (next : List Task) → line_step M P flat s ≡ Next rest t → Matches text P next rest → Followed flat s (Next next t)
  one_step flat s rest t next e m = (suc zero, rest, (rest, t, e, refl), m, λ z. absurd (omega arith))

  performed_followed : (o : Option (Result S Stop)) (next : List Task) (flat rest : List Line) (s s0 : S) → line_step M P flat s ≡ performed o rest s0 → Matches text P next rest → Followed flat s (performed o next s0)
  performed_followed None next flat rest s s0 e m = (zero, flat, s, refl, e)
  performed_followed (Some (Ok t)) next flat rest s s0 e m = one_step flat s rest t next e m
  performed_followed (Some (Err stop)) next flat rest s s0 e m = (zero, flat, s, refl, e)

  pub met_followed : (t : Option Bool) (flat : List Line) (s : S) (made other : Turn (List Task) S) (made' other' : Turn (List Line) S) → line_step M P flat s ≡ where_met t made' other'
      → (line_step M P flat s ≡ made' → Followed flat s made) → (line_step M P flat s ≡ other' → Followed flat s other) → Followed flat s (where_met t made other)
  met_followed None flat s made other made' other' e f g = (zero, flat, s, refl, e)
  met_followed (Some true) flat s made other made' other' e f g = f e
  met_followed (Some false) flat s made other made' other' e f g = g e

  goes_followed : (o : Option (List Task)) (p : Option (List Line)) (flat : List Line) (s s0 : S) → line_step M P flat s ≡ goes_to p s0 → Related text P o p → Followed flat s (goes_to o s0)
  goes_followed None None flat s s0 e r = (zero, flat, s, refl, e)
  goes_followed (Some c) (Some d) flat s s0 e r = one_step flat s d s0 c e r
  goes_followed None (Some d) flat s s0 e r = absurd r
  goes_followed (Some c) None flat s s0 e r = absurd r

  return_followed : (t : Option Bool) (behind next : List Task) (flat K rest : List Line) (s s0 : S) → line_step M P flat s ≡ where_met t (Next K s0) (Next rest s0) → Matches text P behind K → Matches text P next rest
      → Followed flat s (where_met t (Next behind s0) (Next next s0))
  return_followed t behind next flat K rest s s0 e m n =
      met_followed t flat s (Next behind s0) (Next next s0) (Next K s0) (Next rest s0) e (λ x. one_step flat s K s0 behind x m) (λ x. one_step flat s rest s0 next x n)

  pub turn_followed : (c d : Control) (ws : List Word) (at : List ℕ → Option (List Task)) (behind next : List Task) (flat rest : List Line) (s s0 : S)
      → line_step M P flat s ≡ turn_by M d ws (λ (name : List ℕ). from name P) [] rest s0 → AreLike text P at behind c d → Matches text P next rest → Followed flat s (turn_by M c ws at behind next s0)
  turn_followed Nothing Nothing ws at behind next flat rest s s0 e like m = one_step flat s rest s0 next e m
  turn_followed Performs Performs ws at behind next flat rest s s0 e like m = performed_followed (M.does ws s0) next flat rest s s0 e m
  turn_followed (Jump x name) (Jump y there) ws at behind next flat rest s s0 e like m =
      let here : line_step M P flat s ≡ where_met (test x (M.truth s0)) (goes_to (from there P) s0) (Next rest s0) = e ∙ ap (λ (z : Modifier). where_met (test z (M.truth s0)) (goes_to (from there P) s0) (Next rest s0)) (sym like.0) in
      met_followed (test x (M.truth s0)) flat s (goes_to (at name) s0) (Next next s0) (goes_to (from there P) s0) (Next rest s0) here
      (λ f. goes_followed (at name) (from there P) flat s s0 f like.1) (λ f. one_step flat s rest s0 next f m)
  turn_followed (Return x) (Return y) ws at behind next flat rest s s0 e like m =
      return_followed (test x (M.truth s0)) behind next flat [] rest s s0 (e ∙ ap (λ (z : Modifier). where_met (test z (M.truth s0)) (Next [] s0) (Next rest s0)) (sym like.0)) like.1 m
  turn_followed (Return x) (Jump y there) ws at behind next flat rest s s0 e like m =
      return_followed (test x (M.truth s0)) behind next flat like.1.0 rest s s0
      (e ∙ ap (λ (z : Option Bool). where_met z (goes_to (from there P) s0) (Next rest s0)) (sym (like.0 (M.truth s0))) ∙ ap (λ (o : Option (List Line)). where_met (test x (M.truth s0)) (goes_to o s0) (Next rest s0)) like.1.1) like.1.2 m
  turn_followed Nothing (Jump y there) ws at behind next flat rest s s0 e like m = absurd like
  turn_followed Nothing (Return y) ws at behind next flat rest s s0 e like m = absurd like
  turn_followed Nothing Performs ws at behind next flat rest s s0 e like m = absurd like
  turn_followed Performs Nothing ws at behind next flat rest s s0 e like m = absurd like
  turn_followed Performs (Jump y there) ws at behind next flat rest s s0 e like m = absurd like
  turn_followed Performs (Return y) ws at behind next flat rest s s0 e like m = absurd like
  turn_followed (Jump x name) Nothing ws at behind next flat rest s s0 e like m = absurd like
  turn_followed (Jump x name) Performs ws at behind next flat rest s s0 e like m = absurd like
  turn_followed (Jump x name) (Return y) ws at behind next flat rest s s0 e like m = absurd like
  turn_followed (Return x) Nothing ws at behind next flat rest s s0 e like m = absurd like
  turn_followed (Return x) Performs ws at behind next flat rest s s0 e like m = absurd like

-- ---- the step at a placed line

module _ {S : Type 0} (M : Machine S) (P : List Line) where
  pub step_is : (d : Control) (ws : List Word) (l : Line) (rest : List Line) (s s0 : S) → control_of l.words ≡ d → l.words ≡ ws → arrived M l.label s ≡ s0
      → line_step M P (l ∷ rest) s ≡ turn_by M d ws (λ (name : List ℕ). from name P) [] rest s0
  step_is d ws l rest s s0 a b c =
      ap (λ (x : Control). turn_by M x l.words (λ (name : List ℕ). from name P) [] rest (arrived M l.label s)) a
      ∙ ap (λ (x : List Word). turn_by M d x (λ (name : List ℕ). from name P) [] rest (arrived M l.label s)) b
      ∙ ap (λ (x : S). turn_by M d ws (λ (name : List ℕ). from name P) [] rest x) c

  arrived_by : (calls : List Placing) (l : Line) (s : S) (o : Option Word) → l.label ≡ o → arrived M (line_in calls l).label s ≡ arrived M o s
  arrived_by calls l s None e = ap (λ (o : Option Word). arrived M o s) (unlabelled_in calls l e)
  arrived_by calls l s (Some w) e = let v = labelled_in calls l w e in ap (λ (o : Option Word). arrived M o s) v.1

  pub arrived_in : (calls : List Placing) (l : Line) (s : S) → arrived M (line_in calls l).label s ≡ arrived M l.label s
  arrived_in calls l s = arrived_by calls l s l.label refl

  pub mark_step : (calls : List Placing) (l : Line) (w : Word) (rest : List Line) (s : S) → l.words ≡ [] → l.label ≡ Some w → line_step M P (line_in calls l ∷ rest) s ≡ Next rest (M.forgets s)
  mark_step calls l w rest s words is =
      step_is Nothing [] (line_in calls l) rest s (M.forgets s) (ap control_of (empty_in calls l words)) (empty_in calls l words) (arrived_by calls l s (Some w) is)

  -- ---- a label before lines

  same_words : (calls : List Placing) (l m : Line) → l.words ≡ m.words → (line_in calls l).words ≡ (line_in calls m).words
  same_words [] l m e = e
  same_words (at ∷ calls) l m e = same_words calls (placed_line at l) (placed_line at m) (ap (placed_words at) e)

  joined_label : (calls : List Placing) (w : Word) (x : Line) (rest : List Line) (s : S) → x.label ≡ None
      → line_step M P (line_in calls (record { label = Some w; words = x.words; left = x.left }) ∷ rest) s ≡ line_step M P (line_in calls x ∷ rest) (M.forgets s)
  joined_label calls w x rest s none =
      let l : Line = record { label = Some w; words = x.words; left = x.left } in
      let words = same_words calls l x refl in
      step_is (control_of (line_in calls x).words) (line_in calls x).words (line_in calls l) rest s (M.forgets s) (ap control_of words) words (arrived_by calls l s (Some w) refl)
      ∙ sym (step_is (control_of (line_in calls x).words) (line_in calls x).words (line_in calls x) rest (M.forgets s) (M.forgets s) refl refl (arrived_by calls x (M.forgets s) None none))

  gets_by : (calls : List Placing) (w : Word) (x : Line) (xs rest K : List Line) (s : S) (o : Option Word) → x.label ≡ o
      → (n : ℕ) × Gets (line_step M P) n (lines_of calls ((if is_none o then record { label = Some w; words = x.words; left = x.left } ∷ xs else lone_label w ∷ x ∷ xs) ++ rest) ++ K) s (lines_of calls (x ∷ xs ++ rest) ++ K) (M.forgets s)
  gets_by calls w x xs rest K s None is = (zero, joined_label calls w x (lines_of calls (xs ++ rest) ++ K) s is)
  gets_by calls w x xs rest K s (Some v) is = (suc zero, (lines_of calls (x ∷ xs ++ rest) ++ K, M.forgets s, mark_step calls (lone_label w) w (lines_of calls (x ∷ xs ++ rest) ++ K) s refl refl, refl))

  pub labelled_gets : (calls : List Placing) (w : Word) (ls rest K : List Line) (s : S) → (n : ℕ) × Gets (line_step M P) n (lines_of calls (labelled_lines w ls ++ rest) ++ K) s (lines_of calls (ls ++ rest) ++ K) (M.forgets s)
  labelled_gets calls w [] rest K s = (suc zero, (lines_of calls rest ++ K, M.forgets s, mark_step calls (lone_label w) w (lines_of calls rest ++ K) s refl refl, refl))
  labelled_gets calls w (x ∷ xs) rest K s = gets_by calls w x xs rest K s x.label refl

  pub label_gets : (calls : List Placing) (o : Option Token) (b : Body) (rest K : List Line) (s : S) → (n : ℕ) × Gets (line_step M P) n (lines_of calls ((with_label o b).lines ++ rest) ++ K) s (lines_of calls (b.lines ++ rest) ++ K) (arrived M o s)
  label_gets calls None b rest K s = (zero, refl)
  label_gets calls (Some t) b rest K s = labelled_gets calls (label (capitals t.text) t.left) b.lines rest K s
