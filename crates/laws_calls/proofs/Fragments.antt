-- What a line of a unit comes to: words that are no labels, and labels that stand under the call.
use Rattle.std.proofs.Common.{◌≡◌, ℕ, suc, ◌-◌, Bool, true, false, List, [], ◌∷◌, ◌++◌, map, length, Option, Some, None, refl, codes}
use Rattle.std.specs.Prelude.{option_map, ◌&&◌, if◌then◌else◌}
use Rattle.std.specs.List.{AllByRecursion, flat_map, zip}
use Rattle.std.specs.Fmt.{decimal}
use Rattle.il_values.specs.declared.value.Ty.{Ty}
use Rattle.il_model.specs.Words.{under}
use Rattle.il_reader.specs.Grammar.{OperandText, Constant, Direct, Named, Field, ArgumentText, CallText, arguments_of}
use Rattle.il_units.specs.declared.contents.SectionKind.{SectionKind}
use Rattle.il_units.specs.declared.contents.SectionKind.TheVariants as sections
use Rattle.il_units.specs.declared.word.Word.{Word}
use Rattle.il_units.specs.declared.word.Line.{Line}
use Rattle.il_units.specs.declared.members.Member.{Member}
use Rattle.il_units.specs.declared.choices.Choice.{Choice}
use Rattle.il_units.specs.declared.choices.Choice.TheVariants as choices
use Rattle.il_units.specs.Words.{capitals, said, own, label, mark, Placing, placed, placed_line}
use Rattle.il_units.specs.Members.{type_named, type_word, takes_numbers, is_bare, is_said, typed_number, settled, constant_word, name_word_as, member_word, member_named, operand_word}
use Rattle.il_units.specs.Flats.{FlatUnit}
use Rattle.il_units.specs.Calls.{ld, jump, with_operand, passed, argued, given_as, given_by, input_as, input_by, input_of, output_as, output_by, output_of}
use Rattle.il_units.specs.Calls.{back, instance_placing, function_placing, shared_in, other_input, function_inputs, first_literal, first_value_as, first_value}
use Rattle.il_units.specs.Choices.{chosen, case_label, case_of, cases_from, cases, test_of, tests_from, limited, made, type_of_choice, number_literal}
use Rattle.il_units.specs.Expansion.{ScopeText, choice_by}
use Rattle.laws_calls.specs.Lines.{from, bears}
use Rattle.laws_calls.proofs.Words.{IsOther, AreOther, GivesOther, IsGoodPlacing}
use Rattle.laws_calls.proofs.Labels.{all_both, all_mapped, all_also, none_from, HasLabelWord, IsLabelWord, IsUnder, HasUnder}

-- ---- operands

if_other : (b : Bool) (w v : Word) → IsOther w → IsOther v → IsOther (if b then w else v)
if_other true w v p q = p
if_other false w v p q = q

pub settled_other : (ty : List ℕ) (w : Word) → IsOther w → IsOther (settled ty w)
settled_other ty w other = if_other (is_said w.sort && (takes_numbers (type_named ty) && is_bare w.text)) (typed_number ty w) w refl other

constant_other : (ty : List ℕ) (o : Option Word) (name : List ℕ) (left : ℕ) → IsOther (constant_word ty o name left)
constant_other ty None name left = refl
constant_other ty (Some w) name left = settled_other ty (said w.text left) refl

name_other : (kind : SectionKind) (m : Member) (name : List ℕ) (left : ℕ) → IsOther (name_word_as kind m name left)
name_other sections.Constant m name left = constant_other m.ty.text m.initial name left
name_other sections.InOut m name left = refl
name_other sections.Local m name left = refl
name_other sections.Input m name left = refl
name_other sections.Output m name left = refl

member_other : (o : Option Member) (name : List ℕ) (left : ℕ) → IsOther (member_word o name left)
member_other None name left = refl
member_other (Some m) name left = name_other m.kind m name left

pub operand_other : (ms : List Member) (x : OperandText) → IsOther (operand_word ms x)
operand_other ms (Constant t) = refl
operand_other ms (Direct t) = refl
operand_other ms (Named t) = member_other (member_named ms (capitals t.text)) (capitals t.text) t.left
operand_other ms (Field t f) = refl

-- ---- lines of an operator

pub record IsStraight (l : Line) : Type 0 where
  pub label : l.label ≡ None
  pub op : List ℕ
  pub left : ℕ
  pub words : List Word
  pub is : l.words ≡ said op left ∷ words
  pub other : AreOther words

pub straight_operand : (op : List ℕ) (x : Word) (left : ℕ) → IsOther x → IsStraight (with_operand op x left)
straight_operand op x left other = record { label = refl; op = op; left = left; words = x ∷ []; is = refl; other = (other, tt) }

pub all_flat : {X Y : Type 0} (P : Y → Type 0) (g : X → List Y) → ((x : X) → AllByRecursion P (g x)) → (xs : List X) → AllByRecursion P (flat_map g xs)
all_flat P g each [] = tt
all_flat P g each (x ∷ xs) = all_both P (g x) (flat_map g xs) (each x) (all_flat P g each xs)

straight_passed : (ty : List ℕ) (x v : Word) (left : ℕ) → IsOther x → IsOther v → AllByRecursion IsStraight (passed ty x v left)
straight_passed ty x v left p q = (straight_operand (codes "LD") (settled ty x) left (settled_other ty x p), (straight_operand (codes "ST") v left q, tt))

straight_input_as : (kind : SectionKind) (front : List ℕ) (m : Member) (x : Word) (left : ℕ) → IsOther x → AllByRecursion IsStraight (input_as kind front m x left)
straight_input_as sections.Input front m x left other = straight_passed m.ty.text x (own (under front m.name.text) left) left other refl
straight_input_as sections.Local front m x left other = tt
straight_input_as sections.Output front m x left other = tt
straight_input_as sections.InOut front m x left other = tt
straight_input_as sections.Constant front m x left other = tt

straight_input_by : (front : List ℕ) (o : Option Member) (x : Word) (left : ℕ) → IsOther x → AllByRecursion IsStraight (input_by front o x left)
straight_input_by front None x left other = tt
straight_input_by front (Some m) x left other = straight_input_as m.kind front m x left other

pub straight_inputs : (ms : List Member) (block : FlatUnit) (front : List ℕ) (args : List ArgumentText) → AllByRecursion IsStraight (flat_map (input_of ms block front) args)
straight_inputs ms block front args = all_flat IsStraight (input_of ms block front) (λ (a : ArgumentText). straight_input_by front (argued block a) (operand_word ms a.operand) a.field.left (operand_other ms a.operand)) args

straight_output_as : (kind : SectionKind) (front : List ℕ) (m : Member) (x : Word) (left : ℕ) → IsOther x → AllByRecursion IsStraight (output_as kind front m x left)
straight_output_as sections.Output front m x left other = (straight_operand (codes "LD") (own (under front m.name.text) left) left refl, (straight_operand (codes "ST") x left other, tt))
straight_output_as sections.Local front m x left other = tt
straight_output_as sections.Input front m x left other = tt
straight_output_as sections.InOut front m x left other = tt
straight_output_as sections.Constant front m x left other = tt

straight_output_by : (front : List ℕ) (o : Option Member) (x : Word) (left : ℕ) → IsOther x → AllByRecursion IsStraight (output_by front o x left)
straight_output_by front None x left other = tt
straight_output_by front (Some m) x left other = straight_output_as m.kind front m x left other

pub straight_outputs : (ms : List Member) (block : FlatUnit) (front : List ℕ) (args : List ArgumentText) → AllByRecursion IsStraight (flat_map (output_of ms block front) args)
straight_outputs ms block front args = all_flat IsStraight (output_of ms block front) (λ (a : ArgumentText). straight_output_by front (argued block a) (operand_word ms a.operand) a.field.left (operand_other ms a.operand)) args

straight_other_input : (ms : List Member) (f : FlatUnit) (left : ℕ) (m : Member) (x : OperandText) → AllByRecursion IsStraight (other_input ms f left (m, x))
straight_other_input ms f left m x = straight_passed m.ty.text (operand_word ms x) (shared_in f m.name.text left) left (operand_other ms x) refl

pub straight_function_inputs : (ms : List Member) (f : FlatUnit) (left : ℕ) (ins : List Member) (xs : List OperandText) → AllByRecursion IsStraight (function_inputs ms f left ins xs)
straight_function_inputs ms f left [] xs = tt
straight_function_inputs ms f left (m ∷ more) xs =
    (straight_operand (codes "ST") (shared_in f m.name.text left) left refl, all_flat IsStraight (other_input ms f left) (λ (p : Member × OperandText). straight_other_input ms f left p.0 p.1) (zip more xs))

straight_first_as : (kind : SectionKind) (f : FlatUnit) (left : ℕ) (m : Member) → AllByRecursion IsStraight (first_value_as kind f left m)
straight_first_as sections.Local f left m = straight_passed m.ty.text (said (first_literal m.ty.text m.initial) left) (shared_in f m.name.text left) left refl refl
straight_first_as sections.Input f left m = tt
straight_first_as sections.Output f left m = tt
straight_first_as sections.InOut f left m = tt
straight_first_as sections.Constant f left m = tt

pub straight_first_values : (f : FlatUnit) (left : ℕ) (ms : List Member) → AllByRecursion IsStraight (flat_map (first_value f left) ms)
straight_first_values f left ms = all_flat IsStraight (first_value f left) (λ (m : Member). straight_first_as m.kind f left m) ms

-- ---- what calls give

given_kind : (kind : SectionKind) (m : Member) (x : Word) → IsOther x → AllByRecursion GivesOther (given_as kind m x)
given_kind sections.InOut m x other = (other, tt)
given_kind sections.Local m x other = tt
given_kind sections.Input m x other = tt
given_kind sections.Output m x other = tt
given_kind sections.Constant m x other = tt

given_member : (o : Option Member) (x : Word) → IsOther x → AllByRecursion GivesOther (given_by o x)
given_member None x other = tt
given_member (Some m) x other = given_kind m.kind m x other

pub good_instance : (ms : List Member) (block : FlatUnit) (call : List ℕ) (c : CallText) (left : ℕ) → IsGoodPlacing (instance_placing ms block call c left)
good_instance ms block call c left = record {
  sort = refl;
  given = all_flat GivesOther (λ (a : ArgumentText). given_by (argued block a) (operand_word ms a.operand)) (λ (a : ArgumentText). given_member (argued block a) (operand_word ms a.operand) (operand_other ms a.operand)) (arguments_of c);
}

pub good_function : (f : FlatUnit) (call : List ℕ) (left : ℕ) → IsGoodPlacing (function_placing f call left)
good_function f call left = record { sort = refl; given = tt }

-- ---- labels

bare_bears : (name : List ℕ) (o : Option Word) → o ≡ None → bears name o ≡ false
bare_bears name None is = refl
bare_bears name (Some w) is = absurd cc

pub none_straight : (name : List ℕ) (ls : List Line) → AllByRecursion IsStraight ls → from name ls ≡ None
none_straight name ls all = none_from IsStraight name (λ (l : Line) (is : IsStraight l). bare_bears name l.label is.label) ls all

bare_under : (call : List ℕ) (o : Option Word) → o ≡ None → IsUnder call o
bare_under call None is = tt
bare_under call (Some w) is = absurd cc

pub straight_under : (call : List ℕ) (ls : List Line) → AllByRecursion IsStraight ls → AllByRecursion (HasUnder call) ls
straight_under call ls all = all_also IsStraight (HasUnder call) (λ (l : Line) (is : IsStraight l). bare_under call l.label is.label) ls all

label_placed : (at : Placing) (o : Option Word) → IsLabelWord o → IsUnder at.call (option_map (placed at) o)
label_placed at None is = tt
label_placed at (Some w) is = rw is (refl, (w.text, refl))

pub placed_under : (at : Placing) (ls : List Line) → AllByRecursion HasLabelWord ls → AllByRecursion (HasUnder at.call) (map (placed_line at) ls)
placed_under at ls all = all_mapped HasLabelWord (HasUnder at.call) (placed_line at) (λ (l : Line) (is : HasLabelWord l). label_placed at l.label is) ls all

-- ---- LIMIT, SEL and MUX

pub data OperatorForm (call : List ℕ) (l : Line) : Type 0 where
  Bare : l.words ≡ [] → OperatorForm call l
  Does : (op : List ℕ) (left : ℕ) (words : List Word) → l.words ≡ said op left ∷ words → AreOther words → OperatorForm call l
  Jumps : (op : List ℕ) (left : ℕ) (name : List ℕ) (there : ℕ) → l.words ≡ said op left ∷ label (under call name) there ∷ [] → OperatorForm call l

pub record IsOperator (call : List ℕ) (l : Line) : Type 0 where
  pub label : HasUnder call l
  pub form : OperatorForm call l

operator_mark : (call name : List ℕ) (left : ℕ) → IsOperator call (mark (under call name) left)
operator_mark call name left = record { label = (refl, (name, refl)); form = Bare refl }

operator_jump : (call op name : List ℕ) (left : ℕ) → IsOperator call (jump op (under call name) left)
operator_jump call op name left = record { label = tt; form = Jumps op left name left refl }

as_operator : (call : List ℕ) (l : Line) → IsStraight l → IsOperator call l
as_operator call l is = record { label = bare_under call l.label is.label; form = Does is.op is.left is.words is.is is.other }

pub straight_operators : (call : List ℕ) (ls : List Line) → AllByRecursion IsStraight ls → AllByRecursion (IsOperator call) ls
straight_operators call ls all = all_also IsStraight (IsOperator call) (as_operator call) ls all

operator_case : (ms : List Member) (call : List ℕ) (ty : Ty) (left n : ℕ) (x : OperandText) → AllByRecursion (IsOperator call) (case_of ms call ty left n x)
operator_case ms call ty left n x = (
  operator_mark call (codes "I" ++ decimal n) left,
  all_both (IsOperator call) (passed (type_word ty) (operand_word ms x) (chosen (type_word ty) left) left) (jump (codes "JMP") (back call) left ∷ [])
      (straight_operators call (passed (type_word ty) (operand_word ms x) (chosen (type_word ty) left) left) (straight_passed (type_word ty) (operand_word ms x) (chosen (type_word ty) left) left (operand_other ms x) refl))
      (operator_jump call (codes "JMP") (codes "RET") left, tt),
)

operator_cases_from : (ms : List Member) (call : List ℕ) (ty : Ty) (left n : ℕ) (xs : List OperandText) → AllByRecursion (IsOperator call) (cases_from ms call ty left n xs)
unfolding cases_from
operator_cases_from ms call ty left n [] = tt
operator_cases_from ms call ty left n (x ∷ xs) = all_both (IsOperator call) (case_of ms call ty left n x) (cases_from ms call ty left (suc n) xs) (operator_case ms call ty left n x) (operator_cases_from ms call ty left (suc n) xs)

operator_cases : (ms : List Member) (call : List ℕ) (ty : Ty) (xs : List OperandText) (left : ℕ) → AllByRecursion (IsOperator call) (cases ms call ty xs left)
operator_cases ms call ty xs left = all_both (IsOperator call) (cases_from ms call ty left 0 xs) (mark (back call) left ∷ ld (chosen (type_word ty) left) left ∷ [])
    (operator_cases_from ms call ty left 0 xs)
    (operator_mark call (codes "RET") left, (as_operator call _ (straight_operand (codes "LD") (chosen (type_word ty) left) left refl), tt))

operator_test : (call : List ℕ) (left n : ℕ) → AllByRecursion (IsOperator call) (test_of call left n)
operator_test call left n = (
  as_operator call _ (straight_operand (codes "LD") (chosen (codes "K") left) left refl),
  (
    as_operator call _ (straight_operand (codes "EQ") (said (number_literal n) left) left refl),
    (operator_jump call (codes "JMPC") (codes "I" ++ decimal n) left, tt),
  ),
)

operator_tests : (call : List ℕ) (left n : ℕ) (xs : List OperandText) → AllByRecursion (IsOperator call) (tests_from call left n xs)
unfolding tests_from
operator_tests call left n [] = tt
operator_tests call left n (x ∷ xs) = all_both (IsOperator call) (test_of call left n) (tests_from call left (suc n) xs) (operator_test call left n) (operator_tests call left (suc n) xs)

operator_limited : (ms : List Member) (call : List ℕ) (xs : List OperandText) (left : ℕ) → AllByRecursion (IsOperator call) ((limited ms xs left).lines)
operator_limited ms call [] left = tt
operator_limited ms call (x ∷ []) left = tt
operator_limited ms call (x ∷ y ∷ []) left = (
  as_operator call _ (straight_operand (codes "MAX") (operand_word ms x) left (operand_other ms x)),
  (as_operator call _ (straight_operand (codes "MIN") (operand_word ms y) left (operand_other ms y)), tt),
)
operator_limited ms call (x ∷ y ∷ z ∷ more) left = tt

operator_made : (choice : Choice) (above : List FlatUnit) (ms : List Member) (call : List ℕ) (xs : List OperandText) (left : ℕ) → AllByRecursion (IsOperator call) ((made choice above ms call xs left).lines)
operator_made choices.Limit above ms call xs left = operator_limited ms call xs left
operator_made choices.Sel above ms call xs left =
    let ty = type_of_choice above ms xs in
    (operator_jump call (codes "JMPC") (codes "I" ++ decimal 1) left, operator_cases ms call ty xs left)
operator_made choices.Mux above ms call xs left =
    let ty = type_of_choice above ms xs in (
      as_operator call _ (straight_operand (codes "ST") (chosen (codes "K") left) left refl),
      all_both (IsOperator call) (tests_from call left 0 xs) (jump (codes "JMP") (case_label call (length xs - 1)) left ∷ cases ms call ty xs left)
          (operator_tests call left 0 xs)
          (operator_jump call (codes "JMP") (codes "I" ++ decimal (length xs - 1)) left, operator_cases ms call ty xs left),
    )

pub operator_choice : (o : Option Choice) (s : ScopeText) (call : List ℕ) (xs : List OperandText) (left : ℕ) → AllByRecursion (IsOperator call) ((choice_by o s call xs left).lines)
operator_choice None s call xs left = tt
operator_choice (Some choice) s call xs left = operator_made choice s.above s.members call xs left

pub operators_under : (call : List ℕ) (ls : List Line) → AllByRecursion (IsOperator call) ls → AllByRecursion (HasUnder call) ls
operators_under call ls all = all_also (IsOperator call) (HasUnder call) (λ (l : Line) (is : IsOperator call l). is.label) ls all
