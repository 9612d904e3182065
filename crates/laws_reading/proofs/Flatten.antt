-- Each unit with all that it calls replaced has lawful lines and declarations.
use Rattle.std.proofs.Common.{◌≡◌, ℕ, suc, ◌-◌, Bool, true, false, List, [], ◌∷◌, ◌++◌, map, length, Option, Some, None, refl, sym, ap, ◌∙◌, subst, inl, inr, codes, filter, zip, decimal}
use Rattle.std.specs.Prelude.{◌⊎◌, ◌&&◌, ◌||◌, option_map, option_and_then, is_none, if◌then◌else◌}
use Rattle.std.specs.List.{AllByRecursion, flat_map, list_all}
use Rattle.std.specs.Str.{bytes_eq}
use Rattle.std.proofs.lemmas.Bool.{eqb-true}
use Rattle.il_values.specs.declared.value.Ty.{Ty}
use Rattle.il_values.specs.declared.value.Ty.TheVariants as types
use Rattle.il_values.specs.declared.op.Op.{Op}
use Rattle.il_values.specs.declared.op.Op.TheVariants as ops
use Rattle.il_values.specs.declared.op.Modifier.{Modifier}
use Rattle.il_values.specs.Spelled.{spells}
use Rattle.il_model.specs.declared.dialect.Dialect.TheVariants as dialects
use Rattle.il_model.specs.declared.words.Mnemonic.{Mnemonic}
use Rattle.il_model.specs.declared.program.Side.{Side}
use Rattle.il_model.specs.declared.program.Side.TheVariants as sides
use Rattle.il_model.specs.Words.{under, mnemonic_of, extended_mnemonic_of, look, is_well_spelled, plain, letter_c, letters_cn}
use Rattle.il_model.specs.Dialects.{operator_in}
use Rattle.il_reader.specs.declared.lexeme.Sign.{Sign}
use Rattle.il_reader.specs.declared.lexeme.Sign.TheVariants as signs
use Rattle.il_reader.specs.declared.lexeme.Class.TheVariants as classes
use Rattle.il_reader.specs.declared.contents.Operator.{Operator}
use Rattle.il_reader.specs.Tokens.{Token, is_letter_byte, is_word_byte, is_literal_byte, begins_with}
use Rattle.il_reader.specs.Front.{is_sign}
use Rattle.il_reader.specs.Grammar.{OperandText, Constant, Direct, Named, Field, ArgumentText, CallText, arguments_of, BehindText, Nothing, Given, Target, Opened, Called, OperationText, NamesText, Located, More, DeclarationText, is_constant, operator_of, operator_from, closing, form_of, says_retained}
use Rattle.il_reader.specs.Spelling.{accepts, accepting}
use Rattle.il_units.specs.declared.contents.SectionKind.{SectionKind}
use Rattle.il_units.specs.declared.contents.SectionKind.TheVariants as sections
use Rattle.il_units.specs.declared.word.Sort.{Sort}
use Rattle.il_units.specs.declared.word.Sort.TheVariants as sorts
use Rattle.il_units.specs.declared.word.Word.{Word}
use Rattle.il_units.specs.declared.word.Line.{Line}
use Rattle.il_units.specs.declared.word.Entry.{Entry}
use Rattle.il_units.specs.declared.members.Member.{Member}
use Rattle.il_units.specs.declared.choices.Choice.{Choice}
use Rattle.il_units.specs.declared.choices.Choice.TheVariants as choices
use Rattle.il_units.specs.Units.{SectionText, StepText, Operation, Function, LineText, UnitText}
use Rattle.il_units.specs.Words.{capitals, said, own, label, line_of, mark, Placing, moved_entry, placed_entry, placed_line}
use Rattle.il_units.specs.Members.{type_word, type_named, takes_numbers, is_bare, is_said, typed_number, settled, place_in, other_names, names_in, written, member_by, declared_members, section_members, result_members, members_of, member_named, has_name, constant_word, name_word_as, member_word, operand_word, place_words, initial_words, entry_of}
use Rattle.il_units.specs.Flats.{FlatUnit, unit_named, if_block, is_block, block_named, block_of, declared_by, declared_as, declared_in, bound_as, bound_in, Body, no_lines, only_lines, is_known, with_new, with_shared, joined, brought_by, brought, begun_from}
use Rattle.il_units.specs.Calls.{with_operand, ld, jump, argued, given_as, given_by, passed, input_as, input_by, input_of, output_as, output_by, output_of, back, behind, skipped, placed_body, instance_placing, made_call, called, is_input, shared_in, other_input, function_inputs, zero_of_type, first_literal, first_value_as, first_value, function_placing, applied}
use Rattle.il_units.specs.Choices.{type_of_choice, chosen, chosen_entry, case_label, case_of, cases_from, cases, selected, number_literal, test_of, tests_from, multiplexed, limited, made, choice_named}
use Rattle.il_units.specs.Expansion.{ScopeText, written_at, side_sign, next_argument_words, all_argument_words, optional_words, is_return, operation_words, call_name, plain_operation, called_or_plain, operated_as, choice_by, function_by, stepped, optional_step, lone_label, labelled_lines, with_label, line_body, body_from, body_of, flat_of, flats_from, entries_of}
use Rattle.laws_reading.specs.Words.{IsOneToken, IsOperatorSign}
use Rattle.laws_reading.proofs.Runs.{MayBe, IsRun, run_may, text_run, run_up, run_under, plain_run}
use Rattle.laws_reading.proofs.Facts.{IsKnown, name_literals, name_again, literal_again, address_again, ampersand_again, close_again, name_class, ampersand_class, close_class}
use Rattle.laws_reading.proofs.Typed.{NumberBytes, typed_may, number_may, typed_literals, index_may, number_start, colon_may, assign_may, arrow_may, semicolon_may, open_may, close_may, comma_may}
use Rattle.laws_reading.specs.Sorts.{Operates, IsJump, IsReturn, IsOther, AreTold}
use Rattle.laws_reading.proofs.Told.{OperatorOk, OtherOk, JumpOk, other_run, jump_is, token_operates, IsLabelName, label_under, return_label, call_label, numbered_label, up_twice}
use Rattle.laws_reading.proofs.Lawful.{SaidIs, OperandBy, OperandOk, NameBy, NameOk, LabelOk, SignOk, SideOk, ArgumentsOk, InsideOk, BehindOk, WordsOk, SomeWords, LineOk, ValueOk, TypedOk, LocatedOk, EntryOk, all_append, all_map, found_so, GivenOk, PlacingOk, one_behind, line_placed, entry_placed, entry_moved}
use Rattle.laws_reading.proofs.Sources.{OperandIs, ArgumentIs, CallIs, BehindIs, OperationIs, StepIs, LabelIs, MayStepIs, LineIs, NamesAre, InitialIs, DeclarationIs, SectionIs, UnitIs, IsName}

-- ---- lists

all_flat : {X Y : Type 0} (P : X → Type 0) (Q : Y → Type 0) (f : X → List Y) → ((x : X) → P x → AllByRecursion Q (f x)) → (xs : List X) → AllByRecursion P xs → AllByRecursion Q (flat_map f xs)
all_flat P Q f each [] all = tt
all_flat P Q f each (x ∷ xs) all = all_append Q (f x) (flat_map f xs) (each x all.0) (all_flat P Q f each xs all.1)

-- ---- words

said_of : (s : Sign) (text : List ℕ) (left : ℕ) → MayBe text s → SignOk s (said text left)
said_of s text left may = record { sort = refl; may = may }

abbrev Lines : List Line → Type 0
Lines ls = AllByRecursion LineOk ls

abbrev Entries : List Entry → Type 0
Entries es = AllByRecursion EntryOk es

load_is : OtherOk (codes "LD")
unfolding is_well_spelled mnemonic_of look spells
load_is = other_run (codes "LD") (plain_run 76 (68 ∷ []) refl refl refl) (record { op = ops.Ld; modifier = plain }) refl (λ e. absurd cc, λ e. absurd cc)

store_is : OtherOk (codes "ST")
unfolding is_well_spelled mnemonic_of look spells
store_is = other_run (codes "ST") (plain_run 83 (84 ∷ []) refl refl refl) (record { op = ops.St; modifier = plain }) refl (λ e. absurd cc, λ e. absurd cc)

max_is : OtherOk (codes "MAX")
unfolding is_well_spelled mnemonic_of extended_mnemonic_of look spells
max_is = other_run (codes "MAX") (plain_run 77 (65 ∷ 88 ∷ []) refl refl refl) (record { op = ops.Max; modifier = plain }) refl (λ e. absurd cc, λ e. absurd cc)

min_is : OtherOk (codes "MIN")
unfolding is_well_spelled mnemonic_of extended_mnemonic_of look spells
min_is = other_run (codes "MIN") (plain_run 77 (73 ∷ 78 ∷ []) refl refl refl) (record { op = ops.Min; modifier = plain }) refl (λ e. absurd cc, λ e. absurd cc)

equal_is : OtherOk (codes "EQ")
unfolding is_well_spelled mnemonic_of look spells
equal_is = other_run (codes "EQ") (plain_run 69 (81 ∷ []) refl refl refl) (record { op = ops.Eq; modifier = plain }) refl (λ e. absurd cc, λ e. absurd cc)

load_run : IsRun (codes "LD")
unfolding is_well_spelled
load_run = plain_run 76 (68 ∷ []) refl refl refl

number_run : IsRun (codes "K")
unfolding is_well_spelled
number_run = plain_run 75 [] refl refl refl

type_run : (ty : Ty) → IsRun (type_word ty)
unfolding is_well_spelled
type_run types.Bool = plain_run 66 (79 ∷ 79 ∷ 76 ∷ []) refl refl refl
type_run types.Int = plain_run 73 (78 ∷ 84 ∷ []) refl refl refl
type_run types.Dint = plain_run 68 (73 ∷ 78 ∷ 84 ∷ []) refl refl refl
type_run types.Time = plain_run 84 (73 ∷ 77 ∷ 69 ∷ []) refl refl refl
type_run types.Lint = plain_run 76 (73 ∷ 78 ∷ 84 ∷ []) refl refl refl
type_run types.Real = plain_run 82 (69 ∷ 65 ∷ 76 ∷ []) refl refl refl
type_run types.Word = plain_run 87 (79 ∷ 82 ∷ 68 ∷ []) refl refl refl
type_run types.Dword = plain_run 68 (87 ∷ 79 ∷ 82 ∷ 68 ∷ []) refl refl refl

false_is : SaidIs (codes "FALSE")
unfolding is_well_spelled
false_is = record { sign = signs.Name; good = tt; may = run_may (codes "FALSE") (plain_run 70 (65 ∷ 76 ∷ 83 ∷ 69 ∷ []) refl refl refl) }

at_is : MayBe (codes "AT") signs.Name
unfolding is_well_spelled
at_is = run_may (codes "AT") (plain_run 65 (84 ∷ []) refl refl refl)

-- ---- what operands come from

abbrev IsLiteralText : List ℕ → Type 0
IsLiteralText text = list_all is_literal_byte text ≡ true

abbrev SourceBy : Sort → List ℕ → Type 0
SourceBy sorts.Said text = SaidIs text × NumberBytes text
SourceBy sorts.Own text = IsRun text
SourceBy sorts.Shared text = IsRun text
SourceBy sorts.InOut text = IsRun text
SourceBy sort text = ⊥

abbrev SourceOk : Word → Type 0
SourceOk w = SourceBy w.sort w.text

operand_from : (s : Sort) (text : List ℕ) → SourceBy s text → OperandBy s text
operand_from sorts.Said text is = is.0
operand_from sorts.Own text is = is
operand_from sorts.Shared text is = is
operand_from sorts.InOut text is = is
operand_from sorts.Label text is = absurd is
operand_from (sorts.Return m) text is = absurd is

operand_ok : (w : Word) → SourceOk w → OperandOk w
operand_ok w is = operand_from w.sort w.text is

zero_typed : (b : ℕ) (ws xs : List ℕ) → is_letter_byte b ≡ true → list_all is_word_byte ws ≡ true → list_all is_literal_byte xs ≡ true → IsLiteralText (b ∷ ws ++ 35 ∷ xs) → SaidIs (b ∷ ws ++ 35 ∷ xs) × IsLiteralText (b ∷ ws ++ 35 ∷ xs)
zero_typed b ws xs letter word all bytes = (record { sign = signs.Literal; good = tt; may = typed_may b ws xs letter word all }, bytes)

zero_is : (o : Option Ty) → SaidIs (zero_of_type o) × IsLiteralText (zero_of_type o)
zero_is None = (false_is, refl)
zero_is (Some types.Bool) = (false_is, refl)
zero_is (Some types.Int) = zero_typed 73 (78 ∷ 84 ∷ []) (48 ∷ []) refl refl refl refl
zero_is (Some types.Dint) = zero_typed 68 (73 ∷ 78 ∷ 84 ∷ []) (48 ∷ []) refl refl refl refl
zero_is (Some types.Time) = zero_typed 84 [] (48 ∷ 115 ∷ []) refl refl refl refl
zero_is (Some types.Lint) = zero_typed 76 (73 ∷ 78 ∷ 84 ∷ []) (48 ∷ []) refl refl refl refl
zero_is (Some types.Real) = (record { sign = signs.Literal; good = tt; may = number_start (46 ∷ 48 ∷ []) refl }, refl)
zero_is (Some types.Word) = zero_typed 87 (79 ∷ 82 ∷ 68 ∷ []) (48 ∷ []) refl refl refl refl
zero_is (Some types.Dword) = zero_typed 68 (87 ∷ 79 ∷ 82 ∷ 68 ∷ []) (48 ∷ []) refl refl refl refl

-- ---- lines of an operator and one word

operand_line : (op : List ℕ) (x : Word) (left : ℕ) → OtherOk op → OperandOk x → LineOk (with_operand op x left)
operand_line op x left is ok = record { label = tt; words = (is.ok, inl ok); some = tt; told = one_behind x.sort x.text op ok is.told }

jump_line : (op name : List ℕ) (left : ℕ) → JumpOk op → IsLabelName name → LineOk (jump op name left)
jump_line op name left is run = record { label = tt; words = (is.ok, inr (inl (record { sort = refl; name = run }))); some = tt; told = (is.told, run.capital) }

mark_line : (name : List ℕ) (left : ℕ) → IsLabelName name → LineOk (mark name left)
mark_line name left run = record { label = record { sort = refl; name = run }; words = tt; some = tt; told = tt }

-- a bare number with its type
number_said : (ty : List ℕ) (text : List ℕ) (s : Sort) → is_said s ≡ true → takes_numbers (type_named ty) ≡ true → SourceBy s text → SaidIs (ty ++ (codes "#" ++ text))
number_said ty text sorts.Said e takes is = record { sign = signs.Literal; good = tt; may = number_may ty text takes is.1 }
number_said ty text sorts.Own e takes is = absurd cc
number_said ty text sorts.Shared e takes is = absurd cc
number_said ty text sorts.Label e takes is = absurd cc
number_said ty text sorts.InOut e takes is = absurd cc
number_said ty text (sorts.Return m) e takes is = absurd cc

settled_by : (ty : List ℕ) (w : Word) (b c d : Bool) → is_said w.sort ≡ b → takes_numbers (type_named ty) ≡ c → SourceOk w → OperandOk (if b && (c && d) then typed_number ty w else w)
settled_by ty w false c d said takes ok = operand_ok w ok
settled_by ty w true false d said takes ok = operand_ok w ok
settled_by ty w true true false said takes ok = operand_ok w ok
settled_by ty w true true true said takes ok = number_said ty w.text w.sort said takes ok

settled_ok : (ty : List ℕ) (w : Word) → SourceOk w → OperandOk (settled ty w)
settled_ok ty w ok = settled_by ty w (is_said w.sort) (takes_numbers (type_named ty)) (is_bare w.text) refl refl ok

-- a constant's literal
constant_by : (ty text : List ℕ) (left : ℕ) (c d : Bool) → takes_numbers (type_named ty) ≡ c → SaidIs text → IsLiteralText text → SourceOk (if true && (c && d) then typed_number ty (said text left) else said text left)
constant_by ty text left false d takes is all = (is, inl all)
constant_by ty text left true false takes is all = (is, inl all)
constant_by ty text left true true takes is all = (number_said ty text sorts.Said refl takes (is, inl all), inl (typed_literals ty text takes all))

constant_ok : (ty text : List ℕ) (left : ℕ) → SaidIs text → IsLiteralText text → SourceOk (settled ty (said text left))
constant_ok ty text left is all = constant_by ty text left (takes_numbers (type_named ty)) (is_bare text) refl is all

-- ---- members

abbrev MayPlace : Option Word → Type 0
MayPlace None = Unit {0}
MayPlace (Some w) = SignOk signs.Address w

abbrev MayStart : Option Word → Type 0
MayStart None = Unit {0}
MayStart (Some w) = ValueOk w × IsLiteralText w.text

record MemberOk (m : Member) : Type 0 where
  sort : m.name.sort ≡ sorts.Own
  name : IsRun m.name.text
  ty : SignOk signs.Name m.ty
  place : MayPlace m.place
  initial : MayStart m.initial

module _ (text : List ℕ) where
  abbrev K : Token → Type 0
  K t = IsKnown text t

  name_run : (t : Token) → IsName K t → IsRun (capitals t.text)
  name_run t is = run_up t.text (text_run t.text (is.1.name is.0))

  label_name : (t : Token) → IsName K t → IsLabelName (capitals t.text)
  label_name t is = record { run = name_run t is; capital = up_twice t.text }

  type_ok : (t : Token) → IsName K t → SignOk signs.Name (said (capitals t.text) t.left)
  type_ok t is = record { sort = refl; may = run_may (capitals t.text) (name_run t is) }

  -- TRUE and FALSE, or a literal
  constant_is : (t : Token) (b : Bool) → is_sign signs.Name t ≡ b → is_constant t ≡ true → K t → SaidIs t.text × IsLiteralText t.text
  unfolding is_constant
  constant_is t true name e known = (record { sign = signs.Name; good = tt; may = inl (name_again text t known name) }, name_literals t.text (known.name name))
  constant_is t false name e known =
      let literal : is_sign signs.Literal t ≡ true = rw name at e in
      (record { sign = signs.Literal; good = tt; may = inl (literal_again text t known literal) }, known.literal literal)

  place_ok : (x : NamesText) → NamesAre K x → MayPlace (option_map written (place_in x))
  place_ok (Located t) is = record { sort = refl; may = inl (address_again text t is.1 is.0) }
  place_ok (More ts) is = tt

  initial_ok : (o : Option Token) → InitialIs K o → MayStart (option_map written o)
  initial_ok None is = tt
  initial_ok (Some t) is = let c = constant_is t (is_sign signs.Name t) refl is.0 is.1 in (record { sort = refl; is = c.0 }, c.1)

  member_ok : (kind : SectionKind) (retained : Bool) (d : DeclarationText) (t : Token) → DeclarationIs K d → IsName K t → MemberOk (member_by kind retained d t)
  member_ok kind retained d t is name = record { sort = refl; name = name_run t name; ty = type_ok d.ty is.ty; place = place_ok d.names is.names; initial = initial_ok d.initial is.initial }

  other_are : (x : NamesText) → NamesAre K x → AllByRecursion (IsName K) (other_names x)
  other_are (Located t) is = tt
  other_are (More ts) is = is

  declared_ok : (kind : SectionKind) (retained : Bool) (d : DeclarationText) → DeclarationIs K d → AllByRecursion MemberOk (declared_members kind retained d)
  declared_ok kind retained d is = all_map (IsName K) MemberOk (member_by kind retained d) (λ (t : Token) (name : IsName K t). member_ok kind retained d t is name) (names_in d) (is.name, other_are d.names is.names)

  section_ok : (s : SectionText) → SectionIs K s → AllByRecursion MemberOk (section_members s)
  section_ok s is = all_flat (DeclarationIs K) MemberOk (declared_members s.kind (says_retained s.qualifier)) (declared_ok s.kind (says_retained s.qualifier)) s.declarations is.declarations

  result_ok : (name : Token) (o : Option Token) → IsName K name → LabelIs K o → AllByRecursion MemberOk (result_members name o)
  result_ok name None is ty = tt
  result_ok name (Some t) is ty = (record { sort = refl; name = name_run name is; ty = type_ok t ty; place = tt; initial = tt }, tt)

  members_ok : (u : UnitText) → UnitIs K u → AllByRecursion MemberOk (members_of u)
  members_ok u is = all_append MemberOk (result_members u.name u.result) (flat_map section_members u.sections) (result_ok u.name u.result is.name is.result) (all_flat (SectionIs K) MemberOk section_members section_ok u.sections is.sections)

  -- ---- operands

  abbrev Members : List Member → Type 0
  Members ms = AllByRecursion MemberOk ms

  constant_word_ok : (ty : List ℕ) (o : Option Word) (name : List ℕ) (left : ℕ) → MayStart o → IsRun name → SourceOk (constant_word ty o name left)
  constant_word_ok ty None name left is run = run
  constant_word_ok ty (Some w) name left is run = constant_ok ty w.text left is.0.is is.1

  word_as : (kind : SectionKind) (m : Member) (name : List ℕ) (left : ℕ) → MemberOk m → IsRun name → SourceOk (name_word_as kind m name left)
  word_as sections.Constant m name left is run = constant_word_ok m.ty.text m.initial name left is.initial run
  word_as sections.InOut m name left is run = run
  word_as sections.Local m name left is run = run
  word_as sections.Input m name left is run = run
  word_as sections.Output m name left is run = run

  member_word_ok : (ms : List Member) (name : List ℕ) (left : ℕ) (o : Option Member) → Members ms → member_named ms name ≡ o → IsRun name → SourceOk (member_word o name left)
  member_word_ok ms name left None all e run = run
  member_word_ok ms name left (Some m) all e run = word_as m.kind m name left (found_so MemberOk (has_name name) ms m all e) run

  first_percent : (w : List ℕ) → begins_with 37 w ≡ true → NumberBytes w
  first_percent [] e = absurd cc
  first_percent (b ∷ bs) e = inr (bs, ap (λ (c : ℕ). c ∷ bs) (eqb-true b 37 e))

  source_ok : (ms : List Member) (x : OperandText) → Members ms → OperandIs K x → SourceOk (operand_word ms x)
  source_ok ms (Constant t) all is = let c = constant_is t (is_sign signs.Name t) refl is.0 is.1 in (c.0, inl c.1)
  source_ok ms (Direct t) all is = (record { sign = signs.Address; good = tt; may = inl (address_again text t is.1 is.0) }, first_percent t.text (is.1.address is.0))
  source_ok ms (Named t) all is = member_word_ok ms (capitals t.text) t.left (member_named ms (capitals t.text)) all refl (name_run t is)
  source_ok ms (Field t f) all is = run_under (capitals t.text) (capitals f.text) (name_run t is.0) (name_run f is.1)

  word_ok : (ms : List Member) (x : OperandText) → Members ms → OperandIs K x → OperandOk (operand_word ms x)
  word_ok ms x all is = operand_ok (operand_word ms x) (source_ok ms x all is)

  passed_lines : (ty : List ℕ) (x v : Word) (left : ℕ) → SourceOk x → OperandOk v → Lines (passed ty x v left)
  passed_lines ty x v left ok to = (operand_line (codes "LD") (settled ty x) left load_is (settled_ok ty x ok), (operand_line (codes "ST") v left store_is to, tt))

  -- ---- declarations

  entry_words_ok : (m : Member) (place initial : Option Word) → SignOk signs.Name m.ty → MayPlace place → MayStart initial
      → TypedOk (place_words place ++ (said (codes ":") m.ty.left ∷ m.ty ∷ (initial_words initial ++ said (codes ";") m.ty.left ∷ []))) ⊎ LocatedOk (place_words place ++ (said (codes ":") m.ty.left ∷ m.ty ∷ (initial_words initial ++ said (codes ";") m.ty.left ∷ [])))
  entry_words_ok m None None ty place initial = inl (said_of signs.Colon (codes ":") m.ty.left colon_may, ty, said_of signs.Semicolon (codes ";") m.ty.left semicolon_may)
  entry_words_ok m None (Some w) ty place initial =
      inl (said_of signs.Colon (codes ":") m.ty.left colon_may, ty, said_of signs.Assign (codes ":=") w.left assign_may, initial.0, said_of signs.Semicolon (codes ";") m.ty.left semicolon_may)
  entry_words_ok m (Some p) None ty place initial =
      inr (said_of signs.Name (codes "AT") p.left at_is, refl, place, (said_of signs.Colon (codes ":") m.ty.left colon_may, ty, said_of signs.Semicolon (codes ";") m.ty.left semicolon_may))
  entry_words_ok m (Some p) (Some w) ty place initial =
      inr (said_of signs.Name (codes "AT") p.left at_is, refl, place, (said_of signs.Colon (codes ":") m.ty.left colon_may, ty, said_of signs.Assign (codes ":=") w.left assign_may, initial.0, said_of signs.Semicolon (codes ";") m.ty.left semicolon_may))

  own_name : (w : Word) → w.sort ≡ sorts.Own → IsRun w.text → NameOk w
  own_name w e run = subst (λ (s : Sort). NameBy s w.text) (sym e) run

  entry_ok : (m : Member) → MemberOk m → EntryOk (entry_of m)
  entry_ok m is = record { name = own_name m.name is.sort is.name; words = entry_words_ok m m.place m.initial is.ty is.place is.initial }

  record FlatOk (f : FlatUnit) : Type 0 where
    name : IsRun f.name
    members : Members f.members
    shared : Entries f.shared
    bound : Entries f.bound
    declared : Entries f.declared
    lines : Lines f.lines

  abbrev Flats : List FlatUnit → Type 0
  Flats fs = AllByRecursion FlatOk fs

  block_by : (o : Option FlatUnit) (f : FlatUnit) → ((g : FlatUnit) → o ≡ Some g → FlatOk g) → option_and_then if_block o ≡ Some f → FlatOk f
  block_by None f each e = absurd cc
  block_by (Some g) f each e = by_kind (is_block g.kind) e
    where
      by_kind : (b : Bool) → (if b then Some g else None) ≡ Some f → FlatOk f
      by_kind true h = let same : g ≡ f = cc in subst FlatOk same (each g refl)
      by_kind false h = absurd cc

  block_found : (above : List FlatUnit) (name : List ℕ) (f : FlatUnit) → Flats above → block_named above name ≡ Some f → FlatOk f
  block_found above name f all e = block_by (unit_named above name) f (λ (g : FlatUnit) (h : unit_named above name ≡ Some g). found_so FlatOk (λ (u : FlatUnit). bytes_eq u.name name) above g all h) e

  block_of_by : (above : List FlatUnit) (o : Option Member) (f : FlatUnit) → Flats above → option_and_then (λ (m : Member). block_named above m.ty.text) o ≡ Some f → FlatOk f
  block_of_by above None f all e = absurd cc
  block_of_by above (Some m) f all e = block_found above m.ty.text f all e

  placed_entries : (at : Placing) (retained : Bool) (es : List Entry) → PlacingOk at → Entries es → Entries (map (placed_entry at retained) es)
  placed_entries at retained es ok all = all_map EntryOk EntryOk (placed_entry at retained) (entry_placed at retained ok.front ok.sort) es all

  moved_entries : (left : ℕ) (es : List Entry) → Entries es → Entries (map (moved_entry left) es)
  moved_entries left es all = all_map EntryOk EntryOk (moved_entry left) (entry_moved left) es all

  -- no labels are placed where declarations are: their front is empty, and no line is
  declared_by_ok : (m : Member) (o : Option FlatUnit) → MemberOk m → ((f : FlatUnit) → o ≡ Some f → FlatOk f) → Entries (declared_by o m)
  declared_by_ok m None is each = (entry_ok m is, tt)
  declared_by_ok m (Some f) is each = all_map EntryOk EntryOk (placed_entry (record { front = m.name.text; sort = sorts.Own; call = []; given = []; left = m.name.left }) m.retained)
      (entry_placed (record { front = m.name.text; sort = sorts.Own; call = []; given = []; left = m.name.left }) m.retained is.name tt) f.declared (each f refl).declared

  declared_as_ok : (kind : SectionKind) (above : List FlatUnit) (m : Member) → Flats above → MemberOk m → Entries (declared_as kind above m)
  declared_as_ok sections.Constant above m all is = tt
  declared_as_ok sections.InOut above m all is = tt
  declared_as_ok sections.Local above m all is = declared_by_ok m (block_named above m.ty.text) is (λ (f : FlatUnit) (e : block_named above m.ty.text ≡ Some f). block_found above m.ty.text f all e)
  declared_as_ok sections.Input above m all is = declared_by_ok m (block_named above m.ty.text) is (λ (f : FlatUnit) (e : block_named above m.ty.text ≡ Some f). block_found above m.ty.text f all e)
  declared_as_ok sections.Output above m all is = declared_by_ok m (block_named above m.ty.text) is (λ (f : FlatUnit) (e : block_named above m.ty.text ≡ Some f). block_found above m.ty.text f all e)

  bound_ok : (kind : SectionKind) (m : Member) → MemberOk m → Entries (bound_as kind m)
  bound_ok sections.InOut m is = (entry_ok m is, tt)
  bound_ok sections.Local m is = tt
  bound_ok sections.Constant m is = tt
  bound_ok sections.Input m is = tt
  bound_ok sections.Output m is = tt

  -- ---- bodies

  record BodyOk (b : Body) : Type 0 where
    shared : Entries b.shared
    lines : Lines b.lines

  new_ok : (known : List Entry) (e : Entry) (b : Bool) → Entries known → EntryOk e → Entries (if b then known else known ++ e ∷ [])
  new_ok known e true all is = all
  new_ok known e false all is = all_append EntryOk known (e ∷ []) all (is, tt)

  shared_ok : (known es : List Entry) → Entries known → Entries es → Entries (with_shared known es)
  unfolding with_shared
  shared_ok known [] all more = all
  shared_ok known (e ∷ es) all more = shared_ok (with_new known e) es (new_ok known e (is_known known e) all more.0) more.1

  joined_ok : (b more : Body) → BodyOk b → BodyOk more → BodyOk (joined b more)
  joined_ok b more x y = record { shared = shared_ok b.shared more.shared x.shared y.shared; lines = all_append LineOk b.lines more.lines x.lines y.lines }

  no_lines_ok : BodyOk no_lines
  no_lines_ok = record { shared = tt; lines = tt }

  brought_ok : (o : Option FlatUnit) (left : ℕ) → ((f : FlatUnit) → o ≡ Some f → FlatOk f) → BodyOk (brought_by o left)
  brought_ok None left each = no_lines_ok
  brought_ok (Some f) left each = record { shared = moved_entries left f.shared (each f refl).shared; lines = tt }

  begun_ok : (above : List FlatUnit) (b : Body) (ms : List Member) → Flats above → BodyOk b → BodyOk (begun_from above b ms)
  unfolding begun_from
  begun_ok above b [] all ok = ok
  begun_ok above b (m ∷ ms) all ok =
      begun_ok above (joined b (brought above m)) ms all (joined_ok b (brought above m) ok (brought_ok (block_named above m.ty.text) m.name.left (λ (f : FlatUnit) (e : block_named above m.ty.text ≡ Some f). block_found above m.ty.text f all e)))

  -- ---- a call of an own block

  inputs_by : (kind : SectionKind) (front : List ℕ) (m : Member) (x : Word) (left : ℕ) → IsRun front → MemberOk m → SourceOk x → Lines (input_as kind front m x left)
  inputs_by sections.Input front m x left run is ok = passed_lines m.ty.text x (own (under front m.name.text) left) left ok (run_under front m.name.text run is.name)
  inputs_by sections.Local front m x left run is ok = tt
  inputs_by sections.Constant front m x left run is ok = tt
  inputs_by sections.Output front m x left run is ok = tt
  inputs_by sections.InOut front m x left run is ok = tt

  outputs_by : (kind : SectionKind) (front : List ℕ) (m : Member) (x : Word) (left : ℕ) → IsRun front → MemberOk m → OperandOk x → Lines (output_as kind front m x left)
  outputs_by sections.Output front m x left run is ok =
      (operand_line (codes "LD") (own (under front m.name.text) left) left load_is (run_under front m.name.text run is.name), (operand_line (codes "ST") x left store_is ok, tt))
  outputs_by sections.Local front m x left run is ok = tt
  outputs_by sections.Constant front m x left run is ok = tt
  outputs_by sections.Input front m x left run is ok = tt
  outputs_by sections.InOut front m x left run is ok = tt

  given_kind : (kind : SectionKind) (m : Member) (x : Word) → OperandOk x → AllByRecursion GivenOk (given_as kind m x)
  given_kind sections.InOut m x ok = (ok, tt)
  given_kind sections.Local m x ok = tt
  given_kind sections.Constant m x ok = tt
  given_kind sections.Input m x ok = tt
  given_kind sections.Output m x ok = tt

  module _ (ms : List Member) (all : Members ms) (f : FlatUnit) (fo : FlatOk f) where
    input_ok : (front : List ℕ) (o : Option Member) (name : List ℕ) (x : Word) (left : ℕ) → IsRun front → member_named f.members name ≡ o → SourceOk x → Lines (input_by front o x left)
    input_ok front None name x left run e ok = tt
    input_ok front (Some m) name x left run e ok = inputs_by m.kind front m x left run (found_so MemberOk (has_name name) f.members m fo.members e) ok

    output_ok : (front : List ℕ) (o : Option Member) (name : List ℕ) (x : Word) (left : ℕ) → IsRun front → member_named f.members name ≡ o → OperandOk x → Lines (output_by front o x left)
    output_ok front None name x left run e ok = tt
    output_ok front (Some m) name x left run e ok = outputs_by m.kind front m x left run (found_so MemberOk (has_name name) f.members m fo.members e) ok

    given_ok : (o : Option Member) (x : Word) → OperandOk x → AllByRecursion GivenOk (given_by o x)
    given_ok None x ok = tt
    given_ok (Some m) x ok = given_kind m.kind m x ok

    instance_ok : (call : List ℕ) (c : CallText) (left : ℕ) → IsLabelName call → CallIs K c → PlacingOk (instance_placing ms f call c left)
    instance_ok call c left run is = record {
      front = name_run c.instance is.instance;
      sort = tt;
      call = run;
      given = all_flat (ArgumentIs K) GivenOk (λ (a : ArgumentText). given_by (argued f a) (operand_word ms a.operand))
          (λ (a : ArgumentText) (x : ArgumentIs K a). given_ok (argued f a) (operand_word ms a.operand) (word_ok ms a.operand all x.operand)) (arguments_of c) is.arguments;
    }

    inputs_ok : (front : List ℕ) (args : List ArgumentText) → IsRun front → AllByRecursion (ArgumentIs K) args → Lines (flat_map (input_of ms f front) args)
    inputs_ok front args run given = all_flat (ArgumentIs K) LineOk (input_of ms f front)
        (λ (a : ArgumentText) (x : ArgumentIs K a). input_ok front (argued f a) (capitals a.field.text) (operand_word ms a.operand) a.field.left run refl (source_ok ms a.operand all x.operand)) args given

    outputs_ok : (front : List ℕ) (args : List ArgumentText) → IsRun front → AllByRecursion (ArgumentIs K) args → Lines (flat_map (output_of ms f front) args)
    outputs_ok front args run given = all_flat (ArgumentIs K) LineOk (output_of ms f front)
        (λ (a : ArgumentText) (x : ArgumentIs K a). output_ok front (argued f a) (capitals a.field.text) (operand_word ms a.operand) a.field.left run refl (word_ok ms a.operand all x.operand)) args given

    placed_ok : (at : Placing) → PlacingOk at → Lines (placed_body at f)
    placed_ok at ok = all_map LineOk LineOk (placed_line at) (line_placed at ok) f.lines fo.lines

    skip_ok : (call : List ℕ) (m : Modifier) (left : ℕ) (b n : Bool) → IsLabelName call → Lines (if b then jump (if n then codes "JMPC" else codes "JMPCN") (behind call) left ∷ [] else [])
    skip_ok call m left false n run = tt
    skip_ok call m left true true run = (jump_line (codes "JMPC") (behind call) left (jump_is letter_c) (label_under call (codes "CAL") run call_label), tt)
    skip_ok call m left true false run = (jump_line (codes "JMPCN") (behind call) left (jump_is letters_cn) (label_under call (codes "CAL") run call_label), tt)

    called_ok : (call : List ℕ) (m : Modifier) (c : CallText) (left : ℕ) → IsLabelName call → CallIs K c → BodyOk (called ms f call m c left)
    called_ok call m c left run is =
        let front = name_run c.instance is.instance in
        let ins = inputs_ok (capitals c.instance.text) (arguments_of c) front is.arguments in
        let outs = outputs_ok (capitals c.instance.text) (arguments_of c) front is.arguments in
        let body = placed_ok (instance_placing ms f call c left) (instance_ok call c left run is) in
        let tail : Lines (mark (back call) left ∷ flat_map (output_of ms f (capitals c.instance.text)) (arguments_of c)) = (mark_line (back call) left (label_under call (codes "RET") run return_label), outs) in
        let made = all_append LineOk (flat_map (input_of ms f (capitals c.instance.text)) (arguments_of c)) (placed_body (instance_placing ms f call c left) f ++ (mark (back call) left ∷ flat_map (output_of ms f (capitals c.instance.text)) (arguments_of c))) ins
        (all_append LineOk (placed_body (instance_placing ms f call c left) f) (mark (back call) left ∷ flat_map (output_of ms f (capitals c.instance.text)) (arguments_of c)) body tail) in
        record {
          shared = tt;
          lines = all_append LineOk (skipped call m left) (made_call ms f call c left ++ mark (behind call) left ∷ []) (skip_ok call m left m.conditional m.negated run)
              (all_append LineOk (made_call ms f call c left) (mark (behind call) left ∷ []) made (mark_line (behind call) left (label_under call (codes "CAL") run call_label), tt));
        }

    -- ---- an own function

    function_place : (call : List ℕ) (left : ℕ) → IsLabelName call → PlacingOk (function_placing f call left)
    function_place call left run = record { front = fo.name; sort = tt; call = run; given = tt }

    shared_run : (name : List ℕ) → IsRun name → IsRun (under f.name name)
    shared_run name run = run_under f.name name fo.name run

    other_ok : (left : ℕ) (ns : List Member) (xs : List OperandText) → Members ns → AllByRecursion (OperandIs K) xs → Lines (flat_map (other_input ms f left) (zip ns xs))
    other_ok left [] xs a b = tt
    other_ok left (n ∷ ns) [] a b = tt
    other_ok left (n ∷ ns) (x ∷ xs) a b =
        all_append LineOk (other_input ms f left (n, x)) (flat_map (other_input ms f left) (zip ns xs))
        (passed_lines n.ty.text (operand_word ms x) (shared_in f n.name.text left) left (source_ok ms x all b.0) (shared_run n.name.text a.0.name)) (other_ok left ns xs a.1 b.1)

    function_inputs_ok : (left : ℕ) (ns : List Member) (xs : List OperandText) → Members ns → AllByRecursion (OperandIs K) xs → Lines (function_inputs ms f left ns xs)
    function_inputs_ok left [] xs a b = tt
    function_inputs_ok left (n ∷ ns) xs a b = (operand_line (codes "ST") (shared_in f n.name.text left) left store_is (shared_run n.name.text a.0.name), other_ok left ns xs a.1 b)

    filtered : (ns : List Member) → Members ns → Members (filter is_input ns)
    filtered [] a = tt
    filtered (n ∷ ns) a = by_test (is_input n) (filtered ns a.1)
      where
        by_test : (b : Bool) → Members (filter is_input ns) → Members (if b then n ∷ filter is_input ns else filter is_input ns)
        by_test true h = (a.0, h)
        by_test false h = h

    literal_ok : (ty : List ℕ) (o : Option Word) (left : ℕ) → MayStart o → SourceOk (said (first_literal ty o) left)
    literal_ok ty None left is = let z = zero_is (type_named ty) in (z.0, inl z.1)
    literal_ok ty (Some w) left is = (is.0.is, inl is.1)

    first_ok : (kind : SectionKind) (left : ℕ) (m : Member) → MemberOk m → Lines (first_value_as kind f left m)
    first_ok sections.Local left m is = passed_lines m.ty.text (said (first_literal m.ty.text m.initial) left) (shared_in f m.name.text left) left (literal_ok m.ty.text m.initial left is.initial) (shared_run m.name.text is.name)
    first_ok sections.Constant left m is = tt
    first_ok sections.Input left m is = tt
    first_ok sections.Output left m is = tt
    first_ok sections.InOut left m is = tt

    applied_ok : (call : List ℕ) (xs : List OperandText) (left : ℕ) → IsLabelName call → AllByRecursion (OperandIs K) xs → BodyOk (applied ms f call xs left)
    applied_ok call xs left run given = record {
      shared = all_append EntryOk (map (moved_entry left) f.shared) (map (placed_entry (function_placing f call left) false) f.declared) (moved_entries left f.shared fo.shared)
          (placed_entries (function_placing f call left) false f.declared (function_place call left run) fo.declared);
      lines = all_append LineOk (function_inputs ms f left (filter is_input f.members) xs) (flat_map (first_value f left) f.members ++ (placed_body (function_placing f call left) f ++ mark (back call) left ∷ ld (shared_in f f.name left) left ∷ []))
          (function_inputs_ok left (filter is_input f.members) xs (filtered f.members fo.members) given)
          (all_append LineOk (flat_map (first_value f left) f.members) (placed_body (function_placing f call left) f ++ mark (back call) left ∷ ld (shared_in f f.name left) left ∷ [])
          (all_flat MemberOk LineOk (first_value f left) (λ (m : Member) (is : MemberOk m). first_ok m.kind left m is) f.members fo.members)
          (all_append LineOk (placed_body (function_placing f call left) f) (mark (back call) left ∷ ld (shared_in f f.name left) left ∷ [])
          (placed_ok (function_placing f call left) (function_place call left run))
          (mark_line (back call) left (label_under call (codes "RET") run return_label), (operand_line (codes "LD") (shared_in f f.name left) left load_is (shared_run f.name fo.name), tt))));
    }

  -- ---- choices

  chosen_ok : (part : List ℕ) (left : ℕ) → IsRun part → IsRun (chosen part left).text
  chosen_ok part left run = run_under (codes "LD") part load_run run

  chosen_entry_ok : (part : List ℕ) (ty : Ty) (left : ℕ) → IsRun part → EntryOk (chosen_entry part ty left)
  chosen_entry_ok part ty left run = record {
    name = chosen_ok part left run;
    words = inl (said_of signs.Colon (codes ":") left colon_may, said_of signs.Name (type_word ty) left (run_may (type_word ty) (type_run ty)), said_of signs.Semicolon (codes ";") left semicolon_may);
  }

  case_run : (call : List ℕ) (n : ℕ) → IsLabelName call → IsLabelName (case_label call n)
  case_run call n run = label_under call (codes "I" ++ decimal n) run (numbered_label 73 n refl refl refl)

  module _ (ms : List Member) (all : Members ms) where
    case_ok : (call : List ℕ) (ty : Ty) (left n : ℕ) (x : OperandText) → IsLabelName call → OperandIs K x → Lines (case_of ms call ty left n x)
    case_ok call ty left n x run is = (
      mark_line (case_label call n) left (case_run call n run),
      all_append LineOk (passed (type_word ty) (operand_word ms x) (chosen (type_word ty) left) left) (jump (codes "JMP") (back call) left ∷ [])
          (passed_lines (type_word ty) (operand_word ms x) (chosen (type_word ty) left) left (source_ok ms x all is) (chosen_ok (type_word ty) left (type_run ty)))
          (jump_line (codes "JMP") (back call) left (jump_is plain) (label_under call (codes "RET") run return_label), tt),
    )

    cases_ok : (call : List ℕ) (ty : Ty) (left n : ℕ) (xs : List OperandText) → IsLabelName call → AllByRecursion (OperandIs K) xs → Lines (cases_from ms call ty left n xs)
    unfolding cases_from
    cases_ok call ty left n [] run given = tt
    cases_ok call ty left n (x ∷ xs) run given = all_append LineOk (case_of ms call ty left n x) (cases_from ms call ty left (suc n) xs) (case_ok call ty left n x run given.0) (cases_ok call ty left (suc n) xs run given.1)

    all_cases_ok : (call : List ℕ) (ty : Ty) (xs : List OperandText) (left : ℕ) → IsLabelName call → AllByRecursion (OperandIs K) xs → Lines (cases ms call ty xs left)
    all_cases_ok call ty xs left run given = all_append LineOk (cases_from ms call ty left 0 xs) (mark (back call) left ∷ ld (chosen (type_word ty) left) left ∷ []) (cases_ok call ty left 0 xs run given)
        (mark_line (back call) left (label_under call (codes "RET") run return_label), (operand_line (codes "LD") (chosen (type_word ty) left) left load_is (chosen_ok (type_word ty) left (type_run ty)), tt))

    index_is : (n : ℕ) → SaidIs (number_literal n)
    index_is n = record { sign = signs.Literal; good = tt; may = index_may n }

    test_ok : (call : List ℕ) (left n : ℕ) → IsLabelName call → Lines (test_of call left n)
    test_ok call left n run = (
      operand_line (codes "LD") (chosen (codes "K") left) left load_is (chosen_ok (codes "K") left number_run),
      (
        operand_line (codes "EQ") (said (number_literal n) left) left equal_is (index_is n),
        (jump_line (codes "JMPC") (case_label call n) left (jump_is letter_c) (case_run call n run), tt),
      ),
    )

    tests_ok : (call : List ℕ) (left n : ℕ) (xs : List OperandText) → IsLabelName call → Lines (tests_from call left n xs)
    unfolding tests_from
    tests_ok call left n [] run = tt
    tests_ok call left n (x ∷ xs) run = all_append LineOk (test_of call left n) (tests_from call left (suc n) xs) (test_ok call left n run) (tests_ok call left (suc n) xs run)

    limited_ok : (xs : List OperandText) (left : ℕ) → AllByRecursion (OperandIs K) xs → BodyOk (limited ms xs left)
    limited_ok [] left given = no_lines_ok
    limited_ok (x ∷ []) left given = no_lines_ok
    limited_ok (x ∷ y ∷ []) left given = record {
      shared = tt;
      lines = (operand_line (codes "MAX") (operand_word ms x) left max_is (word_ok ms x all given.0), (operand_line (codes "MIN") (operand_word ms y) left min_is (word_ok ms y all given.1.0), tt));
    }
    limited_ok (x ∷ y ∷ z ∷ xs) left given = no_lines_ok

    selected_ok : (above : List FlatUnit) (call : List ℕ) (xs : List OperandText) (left : ℕ) → IsLabelName call → AllByRecursion (OperandIs K) xs → BodyOk (selected above ms call xs left)
    selected_ok above call xs left run given =
        let ty = type_of_choice above ms xs in
        record {
          shared = (chosen_entry_ok (type_word ty) ty left (type_run ty), tt);
          lines = (jump_line (codes "JMPC") (case_label call 1) left (jump_is letter_c) (case_run call 1 run), all_cases_ok call ty xs left run given);
        }

    multiplexed_ok : (above : List FlatUnit) (call : List ℕ) (xs : List OperandText) (left : ℕ) → IsLabelName call → AllByRecursion (OperandIs K) xs → BodyOk (multiplexed above ms call xs left)
    multiplexed_ok above call xs left run given =
        let ty = type_of_choice above ms xs in
        record {
          shared = (chosen_entry_ok (codes "K") types.Int left number_run, (chosen_entry_ok (type_word ty) ty left (type_run ty), tt));
          lines = (
            operand_line (codes "ST") (chosen (codes "K") left) left store_is (chosen_ok (codes "K") left number_run),
            all_append LineOk (tests_from call left 0 xs) (jump (codes "JMP") (case_label call (length xs - 1)) left ∷ cases ms call ty xs left) (tests_ok call left 0 xs run)
                (jump_line (codes "JMP") (case_label call (length xs - 1)) left (jump_is plain) (case_run call (length xs - 1) run), all_cases_ok call ty xs left run given),
          );
        }

    made_ok : (choice : Choice) (above : List FlatUnit) (call : List ℕ) (xs : List OperandText) (left : ℕ) → IsLabelName call → AllByRecursion (OperandIs K) xs → BodyOk (made choice above ms call xs left)
    made_ok choices.Limit above call xs left run given = limited_ok xs left given
    made_ok choices.Sel above call xs left run given = selected_ok above call xs left run given
    made_ok choices.Mux above call xs left run given = multiplexed_ok above call xs left run given

    -- ---- operations

    side_ok : (side : Side) (left : ℕ) → SideOk (said (side_sign side) left)
    side_ok sides.Input left = inl (said_of signs.Assign (codes ":=") left assign_may)
    side_ok sides.Output left = inr (said_of signs.Arrow (codes "=>") left arrow_may)

    -- the arguments behind the first, and the right parenthesis
    more_ok : (args : List ArgumentText) (left : ℕ) → AllByRecursion (ArgumentIs K) args → (f d x : Word) → SignOk signs.Name f → SideOk d → OperandOk x
        → ArgumentsOk (f ∷ d ∷ x ∷ (flat_map (next_argument_words ms) args ++ said (codes ")") left ∷ []))
    more_ok [] left given f d x a b c = (a, b, c, said_of signs.Close (codes ")") left close_may, tt)
    more_ok (y ∷ args) left given f d x a b c = (
      a,
      b,
      c,
      said_of signs.Comma (codes ",") y.field.left comma_may,
      more_ok args left given.1 (said (capitals y.field.text) y.field.left) (said (side_sign y.side) y.field.left) (operand_word ms y.operand) (type_ok y.field given.0.field) (side_ok y.side y.field.left) (word_ok ms y.operand all given.0.operand),
    )

    inside_ok : (args : List ArgumentText) (left : ℕ) → AllByRecursion (ArgumentIs K) args → InsideOk (all_argument_words ms args ++ said (codes ")") left ∷ [])
    inside_ok [] left given = said_of signs.Close (codes ")") left close_may
    inside_ok (y ∷ args) left given =
        more_ok args left given.1 (said (capitals y.field.text) y.field.left) (said (side_sign y.side) y.field.left) (operand_word ms y.operand) (type_ok y.field given.0.field) (side_ok y.side y.field.left) (word_ok ms y.operand all given.0.operand)

    -- something stands between the parentheses
    behind_call : (x o : Word) (ws : List Word) → NameOk x → SignOk signs.Open o → InsideOk ws → BehindOk (x ∷ o ∷ ws)
    behind_call x o [] name sign inside = absurd inside
    behind_call x o (i ∷ ws) name sign inside = (name, sign, inside)

    return_sort : (m : Mnemonic) (op : List ℕ) (left : ℕ) (b : Bool) → is_return m.op ≡ b → OperatorOk op → WordsOk ((if b then record { sort = sorts.Return m.modifier; text = op; left = left } else said op left) ∷ [])
    return_sort m op left true e is = (is, refl)
    return_sort m op left false e is = (is, tt)

    opened_ok : (o : Option OperandText) (op : List ℕ) (left : ℕ) → OperatorOk op → BehindIs K (Opened o) → WordsOk (said op left ∷ said (codes "(") left ∷ optional_words ms o)
    opened_ok None op left is behind = (is, inr (inr (said_of signs.Open (codes "(") left open_may)))
    opened_ok (Some x) op left is behind = (is, (said_of signs.Open (codes "(") left open_may, word_ok ms x all behind))

    operation_words_ok : (m : Mnemonic) (op : List ℕ) (b : BehindText) (left : ℕ) → OperatorOk op → BehindIs K b → WordsOk (operation_words ms m op b left)
    operation_words_ok m op Nothing left is behind = return_sort m op left (is_return m.op) refl is
    operation_words_ok m op (Given x) left is behind = (is, inl (word_ok ms x all behind))
    operation_words_ok m op (Target t) left is behind = (is, inr (inl (record { sort = refl; name = label_name t behind })))
    operation_words_ok m op (Opened o) left is behind = opened_ok o op left is behind
    operation_words_ok m op (Called c) left is behind =
        (is, behind_call (own (capitals c.instance.text) c.instance.left) (said (codes "(") left) (all_argument_words ms (arguments_of c) ++ said (codes ")") left ∷ []) (name_run c.instance behind.instance) (said_of signs.Open (codes "(") left open_may) (inside_ok (arguments_of c) left behind.arguments))

    some_words : (m : Mnemonic) (op : List ℕ) (b : BehindText) (left : ℕ) → SomeWords None (operation_words ms m op b left)
    some_words m op Nothing left = tt
    some_words m op (Given x) left = tt
    some_words m op (Target t) left = tt
    some_words m op (Opened o) left = tt
    some_words m op (Called c) left = tt

  -- ---- an operator, where it stands

  accepted : (b : BehindText) (o : Option Operator) (x : Operator) → accepting b o ≡ Some x → (o ≡ Some x) × (accepts (form_of x.mnemonic.op) b ≡ true)
  accepted b None x e = absurd cc
  accepted b (Some o) x e = by_test (accepts (form_of o.mnemonic.op) b) refl e
    where
      by_test : (c : Bool) → accepts (form_of o.mnemonic.op) b ≡ c → (if c then Some o else None) ≡ Some x → (Some o ≡ Some x) × (accepts (form_of x.mnemonic.op) b ≡ true)
      by_test true is h = let same : o ≡ x = cc in (h, subst (λ (y : Operator). accepts (form_of y.mnemonic.op) b ≡ true) same is)
      by_test false is h = absurd cc

  -- an operator that a token is
  record OperatorAt (t : Token) (o : Operator) : Type 0 where
    left : o.left ≡ t.left
    sign : Sign
    class : t.class ≡ classes.Sign sign
    one : IsOneToken t.text sign
    good : IsOperatorSign sign t.text

  from_word : (t : Token) (s : Sign) (r : Option Mnemonic) (o : Operator) → operator_in dialects.Extended t.text ≡ r → operator_from t.left r ≡ Some o → t.class ≡ classes.Sign s → IsOneToken t.text s
      → ((m : Mnemonic) → operator_in dialects.Extended t.text ≡ Some m → IsOperatorSign s t.text) → OperatorAt t o
  from_word t s None o is e class one good = absurd cc
  from_word t s (Some m) o is e class one good =
      let same : record { mnemonic = m; left = t.left } ≡ o = cc in
      record { left = ap (λ (x : Operator). x.left) (sym same); sign = s; class = class; one = one; good = good m is }

  operator_by : (t : Token) (o : Operator) (p q r : Bool) → is_sign signs.Name t ≡ p → is_sign signs.Ampersand t ≡ q → is_sign signs.Close t ≡ r → K t
      → (if p || q then operator_from t.left (operator_in dialects.Extended t.text) else if r then Some (record { mnemonic = closing; left = t.left }) else None) ≡ Some o → OperatorAt t o
  operator_by t o true q r a b c known e = from_word t signs.Name (operator_in dialects.Extended t.text) o refl e (name_class t a) (name_again text t known a) (λ (m : Mnemonic) (is : operator_in dialects.Extended t.text ≡ Some m). (m, is))
  operator_by t o false true r a b c known e = from_word t signs.Ampersand (operator_in dialects.Extended t.text) o refl e (ampersand_class t b) (ampersand_again text t known b) (λ (m : Mnemonic) (is : operator_in dialects.Extended t.text ≡ Some m). tt)
  operator_by t o false false true a b c known e =
      let same : record { mnemonic = closing; left = t.left } ≡ o = cc in
      record { left = ap (λ (x : Operator). x.left) (sym same); sign = signs.Close; class = close_class t c; one = close_again text t known c; good = tt }
  operator_by t o false false false a b c known e = absurd cc

  operator_at : (t : Token) (o : Operator) → K t → operator_of dialects.Extended t ≡ Some o → OperatorAt t o
  unfolding operator_of
  operator_at t o known e = operator_by t o (is_sign signs.Name t) (is_sign signs.Ampersand t) (is_sign signs.Close t) refl refl refl known e

  -- the operator of an operation, as it's written
  record OperatorIs (o : OperationText) : Type 0 where
    token : Token
    sign : Sign
    class : token.class ≡ classes.Sign sign
    one : IsOneToken token.text sign
    good : IsOperatorSign sign token.text
    is : operator_of dialects.Extended token ≡ Some o.operator
    there : written_at text o.operator.left ≡ token.text
    taken : accepts (form_of o.operator.mnemonic.op) o.behind ≡ true

  operator_ok : (o : OperationText) → OperationIs K o → OperatorIs o
  operator_ok o is =
      let e = accepted o.behind (operator_of dialects.Extended is.token) o.operator is.is in
      let at = operator_at is.token o.operator is.known e.0 in
      record {
        token = is.token;
        sign = at.sign;
        class = at.class;
        one = at.one;
        good = at.good;
        is = e.0;
        there = ap (written_at text) at.left ∙ ap (λ (t : Token). t.text) is.known.place;
        taken = e.1;
      }

  written_ok : (o : OperationText) → OperatorIs o → OperatorOk (written_at text o.operator.left)
  written_ok o at = subst OperatorOk (sym at.there) (record { sign = at.sign; good = at.good; may = inl at.one })

  written_told : (o : OperationText) → OperatorIs o → (Fits : Mnemonic → Type 0) → Fits o.operator.mnemonic → Operates Fits (written_at text o.operator.left)
  written_told o at Fits fits = subst (Operates Fits) (sym at.there) (token_operates Fits at.token at.sign o.operator at.class at.one at.is fits)

  -- ---- which operators jump and return

  jump_only : (op : Op) (t : Token) → accepts (form_of op) (Target t) ≡ true → op ≡ ops.Jmp
  jump_only ops.Jmp t e = refl
  jump_only op t e = absurd cc

  return_only : (op : Op) → is_return op ≡ true → op ≡ ops.Ret
  return_only ops.Ret e = refl
  return_only op e = absurd cc

  true_false : (b : Bool) → b ≡ true → b ≡ false → ⊥
  true_false true a c = absurd cc
  true_false false a c = absurd cc

  not_op : (op other : Op) (b : BehindText) → accepts (form_of op) b ≡ true → accepts (form_of other) b ≡ false → op ≡ other → ⊥
  not_op op other b it no_one e = true_false (accepts (form_of op) b) it (ap (λ (x : Op). accepts (form_of x) b) e ∙ no_one)

  not_return : (op : Op) → is_return op ≡ false → op ≡ ops.Ret → ⊥
  not_return op no_one e = true_false (is_return op) (ap is_return e) no_one

  module _ (ms : List Member) (all : Members ms) (o : OperationText) (at : OperatorIs o) where
    abbrev op_text : List ℕ
    op_text = written_at text o.operator.left

    lone_told : (b : Bool) → is_return o.operator.mnemonic.op ≡ b → (o.operator.mnemonic.op ≡ ops.Jmp → ⊥)
        → AreTold ((if b then record { sort = sorts.Return o.operator.mnemonic.modifier; text = op_text; left = o.operator.left } else said op_text o.operator.left) ∷ [])
    lone_told true e no_jump = written_told o at (IsReturn o.operator.mnemonic.modifier) (return_only o.operator.mnemonic.op e, refl)
    lone_told false e no_jump = written_told o at IsOther (no_jump, not_return o.operator.mnemonic.op e)

    other_told : (b : BehindText) → accepts (form_of o.operator.mnemonic.op) b ≡ true → accepts (form_of ops.Jmp) b ≡ false → accepts (form_of ops.Ret) b ≡ false → Operates IsOther op_text
    other_told b it jump ret = written_told o at IsOther (not_op o.operator.mnemonic.op ops.Jmp b it jump, not_op o.operator.mnemonic.op ops.Ret b it ret)

    operation_told : (b : BehindText) → accepts (form_of o.operator.mnemonic.op) b ≡ true → BehindIs K b → AreTold (operation_words ms o.operator.mnemonic op_text b o.operator.left)
    operation_told Nothing it behind = lone_told (is_return o.operator.mnemonic.op) refl (not_op o.operator.mnemonic.op ops.Jmp Nothing it refl)
    operation_told (Given x) it behind = one_behind (operand_word ms x).sort (operand_word ms x).text op_text (word_ok ms x all behind) (other_told (Given x) it refl refl)
    operation_told (Target t) it behind = (written_told o at IsJump (jump_only o.operator.mnemonic.op t it), up_twice t.text)
    operation_told (Opened None) it behind = other_told (Opened None) it refl refl
    operation_told (Opened (Some x)) it behind = other_told (Opened (Some x)) it refl refl
    operation_told (Called c) it behind = other_told (Called c) it refl refl

  -- ---- a line

  lone_ok : (l : Line) → LineOk l → BodyOk (only_lines (l ∷ []))
  lone_ok l is = record { shared = tt; lines = (is, tt) }

  module _ (above : List FlatUnit) (ms : List Member) (flats : Flats above) (all : Members ms) where
    abbrev scope : ScopeText
    scope = record { text = text; above = above; members = ms }

    plain_ok : (o : OperationText) → OperationIs K o → BodyOk (plain_operation scope o)
    plain_ok o is = lone_ok (line_of o.operator.left (operation_words ms o.operator.mnemonic (written_at text o.operator.left) o.behind o.operator.left))
        (record {
          label = tt;
          words = operation_words_ok ms all o.operator.mnemonic (written_at text o.operator.left) o.behind o.operator.left (written_ok o (operator_ok o is)) is.behind;
          some = some_words ms all o.operator.mnemonic (written_at text o.operator.left) o.behind o.operator.left;
          told = operation_told ms all o (operator_ok o is) o.behind (operator_ok o is).taken is.behind;
        })

    called_as : (b : Option FlatUnit) (call : List ℕ) (c : CallText) (o : OperationText) → IsLabelName call → CallIs K c → OperationIs K o → ((f : FlatUnit) → b ≡ Some f → FlatOk f) → BodyOk (called_or_plain b scope call c o)
    called_as None call c o run is op each = plain_ok o op
    called_as (Some f) call c o run is op each = called_ok ms all f (each f refl) call o.operator.mnemonic.modifier c o.operator.left run is

    operated_ok : (b : BehindText) (call : List ℕ) (o : OperationText) → IsLabelName call → BehindIs K b → OperationIs K o → BodyOk (operated_as b scope call o)
    operated_ok (Called c) call o run is op =
        called_as (block_of above ms (capitals c.instance.text)) call c o run is op
        (λ (f : FlatUnit) (e : block_of above ms (capitals c.instance.text) ≡ Some f). block_of_by above (member_named ms (capitals c.instance.text)) f flats e)
    operated_ok Nothing call o run is op = plain_ok o op
    operated_ok (Given x) call o run is op = plain_ok o op
    operated_ok (Target t) call o run is op = plain_ok o op
    operated_ok (Opened x) call o run is op = plain_ok o op

    choice_ok : (choice : Option Choice) (call : List ℕ) (xs : List OperandText) (left : ℕ) → IsLabelName call → AllByRecursion (OperandIs K) xs → BodyOk (choice_by choice scope call xs left)
    choice_ok None call xs left run given = no_lines_ok
    choice_ok (Some choice) call xs left run given = made_ok ms all choice above call xs left run given

    function_ok : (f : Option FlatUnit) (call : List ℕ) (t : Token) (xs : List OperandText) → IsLabelName call → AllByRecursion (OperandIs K) xs → ((g : FlatUnit) → f ≡ Some g → FlatOk g) → BodyOk (function_by f scope call t xs)
    function_ok None call t xs run given each = choice_ok (choice_named (capitals t.text)) call xs t.left run given
    function_ok (Some f) call t xs run given each = applied_ok ms all f (each f refl) call xs t.left run given

    step_ok : (call : List ℕ) (s : StepText) → IsLabelName call → StepIs K s → BodyOk (stepped scope call s)
    step_ok call (Operation o) run is = operated_ok o.behind call o run is.behind is
    step_ok call (Function t xs) run is =
        function_ok (unit_named above (capitals t.text)) call t xs run is.1
        (λ (g : FlatUnit) (e : unit_named above (capitals t.text) ≡ Some g). found_so FlatOk (λ (u : FlatUnit). bytes_eq u.name (capitals t.text)) above g flats e)

    may_step_ok : (call : List ℕ) (s : Option StepText) → IsLabelName call → MayStepIs K s → BodyOk (optional_step scope call s)
    may_step_ok call None run is = no_lines_ok
    may_step_ok call (Some s) run is = step_ok call s run is

    lone_label_ok : (w : Word) → LabelOk w → LineOk (lone_label w)
    lone_label_ok w is = record { label = is; words = tt; some = tt; told = tt }

    some_label : (w : Word) (ws : List Word) → SomeWords (Some w) ws
    some_label w [] = tt
    some_label w (x ∷ xs) = tt

    labelled_by : (w : Word) (l : Line) (ls : List Line) (b : Bool) → LabelOk w → LineOk l → Lines ls
        → Lines (if b then record { label = Some w; words = l.words; left = l.left } ∷ ls else lone_label w ∷ l ∷ ls)
    labelled_by w l ls true is one more = (record { label = is; words = one.words; some = some_label w l.words; told = one.told }, more)
    labelled_by w l ls false is one more = (lone_label_ok w is, (one, more))

    labelled_ok : (w : Word) (ls : List Line) → LabelOk w → Lines ls → Lines (labelled_lines w ls)
    labelled_ok w [] is lines = (lone_label_ok w is, tt)
    labelled_ok w (l ∷ ls) is lines = labelled_by w l ls (is_none l.label) is lines.0 lines.1

    label_ok : (o : Option Token) (b : Body) → LabelIs K o → BodyOk b → BodyOk (with_label o b)
    label_ok None b is ok = ok
    label_ok (Some t) b is ok = record { shared = ok.shared; lines = labelled_ok (label (capitals t.text) t.left) b.lines (record { sort = refl; name = label_name t is }) ok.lines }

    line_ok : (k : ℕ) (l : LineText) → LineIs K l → BodyOk (line_body scope k l)
    line_ok k l is = label_ok l.label (optional_step scope (call_name k) l.step) is.label (may_step_ok (call_name k) l.step (numbered_label 67 k refl refl refl) is.step)

    lines_ok : (b : Body) (k : ℕ) (ls : List LineText) → BodyOk b → AllByRecursion (LineIs K) ls → BodyOk (body_from scope b k ls)
    unfolding body_from
    lines_ok b k [] ok is = ok
    lines_ok b k (l ∷ ls) ok is = lines_ok (joined b (line_body scope k l)) (suc k) ls (joined_ok b (line_body scope k l) ok (line_ok k l is.0)) is.1

    body_ok : (ls : List LineText) → AllByRecursion (LineIs K) ls → BodyOk (body_of scope ls)
    body_ok ls is = lines_ok (begun_from above no_lines ms) 1 ls (begun_ok above no_lines ms flats no_lines_ok) is

  -- ---- units

  flat_ok : (above : List FlatUnit) (u : UnitText) → Flats above → UnitIs K u → FlatOk (flat_of text above u)
  flat_ok above u flats is =
      let ms = members_of u in
      let all = members_ok u is in
      let body = body_ok above ms flats all u.lines is.lines in
      record {
        name = name_run u.name is.name;
        members = all;
        shared = body.shared;
        bound = all_flat MemberOk EntryOk bound_in (λ (m : Member) (ok : MemberOk m). bound_ok m.kind m ok) ms all;
        declared = all_flat MemberOk EntryOk (declared_in above) (λ (m : Member) (ok : MemberOk m). declared_as_ok m.kind above m flats ok) ms all;
        lines = body.lines;
      }

  flats_ok : (above : List FlatUnit) (us : List UnitText) → Flats above → AllByRecursion (UnitIs K) us → Flats (flats_from text above us)
  unfolding flats_from
  flats_ok above [] flats is = flats
  flats_ok above (u ∷ us) flats is = flats_ok (above ++ flat_of text above u ∷ []) us (all_append FlatOk above (flat_of text above u ∷ []) flats (flat_ok above u flats is.0, tt)) is.1

  entries_ok : (f : FlatUnit) → FlatOk f → Entries (entries_of f)
  entries_ok f is = all_append EntryOk f.shared (f.bound ++ f.declared) is.shared (all_append EntryOk f.bound f.declared is.bound is.declared)

  abbrev pub lines_in : FlatUnit → List Line
  lines_in f = f.lines

  -- a unit beside those above it, where all are of this text
  pub unit_ok : (above : List UnitText) (u : UnitText) → AllByRecursion (UnitIs K) above → UnitIs K u
      → AllByRecursion EntryOk (entries_of (flat_of text (flats_from text [] above) u)) × AllByRecursion LineOk (lines_in (flat_of text (flats_from text [] above) u))
  unit_ok above u is one =
      let flat = flat_ok (flats_from text [] above) u (flats_ok [] above tt is) one in
      (entries_ok (flat_of text (flats_from text [] above) u) flat, flat.lines)
