-- A typed program whose parts are lawful each for itself has an image.
use Rattle.std.proofs.Common.{inl, inr, ◌⊎◌, ◌≡◌, ℕ, suc, ◌+◌, ◌*◌, ◌^◌, ◌<◌, ◌≤◌, Bool, true, false, cond, ltb, List, [], ◌∷◌, ◌++◌, length, get_or, Option, Some, None, Ok, refl, sym, ap, subst, ◌∙◌, append_assoc, arith}
use Rattle.std.specs.Prelude.{ℤ, pos, negsuc, nat_abs, map, slice_get, is_some, not, nat_eq, ◌&&◌, ◌||◌}
use Rattle.std.specs.List.{position, AllByRecursion}
use Rattle.std.specs.Option.{option_map, option_and_then}
use Rattle.std.proofs.lemmas.Bool.{ltb-false, or_left, or_right}
use Rattle.std.proofs.lemmas.List.{length-append, append-nil}
use Rattle.std.proofs.lemmas.Option.{slice_get-get_or}
use Rattle.std.proofs.lemmas.List.Quantifiers.{position-Some}
use Rattle.std.proofs.lemmas.Slice.Eq.{bytes_eq-Decides}
use Rattle.il_values.specs.declared.value.Ty.{Ty}
use Rattle.il_values.specs.declared.value.Ty.TheVariants as types
use Rattle.il_values.specs.declared.value.Value.{Value}
use Rattle.il_values.specs.declared.value.Value.TheVariants as values
use Rattle.il_values.specs.declared.op.Op.{Op}
use Rattle.il_values.specs.declared.op.Op.TheVariants as ops
use Rattle.il_values.specs.declared.function.Function.TheVariants as functions
use Rattle.il_values.specs.declared.shift.Shift.TheVariants as shifts
use Rattle.il_values.specs.declared.op.Modifier.{Modifier}
use Rattle.il_model.specs.declared.kind.BlockKind.{BlockKind}
use Rattle.il_model.specs.declared.kind.Field.{Field}
use Rattle.il_model.specs.declared.program.Variable.{Variable}
use Rattle.il_model.specs.declared.program.Instance.{Instance}
use Rattle.il_model.specs.declared.program.Argument.{Argument}
use Rattle.il_model.specs.declared.program.Operand.{Operand}
use Rattle.il_model.specs.declared.program.Operand.TheVariants as operands
use Rattle.il_model.specs.declared.coded_operand.CodedOperand.{CodedOperand}
use Rattle.il_model.specs.declared.coded_operand.CodedOperand.TheVariants as coded
use Rattle.il_model.specs.declared.program.Instr.{Instr}
use Rattle.il_model.specs.declared.fetched.Source.{Source}
use Rattle.il_model.specs.declared.fetched.Source.TheVariants as sources
use Rattle.il_model.specs.declared.codes.LetterSet.{LetterSet}
use Rattle.il_model.specs.declared.codes.LetterSet.TheVariants as letters
use Rattle.il_model.specs.declared.codes.OperandForm.{OperandForm}
use Rattle.il_model.specs.declared.codes.OperandForm.TheVariants as forms
use Rattle.il_values.specs.Values.{ty_of, number_of, typed_value}
use Rattle.il_values.specs.Operators.{same_truth, same_number}
use Rattle.il_model.specs.Words.{same_name, is_lawful_name}
use Rattle.il_model.specs.Kinds.{field_name}
use Rattle.il_model.specs.Program.{Program, Declarations, declared_by, IsSmall}
use Rattle.il_model.specs.Resolved.{has_label, target_of, instance_in, field_of, source_of, called_kind}
use Rattle.il_model.specs.Typing.{IsTyped}
use Rattle.il_model.specs.Checking.{shape_at, typing_end, label_row, arguments_fault, HasNoTypeFault}
use Rattle.il_model.specs.Marks.{Mark, with_mark, word_count, words_in, address_of, marks_from}
use Rattle.il_model.specs.Constants.{same_value, operand_literal, joined_constants, constants_from, operands_in, operands_of, constants_of}
use Rattle.il_model.specs.CodedOperands.{code_of}
use Rattle.il_model.specs.Image.{type_code, flag, modifier_code, numbered, coded_literal, coded_operand, number_or_unused, operand_code}
use Rattle.il_values.specs.OpCodes.{op_code}
use Rattle.il_model.specs.Codes.{if_passes, type_of, is_known, usage_of, allows, has_form, allowed_by, formed_by, modifier_of, letters_of, named_operand, value_operand, label_there, is_jump, is_call, numbered_operand}
use Rattle.il_values.specs.OpCodes.{op_of}
use Rattle.il_model.specs.Fits.{IsVariable, IsInstance, IsMark, IsConstant, IsPassing, IsWord, AreItems, IsImage}
use Rattle.il_model.specs.Lawful.{IsOperand, IsLabel, IsPassed, IsLawful, AreLawful}
use Rattle.il_values.proofs.RealValues.{real_same}
use Rattle.il_model.proofs.TypedLines.{bind_ok, ok_before, typed_line, IsArgumentOf, arguments_typed, no_arguments}
use Rattle.il_model.proofs.Judged.{first_by, faultless}
use Rattle.il_model.proofs.Positions.{position_front, found_in_front, found_last, position_later, position_first}
use Rattle.il_model.proofs.Marks.{words_in-append, address_small, table_labels, label_in}
use Rattle.il_model.proofs.ConstantLists.{same_self, constants_grow}
use Rattle.il_model.proofs.CodedOperands.{coded_again, own_small}
use Rattle.il_model.proofs.Declared.{StandsAt, variable_stands, map_some, instance_again, field_so, field_stands}
use Rattle.il_model.proofs.Calls.{IsTypedLine, typed_lines, words_few, literal_count, literals_few, literals_in_words}
use Rattle.il_model.proofs.Sizes.{words_small, constants_small}

again : {A : Type 0} (test : A → Bool) (o : Option A) (x : A) → o ≡ Some x → test x ≡ true → option_and_then (if_passes test) o ≡ Some x
again test o x e h = rw (e, h) refl

-- ---- operators and letters

pub listed : (op : Op) → op_of (op_code op) ≡ Some op
listed ops.Empty = refl
listed ops.Ld = refl
listed ops.St = refl
listed ops.S = refl
listed ops.R = refl
listed ops.And = refl
listed ops.Or = refl
listed ops.Xor = refl
listed ops.Not = refl
listed ops.Add = refl
listed ops.Sub = refl
listed ops.Mul = refl
listed ops.Div = refl
listed ops.Mod = refl
listed ops.Gt = refl
listed ops.Ge = refl
listed ops.Eq = refl
listed ops.Ne = refl
listed ops.Le = refl
listed ops.Lt = refl
listed ops.Jmp = refl
listed ops.Cal = refl
listed ops.Ret = refl
listed ops.Close = refl
listed ops.IntToDint = refl
listed ops.DintToInt = refl
listed ops.DintToLint = refl
listed ops.LintToDint = refl
listed ops.Min = refl
listed ops.Max = refl
listed (ops.Apply functions.IntToReal) = refl
listed (ops.Apply functions.DintToReal) = refl
listed (ops.Apply functions.LintToReal) = refl
listed (ops.Apply functions.TimeToReal) = refl
listed (ops.Apply functions.RealToInt) = refl
listed (ops.Apply functions.RealToDint) = refl
listed (ops.Apply functions.RealToLint) = refl
listed (ops.Apply functions.RealToTime) = refl
listed (ops.Apply functions.Trunc) = refl
listed (ops.Apply functions.Abs) = refl
listed (ops.Apply functions.Sqrt) = refl
listed (ops.Apply functions.TimeToDint) = refl
listed (ops.Apply functions.DintToTime) = refl
listed (ops.Apply functions.Move) = refl
listed (ops.Apply functions.WordToInt) = refl
listed (ops.Apply functions.IntToWord) = refl
listed (ops.Apply functions.DwordToDint) = refl
listed (ops.Apply functions.DintToDword) = refl
listed (ops.Apply functions.WordToDword) = refl
listed (ops.Apply functions.DwordToWord) = refl
listed (ops.Shift shifts.Left) = refl
listed (ops.Shift shifts.Right) = refl
listed (ops.Shift shifts.RotateLeft) = refl
listed (ops.Shift shifts.RotateRight) = refl

pub op_below : (op : Op) → op_code op < 2 ^ 8
op_below ops.Empty = omega arith
op_below ops.Ld = omega arith
op_below ops.St = omega arith
op_below ops.S = omega arith
op_below ops.R = omega arith
op_below ops.And = omega arith
op_below ops.Or = omega arith
op_below ops.Xor = omega arith
op_below ops.Not = omega arith
op_below ops.Add = omega arith
op_below ops.Sub = omega arith
op_below ops.Mul = omega arith
op_below ops.Div = omega arith
op_below ops.Mod = omega arith
op_below ops.Gt = omega arith
op_below ops.Ge = omega arith
op_below ops.Eq = omega arith
op_below ops.Ne = omega arith
op_below ops.Le = omega arith
op_below ops.Lt = omega arith
op_below ops.Jmp = omega arith
op_below ops.Cal = omega arith
op_below ops.Ret = omega arith
op_below ops.Close = omega arith
op_below ops.IntToDint = omega arith
op_below ops.DintToInt = omega arith
op_below ops.DintToLint = omega arith
op_below ops.LintToDint = omega arith
op_below ops.Min = omega arith
op_below ops.Max = omega arith
op_below (ops.Apply functions.IntToReal) = omega arith
op_below (ops.Apply functions.DintToReal) = omega arith
op_below (ops.Apply functions.LintToReal) = omega arith
op_below (ops.Apply functions.TimeToReal) = omega arith
op_below (ops.Apply functions.RealToInt) = omega arith
op_below (ops.Apply functions.RealToDint) = omega arith
op_below (ops.Apply functions.RealToLint) = omega arith
op_below (ops.Apply functions.RealToTime) = omega arith
op_below (ops.Apply functions.Trunc) = omega arith
op_below (ops.Apply functions.Abs) = omega arith
op_below (ops.Apply functions.Sqrt) = omega arith
op_below (ops.Apply functions.TimeToDint) = omega arith
op_below (ops.Apply functions.DintToTime) = omega arith
op_below (ops.Apply functions.Move) = omega arith
op_below (ops.Apply functions.WordToInt) = omega arith
op_below (ops.Apply functions.IntToWord) = omega arith
op_below (ops.Apply functions.DwordToDint) = omega arith
op_below (ops.Apply functions.DintToDword) = omega arith
op_below (ops.Apply functions.WordToDword) = omega arith
op_below (ops.Apply functions.DwordToWord) = omega arith
op_below (ops.Shift shifts.Left) = omega arith
op_below (ops.Shift shifts.Right) = omega arith
op_below (ops.Shift shifts.RotateLeft) = omega arith
op_below (ops.Shift shifts.RotateRight) = omega arith

not_both : (l : LetterSet) (n c o : Bool) → (let m : Modifier = record { negated = n; conditional = c; opens = o } in allows l m ≡ true) → (c && o) ≡ false
not_both letters.None true true true e = absurd cc
not_both letters.None false true true e = absurd cc
not_both letters.None n true false e = refl
not_both letters.None n false o e = refl
not_both letters.N true true true e = absurd cc
not_both letters.N false true true e = absurd cc
not_both letters.N n true false e = refl
not_both letters.N n false o e = refl
not_both letters.C true true true e = absurd cc
not_both letters.C false true true e = absurd cc
not_both letters.C n true false e = refl
not_both letters.C n false o e = refl
not_both letters.Opens true true true e = absurd cc
not_both letters.Opens false true true e = absurd cc
not_both letters.Opens n true false e = refl
not_both letters.Opens n false o e = refl
not_both letters.NOpens true true true e = absurd cc
not_both letters.NOpens false true true e = absurd cc
not_both letters.NOpens n true false e = refl
not_both letters.NOpens n false o e = refl

letters_by : (n c o : Bool) → (c && o) ≡ false → modifier_of (flag n 1 + (flag c 2 + flag o 4)) ≡ Some (record { negated = n; conditional = c; opens = o })
letters_by true true true e = absurd cc
letters_by true true false e = refl
letters_by true false true e = refl
letters_by true false false e = refl
letters_by false true true e = absurd cc
letters_by false true false e = refl
letters_by false false true e = refl
letters_by false false false e = refl

letters_below : (n c o : Bool) → flag n 1 + (flag c 2 + flag o 4) < 2 ^ 8
letters_below true true true = omega arith
letters_below true true false = omega arith
letters_below true false true = omega arith
letters_below true false false = omega arith
letters_below false true true = omega arith
letters_below false true false = omega arith
letters_below false false true = omega arith
letters_below false false false = omega arith

letters_again : (op : Op) (m : Modifier) → allowed_by (usage_of op) m ≡ true → letters_of op (modifier_code m) ≡ Some m
letters_again op m e = again (allowed_by (usage_of op)) (modifier_of (modifier_code m)) m (letters_by m.negated m.conditional m.opens (not_both (usage_of op).letters m.negated m.conditional m.opens e)) e

-- ---- forms of operands

abbrev is_label_form : OperandForm → Bool
is_label_form forms.Label = true
is_label_form form = false

abbrev is_instance_form : OperandForm → Bool
is_instance_form forms.Instance = true
is_instance_form form = false

-- JMP alone takes a label
jump_row : (op : Op) → is_jump op ≡ is_label_form (usage_of op).form
jump_row ops.Empty = refl
jump_row ops.Ld = refl
jump_row ops.St = refl
jump_row ops.S = refl
jump_row ops.R = refl
jump_row ops.And = refl
jump_row ops.Or = refl
jump_row ops.Xor = refl
jump_row ops.Not = refl
jump_row ops.Add = refl
jump_row ops.Sub = refl
jump_row ops.Mul = refl
jump_row ops.Div = refl
jump_row ops.Mod = refl
jump_row ops.Gt = refl
jump_row ops.Ge = refl
jump_row ops.Eq = refl
jump_row ops.Ne = refl
jump_row ops.Le = refl
jump_row ops.Lt = refl
jump_row ops.Jmp = refl
jump_row ops.Cal = refl
jump_row ops.Ret = refl
jump_row ops.Close = refl
jump_row ops.IntToDint = refl
jump_row ops.DintToInt = refl
jump_row ops.DintToLint = refl
jump_row ops.LintToDint = refl
jump_row ops.Min = refl
jump_row ops.Max = refl
jump_row (ops.Apply f) = refl
jump_row (ops.Shift x) = refl

-- CAL alone takes an instance
call_row : (op : Op) → is_call op ≡ is_instance_form (usage_of op).form
call_row ops.Empty = refl
call_row ops.Ld = refl
call_row ops.St = refl
call_row ops.S = refl
call_row ops.R = refl
call_row ops.And = refl
call_row ops.Or = refl
call_row ops.Xor = refl
call_row ops.Not = refl
call_row ops.Add = refl
call_row ops.Sub = refl
call_row ops.Mul = refl
call_row ops.Div = refl
call_row ops.Mod = refl
call_row ops.Gt = refl
call_row ops.Ge = refl
call_row ops.Eq = refl
call_row ops.Ne = refl
call_row ops.Le = refl
call_row ops.Lt = refl
call_row ops.Jmp = refl
call_row ops.Cal = refl
call_row ops.Ret = refl
call_row ops.Close = refl
call_row ops.IntToDint = refl
call_row ops.DintToInt = refl
call_row ops.DintToLint = refl
call_row ops.LintToDint = refl
call_row ops.Min = refl
call_row ops.Max = refl
call_row (ops.Apply f) = refl
call_row (ops.Shift x) = refl

abbrev is_label : Operand → Bool
is_label (operands.Label name) = true
is_label o = false

abbrev is_instance : Operand → Bool
is_instance (operands.Instance name) = true
is_instance o = false

label_form : (form : OperandForm) (opens : Bool) (o : Operand) → has_form form opens o ≡ true → is_label_form form ≡ is_label o
label_form forms.Absent opens operands.Absent e = refl
label_form forms.Absent opens (operands.Literal v) e = absurd cc
label_form forms.Absent opens (operands.Bare z) e = absurd cc
label_form forms.Absent opens (operands.Variable name) e = absurd cc
label_form forms.Absent opens (operands.Direct loc) e = absurd cc
label_form forms.Absent opens (operands.Label name) e = absurd cc
label_form forms.Absent opens (operands.Field name field) e = absurd cc
label_form forms.Absent opens (operands.Instance name) e = absurd cc
label_form forms.Value opens operands.Absent e = refl
label_form forms.Value opens (operands.Literal v) e = refl
label_form forms.Value opens (operands.Bare z) e = absurd cc
label_form forms.Value opens (operands.Variable name) e = refl
label_form forms.Value opens (operands.Direct loc) e = refl
label_form forms.Value opens (operands.Label name) e = absurd cc
label_form forms.Value opens (operands.Field name field) e = refl
label_form forms.Value opens (operands.Instance name) e = absurd cc
label_form forms.Label opens operands.Absent e = absurd cc
label_form forms.Label opens (operands.Literal v) e = absurd cc
label_form forms.Label opens (operands.Bare z) e = absurd cc
label_form forms.Label opens (operands.Variable name) e = absurd cc
label_form forms.Label opens (operands.Direct loc) e = absurd cc
label_form forms.Label opens (operands.Label name) e = refl
label_form forms.Label opens (operands.Field name field) e = absurd cc
label_form forms.Label opens (operands.Instance name) e = absurd cc
label_form forms.Instance opens operands.Absent e = absurd cc
label_form forms.Instance opens (operands.Literal v) e = absurd cc
label_form forms.Instance opens (operands.Bare z) e = absurd cc
label_form forms.Instance opens (operands.Variable name) e = absurd cc
label_form forms.Instance opens (operands.Direct loc) e = absurd cc
label_form forms.Instance opens (operands.Label name) e = absurd cc
label_form forms.Instance opens (operands.Field name field) e = absurd cc
label_form forms.Instance opens (operands.Instance name) e = refl

instance_form : (form : OperandForm) (opens : Bool) (o : Operand) → has_form form opens o ≡ true → is_instance_form form ≡ is_instance o
instance_form forms.Absent opens operands.Absent e = refl
instance_form forms.Absent opens (operands.Literal v) e = absurd cc
instance_form forms.Absent opens (operands.Bare z) e = absurd cc
instance_form forms.Absent opens (operands.Variable name) e = absurd cc
instance_form forms.Absent opens (operands.Direct loc) e = absurd cc
instance_form forms.Absent opens (operands.Label name) e = absurd cc
instance_form forms.Absent opens (operands.Field name field) e = absurd cc
instance_form forms.Absent opens (operands.Instance name) e = absurd cc
instance_form forms.Value opens operands.Absent e = refl
instance_form forms.Value opens (operands.Literal v) e = refl
instance_form forms.Value opens (operands.Bare z) e = absurd cc
instance_form forms.Value opens (operands.Variable name) e = refl
instance_form forms.Value opens (operands.Direct loc) e = refl
instance_form forms.Value opens (operands.Label name) e = absurd cc
instance_form forms.Value opens (operands.Field name field) e = refl
instance_form forms.Value opens (operands.Instance name) e = absurd cc
instance_form forms.Label opens operands.Absent e = absurd cc
instance_form forms.Label opens (operands.Literal v) e = absurd cc
instance_form forms.Label opens (operands.Bare z) e = absurd cc
instance_form forms.Label opens (operands.Variable name) e = absurd cc
instance_form forms.Label opens (operands.Direct loc) e = absurd cc
instance_form forms.Label opens (operands.Label name) e = refl
instance_form forms.Label opens (operands.Field name field) e = absurd cc
instance_form forms.Label opens (operands.Instance name) e = absurd cc
instance_form forms.Instance opens operands.Absent e = absurd cc
instance_form forms.Instance opens (operands.Literal v) e = absurd cc
instance_form forms.Instance opens (operands.Bare z) e = absurd cc
instance_form forms.Instance opens (operands.Variable name) e = absurd cc
instance_form forms.Instance opens (operands.Direct loc) e = absurd cc
instance_form forms.Instance opens (operands.Label name) e = absurd cc
instance_form forms.Instance opens (operands.Field name field) e = absurd cc
instance_form forms.Instance opens (operands.Instance name) e = refl

jumps : (op : Op) (m : Modifier) (o : Operand) → formed_by (usage_of op) m o ≡ true → is_jump op ≡ is_label o
jumps op m o e = jump_row op ∙ label_form (usage_of op).form m.opens o e

calls : (op : Op) (m : Modifier) (o : Operand) → formed_by (usage_of op) m o ≡ true → is_call op ≡ is_instance o
calls op m o e = call_row op ∙ instance_form (usage_of op).form m.opens o e

bare_form : (form : OperandForm) (opens : Bool) (z : ℤ) → has_form form opens (operands.Bare z) ≡ true → ⊥
bare_form forms.Absent opens z e = cc
bare_form forms.Value opens z e = cc
bare_form forms.Label opens z e = cc
bare_form forms.Instance opens z e = cc

-- ---- values

same_truth_is : (a b : Bool) → same_truth a b ≡ true → a ≡ b
same_truth_is true true e = refl
same_truth_is true false e = absurd cc
same_truth_is false true e = absurd cc
same_truth_is false false e = refl

equal_by : (a b : Bool) (n m : ℕ) → ltb n m ≡ a → ltb m n ≡ b → (not a && not b) ≡ true → n ≡ m
equal_by false false n m g h e = let le = ltb-false n m g in let ge = ltb-false m n h in omega arith
equal_by true b n m g h e = absurd cc
equal_by false true n m g h e = absurd cc

same_number_is : (a b : ℤ) → same_number a b ≡ true → a ≡ b
same_number_is (pos n) (pos m) e = ap pos (equal_by (ltb n m) (ltb m n) n m refl refl e)
same_number_is (pos n) (negsuc m) e = absurd cc
same_number_is (negsuc n) (pos m) e = absurd cc
same_number_is (negsuc n) (negsuc m) e = ap negsuc (sym (equal_by (ltb m n) (ltb n m) m n refl refl e))

same_value_is : (a b : Value) → same_value a b ≡ true → a ≡ b
same_value_is (values.Bool a) (values.Bool b) e = ap (λ (x : Bool). values.Bool x) (same_truth_is a b e)
same_value_is (values.Int a) (values.Int b) e = ap (λ (x : ℤ). values.Int x) (same_number_is a b e)
same_value_is (values.Dint a) (values.Dint b) e = ap (λ (x : ℤ). values.Dint x) (same_number_is a b e)
same_value_is (values.Time a) (values.Time b) e = ap (λ (x : ℤ). values.Time x) (same_number_is a b e)
same_value_is (values.Lint a) (values.Lint b) e = ap (λ (x : ℤ). values.Lint x) (same_number_is a b e)
same_value_is (values.Real a) (values.Real b) e = real_same a b (same_number_is (pos a.pattern) (pos b.pattern) e)
same_value_is (values.Word a) (values.Word b) e = ap (λ (z : ℤ). values.Word (nat_abs z)) (same_number_is (pos a) (pos b) e)
same_value_is (values.Dword a) (values.Dword b) e = ap (λ (z : ℤ). values.Dword (nat_abs z)) (same_number_is (pos a) (pos b) e)
same_value_is _ _ e = absurd cc

pub type_again : (t : Ty) → type_of (type_code t) ≡ Some t
type_again types.Bool = refl
type_again types.Int = refl
type_again types.Dint = refl
type_again types.Time = refl
type_again types.Lint = refl
type_again types.Real = refl
type_again types.Word = refl
type_again types.Dword = refl

constant_fits : (seen : List Value) (v : Value) → typed_value (ty_of v) (number_of v) ≡ Some v → is_known seen v ≡ false → IsConstant seen v
constant_fits seen v e new = record { type = type_again (ty_of v); value = again (λ v. not (is_known seen v)) (typed_value (ty_of v) (number_of v)) v e (ap not new) }

-- ---- the table of constants

items_snoc : {X : Type 0} (P : List X → X → Type 0) (seen xs : List X) (x : X) → AreItems P seen xs → P (seen ++ xs) x → AreItems P seen (xs ++ x ∷ [])
items_snoc P seen [] x are is = (subst (λ (s : List _). P s x) (append-nil seen) is, tt)
items_snoc P seen (y ∷ xs) x are is = (are.0, items_snoc P (seen ++ y ∷ []) xs x are.1 (subst (λ (s : List _). P s x) (sym (append_assoc seen (y ∷ []) xs)) is))

joined_by : (b : Bool) (seen : List Value) (v : Value) → is_known seen v ≡ b → typed_value (ty_of v) (number_of v) ≡ Some v → AreItems IsConstant [] seen → AreItems IsConstant [] (cond b seen (seen ++ v ∷ []))
joined_by true seen v known e are = are
joined_by false seen v known e are = items_snoc IsConstant [] seen v are (constant_fits seen v e known)

joined_fit : (ds : Declarations) (seen : List Value) (o : Operand) → IsOperand ds o → AreItems IsConstant [] seen → AreItems IsConstant [] (joined_constants same_value seen (operand_literal o))
joined_fit ds seen operands.Absent is are = are
joined_fit ds seen (operands.Literal v) is are = joined_by (is_known seen v) seen v refl is are
joined_fit ds seen (operands.Bare z) is are = are
joined_fit ds seen (operands.Variable name) is are = are
joined_fit ds seen (operands.Direct loc) is are = are
joined_fit ds seen (operands.Label name) is are = are
joined_fit ds seen (operands.Field name field) is are = are
joined_fit ds seen (operands.Instance name) is are = are

constants_fit : (ds : Declarations) (os : List Operand) (seen : List Value) → AllByRecursion (IsOperand ds) os → AreItems IsConstant [] seen → AreItems IsConstant [] (constants_from same_value seen os)
constants_fit ds [] seen fit are = are
constants_fit ds (o ∷ os) seen fit are = constants_fit ds os (joined_constants same_value seen (operand_literal o)) fit.1 (joined_fit ds seen o fit.0 are)

all_append : (P : Operand → Type 0) (xs ys : List Operand) → AllByRecursion P xs → AllByRecursion P ys → AllByRecursion P (xs ++ ys)
all_append P [] ys are more = more
all_append P (x ∷ xs) ys are more = (are.0, all_append P xs ys are.1 more)

all_front : (P : Operand → Type 0) (xs ys : List Operand) → AllByRecursion P (xs ++ ys) → AllByRecursion P xs × AllByRecursion P ys
all_front P [] ys are = (tt, are)
all_front P (x ∷ xs) ys are = let more = all_front P xs ys are.1 in ((are.0, more.0), more.1)

passed_fit : (ds : Declarations) (args : List Argument) → AllByRecursion (IsPassed ds) args → AllByRecursion (IsOperand ds) (map (λ (a : Argument). a.operand) args)
passed_fit ds [] are = tt
passed_fit ds (a ∷ args) are = (are.0.operand, passed_fit ds args are.1)

operands_fit : (ds : Declarations) (code : List Instr) → AreLawful ds code → AllByRecursion (IsOperand ds) (operands_of code)
operands_fit ds [] lawful = tt
operands_fit ds (line ∷ code) lawful = all_append (IsOperand ds) (operands_in line) (operands_of code) (lawful.0.operand, passed_fit ds line.arguments lawful.0.arguments) (operands_fit ds code lawful.1)

few_by : (b : Bool) (seen : List Value) (v : Value) → length (cond b seen (seen ++ v ∷ [])) ≤ length seen + 1
few_by true seen v = omega arith
few_by false seen v = omega (arith, length-append seen (v ∷ []))

joined_few : (seen : List Value) (o : Option Value) → length (joined_constants same_value seen o) ≤ length seen + cond (is_some o) 1 0
joined_few seen None = omega arith
joined_few seen (Some v) = few_by (is_known seen v) seen v

-- there are no more constants than literals
pub constants_few : (os : List Operand) (seen : List Value) → length (constants_from same_value seen os) ≤ length seen + literal_count os
constants_few [] seen = omega arith
constants_few (o ∷ os) seen =
    let one = joined_few seen (operand_literal o) in
    let more = constants_few os (joined_constants same_value seen (operand_literal o)) in
    omega arith

known_by : (b : Bool) (seen : List Value) (v : Value) → is_known seen v ≡ b → is_known (cond b seen (seen ++ v ∷ [])) v ≡ true
known_by true seen v e = e
known_by false seen v e = found_last (same_value v) seen v (same_self v)

kept_known : (os : List Operand) (seen : List Value) (v : Value) → is_known seen v ≡ true → is_known (constants_from same_value seen os) v ≡ true
kept_known os seen v e = let m = constants_grow os seen in ap (λ (all : List Value). is_known all v) m.is ∙ found_in_front (same_value v) seen m.more e

-- an operand that is a constant of the table, if it is a literal
abbrev IsKnown : List Value → Operand → Type 0
IsKnown constants o = (v : Value) → operand_literal o ≡ Some v → is_known constants v ≡ true

literals_known : (os : List Operand) (seen : List Value) → AllByRecursion (IsKnown (constants_from same_value seen os)) os
literals_known [] seen = tt
literals_known (o ∷ os) seen = (
  (λ v e. kept_known os (joined_constants same_value seen (operand_literal o)) v (ap (λ (l : Option Value). is_known (joined_constants same_value seen l) v) e ∙ known_by (is_known seen v) seen v refl)),
  literals_known os (joined_constants same_value seen (operand_literal o)),
)

-- ---- operands

place_below : {X : Type 0} (p : X → Bool) (xs : List X) (i : ℕ) → position p xs ≡ Some i → i < length xs
place_below p xs i e = (position_front p xs [] i e).before

-- a value or a place that reads back from its number
record IsRead (ds : Declarations) (cs : List Value) (o : Operand) (code : ℕ) : Type 0 where
  read : value_operand ds cs code ≡ Some o
  small : code < 2 ^ 16

-- one that stands under its code
stands_again : (ds : Declarations) (cs : List Value) (o : Operand) (x : CodedOperand) → StandsAt ds cs o x → IsRead ds cs o (code_of (coded_operand ds cs o))
stands_again ds cs o x at =
    let read : value_operand ds cs (code_of x) ≡ Some o = ap (option_and_then (named_operand ds cs)) (coded_again x at.own) ∙ at.named in
    subst (λ (y : CodedOperand). IsRead ds cs o (code_of y)) (sym at.coded) (record { read = read; small = own_small x at.own })

variable_by : (o : Option ℕ) (ds : Declarations) (cs : List Value) (name : List ℕ) → length ds.variables ≤ 4096 → position (λ (v : Variable). same_name v.name name) ds.variables ≡ o → is_some o ≡ true
    → IsRead ds cs (operands.Variable name) (code_of (coded_operand ds cs (operands.Variable name)))
variable_by None ds cs name few e h = absurd cc
variable_by (Some i) ds cs name few e h = stands_again ds cs (operands.Variable name) (coded.Variable i) (variable_stands ds cs name i few e)

constant_there : (cs : List Value) (v : Value) (k : ℕ) → position (same_value v) cs ≡ Some k → slice_get cs k ≡ Some v
constant_there [] v k e = absurd cc
constant_there (c ∷ cs) v k e =
    let r = position-Some (same_value v) (c ∷ cs) k c e in
    slice_get-get_or (c ∷ cs) k c r.0 ∙ ap (λ (x : Value). Some x) (sym (same_value_is v (get_or (c ∷ cs) k c) r.1))

constant_by : (o : Option ℕ) (ds : Declarations) (cs : List Value) (v : Value) → length cs ≤ 32767 → position (same_value v) cs ≡ o → is_some o ≡ true → IsRead ds cs (operands.Literal v) (code_of (coded_literal cs v))
constant_by None ds cs v few e h = absurd cc
constant_by (Some k) ds cs v few e h =
    let lt = place_below (same_value v) cs k e in
    stands_again ds cs (operands.Literal v) (coded.Constant k) (record { coded = ap (numbered coded.Constant) e; own = omega arith; named = ap (option_map operands.Literal) (constant_there cs v k e) })

-- what an image has room for
record HasRoom (Q : Program) : Type 0 where
  variables : length Q.variables ≤ 4096
  instances : length Q.instances ≤ 1024
  constants : length (constants_of Q) ≤ 32767
  words : words_in Q.code ≤ 36864

-- a value or a place that stands for something
value_again : (Q : Program) (o : Operand) (src : Source) → HasRoom Q → has_form forms.Value false o ≡ true → IsOperand (declared_by Q) o → source_of Q o ≡ Some src → IsKnown (constants_of Q) o
    → IsRead (declared_by Q) (constants_of Q) o (operand_code Q (constants_of Q) o)
value_again Q operands.Absent src room form ok there known = absurd cc
value_again Q (operands.Literal v) src room form ok there known = constant_by (position (same_value v) (constants_of Q)) (declared_by Q) (constants_of Q) v room.constants refl (known v refl)
value_again Q (operands.Bare z) src room form ok there known = absurd cc
value_again Q (operands.Variable name) src room form ok there known = variable_by (position (λ (v : Variable). same_name v.name name) Q.variables) (declared_by Q) (constants_of Q) name room.variables refl ok
value_again Q (operands.Direct loc) src room form ok there known = stands_again (declared_by Q) (constants_of Q) (operands.Direct loc) (coded.Location loc) (record { coded = refl; own = ok.0; named = rw ok.1 refl })
value_again Q (operands.Label name) src room form ok there known = absurd cc
value_again Q (operands.Field name field) src room form ok there known =
    let place = map_some (field_of Q name field) sources.Of src there in
    let f = field_stands (declared_by Q) (constants_of Q) name field place.0 room.instances place.1 in
    stands_again (declared_by Q) (constants_of Q) (operands.Field name field) (coded.Field f.instance f.number) f.stands
value_again Q (operands.Instance name) src room form ok there known = absurd cc

-- an operand that reads back from its number behind an operator
record IsAgain (Q : Program) (op : Op) (o : Operand) (code : ℕ) : Type 0 where
  read : numbered_operand (declared_by Q) (marks_from 0 Q.code) (constants_of Q) op code ≡ Some o
  small : code < 2 ^ 16

value_op : (Q : Program) (op : Op) (o : Operand) (n : ℕ) → is_jump op ≡ false → is_call op ≡ false → IsRead (declared_by Q) (constants_of Q) o n → IsAgain Q op o n
value_op Q op o n jump call is = record { read = rw (jump, call) is.read; small = is.small }

absent_again : (Q : Program) → IsRead (declared_by Q) (constants_of Q) operands.Absent 65535
absent_again Q = record { read = refl; small = omega arith }

label_again : (Q : Program) (op : Op) (name : List ℕ) (src : Source) → HasRoom Q → is_jump op ≡ true → source_of Q (operands.Label name) ≡ Some src → IsAgain Q op (operands.Label name) (operand_code Q (constants_of Q) (operands.Label name))
label_again Q op name src room jump there =
    let target = map_some (target_of Q name) sources.Target src there in
    let k : ℕ = target.0 in
    let e : target_of Q name ≡ Some k = target.1 in
    let lt = address_small Q.code k (place_below (has_label name) Q.code k e) in
    let words = room.words in
    let at : label_there (marks_from 0 Q.code) (address_of Q.code k) ≡ Some name = label_in Q.code (marks_from 0 Q.code) name k (table_labels Q.code) e in
    let code : number_or_unused (option_map (address_of Q.code) (target_of Q name)) ≡ address_of Q.code k = ap (λ (o : Option ℕ). number_or_unused (option_map (address_of Q.code) o)) e in
    let one : numbered_operand (declared_by Q) (marks_from 0 Q.code) (constants_of Q) op (address_of Q.code k) ≡ Some (operands.Label name) = rw (jump, at) refl in
    record { read = ap (numbered_operand (declared_by Q) (marks_from 0 Q.code) (constants_of Q) op) code ∙ one; small = omega (arith, code) }

called_again : (Q : Program) (op : Op) (name : List ℕ) (src : Source) → HasRoom Q → is_jump op ≡ false → is_call op ≡ true → source_of Q (operands.Instance name) ≡ Some src → IsAgain Q op (operands.Instance name) (operand_code Q (constants_of Q) (operands.Instance name))
called_again Q op name src room jump call there =
    let number = map_some (instance_in Q.instances name) sources.Instance src there in
    let i : ℕ = number.0 in
    let e : instance_in Q.instances name ≡ Some i = number.1 in
    let lt = place_below (λ (x : Instance). same_name x.name name) Q.instances i e in
    let few = room.instances in
    let code : number_or_unused (instance_in Q.instances name) ≡ i = ap number_or_unused e in
    let one : numbered_operand (declared_by Q) (marks_from 0 Q.code) (constants_of Q) op i ≡ Some (operands.Instance name) = rw (jump, call) (instance_again (declared_by Q) name i e) in
    record { read = ap (numbered_operand (declared_by Q) (marks_from 0 Q.code) (constants_of Q) op) code ∙ one; small = omega (arith, code) }

-- ---- words

operand_by : (Q : Program) (op : Op) (m : Modifier) (o : Operand) (src : Source) → HasRoom Q → formed_by (usage_of op) m o ≡ true → IsOperand (declared_by Q) o → source_of Q o ≡ Some src → IsKnown (constants_of Q) o
    → IsAgain Q op o (operand_code Q (constants_of Q) o)
operand_by Q op m operands.Absent src room form ok there known = value_op Q op operands.Absent 65535 (jumps op m operands.Absent form) (calls op m operands.Absent form) (absent_again Q)
operand_by Q op m (operands.Literal v) src room form ok there known =
    value_op Q op (operands.Literal v) (operand_code Q (constants_of Q) (operands.Literal v)) (jumps op m (operands.Literal v) form) (calls op m (operands.Literal v) form) (value_again Q (operands.Literal v) src room refl ok there known)
operand_by Q op m (operands.Variable name) src room form ok there known =
    value_op Q op (operands.Variable name) (operand_code Q (constants_of Q) (operands.Variable name)) (jumps op m (operands.Variable name) form) (calls op m (operands.Variable name) form) (value_again Q (operands.Variable name) src room refl ok there known)
operand_by Q op m (operands.Direct loc) src room form ok there known =
    value_op Q op (operands.Direct loc) (operand_code Q (constants_of Q) (operands.Direct loc)) (jumps op m (operands.Direct loc) form) (calls op m (operands.Direct loc) form) (value_again Q (operands.Direct loc) src room refl ok there known)
operand_by Q op m (operands.Field name field) src room form ok there known =
    value_op Q op (operands.Field name field) (operand_code Q (constants_of Q) (operands.Field name field)) (jumps op m (operands.Field name field) form) (calls op m (operands.Field name field) form) (value_again Q (operands.Field name field) src room refl ok there known)
operand_by Q op m (operands.Bare z) src room form ok there known = absurd (bare_form (usage_of op).form m.opens z form)
operand_by Q op m (operands.Label name) src room form ok there known = label_again Q op name src room (jumps op m (operands.Label name) form) there
operand_by Q op m (operands.Instance name) src room form ok there known = called_again Q op name src room (jumps op m (operands.Instance name) form) (calls op m (operands.Instance name) form) there

-- an argument without a fault reads back
argument_fits : (Q : Program) (k : BlockKind) (a : Argument) → HasRoom Q → IsPassed (declared_by Q) a → IsArgumentOf Q k a → IsKnown (constants_of Q) a.operand → IsPassing Q (Some k) a
argument_fits Q k a room ok is known =
    let r = value_again Q a.operand is.source room ok.form ok.operand is.sourced known in
    let f = field_so k a.field is.number is.numbered in
    record {
      number = is.number;
      field = is.numbered;
      name = ap (λ (o : Option Field). elim o [ Some field ↦ field_name field | None ↦ [] ]) f.there ∙ f.named;
      small = f.small;
      operand_read = again (has_form forms.Value false) (value_operand (declared_by Q) (constants_of Q) (operand_code Q (constants_of Q) a.operand)) a.operand r.read ok.form;
      operand_small = r.small;
    }

arguments_fit : (Q : Program) (k : BlockKind) (args : List Argument) → HasRoom Q → AllByRecursion (IsPassed (declared_by Q)) args → AllByRecursion (IsArgumentOf Q k) args
    → AllByRecursion (IsKnown (constants_of Q)) (map (λ (a : Argument). a.operand) args) → AllByRecursion (IsPassing Q (Some k)) args
arguments_fit Q k [] room ok are known = tt
arguments_fit Q k (a ∷ args) room ok are known = (argument_fits Q k a room ok.0 are.0 known.0, arguments_fit Q k args room ok.1 are.1 known.1)

no_passing : (Q : Program) (kind : Option BlockKind) (args : List Argument) → args ≡ [] → AllByRecursion (IsPassing Q kind) args
no_passing Q kind args none = subst (AllByRecursion (IsPassing Q kind)) (sym none) tt

passing_by : (kind : Option BlockKind) (Q : Program) (args : List Argument) → HasRoom Q → arguments_fault Q kind [] args ≡ None → AllByRecursion (IsPassed (declared_by Q)) args
    → AllByRecursion (IsKnown (constants_of Q)) (map (λ (a : Argument). a.operand) args) → AllByRecursion (IsPassing Q kind) args
passing_by None Q args room h ok known = no_passing Q None args (no_arguments Q [] args h)
passing_by (Some k) Q args room h ok known = arguments_fit Q k args room ok (arguments_typed Q k [] args h) known

called_is : (Q : Program) (o : Operand) (k : BlockKind) → called_kind Q o ≡ Some k → is_instance o ≡ true
called_is Q operands.Absent k e = absurd cc
called_is Q (operands.Literal v) k e = absurd cc
called_is Q (operands.Bare z) k e = absurd cc
called_is Q (operands.Variable name) k e = absurd cc
called_is Q (operands.Direct loc) k e = absurd cc
called_is Q (operands.Label name) k e = absurd cc
called_is Q (operands.Field name field) k e = absurd cc
called_is Q (operands.Instance name) k e = refl

-- only a call has arguments
called_by : (kind : Option BlockKind) (Q : Program) (line : Instr) → called_kind Q line.operand ≡ kind → arguments_fault Q kind [] line.arguments ≡ None → formed_by (usage_of line.op) line.modifier line.operand ≡ true
    → (is_call line.op || nat_eq (length line.arguments) 0) ≡ true
called_by None Q line e h form = or_right (is_call line.op) (nat_eq (length line.arguments) 0) (ap (λ (args : List Argument). nat_eq (length args) 0) (no_arguments Q [] line.arguments h))
called_by (Some k) Q line e h form = or_left (is_call line.op) (nat_eq (length line.arguments) 0) (calls line.op line.modifier line.operand form ∙ called_is Q line.operand k e)

word_fits : (Q : Program) (line : Instr) → HasRoom Q → IsLawful (declared_by Q) line → IsTypedLine Q line → AllByRecursion (IsKnown (constants_of Q)) (operands_in line) → IsWord Q line
word_fits Q line room is typed known =
    let o = operand_by Q line.op line.modifier line.operand typed.source room is.form is.operand typed.sourced known.0 in
    let code = operand_code Q (constants_of Q) line.operand in
    record {
      coded = record {
        op_read = listed line.op;
        op_small = op_below line.op;
        letters = letters_again line.op line.modifier is.letters;
        letters_small = letters_below line.modifier.negated line.modifier.conditional line.modifier.opens;
        operand_read = again (formed_by (usage_of line.op) line.modifier) (numbered_operand (declared_by Q) (marks_from 0 Q.code) (constants_of Q) line.op code) line.operand o.read is.form;
        operand_small = o.small;
      };
      labelled = is.labelled;
      arguments = passing_by (called_kind Q line.operand) Q line.arguments room typed.arguments is.arguments known.1;
      called = called_by (called_kind Q line.operand) Q line refl typed.arguments is.form;
    }

words_fit : (Q : Program) (seen code : List Instr) → HasRoom Q → AreLawful (declared_by Q) code → AllByRecursion (IsTypedLine Q) code → AllByRecursion (IsKnown (constants_of Q)) (operands_of code) → AreItems (λ seen. IsWord Q) seen code
words_fit Q seen [] room lawful typed known = tt
words_fit Q seen (line ∷ code) room lawful typed known =
    let k = all_front (IsKnown (constants_of Q)) (operands_in line) (operands_of code) known in
    (word_fits Q line room lawful.0 typed.0 k.0, words_fit Q (seen ++ line ∷ []) code room lawful.1 typed.1 k.1)

line_at : (before : List Instr) (line : Instr) (code : List Instr) → slice_get (before ++ line ∷ code) (length before) ≡ Some line
line_at [] line code = refl
line_at (l ∷ before) line code = line_at before line code

-- ---- the table of labels

abbrev known_label : List Mark → List ℕ → Bool
known_label seen name = is_some (position (λ (m : Mark). same_name m.name name) seen)

abbrev has_line : List Instr → List ℕ → Bool
has_line before name = is_some (position (has_label name) before)

record AreKnown (seen : List Mark) (before : List Instr) : Type 0 where
  each : (x : List ℕ) → known_label seen x ≡ true → has_line before x ≡ true

-- a label of a typed program stands where it is found
label_stands : (Q : Program) (n : ℕ) (line : Instr) (name : List ℕ) → HasNoTypeFault Q → n < length Q.code → slice_get Q.code n ≡ Some line → line.label ≡ Some name → target_of Q name ≡ Some n
label_stands Q n line name typed lt here is =
    let all = bind_ok (shape_at Q (length Q.code)) (typing_end Q) tt typed in
    let sh = ok_before Q (length Q.code) all.0 all.1 n (omega arith) in
    let l = typed_line Q typed n sh.0 line lt sh.1 here in
    let row : label_row Q n (length sh.0.kept) (Some name) ≡ Ok tt = sym (ap (label_row Q n (length sh.0.kept)) is) ∙ l.label in
    first_by (target_of Q name) n (length sh.0.kept) row

some_same : (a b : ℕ) → (let o : Option ℕ = Some a in o ≡ Some b) → a ≡ b
some_same a b e = cc

true_not : (b : Bool) → b ≡ true → b ≡ false → ⊥
true_not true e h = cc
true_not false e h = cc

before_by : (o : Option ℕ) (name : List ℕ) (before rest : List Instr) → position (has_label name) before ≡ o → position (has_label name) (before ++ rest) ≡ Some (length before) → is_some o ≡ false
before_by None name before rest e h = refl
before_by (Some k) name before rest e h =
    let f = position_front (has_label name) before rest k e in
    let lt = f.before in
    absurd (let is : k ≡ length before = some_same k (length before) (sym f.there ∙ h) in omega arith)

not_known : (b : Bool) (seen : List Mark) (before : List Instr) (name : List ℕ) → AreKnown seen before → known_label seen name ≡ b → has_line before name ≡ false → b ≡ false
not_known true seen before name are e h = absurd (true_not (has_line before name) (are.each name e) h)
not_known false seen before name are e h = refl

same_self_name : (name : List ℕ) → same_name name name ≡ true
same_self_name name = (bytes_eq-Decides name name).1 refl

not_false : (b : Bool) → b ≡ false → not b ≡ true
not_false true e = absurd cc
not_false false e = refl

and_both : (a b : Bool) → a ≡ true → b ≡ true → (a && b) ≡ true
and_both true b e h = h
and_both false b e h = absurd cc

mark_fits : (Q : Program) (seen : List Mark) (before : List Instr) (line : Instr) (code : List Instr) (name : List ℕ) → words_in Q.code ≤ 36864 → HasNoTypeFault Q → Q.code ≡ before ++ line ∷ code → AreKnown seen before → line.label ≡ Some name → IsLabel (Some name) → IsMark seen (record { name = name; at = words_in before })
mark_fits Q seen before line code name few typed all known is ok =
    let here : slice_get Q.code (length before) ≡ Some line = ap (λ (c : List Instr). slice_get c (length before)) all ∙ line_at before line code in
    let lt : length before < length Q.code = omega (arith, ap length all, length-append before (line ∷ code)) in
    let stands : target_of Q name ≡ Some (length before) = label_stands Q (length before) line name typed lt here is in
    let found : position (has_label name) (before ++ line ∷ code) ≡ Some (length before) = ap (position (has_label name)) (sym all) ∙ stands in
    let none : has_line before name ≡ false = before_by (position (has_label name) before) name before (line ∷ code) refl found in
    let new : known_label seen name ≡ false = not_known (known_label seen name) seen before name known refl none in
    record { length = ok.0; name = and_both (is_lawful_name name) (not (known_label seen name)) ok.1 (not_false (known_label seen name) new); small = omega (arith, ap words_in all, words_in-append before (line ∷ code)) }

not_none : (o : Option ℕ) → option_map suc o ≡ None → o ≡ None
not_none None e = refl
not_none (Some k) e = absurd cc

no_first : (o : Option ℕ) → o ≡ Some 0 → o ≡ None → ⊥
no_first o e h = cc

none_step : {X : Type 0} (b : Bool) (p : X → Bool) (x : X) (xs : List X) (v : X) → p x ≡ b → position p (x ∷ xs) ≡ None → p v ≡ false → (position p xs ≡ None → position p (xs ++ v ∷ []) ≡ None) → position p (x ∷ (xs ++ v ∷ [])) ≡ None
none_step true p x xs v e h f ih = absurd (no_first (position p (x ∷ xs)) (position_first p x xs e) h)
none_step false p x xs v e h f ih = position_later p x (xs ++ v ∷ []) e ∙ ap (option_map suc) (ih (not_none (position p xs) (sym (position_later p x xs e) ∙ h)))

none_by : {X : Type 0} (p : X → Bool) (xs : List X) (v : X) → position p xs ≡ None → p v ≡ false → position p (xs ++ v ∷ []) ≡ None
none_by p [] v e h = position_later p v [] h
none_by p (x ∷ xs) v e h = none_step (p x) p x xs v refl e h (λ f. none_by p xs v f h)

split_by : {X : Type 0} (o : Option ℕ) (b : Bool) (p : X → Bool) (xs : List X) (v : X) → position p xs ≡ o → p v ≡ b → is_some (position p (xs ++ v ∷ [])) ≡ true → (is_some (position p xs) ≡ true) ⊎ (p v ≡ true)
split_by (Some k) b p xs v e h f = inl (ap is_some e)
split_by None true p xs v e h f = inr h
split_by None false p xs v e h f = absurd (true_not (is_some (position p (xs ++ v ∷ []))) f (ap is_some (none_by p xs v e h)))

has_it : (name x : List ℕ) (line : Instr) → line.label ≡ Some name → same_name name x ≡ true → has_label x line ≡ true
has_it name x line is e = ap (λ (o : Option (List ℕ)). has_label x (record line { label = o })) is ∙ e

known_next : (seen : List Mark) (before : List Instr) (line : Instr) (name : List ℕ) (at : ℕ) (x : List ℕ) → AreKnown seen before → line.label ≡ Some name → (known_label seen x ≡ true) ⊎ (same_name name x ≡ true) → has_line (before ++ line ∷ []) x ≡ true
known_next seen before line name at x known is (inl e) = found_in_front (has_label x) before (line ∷ []) (known.each x e)
known_next seen before line name at x known is (inr e) = found_last (has_label x) before line (has_it name x line is e)

known_same : (seen : List Mark) (before : List Instr) (line : Instr) → AreKnown seen before → AreKnown seen (before ++ line ∷ [])
known_same seen before line known = record { each = λ x e. found_in_front (has_label x) before (line ∷ []) (known.each x e) }

marks_by : (o : Option (List ℕ)) (Q : Program) (seen : List Mark) (before : List Instr) (line : Instr) (code : List Instr) → words_in Q.code ≤ 36864 → HasNoTypeFault Q → Q.code ≡ before ++ line ∷ code → AreKnown seen before → line.label ≡ o → IsLabel o
    → ((seen : List Mark) → AreKnown seen (before ++ line ∷ []) → AreItems IsMark seen (marks_from (words_in before + word_count line) code)) → AreItems IsMark seen (with_mark (words_in before) o (marks_from (words_in before + word_count line) code))
marks_by None Q seen before line code few typed all known is ok ih = ih seen (known_same seen before line known)
marks_by (Some name) Q seen before line code few typed all known is ok ih =
    let m : Mark = record { name = name; at = words_in before } in (
      mark_fits Q seen before line code name few typed all known is ok,
      ih (seen ++ m ∷ []) (record { each = λ x e. known_next seen before line name (words_in before) x known is (split_by (position (λ (m : Mark). same_name m.name x) seen) (same_name name x) (λ (m : Mark). same_name m.name x) seen m refl refl e) }),
    )

marks_fit : (Q : Program) (seen : List Mark) (before code : List Instr) → words_in Q.code ≤ 36864 → HasNoTypeFault Q → Q.code ≡ before ++ code → AreKnown seen before → AreLawful (declared_by Q) code → AreItems IsMark seen (marks_from (words_in before) code)
marks_fit Q seen before [] few typed all known lawful = tt
marks_fit Q seen before (line ∷ code) few typed all known lawful =
    let next : Q.code ≡ (before ++ line ∷ []) ++ code = all ∙ sym (append_assoc before (line ∷ []) code) in
    let long : words_in (before ++ line ∷ []) ≡ words_in before + word_count line = omega (arith, words_in-append before (line ∷ [])) in
    marks_by line.label Q seen before line code few typed all known refl lawful.0.label (λ seen k. subst (λ (n : ℕ). AreItems IsMark seen (marks_from n code)) long (marks_fit Q seen (before ++ line ∷ []) code few typed next k lawful.1))

few_marks_by : (o : Option (List ℕ)) (n k : ℕ) (ms : List Mark) → length ms ≤ k → length (with_mark n o ms) ≤ suc k
few_marks_by None n k ms le = omega arith
few_marks_by (Some name) n k ms le = omega arith

-- there are no more labels than instructions
pub marks_few : (code : List Instr) (n : ℕ) → length (marks_from n code) ≤ length code
marks_few [] n = omega arith
marks_few (line ∷ code) n = few_marks_by line.label n (length code) (marks_from (n + word_count line) code) (marks_few code (n + word_count line))

none_known : (x : List ℕ) → known_label [] x ≡ true → ⊥
none_known x e = cc

-- ---- the whole

-- five constants an instruction
five_few : (Q : Program) → IsTyped Q → length (constants_of Q) ≤ 5 * length Q.code
five_few Q typed =
    let literals = constants_few (operands_of Q.code) [] in
    let more = literals_few Q Q.code (typed_lines Q (faultless Q typed)) in
    omega (arith, literals, more)

pub five_at_most : (Q : Program) → IsImage Q → length (constants_of Q) ≤ 5 * length Q.code
five_at_most Q is = five_few Q is.typed

pub lawful_image : (Q : Program) → AreItems IsVariable [] Q.variables → AreItems (IsInstance Q.variables) [] Q.instances → IsSmall Q → AreLawful (declared_by Q) Q.code → IsTyped Q → IsImage Q
lawful_image Q variables instances small lawful typed =
    let fine = faultless Q typed in
    let lines = typed_lines Q fine in
    let short : length Q.code ≤ 16384 = small.code in
    let words-few : words_in Q.code ≤ 36864 = words_small (length Q.code) (words_in Q.code) small.words (words_few Q Q.code lines) in
    let literals : length (constants_of Q) ≤ literal_count (operands_of Q.code) = (let le = constants_few (operands_of Q.code) [] in omega (arith, le)) in
    let five = five_few Q typed in
    let within : length (constants_of Q) ≤ words_in Q.code = (let more = literals_in_words Q.code in omega (arith, literals, more)) in
    let cs-few : length (constants_of Q) ≤ 32767 = constants_small (length Q.code) (words_in Q.code) (length (constants_of Q)) small.words five within in
    let ms-few : length (marks_from 0 Q.code) ≤ length Q.code = marks_few Q.code 0 in
    let room : HasRoom Q = record { variables = small.variables; instances = small.instances; constants = cs-few; words = words-few } in
    record {
      text = record {
        variables = variables;
        variables_few = small.variables;
        instances = instances;
        instances_few = small.instances;
        labels = marks_fit Q [] [] Q.code words-few fine refl (record { each = λ x e. absurd (none_known x e) }) lawful;
        labels_few = omega (arith, ms-few, short);
        constants = constants_fit (declared_by Q) (operands_of Q.code) [] (operands_fit (declared_by Q) Q.code lawful) tt;
        constants_few = cs-few;
        words = words_fit Q [] Q.code room lawful lines (literals_known (operands_of Q.code) []);
        words_few = words-few;
      };
      short = small.code;
      uncrowded = small.words;
      typed = typed;
    }
