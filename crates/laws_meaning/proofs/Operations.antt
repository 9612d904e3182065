-- An operation that was read, and the instruction that it is.
use Rattle.std.proofs.Common.{◌≡◌, ℕ, Bool, true, false, List, [], ◌∷◌, map, Option, Some, None, refl, sym, ap, ◌∙◌, subst}
use Rattle.std.specs.Prelude.{option_map, option_and_then, not, ◌||◌, if◌then◌else◌}
use Rattle.std.specs.List.{AllZip, list_all}
use Rattle.std.proofs.lemmas.Bool.{and_parts}
use Rattle.il_values.specs.declared.op.Op.{Op}
use Rattle.il_values.specs.declared.op.Op.TheVariants as ops
use Rattle.il_values.specs.declared.op.Modifier.{Modifier}
use Rattle.il_values.specs.Spelled.{spells}
use Rattle.il_model.specs.declared.dialect.Dialect.TheVariants as dialects
use Rattle.il_model.specs.declared.words.Mnemonic.{Mnemonic}
use Rattle.il_model.specs.declared.program.Argument.{Argument}
use Rattle.il_model.specs.declared.program.Side.{Side}
use Rattle.il_model.specs.declared.program.Operand.{Operand}
use Rattle.il_model.specs.declared.program.Instr.{Instr}
use Rattle.il_model.specs.Words.{plain, mnemonic_of, extended_mnemonic_of, look, mnemonic_table, extended_mnemonic_table}
use Rattle.il_model.specs.Dialects.{operator_in, or_extended, or_function, applied}
use Rattle.il_values.specs.declared.function.Function.{Function}
use Rattle.il_values.specs.Functions.{function_named}
use Rattle.il_reader.specs.declared.lexeme.Sign.TheVariants as signs
use Rattle.il_reader.specs.declared.contents.Operator.{Operator}
use Rattle.il_reader.specs.Tokens.{Token}
use Rattle.il_reader.specs.Front.{is_sign}
use Rattle.il_reader.specs.Grammar.{OperandText, Constant, Direct, Named, Field, ArgumentText, BehindText, Nothing, Given, Target, Opened, Called, OperationText, operator_of, operator_from, closing, form_of, written_arguments}
use Rattle.il_declarations.specs.Resolution.{capitals, opens, with_opening}
use Rattle.il_declarations.specs.Declaring.{DeclaredName, operand_in, operand_behind, arguments_behind, IsArgumentOf, IsOperationOf}
use Rattle.laws_reading.specs.Lines.{unplaced_operand, unplaced_argument, unplaced_behind, unplaced_operation, behind_of, operation_of, operation_by}
use Rattle.laws_meaning.specs.Instructions.{argument_of, arguments_as, instruction_of}

-- ---- places say nothing

operand_same : (names : List DeclaredName) (x : OperandText) → operand_in dialects.Extended names (unplaced_operand x) ≡ operand_in dialects.Extended names x
operand_same names (Constant t) = refl
operand_same names (Direct t) = refl
operand_same names (Named t) = refl
operand_same names (Field t f) = refl

behind_same : (names : List DeclaredName) (b : BehindText) → operand_behind dialects.Extended names (unplaced_behind b) ≡ operand_behind dialects.Extended names b
behind_same names Nothing = refl
behind_same names (Given x) = operand_same names x
behind_same names (Target t) = refl
behind_same names (Opened None) = refl
behind_same names (Opened (Some x)) = operand_same names x
behind_same names (Called c) = refl

opens_same : (b : BehindText) → opens (unplaced_behind b) ≡ opens b
opens_same Nothing = refl
opens_same (Given x) = refl
opens_same (Target t) = refl
opens_same (Opened o) = refl
opens_same (Called c) = refl

argument_same : (names : List DeclaredName) (a : ArgumentText) → argument_of names (unplaced_argument a) ≡ argument_of names a
argument_same names a = ap (option_map (λ (x : Operand). record { field = capitals a.field.text; side = a.side; operand = x })) (operand_same names a.operand)

arguments_same : (names : List DeclaredName) (xs : List ArgumentText) → arguments_as names (map unplaced_argument xs) ≡ arguments_as names xs
arguments_same names [] = refl
arguments_same names (a ∷ xs) =
    ap (λ (o : Option (List Argument)). option_and_then (λ (x : Argument). option_map (λ (ys : List Argument). x ∷ ys) o) (argument_of names (unplaced_argument a))) (arguments_same names xs)
    ∙ ap (option_and_then (λ (x : Argument). option_map (λ (ys : List Argument). x ∷ ys) (arguments_as names xs))) (argument_same names a)

written_same : (names : List DeclaredName) (o : Option (List ArgumentText)) → arguments_as names (written_arguments (option_map (map unplaced_argument) o)) ≡ arguments_as names (written_arguments o)
written_same names None = refl
written_same names (Some xs) = arguments_same names xs

given_same : (names : List DeclaredName) (b : BehindText) → arguments_as names (arguments_behind (unplaced_behind b)) ≡ arguments_as names (arguments_behind b)
given_same names Nothing = refl
given_same names (Given x) = refl
given_same names (Target t) = refl
given_same names (Opened o) = refl
given_same names (Called c) = written_same names c.written

abbrev made : Op → Modifier → Option (List Argument) → Operand → Option Instr
made op m args x = option_map (λ (xs : List Argument). record { label = None; op = op; modifier = m; operand = x; arguments = xs }) args

abbrev made_of : Op → Modifier → Option (List Argument) → Option Operand → Option Instr
made_of op m args o = option_and_then (made op m args) o

pub instruction_same : (names : List DeclaredName) (o : OperationText) → instruction_of names (unplaced_operation o) ≡ instruction_of names o
instruction_same names o =
    let op = o.operator.mnemonic.op in
    let m = o.operator.mnemonic.modifier in
    ap (λ (b : Bool). made_of op (with_opening b m) (arguments_as names (arguments_behind (unplaced_behind o.behind))) (operand_behind dialects.Extended names (unplaced_behind o.behind))) (opens_same o.behind)
    ∙ ap (λ (xs : Option (List Argument)). made_of op (with_opening (opens o.behind) m) xs (operand_behind dialects.Extended names (unplaced_behind o.behind))) (given_same names o.behind)
    ∙ ap (λ (x : Option Operand). made_of op (with_opening (opens o.behind) m) (arguments_as names (arguments_behind o.behind)) x) (behind_same names o.behind)

-- ---- the instruction that a text declares

argument_is : (names : List DeclaredName) (a : ArgumentText) (x : Argument) → IsArgumentOf dialects.Extended names a x → argument_of names a ≡ Some x
argument_is names a x is =
    ap (option_map (λ (y : Operand). record { field = capitals a.field.text; side = a.side; operand = y })) is.operand
    ∙ ap (λ (f : List ℕ). Some (record { field = f; side = a.side; operand = x.operand })) (sym is.field)
    ∙ ap (λ (s : Side). Some (record { field = x.field; side = s; operand = x.operand })) (sym is.side)

arguments_are : (names : List DeclaredName) (args : List ArgumentText) (xs : List Argument) → AllZip (IsArgumentOf dialects.Extended names) args xs → arguments_as names args ≡ Some xs
arguments_are names [] [] all = refl
arguments_are names [] (x ∷ xs) all = absurd all
arguments_are names (a ∷ args) [] all = absurd all
arguments_are names (a ∷ args) (x ∷ xs) all =
    ap (λ (o : Option (List Argument)). option_and_then (λ (y : Argument). option_map (λ (ys : List Argument). y ∷ ys) o) (argument_of names a)) (arguments_are names args xs all.1)
    ∙ ap (option_and_then (λ (y : Argument). option_map (λ (ys : List Argument). y ∷ ys) (Some xs))) (argument_is names a x all.0)

pub instruction_is : (names : List DeclaredName) (o : OperationText) (x : Instr) → IsOperationOf dialects.Extended names o x → instruction_of names o ≡ Some (record x { label = None })
instruction_is names o x is =
    let op = o.operator.mnemonic.op in
    let m = with_opening (opens o.behind) o.operator.mnemonic.modifier in
    ap (λ (xs : Option (List Argument)). made_of op m xs (operand_behind dialects.Extended names o.behind)) (arguments_are names (arguments_behind o.behind) x.arguments is.arguments)
    ∙ ap (made_of op m (Some x.arguments)) is.operand
    ∙ ap (λ (y : Op). Some (record { label = None; op = y; modifier = m; operand = x.operand; arguments = x.arguments })) (sym is.op)
    ∙ ap (λ (y : Modifier). Some (record { label = None; op = x.op; modifier = y; operand = x.operand; arguments = x.arguments })) (sym is.modifier)

-- ---- an operation by its words

-- what tokens say, by their operator
pub record Parts (t : Token) (ts : List Token) (x : OperationText) : Type 0 where
  pub operator : Operator
  pub is : operator_of dialects.Extended t ≡ Some operator
  pub mnemonic : operator.mnemonic ≡ x.operator.mnemonic
  pub behind : behind_of (form_of operator.mnemonic.op) ts ≡ Some (unplaced_behind x.behind)

some_is : {A : Type 0} (x y : A) → Some x ≡ Some y → x ≡ y
some_is x y e = cc

with_parts : (ts : List Token) (o : Operator) (r : Option BehindText) (x : OperationText) → option_map (λ (b : BehindText). record { operator = o; behind = b }) r ≡ Some (unplaced_operation x)
    → (o.mnemonic ≡ x.operator.mnemonic) × (r ≡ Some (unplaced_behind x.behind))
with_parts ts o None x e = absurd cc
with_parts ts o (Some b) x e =
    let same : record { operator = o; behind = b } ≡ unplaced_operation x = some_is (record { operator = o; behind = b }) (unplaced_operation x) e in
    (ap (λ (y : OperationText). y.operator.mnemonic) same, ap (λ (y : OperationText). Some y.behind) same)

parts_by : (t : Token) (ts : List Token) (x : OperationText) (r : Option Operator) → operator_of dialects.Extended t ≡ r → operation_by ts r ≡ Some (unplaced_operation x) → Parts t ts x
parts_by t ts x None is e = absurd cc
parts_by t ts x (Some o) is e =
    let p = with_parts ts o (behind_of (form_of o.mnemonic.op) ts) x e in
    record { operator = o; is = is; mnemonic = p.0; behind = p.1 }

pub parts_of : (t : Token) (ts : List Token) (x : OperationText) → operation_of (t ∷ ts) ≡ Some (unplaced_operation x) → Parts t ts x
parts_of t ts x e = parts_by t ts x (operator_of dialects.Extended t) refl e

-- ---- no operator opens a parenthesis by itself

abbrev opens_none : List ℕ × Op × Modifier → Bool
opens_none e = not e.2.opens

not_false : (b : Bool) → not b ≡ true → b ≡ false
not_false true e = absurd cc
not_false false e = refl

looked_none : (table : List (List ℕ × Op × Modifier)) (w : List ℕ) (m : Mnemonic) → list_all opens_none table ≡ true → look table w ≡ Some m → m.modifier.opens ≡ false
unfolding look
looked_none [] w m all e = absurd cc
looked_none (x ∷ xs) w m all e = by_word (spells x.0 w) e (looked_none xs w m (and_parts (opens_none x) (list_all opens_none xs) all).1)
  where
    by_word : (b : Bool) → (if b then Some (record { op = x.1; modifier = x.2 }) else look xs w) ≡ Some m → (look xs w ≡ Some m → m.modifier.opens ≡ false) → m.modifier.opens ≡ false
    by_word true e more =
        let same : record { op = x.1; modifier = x.2 } ≡ m = some_is (record { op = x.1; modifier = x.2 }) m e in
        subst (λ (y : Mnemonic). y.modifier.opens ≡ false) same (not_false x.2.opens (and_parts (opens_none x) (list_all opens_none xs) all).0)
    by_word false e more = more e

function_none : (o : Option Function) (m : Mnemonic) → applied o ≡ Some m → m.modifier.opens ≡ false
function_none None m e = absurd cc
function_none (Some f) m e = ap (λ (y : Mnemonic). y.modifier.opens) (sym (some_is (record { op = ops.Apply f; modifier = plain }) m e))

extended_none : (w : List ℕ) (o : Option Mnemonic) (m : Mnemonic) → extended_mnemonic_of w ≡ o → or_function w o ≡ Some m → m.modifier.opens ≡ false
unfolding extended_mnemonic_of
extended_none w None m is e = function_none (function_named w) m e
extended_none w (Some n) m is e = looked_none extended_mnemonic_table w m refl (is ∙ e)

operator_none : (w : List ℕ) (o : Option Mnemonic) (m : Mnemonic) → mnemonic_of w ≡ o → or_extended w o ≡ Some m → m.modifier.opens ≡ false
unfolding mnemonic_of
operator_none w None m is e = extended_none w (extended_mnemonic_of w) m refl e
operator_none w (Some n) m is e = looked_none mnemonic_table w m refl (is ∙ e)

from_none : (w : List ℕ) (left : ℕ) (r : Option Mnemonic) (o : Operator) → operator_in dialects.Extended w ≡ r → operator_from left r ≡ Some o → o.mnemonic.modifier.opens ≡ false
from_none w left None o is e = absurd cc
from_none w left (Some m) o is e =
    let same : record { mnemonic = m; left = left } ≡ o = some_is (record { mnemonic = m; left = left }) o e in
    subst (λ (y : Operator). y.mnemonic.modifier.opens ≡ false) same (operator_none w (mnemonic_of w) m refl is)

token_none : (t : Token) (p q : Bool) (o : Operator) → (if p then operator_from t.left (operator_in dialects.Extended t.text) else if q then Some (record { mnemonic = closing; left = t.left }) else None) ≡ Some o
    → o.mnemonic.modifier.opens ≡ false
token_none t true q o e = from_none t.text t.left (operator_in dialects.Extended t.text) o refl e
token_none t false true o e = ap (λ (y : Operator). y.mnemonic.modifier.opens) (sym (some_is (record { mnemonic = closing; left = t.left }) o e))
token_none t false false o e = absurd cc

pub opens_not : (t : Token) (o : Operator) → operator_of dialects.Extended t ≡ Some o → o.mnemonic.modifier.opens ≡ false
unfolding operator_of
opens_not t o e = token_none t (is_sign signs.Name t || is_sign signs.Ampersand t) (is_sign signs.Close t) o e

-- without an opening parenthesis the letters are the operator's
pub letters_kept : (m : Modifier) → m.opens ≡ false → with_opening false m ≡ m
letters_kept m e = ap (λ (b : Bool). record { negated = m.negated; conditional = m.conditional; opens = b }) (sym e)
