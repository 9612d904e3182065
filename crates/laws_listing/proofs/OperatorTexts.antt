-- The words of operators are read as the operators.
use Rattle.std.proofs.Common.{◌≡◌, ℕ, Bool, true, false, List, ◌++◌, Some, refl, sym, ap, ◌∙◌}
use Rattle.std.specs.Prelude.{codes}
use Rattle.il_model.specs.declared.dialect.Dialect.{Dialect}
use Rattle.il_model.specs.declared.dialect.Dialect.TheVariants as dialects
use Rattle.il_model.specs.declared.codes.Version.TheVariants as versions
use Rattle.il_values.specs.declared.function.Function.{Function}
use Rattle.il_values.specs.declared.shift.Shift.TheVariants as shifts
use Rattle.il_values.specs.declared.function.Function.TheVariants as functions
use Rattle.il_values.specs.declared.op.Op.{Op}
use Rattle.il_values.specs.declared.op.Op.TheVariants as ops
use Rattle.il_values.specs.declared.op.Modifier.{Modifier}
use Rattle.il_model.specs.declared.words.Mnemonic.{Mnemonic}
use Rattle.il_model.specs.Words.{is_well_spelled, look, mnemonic_of, extended_mnemonic_of}
use Rattle.il_values.specs.Spelled.{spells}
use Rattle.il_values.specs.Functions.{look_function, function_named}
use Rattle.il_model.specs.Dialects.{or_extended, operator_in, newest}
use Rattle.il_model.specs.Image.{op_version, may_have}
use Rattle.il_model.specs.Codes.{usage_of, allowed_by}
use Rattle.il_declarations.specs.Resolution.{with_opening}
use Rattle.il_lister.specs.Listing.{op_name, letter}
use Rattle.laws_listing.proofs.NameTexts.{IsWord, word_by}

-- the word of an operator with its letters, but for the parenthesis
abbrev pub operator_word : Op → Modifier → List ℕ
operator_word op m = op_name op ++ (letter m.conditional (codes "C") ++ letter m.negated (codes "N"))

-- the operators that are words
abbrev pub is_word_op : Op → Bool
is_word_op ops.Empty = false
is_word_op ops.Close = false
is_word_op op = true

abbrev pub mnemonic : Op → Modifier → Mnemonic
mnemonic op m = record { op = op; modifier = with_opening false m }

pub record IsOperatorWord (dialect : Dialect) (op : Op) (m : Modifier) : Type 0 where
  pub name : IsWord (operator_word op m)
  pub means : operator_in dialect (operator_word op m) ≡ Some (mnemonic op m)

abbrev pub letters : Bool → Bool → Bool → Modifier
letters n c o = record { negated = n; conditional = c; opens = o }

-- ---- the operators of plain texts

-- the word of an operator of every text
record IsPlainWord (op : Op) (m : Modifier) : Type 0 where
  name : IsWord (operator_word op m)
  means : mnemonic_of (operator_word op m) ≡ Some (mnemonic op m)

by_letters : (op : Op) (n c o : Bool) → is_word_op op ≡ true → may_have versions.Two (op_version op) ≡ true → allowed_by (usage_of op) (letters n c o) ≡ true → IsPlainWord op (letters n c o)
unfolding is_well_spelled spells look mnemonic_of
by_letters ops.Ld false false o w k e = record { name = word_by _ refl; means = refl }
by_letters ops.Ld true false o w k e = record { name = word_by _ refl; means = refl }
by_letters ops.St false false o w k e = record { name = word_by _ refl; means = refl }
by_letters ops.St true false o w k e = record { name = word_by _ refl; means = refl }
by_letters ops.S false false o w k e = record { name = word_by _ refl; means = refl }
by_letters ops.R false false o w k e = record { name = word_by _ refl; means = refl }
by_letters ops.Not false false o w k e = record { name = word_by _ refl; means = refl }
by_letters ops.And false false o w k e = record { name = word_by _ refl; means = refl }
by_letters ops.And true false o w k e = record { name = word_by _ refl; means = refl }
by_letters ops.Or false false o w k e = record { name = word_by _ refl; means = refl }
by_letters ops.Or true false o w k e = record { name = word_by _ refl; means = refl }
by_letters ops.Xor false false o w k e = record { name = word_by _ refl; means = refl }
by_letters ops.Xor true false o w k e = record { name = word_by _ refl; means = refl }
by_letters ops.Add false false o w k e = record { name = word_by _ refl; means = refl }
by_letters ops.Sub false false o w k e = record { name = word_by _ refl; means = refl }
by_letters ops.Mul false false o w k e = record { name = word_by _ refl; means = refl }
by_letters ops.Div false false o w k e = record { name = word_by _ refl; means = refl }
by_letters ops.Mod false false o w k e = record { name = word_by _ refl; means = refl }
by_letters ops.Gt false false o w k e = record { name = word_by _ refl; means = refl }
by_letters ops.Ge false false o w k e = record { name = word_by _ refl; means = refl }
by_letters ops.Eq false false o w k e = record { name = word_by _ refl; means = refl }
by_letters ops.Ne false false o w k e = record { name = word_by _ refl; means = refl }
by_letters ops.Le false false o w k e = record { name = word_by _ refl; means = refl }
by_letters ops.Lt false false o w k e = record { name = word_by _ refl; means = refl }
by_letters ops.Jmp false false o w k e = record { name = word_by _ refl; means = refl }
by_letters ops.Jmp false true o w k e = record { name = word_by _ refl; means = refl }
by_letters ops.Jmp true true o w k e = record { name = word_by _ refl; means = refl }
by_letters ops.Cal false false o w k e = record { name = word_by _ refl; means = refl }
by_letters ops.Cal false true o w k e = record { name = word_by _ refl; means = refl }
by_letters ops.Cal true true o w k e = record { name = word_by _ refl; means = refl }
by_letters ops.Ret false false o w k e = record { name = word_by _ refl; means = refl }
by_letters ops.Ret false true o w k e = record { name = word_by _ refl; means = refl }
by_letters ops.Ret true true o w k e = record { name = word_by _ refl; means = refl }
by_letters ops.IntToDint false false o w k e = record { name = word_by _ refl; means = refl }
by_letters ops.DintToInt false false o w k e = record { name = word_by _ refl; means = refl }
by_letters ops.DintToLint false false o w k e = record { name = word_by _ refl; means = refl }
by_letters ops.LintToDint false false o w k e = record { name = word_by _ refl; means = refl }
by_letters op n c o w k e = absurd cc

in_dialect : (dialect : Dialect) (op : Op) (m : Modifier) → IsPlainWord op m → IsOperatorWord dialect op m
in_dialect dialects.Plain op m is = record { name = is.name; means = is.means }
in_dialect dialects.Extended op m is = record { name = is.name; means = ap (or_extended (operator_word op m)) is.means }

-- ---- those of extended texts alone

function_means : (f : Function) → IsOperatorWord dialects.Extended (ops.Apply f) (letters false false false)
unfolding is_well_spelled spells look mnemonic_of extended_mnemonic_of look_function function_named
function_means functions.IntToReal = record { name = word_by _ refl; means = refl }
function_means functions.DintToReal = record { name = word_by _ refl; means = refl }
function_means functions.LintToReal = record { name = word_by _ refl; means = refl }
function_means functions.TimeToReal = record { name = word_by _ refl; means = refl }
function_means functions.RealToInt = record { name = word_by _ refl; means = refl }
function_means functions.RealToDint = record { name = word_by _ refl; means = refl }
function_means functions.RealToLint = record { name = word_by _ refl; means = refl }
function_means functions.RealToTime = record { name = word_by _ refl; means = refl }
function_means functions.Trunc = record { name = word_by _ refl; means = refl }
function_means functions.Abs = record { name = word_by _ refl; means = refl }
function_means functions.Sqrt = record { name = word_by _ refl; means = refl }
function_means functions.TimeToDint = record { name = word_by _ refl; means = refl }
function_means functions.DintToTime = record { name = word_by _ refl; means = refl }
function_means functions.Move = record { name = word_by _ refl; means = refl }
function_means functions.WordToInt = record { name = word_by _ refl; means = refl }
function_means functions.IntToWord = record { name = word_by _ refl; means = refl }
function_means functions.DwordToDint = record { name = word_by _ refl; means = refl }
function_means functions.DintToDword = record { name = word_by _ refl; means = refl }
function_means functions.WordToDword = record { name = word_by _ refl; means = refl }
function_means functions.DwordToWord = record { name = word_by _ refl; means = refl }

new_word : (op : Op) (n c o : Bool) → may_have versions.Two (op_version op) ≡ false → allowed_by (usage_of op) (letters n c o) ≡ true → IsOperatorWord dialects.Extended op (letters n c o)
unfolding is_well_spelled spells look mnemonic_of extended_mnemonic_of
new_word ops.Min false false o k e = record { name = word_by _ refl; means = refl }
new_word ops.Max false false o k e = record { name = word_by _ refl; means = refl }
new_word (ops.Apply f) false false false k e = function_means f
new_word (ops.Shift shifts.Left) false false false k e = record { name = word_by _ refl; means = refl }
new_word (ops.Shift shifts.Right) false false false k e = record { name = word_by _ refl; means = refl }
new_word (ops.Shift shifts.RotateLeft) false false false k e = record { name = word_by _ refl; means = refl }
new_word (ops.Shift shifts.RotateRight) false false false k e = record { name = word_by _ refl; means = refl }
new_word op n c o k e = absurd cc

-- ---- the whole

by_version : (dialect : Dialect) (op : Op) (m : Modifier) (b : Bool) → may_have versions.Two (op_version op) ≡ b → is_word_op op ≡ true → may_have (newest dialect) (op_version op) ≡ true → allowed_by (usage_of op) m ≡ true → IsOperatorWord dialect op m
by_version dialect op m true k w may e = in_dialect dialect op m (by_letters op m.negated m.conditional m.opens w k e)
by_version dialects.Plain op m false k w may e = let clash : false ≡ true = sym k ∙ may in absurd cc
by_version dialects.Extended op m false k w may e = new_word op m.negated m.conditional m.opens k e

pub operator_again : (dialect : Dialect) (op : Op) (m : Modifier) → is_word_op op ≡ true → may_have (newest dialect) (op_version op) ≡ true → allowed_by (usage_of op) m ≡ true → IsOperatorWord dialect op m
operator_again dialect op m w may e = by_version dialect op m (may_have versions.Two (op_version op)) refl w may e
