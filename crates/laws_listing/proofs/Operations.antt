-- The listing's operations are spelled as the grammar has them.
use Rattle.std.proofs.Common.{◌≡◌, ℕ, Bool, true, false, List, [], ◌∷◌, ◌++◌, length, Option, Some, None, refl, sym, ap, ◌∙◌, subst, ◌&&◌, ◌||◌, not, append_assoc}
use Rattle.std.specs.Prelude.{codes, is_none}
use Rattle.std.specs.List.{AllByRecursion}
use Rattle.il_model.specs.declared.dialect.Dialect.{Dialect}
use Rattle.il_model.specs.declared.dialect.Dialect.TheVariants as dialects
use Rattle.il_values.specs.declared.op.Op.{Op}
use Rattle.il_values.specs.declared.op.Op.TheVariants as ops
use Rattle.il_values.specs.declared.op.Modifier.{Modifier}
use Rattle.il_model.specs.declared.program.Operand.{Operand}
use Rattle.il_model.specs.declared.program.Operand.TheVariants as operands
use Rattle.il_model.specs.declared.program.Argument.{Argument}
use Rattle.il_model.specs.declared.program.Instr.{Instr}
use Rattle.il_model.specs.declared.codes.OperandForm.TheVariants as usages
use Rattle.il_model.specs.declared.codes.LetterSet.TheVariants as sets
use Rattle.il_model.specs.Program.{Declarations}
use Rattle.il_model.specs.Words.{look, mnemonic_of, extended_mnemonic_of}
use Rattle.il_values.specs.Spelled.{spells}
use Rattle.il_values.specs.Functions.{look_function, function_named}
use Rattle.il_model.specs.Dialects.{operator_in}
use Rattle.il_model.specs.Codes.{usage_of, allows, has_form, allowed_by, formed_by, is_empty}
use Rattle.il_reader.specs.declared.operations.Form.TheVariants as forms
use Rattle.il_reader.specs.declared.contents.Operator.{Operator}
use Rattle.il_reader.specs.declared.lexeme.Sign.TheVariants as signs
use Rattle.il_reader.specs.Tokens.{Token, tokens_behind, piece_of, tokens_of}
use Rattle.il_reader.specs.Front.{is_sign, is_end, is_word_token, next_is}
use Rattle.il_reader.specs.Grammar.{no_dot, no_open, is_line_stop, form_of, operator_of, is_label, is_no_label, block_word, BehindText}
use Rattle.il_reader.specs.Spelling.{ahead, Spell, accepts, operator_before, spelled_operand, spelled_behind, spelled_operation}
use Rattle.il_lister.specs.Listing.{letter, operand_text, behind_text, arguments_text, operation_text}
use Rattle.laws_listing.proofs.Fronts.{both_true, not_true}
use Rattle.laws_listing.proofs.NameTexts.{IsFreeName, capital_word, spelled_is}
use Rattle.laws_listing.proofs.OperatorTexts.{letters, operator_word, is_word_op, mnemonic, IsOperatorWord, operator_again}
use Rattle.laws_listing.proofs.Listable.{IsListedOperand, IsListedArgument, IsListedLine}
use Rattle.laws_listing.proofs.Written.{token_at, written_operand, written_value, written_absent, written_behind, written_operation}
use Rattle.laws_listing.proofs.Resolves.{instr, no_args, is_instance, lone_args, label_closed, instance_closed}
use Rattle.laws_listing.proofs.Pieces.{is_name_end, EndsOperand, name_token, word_token, blank_skips, open_token, close_token}
use Rattle.laws_listing.proofs.Parts.{Begins, spell_same, spell_this, spell_one, spell_operator}
use Rattle.laws_listing.proofs.Arguments.{arguments_end, IsSpelledValue, value_spelled, call_spelled}

-- ---- what an operator takes

operand_takes : (dialect : Dialect) (b : Bool) (o : Operand) (args : List Argument) (rest : List ℕ) → b ≡ false → has_form usages.Value b o ≡ true → accepts forms.Operand (written_behind dialect b o args rest) ≡ true
operand_takes dialect true o args rest e f = absurd cc
operand_takes dialect false operands.Absent args rest e f = absurd cc
operand_takes dialect false (operands.Literal v) args rest e f = refl
operand_takes dialect false (operands.Bare z) args rest e f = absurd cc
operand_takes dialect false (operands.Variable w) args rest e f = refl
operand_takes dialect false (operands.Direct loc) args rest e f = refl
operand_takes dialect false (operands.Label w) args rest e f = absurd cc
operand_takes dialect false (operands.Field w field) args rest e f = refl
operand_takes dialect false (operands.Instance w) args rest e f = absurd cc

either_takes : (dialect : Dialect) (b : Bool) (o : Operand) (args : List Argument) (rest : List ℕ) → has_form usages.Value b o ≡ true → accepts forms.Either (written_behind dialect b o args rest) ≡ true
either_takes dialect true operands.Absent args rest f = refl
either_takes dialect false operands.Absent args rest f = absurd cc
either_takes dialect true (operands.Literal v) args rest f = refl
either_takes dialect false (operands.Literal v) args rest f = refl
either_takes dialect true (operands.Bare z) args rest f = absurd cc
either_takes dialect false (operands.Bare z) args rest f = absurd cc
either_takes dialect true (operands.Variable w) args rest f = refl
either_takes dialect false (operands.Variable w) args rest f = refl
either_takes dialect true (operands.Direct loc) args rest f = refl
either_takes dialect false (operands.Direct loc) args rest f = refl
either_takes dialect true (operands.Label w) args rest f = absurd cc
either_takes dialect false (operands.Label w) args rest f = absurd cc
either_takes dialect true (operands.Field w field) args rest f = refl
either_takes dialect false (operands.Field w field) args rest f = refl
either_takes dialect true (operands.Instance w) args rest f = absurd cc
either_takes dialect false (operands.Instance w) args rest f = absurd cc

nothing_takes : (dialect : Dialect) (b : Bool) (o : Operand) (args : List Argument) (rest : List ℕ) → b ≡ false → has_form usages.Absent b o ≡ true → accepts forms.Nothing (written_behind dialect b o args rest) ≡ true
nothing_takes dialect true o args rest e f = absurd cc
nothing_takes dialect false operands.Absent args rest e f = refl
nothing_takes dialect false (operands.Literal v) args rest e f = absurd cc
nothing_takes dialect false (operands.Bare z) args rest e f = absurd cc
nothing_takes dialect false (operands.Variable w) args rest e f = absurd cc
nothing_takes dialect false (operands.Direct loc) args rest e f = absurd cc
nothing_takes dialect false (operands.Label w) args rest e f = absurd cc
nothing_takes dialect false (operands.Field w field) args rest e f = absurd cc
nothing_takes dialect false (operands.Instance w) args rest e f = absurd cc

label_takes : (dialect : Dialect) (b : Bool) (o : Operand) (args : List Argument) (rest : List ℕ) → has_form usages.Label b o ≡ true → accepts forms.Label (written_behind dialect b o args rest) ≡ true
label_takes dialect b operands.Absent args rest f = absurd cc
label_takes dialect b (operands.Literal v) args rest f = absurd cc
label_takes dialect b (operands.Bare z) args rest f = absurd cc
label_takes dialect b (operands.Variable w) args rest f = absurd cc
label_takes dialect b (operands.Direct loc) args rest f = absurd cc
label_takes dialect b (operands.Label w) args rest f = refl
label_takes dialect b (operands.Field w field) args rest f = absurd cc
label_takes dialect b (operands.Instance w) args rest f = absurd cc

call_takes : (dialect : Dialect) (b : Bool) (o : Operand) (args : List Argument) (rest : List ℕ) → has_form usages.Instance b o ≡ true → accepts forms.Call (written_behind dialect b o args rest) ≡ true
call_takes dialect b operands.Absent args rest f = absurd cc
call_takes dialect b (operands.Literal v) args rest f = absurd cc
call_takes dialect b (operands.Bare z) args rest f = absurd cc
call_takes dialect b (operands.Variable w) args rest f = absurd cc
call_takes dialect b (operands.Direct loc) args rest f = absurd cc
call_takes dialect b (operands.Label w) args rest f = absurd cc
call_takes dialect b (operands.Field w field) args rest f = absurd cc
call_takes dialect b (operands.Instance w) args rest f = refl

n_closed : (m : Modifier) → allows sets.N m ≡ true → m.opens ≡ false
n_closed m e = not_true m.opens (both_true (not m.conditional) (not m.opens) e).1

none_closed : (m : Modifier) → allows sets.None m ≡ true → m.opens ≡ false
none_closed m e = not_true m.opens (both_true (not m.negated && not m.conditional) (not m.opens) e).1

c_closed : (m : Modifier) → allows sets.C m ≡ true → m.opens ≡ false
c_closed m e = not_true m.opens (both_true (m.conditional || not m.negated) (not m.opens) e).1

takes : (dialect : Dialect) (op : Op) (m : Modifier) (o : Operand) (args : List Argument) (rest : List ℕ) → allowed_by (usage_of op) m ≡ true → formed_by (usage_of op) m o ≡ true → accepts (form_of op) (written_behind dialect m.opens o args rest) ≡ true
takes dialect ops.Empty m o args rest a f = nothing_takes dialect m.opens o args rest (none_closed m a) f
takes dialect ops.Ld m o args rest a f = operand_takes dialect m.opens o args rest (n_closed m a) f
takes dialect ops.St m o args rest a f = operand_takes dialect m.opens o args rest (n_closed m a) f
takes dialect ops.S m o args rest a f = operand_takes dialect m.opens o args rest (none_closed m a) f
takes dialect ops.R m o args rest a f = operand_takes dialect m.opens o args rest (none_closed m a) f
takes dialect ops.And m o args rest a f = either_takes dialect m.opens o args rest f
takes dialect ops.Or m o args rest a f = either_takes dialect m.opens o args rest f
takes dialect ops.Xor m o args rest a f = either_takes dialect m.opens o args rest f
takes dialect ops.Not m o args rest a f = nothing_takes dialect m.opens o args rest (none_closed m a) f
takes dialect ops.Add m o args rest a f = either_takes dialect m.opens o args rest f
takes dialect ops.Sub m o args rest a f = either_takes dialect m.opens o args rest f
takes dialect ops.Min m o args rest a f = either_takes dialect m.opens o args rest f
takes dialect ops.Max m o args rest a f = either_takes dialect m.opens o args rest f
takes dialect ops.Mul m o args rest a f = either_takes dialect m.opens o args rest f
takes dialect ops.Div m o args rest a f = either_takes dialect m.opens o args rest f
takes dialect ops.Mod m o args rest a f = either_takes dialect m.opens o args rest f
takes dialect ops.Gt m o args rest a f = either_takes dialect m.opens o args rest f
takes dialect ops.Ge m o args rest a f = either_takes dialect m.opens o args rest f
takes dialect ops.Eq m o args rest a f = either_takes dialect m.opens o args rest f
takes dialect ops.Ne m o args rest a f = either_takes dialect m.opens o args rest f
takes dialect ops.Le m o args rest a f = either_takes dialect m.opens o args rest f
takes dialect ops.Lt m o args rest a f = either_takes dialect m.opens o args rest f
takes dialect ops.Jmp m o args rest a f = label_takes dialect m.opens o args rest f
takes dialect ops.Cal m o args rest a f = call_takes dialect m.opens o args rest f
takes dialect ops.Ret m o args rest a f = nothing_takes dialect m.opens o args rest (c_closed m a) f
takes dialect ops.Close m o args rest a f = nothing_takes dialect m.opens o args rest (none_closed m a) f
takes dialect ops.IntToDint m o args rest a f = nothing_takes dialect m.opens o args rest (none_closed m a) f
takes dialect ops.DintToInt m o args rest a f = nothing_takes dialect m.opens o args rest (none_closed m a) f
takes dialect ops.DintToLint m o args rest a f = nothing_takes dialect m.opens o args rest (none_closed m a) f
takes dialect ops.LintToDint m o args rest a f = nothing_takes dialect m.opens o args rest (none_closed m a) f
takes dialect (ops.Apply g) m o args rest a f = nothing_takes dialect m.opens o args rest (none_closed m a) f
takes dialect (ops.Shift s) m o args rest a f = operand_takes dialect m.opens o args rest (none_closed m a) f

-- ---- behind an operator, before a line end

-- the bytes behind an operator's word
abbrev pub behind_at : Bool → Operand → List Argument → List ℕ → List ℕ
behind_at b o args rest = letter b (codes "(") ++ (behind_text o ++ (arguments_text args ++ rest))

record IsSpelledBehind (dialect : Dialect) (b : Bool) (o : Operand) (args : List Argument) (rest : List ℕ) : Type 0 where
  spelled : Spell (spelled_behind (written_behind dialect b o args rest)) (tokens_of dialect (behind_at b o args rest)) (tokens_of dialect rest)
  no_colon : next_is signs.Colon (tokens_of dialect (behind_at b o args rest)) ≡ false
  ends : is_name_end (behind_at b o args rest) ≡ true

abbrev line_end : List ℕ → List ℕ
line_end rest = 10 ∷ rest

-- the tokens before a line end
pub stops : (dialect : Dialect) (rest : List ℕ) → is_line_stop (tokens_of dialect (line_end rest)) ≡ true
unfolding tokens_behind piece_of
stops dialect rest = refl

closes_word : (dialect : Dialect) (rest : List ℕ) → no_dot (tokens_of dialect (line_end rest)) ≡ true
unfolding tokens_behind piece_of
closes_word dialect rest = refl

opens_none : (dialect : Dialect) (rest : List ℕ) → no_open (tokens_of dialect (line_end rest)) ≡ true
unfolding tokens_behind piece_of
opens_none dialect rest = refl

colon_none : (dialect : Dialect) (rest : List ℕ) → next_is signs.Colon (tokens_of dialect (line_end rest)) ≡ false
unfolding tokens_behind piece_of
colon_none dialect rest = refl

ends_operand : (rest : List ℕ) → EndsOperand (line_end rest)
ends_operand rest = record { word = refl; literal = refl; address = refl }

absent_behind : (dialect : Dialect) (b : Bool) (rest : List ℕ) → IsSpelledBehind dialect b operands.Absent [] (line_end rest)
absent_behind dialect true rest =
    let e = open_token dialect (line_end rest) refl in
    record {
      spelled = spell_one (is_sign signs.Open) (token_at signs.Open (40 ∷ []) (line_end rest)) (ahead is_line_stop ∷ []) (tokens_of dialect (40 ∷ line_end rest)) (tokens_of dialect (line_end rest)) (tokens_of dialect (line_end rest)) e refl (stops dialect rest, refl);
      no_colon = ap (next_is signs.Colon) e;
      ends = refl;
    }
absent_behind dialect false rest = record { spelled = refl; no_colon = colon_none dialect rest; ends = refl }

-- a blank and an operand, in a parenthesis that is left open or not
record IsSpelledGiven (dialect : Dialect) (b : Bool) (o : Operand) (rest : List ℕ) : Type 0 where
  spelled : Spell (spelled_behind (written_value b (written_operand dialect o rest))) (tokens_of dialect (letter b (codes "(") ++ (32 ∷ (operand_text o ++ rest)))) (tokens_of dialect rest)
  no_colon : next_is signs.Colon (tokens_of dialect (letter b (codes "(") ++ (32 ∷ (operand_text o ++ rest)))) ≡ false
  ends : is_name_end (letter b (codes "(") ++ (32 ∷ (operand_text o ++ rest))) ≡ true

given_behind : (dialect : Dialect) (b : Bool) (o : Operand) (rest : List ℕ) → IsSpelledValue dialect o (line_end rest) → IsSpelledGiven dialect b o (line_end rest)
given_behind dialect true o rest is =
    let u = operand_text o ++ line_end rest in
    let e = open_token dialect (32 ∷ u) refl in
    let s = spell_same (spelled_operand (written_operand dialect o (line_end rest))) (tokens_of dialect (32 ∷ u)) (tokens_of dialect u) (tokens_of dialect (line_end rest)) (blank_skips dialect u) (is.plain (closes_word dialect rest)) in
    record {
      spelled = spell_one (is_sign signs.Open) (token_at signs.Open (40 ∷ []) (32 ∷ u)) (spelled_operand (written_operand dialect o (line_end rest))) (tokens_of dialect (40 ∷ 32 ∷ u)) (tokens_of dialect (32 ∷ u)) (tokens_of dialect (line_end rest)) e refl s;
      no_colon = ap (next_is signs.Colon) e;
      ends = refl;
    }
given_behind dialect false o rest is =
    let u = operand_text o ++ line_end rest in
    record {
      spelled = spell_same (spelled_operand (written_operand dialect o (line_end rest))) (tokens_of dialect (32 ∷ u)) (tokens_of dialect u) (tokens_of dialect (line_end rest)) (blank_skips dialect u) (is.plain (closes_word dialect rest));
      no_colon = ap (next_is signs.Colon) (blank_skips dialect u ∙ is.begins.is) ∙ is.no_colon;
      ends = refl;
    }

label_behind : (dialect : Dialect) (w rest : List ℕ) → IsFreeName dialect w → IsSpelledBehind dialect false (operands.Label w) [] (line_end rest)
label_behind dialect w rest is =
    let u = w ++ line_end rest in
    let e = blank_skips dialect u ∙ name_token dialect w (line_end rest) is.name refl in
    record {
      spelled = spell_this (is_sign signs.Name) (token_at signs.Name w (line_end rest)) [] (tokens_of dialect (32 ∷ u)) (tokens_of dialect (line_end rest)) (tokens_of dialect (line_end rest)) e refl refl;
      no_colon = ap (next_is signs.Colon) e;
      ends = refl;
    }

instance_behind : (dialect : Dialect) (ds : Declarations) (w : List ℕ) (args : List Argument) (rest : List ℕ) → IsFreeName dialect w → AllByRecursion (IsListedArgument dialect ds) args → IsSpelledBehind dialect false (operands.Instance w) args (line_end rest)
instance_behind dialect ds w args rest is all =
    let u = w ++ (arguments_text args ++ line_end rest) in
    let e = blank_skips dialect u ∙ name_token dialect w (arguments_text args ++ line_end rest) is.name (arguments_end args (line_end rest) refl) in
    record {
      spelled = spell_same (spelled_behind (written_behind dialect false (operands.Instance w) args (line_end rest))) (tokens_of dialect (32 ∷ u)) (tokens_of dialect u) (tokens_of dialect (line_end rest)) (blank_skips dialect u) (call_spelled dialect ds w args (line_end rest) is all (opens_none dialect rest) refl);
      no_colon = ap (next_is signs.Colon) e;
      ends = refl;
    }

-- no arguments
bare_behind : (dialect : Dialect) (b : Bool) (o : Operand) (args : List Argument) (rest : List ℕ) → args ≡ [] → IsSpelledBehind dialect b o [] rest → IsSpelledBehind dialect b o args rest
bare_behind dialect b o args rest e is = subst (λ (xs : List Argument). IsSpelledBehind dialect b o xs rest) (sym e) is

behind_spelled : (dialect : Dialect) (ds : Declarations) (op : Op) (m : Modifier) (o : Operand) (args : List Argument) (rest : List ℕ) → IsListedOperand dialect ds o → (is_instance o ≡ false → args ≡ []) → AllByRecursion (IsListedArgument dialect ds) args
    → formed_by (usage_of op) m o ≡ true → allowed_by (usage_of op) m ≡ true → IsSpelledBehind dialect m.opens o args (line_end rest)
behind_spelled dialect ds op m operands.Absent args rest is lone all f a = bare_behind dialect m.opens operands.Absent args (line_end rest) (lone refl) (absent_behind dialect m.opens rest)
behind_spelled dialect ds op m (operands.Literal v) args rest is lone all f a =
    let g = given_behind dialect m.opens (operands.Literal v) rest (value_spelled dialect ds (operands.Literal v) (line_end rest) is (ends_operand rest)) in
    bare_behind dialect m.opens (operands.Literal v) args (line_end rest) (lone refl) (record { spelled = g.spelled; no_colon = g.no_colon; ends = g.ends })
behind_spelled dialect ds op m (operands.Bare z) args rest is lone all f a = absurd is
behind_spelled dialect ds op m (operands.Variable w) args rest is lone all f a =
    let g = given_behind dialect m.opens (operands.Variable w) rest (value_spelled dialect ds (operands.Variable w) (line_end rest) is (ends_operand rest)) in
    bare_behind dialect m.opens (operands.Variable w) args (line_end rest) (lone refl) (record { spelled = g.spelled; no_colon = g.no_colon; ends = g.ends })
behind_spelled dialect ds op m (operands.Direct loc) args rest is lone all f a =
    let g = given_behind dialect m.opens (operands.Direct loc) rest (value_spelled dialect ds (operands.Direct loc) (line_end rest) is (ends_operand rest)) in
    bare_behind dialect m.opens (operands.Direct loc) args (line_end rest) (lone refl) (record { spelled = g.spelled; no_colon = g.no_colon; ends = g.ends })
behind_spelled dialect ds op m (operands.Label w) args rest is lone all f a =
    let b = label_closed op m.negated m.conditional m.opens w f a in
    bare_behind dialect m.opens (operands.Label w) args (line_end rest) (lone refl) (subst (λ (t : Bool). IsSpelledBehind dialect t (operands.Label w) [] (line_end rest)) (sym b) (label_behind dialect w rest is))
behind_spelled dialect ds op m (operands.Field w field) args rest is lone all f a =
    let g = given_behind dialect m.opens (operands.Field w field) rest (value_spelled dialect ds (operands.Field w field) (line_end rest) is (ends_operand rest)) in
    bare_behind dialect m.opens (operands.Field w field) args (line_end rest) (lone refl) (record { spelled = g.spelled; no_colon = g.no_colon; ends = g.ends })
behind_spelled dialect ds op m (operands.Instance w) args rest is lone all f a =
    let b = instance_closed op m.negated m.conditional m.opens w f a in
    subst (λ (t : Bool). IsSpelledBehind dialect t (operands.Instance w) args (line_end rest)) (sym b) (instance_behind dialect ds w args rest is.0 all)

-- ---- operations, before a line end

pub record IsSpelledOperation (dialect : Dialect) (line : Instr) (rest : List ℕ) : Type 0 where
  pub first : Token
  pub more : List Token
  pub begins : Begins (tokens_of dialect (operation_text line ++ rest)) first more
  pub no_end : is_end first ≡ false
  pub no_block : is_word_token (block_word dialect) first ≡ false
  pub no_label : is_no_label dialect (tokens_of dialect (operation_text line ++ rest)) ≡ true
  pub spelled : Spell (spelled_operation dialect (written_operation dialect line rest)) (tokens_of dialect (operation_text line ++ rest)) (tokens_of dialect rest)

operation_joined : (line : Instr) (rest : List ℕ) → operation_text line ++ rest ≡ operator_word line.op line.modifier ++ behind_at line.modifier.opens line.operand line.arguments rest
operation_joined line rest = simp append_assoc refl

abbrev operator_at : Op → Modifier → ℕ → Operator
operator_at op m left = record { mnemonic = mnemonic op m; left = left }

word_operator : (dialect : Dialect) (op : Op) (m : Modifier) (b : BehindText) (rest : List ℕ) → IsOperatorWord dialect op m → accepts (form_of op) b ≡ true
    → operator_before dialect b (token_at signs.Name (operator_word op m) rest) ≡ Some (operator_at op m (length (operator_word op m ++ rest)))
unfolding operator_of
word_operator dialect op m b rest is fits = rw (is.means, fits) refl

no_label_word : (dialect : Dialect) (ts : List Token) (w rest : List ℕ) (us : List Token) → ts ≡ token_at signs.Name w rest ∷ us → next_is signs.Colon us ≡ false → is_none (operator_in dialect w) ≡ false → is_no_label dialect ts ≡ true
unfolding is_label
no_label_word dialect ts w rest us e colon known = ap (is_no_label dialect) e ∙ rw (colon, known) refl

-- an operator is no keyword
no_mnemonic : (dialect : Dialect) → operator_in dialect (block_word dialect) ≡ None
unfolding mnemonic_of extended_mnemonic_of look function_named look_function spells
no_mnemonic dialects.Plain = refl
no_mnemonic dialects.Extended = refl

no_keyword : (dialect : Dialect) (op : Op) (m : Modifier) → IsOperatorWord dialect op m → spells (block_word dialect) (operator_word op m) ≡ false
no_keyword dialect op m is = by_test (spells (block_word dialect) (operator_word op m)) refl
  where
    by_test : (b : Bool) → spells (block_word dialect) (operator_word op m) ≡ b → b ≡ false
    by_test false e = refl
    by_test true e =
        let same : operator_word op m ≡ block_word dialect = sym (capital_word (operator_word op m) is.name) ∙ spelled_is (block_word dialect) (operator_word op m) e in
        let clash : None ≡ Some (mnemonic op m) = sym (no_mnemonic dialect) ∙ ap (operator_in dialect) (sym same) ∙ is.means in
        absurd cc

word_spelled : (dialect : Dialect) (ds : Declarations) (line : Instr) (rest : List ℕ) → IsListedLine dialect ds line → is_word_op line.op ≡ true → IsSpelledOperation dialect line (line_end rest)
word_spelled dialect ds line rest is word =
    let op = line.op in
    let m = line.modifier in
    let u = behind_at m.opens line.operand line.arguments (line_end rest) in
    let o = operator_again dialect op m word is.known is.letters in
    let b = behind_spelled dialect ds op m line.operand line.arguments rest is.operand (lone_args dialect ds line is) is.arguments is.form is.letters in
    let t = token_at signs.Name (operator_word op m) u in
    let ts = tokens_of dialect (operation_text line ++ line_end rest) in
    let joined = operation_joined line (line_end rest) in
    let e : ts ≡ t ∷ tokens_of dialect u = ap (tokens_of dialect) joined ∙ word_token dialect (operator_word op m) u o.name b.ends in
    let x = written_behind dialect m.opens line.operand line.arguments (line_end rest) in
    let f = word_operator dialect op m x u o (takes dialect op m line.operand line.arguments (line_end rest) is.letters is.form) ∙ ap (λ (n : ℕ). Some (operator_at op m n)) (sym (ap length joined)) in
    record {
      first = t;
      more = tokens_of dialect u;
      begins = record { is = e; solid = refl };
      no_end = refl;
      no_block = no_keyword dialect op m o;
      no_label = no_label_word dialect ts (operator_word op m) u (tokens_of dialect u) e b.no_colon (ap is_none o.means);
      spelled = spell_operator (operator_before dialect x) (written_operation dialect line (line_end rest)).operator t (spelled_behind x) ts (tokens_of dialect u) (tokens_of dialect (line_end rest)) e f b.spelled;
    }

-- the right parenthesis
close_lone : (dialect : Dialect) (label : Option (List ℕ)) (rest : List ℕ) → IsSpelledOperation dialect (instr label ops.Close (letters false false false) operands.Absent []) (line_end rest)
unfolding operator_of is_label
close_lone dialect label rest =
    let line = instr label ops.Close (letters false false false) operands.Absent [] in
    let t = token_at signs.Close (41 ∷ []) (line_end rest) in
    let ts = tokens_of dialect (operation_text line ++ line_end rest) in
    let e : ts ≡ t ∷ tokens_of dialect (line_end rest) = close_token dialect (line_end rest) in
    record {
      first = t;
      more = tokens_of dialect (line_end rest);
      begins = record { is = e; solid = refl };
      no_end = refl;
      no_block = refl;
      no_label = ap (is_no_label dialect) e;
      spelled = spell_operator (operator_before dialect (written_absent false)) (written_operation dialect line (line_end rest)).operator t [] ts (tokens_of dialect (line_end rest)) (tokens_of dialect (line_end rest)) e refl refl;
    }

close_spelled : (dialect : Dialect) (label : Option (List ℕ)) (n c b : Bool) (o : Operand) (args : List Argument) (rest : List ℕ) → allowed_by (usage_of ops.Close) (letters n c b) ≡ true → formed_by (usage_of ops.Close) (letters n c b) o ≡ true → args ≡ []
    → IsSpelledOperation dialect (instr label ops.Close (letters n c b) o args) (line_end rest)
close_spelled dialect label false false false operands.Absent args rest a f e = subst (λ (xs : List Argument). IsSpelledOperation dialect (instr label ops.Close (letters false false false) operands.Absent xs) (line_end rest)) (sym e) (close_lone dialect label rest)
close_spelled dialect label n c b o args rest a f e = absurd cc

operation_by : (dialect : Dialect) (ds : Declarations) (label : Option (List ℕ)) (op : Op) (m : Modifier) (o : Operand) (args : List Argument) (rest : List ℕ) → IsListedLine dialect ds (instr label op m o args) → is_empty op ≡ false → IsSpelledOperation dialect (instr label op m o args) (line_end rest)
operation_by dialect ds label ops.Empty m o args rest is full = absurd cc
operation_by dialect ds label ops.Close m o args rest is full = close_spelled dialect label m.negated m.conditional m.opens o args rest is.letters is.form (no_args args is.called)
operation_by dialect ds label op m o args rest is full = word_spelled dialect ds (instr label op m o args) rest is refl

pub operation_spelled : (dialect : Dialect) (ds : Declarations) (line : Instr) (rest : List ℕ) → IsListedLine dialect ds line → is_empty line.op ≡ false → IsSpelledOperation dialect line (10 ∷ rest)
operation_spelled dialect ds line rest is full = operation_by dialect ds line.label line.op line.modifier line.operand line.arguments rest is full
