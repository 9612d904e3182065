-- The constants that words use, each no sooner than the lower ones, are the table by first use.
use Rattle.std.proofs.Common.{◌≡◌, ℕ, suc, ◌<◌, ◌≤◌, Bool, cond, List, [], ◌∷◌, ◌++◌, length, take, Option, Some, None, Result, Ok, refl, sym, ap, subst, ◌∙◌, append_assoc, arith}
use Rattle.std.specs.Prelude.{is_some}
use Rattle.std.specs.List.{position, AllByRecursion}
use Rattle.std.proofs.lemmas.Bool.{lt-ltb, le-ltb, eq-eqb}
use Rattle.std.proofs.lemmas.List.{length-append}
use Rattle.il_values.specs.declared.value.Value.{Value}
use Rattle.il_model.specs.declared.program.Operand.{Operand}
use Rattle.il_model.specs.declared.program.Operand.TheVariants as operands
use Rattle.il_model.specs.declared.coded_operand.CodedOperand.{CodedOperand}
use Rattle.il_model.specs.declared.coded_operand.CodedOperand.TheVariants as coded
use Rattle.il_model.specs.Program.{Program, Declarations}
use Rattle.il_model.specs.Marks.{Mark}
use Rattle.il_model.specs.Constants.{same_value, operand_literal, joined_constants, constants_from, step_used}
use Rattle.il_model.specs.CodedOperands.{code_of, with_code, HasOwnCode}
use Rattle.il_model.specs.Image.{numbered, coded_literal, operand_code}
use Rattle.il_model.specs.Fits.{AreItems}
use Rattle.il_model.proofs.CodedOperands.{coded_again}
use Rattle.il_model.proofs.ConstantLists.{AreApart, same_self, used_again, constants_grow}
use Rattle.il_model.proofs.Positions.{position_front, position_behind}
use Rattle.il_loader.specs.declared.word.Word.{Word}
use Rattle.il_loader.specs.declared.word.Content.{Content}
use Rattle.il_loader.specs.declared.word.Content.TheVariants as contents
use Rattle.il_loader.specs.Tables.{operand_in}
use Rattle.il_loader.specs.Judging.{constant_number, constant_in, with_used, used_from}
use Rattle.il_loader.proofs.Records.{IsRead, IsNext}
use Rattle.il_loader.proofs.Groups.{word_operands}
use Rattle.il_loader.proofs.Words.{IsConstantAt, literal_read, literal_passed}

-- a word as it was read, wherever it stands
pub record IsReadSomewhere (ds : Declarations) (ms : List Mark) (cs : List Value) (w : Word) : Type 0 where
  pub number : ℕ
  pub read : IsRead ds ms cs number w.code w.content

pub words_read : (ds : Declarations) (ms : List Mark) (cs : List Value) (seen ws : List Word) → AreItems (IsNext ds ms cs) seen ws → AllByRecursion (IsReadSomewhere ds ms cs) ws
words_read ds ms cs seen [] are = tt
words_read ds ms cs seen (w ∷ ws) are = (record { number = length seen; read = are.0 }, words_read ds ms cs (seen ++ w ∷ []) ws are.1)

with_ok : (n : ℕ) (o : Option ℕ) (go : ℕ → Result ℕ ℕ) (x : ℕ) → with_used n o go ≡ Ok x → (u : ℕ) × (o ≡ Some u) × (go u ≡ Ok x)
with_ok n None go x e = absurd cc
with_ok n (Some u) go x e = (u, refl, e)

unused : (same : Value → Value → Bool) (cs : List Value) (u v : ℕ) → (let o : Option ℕ = Some u in o ≡ Some v) → joined_constants same (take u cs) None ≡ take v cs
unused same cs u v e = let is : u ≡ v = cc in ap (λ (n : ℕ). take n cs) is

step_takes : (cs : List Value) (o : Operand) (code u v : ℕ) → AreApart same_value cs → ((x : Value) → o ≡ operands.Literal x → IsConstantAt cs code x) → step_used (constant_in o code) u ≡ Some v → joined_constants same_value (take u cs) (operand_literal o) ≡ take v cs
step_takes cs operands.Absent code u v apart there e = unused same_value cs u v e
step_takes cs (operands.Literal x) code u v apart there e =
    let at = there x refl in
    used_again same_value cs u at.number v x apart at.there (ap (λ (c : Option CodedOperand). step_used (constant_number c) u) (sym at.code) ∙ e)
step_takes cs (operands.Bare z) code u v apart there e = unused same_value cs u v e
step_takes cs (operands.Variable name) code u v apart there e = unused same_value cs u v e
step_takes cs (operands.Direct loc) code u v apart there e = unused same_value cs u v e
step_takes cs (operands.Label name) code u v apart there e = unused same_value cs u v e
step_takes cs (operands.Field name field) code u v apart there e = unused same_value cs u v e
step_takes cs (operands.Instance name) code u v apart there e = unused same_value cs u v e

-- a literal that a word has is the constant of its number
literal_there : (ds : Declarations) (ms : List Mark) (cs : List Value) (n code : ℕ) (c : Content) (x : Value) → IsRead ds ms cs n code c → operand_in c ≡ operands.Literal x → IsConstantAt cs code x
literal_there ds ms cs n code (contents.Instruction line) x is e = literal_read ds ms cs line.op line.modifier code x (is.coded.operand_read ∙ ap (λ (o : Operand). Some o) e)
literal_there ds ms cs n code (contents.Argument side number operand) x is e = literal_passed ds cs code x (is.operand_read ∙ ap (λ (o : Operand). Some o) e)

-- the constants by first use are as many of the table as are used
pub used_take : (ds : Declarations) (ms : List Mark) (cs : List Value) (ws : List Word) (n u v : ℕ) → AreApart same_value cs → AllByRecursion (IsReadSomewhere ds ms cs) ws → used_from n u ws ≡ Ok v → constants_from same_value (take u cs) (word_operands ws) ≡ take v cs
used_take ds ms cs [] n u v apart are e = let is : u ≡ v = cc in ap (λ (n : ℕ). take n cs) is
used_take ds ms cs (w ∷ ws) n u v apart are e =
    let b = with_ok n (step_used (constant_in (operand_in w.content) w.code) u) (λ u. used_from (suc n) u ws) v e in
    let there : (x : Value) → operand_in w.content ≡ operands.Literal x → IsConstantAt cs w.code x = λ x is. literal_there ds ms cs are.0.number w.code w.content x are.0.read is in
    let one = step_takes cs (operand_in w.content) w.code u b.0 apart there b.1 in
    ap (λ (seen : List Value). constants_from same_value seen (word_operands ws)) one ∙ used_take ds ms cs ws (suc n) b.0 v apart are.1 b.2

-- ---- the other way

-- a literal of a table with room for its constants is the constant of its number
constant_under : (cs : List Value) (v : Value) (k : ℕ) → length cs ≤ 32767 → position (same_value v) cs ≡ Some k → k < length cs → constant_number (with_code (code_of (coded_literal cs v))) ≡ Some k
constant_under cs v k few e lt =
    let own : HasOwnCode (coded.Constant k) = omega arith in
    ap (λ (p : Option ℕ). constant_number (with_code (code_of (numbered coded.Constant p)))) e ∙ ap constant_number (coded_again (coded.Constant k) own)

-- the constants with one that was there, or with a new one
known_step : (seen more : List Value) (v : Value) (k : ℕ) → length (seen ++ more) ≤ 32767 → position (same_value v) seen ≡ Some k → step_used (constant_number (with_code (code_of (coded_literal (seen ++ more) v)))) (length seen) ≡ Some (length seen)
known_step seen more v k few e =
    let f = position_front (same_value v) seen more k e in
    let lt : k < length seen = f.before in
    let under = constant_under (seen ++ more) v k few f.there (omega (arith, length-append seen more)) in
    ap (λ (o : Option ℕ). step_used o (length seen)) under ∙ rw (lt-ltb k (length seen) lt) refl

new_step : (seen more : List Value) (v : Value) → length ((seen ++ v ∷ []) ++ more) ≤ 32767 → position (same_value v) seen ≡ None
    → step_used (constant_number (with_code (code_of (coded_literal ((seen ++ v ∷ []) ++ more) v)))) (length seen) ≡ Some (length (seen ++ v ∷ []))
new_step seen more v few e =
    let found : position (same_value v) ((seen ++ v ∷ []) ++ more) ≡ Some (length seen) = ap (position (same_value v)) (append_assoc seen (v ∷ []) more) ∙ position_behind (same_value v) seen v more e (same_self v) in
    let long : suc (length seen) ≡ length (seen ++ v ∷ []) = omega (arith, length-append seen (v ∷ [])) in
    let under = constant_under ((seen ++ v ∷ []) ++ more) v (length seen) few found (omega (arith, long, length-append (seen ++ v ∷ []) more)) in
    ap (λ (o : Option ℕ). step_used o (length seen)) under ∙ rw (le-ltb (length seen) (length seen) (omega arith), eq-eqb (length seen) (length seen) refl) (ap (λ (n : ℕ). Some n) long)

literal_step : (o : Option ℕ) (cs seen : List Value) (v : Value) (os : List Operand) → length cs ≤ 32767 → position (same_value v) seen ≡ o → cs ≡ constants_from same_value (cond (is_some o) seen (seen ++ v ∷ [])) os
    → step_used (constant_number (with_code (code_of (coded_literal cs v)))) (length seen) ≡ Some (length (cond (is_some o) seen (seen ++ v ∷ [])))
literal_step None cs seen v os few e is =
    let m = constants_grow os (seen ++ v ∷ []) in
    let all : cs ≡ (seen ++ v ∷ []) ++ m.more = is ∙ m.is in
    ap (λ (all : List Value). step_used (constant_number (with_code (code_of (coded_literal all v)))) (length seen)) all ∙ new_step seen m.more v (subst (λ (xs : List Value). length xs ≤ 32767) all few) e
literal_step (Some k) cs seen v os few e is =
    let m = constants_grow os seen in
    let all : cs ≡ seen ++ m.more = is ∙ m.is in
    ap (λ (all : List Value). step_used (constant_number (with_code (code_of (coded_literal all v)))) (length seen)) all ∙ known_step seen m.more v k (subst (λ (xs : List Value). length xs ≤ 32767) all few) e

step_again : (Q : Program) (cs seen : List Value) (o : Operand) (os : List Operand) → length cs ≤ 32767 → cs ≡ constants_from same_value (joined_constants same_value seen (operand_literal o)) os → step_used (constant_in o (operand_code Q cs o)) (length seen) ≡ Some (length (joined_constants same_value seen (operand_literal o)))
step_again Q cs seen operands.Absent os few is = refl
step_again Q cs seen (operands.Literal v) os few is = literal_step (position (same_value v) seen) cs seen v os few refl is
step_again Q cs seen (operands.Bare z) os few is = refl
step_again Q cs seen (operands.Variable name) os few is = refl
step_again Q cs seen (operands.Direct loc) os few is = refl
step_again Q cs seen (operands.Label name) os few is = refl
step_again Q cs seen (operands.Field name field) os few is = refl
step_again Q cs seen (operands.Instance name) os few is = refl

-- the word's number is that of its operand
abbrev pub IsCoded : Program → List Value → Word → Type 0
IsCoded Q cs w = w.code ≡ operand_code Q cs (operand_in w.content)

-- the words of a program use its constants in order
pub used_again_all : (Q : Program) (cs seen : List Value) (ws : List Word) (n : ℕ) → length cs ≤ 32767 → AllByRecursion (IsCoded Q cs) ws → cs ≡ constants_from same_value seen (word_operands ws) → used_from n (length seen) ws ≡ Ok (length cs)
used_again_all Q cs seen [] n few fits is = ap (λ (k : ℕ). let r : Result ℕ ℕ = Ok k in r) (ap length (sym is))
used_again_all Q cs seen (w ∷ ws) n few fits is =
    let o = operand_in w.content in
    let next = joined_constants same_value seen (operand_literal o) in
    let go = λ (u : ℕ). used_from (suc n) u ws in
    ap (λ (code : ℕ). with_used n (step_used (constant_in o code) (length seen)) go) fits.0
    ∙ ap (λ (p : Option ℕ). with_used n p go) (step_again Q cs seen o (word_operands ws) few is)
    ∙ used_again_all Q cs next ws (suc n) few fits.1 is
