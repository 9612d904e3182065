-- The literals of a typed program, gathered from left to right.
use Rattle.std.proofs.Common.{◌≡◌, ℕ, zero, suc, ◌+◌, ◌<◌, ◌≤◌, List, [], ◌∷◌, ◌++◌, length, take, Option, Some, Ok, Err, refl, sym, ap, ◌∙◌, arith}
use Rattle.std.specs.Prelude.{slice_get}
use Rattle.std.proofs.lemmas.List.{length-map}
use Rattle.il_values.specs.declared.value.Value.{Value}
use Rattle.il_model.specs.declared.program.Instr.{Instr}
use Rattle.il_model.specs.declared.typing.TypeFault.{TypeFault}
use Rattle.il_model.specs.Program.{Program}
use Rattle.il_model.specs.Constants.{operand_literal}
use Rattle.il_model.specs.Typing.{Shape}
use Rattle.il_model.specs.Checking.{shape_at}
use Rattle.il_model.specs.Settled.{settled_operand, settled_line, settled_text, typed_program_of}
use Rattle.il_model.proofs.SettledPrograms.{here_settled, text_count, stays_open, ends_settled, typed_program}
use Rattle.il_assembler.specs.Walk.{literals_of}

more : (code : List Instr) (n : ℕ) (line : Instr) → slice_get code n ≡ Some line → literals_of (take n code) ++ operand_literal line.operand ∷ [] ≡ literals_of (take (suc n) code)
more [] n line e = absurd cc
more (l ∷ code) zero line e = let is : l ≡ line = cc in ap (λ (x : Instr). operand_literal x.operand ∷ []) (sym is)
more (l ∷ code) (suc n) line e = ap (λ (ls : List (Option Value)). operand_literal l.operand ∷ ls) (more code n line e)

pub one_more : (P : Program) (n : ℕ) (sh : Shape) (line : Instr) (found new : List (Option Value)) (literal : Option Value)
    → shape_at (settled_text P) n ≡ Ok sh → slice_get P.code n ≡ Some line → found ≡ literals_of (take n (settled_text P).code)
    → literal ≡ operand_literal (settled_operand sh.cr line.op line.modifier line.operand) → new ≡ found ++ literal ∷ [] → new ≡ literals_of (take (n + 1) (settled_text P).code)
one_more P n sh line found new literal at here is literal-is e =
    let next : suc n ≡ n + 1 = omega arith in
    e ∙ ap (λ (ls : List (Option Value)). ls ++ literal ∷ []) is
    ∙ ap (λ (o : Option Value). literals_of (take n (settled_text P).code) ++ o ∷ []) literal-is
    ∙ more (settled_text P).code n (settled_line sh.cr line) (here_settled P n sh line at here)
    ∙ ap (λ (k : ℕ). literals_of (take k (settled_text P).code)) next

whole : (code : List Instr) (n : ℕ) → length code ≤ n → take n code ≡ code
whole [] zero le = refl
whole [] (suc n) le = refl
whole (line ∷ code) zero le = absurd (omega arith)
whole (line ∷ code) (suc n) le = ap (λ (ls : List Instr). line ∷ ls) (whole code n (omega arith))

pub all_found : (P : Program) (n count : ℕ) (found : List (Option Value)) → n ≡ count → count ≡ length P.code → found ≡ literals_of (take n (settled_text P).code) → found ≡ literals_of (settled_text P).code
all_found P n count found is len e = e ∙ ap literals_of (whole (settled_text P).code n (omega (arith, is, len, text_count P)))

pub open_at_end : (P : Program) (n count : ℕ) (sh : Shape) → n ≡ count → count ≡ length P.code → shape_at (settled_text P) n ≡ Ok sh → 0 < length sh.kept → typed_program_of P ≡ Err (TypeFault.Unbalanced, count)
open_at_end P n count sh is len at lt =
    stays_open P sh (ap (shape_at (settled_text P)) (sym (is ∙ len)) ∙ at) lt ∙ ap (λ (k : ℕ). Err (TypeFault.Unbalanced, k)) (sym len)

pub closed_at_end : (P : Program) (n count : ℕ) (sh : Shape) → n ≡ count → count ≡ length P.code → shape_at (settled_text P) n ≡ Ok sh → length sh.kept ≤ 0 → typed_program_of P ≡ Ok (settled_text P)
closed_at_end P n count sh is len at le = ends_settled P sh (ap (shape_at (settled_text P)) (sym (is ∙ len)) ∙ at) le

pub literals_count : (P Q : Program) (literals : List (Option Value)) → typed_program_of P ≡ Ok Q → literals ≡ literals_of Q.code → length literals ≡ length P.code
literals_count P Q literals e is = ap length is ∙ length-map Q.code (λ (line : Instr). operand_literal line.operand) ∙ (typed_program P Q e).count
