-- The constants of the literals, gathered from left to right.
use Rattle.std.proofs.Common.{◌≡◌, ℕ, ◌+◌, ◌<◌, List, [], ◌∷◌, ◌++◌, length, map, drop, Option, refl, sym, ap, ◌∙◌, arith, get_or}
use Rattle.std.proofs.lemmas.List.{drop_more}
use Rattle.il_values.specs.declared.value.Value.{Value}
use Rattle.il_model.specs.declared.program.Argument.{Argument}
use Rattle.il_model.specs.declared.program.Instr.{Instr}
use Rattle.il_model.specs.Settled.{settled_argument}
use Rattle.il_model.specs.Constants.{same_value, operand_literal, joined_constants}
use Rattle.il_assembler.specs.Walk.{constants_in, literals_in, all_literals}
use Rattle.il_assembler.proofs.Addresses.{here_drop}

-- the literals that arguments are
abbrev pub passing_literals : List Argument → List (Option Value)
passing_literals args = map (λ (a : Argument). operand_literal (settled_argument a).operand) args

pub constants_then : (seen : List Value) (xs ys : List (Option Value)) → constants_in seen (xs ++ ys) ≡ constants_in (constants_in seen xs) ys
constants_then seen [] ys = refl
constants_then seen (x ∷ xs) ys = constants_then (joined_constants same_value seen x) xs ys

-- those of an instruction, and then those of the instructions behind it
pub line_gathered : (code : List Instr) (literals : List (Option Value)) (n : ℕ) (line : Instr) (d : Option Value) (found next all : List Value)
    → n < length code → length literals ≡ length code → line ≡ get_or code n line → next ≡ constants_in found (literals_in line (get_or literals n d))
    → constants_in found (all_literals (drop n code) (drop n literals)) ≡ all → constants_in next (all_literals (drop (n + 1) code) (drop (n + 1) literals)) ≡ all
line_gathered code literals n line d found next all lt len here e before =
    let literal = get_or literals n d in
    let rest = all_literals (drop (n + 1) code) (drop (n + 1) literals) in
    ap (λ (vs : List Value). constants_in vs rest) e
    ∙ sym (constants_then found (literals_in line literal) rest)
    ∙ ap (λ (ls : List (Option Value)). constants_in found (all_literals (line ∷ drop (n + 1) code) ls)) (sym (drop_more literals n d (omega arith)))
    ∙ ap (λ (ls : List Instr). constants_in found (all_literals ls (drop n literals))) (sym (here_drop code n line lt here))
    ∙ before
