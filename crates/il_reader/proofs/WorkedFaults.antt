-- What the law says of worked texts.
use Rattle.std.proofs.Common.{◌≡◌, ℕ, List, Result, Err, refl, sym, ap, ◌∙◌, arith, codes}
use Rattle.il_model.specs.declared.dialect.Dialect.{Dialect}
use Rattle.il_model.specs.declared.dialect.Dialect.TheVariants as dialects
use Rattle.il_model.specs.Words.{look, mnemonic_of, is_well_spelled, name_parts}
use Rattle.il_values.specs.Spelled.{spells}
use Rattle.il_reader.specs.declared.fault.FaultAt.{FaultAt}
use Rattle.il_reader.specs.Tokens.{name_of, word_piece, solid_piece, piece_of, sign_of, tokens_behind}
use Rattle.il_reader.specs.Front.{skip_breaks}
use Rattle.il_reader.specs.Reading.{expect, many_within, many, keyword}
use Rattle.il_reader.specs.Grammar.{ProgramText, operator_of, is_constant, is_label, ends_lines, ends_blocks, begins_program}
use Rattle.il_reader.specs.Walk.{operator_at, variable_at, constant_at, field_at, lone_at, operand_at, behind_at, operation_at, optional_operation_at, labelled_at, plain_at, either_line_at, line_at, bare_at, program_at, text_of}
use Rattle.il_reader.specs.FirstFault.{IsTextFault, misplaced, bad_token, WorkedFaults}
use Rattle.il_reader.proofs.TextFaults.{text_fault}

fault_of : (dialect : Dialect) → (text : List ℕ) (f : FaultAt) → text_of dialect text ≡ Err f → IsTextFault dialect text f
fault_of dialect text f e = (text_fault dialect text f).0 e

pub record Told : Type 0 where
  pub operand : text_of dialects.Plain (codes "LD ;") ≡ Err (misplaced 1)
  pub field : text_of dialects.Plain (codes "LD T1.") ≡ Err (misplaced 0)
  pub colon : text_of dialects.Plain (codes "FOO X") ≡ Err (misplaced 1)
  pub broken : text_of dialects.Plain (codes "LD #") ≡ Err (bad_token 1)
  pub behind : text_of dialects.Plain (codes "; #") ≡ Err (misplaced 3)

told : Told
unfolding spells look mnemonic_of is_well_spelled name_of name_parts word_piece solid_piece piece_of sign_of tokens_behind skip_breaks expect many_within many keyword operator_of is_constant operator_at variable_at constant_at field_at lone_at operand_at behind_at operation_at optional_operation_at is_label labelled_at plain_at either_line_at line_at ends_lines ends_blocks bare_at begins_program program_at text_of
told = record { operand = refl; field = refl; colon = refl; broken = refl; behind = refl }

refused : FaultAt → Result ProgramText FaultAt
refused f = Err f

same_refusal : (f g : FaultAt) → refused f ≡ refused g → f ≡ g
unfolding refused
same_refusal f g e = cc

two_places : refused (misplaced 1) ≡ refused (misplaced 4) → ⊥
two_places e = let p : (misplaced 1).left ≡ (misplaced 4).left = ap (λ (f : FaultAt). f.left) (same_refusal (misplaced 1) (misplaced 4) e) in omega arith

elsewhere : IsTextFault dialects.Plain (codes "LD ;") (misplaced 4) → ⊥
unfolding refused
elsewhere h = two_places (sym told.operand ∙ (text_fault dialects.Plain (codes "LD ;") (misplaced 4)).1 h)

pub worked : WorkedFaults
worked = record {
  operand = fault_of dialects.Plain (codes "LD ;") (misplaced 1) told.operand;
  field = fault_of dialects.Plain (codes "LD T1.") (misplaced 0) told.field;
  colon = fault_of dialects.Plain (codes "FOO X") (misplaced 1) told.colon;
  broken = fault_of dialects.Plain (codes "LD #") (bad_token 1) told.broken;
  behind = fault_of dialects.Plain (codes "; #") (misplaced 3) told.behind;
  elsewhere = elsewhere;
}
