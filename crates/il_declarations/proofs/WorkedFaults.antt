-- Worked rows of what texts declare and of their faults.
use Rattle.std.proofs.Common.{inl, ℕ, false, List, [], ◌∷◌, Some, None, refl, arith}
use Rattle.std.specs.Prelude.{codes, pos}
use Rattle.il_model.specs.declared.dialect.Dialect.{Dialect}
use Rattle.il_model.specs.declared.dialect.Dialect.TheVariants as dialects
use Rattle.il_values.specs.declared.value.Ty.TheVariants as types
use Rattle.il_values.specs.declared.value.Value.TheVariants as values
use Rattle.il_values.specs.declared.op.Op.TheVariants as ops
use Rattle.il_model.specs.declared.kind.BlockKind.TheVariants as blocks
use Rattle.il_model.specs.declared.program.Operand.TheVariants as operands
use Rattle.il_model.specs.Program.{Program}
use Rattle.il_values.specs.Spelled.{spells}
use Rattle.il_reader.specs.declared.lexeme.Class.TheVariants as classes
use Rattle.il_reader.specs.declared.lexeme.Sign.TheVariants as signs
use Rattle.il_reader.specs.Tokens.{Token}
use Rattle.il_reader.specs.Grammar.{Named, Given, LineText, Labelled, More, DeclarationText, ProgramText}
use Rattle.il_declarations.specs.declared.fault.DeclKind.TheVariants as kinds
use Rattle.il_declarations.specs.Resolution.{plain, variable}
use Rattle.il_declarations.specs.Declaring.{in_block, named_in, IsProgramOf}
use Rattle.il_declarations.specs.TextFaults.{HasFault}
use Rattle.il_declarations.specs.FirstFault.{IsNoLater}

abbrev word : List ℕ → ℕ → Token
word text left = record { class = classes.Sign signs.Name; text = text; left = left }

abbrev one_block : List DeclarationText → List LineText → ProgramText
one_block ds ls = record { name = None; blocks = record { qualifier = None; declarations = ds } ∷ []; lines = ls }

-- VAR A, a : FOO; END_VAR
abbrev twice : DeclarationText
twice = record { name = word (codes "A") 19; names = More (word (codes "a") 16 ∷ []); ty = word (codes "FOO") 12; initial = None }

-- the second name is the first one's again
pub is_doubled : (dialect : Dialect) → HasFault dialect (one_block (twice ∷ []) []) (record { kind = kinds.Duplicate; left = 16 })
is_doubled dialect = record { before = named_in (in_block false twice) (word (codes "A") 19) ∷ []; item = named_in (in_block false twice) (word (codes "a") 16); behind = []; is = refl; holds = (refl, refl) }

-- and there is no such type
pub is_unknown : (dialect : Dialect) → HasFault dialect (one_block (twice ∷ []) []) (record { kind = kinds.UnknownType; left = 12 })
unfolding spells
is_unknown dialects.Plain = record { before = []; item = in_block false twice; behind = []; is = refl; holds = (refl, refl) }
is_unknown dialects.Extended = record { before = []; item = in_block false twice; behind = []; is = refl; holds = (refl, refl) }

-- the name stands first
pub name_first : IsNoLater (record { kind = kinds.Duplicate; left = 16 }) (record { kind = kinds.UnknownType; left = 12 })
name_first = inl (omega arith)

-- VAR X : INT; T1 : TON; END_VAR and a line L: LD x
abbrev number : DeclarationText
number = record { name = word (codes "X") 35; names = More []; ty = word (codes "INT") 31; initial = None }

abbrev timer : DeclarationText
timer = record { name = word (codes "T1") 26; names = More []; ty = word (codes "ton") 21; initial = None }

abbrev load : LineText
load = Labelled (word (codes "L") 8) (Some (record { operator = record { mnemonic = record { op = ops.Ld; modifier = plain }; left = 5 }; behind = Given (Named (word (codes "x") 2)) }))

abbrev small : Program
small = record {
  variables = variable false (codes "X") types.Int None (values.Int (pos 0)) ∷ [];
  instances = record { name = codes "T1"; kind = blocks.Ton; retained = false } ∷ [];
  code = record { label = Some (codes "L"); op = ops.Ld; modifier = plain; operand = operands.Variable (codes "X"); arguments = [] } ∷ [];
}

pub is_small : (dialect : Dialect) → IsProgramOf dialect (one_block (number ∷ timer ∷ []) (load ∷ [])) small
unfolding spells
is_small dialects.Plain = record { variables = refl; instances = refl; code = ((refl, record { op = refl; modifier = refl; operand = refl; arguments = tt }), tt) }
is_small dialects.Extended = record { variables = refl; instances = refl; code = ((refl, record { op = refl; modifier = refl; operand = refl; arguments = tt }), tt) }
