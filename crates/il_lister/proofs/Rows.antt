-- Worked listings, by computing the definition.
use Rattle.std.proofs.Common.{◌≡◌, ℕ, List, [], ◌∷◌, ◌++◌, Some, None, false, true, refl}
use Rattle.std.specs.Prelude.{pos, negsuc, codes}
use Rattle.il_values.specs.declared.value.Ty.TheVariants as types
use Rattle.il_values.specs.declared.value.Value.TheVariants as values
use Rattle.il_values.specs.declared.function.Function.TheVariants as functions
use Rattle.il_values.specs.declared.op.Op.TheVariants as ops
use Rattle.il_model.specs.declared.program.Area.TheVariants as areas
use Rattle.il_model.specs.declared.program.Loc.TheVariants.{Bit, Word}
use Rattle.il_model.specs.declared.program.Operand.{Operand}
use Rattle.il_model.specs.declared.program.Operand.TheVariants as operands
use Rattle.il_model.specs.declared.program.Side.TheVariants as sides
use Rattle.il_model.specs.declared.program.Argument.{Argument}
use Rattle.il_model.specs.declared.kind.BlockKind.TheVariants as kinds
use Rattle.il_model.specs.Program.{Program}
use Rattle.il_model.specs.Words.{plain}
use Rattle.il_lister.specs.Listing.{listing, literal_text, op_name}

abbrev input : List ℕ → Operand → Argument
input field operand = record { field = field; side = sides.Input; operand = operand }

abbrev output : List ℕ → Operand → Argument
output field operand = record { field = field; side = sides.Output; operand = operand }

-- a program that counts
abbrev counting : Program
counting = record {
  variables = [];
  instances = record { name = codes "C"; kind = kinds.Ctu; retained = false } ∷ [];
  code = record {
    label = None;
    op = ops.Cal;
    modifier = plain;
    operand = operands.Instance (codes "C");
    arguments = input (codes "CU") (operands.Direct (Bit areas.Input 0)) ∷ input (codes "PV") (operands.Literal (values.Int (pos 2)))
        ∷ output (codes "CV") (operands.Direct (Word areas.Output 0)) ∷ output (codes "Q") (operands.Direct (Bit areas.Output 0)) ∷ [];
  } ∷ [];
}

counts : listing counting ≡ codes "VAR\nC : CTU;\nEND_VAR\nCAL C(CU := %IX0.0, PV := INT#2, CV => %QW0, Q => %QX0.0)\n"
counts = refl

abbrev copying : Program
copying = record {
  variables = record { name = codes "X"; ty = types.Bool; location = Some (Bit areas.Input 0); initial = values.Bool false; retained = false } ∷ record { name = codes "Y"; ty = types.Int; location = None; initial = values.Int (negsuc 4); retained = false } ∷ [];
  instances = [];
  code = record { label = None; op = ops.Ld; modifier = plain; operand = operands.Variable (codes "X"); arguments = [] }
      ∷ record { label = Some (codes "L1"); op = ops.Empty; modifier = plain; operand = operands.Absent; arguments = [] }
      ∷ record { label = Some (codes "L2"); op = ops.And; modifier = record { negated = true; conditional = false; opens = true }; operand = operands.Absent; arguments = [] }
      ∷ record { label = None; op = ops.Close; modifier = plain; operand = operands.Absent; arguments = [] }
      ∷ record { label = None; op = ops.Jmp; modifier = record { negated = true; conditional = true; opens = false }; operand = operands.Label (codes "L1"); arguments = [] } ∷ [];
}

copies : listing copying ≡ codes "VAR\nX AT %IX0.0 : BOOL;\nY : INT := INT#-5;\nEND_VAR\nLD X\nL1:\nL2: ANDN(\n)\nJMPCN L1\n"
copies = refl

literals : literal_text (values.Time (pos 1500)) ++ (literal_text (values.Time (negsuc 4)) ++ literal_text (values.Dint (pos 5))) ≡ codes "T#1500msT#-5msDINT#5"
literals = refl

-- a function stands alone, in its word
takes_root : op_name (ops.Apply functions.Sqrt) ≡ codes "SQRT"
takes_root = refl
