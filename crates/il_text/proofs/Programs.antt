-- What the layers answer of a text, as its program or its first fault.
use Rattle.std.proofs.Common.{◌≡◌, inl, inr, ℕ, Bool, true, false, List, Result, Ok, Err, refl, sym, subst}
use Rattle.std.specs.Prelude.{IfErr}
use Rattle.il_model.specs.Program.{Program}
use Rattle.il_model.specs.Settled.{IsTypedProgramOf}
use Rattle.il_reader.specs.Grammar.{dialect_of}
use Rattle.il_reader.specs.Texts.{SourceText, Reads}
use Rattle.il_declarations.specs.Declaring as Declaring
use Rattle.il_declarations.specs.FirstFault as declaring
use Rattle.il_assembler.specs.Assembled as typing
use Rattle.il_assembler.specs.declared.fault.AsmError.{AsmError}
use Rattle.il_assembler.specs.declared.fault.AsmError.TheVariants as assembly_errors
use Rattle.il_assembler.proofs.FirstFault as types
use Rattle.il_units.specs.Spelling.{has_units}
use Rattle.il_text.specs.declared.fault.Fault.{Fault}
use Rattle.il_text.specs.Meaning.{MeansBy, Means, IsProgramOf, IsUntyped, IsTextFault, OrMemory}
use Rattle.il_text.specs.Telling.{of_assembly}

-- ---- a text that is none of units

pub plain_program : (text : List ℕ) (s : SourceText) (P : Program) → has_units text ≡ false → Reads text s
    → Declaring.IsProgramOf (dialect_of s.text) s.says P × declaring.HasNoFault (dialect_of s.text) s.says → IsProgramOf text P
plain_program text s P plain read declared =
    let means : Means text text = subst (λ (b : Bool). MeansBy b text text) (sym plain) refl in
    record { plain = text; means = means; is = record { source = s; read = read; declared = declared.0; faultless = declared.1 } }

-- ---- types

-- of a text of units the types are asked before
pub typing_told : (text : List ℕ) (P : Program) (told : Fault) → IsProgramOf text P → (has_units text ≡ true → (Q : Program) × IsTypedProgramOf P Q) → OrMemory (IsUntyped P) told → OrMemory (IsTextFault text) told
typing_told text P told is typed (inr memory) = inr memory
typing_told text P told is typed (inl untyped) = by_kind (has_units text) refl
  where
    by_kind : (b : Bool) → has_units text ≡ b → OrMemory (IsTextFault text) told
    by_kind true units_in = let t = typed units_in in absurd (types.never_both P t.0 untyped.instruction untyped.fault t.1 untyped.first)
    by_kind false plain = inl (inr (record { plain = plain; program = P; is = is; untyped = untyped }))

pub image_told : {X : Type 0} (text : List ℕ) (P : Program) (r : Result X Fault) → IsProgramOf text P → (has_units text ≡ true → (Q : Program) × IsTypedProgramOf P Q) → IfErr r (OrMemory (IsUntyped P)) → IfErr r (OrMemory (IsTextFault text))
image_told text P (Ok x) is typed told = tt
image_told text P (Err e) is typed told = typing_told text P e is typed told

pub assembly_told : (text : List ℕ) (P : Program) (e : AsmError) (told : Fault) → IsProgramOf text P → (has_units text ≡ true → (Q : Program) × IsTypedProgramOf P Q) → typing.TellsFirst {X = Unit {0}} P (Err e) → told ≡ of_assembly e → OrMemory (IsTextFault text) told
assembly_told text P (assembly_errors.Fault f n) told is typed first same = typing_told text P told is typed (inl (record { fault = f; instruction = n; first = first; is = same }))
assembly_told text P assembly_errors.Memory told is typed first same = inr same
