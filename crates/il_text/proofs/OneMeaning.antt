-- A text says one typed program, or it has one fault, and never both.
use Rattle.std.proofs.Common.{◌≡◌, ◌⊎◌, inl, inr, ℕ, Bool, true, false, List, [], ◌∷◌, ◌++◌, Result, Ok, Err, refl, sym, ap, subst, ◌∙◌}
use Rattle.il_model.specs.Program.{Program}
use Rattle.il_model.specs.declared.typing.TypeFault.{TypeFault}
use Rattle.il_model.specs.Settled.{IsTypedProgramOf}
use Rattle.il_reader.specs.declared.fault.Fault as read_faults
use Rattle.il_reader.specs.declared.fault.ReadError.TheVariants as reads
use Rattle.il_reader.specs.Texts.{SourceText, Reads}
use Rattle.il_reader.proofs.TextFaults as reading
use Rattle.il_declarations.specs.declared.fault.Fault as declaration_faults
use Rattle.il_declarations.specs.declared.fault.DeclError.TheVariants as declarations
use Rattle.il_assembler.specs.declared.fault.AsmError.TheVariants as assemblies
use Rattle.il_assembler.proofs.FirstFault as types
use Rattle.il_declarations.specs.FirstFault.{IsRefused}
use Rattle.il_declarations.specs.Walk.{resolution_of}
use Rattle.il_declarations.proofs.FaultLaws.{one_refused, found, refused}
use Rattle.il_text.specs.declared.fault.Fault.{Fault}
use Rattle.il_units.specs.Units.{UnitText}
use Rattle.il_units.specs.Spelling.{has_units, SaysUnits}
use Rattle.il_units.specs.Expansion.{expanded}
use Rattle.il_units.proofs.TextFaults as units
use Rattle.il_text.specs.Meaning.{MeansBy, Means, AreGood, IsPlainProgramOf, IsProgramOf, IsTypedProgramOfText, IsReadFault, IsDeclarationFault, IsUntyped, IsTypingFault, HasUnitFault, IsUnitsReadFault, IsUnitsFault, IsProgramFault, IsTextFault, IsGoodText}
use Rattle.il_text.specs.Telling.{of_read, of_declaration, of_assembly}
use Rattle.il_text.proofs.UnitMeaning.{plain_is, faultless, no_faults, one_units_fault, all_judged, HasProgram, good_program}

-- ---- one program

means_one : (text p q : List ℕ) → Means text p → Means text q → p ≡ q
means_one text p q = by_kind (has_units text)
  where
    by_kind : (units_in : Bool) → MeansBy units_in text p → MeansBy units_in text q → p ≡ q
    by_kind true a b = a.3 ∙ ap (expanded text) (units.one_units text a.0 b.0 a.1 b.1) ∙ sym b.3
    by_kind false a b = a ∙ sym b

program_is : (text : List ℕ) (P Q : Program) → IsProgramOf text P → IsProgramOf text Q → P ≡ Q
program_is text P Q a b =
    let same = means_one text a.plain b.plain a.means b.means in
    plain_is b.plain P Q (subst (λ (t : List ℕ). IsPlainProgramOf t P) same a.is) b.is

pub one_typed : (text : List ℕ) (P Q : Program) → IsTypedProgramOfText text P → IsTypedProgramOfText text Q → P ≡ Q
one_typed text P Q a b =
    let same = program_is text a.program b.program a.is b.is in
    types.one_typed b.program P Q (subst (λ (R : Program). IsTypedProgramOf R P) same a.settled) b.settled

-- ---- one fault

apart : (b : Bool) → b ≡ false → b ≡ true → ⊥
apart true fails units_in = absurd cc
apart false fails units_in = absurd cc

-- a text that is none of units means itself
by_itself : (text : List ℕ) (P : Program) → has_units text ≡ false → IsProgramOf text P → IsPlainProgramOf text P
by_itself text P plain is =
    let means : MeansBy false text is.plain = subst (λ (b : Bool). MeansBy b text is.plain) plain is.means in
    subst (λ (t : List ℕ). IsPlainProgramOf t P) means is.is

-- what a text of units means
by_units : (text plain : List ℕ) → has_units text ≡ true → Means text plain → MeansBy true text plain
by_units text plain units_in means = subst (λ (b : Bool). MeansBy b text plain) units_in means

no_program : (text : List ℕ) (P : Program) (told : Fault) → IsProgramOf text P → IsProgramFault text told → ⊥
no_program text P told is (inl a) = let p = by_itself text P a.plain is in reading.never_both text p.source a.fault p.read a.first
no_program text P told is (inr (inl a)) = faultless text P a.source a.fault (by_itself text P a.plain is) a.read a.undeclared
no_program text P told is (inr (inr (inl a))) = let m = by_units text is.plain a.units is.means in units.never_both text m.0 a.fault m.1 a.first
no_program text P told is (inr (inr (inr a))) =
    let m = by_units text is.plain a.units is.means in
    let same = units.one_units text m.0 a.us m.1 a.says in
    no_faults text a.us [] told (subst (λ (us : List UnitText). AreGood text [] us) same m.2) a.fault

pub never_both : (text : List ℕ) (P : Program) (told : Fault) → IsTypedProgramOfText text P → IsTextFault text told → ⊥
never_both text P told is (inl program) = no_program text is.program told is.is program
never_both text P told is (inr typing) =
    let same = program_is text is.program typing.program is.is typing.is in
    types.never_both typing.program P typing.untyped.instruction typing.untyped.fault (subst (λ (R : Program). IsTypedProgramOf R P) same is.settled) typing.untyped.first

one_read : (text : List ℕ) (f g : Fault) → IsReadFault text f → IsReadFault text g → f ≡ g
one_read text f g a b =
    a.is ∙ ap (λ (x : read_faults.Fault). of_read (reads.Fault x)) (reading.one_fault text a.fault b.fault a.first b.first) ∙ sym b.is

one_declaration : (text : List ℕ) (f g : Fault) → IsDeclarationFault text f → IsDeclarationFault text g → f ≡ g
one_declaration text f g a b =
    let same = reading.one_source text a.source b.source a.read b.read in
    let refused = subst (λ (s : SourceText). IsRefused s a.fault) same a.undeclared in
    a.is ∙ ap (λ (x : declaration_faults.Fault). of_declaration (declarations.Fault x)) (one_refused b.source a.fault b.fault refused b.undeclared) ∙ sym b.is

one_untyped : (P : Program) (f g : Fault) → IsUntyped P f → IsUntyped P g → f ≡ g
one_untyped P f g a b =
    let same = types.one_fault P a.instruction b.instruction a.fault b.fault a.first b.first in
    a.is
    ∙ ap (λ (n : ℕ). of_assembly (assemblies.Fault a.fault n)) same.0
    ∙ ap (λ (x : TypeFault). of_assembly (assemblies.Fault x b.instruction)) same.1
    ∙ sym b.is

one_typing : (text : List ℕ) (f g : Fault) → IsTypingFault text f → IsTypingFault text g → f ≡ g
one_typing text f g a b =
    let same = program_is text a.program b.program a.is b.is in
    one_untyped b.program f g (subst (λ (P : Program). IsUntyped P f) same a.untyped) b.untyped

one_units_read : (text : List ℕ) (f g : Fault) → IsUnitsReadFault text f → IsUnitsReadFault text g → f ≡ g
one_units_read text f g a b =
    a.is ∙ ap (λ (x : read_faults.Fault). of_read (reads.Fault x)) (units.one_fault text a.fault b.fault a.first b.first) ∙ sym b.is

one_unit : (text : List ℕ) (f g : Fault) → IsUnitsFault text f → IsUnitsFault text g → f ≡ g
one_unit text f g a b =
    let same = units.one_units text a.us b.us a.says b.says in
    one_units_fault text b.us [] f g (subst (λ (us : List UnitText). HasUnitFault text [] us f) same a.fault) b.fault

-- of two faults of a program both are those of a text by itself, or of one of units
one_program_fault : (text : List ℕ) (f g : Fault) → IsProgramFault text f → IsProgramFault text g → f ≡ g
one_program_fault text f g (inl a) (inl b) = one_read text f g a b
one_program_fault text f g (inl a) (inr (inl b)) = absurd (reading.never_both text b.source a.fault b.read a.first)
one_program_fault text f g (inl a) (inr (inr (inl b))) = absurd (apart (has_units text) a.plain b.units)
one_program_fault text f g (inl a) (inr (inr (inr b))) = absurd (apart (has_units text) a.plain b.units)
one_program_fault text f g (inr (inl a)) (inl b) = absurd (reading.never_both text a.source b.fault a.read b.first)
one_program_fault text f g (inr (inl a)) (inr (inl b)) = one_declaration text f g a b
one_program_fault text f g (inr (inl a)) (inr (inr (inl b))) = absurd (apart (has_units text) a.plain b.units)
one_program_fault text f g (inr (inl a)) (inr (inr (inr b))) = absurd (apart (has_units text) a.plain b.units)
one_program_fault text f g (inr (inr (inl a))) (inl b) = absurd (apart (has_units text) b.plain a.units)
one_program_fault text f g (inr (inr (inl a))) (inr (inl b)) = absurd (apart (has_units text) b.plain a.units)
one_program_fault text f g (inr (inr (inl a))) (inr (inr (inl b))) = one_units_read text f g a b
one_program_fault text f g (inr (inr (inl a))) (inr (inr (inr b))) = absurd (units.never_both text b.us a.fault b.says a.first)
one_program_fault text f g (inr (inr (inr a))) (inl b) = absurd (apart (has_units text) b.plain a.units)
one_program_fault text f g (inr (inr (inr a))) (inr (inl b)) = absurd (apart (has_units text) b.plain a.units)
one_program_fault text f g (inr (inr (inr a))) (inr (inr (inl b))) = absurd (units.never_both text a.us b.fault a.says b.first)
one_program_fault text f g (inr (inr (inr a))) (inr (inr (inr b))) = one_unit text f g a b

pub one_fault : (text : List ℕ) (f g : Fault) → IsTextFault text f → IsTextFault text g → f ≡ g
one_fault text f g (inl a) (inl b) = one_program_fault text f g a b
one_fault text f g (inl a) (inr b) = absurd (no_program text b.program f b.is a)
one_fault text f g (inr a) (inl b) = absurd (no_program text a.program g a.is b)
one_fault text f g (inr a) (inr b) = one_typing text f g a b

-- ---- a program or a fault

abbrev HasMeaning : List ℕ → Type 0
HasMeaning text = IsGoodText text ⊎ ((f : Fault) × IsTextFault text f)

of_program : (text : List ℕ) (P : Program) → has_units text ≡ false → IsPlainProgramOf text P → HasMeaning text
of_program text P plain p =
    let means : Means text text = subst (λ (b : Bool). MeansBy b text text) (sym plain) refl in
    let is : IsProgramOf text P = record { plain = text; means = means; is = p } in
    elim (types.one_of_both P) [
      | inl typed ↦ inl (typed.0, record { program = P; is = is; settled = typed.1 })
      | inr x ↦
          let untyped : IsUntyped P (of_assembly (assemblies.Fault x.1 x.0)) = record { fault = x.1; instruction = x.0; first = x.2; is = refl } in
          inr (of_assembly (assemblies.Fault x.1 x.0), inr (record { plain = plain; program = P; is = is; untyped = untyped }))
    ]

of_source : (text : List ℕ) (s : SourceText) → has_units text ≡ false → Reads text s → HasMeaning text
of_source text s plain read = by_names (resolution_of s) refl
  where
    by_names : (r : Result Program declaration_faults.Fault) → resolution_of s ≡ r → HasMeaning text
    by_names (Ok P) w = let h = found s P w in of_program text P plain (record { source = s; read = read; declared = h.0; faultless = h.1 })
    by_names (Err f) w = inr (of_declaration (declarations.Fault f), inl (inr (inl (record { plain = plain; source = s; read = read; fault = f; undeclared = refused s f read.1 w; is = refl }))))

of_plain : (text : List ℕ) → has_units text ≡ false → HasMeaning text
of_plain text plain = elim (reading.one_of_both text) [
  | inl read ↦ of_source text read.0 plain read.1
  | inr unread ↦ inr (of_read (reads.Fault unread.0), inl (inl (record { plain = plain; fault = unread.0; first = unread.1; is = refl })))
]

-- there is a program, since the last of the units is one
some_program : (text : List ℕ) (us : List UnitText) → SaysUnits text us → AreGood text [] us → HasProgram (expanded text us)
some_program text us says good = by_list us (ends says.above says.program us says.all) good
  where
    ends : (above : List UnitText) (program : UnitText) (vs : List UnitText) → vs ≡ above ++ program ∷ [] → (u : UnitText) × (ws : List UnitText) × (vs ≡ u ∷ ws)
    ends [] program vs all = (program, [], all)
    ends (v ∷ above) program vs all = (v, above ++ program ∷ [], all)

    by_list : (vs : List UnitText) → (u : UnitText) × (ws : List UnitText) × (vs ≡ u ∷ ws) → AreGood text [] vs → HasProgram (expanded text vs)
    by_list vs e g =
        let P : List UnitText → Type 0 = λ xs. AreGood text [] xs in
        let Q : List UnitText → Type 0 = λ xs. HasProgram (expanded text xs) in
        subst Q (sym e.2) (good_program text e.1 [] e.0 (subst P e.2 g))

of_good : (text : List ℕ) (us : List UnitText) → has_units text ≡ true → SaysUnits text us → AreGood text [] us → HasMeaning text
of_good text us units_in says good =
    let p = some_program text us says good in
    let said : MeansBy true text (expanded text us) = (us, says, good, refl) in
    let means : Means text (expanded text us) = subst (λ (b : Bool). MeansBy b text (expanded text us)) (sym units_in) said in
    inl (p.1, record { program = p.0; is = record { plain = expanded text us; means = means; is = p.2 }; settled = p.3 })

of_units : (text : List ℕ) → has_units text ≡ true → HasMeaning text
of_units text units_in = elim (units.one_of_both text) [
  | inl said ↦ elim (all_judged text said.0 []) [
    | inl good ↦ of_good text said.0 units_in said.1 good
    | inr fault ↦ inr (fault.0, inl (inr (inr (inr (record { units = units_in; us = said.0; says = said.1; fault = fault.1 })))))
  ]
  | inr unread ↦ inr (of_read (reads.Fault unread.0), inl (inr (inr (inl (record { units = units_in; fault = unread.0; first = unread.1; is = refl })))))
]

pub some_meaning : (text : List ℕ) → HasMeaning text
some_meaning text = by_kind (has_units text) refl
  where
    by_kind : (b : Bool) → has_units text ≡ b → HasMeaning text
    by_kind true e = of_units text e
    by_kind false e = of_plain text e
