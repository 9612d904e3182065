-- A text of units has a program, or one of its units has a first fault, and never both.
use Rattle.std.proofs.Common.{◌≡◌, ◌⊎◌, inl, inr, ℕ, ◌-◌, ◌≤◌, arith, List, [], ◌∷◌, ◌++◌, length, take, Option, Some, None, Result, Ok, Err, refl, sym, ap, subst, ◌∙◌}
use Rattle.il_model.specs.Program.{Program}
use Rattle.il_model.specs.Checking.{fault_number}
use Rattle.il_model.specs.declared.typing.TypeFault.{TypeFault}
use Rattle.il_model.specs.Settled.{IsTypedProgramOf}
use Rattle.il_reader.specs.Grammar.{dialect_of}
use Rattle.il_reader.specs.declared.place.Place.{Place}
use Rattle.il_reader.specs.declared.fault.Fault as read_faults
use Rattle.il_reader.specs.FirstFault.{kind_number, IsFaultOf}
use Rattle.il_reader.specs.Texts.{SourceText, Reads, column_behind, place_at, place_behind}
use Rattle.il_reader.proofs.TextFaults as reading
use Rattle.il_declarations.specs.declared.fault.Fault as declaration_faults
use Rattle.il_declarations.specs.FirstFault.{IsRefused}
use Rattle.il_declarations.specs.FirstFault as Kinds
use Rattle.il_declarations.specs.Declaring as Declaring
use Rattle.il_declarations.specs.Walk.{resolution_of}
use Rattle.il_declarations.proofs.FaultLaws.{one_program, one_refused, found, refused}
use Rattle.il_assembler.specs.Assembled.{IsFirstFault}
use Rattle.il_assembler.proofs.FirstFault as types
use Rattle.il_units.specs.Units.{UnitText}
use Rattle.il_units.specs.Flats.{FlatUnit}
use Rattle.il_units.specs.Expansion.{flat_of, flats_from, text_of, last_text, origins_of, origin_in, instruction_origin}
use Rattle.il_units.specs.Misuse.{fault_of, unit_fault_number}
use Rattle.il_units.specs.declared.fault.UnitFaultAt.{UnitFaultAt}
use Rattle.il_text.specs.declared.fault.Fault.{Fault}
use Rattle.il_text.specs.declared.fault.Fault.TheVariants as faults
use Rattle.il_text.specs.Meaning.{IsPlainProgramOf, IsGoodUnit, AreGood, IsFrom, IsMisuse, IsUnitReadFault, IsUnitDeclarationFault, IsUnitTypingFault, IsExpansionFault, IsUnitFault, HasUnitFault}
use Rattle.il_text.proofs.Places.{one_place}
use Rattle.il_text.proofs.UnitPrograms.{last_is}

-- ---- a text by itself

pub plain_is : (text : List ℕ) (P Q : Program) → IsPlainProgramOf text P → IsPlainProgramOf text Q → P ≡ Q
plain_is text P Q a b =
    let same = reading.one_source text a.source b.source a.read b.read in
    one_program (dialect_of b.source.text) b.source.says P Q (subst (λ (s : SourceText). Declaring.IsProgramOf (dialect_of s.text) s.says P) same a.declared) b.declared

-- a source that declares a program has no fault
pub faultless : (text : List ℕ) (P : Program) (s : SourceText) (f : declaration_faults.Fault) → IsPlainProgramOf text P → Reads text s → IsRefused s f → ⊥
faultless text P s f is read undeclared =
    let same = reading.one_source text s is.source read is.read in
    let other = subst (λ (r : SourceText). IsRefused r f) same undeclared in
    is.faultless other.fault other.first.has

-- ---- a unit

no_fault : (o : Option UnitFaultAt) (f : UnitFaultAt) → o ≡ None → o ≡ Some f → ⊥
no_fault None f none some = absurd cc
no_fault (Some g) f none some = absurd cc

some_same : (f g : UnitFaultAt) → (let o : Option UnitFaultAt = Some f in o ≡ Some g) → f ≡ g
some_same f g e = cc

-- an expansion that is a program of fitting types has no fault
no_expansion_fault : (text : List ℕ) (u : FlatUnit) (told : Fault) (P Q : Program) → IsPlainProgramOf (text_of u) P → IsTypedProgramOf P Q → IsExpansionFault text u told → ⊥
no_expansion_fault text u told P Q is typed (inl a) = reading.never_both (text_of u) is.source a.fault is.read a.first
no_expansion_fault text u told P Q is typed (inr (inl a)) = faultless (text_of u) P a.source a.fault is a.read a.undeclared
no_expansion_fault text u told P Q is typed (inr (inr a)) =
    let same = plain_is (text_of u) P a.program is a.is in
    types.never_both a.program Q a.instruction a.fault (subst (λ (R : Program). IsTypedProgramOf R Q) same typed) a.first

no_unit_fault : (text : List ℕ) (above : List FlatUnit) (unit : UnitText) (told : Fault) → IsGoodUnit text above unit → IsUnitFault text above unit told → ⊥
no_unit_fault text above unit told good (inl a) = no_fault (fault_of text above unit) a.fault good.0 a.first
no_unit_fault text above unit told good (inr a) = no_expansion_fault text (flat_of text above unit) told good.1 good.2 good.3 good.4 a.1

-- a place of an expansion comes from one place
one_origin : (text : List ℕ) (u : FlatUnit) (there here other : Place) → IsFrom text u there here → IsFrom text u there other → here ≡ other
one_origin text u there here other a b =
    let same = one_place (text_of u) a.at b.at a.short b.short (sym a.there_is ∙ b.there_is) in
    a.here_is ∙ ap (λ (n : ℕ). place_at text (origin_in (origins_of u) n)) same ∙ sym b.here_is

-- the same of faults whose places are the same
same_origin : (text : List ℕ) (u : FlatUnit) (there that here other : Place) → there ≡ that → IsFrom text u there here → IsFrom text u that other → here ≡ other
same_origin text u there that here other same a b = one_origin text u that here other (subst (λ (p : Place). IsFrom text u p here) same a) b

one_read : (text : List ℕ) (u : FlatUnit) (f g : Fault) → IsUnitReadFault text u f → IsUnitReadFault text u g → f ≡ g
one_read text u f g a b =
    let e = reading.one_fault (text_of u) a.fault b.fault a.first b.first in
    let p = same_origin text u a.fault.place b.fault.place a.place b.place (ap (λ (x : read_faults.Fault). x.place) e) a.from b.from in
    a.is
    ∙ ap (λ (q : Place). faults.Read (kind_number a.fault.kind) q.line q.column) p
    ∙ ap (λ (x : read_faults.Fault). faults.Read (kind_number x.kind) b.place.line b.place.column) e
    ∙ sym b.is

one_declaration : (text : List ℕ) (u : FlatUnit) (f g : Fault) → IsUnitDeclarationFault text u f → IsUnitDeclarationFault text u g → f ≡ g
one_declaration text u f g a b =
    let same = reading.one_source (text_of u) a.source b.source a.read b.read in
    let e = one_refused b.source a.fault b.fault (subst (λ (s : SourceText). IsRefused s a.fault) same a.undeclared) b.undeclared in
    let p = same_origin text u a.fault.place b.fault.place a.place b.place (ap (λ (x : declaration_faults.Fault). x.place) e) a.from b.from in
    a.is
    ∙ ap (λ (q : Place). faults.Declaration (Kinds.kind_number a.fault.kind) q.line q.column) p
    ∙ ap (λ (x : declaration_faults.Fault). faults.Declaration (Kinds.kind_number x.kind) b.place.line b.place.column) e
    ∙ sym b.is

one_typing : (text : List ℕ) (u : FlatUnit) (f g : Fault) → IsUnitTypingFault text u f → IsUnitTypingFault text u g → f ≡ g
one_typing text u f g a b =
    let program = plain_is (text_of u) a.program b.program a.is b.is in
    let same = types.one_fault b.program a.instruction b.instruction a.fault b.fault (subst (λ (P : Program). IsFirstFault P a.instruction a.fault) program a.first) b.first in
    let p : a.place ≡ b.place = a.place_is ∙ ap (λ (n : ℕ). place_at text (instruction_origin u n)) same.0 ∙ sym b.place_is in
    a.told_is
    ∙ ap (λ (q : Place). faults.Type (fault_number a.fault) q.line q.column) p
    ∙ ap (λ (x : TypeFault). faults.Type (fault_number x) b.place.line b.place.column) same.1
    ∙ sym b.told_is

one_expansion_fault : (text : List ℕ) (u : FlatUnit) (f g : Fault) → IsExpansionFault text u f → IsExpansionFault text u g → f ≡ g
one_expansion_fault text u f g (inl a) (inl b) = one_read text u f g a b
one_expansion_fault text u f g (inl a) (inr (inl b)) = absurd (reading.never_both (text_of u) b.source a.fault b.read a.first)
one_expansion_fault text u f g (inl a) (inr (inr b)) = absurd (reading.never_both (text_of u) b.is.source a.fault b.is.read a.first)
one_expansion_fault text u f g (inr (inl a)) (inl b) = absurd (reading.never_both (text_of u) a.source b.fault a.read b.first)
one_expansion_fault text u f g (inr (inl a)) (inr (inl b)) = one_declaration text u f g a b
one_expansion_fault text u f g (inr (inl a)) (inr (inr b)) = absurd (faultless (text_of u) b.program a.source a.fault b.is a.read a.undeclared)
one_expansion_fault text u f g (inr (inr a)) (inl b) = absurd (reading.never_both (text_of u) a.is.source b.fault a.is.read b.first)
one_expansion_fault text u f g (inr (inr a)) (inr (inl b)) = absurd (faultless (text_of u) a.program b.source b.fault a.is b.read b.undeclared)
one_expansion_fault text u f g (inr (inr a)) (inr (inr b)) = one_typing text u f g a b

one_misuse : (text : List ℕ) (above : List FlatUnit) (unit : UnitText) (f g : Fault) → IsMisuse text above unit f → IsMisuse text above unit g → f ≡ g
one_misuse text above unit f g a b =
    let e = some_same a.fault b.fault (sym a.first ∙ b.first) in
    let p : a.place ≡ b.place = a.place_is ∙ ap (λ (x : UnitFaultAt). place_at text x.left) e ∙ sym b.place_is in
    a.is
    ∙ ap (λ (q : Place). faults.Declaration (unit_fault_number a.fault.kind) q.line q.column) p
    ∙ ap (λ (x : UnitFaultAt). faults.Declaration (unit_fault_number x.kind) b.place.line b.place.column) e
    ∙ sym b.is

one_unit_fault : (text : List ℕ) (above : List FlatUnit) (unit : UnitText) (f g : Fault) → IsUnitFault text above unit f → IsUnitFault text above unit g → f ≡ g
one_unit_fault text above unit f g (inl a) (inl b) = one_misuse text above unit f g a b
one_unit_fault text above unit f g (inl a) (inr b) = absurd (no_fault (fault_of text above unit) a.fault b.0 a.first)
one_unit_fault text above unit f g (inr a) (inl b) = absurd (no_fault (fault_of text above unit) b.fault a.0 b.first)
one_unit_fault text above unit f g (inr a) (inr b) = one_expansion_fault text (flat_of text above unit) f g a.1 b.1

-- ---- all units

pub no_faults : (text : List ℕ) (us : List UnitText) (above : List FlatUnit) (told : Fault) → AreGood text above us → HasUnitFault text above us told → ⊥
no_faults text [] above told good fault = fault
no_faults text (u ∷ us) above told good (inl a) = no_unit_fault text above u told good.0 a
no_faults text (u ∷ us) above told good (inr a) = no_faults text us (above ++ flat_of text above u ∷ []) told good.1 a.1

pub one_units_fault : (text : List ℕ) (us : List UnitText) (above : List FlatUnit) (f g : Fault) → HasUnitFault text above us f → HasUnitFault text above us g → f ≡ g
one_units_fault text [] above f g a b = absurd a
one_units_fault text (u ∷ us) above f g (inl a) (inl b) = one_unit_fault text above u f g a b
one_units_fault text (u ∷ us) above f g (inl a) (inr b) = absurd (no_unit_fault text above u f b.0 a)
one_units_fault text (u ∷ us) above f g (inr a) (inl b) = absurd (no_unit_fault text above u g a.0 b)
one_units_fault text (u ∷ us) above f g (inr a) (inr b) = one_units_fault text us (above ++ flat_of text above u ∷ []) f g a.1 b.1

-- ---- a unit is good, or it has a fault

abbrev IsJudged : List ℕ → List FlatUnit → UnitText → Type 0
IsJudged text above unit = IsGoodUnit text above unit ⊎ ((told : Fault) × IsUnitFault text above unit told)

-- what a place of an expansion comes from
from_at : (text : List ℕ) (u : FlatUnit) (there : Place) (n : ℕ) → n ≤ length (text_of u) → there ≡ place_behind (take n (text_of u)) → IsFrom text u there (place_at text (origin_in (origins_of u) n))
from_at text u there n le is = record { at = n; short = le; there_is = is; here_is = refl }

-- so many bytes stand before a place
abbrev pub HasPrefix : List ℕ → Place → Type 0
HasPrefix text there = (n : ℕ) × (n ≤ length text) × (there ≡ place_behind (take n text))

pub prefix_left : (text : List ℕ) (there : Place) (left : ℕ) → there ≡ place_at text left → HasPrefix text there
prefix_left text there left is =
    let le : length text - left ≤ length text = omega arith in
    (length text - left, le, is)

pub prefix_of_fault : (text : List ℕ) (f : read_faults.Fault) → IsFaultOf text f → HasPrefix text f.place
unfolding column_behind
prefix_of_fault text f (inl a) =
    let le : 0 ≤ length text = omega arith in
    let is : f.place ≡ place_behind [] = ap (λ (x : read_faults.Fault). x.place) a.1 in
    (0, le, is)
prefix_of_fault text f (inr a) = prefix_left text f.place a.1.0.left (ap (λ (x : read_faults.Fault). x.place) a.1.1)

from_prefix : (text : List ℕ) (u : FlatUnit) (there : Place) → HasPrefix (text_of u) there → (here : Place) × IsFrom text u there here
from_prefix text u there p = (place_at text (origin_in (origins_of u) p.0), from_at text u there p.0 p.1 p.2)

judged_program : (text : List ℕ) (above : List FlatUnit) (unit : UnitText) (P : Program) → fault_of text above unit ≡ None → IsPlainProgramOf (text_of (flat_of text above unit)) P → IsJudged text above unit
judged_program text above unit P none is = elim (types.one_of_both P) [
  | inl typed ↦ inl (none, P, typed.0, is, typed.1)
  | inr x ↦
      let u = flat_of text above unit in
      let place = place_at text (instruction_origin u x.0) in
      let told = faults.Type (fault_number x.1) place.line place.column in
      inr (told, inr (none, inr (inr (record { program = P; is = is; fault = x.1; instruction = x.0; first = x.2; place = place; place_is = refl; told_is = refl }))))
]

judged_source : (text : List ℕ) (above : List FlatUnit) (unit : UnitText) (s : SourceText) → fault_of text above unit ≡ None → Reads (text_of (flat_of text above unit)) s → IsJudged text above unit
judged_source text above unit s none read = by_names (resolution_of s) refl
  where
    by_names : (r : Result Program declaration_faults.Fault) → resolution_of s ≡ r → IsJudged text above unit
    by_names (Ok P) w = let h = found s P w in judged_program text above unit P none (record { source = s; read = read; declared = h.0; faultless = h.1 })
    by_names (Err f) w =
        let u = flat_of text above unit in
        let r = refused s f read.1 w in
        let from = from_prefix text u f.place (prefix_left (text_of u) f.place r.fault.left (r.place ∙ ap (λ (t : List ℕ). place_at t r.fault.left) read.0)) in
        let told = faults.Declaration (Kinds.kind_number f.kind) from.0.line from.0.column in
        inr (told, inr (none, inr (inl (record { source = s; read = read; fault = f; undeclared = r; place = from.0; from = from.1; is = refl }))))

judged_expansion : (text : List ℕ) (above : List FlatUnit) (unit : UnitText) → fault_of text above unit ≡ None → IsJudged text above unit
judged_expansion text above unit none =
    let u = flat_of text above unit in
    elim (reading.one_of_both (text_of u)) [
      | inl read ↦ judged_source text above unit read.0 none read.1
      | inr x ↦
          let from = from_prefix text u x.0.place (prefix_of_fault (text_of u) x.0 x.1) in
          let told = faults.Read (kind_number x.0.kind) from.0.line from.0.column in
          inr (told, inr (none, inl (record { fault = x.0; first = x.1; place = from.0; from = from.1; is = refl })))
    ]

judged : (text : List ℕ) (above : List FlatUnit) (unit : UnitText) → IsJudged text above unit
judged text above unit = by_fault (fault_of text above unit) refl
  where
    by_fault : (o : Option UnitFaultAt) → fault_of text above unit ≡ o → IsJudged text above unit
    by_fault None none = judged_expansion text above unit none
    by_fault (Some f) some =
        let place = place_at text f.left in
        let told = faults.Declaration (unit_fault_number f.kind) place.line place.column in
        inr (told, inl (record { fault = f; first = some; place = place; place_is = refl; is = refl }))

pub all_judged : (text : List ℕ) (us : List UnitText) (above : List FlatUnit) → AreGood text above us ⊎ ((told : Fault) × HasUnitFault text above us told)
all_judged text [] above = inl tt
all_judged text (u ∷ us) above = by_first (judged text above u) (all_judged text us (above ++ flat_of text above u ∷ []))
  where
    by_first : IsJudged text above u → AreGood text (above ++ flat_of text above u ∷ []) us ⊎ ((told : Fault) × HasUnitFault text (above ++ flat_of text above u ∷ []) us told)
        → AreGood text above (u ∷ us) ⊎ ((told : Fault) × HasUnitFault text above (u ∷ us) told)
    by_first (inl good) (inl more) = inl (good, more)
    by_first (inl good) (inr fault) = inr (fault.0, inr (good, fault.1))
    by_first (inr fault) more = inr (fault.0, inl fault.1)

-- ---- the program is the last unit's

abbrev pub HasProgram : List ℕ → Type 0
HasProgram plain = (P : Program) × (Q : Program) × IsPlainProgramOf plain P × IsTypedProgramOf P Q

pub good_program : (text : List ℕ) (us : List UnitText) (above : List FlatUnit) (u : UnitText) → AreGood text above (u ∷ us) → HasProgram (last_text (flats_from text above (u ∷ us)))
unfolding flats_from
good_program text [] above u good =
    let g = good.0 in
    subst (λ (t : List ℕ). HasProgram t) (sym (last_is above (flat_of text above u))) (g.1, g.2, g.3, g.4)
good_program text (v ∷ us) above u good = good_program text us (above ++ flat_of text above u ∷ []) v good.1
