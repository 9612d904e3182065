-- What is told of a unit: its own fault, or that of its expansion at the place that it comes from.
use Rattle.std.proofs.Common.{◌≡◌, inl, inr, ℕ, ◌≤◌, List, length, take, Some, None, Err, sym, ap, subst, ◌∙◌}
use Rattle.il_model.specs.Program.{Program}
use Rattle.il_model.specs.Checking.{fault_number}
use Rattle.il_model.specs.Settled.{IsTypedProgramOf}
use Rattle.il_model.specs.declared.typing.TypeFault.{TypeFault}
use Rattle.il_reader.specs.Grammar.{dialect_of}
use Rattle.il_reader.specs.declared.place.Place.{Place}
use Rattle.il_reader.specs.declared.fault.Fault as read_faults
use Rattle.il_reader.specs.declared.fault.ReadError.{ReadError}
use Rattle.il_reader.specs.declared.fault.ReadError.TheVariants as read_errors
use Rattle.il_reader.specs.FirstFault as reading
use Rattle.il_reader.specs.FirstFault.{kind_number, IsFaultOf}
use Rattle.il_reader.specs.Texts.{SourceText, Reads, place_at, place_behind}
use Rattle.il_declarations.specs.Declaring as Declaring
use Rattle.il_declarations.specs.declared.fault.Fault as declaration_faults
use Rattle.il_declarations.specs.declared.fault.DeclError.{DeclError}
use Rattle.il_declarations.specs.declared.fault.DeclError.TheVariants as declaration_errors
use Rattle.il_declarations.specs.FirstFault as declaring
use Rattle.il_assembler.specs.Assembled as typing
use Rattle.il_assembler.specs.declared.fault.AsmError.{AsmError}
use Rattle.il_assembler.specs.declared.fault.AsmError.TheVariants as assembly_errors
use Rattle.il_units.specs.Units.{UnitText}
use Rattle.il_units.specs.Flats.{FlatUnit}
use Rattle.il_units.specs.Expansion.{Pieces, flat_of, text_of, expansion_of, origin_in, instruction_origin}
use Rattle.il_units.specs.Misuse.{TellsError, fault_of, unit_fault_number}
use Rattle.il_units.specs.declared.fault.UnitError.{UnitError}
use Rattle.il_units.specs.declared.fault.UnitError.TheVariants as unit_errors
use Rattle.il_units.specs.declared.fault.UnitFaultAt.{UnitFaultAt}
use Rattle.il_text.specs.declared.fault.Fault.{Fault}
use Rattle.il_text.specs.declared.fault.Fault.TheVariants as faults
use Rattle.il_text.specs.Meaning.{IsPlainProgramOf, IsGoodUnit, IsFrom, IsMisuse, IsUnitReadFault, IsUnitDeclarationFault, IsUnitTypingFault, IsExpansionFault, OrMemory}
use Rattle.il_text.proofs.UnitMeaning.{prefix_left, prefix_of_fault}

-- the text of an expansion is the unit's
pub text_is : (u : FlatUnit) (e : Pieces) (bytes : List ℕ) → e ≡ expansion_of u → bytes ≡ e.text → bytes ≡ text_of u
text_is u e bytes is all = all ∙ ap (λ (p : Pieces). p.text) is

-- where a place of an expansion comes from, by how many bytes stand before it
pub is_from : (text : List ℕ) (u : FlatUnit) (e : Pieces) (bytes : List ℕ) (there here : Place) (before left n : ℕ) → e ≡ expansion_of u → bytes ≡ e.text → before ≤ length bytes
    → ((k : ℕ) → k ≤ length bytes → there ≡ place_behind (take k bytes) → there ≡ place_behind (take before bytes))
    → left ≡ origin_in e.origins before → here ≡ place_at text left
    → n ≤ length (text_of u) → there ≡ place_behind (take n (text_of u)) → IsFrom text u there here
is_from text u e bytes there here before left n is all short found from lies le stands =
    let same = text_is u e bytes is all in
    let here_found = found n (subst (λ (t : List ℕ). n ≤ length t) (sym same) le) (subst (λ (t : List ℕ). there ≡ place_behind (take n t)) (sym same) stands) in
    record {
      at = before;
      short = subst (λ (t : List ℕ). before ≤ length t) same short;
      there_is = subst (λ (t : List ℕ). there ≡ place_behind (take before t)) same here_found;
      here_is = lies ∙ ap (place_at text) (from ∙ ap (λ (p : Pieces). origin_in p.origins before) is);
    }

-- what a place comes from is known wherever there is one
abbrev pub Comes : List ℕ → FlatUnit → Place → Place → Type 0
Comes text u there here = (n : ℕ) → n ≤ length (text_of u) → there ≡ place_behind (take n (text_of u)) → IsFrom text u there here

pub misuse_told : (text : List ℕ) (above : List FlatUnit) (unit : UnitText) (e : UnitError) (f : UnitFaultAt) (here : Place) (n : ℕ) → e ≡ unit_errors.Fault f → n ≡ unit_fault_number f.kind → here ≡ place_at text f.left
    → TellsError e (fault_of text above unit) → OrMemory (IsMisuse text above unit) (faults.Declaration n here.line here.column)
misuse_told text above unit e f here n is number lies told =
    let first : fault_of text above unit ≡ Some f = subst (λ (x : UnitError). TellsError x (fault_of text above unit)) is told in
    inl (record { fault = f; first = first; place = here; place_is = lies; is = ap (λ (k : ℕ). faults.Declaration k here.line here.column) number })

pub read_told : (text : List ℕ) (u : FlatUnit) (e : ReadError) (f : read_faults.Fault) (here : Place) (n : ℕ) → e ≡ read_errors.Fault f → n ≡ kind_number f.kind → Comes text u f.place here
    → reading.TellsFirst (text_of u) (Err e) → OrMemory (IsUnitReadFault text u) (faults.Read n here.line here.column)
read_told text u e f here n is number comes told =
    let first : IsFaultOf (text_of u) f = subst (λ (x : ReadError). reading.TellsFirst (text_of u) (Err x)) is told in
    let p = prefix_of_fault (text_of u) f first in
    inl (record { fault = f; first = first; place = here; from = comes p.0 p.1 p.2; is = ap (λ (k : ℕ). faults.Read k here.line here.column) number })

pub declaration_told : (text : List ℕ) (u : FlatUnit) (s : SourceText) (e : DeclError) (f : declaration_faults.Fault) (here : Place) (n : ℕ) → e ≡ declaration_errors.Fault f → n ≡ declaring.kind_number f.kind → Comes text u f.place here
    → Reads (text_of u) s → declaring.TellsFirst {X = Program} s (Err e) → OrMemory (IsUnitDeclarationFault text u) (faults.Declaration n here.line here.column)
declaration_told text u s e f here n is number comes read told =
    let refused : declaring.IsRefused s f = subst (λ (x : DeclError). declaring.TellsFirst {X = Program} s (Err x)) is told in
    let p = prefix_left (text_of u) f.place refused.fault.left (refused.place ∙ ap (λ (t : List ℕ). place_at t refused.fault.left) read.0) in
    inl (record { source = s; read = read; fault = f; undeclared = refused; place = here; from = comes p.0 p.1 p.2; is = ap (λ (k : ℕ). faults.Declaration k here.line here.column) number })

pub typing_told : (text : List ℕ) (u : FlatUnit) (P : Program) (e : AsmError) (f : TypeFault) (i : ℕ) (here : Place) (left n : ℕ) → e ≡ assembly_errors.Fault f i → n ≡ fault_number f → left ≡ instruction_origin u i → here ≡ place_at text left
    → IsPlainProgramOf (text_of u) P → typing.TellsFirst {X = Unit {0}} P (Err e) → OrMemory (IsUnitTypingFault text u) (faults.Type n here.line here.column)
typing_told text u P e f i here left n is number from lies plain told =
    let first : typing.IsFirstFault P i f = subst (λ (x : AsmError). typing.TellsFirst {X = Unit {0}} P (Err x)) is told in
    inl (record { program = P; is = plain; fault = f; instruction = i; first = first; place = here; place_is = lies ∙ ap (place_at text) from; told_is = ap (λ (k : ℕ). faults.Type k here.line here.column) number })

-- ---- one of the expansion's faults

-- more faults than these
pub or_more : (F G : Fault → Type 0) (told : Fault) → (F told → G told) → OrMemory F told → OrMemory G told
or_more F G told more (inl fault) = inl (more fault)
or_more F G told more (inr memory) = inr memory

-- the expansion's text declares a program
pub plain_of : (u : FlatUnit) (e : Pieces) (bytes : List ℕ) (s : SourceText) (P : Program) → e ≡ expansion_of u → bytes ≡ e.text → Reads bytes s
    → Declaring.IsProgramOf (dialect_of s.text) s.says P × declaring.HasNoFault (dialect_of s.text) s.says → IsPlainProgramOf (text_of u) P
plain_of u e bytes s P is all read declared =
    let same = text_is u e bytes is all in
    record { source = s; read = subst (λ (t : List ℕ). Reads t s) same read; declared = declared.0; faultless = declared.1 }

-- its program doesn't fit the types, and that is told
pub untyped : (text : List ℕ) (u : FlatUnit) (P : Program) (error : AsmError) (told : Fault) → IsPlainProgramOf (text_of u) P → typing.TellsFirst {X = Unit {0}} P (Err error)
    → ((Q : Program) → IsPlainProgramOf (text_of u) Q → typing.TellsFirst {X = Unit {0}} Q (Err error) → OrMemory (IsUnitTypingFault text u) told) → OrMemory (IsExpansionFault text u) told
untyped text u P error told plain first tells = or_more (IsUnitTypingFault text u) (IsExpansionFault text u) told (λ a. inr (inr a)) (tells P plain first)

-- ---- a unit

-- one that has no fault of its own, and whose expansion is a program of fitting types
pub good_unit : (text t : List ℕ) (above : List FlatUnit) (unit : UnitText) (u : FlatUnit) (P : Program) → t ≡ text → fault_of t above unit ≡ None → u ≡ flat_of t above unit → IsPlainProgramOf (text_of u) P → (Q : Program) × IsTypedProgramOf P Q → IsGoodUnit text above unit
good_unit text t above unit u P same none is plain typed =
    let good : IsGoodUnit t above unit = (none, P, typed.0, subst (λ (v : FlatUnit). IsPlainProgramOf (text_of v) P) is plain, typed.1) in
    subst (λ (s : List ℕ). IsGoodUnit s above unit) same good
