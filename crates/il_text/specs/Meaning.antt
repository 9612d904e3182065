-- What a text means: the typed program that it says, the image of that, or its first fault.
use Rattle.std.specs.Prelude.{◌≡◌, ◌⊎◌, ◌≤◌, ℕ, Bool, true, false, List, [], ◌∷◌, ◌++◌, length, take, Some, None}
use Rattle.std.specs.Prelude.{Err}
use Rattle.il_model.specs.Program.{Program}
use Rattle.il_model.specs.declared.typing.TypeFault.{TypeFault}
use Rattle.il_model.specs.Settled.{IsTypedProgramOf}
use Rattle.il_model.specs.Image.{spelling}
use Rattle.il_model.specs.Fits.{IsImage}
use Rattle.il_reader.specs.Grammar.{dialect_of}
use Rattle.il_reader.specs.Texts.{SourceText, Reads}
use Rattle.il_reader.specs.FirstFault.{IsFaultOf}
use Rattle.il_reader.specs.declared.fault.Fault as read_faults
use Rattle.il_reader.specs.declared.fault.ReadError.TheVariants as read_errors
use Rattle.il_reader.specs.Texts.{place_at, place_behind}
use Rattle.il_reader.specs.declared.place.Place as places
use Rattle.il_units.specs.Units.{UnitText}
use Rattle.il_units.specs.Spelling.{has_units, SaysUnits}
use Rattle.il_units.specs.FirstFault.{IsUnitsFaultOf}
use Rattle.il_units.specs.declared.fault.UnitFaultAt.{UnitFaultAt}
use Rattle.il_units.specs.Flats.{FlatUnit}
use Rattle.il_units.specs.Expansion.{expanded, flat_of, text_of, origins_of, origin_in, instruction_origin}
use Rattle.il_units.specs.Misuse.{fault_of, unit_fault_number}
use Rattle.il_declarations.specs.Declaring as Declaring
use Rattle.il_declarations.specs.FirstFault.{HasNoFault, IsRefused as IsRefusedSource}
use Rattle.il_declarations.specs.declared.fault.Fault as declaration_faults
use Rattle.il_declarations.specs.declared.fault.DeclError.TheVariants as declaration_errors
use Rattle.il_assembler.specs.Assembled.{IsFirstFault as IsFirstTypeFault}
use Rattle.il_model.specs.Checking.{fault_number}
use Rattle.il_assembler.specs.declared.fault.AsmError.TheVariants as assembly_errors
use Rattle.il_records.specs.declared.fault.LoadFault.{LoadFault}
use Rattle.il_loader.specs.Judging.{image_of}
use Rattle.il_text.specs.Telling.{of_read, of_declaration, of_assembly, of_bytes, status_of}
use Rattle.il_text.specs.declared.fault.Fault.{Fault}
use Rattle.il_text.specs.declared.fault.Fault.TheVariants as faults

-- the text by itself, where nothing is expanded, declares this program, and has no fault
pub record IsPlainProgramOf (text : List ℕ) (program : Program) : Type 0 where
  pub source : SourceText
  pub read : Reads text source
  pub declared : Declaring.IsProgramOf (dialect_of source.text) source.says program
  pub faultless : HasNoFault (dialect_of source.text) source.says

-- a unit that has no fault: its expansion, standing alone, is a program that fits the types
abbrev pub IsGoodUnit : List ℕ → List FlatUnit → UnitText → Type 0
IsGoodUnit text above unit = (fault_of text above unit ≡ None)
    × (program : Program) × (typed : Program)
    × IsPlainProgramOf (text_of (flat_of text above unit)) program × IsTypedProgramOf program typed

-- none of them has a fault, each beside those above it
abbrev pub AreGood : List ℕ → List FlatUnit → List UnitText → Type 0
AreGood text above [] = Unit {0}
AreGood text above (unit ∷ more) =
    IsGoodUnit text above unit × AreGood text (above ++ flat_of text above unit ∷ []) more

-- A text of units, none of which has a fault, means the extended text of its program, in which all calls are replaced;
-- any other text means itself.
abbrev pub MeansBy : Bool → List ℕ → List ℕ → Type 0
MeansBy true text plain = (us : List UnitText) × SaysUnits text us × AreGood text [] us × (plain ≡ expanded text us)
MeansBy false text plain = plain ≡ text

abbrev pub Means : List ℕ → List ℕ → Type 0
Means text plain = MeansBy (has_units text) text plain

-- the text declares this program, by itself or by its expansion
pub record IsProgramOf (text : List ℕ) (program : Program) : Type 0 where
  pub plain : List ℕ
  pub means : Means text plain
  pub is : IsPlainProgramOf plain program

-- the text says a program whose typed program, with a type for each bare number, is this one
pub record IsTypedProgramOfText (text : List ℕ) (typed : Program) : Type 0 where
  pub program : Program
  pub is : IsProgramOf text program
  pub settled : IsTypedProgramOf program typed

-- the bytes are the image of the program that the text says
pub record IsImageOfText (text bytes : List ℕ) : Type 0 where
  pub program : Program
  pub is : IsTypedProgramOfText text program
  pub image : IsImage program
  pub spelled : bytes ≡ spelling program

-- ---- the first fault of a text

-- the text is none of units and no source, and this is told of it
pub record IsReadFault (text : List ℕ) (told : Fault) : Type 0 where
  pub plain : has_units text ≡ false
  pub fault : read_faults.Fault
  pub first : IsFaultOf text fault
  pub is : told ≡ of_read (read_errors.Fault fault)

-- it is a source, and this is told of the first fault of what it declares
pub record IsDeclarationFault (text : List ℕ) (told : Fault) : Type 0 where
  pub plain : has_units text ≡ false
  pub source : SourceText
  pub read : Reads text source
  pub fault : declaration_faults.Fault
  pub undeclared : IsRefusedSource source fault
  pub is : told ≡ of_declaration (declaration_errors.Fault fault)

-- the program has no typed program, and this is told of the first fault of the least instruction that has one
pub record IsUntyped (program : Program) (told : Fault) : Type 0 where
  pub fault : TypeFault
  pub instruction : ℕ
  pub first : IsFirstTypeFault program instruction fault
  pub is : told ≡ of_assembly (assembly_errors.Fault fault instruction)

-- it is none of units and says a program, and this is told of that one's first fault
pub record IsTypingFault (text : List ℕ) (told : Fault) : Type 0 where
  pub plain : has_units text ≡ false
  pub program : Program
  pub is : IsProgramOf text program
  pub untyped : IsUntyped program told

-- ---- the first fault of a text of units

-- a place of an expansion is this place of the text of units
pub record IsFrom (text : List ℕ) (u : FlatUnit) (there here : places.Place) : Type 0 where
  pub at : ℕ
  pub short : at ≤ length (text_of u)
  pub there_is : there ≡ place_behind (take at (text_of u))
  pub here_is : here ≡ place_at text (origin_in (origins_of u) at)

-- the first of the unit's own faults is told
pub record IsMisuse (text : List ℕ) (above : List FlatUnit) (unit : UnitText) (told : Fault) : Type 0 where
  pub fault : UnitFaultAt
  pub first : fault_of text above unit ≡ Some fault
  pub place : places.Place
  pub place_is : place ≡ place_at text fault.left
  pub is : told ≡ faults.Declaration (unit_fault_number fault.kind) place.line place.column

-- the unit has none, and the first fault of its expansion is told, at the place that it comes from
pub record IsUnitReadFault (text : List ℕ) (u : FlatUnit) (told : Fault) : Type 0 where
  pub fault : read_faults.Fault
  pub first : IsFaultOf (text_of u) fault
  pub place : places.Place
  pub from : IsFrom text u fault.place place
  pub is : told ≡ of_read (read_errors.Fault (record fault { place = place }))

pub record IsUnitDeclarationFault (text : List ℕ) (u : FlatUnit) (told : Fault) : Type 0 where
  pub source : SourceText
  pub read : Reads (text_of u) source
  pub fault : declaration_faults.Fault
  pub undeclared : IsRefusedSource source fault
  pub place : places.Place
  pub from : IsFrom text u fault.place place
  pub is : told ≡ of_declaration (declaration_errors.Fault (record fault { place = place }))

pub record IsUnitTypingFault (text : List ℕ) (u : FlatUnit) (told : Fault) : Type 0 where
  pub program : Program
  pub is : IsPlainProgramOf (text_of u) program
  pub fault : TypeFault
  pub instruction : ℕ
  pub first : IsFirstTypeFault program instruction fault
  pub place : places.Place
  pub place_is : place ≡ place_at text (instruction_origin u instruction)
  pub told_is : told ≡ faults.Type (fault_number fault) place.line place.column

-- the expansion of a unit has a fault, and its first one is told
abbrev pub IsExpansionFault : List ℕ → FlatUnit → Fault → Type 0
IsExpansionFault text u told =
    IsUnitReadFault text u told ⊎ (IsUnitDeclarationFault text u told ⊎ IsUnitTypingFault text u told)

abbrev pub IsUnitFault : List ℕ → List FlatUnit → UnitText → Fault → Type 0
IsUnitFault text above unit told = IsMisuse text above unit told
    ⊎ ((fault_of text above unit ≡ None) × IsExpansionFault text (flat_of text above unit) told)

-- the units before it are good, and this one isn't
abbrev pub HasUnitFault : List ℕ → List FlatUnit → List UnitText → Fault → Type 0
HasUnitFault text above [] told = ⊥
HasUnitFault text above (unit ∷ more) told = IsUnitFault text above unit told
    ⊎ (IsGoodUnit text above unit × HasUnitFault text (above ++ flat_of text above unit ∷ []) more told)

-- the text is one of units, which isn't read, and this is told of it
pub record IsUnitsReadFault (text : List ℕ) (told : Fault) : Type 0 where
  pub units : has_units text ≡ true
  pub fault : read_faults.Fault
  pub first : IsUnitsFaultOf text fault
  pub is : told ≡ of_read (read_errors.Fault fault)

-- it is read, and this is told of the first unit that has a fault
pub record IsUnitsFault (text : List ℕ) (told : Fault) : Type 0 where
  pub units : has_units text ≡ true
  pub us : List UnitText
  pub says : SaysUnits text us
  pub fault : HasUnitFault text [] us told

-- the text says no program, and this is told of it
abbrev pub IsProgramFault : List ℕ → Fault → Type 0
IsProgramFault text told = IsReadFault text told
    ⊎ (IsDeclarationFault text told ⊎ (IsUnitsReadFault text told ⊎ IsUnitsFault text told))

-- what is told of a text that has no typed program: its first fault, in the first layer that refuses it
abbrev pub IsTextFault : List ℕ → Fault → Type 0
IsTextFault text told = IsProgramFault text told ⊎ IsTypingFault text told

-- what is told of bytes that are no image: their first fault
pub record IsImageFault (bytes : List ℕ) (told : Fault) : Type 0 where
  pub fault : LoadFault
  pub unloaded : image_of bytes ≡ Err fault
  pub is : told ≡ of_bytes fault

-- such a fault is told, or that memory ran out
abbrev pub OrMemory : (Fault → Type 0) → Fault → Type 0
OrMemory IsFault told = IsFault told ⊎ (told ≡ faults.Memory)

-- input is refused: it has a fault
pub record IsRefused (IsFault : Fault → Type 0) : Type 0 where
  pub fault : Fault
  pub input : status_of fault ≡ 1
  pub is : IsFault fault

-- no layer refuses the text: it has a typed program
abbrev pub IsGoodText : List ℕ → Type 0
IsGoodText text = (typed : Program) × IsTypedProgramOfText text typed

-- the fault that is told where another file has one: that of the text, and of a good text that one; or that memory ran
-- out
abbrev pub IsFirstFault : List ℕ → Fault → Fault → Type 0
IsFirstFault text fault = OrMemory (λ told. IsTextFault text told ⊎ ((told ≡ fault) × IsGoodText text))
