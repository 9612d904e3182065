-- The faults of a text as one list, in the order of the text.
use Rattle.std.specs.Prelude.{◌≡◌, ◌⊎◌, ℕ, List, [], ◌∷◌, ◌++◌, Option, Some, None, is_none, Bool, not, if◌then◌else◌, ◌||◌}
use Rattle.std.specs.List.{flat_map}
use Rattle.il_model.specs.declared.dialect.Dialect.{Dialect}
use Rattle.il_model.specs.Dialects.{literal_in, location_in}
use Rattle.il_model.specs.declared.program.Loc.{Loc}
use Rattle.il_model.specs.Words.{is_reserved, split_last}
use Rattle.il_reader.specs.Tokens.{Token}
use Rattle.il_reader.specs.Grammar.{OperandText, Constant, Direct, Named, Field, BehindText, Nothing, Given, Target, Opened, Called, OperationText, LineText, Labelled, Plain, NamesText, Located, More, ProgramText}
use Rattle.il_declarations.specs.declared.variables.DeclaredType.{DeclaredType}
use Rattle.il_declarations.specs.declared.fault.DeclKind.{DeclKind}
use Rattle.il_declarations.specs.declared.fault.DeclKind.TheVariants as kinds
use Rattle.il_declarations.specs.declared.fault.FaultAt.{FaultAt}
use Rattle.il_declarations.specs.Resolution.{capitals}
use Rattle.il_declarations.specs.Declaring.{DeclaredName, BlockDeclaration, names_in, declarations_of, names_of, type_in, written_location, is_declared, names_variable, names_instance, arguments_behind, is_shadowed}
use Rattle.il_declarations.specs.TextFaults.{has_no_room, is_past_room, is_no_place, is_overlapping, is_bad_start, names_field}

-- ---- the faults of declarations

abbrev pub when : Bool → DeclKind → ℕ → List FaultAt
when b kind left = if b then record { kind = kind; left = left } ∷ [] else []

-- what each thing gives, beside those before it
unfoldable pub beside : {X Y : Type 0} → (List X → X → List Y) → List X → List X → List Y
beside f before [] = []
beside f before (x ∷ xs) = f before x ++ beside f (before ++ x ∷ []) xs

abbrev pub name_faults : (dialect : Dialect) → List DeclaredName → DeclaredName → List FaultAt
name_faults dialect before x =
    when (is_declared before (capitals x.name.text) || is_shadowed dialect before x) kinds.Duplicate x.name.left
    ++ (when (is_reserved (capitals x.name.text)) kinds.ReservedName x.name.left
    ++ when (has_no_room dialect (type_in dialect x.by) before) kinds.TooMany x.name.left)

abbrev pub place_faults : (dialect : Dialect) → List DeclaredName → Option DeclaredType → Token → Option Loc → List FaultAt
place_faults dialect before type t o = when (is_no_place type o) kinds.BadLocation t.left ++ when (is_overlapping dialect before o) kinds.Overlap t.left

abbrev pub location_faults : (dialect : Dialect) → List DeclaredName → Option DeclaredType → NamesText → List FaultAt
location_faults dialect before type (Located at) = place_faults dialect before type at (location_in dialect at.text)
location_faults dialect before type (More ts) = []

abbrev pub start_faults : (dialect : Dialect) → Option Loc → Option Token → Option DeclaredType → List FaultAt
start_faults dialect loc None type = []
start_faults dialect loc (Some t) type = when (is_bad_start dialect loc t type) kinds.BadInitial t.left

-- the faults of a declaration, with these names before it
abbrev pub declaration_faults : (dialect : Dialect) → List DeclaredName → BlockDeclaration → List FaultAt
declaration_faults dialect before d =
    beside (name_faults dialect) before (names_in d)
    ++ (location_faults dialect before (type_in dialect d.text) d.text.names
    ++ (when (is_none (type_in dialect d.text)) kinds.UnknownType d.text.ty.left
    ++ start_faults dialect (written_location dialect d.text.names) d.text.initial (type_in dialect d.text)))

abbrev pub faults_of_declarations : (dialect : Dialect) → List BlockDeclaration → List FaultAt
faults_of_declarations dialect ds = beside (λ before d. declaration_faults dialect (flat_map names_in before) d) [] ds

-- ---- the faults of instructions

abbrev pub operand_faults : (dialect : Dialect) → List DeclaredName → OperandText → List FaultAt
operand_faults dialect names (Constant t) = when (is_none (literal_in dialect t.text)) kinds.UnknownName t.left
operand_faults dialect names (Direct t) = when (is_none (location_in dialect t.text)) kinds.BadLocation t.left
operand_faults dialect names (Named t) = when (not (names_variable dialect names (capitals t.text) || names_field dialect names (split_last (capitals t.text)))) kinds.UnknownName t.left
operand_faults dialect names (Field t f) = when (not (names_instance dialect names (capitals t.text))) kinds.UnknownName t.left

abbrev pub behind_faults : (dialect : Dialect) → List DeclaredName → BehindText → List FaultAt
behind_faults dialect names Nothing = []
behind_faults dialect names (Given x) = operand_faults dialect names x
behind_faults dialect names (Target t) = []
behind_faults dialect names (Opened None) = []
behind_faults dialect names (Opened (Some x)) = operand_faults dialect names x
behind_faults dialect names (Called c) = when (not (names_instance dialect names (capitals c.instance.text))) kinds.UnknownName c.instance.left

abbrev pub operation_faults : (dialect : Dialect) → List DeclaredName → Option OperationText → List FaultAt
operation_faults dialect names None = []
operation_faults dialect names (Some o) = behind_faults dialect names o.behind ++ flat_map (λ a. operand_faults dialect names a.operand) (arguments_behind o.behind)

abbrev pub line_faults : (dialect : Dialect) → List DeclaredName → List LineText → LineText → List FaultAt
line_faults dialect names before (Labelled t o) = when (is_reserved (capitals t.text)) kinds.ReservedName t.left ++ (when (is_past_room dialect before (Labelled t o)) kinds.TooMany t.left ++ operation_faults dialect names o)
line_faults dialect names before (Plain o) = when (is_past_room dialect before (Plain o)) kinds.TooMany o.operator.left ++ operation_faults dialect names (Some o)

-- ---- the whole

-- all faults of a text
abbrev pub faults_of : (dialect : Dialect) → ProgramText → List FaultAt
faults_of dialect p = faults_of_declarations dialect (declarations_of p) ++ beside (line_faults dialect (names_of p)) [] p.lines

-- one of the things of a list
abbrev pub Among : {X : Type 0} → X → List X → Type 0
Among x [] = ⊥
Among x (y ∷ ys) = (y ≡ x) ⊎ Among x ys
