-- The faults that a text has, each told of one name, one declaration or one instruction line beside what stands before
-- it.
use Rattle.std.specs.Prelude.{◌≡◌, ◌⊎◌, ℕ, suc, ◌+◌, List, [], ◌∷◌, ◌++◌, length, map, Option, Some, None, is_none, Bool, true}
use Rattle.std.specs.Prelude.{false, not, ◌||◌, nat_le}
use Rattle.std.specs.List.{flat_map, filter, list_any}
use Rattle.il_model.specs.declared.dialect.Dialect.{Dialect}
use Rattle.il_model.specs.Dialects.{literal_in, location_in, newest}
use Rattle.il_model.specs.Limits.{most_variables, most_instances}
use Rattle.il_model.specs.declared.program.Loc.{Loc}
use Rattle.il_model.specs.Words.{is_reserved, split_last}
use Rattle.il_model.specs.CodedOperands.{loc_code}
use Rattle.il_model.specs.Locations.{parts_of}
use Rattle.il_reader.specs.Tokens.{Token}
use Rattle.il_reader.specs.Grammar.{OperandText, Constant, Direct, Named, Field, BehindText, Nothing, Given, Target}
use Rattle.il_reader.specs.Grammar.{Opened, Called, arguments_of, OperationText, LineText, Labelled, Plain, Located}
use Rattle.il_reader.specs.Grammar.{ProgramText}
use Rattle.il_declarations.specs.declared.variables.DeclaredType.{DeclaredType}
use Rattle.il_declarations.specs.declared.variables.DeclaredType.TheVariants as declared
use Rattle.il_declarations.specs.declared.fault.DeclKind.{DeclKind}
use Rattle.il_declarations.specs.declared.fault.DeclKind.TheVariants as kinds
use Rattle.il_declarations.specs.declared.fault.FaultAt.{FaultAt}
use Rattle.il_declarations.specs.Resolution.{capitals, suits, written_value, are_too_many}
use Rattle.il_declarations.specs.Declaring.{DeclaredName, names_in, declarations_of, names_of, type_in, is_instance}
use Rattle.il_declarations.specs.Declaring.{is_variable, written_location, is_declared, names_variable, names_instance}
use Rattle.il_declarations.specs.Declaring.{is_occupied, is_shadowed, line_words, text_words}

-- in a list there is an item for which this holds, with those before it
pub record Somewhere {X : Type 0} (P : List X → X → Type 0) (xs : List X) : Type 0 where
  pub before : List X
  pub item : X
  pub behind : List X
  pub is : xs ≡ before ++ item ∷ behind
  pub holds : P before item

-- ---- declarations

-- There are as many instances, or variables, as a program may have. With an unknown type none is asked; before it
-- stands the fault of that type.
abbrev pub has_no_room : Dialect → Option DeclaredType → List DeclaredName → Bool
has_no_room dialect None before = false
has_no_room dialect (Some (declared.Elementary type)) before =
    nat_le (most_variables (newest dialect)) (length (filter (is_variable dialect) before))
has_no_room dialect (Some (declared.Block kind)) before =
    nat_le (most_instances (newest dialect)) (length (filter (is_instance dialect) before))

-- it is no location, or none of the type
abbrev pub is_no_place : Option DeclaredType → Option Loc → Bool
is_no_place type None = true
is_no_place type (Some loc) = not (suits type loc)

-- a variable before lies at one of its bits or words
abbrev pub is_overlapping : Dialect → List DeclaredName → Option Loc → Bool
is_overlapping dialect before None = false
is_overlapping dialect before (Some loc) = list_any (λ part. is_occupied dialect before (loc_code part)) (parts_of loc)

-- an instance has no first value, an input neither, and else it has to fit; behind an unknown type nothing is asked
abbrev pub is_bad_start : Dialect → Option Loc → Token → Option DeclaredType → Bool
is_bad_start dialect loc t None = false
is_bad_start dialect loc t (Some (declared.Block kind)) = true
is_bad_start dialect loc t (Some (declared.Elementary type)) = is_none (written_value dialect type loc t)

-- ---- instruction lines

-- what a line asks for: a variable, an instance, a location or a literal
pub data Asked : Type 0 where
  AsVariable : Token → Asked
  AsInstance : Token → Asked
  AsLocation : Token → Asked
  AsLiteral : Token → Asked

abbrev pub asked_token : Asked → Token
asked_token (AsVariable t) = t
asked_token (AsInstance t) = t
asked_token (AsLocation t) = t
asked_token (AsLiteral t) = t

-- what it is called where there is none
abbrev pub asked_kind : Asked → DeclKind
asked_kind (AsLocation t) = kinds.BadLocation
asked_kind a = kinds.UnknownName

-- the field of an instance, by what stands before its last dot and behind it; whether the block has it is judged later
abbrev pub names_field : Dialect → List DeclaredName → Option (List ℕ × List ℕ) → Bool
names_field dialect names None = false
names_field dialect names (Some (x, field)) = names_instance dialect names x

-- there is none; a text that was read has no constants but literals
abbrev pub is_missing : Dialect → List DeclaredName → Asked → Bool
is_missing dialect names (AsVariable t) =
    not (names_variable dialect names (capitals t.text) || names_field dialect names (split_last (capitals t.text)))
is_missing dialect names (AsInstance t) = not (names_instance dialect names (capitals t.text))
is_missing dialect names (AsLocation t) = is_none (location_in dialect t.text)
is_missing dialect names (AsLiteral t) = is_none (literal_in dialect t.text)

abbrev pub asked_by : OperandText → Asked
asked_by (Constant t) = AsLiteral t
asked_by (Direct t) = AsLocation t
asked_by (Named t) = AsVariable t
asked_by (Field t f) = AsInstance t

abbrev pub asked_behind : BehindText → List Asked
asked_behind Nothing = []
asked_behind (Given x) = asked_by x ∷ []
asked_behind (Target t) = []
asked_behind (Opened None) = []
asked_behind (Opened (Some x)) = asked_by x ∷ []
asked_behind (Called c) = AsInstance c.instance ∷ map (λ a. asked_by a.operand) (arguments_of c)

abbrev pub asked_of : Option OperationText → List Asked
asked_of None = []
asked_of (Some o) = asked_behind o.behind

abbrev pub asked_in : LineText → List Asked
asked_in (Labelled t o) = asked_of o
asked_in (Plain o) = asked_of (Some o)

-- where a line begins: at its label, or at its operator
abbrev pub begins_at : LineText → ℕ
begins_at (Labelled t o) = t.left
begins_at (Plain o) = o.operator.left

-- with this line there are more lines, or words, than a program may have
abbrev pub is_past_room : Dialect → List LineText → LineText → Bool
is_past_room dialect before l = are_too_many dialect (suc (length before)) (text_words before + line_words l)

-- ---- the faults

-- a name that a text declares is of this sort, beside those before it, and stands there
abbrev pub SomeName : ProgramText → ℕ → (List DeclaredName → DeclaredName → Bool) → Type 0
SomeName p left test = Somewhere (λ before x. (left ≡ x.name.left) × (test before x ≡ true)) (names_of p)

-- so a declaration at its location
abbrev pub SomePlace : Dialect → ProgramText → ℕ
    → (List DeclaredName → Option DeclaredType → Option Loc → Bool) → Type 0
SomePlace dialect p left test = Somewhere
    (λ before d. (t : Token) × (d.text.names ≡ Located t) × (left ≡ t.left)
    × (test (flat_map names_in before) (type_in dialect d.text) (location_in dialect t.text) ≡ true)) (declarations_of p)

-- so one at its first value
abbrev pub SomeStart : Dialect → ProgramText → ℕ → (Option Loc → Token → Option DeclaredType → Bool) → Type 0
SomeStart dialect p left test = Somewhere
    (λ before d. (t : Token) × (d.text.initial ≡ Some t) × (left ≡ t.left)
    × (test (written_location dialect d.text.names) t (type_in dialect d.text) ≡ true)) (declarations_of p)

-- a line asks for what there isn't, and it is called this
abbrev pub SomeMissing : Dialect → ProgramText → DeclKind → ℕ → Type 0
SomeMissing dialect p kind left =
    Somewhere (λ before l. Somewhere
    (λ others a. (asked_kind a ≡ kind) × (left ≡ (asked_token a).left) × (is_missing dialect (names_of p) a ≡ true))
    (asked_in l)) p.lines

abbrev pub HasFaultOf : Dialect → ProgramText → DeclKind → ℕ → Type 0
-- A name stands that one before it is too, whatever its case, be it of a variable or of an instance; or a variable's
-- under an instance's.
HasFaultOf dialect p kinds.Duplicate left =
    SomeName p left (λ before x. is_declared before (capitals x.name.text) || is_shadowed dialect before x)
-- A type word is neither a type nor the kind of a function block.
HasFaultOf dialect p kinds.UnknownType left =
    Somewhere (λ before d. (left ≡ d.text.ty.left) × (is_none (type_in dialect d.text) ≡ true)) (declarations_of p)
-- A line names what isn't declared.
HasFaultOf dialect p kinds.UnknownName left = SomeMissing dialect p kinds.UnknownName left
-- A declaration puts its variable where none of its type can lie, or a line names a location that there isn't.
HasFaultOf dialect p kinds.BadLocation left = SomePlace dialect p left (λ before type loc. is_no_place type loc)
    ⊎ SomeMissing dialect p kinds.BadLocation left
-- It puts it where a variable before lies.
HasFaultOf dialect p kinds.Overlap left =
    SomePlace dialect p left (λ before type loc. is_overlapping dialect before loc)
-- Its first value is none that it may have.
HasFaultOf dialect p kinds.BadInitial left = SomeStart dialect p left (is_bad_start dialect)
-- A reserved word stands as a name, or as a label.
HasFaultOf dialect p kinds.ReservedName left = SomeName p left (λ before x. is_reserved (capitals x.name.text))
    ⊎ Somewhere (λ before l. (t : Token) × (o : Option OperationText) × (l ≡ Labelled t o) × (left ≡ t.left)
    × (is_reserved (capitals t.text) ≡ true)) p.lines
-- There are as many variables or instances before it as a program may have, or with the line there are too many lines,
-- or words.
HasFaultOf dialect p kinds.TooMany left =
    SomeName p left (λ before x. has_no_room dialect (type_in dialect x.by) before)
    ⊎ Somewhere (λ before l. (left ≡ begins_at l) × (is_past_room dialect before l ≡ true)) p.lines

-- a text has a fault of a kind where so many bytes are left
abbrev pub HasFault : Dialect → ProgramText → FaultAt → Type 0
HasFault dialect p f = HasFaultOf dialect p f.kind f.left
