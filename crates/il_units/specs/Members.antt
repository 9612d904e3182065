-- The variables and instances of a unit, and what its operands stand for.
use Rattle.std.specs.Prelude.{ℕ, List, [], ◌∷◌, ◌++◌, map, find, Option, Some, None, option_map, Bool, true, false}
use Rattle.std.specs.Prelude.{◌&&◌, codes, if◌then◌else◌}
use Rattle.std.specs.List.{flat_map}
use Rattle.std.specs.Str.{bytes_eq}
use Rattle.il_values.specs.declared.value.Ty.{Ty}
use Rattle.il_values.specs.declared.value.Ty.TheVariants as types
use Rattle.il_model.specs.declared.literal.Literal.{Literal}
use Rattle.il_model.specs.declared.literal.Literal.TheVariants.{Bare}
use Rattle.il_model.specs.declared.dialect.Dialect.TheVariants as dialects
use Rattle.il_model.specs.Dialects.{literal_in}
use Rattle.il_model.specs.Words.{under}
use Rattle.il_reader.specs.Tokens.{Token}
use Rattle.il_reader.specs.Grammar.{OperandText, Constant, Direct, Named, Field, DeclarationText, NamesText, Located}
use Rattle.il_reader.specs.Grammar.{More}
use Rattle.il_reader.specs.Grammar.{says_retained}
use Rattle.il_units.specs.declared.contents.SectionKind.{SectionKind}
use Rattle.il_units.specs.declared.contents.SectionKind.TheVariants as sections
use Rattle.il_units.specs.declared.word.Sort.{Sort}
use Rattle.il_units.specs.declared.word.Sort.TheVariants as sorts
use Rattle.il_units.specs.declared.word.Word.{Word}
use Rattle.il_units.specs.declared.word.Entry.{Entry}
use Rattle.il_units.specs.declared.members.Member.{Member}
use Rattle.il_units.specs.Units.{SectionText, UnitText}
use Rattle.il_units.specs.Words.{capitals, said, own}

-- ---- types by their words

abbrev pub type_word : Ty → List ℕ
type_word types.Bool = codes "BOOL"
type_word types.Int = codes "INT"
type_word types.Dint = codes "DINT"
type_word types.Time = codes "TIME"
type_word types.Lint = codes "LINT"
type_word types.Real = codes "REAL"
type_word types.Word = codes "WORD"
type_word types.Dword = codes "DWORD"

-- the elementary types
abbrev pub elementary_types : List Ty
elementary_types = types.Bool ∷ types.Int ∷ types.Dint ∷ types.Time ∷ types.Lint ∷ types.Real ∷ types.Word
    ∷ types.Dword ∷ []

-- the elementary type of a word
abbrev pub type_named : List ℕ → Option Ty
type_named word = find (λ (ty : Ty). bytes_eq (type_word ty) word) elementary_types

-- ---- a bare number is of the type of what it goes into

abbrev pub is_bare_number : Option Literal → Bool
is_bare_number (Some (Bare z)) = true
is_bare_number literal = false

abbrev pub is_bare : List ℕ → Bool
is_bare text = is_bare_number (literal_in dialects.Extended text)

-- the types that bare numbers may have
abbrev pub takes_numbers : Option Ty → Bool
takes_numbers None = false
takes_numbers (Some types.Time) = false
takes_numbers (Some types.Real) = false
takes_numbers (Some ty) = true

abbrev pub is_said : Sort → Bool
is_said sorts.Said = true
is_said sort = false

abbrev pub typed_number : List ℕ → Word → Word
typed_number ty word = said (ty ++ (codes "#" ++ word.text)) word.left

-- 5 goes into a DINT as DINT#5
abbrev pub settled : List ℕ → Word → Word
settled ty word = if is_said word.sort && (takes_numbers (type_named ty) && is_bare word.text)
    then typed_number ty word else word

-- ---- members

abbrev pub place_in : NamesText → Option Token
place_in (Located t) = Some t
place_in (More ts) = None

abbrev pub other_names : NamesText → List Token
other_names (Located t) = []
other_names (More ts) = ts

abbrev pub names_in : DeclarationText → List Token
names_in d = d.name ∷ other_names d.names

-- a word as it is written
abbrev pub written : Token → Word
written t = said t.text t.left

-- A name that a unit declares, with its type, where it lies, and its first value.
abbrev pub member_by : SectionKind → Bool → DeclarationText → Token → Member
member_by kind retained d t = record {
  kind = kind;
  retained = retained;
  name = own (capitals t.text) t.left;
  ty = said (capitals d.ty.text) d.ty.left;
  place = option_map written (place_in d.names);
  initial = option_map written d.initial;
}

abbrev pub declared_members : SectionKind → Bool → DeclarationText → List Member
declared_members kind retained d = map (member_by kind retained d) (names_in d)

abbrev pub section_members : SectionText → List Member
section_members s = flat_map (declared_members s.kind (says_retained s.qualifier)) s.declarations

-- the result of a function is a variable of its name
abbrev pub result_member : Token → Token → Member
result_member name ty = record {
  kind = sections.Local;
  retained = false;
  name = own (capitals name.text) name.left;
  ty = said (capitals ty.text) ty.left;
  place = None;
  initial = None;
}

abbrev pub result_members : Token → Option Token → List Member
result_members name None = []
result_members name (Some ty) = result_member name ty ∷ []

-- in the order of the text
abbrev pub members_of : UnitText → List Member
members_of unit = result_members unit.name unit.result ++ flat_map section_members unit.sections

abbrev pub has_name : List ℕ → Member → Bool
has_name name m = bytes_eq m.name.text name

-- the first of them with a name
abbrev pub member_named : List Member → List ℕ → Option Member
member_named members name = find (has_name name) members

-- ---- operands

abbrev pub constant_word : List ℕ → Option Word → List ℕ → ℕ → Word
constant_word ty None name left = own name left
constant_word ty (Some w) name left = settled ty (said w.text left)

abbrev pub name_word_as : SectionKind → Member → List ℕ → ℕ → Word
name_word_as sections.Constant m name left = constant_word m.ty.text m.initial name left
name_word_as sections.InOut m name left = record { sort = sorts.InOut; text = name; left = left }
name_word_as kind m name left = own name left

-- a constant is its literal, of its type, and a VAR_IN_OUT waits for what a call gives
abbrev pub name_word : Member → List ℕ → ℕ → Word
name_word m name left = name_word_as m.kind m name left

abbrev pub member_word : Option Member → List ℕ → ℕ → Word
member_word None name left = own name left
member_word (Some m) name left = name_word m name left

abbrev pub operand_word : List Member → OperandText → Word
operand_word members (Constant t) = written t
operand_word members (Direct t) = written t
operand_word members (Named t) = member_word (member_named members (capitals t.text)) (capitals t.text) t.left
operand_word members (Field t f) = own (under (capitals t.text) (capitals f.text)) t.left

-- ---- declarations

abbrev pub place_words : Option Word → List Word
place_words None = []
place_words (Some w) = said (codes "AT") w.left ∷ w ∷ []

abbrev pub initial_words : Option Word → List Word
initial_words None = []
initial_words (Some w) = said (codes ":=") w.left ∷ w ∷ []

-- name [AT place] : type [:= value] ;
abbrev pub entry_of : Member → Entry
entry_of m = record {
  retained = m.retained;
  name = m.name;
  words = place_words m.place ++ (said (codes ":") m.ty.left ∷ m.ty
      ∷ (initial_words m.initial ++ said (codes ";") m.ty.left ∷ []));
}
