-- Calls replaced: of own blocks, and of own functions.
use Rattle.std.specs.Prelude.{ℕ, List, [], ◌∷◌, ◌++◌, map, Option, Some, None, Bool, true, false, codes}
use Rattle.std.specs.Prelude.{if◌then◌else◌}
use Rattle.std.specs.List.{flat_map, filter, zip}
use Rattle.il_values.specs.declared.value.Ty.{Ty}
use Rattle.il_values.specs.declared.value.Ty.TheVariants as types
use Rattle.il_values.specs.declared.op.Modifier.{Modifier}
use Rattle.il_model.specs.Words.{under}
use Rattle.il_reader.specs.Grammar.{OperandText, ArgumentText, CallText, arguments_of}
use Rattle.il_units.specs.declared.contents.SectionKind.{SectionKind}
use Rattle.il_units.specs.declared.contents.SectionKind.TheVariants as sections
use Rattle.il_units.specs.declared.word.Sort.TheVariants as sorts
use Rattle.il_units.specs.declared.word.Word.{Word}
use Rattle.il_units.specs.declared.word.Line.{Line}
use Rattle.il_units.specs.declared.word.Entry.{Entry}
use Rattle.il_units.specs.declared.word.Given.{Given}
use Rattle.il_units.specs.declared.members.Member.{Member}
use Rattle.il_units.specs.Words.{capitals, said, own, shared, label, line_of, mark, Placing, placed_line, placed_entry}
use Rattle.il_units.specs.Words.{moved_entry}
use Rattle.il_units.specs.Members.{type_named, member_named, operand_word, settled}
use Rattle.il_units.specs.Flats.{FlatUnit, Body, only_lines}

-- a line of an operator and an operand
abbrev pub with_operand : List ℕ → Word → ℕ → Line
with_operand op x left = line_of left (said op left ∷ x ∷ [])

abbrev pub ld : Word → ℕ → Line
ld x left = with_operand (codes "LD") x left

abbrev pub st : Word → ℕ → Line
st x left = with_operand (codes "ST") x left

abbrev pub jump : List ℕ → List ℕ → ℕ → Line
jump op name left = with_operand op (label name left) left

-- ---- arguments

-- the member that an argument names
abbrev pub argued : FlatUnit → ArgumentText → Option Member
argued block a = member_named block.members (capitals a.field.text)

-- what an argument gives for a VAR_IN_OUT
abbrev pub given_as : SectionKind → Member → Word → List Given
given_as sections.InOut m x = record { name = m.name.text; word = x } ∷ []
given_as kind m x = []

abbrev pub given_by : Option Member → Word → List Given
given_by None x = []
given_by (Some m) x = given_as m.kind m x

abbrev pub given_words : List Member → FlatUnit → List ArgumentText → List Given
given_words members block args = flat_map (λ a. given_by (argued block a) (operand_word members a.operand)) args

-- a value goes into a variable: LD x, ST v
abbrev pub passed : List ℕ → Word → Word → ℕ → List Line
passed ty x v left = ld (settled ty x) left ∷ st v left ∷ []

abbrev pub input_as : SectionKind → List ℕ → Member → Word → ℕ → List Line
input_as sections.Input front m x left = passed m.ty.text x (own (under front m.name.text) left) left
input_as kind front m x left = []

abbrev pub input_by : List ℕ → Option Member → Word → ℕ → List Line
input_by front None x left = []
input_by front (Some m) x left = input_as m.kind front m x left

-- LD a, ST X.I for each input that is given
abbrev pub input_of : List Member → FlatUnit → List ℕ → ArgumentText → List Line
input_of members block front a =
    input_by front (argued block a) (operand_word members a.operand) a.field.left

abbrev pub output_as : SectionKind → List ℕ → Member → Word → ℕ → List Line
output_as sections.Output front m x left = ld (own (under front m.name.text) left) left ∷ st x left ∷ []
output_as kind front m x left = []

abbrev pub output_by : List ℕ → Option Member → Word → ℕ → List Line
output_by front None x left = []
output_by front (Some m) x left = output_as m.kind front m x left

-- LD X.O, ST b for each output that is asked for
abbrev pub output_of : List Member → FlatUnit → List ℕ → ArgumentText → List Line
output_of members block front a =
    output_by front (argued block a) (operand_word members a.operand) a.field.left

-- ---- a call of an own block

-- behind the body, and behind the whole call
abbrev pub back : List ℕ → List ℕ
back call = under call (codes "RET")

abbrev pub behind : List ℕ → List ℕ
behind call = under call (codes "CAL")

abbrev pub skip_word : Modifier → List ℕ
skip_word m = if m.negated then codes "JMPC" else codes "JMPCN"

-- a call with C or CN that isn't made goes behind it
abbrev pub skipped : List ℕ → Modifier → ℕ → List Line
skipped call m left = if m.conditional then jump (skip_word m) (behind call) left ∷ [] else []

abbrev pub placed_body : Placing → FlatUnit → List Line
placed_body at unit = map (placed_line at) unit.lines

abbrev pub instance_placing : List Member → FlatUnit → List ℕ → CallText → ℕ → Placing
instance_placing members block call c left = record {
  front = capitals c.instance.text;
  sort = sorts.Own;
  call = call;
  given = given_words members block (arguments_of c);
  left = left;
}

-- a call that is made: inputs as written, the body, outputs as written
abbrev pub made_call : List Member → FlatUnit → List ℕ → CallText → ℕ → List Line
made_call members block call c left =
    flat_map (input_of members block (capitals c.instance.text)) (arguments_of c)
    ++ (placed_body (instance_placing members block call c left) block
    ++ (mark (back call) left ∷ flat_map (output_of members block (capitals c.instance.text)) (arguments_of c)))

-- The call of that name. At its labels there is no current result, so behind it there is none.
abbrev pub called_lines : List Member → FlatUnit → List ℕ → Modifier → CallText → ℕ → List Line
called_lines members block call m c left =
    skipped call m left ++ (made_call members block call c left ++ mark (behind call) left ∷ [])

abbrev pub called : List Member → FlatUnit → List ℕ → Modifier → CallText → ℕ → Body
called members block call m c left = only_lines (called_lines members block call m c left)

-- ---- an own function

abbrev pub is_input_kind : SectionKind → Bool
is_input_kind sections.Input = true
is_input_kind kind = false

abbrev pub is_input : Member → Bool
is_input m = is_input_kind m.kind

-- a variable of a function
abbrev pub shared_in : FlatUnit → List ℕ → ℕ → Word
shared_in f name left = shared (under f.name name) left

-- LD a, ST F.I for the inputs behind the first
abbrev pub other_input : List Member → FlatUnit → ℕ → Member × OperandText → List Line
other_input members f left (m, x) =
    passed m.ty.text (operand_word members x) (shared_in f m.name.text left) left

-- ST F.I for the first input, which is the current result
abbrev pub function_inputs : List Member → FlatUnit → ℕ → List Member → List OperandText → List Line
function_inputs members f left [] xs = []
function_inputs members f left (m ∷ ms) xs = st (shared_in f m.name.text left) left
    ∷ flat_map (other_input members f left) (zip ms xs)

-- the literal of the first value of a type
abbrev pub zero_of_type : Option Ty → List ℕ
zero_of_type None = codes "FALSE"
zero_of_type (Some types.Bool) = codes "FALSE"
zero_of_type (Some types.Int) = codes "INT#0"
zero_of_type (Some types.Dint) = codes "DINT#0"
zero_of_type (Some types.Time) = codes "T#0s"
zero_of_type (Some types.Lint) = codes "LINT#0"
zero_of_type (Some types.Real) = codes "0.0"
zero_of_type (Some types.Word) = codes "WORD#0"
zero_of_type (Some types.Dword) = codes "DWORD#0"

abbrev pub first_literal : List ℕ → Option Word → List ℕ
first_literal ty None = zero_of_type (type_named ty)
first_literal ty (Some w) = w.text

abbrev pub first_value_as : SectionKind → FlatUnit → ℕ → Member → List Line
first_value_as sections.Local f left m = passed m.ty.text (said (first_literal m.ty.text m.initial) left)
    (shared_in f m.name.text left) left
first_value_as kind f left m = []

-- the result and the other variables of a function begin anew at each call
abbrev pub first_value : FlatUnit → ℕ → Member → List Line
first_value f left m = first_value_as m.kind f left m

abbrev pub function_placing : FlatUnit → List ℕ → ℕ → Placing
function_placing f call left =
    record { front = f.name; sort = sorts.Shared; call = call; given = []; left = left }

-- the current result is the first input, and what the function gives becomes the current result
abbrev pub applied_lines : List Member → FlatUnit → List ℕ → List OperandText → ℕ → List Line
applied_lines members f call others left =
    function_inputs members f left (filter is_input f.members) others
    ++ (flat_map (first_value f left) f.members
    ++ (placed_body (function_placing f call left) f
    ++ mark (back call) left ∷ ld (shared_in f f.name left) left ∷ []))

-- the variables of a function, and of those that it uses, are declared for all its uses
abbrev pub function_entries : FlatUnit → List ℕ → ℕ → List Entry
function_entries f call left = map (moved_entry left) f.shared
    ++ map (placed_entry (function_placing f call left) false) f.declared

abbrev pub applied : List Member → FlatUnit → List ℕ → List OperandText → ℕ → Body
applied members f call others left = record {
  shared = function_entries f call left;
  lines = applied_lines members f call others left;
  depth = f.depth;
}
