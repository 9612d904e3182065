-- What a text of units means: the extended text of its program, in which each call of an own block or function is
-- replaced by the body of what is called. A unit uses the units above it alone, so each is flattened beside those.
use Rattle.std.specs.Prelude.{ℕ, suc, ◌-◌, List, [], ◌∷◌, ◌++◌, map, length, Option, Some, None, Bool, true, false}
use Rattle.std.specs.Prelude.{not, is_none}
use Rattle.std.specs.Prelude.{codes, drop, if◌then◌else◌, nat_lt, slice_get}
use Rattle.std.specs.List.{flat_map}
use Rattle.std.specs.Fmt.{decimal}
use Rattle.il_model.specs.declared.dialect.Dialect.TheVariants as dialects
use Rattle.il_values.specs.declared.op.Op.{Op}
use Rattle.il_values.specs.declared.op.Op.TheVariants as ops
use Rattle.il_model.specs.declared.words.Mnemonic.{Mnemonic}
use Rattle.il_model.specs.declared.program.Side.{Side}
use Rattle.il_model.specs.declared.program.Side.TheVariants as sides
use Rattle.il_reader.specs.Tokens.{Token, tokens_of}
use Rattle.il_reader.specs.Front.{first}
use Rattle.il_reader.specs.Grammar.{OperandText, ArgumentText, CallText, arguments_of, BehindText, Nothing, Given}
use Rattle.il_reader.specs.Grammar.{Target}
use Rattle.il_reader.specs.Grammar.{Opened, Called, OperationText}
use Rattle.il_units.specs.declared.word.Sort.TheVariants as sorts
use Rattle.il_units.specs.declared.word.Word.{Word}
use Rattle.il_units.specs.declared.word.Line.{Line}
use Rattle.il_units.specs.declared.word.Entry.{Entry}
use Rattle.il_units.specs.declared.members.Member.{Member}
use Rattle.il_units.specs.declared.scope.Scope.{Scope}
use Rattle.il_units.specs.declared.expansion.Origin.{Origin}
use Rattle.il_units.specs.Units.{UnitText, LineText, StepText, Operation, Function}
use Rattle.il_units.specs.Words.{capitals, said, own, label, line_of}
use Rattle.il_units.specs.Members.{members_of, operand_word}
use Rattle.il_units.specs.Flats.{FlatUnit, unit_named, block_of, declared_in, bound_in, Body, no_lines, only_lines}
use Rattle.il_units.specs.Flats.{joined}
use Rattle.il_units.specs.Flats.{begun_from, one_deeper}
use Rattle.il_units.specs.Calls.{called, applied}
use Rattle.il_units.specs.Choices.{choice_named, made}
use Rattle.il_units.specs.declared.choices.Choice.{Choice}

-- what a line is read beside: the text of units, the units above, and the members of the unit
pub record ScopeText : Type 0 where
  pub text : List ℕ
  pub above : List FlatUnit
  pub members : List Member

abbrev pub scope_text : Scope → ScopeText
scope_text s = record { text = s.text.now; above = s.above.now; members = s.members.now }

-- ---- lines that are no call

-- an operator as it is written: the token that begins there
abbrev pub written_at : List ℕ → ℕ → List ℕ
written_at text left = (first (tokens_of dialects.Extended (drop (length text - left) text))).text

abbrev pub side_sign : Side → List ℕ
side_sign sides.Input = codes ":="
side_sign sides.Output = codes "=>"

abbrev pub argument_words : List Member → ArgumentText → List Word
argument_words members a = said (capitals a.field.text) a.field.left ∷ said (side_sign a.side) a.field.left
    ∷ operand_word members a.operand ∷ []

abbrev pub next_argument_words : List Member → ArgumentText → List Word
next_argument_words members a = said (codes ",") a.field.left ∷ argument_words members a

abbrev pub all_argument_words : List Member → List ArgumentText → List Word
all_argument_words members [] = []
all_argument_words members (a ∷ more) =
    argument_words members a ++ flat_map (next_argument_words members) more

-- a call of a standard block
abbrev pub call_words : List Member → List ℕ → CallText → ℕ → List Word
call_words members op c left = said op left ∷ own (capitals c.instance.text) c.instance.left ∷ said (codes "(") left
    ∷ (all_argument_words members (arguments_of c) ++ said (codes ")") left ∷ [])

abbrev pub optional_words : List Member → Option OperandText → List Word
optional_words members None = []
optional_words members (Some x) = operand_word members x ∷ []

abbrev pub is_return : Op → Bool
is_return ops.Ret = true
is_return op = false

-- RET has its letters beside it
abbrev pub lone_word : Mnemonic → List ℕ → ℕ → Word
lone_word m op left = if is_return m.op
    then record { sort = sorts.Return m.modifier; text = op; left = left } else said op left

abbrev pub operation_words : List Member → Mnemonic → List ℕ → BehindText → ℕ → List Word
operation_words members m op Nothing left = lone_word m op left ∷ []
operation_words members m op (Given x) left = said op left ∷ operand_word members x ∷ []
operation_words members m op (Target t) left = said op left ∷ label (capitals t.text) t.left ∷ []
operation_words members m op (Opened x) left = said op left ∷ said (codes "(") left ∷ optional_words members x
operation_words members m op (Called c) left = call_words members op c left

-- ---- lines

-- the front of the labels of the call in the k-th line of a unit, counted from 1
abbrev pub call_name : ℕ → List ℕ
call_name k = codes "C" ++ decimal k

abbrev pub plain_operation : ScopeText → OperationText → Body
plain_operation s o = only_lines (line_of o.operator.left
    (operation_words s.members o.operator.mnemonic (written_at s.text o.operator.left) o.behind o.operator.left) ∷ [])

abbrev pub called_or_plain : Option FlatUnit → ScopeText → List ℕ → CallText → OperationText → Body
called_or_plain (Some block) s call c o =
    called s.members block call o.operator.mnemonic.modifier c o.operator.left
called_or_plain None s call c o = plain_operation s o

-- a call of an own block, or of a standard one
abbrev pub called_by : ScopeText → List ℕ → CallText → OperationText → Body
called_by s call c o = called_or_plain (block_of s.above s.members (capitals c.instance.text)) s call c o

abbrev pub operated_as : BehindText → ScopeText → List ℕ → OperationText → Body
operated_as (Called c) s call o = called_by s call c o
operated_as behind s call o = plain_operation s o

-- a call, or an operation as it stands
abbrev pub operated : ScopeText → List ℕ → OperationText → Body
operated s call o = operated_as o.behind s call o

abbrev pub choice_by : Option Choice → ScopeText → List ℕ → List OperandText → ℕ → Body
choice_by None s call xs left = no_lines
choice_by (Some choice) s call xs left = made choice s.above s.members call xs left

abbrev pub function_by : Option FlatUnit → ScopeText → List ℕ → Token → List OperandText → Body
function_by (Some f) s call t xs = applied s.members f call xs t.left
function_by None s call t xs = choice_by (choice_named (capitals t.text)) s call xs t.left

abbrev pub stepped : ScopeText → List ℕ → StepText → Body
stepped s call (Operation o) = operated s call o
stepped s call (Function t xs) = function_by (unit_named s.above (capitals t.text)) s call t xs

abbrev pub optional_step : ScopeText → List ℕ → Option StepText → Body
optional_step s call None = no_lines
optional_step s call (Some step) = stepped s call step

abbrev pub lone_label : Word → Line
lone_label word = record { label = Some word; words = []; left = word.left }

abbrev pub is_unlabelled : List Line → Bool
is_unlabelled [] = false
is_unlabelled (line ∷ lines) = is_none line.label

-- a label stands before the first of the lines that has none, else by itself
abbrev pub labelled_lines : Word → List Line → List Line
labelled_lines word [] = lone_label word ∷ []
labelled_lines word (line ∷ lines) = if is_none line.label
    then record { label = Some word; words = line.words; left = line.left } ∷ lines
    else lone_label word ∷ line ∷ lines

abbrev pub with_label : Option Token → Body → Body
with_label None b = b
with_label (Some t) b = record {
  shared = b.shared;
  lines = labelled_lines (label (capitals t.text) t.left) b.lines;
  depth = b.depth;
}

-- what the k-th line comes to
abbrev pub line_body : ScopeText → ℕ → LineText → Body
line_body s k l = with_label l.label (optional_step s (call_name k) l.step)

-- what the lines come to from the k-th on, behind those before
unfoldable pub body_from : ScopeText → Body → ℕ → List LineText → Body
body_from s b k [] = b
body_from s b k (l ∷ ls) = body_from s (joined b (line_body s k l)) (suc k) ls

-- ---- units

abbrev pub body_of : ScopeText → List LineText → Body
body_of s ls = body_from s (begun_from s.above no_lines s.members) 1 ls

abbrev pub flat_with : UnitText → List FlatUnit → List Member → Body → FlatUnit
flat_with unit above members body = record {
  kind = unit.kind;
  name = capitals unit.name.text;
  members = members;
  shared = body.shared;
  bound = flat_map bound_in members;
  declared = flat_map (declared_in above) members;
  lines = body.lines;
  depth = one_deeper body.depth;
}

-- a unit beside those above it
abbrev pub flat_of : List ℕ → List FlatUnit → UnitText → FlatUnit
flat_of text above unit = let members = members_of unit in flat_with unit above members
    (body_of (record { text = text; above = above; members = members }) unit.lines)

-- all of them, each beside those above it
unfoldable pub flats_from : List ℕ → List FlatUnit → List UnitText → List FlatUnit
flats_from text above [] = above
flats_from text above (unit ∷ more) = flats_from text (above ++ flat_of text above unit ∷ []) more

-- ---- the extended text

-- a piece of it, and how many bytes the text of units has from the place on that it comes from
pub record Piece : Type 0 where
  pub text : List ℕ
  pub left : ℕ

abbrev pub piece_of : Word → Piece
piece_of word = record { text = word.text ++ codes " "; left = word.left }

abbrev pub line_end : ℕ → Piece
line_end left = record { text = 10 ∷ []; left = left }

abbrev pub said_piece : List ℕ → ℕ → Piece
said_piece text left = piece_of (said text left)

-- a declaration, its line end where its name is
abbrev pub entry_pieces : Entry → List Piece
entry_pieces e = piece_of e.name ∷ (map piece_of e.words ++ line_end e.name.left ∷ [])

abbrev pub label_pieces : Option Word → List Piece
label_pieces None = []
label_pieces (Some word) = piece_of word ∷ said_piece (codes ":") word.left ∷ []

abbrev pub line_pieces : Line → List Piece
line_pieces line = label_pieces line.label ++ (map piece_of line.words ++ line_end line.left ∷ [])

-- one that is retained, or one that isn't
abbrev pub kept_as : Bool → Entry → Bool
kept_as true e = e.retained
kept_as false e = not e.retained

abbrev pub qualifier_pieces : Bool → ℕ → List Piece
qualifier_pieces true left = said_piece (codes "RETAIN") left ∷ []
qualifier_pieces false left = []

-- a declaration that is retained, or one that isn't; of any other nothing
abbrev pub kept_pieces : Bool → Entry → List Piece
kept_pieces retained e = if kept_as retained e then entry_pieces e else []

abbrev pub head_pieces : Bool → ℕ → List Piece
head_pieces retained left =
    said_piece (codes "VAR_GLOBAL") left ∷ (qualifier_pieces retained left ++ line_end left ∷ [])

abbrev pub end_pieces : ℕ → List Piece
end_pieces left = said_piece (codes "END_VAR") left ∷ line_end left ∷ []

-- a block of the declarations that are retained, or that aren't
abbrev pub block_pieces : Bool → ℕ → List Entry → List Piece
block_pieces retained left es =
    head_pieces retained left ++ (flat_map (kept_pieces retained) es ++ end_pieces left)

abbrev pub first_left : List Member → ℕ
first_left [] = 0
first_left (m ∷ ms) = m.name.left

-- what the unit declares where it stands alone: its inputs, outputs and VAR_IN_OUT are variables
abbrev pub entries_of : FlatUnit → List Entry
entries_of u = u.shared ++ (u.bound ++ u.declared)

-- The unit as it stands alone: what isn't retained, what is, and the lines.
abbrev pub pieces_of : FlatUnit → List Piece
pieces_of u = let left = first_left u.members in
    block_pieces false left (entries_of u) ++ (block_pieces true left (entries_of u) ++ flat_map line_pieces u.lines)

abbrev pub piece_text : Piece → List ℕ
piece_text p = p.text

abbrev pub text_of_pieces : List Piece → List ℕ
text_of_pieces ps = flat_map piece_text ps

abbrev pub text_of : FlatUnit → List ℕ
text_of u = text_of_pieces (pieces_of u)

-- how many bytes each piece has, and where it comes from
abbrev pub origin_of : Piece → Origin
origin_of p = record { len = length p.text; left = p.left }

abbrev pub origins_of : FlatUnit → List Origin
origins_of u = map origin_of (pieces_of u)

-- where the n-th byte comes from
unfoldable pub origin_in : List Origin → ℕ → ℕ
origin_in [] n = 0
origin_in (o ∷ os) n = if nat_lt n o.len then o.left else origin_in os (n - o.len)

-- an extended text, and where its bytes come from
pub record Pieces : Type 0 where
  pub text : List ℕ
  pub origins : List Origin

abbrev pub expansion_of : FlatUnit → Pieces
expansion_of u = record { text = text_of u; origins = origins_of u }

-- pieces behind those before
abbrev pub with_pieces : Pieces → List Piece → Pieces
with_pieces before ps = record {
  text = before.text ++ text_of_pieces ps;
  origins = before.origins ++ map origin_of ps;
}

-- where an instruction comes from, by its number
abbrev pub left_of : Option Line → ℕ
left_of None = 0
left_of (Some line) = line.left

abbrev pub instruction_origin : FlatUnit → ℕ → ℕ
instruction_origin u n = left_of (slice_get u.lines n)

-- the flat unit of the program, the last
unfoldable pub last_text : List FlatUnit → List ℕ
last_text [] = []
last_text (u ∷ []) = text_of u
last_text (u ∷ v ∷ us) = last_text (v ∷ us)

-- the extended text that a text of units means, where it says these
abbrev pub expanded : List ℕ → List UnitText → List ℕ
expanded text us = last_text (flats_from text [] us)
