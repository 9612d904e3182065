-- The first fault of tables that were read.
use Rattle.std.specs.Prelude.{ℕ, ◌+◌, ◌-◌, ◌*◌, suc, Bool, true, false, not, ◌&&◌, slice_get, List, [], ◌∷◌, length}
use Rattle.std.specs.Prelude.{Option, Some, None, Result, Ok, Err, nat_lt, nat_le, nat_eq, if◌then◌else◌}
use Rattle.std.specs.List.{position}
use Rattle.std.specs.Int.{byte_len}
use Rattle.std.specs.Option.{option_map}
use Rattle.il_model.specs.declared.program.Operand.{Operand}
use Rattle.il_model.specs.declared.program.Operand.TheVariants as operands
use Rattle.il_model.specs.declared.coded_operand.CodedOperand.{CodedOperand}
use Rattle.il_model.specs.declared.coded_operand.CodedOperand.TheVariants as coded
use Rattle.il_model.specs.declared.typing.TypeFault.{TypeFault}
use Rattle.il_model.specs.declared.typing.TypeFault.TheVariants.{UnknownLabel}
use Rattle.il_values.specs.declared.value.Value.{Value}
use Rattle.il_model.specs.declared.codes.Version.{Version}
use Rattle.il_model.specs.Program.{Program, program_of}
use Rattle.il_model.specs.Image.{version_number, number_width, version_with}
use Rattle.il_model.specs.Checking.{judgement_of}
use Rattle.il_model.specs.Marks.{Mark, address_of}
use Rattle.il_model.specs.Faulty.{faulty_word}
use Rattle.il_model.specs.Constants.{step_used}
use Rattle.il_model.specs.CodedOperands.{with_code}
use Rattle.il_model.specs.Codes.{is_pointless, is_call}
use Rattle.il_loader.specs.declared.word.Word.{Word}
use Rattle.il_loader.specs.declared.word.Content.{Content}
use Rattle.il_loader.specs.declared.word.Content.TheVariants as contents
use Rattle.il_records.specs.declared.fault.LoadFault.{LoadFault}
use Rattle.il_records.specs.declared.fault.LoadFault.TheVariants.{BadVersion, BadCount, BadWord, BadType, BadTarget}
use Rattle.il_loader.specs.Tables.{Tables, operand_in, is_argument, lines_of}
use Rattle.il_loader.specs.Reading.{tables_at}
use Rattle.il_records.specs.Fields.{◌>>=◌, agrees}

-- ---- places: records of one length are counted from the end

abbrev pub word_place : ℕ → ℕ → ℕ → ℕ
word_place total count n = total - 4 * (count - n)

-- a constant's type and number
abbrev pub constant_length : Version → ℕ
constant_length version = 1 + byte_len (number_width version)

abbrev pub constant_place : Version → ℕ → ℕ → ℕ → ℕ → ℕ
constant_place version total words count k = total - 4 * words - constant_length version * (count - k)

-- where the first of these labels begins, if the last ends there
abbrev pub label_place : ℕ → List Mark → ℕ
label_place end [] = end
label_place end (m ∷ ms) = label_place (end - length m.name - 3) ms

-- ---- labels

abbrev pub is_start : Option Word → Bool
is_start None = false
is_start (Some w) = not (is_argument w.content)

-- the addresses of labels rise from n on, and at each an instruction begins
abbrev pub risen : ℕ → ℕ → List Word → List Mark → Result (Unit {0}) LoadFault
risen end n words [] = Ok tt
risen end n words (m ∷ ms) = if nat_le n m.at && is_start (slice_get words m.at) then risen end (suc m.at) words ms
    else Err (BadTarget (label_place end (m ∷ ms)))

-- ---- words

abbrev pub constant_number : Option CodedOperand → Option ℕ
constant_number (Some (coded.Constant k)) = Some k
constant_number operand = None

-- the number of the constant that a literal was read from
abbrev pub constant_in : Operand → ℕ → Option ℕ
constant_in (operands.Literal v) code = constant_number (with_code code)
constant_in operand code = None

abbrev pub with_used : ℕ → Option ℕ → (ℕ → Result ℕ ℕ) → Result ℕ ℕ
with_used n None go = Err n
with_used n (Some used) go = go used

-- how many of the constants are used by the words from the n-th on and those before them, or the first word that uses
-- one before a lower one
abbrev pub used_from : ℕ → ℕ → List Word → Result ℕ ℕ
used_from n used [] = Ok used
used_from n used (w ∷ ws) =
    with_used n (step_used (constant_in (operand_in w.content) w.code) used) (λ u. used_from (suc n) u ws)

abbrev pub earlier : Option ℕ → Result ℕ ℕ → Option ℕ
earlier o (Ok used) = o
earlier None (Err n) = Some n
earlier (Some m) (Err n) = Some (if nat_lt m n then m else n)

abbrev pub sooner : Option ℕ → Option ℕ → Option ℕ
sooner None o = o
sooner (Some m) None = Some m
sooner (Some m) (Some n) = Some (if nat_lt n m then n else m)

-- an empty instruction without a label
abbrev pub says_nothing : Content → Bool
says_nothing (contents.Instruction line) = is_pointless line
says_nothing (contents.Argument side number operand) = false

-- a call or an argument: behind it an argument may stand
abbrev pub takes_argument : Content → Bool
takes_argument (contents.Instruction line) = is_call line.op
takes_argument (contents.Argument side number operand) = true

-- the first argument that stands behind something else; whether one may stand at the front says the first
abbrev pub stray_from : Bool → List Word → Option ℕ
stray_from may [] = None
stray_from may (w ∷ ws) = if is_argument w.content && not may then Some 0
    else option_map suc (stray_from (takes_argument w.content) ws)

-- the first word that no spelling has there
abbrev pub misspelled : List Word → Result ℕ ℕ → Option ℕ
misspelled words used = earlier
    (sooner (position (λ (w : Word). says_nothing w.content) words) (stray_from false words)) used

-- the first fault of typing, with the number of the word where it stands
abbrev pub at_word : Program → Result (Unit {0}) (TypeFault × ℕ) → Result (Unit {0}) (TypeFault × ℕ)
at_word Q (Ok x) = Ok x
at_word Q (Err f) = Err (f.0, address_of Q.code f.1 + faulty_word Q f.1)

abbrev pub type_fault : ℕ → TypeFault → LoadFault
type_fault pos UnknownLabel = BadTarget pos
type_fault pos fault = BadType pos

-- at one word a fault of spelling comes before one of typing
abbrev pub words_fine : ℕ → ℕ → Option ℕ → Result (Unit {0}) (TypeFault × ℕ) → Result (Unit {0}) LoadFault
words_fine total count None (Ok x) = Ok tt
words_fine total count None (Err f) = Err (type_fault (word_place total count f.1) f.0)
words_fine total count (Some n) (Ok x) = Err (BadWord (word_place total count n))
words_fine total count (Some n) (Err f) = if nat_le n f.1 then Err (BadWord (word_place total count n))
    else Err (type_fault (word_place total count f.1) f.0)

-- ---- the whole

-- all of the constants are used
abbrev pub all_used : Version → ℕ → ℕ → ℕ → Result ℕ ℕ → Result (Unit {0}) LoadFault
all_used version total words count (Ok used) =
    agrees (BadWord (constant_place version total words count used)) (nat_eq used count)
all_used version total words count (Err n) = Ok tt

-- the version that stands in the header, and the one that the program has
abbrev pub is_same : Version → Version → Bool
is_same version own = nat_eq (version_number version) (version_number own)

-- the version is that of the program, whose constants these are
unfoldable pub is_own_version : Version → List Value → Program → Bool
is_own_version version constants Q = is_same version (version_with Q.variables Q.instances constants Q.code)

abbrev pub small : Option Program → Result Program LoadFault
small None = Err BadCount
small (Some Q) = Ok Q

-- the program of the tables, where its version has room for it, its labels rise, its words are spelled and typed, its
-- constants are used, and the version is its own
unfoldable pub judged_tables : ℕ → Tables → Result Program LoadFault
judged_tables total t = do
  Q ← small (program_of t.version t.variables t.instances (lines_of t.instances t.words))
  rising ← risen (constant_place t.version total (length t.words) (length t.constants) 0) 0 t.words t.labels
  fine ← words_fine total (length t.words) (misspelled t.words (used_from 0 0 t.words)) (at_word Q (judgement_of Q))
  used ← all_used t.version total (length t.words) (length t.constants) (used_from 0 0 t.words)
  own ← agrees BadVersion (is_own_version t.version t.constants Q)
  Ok Q

unfoldable pub image_of : List ℕ → Result Program LoadFault
image_of bytes = do
  t ← tables_at bytes
  judged_tables (length bytes) t
