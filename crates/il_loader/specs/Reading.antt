-- Reading an image from left to right, with the first fault that is met.
use Rattle.std.specs.Prelude.{ℕ, ◌-◌, zero, suc, Bool, ◌&&◌, List, [], ◌∷◌, ◌++◌, length}
use Rattle.std.specs.Prelude.{Option, Some, None, Result, Ok, nat_eq}
use Rattle.std.specs.Int.{w8, w16}
use Rattle.il_model.specs.declared.program.Variable.{Variable}
use Rattle.il_model.specs.declared.program.Instance.{Instance}
use Rattle.il_model.specs.declared.program.Side.{Side}
use Rattle.il_model.specs.Program.{Declarations}
use Rattle.il_model.specs.Image.{may_call}
use Rattle.il_model.specs.declared.codes.Version.{Version}
use Rattle.il_model.specs.Kinds.{kind_of_code}
use Rattle.il_loader.specs.declared.word.Content.TheVariants as contents
use Rattle.il_values.specs.declared.value.Value.{Value}
use Rattle.il_model.specs.Marks.{Mark}
use Rattle.il_model.specs.Codes.{is_new_name, is_new_instance, is_new_label, type_in, coded_location_in, op_in}
use Rattle.il_model.specs.Codes.{letters_of, label_there, word_operand_in, side_of, argument_number}
use Rattle.il_model.specs.Codes.{argument_operand_in}
use Rattle.il_records.specs.declared.counts.Counts.{Counts}
use Rattle.il_loader.specs.declared.word.Word.{Word}
use Rattle.il_loader.specs.Tables.{Tables}
use Rattle.il_records.specs.declared.fault.LoadFault.{LoadFault}
use Rattle.il_records.specs.declared.fault.LoadFault.TheVariants.{BadWord, Trailing}
use Rattle.il_records.specs.Fields.{◌>>=◌, number_at, lawful, agrees, header_at, spelled_name_at, first_value_at}
use Rattle.il_records.specs.Fields.{declared_at, constant_at}

-- as many items as a number says, each read with those before it at hand
unfoldable pub items_from : {X : Type 0} → (List X → List ℕ → Result (X × List ℕ) LoadFault) → ℕ → List X → List ℕ
    → Result (List X × List ℕ) LoadFault
items_from item zero seen bytes = Ok (seen, bytes)
items_from item (suc n) seen bytes = item seen bytes >>= λ x. items_from item n (seen ++ x.0 ∷ []) x.1

-- ---- names

-- a name that an image of this version may have, and that passes a test
unfoldable pub name_at : Version → ℕ → (List ℕ → Bool) → List ℕ → Result (List ℕ × List ℕ) LoadFault
name_at version pos is_new bytes = do
  name ← spelled_name_at version pos bytes
  new ← agrees (BadWord pos) (may_call version name.0 && is_new name.0)
  Ok name

-- ---- records; a fault in one stands where it begins

unfoldable pub variable_at : Version → ℕ → List Variable → List ℕ → Result (Variable × List ℕ) LoadFault
variable_at version total seen bytes = do
  name ← name_at version (total - length bytes) (is_new_name seen) bytes
  code ← declared_at version (total - length bytes) name.1
  type ← lawful (total - length bytes) (type_in version code.0.1)
  place ← number_at w16 code.1
  loc ← lawful (total - length bytes) (coded_location_in version seen type place.0)
  first ← first_value_at version (total - length bytes) type loc place.1
  Ok (record { name = name.0; ty = type; location = loc; initial = first.0; retained = code.0.0 }, first.1)

unfoldable pub instance_at : Version → ℕ → List Variable → List Instance → List ℕ
    → Result (Instance × List ℕ) LoadFault
instance_at version total vs seen bytes = do
  name ← name_at version (total - length bytes) (is_new_instance vs seen) bytes
  code ← declared_at version (total - length bytes) name.1
  kind ← lawful (total - length bytes) (kind_of_code code.0.1)
  Ok (record { name = name.0; kind = kind; retained = code.0.0 }, code.1)

-- a label; whether an instruction begins at its address is judged later
unfoldable pub mark_at : Version → ℕ → List Mark → List ℕ → Result (Mark × List ℕ) LoadFault
mark_at version total seen bytes = do
  name ← name_at version (total - length bytes) (is_new_label seen) bytes
  address ← number_at w16 name.1
  Ok (record { name = name.0; at = address.0 }, address.1)

-- behind its code, the n-th word where it is an instruction
unfoldable pub instruction_at : Version → ℕ → Declarations → List Mark → List Value → ℕ → ℕ → List ℕ
    → Result (Word × List ℕ) LoadFault
instruction_at version pos ds marks constants n code bytes = do
  op ← lawful pos (op_in version code)
  letters ← number_at w8 bytes
  m ← lawful pos (letters_of op letters.0)
  slot ← number_at w16 letters.1
  operand ← lawful pos (word_operand_in version ds marks constants op m slot.0)
  Ok (
    record {
      content = contents.Instruction
          (record { label = label_there marks n; op = op; modifier = m; operand = operand; arguments = [] });
      code =
          slot.0;
    },
    slot.1,
  )

-- that where it is an argument; whether it follows a call, and whether the call's kind has the field, is judged later
unfoldable pub argument_at : Version → ℕ → Declarations → List Value → Side → List ℕ → Result (Word × List ℕ) LoadFault
argument_at version pos ds constants side bytes = do
  number ← number_at w8 bytes
  field ← lawful pos (argument_number number.0)
  slot ← number_at w16 number.1
  operand ← lawful pos (argument_operand_in version ds constants slot.0)
  Ok (record { content = contents.Argument side field operand; code = slot.0 }, slot.1)

abbrev pub word_by : Version → ℕ → Declarations → List Mark → List Value → ℕ → ℕ → Option Side → List ℕ
    → Result (Word × List ℕ) LoadFault
word_by version pos ds marks constants n code None bytes = instruction_at version pos ds marks constants n code bytes
word_by version pos ds marks constants n code (Some side) bytes = argument_at version pos ds constants side bytes

-- the n-th word, behind the tables that its number may point to
unfoldable pub word_at : Version → ℕ → Declarations → List Mark → List Value → ℕ → List ℕ
    → Result (Word × List ℕ) LoadFault
word_at version pos ds marks constants n bytes = do
  code ← number_at w8 bytes
  word_by version pos ds marks constants n code.0 (side_of code.0) code.1

abbrev pub next_word : Version → ℕ → Declarations → List Mark → List Value → List Word → List ℕ
    → Result (Word × List ℕ) LoadFault
next_word version total ds marks constants seen bytes =
    word_at version (total - length bytes) ds marks constants (length seen) bytes

-- ---- the whole

abbrev pub ended : Tables × List ℕ → Result Tables LoadFault
ended x = agrees Trailing (nat_eq (length x.1) 0) >>= λ _. Ok x.0

-- the tables behind the header
unfoldable pub bodies_at : Version → ℕ → Counts → List ℕ → Result Tables LoadFault
bodies_at version total counts bytes = do
  variables ← items_from (variable_at version total) counts.variables [] bytes
  instances ← items_from (instance_at version total variables.0) counts.instances [] variables.1
  labels ← items_from (mark_at version total) counts.labels [] instances.1
  constants ← items_from (constant_at version total) counts.constants [] labels.1
  words ← items_from (next_word version total
      (record { variables = variables.0; instances = instances.0 }) labels.0 constants.0) counts.words [] constants.1
  ended (
    record {
      version = version;
      variables = variables.0;
      instances = instances.0;
      labels = labels.0;
      constants = constants.0;
      words = words.0;
    },
    words.1,
  )

unfoldable pub tables_at : List ℕ → Result Tables LoadFault
tables_at bytes = do
  head ← header_at bytes
  bodies_at head.0 (length bytes) head.1 head.2
