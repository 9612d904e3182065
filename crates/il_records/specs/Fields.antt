-- Reading a field from the bytes that begin with it, or the first fault that is met.
use Rattle.std.specs.Prelude.{◌≡◌, ℕ, ℤ, ◌-◌, Bool, true, false, List, length, take, drop}
use Rattle.std.specs.Prelude.{Option, Some, None, Result, Ok, Err, nat_lt, nat_le, nat_eq, if◌then◌else◌}
use Rattle.std.specs.Int.{Width, w8, w16, w32, byte_len, from_be_bytes, cast_signed}
use Rattle.il_values.specs.declared.value.Ty.{Ty}
use Rattle.il_values.specs.declared.value.Value.{Value}
use Rattle.il_model.specs.declared.limits.TheConstants.{MOST_IMAGE_WORDS}
use Rattle.il_model.specs.declared.program.Loc.{Loc}
use Rattle.il_model.specs.declared.codes.Version.{Version}
use Rattle.il_model.specs.Limits.{most_variables, most_instances, most_instructions, most_constants}
use Rattle.il_model.specs.Image.{magic, number_width}
use Rattle.il_model.specs.Codes.{length_in, type_in, version_numbered, initial_of, constant_of, retained_in, plain_code}
use Rattle.il_records.specs.declared.counts.Counts.{Counts}
use Rattle.il_records.specs.declared.fault.LoadFault.{LoadFault}
use Rattle.il_records.specs.declared.fault.LoadFault.TheVariants.{Truncated, BadMagic, BadVersion, BadCount, BadWord}
use Rattle.il_records.specs.declared.fault.LoadError.{LoadError}
use Rattle.il_records.specs.declared.fault.LoadError.TheVariants as errors

infixl 10 ◌>>=◌
abbrev pub ◌>>=◌ : {A B : Type 0} → Result A LoadFault → (A → Result B LoadFault) → Result B LoadFault
(Ok x) >>= f = f x
(Err e) >>= f = Err e

-- What a function returned, seen by view, is what reading gives, unless memory ran out.
abbrev pub Fails : {Y : Type 0} → LoadError → Result Y LoadFault → Type 0
Fails errors.Memory read = Unit {0}
Fails (errors.Fault f) read = read ≡ Err f

abbrev pub Gives : {X Y : Type 0} → (X → Y) → Result X LoadError → Result Y LoadFault → Type 0
Gives view (Ok x) read = read ≡ Ok (view x)
Gives view (Err e) read = Fails e read

abbrev pub number_at : Width → List ℕ → Result (ℕ × List ℕ) LoadFault
number_at w bytes = if nat_lt (length bytes) (byte_len w) then Err Truncated
    else Ok (from_be_bytes w (take (byte_len w) bytes), drop (byte_len w) bytes)

-- a number as an image of this version has it
abbrev pub signed_at : Version → List ℕ → Result (ℤ × List ℕ) LoadFault
signed_at version bytes =
    number_at (number_width version) bytes >>= λ n. Ok (cast_signed (number_width version) n.0, n.1)

-- what stands in a record that begins where pos says is lawful, or the fault is the record's
abbrev pub lawful : {A : Type 0} → ℕ → Option A → Result A LoadFault
lawful pos None = Err (BadWord pos)
lawful pos (Some x) = Ok x

-- a test, and the fault where it fails
abbrev pub agrees : LoadFault → Bool → Result (Unit {0}) LoadFault
agrees fault true = Ok tt
agrees fault false = Err fault

-- ---- the header

abbrev pub count_at : ℕ → List ℕ → Result (ℕ × List ℕ) LoadFault
count_at limit bytes = number_at w16 bytes >>= λ n. agrees BadCount (nat_le n.0 limit) >>= λ _. Ok n

-- no more of each than an image of this version has room for
unfoldable pub counts_at : Version → List ℕ → Result (Counts × List ℕ) LoadFault
counts_at version bytes = do
  variables ← count_at (most_variables version) bytes
  instances ← count_at (most_instances version) variables.1
  labels ← count_at (most_instructions version) instances.1
  constants ← count_at (most_constants version) labels.1
  words ← count_at MOST_IMAGE_WORDS constants.1
  Ok (
    record {
      variables = variables.0;
      instances = instances.0;
      labels = labels.0;
      constants = constants.0;
      words = words.0;
    },
    words.1,
  )

abbrev pub lawful_version : Option Version → Result Version LoadFault
lawful_version None = Err BadVersion
lawful_version (Some version) = Ok version

unfoldable pub header_at : List ℕ → Result (Version × Counts × List ℕ) LoadFault
header_at bytes = do
  word ← number_at w32 bytes
  is ← agrees BadMagic (nat_eq word.0 (from_be_bytes w32 magic))
  number ← number_at w16 word.1
  version ← lawful_version (version_numbered number.0)
  counts ← counts_at version number.1
  Ok (version, counts.0, counts.1)

-- ---- names

unfoldable pub spelled_name_at : Version → ℕ → List ℕ → Result (List ℕ × List ℕ) LoadFault
spelled_name_at version pos bytes = do
  first ← number_at w8 bytes
  n ← lawful pos (length_in version first.0)
  if nat_lt (length first.1) n then Err Truncated else Ok (take n first.1, drop n first.1)

-- ---- what records have; a fault stands where its record begins

-- the first value of a variable with this type and location
unfoldable pub first_value_at : Version → ℕ → Ty → Option Loc → List ℕ → Result (Value × List ℕ) LoadFault
first_value_at version pos type loc bytes = do
  number ← signed_at version bytes
  value ← lawful pos (initial_of type loc number.0)
  Ok (value, number.1)

-- the code of a declaration: whether what it declares is retained, and the code of its type or kind
unfoldable pub declared_at : Version → ℕ → List ℕ → Result ((Bool × ℕ) × List ℕ) LoadFault
declared_at version pos bytes = do
  code ← number_at w8 bytes
  retained ← lawful pos (retained_in version code.0)
  Ok ((retained, plain_code code.0), code.1)

unfoldable pub constant_at : Version → ℕ → List Value → List ℕ → Result (Value × List ℕ) LoadFault
constant_at version total seen bytes = do
  code ← number_at w8 bytes
  type ← lawful (total - length bytes) (type_in version code.0)
  number ← signed_at version code.1
  value ← lawful (total - length bytes) (constant_of seen type number.0)
  Ok (value, number.1)
