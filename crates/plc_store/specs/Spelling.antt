-- The one spelling of a store, and where its fields stand.
use Rattle.std.specs.Prelude.{◌≡◌, ◌<◌, ◌^◌, ◌+◌, ◌==◌, ℕ, Bool, List, [], ◌∷◌, ◌++◌, length, replicate, codes, ◌≤◌}
use Rattle.std.specs.Prelude.{◌&&◌, not, take, drop, slice_index, bytes_eq, nat_le, nat_lt, Option, Some, None}
use Rattle.std.specs.Prelude.{if◌then◌else◌, IsTrue, Result, Ok, Err, All, zero, suc}
use Rattle.std.specs.List.{flat_map}
use Rattle.std.specs.Int.{w32, w64, to_be_bytes, from_be_bytes}
use Rattle.sha2.specs.Sha256.{sha256}
use Rattle.vr_model.specs.Groups.{most_replicas}
use Rattle.net_hello.specs.declared.hello.Epoch.{Epoch}
use Rattle.plc_epochs.specs.declared.kept.Kept.{Kept}
use Rattle.plc_epochs.specs.declared.kept.Kept.TheVariants as keeps
use Rattle.plc_store.specs.declared.header.Header.{Header}
use Rattle.plc_store.specs.declared.header.Store.{Store}
use Rattle.plc_store.specs.declared.reading.StoreFault.{StoreFault}
use Rattle.plc_store.specs.declared.reading.StoreFault.TheVariants.{OtherFormat, Torn, Memory}

-- a store without where its image lies in memory
pub record Saying : Type 0 where
  pub header : Header
  pub image : List ℕ

abbrev pub saying : Store → Saying
saying store = record { header = store.header; image = store.image.items }

-- PLCSTORE, and the number of the format in two bytes
abbrev pub magic : List ℕ
magic = codes "PLCSTORE" ++ 0 ∷ 3 ∷ []

-- what a store has of epochs: nothing, or what about one
abbrev pub kind_of : Kept → ℕ
kind_of keeps.Nothing = 0
kind_of (keeps.Above epoch) = 1
kind_of (keeps.Entered epoch) = 2
kind_of (keeps.Begun epoch) = 3

-- where there's none, all of it is 0
abbrev pub no_epoch : Epoch
no_epoch = record { number = 0; image = replicate 32 0 }

abbrev pub epoch_of : Kept → Epoch
epoch_of keeps.Nothing = no_epoch
epoch_of (keeps.Above epoch) = epoch
epoch_of (keeps.Entered epoch) = epoch
epoch_of (keeps.Begun epoch) = epoch

-- its number, and the sum of the image with which it begins
abbrev pub epoch_bytes : Epoch → List ℕ
epoch_bytes epoch = to_be_bytes w64 epoch.number ++ epoch.image

-- numbers of 64 bits, one behind the other
abbrev pub numbers_bytes : List ℕ → List ℕ
numbers_bytes numbers = flat_map (to_be_bytes w64) numbers

-- what the store is known by, and which stores of other machines were seen
abbrev pub stores_bytes : Header → List ℕ
stores_bytes header = to_be_bytes w64 header.store ++ numbers_bytes header.seen

-- the sum of its image, the machine, and the stores
abbrev pub machine_bytes : Header → List ℕ
machine_bytes header = header.program ++ (header.machine ∷ stores_bytes header)

-- the identity, what it has of epochs, and these
abbrev pub header_bytes : Header → List ℕ
header_bytes header = magic ++ (header.identity ++ (kind_of header.kept ∷ (epoch_bytes (epoch_of header.kept)
    ++ machine_bytes header)))

-- and the image behind its length
abbrev pub body : Saying → List ℕ
body said = header_bytes said.header ++ (to_be_bytes w32 (length said.image) ++ said.image)

-- the sum of all that stands before it is the last
abbrev pub spelling : Saying → List ℕ
spelling said = body said ++ sha256 (body said)

-- what has a spelling: what the fields of a store hold
pub record Fits (said : Saying) : Type 0 where
  pub identity : length said.header.identity ≡ 32
  pub number : (epoch_of said.header.kept).number < 2 ^ 64
  pub begins : length (epoch_of said.header.kept).image ≡ 32
  pub program : length said.header.program ≡ 32
  pub store : said.header.store < 2 ^ 64
  pub machines : length said.header.seen ≡ most_replicas
  pub seen : All (λ n. n < 2 ^ 64) said.header.seen
  pub image : length said.image < 2 ^ 32

-- ---- reading a store: where its fields stand

-- it begins as a store does, but for the number of the format
abbrev pub is_other_format : List ℕ → Bool
is_other_format bytes = (nat_le 10 (length bytes) && bytes_eq (take 8 bytes) (codes "PLCSTORE"))
    && not (bytes_eq (take 2 (drop 8 bytes)) (0 ∷ 3 ∷ []))

abbrev pub IsOtherFormat : List ℕ → Type 0
IsOtherFormat bytes = IsTrue (is_other_format bytes)

abbrev pub kept_by : ℕ → Epoch → Kept
kept_by kind epoch = if kind == 0 then keeps.Nothing else (if kind == 1 then keeps.Above epoch
    else (if kind == 2 then keeps.Entered epoch else keeps.Begun epoch))

-- a number of 8 bytes, and a sum of 32
abbrev pub epoch_by : List ℕ → List ℕ → Epoch
epoch_by number image = record { number = from_be_bytes w64 number; image = image }

-- so many numbers of 8 bytes, one behind the other
abbrev pub numbers_by : ℕ → List ℕ → List ℕ
numbers_by zero bytes = []
numbers_by (suc n) bytes = from_be_bytes w64 (take 8 bytes) ∷ numbers_by n (drop 8 bytes)

abbrev pub fields_after : List ℕ → Kept → List ℕ → List ℕ → Header
fields_after identity kept program rest = let stores = drop 1 rest in record {
  identity = identity;
  kept = kept;
  program = program;
  machine = slice_index rest 0;
  store = from_be_bytes w64 (take 8 stores);
  seen = numbers_by 7 (drop 8 stores);
}

-- the identity of 32 bytes behind the first ten, what it has of epochs in 41, the sum of its image in 32, the machine,
-- and eight numbers
unfoldable pub header_of : List ℕ → Header
header_of bytes =
    let identity = drop 10 bytes in let kind = drop 32 identity in let number = drop 1 kind in
    let image = drop 8 number in let program = drop 32 image in
    fields_after (take 32 identity) (kept_by (slice_index kind 0) (epoch_by (take 8 number) (take 32 image)))
    (take 32 program) (drop 32 program)

abbrev pub length_of : List ℕ → ℕ
length_of front = from_be_bytes w32 (drop 180 front)

abbrev pub fields_in : List ℕ → List ℕ → Option Saying
fields_in front rest = if nat_lt (length rest) (length_of front) then None
    else Some (record { header = header_of (take 180 front); image = take (length_of front) rest })

-- what stands where the fields do, whatever stands behind
abbrev pub fields_of : List ℕ → Option Saying
fields_of bytes = if nat_lt (length bytes) 184 then None else fields_in (take 184 bytes) (drop 184 bytes)

abbrev pub spelled_so : List ℕ → Option Saying → Result Saying StoreFault
spelled_so bytes None = Err Torn
spelled_so bytes (Some said) = if bytes_eq (spelling said) bytes then Ok said else Err Torn

-- the store that the bytes spell
abbrev pub read_of : List ℕ → Result Saying StoreFault
read_of bytes = if is_other_format bytes then Err OtherFormat else spelled_so bytes (fields_of bytes)

-- this is what is read, unless memory ran out
abbrev pub Gives : Result Saying StoreFault → Result Store StoreFault → Type 0
Gives read (Ok store) = read ≡ Ok (saying store)
Gives read (Err Memory) = Unit {0}
Gives read (Err fault) = read ≡ Err fault
