-- The reply to the bytes of a request is the one to its values.
use Rattle.std.proofs.Common.{◌≡◌, ℕ, ℤ, ◌+◌, Bool, true, false, List, [], ◌∷◌, length, drop, refl, sym, ap, ◌∙◌, Option, Some, Ok, Err}
use Rattle.std.specs.Prelude.{◌==◌, ◌&&◌, not, pos, nat_le, if◌then◌else◌, slice_index, slice_range, take}
use Rattle.std.specs.Int.{w16, cast_signed}
use Rattle.std.proofs.lemmas.List.FromFn.{length-map-range_with_len}
use Rattle.il_model.specs.declared.limits.TheConstants.{BITS, WORDS}
use Rattle.il_model.specs.declared.cells.Cells.{Cells}
use Rattle.io_image.specs.Book.{Change, bits_at, words_at, mask_at, after_change}
use Rattle.modbus_wire.specs.declared.exception.Exception.TheVariants.{IllegalDataAddress, IllegalDataValue}
use Rattle.modbus_wire.specs.declared.function.Table.TheVariants.{ReadWrite, ReadOnly}
use Rattle.modbus_wire.specs.declared.function.Function.{Function}
use Rattle.modbus_wire.specs.declared.function.Function.TheVariants as functions
use Rattle.modbus_wire.specs.declared.request.Request.{Request}
use Rattle.modbus_wire.specs.declared.request.Request.TheVariants.{ReadBits, ReadWords, WriteBit, WriteWord, WriteBits, WriteWords, MaskWord, WriteReadWords}
use Rattle.modbus_wire.specs.declared.reply.Reply.TheVariants.{Failed}
use Rattle.modbus_wire.specs.Frames.{number_at}
use Rattle.modbus_wire.specs.Functions.{function_of, is_lawful, quantity_of}
use Rattle.modbus_wire.specs.Packing.{bits_of_bytes, bytes_of_words, words_of_bytes}
use Rattle.modbus_wire.specs.Requests.{function_by, is_request, request_bytes, value_of, shaped, HasRanges, AreReadBack}
use Rattle.modbus_wire.specs.Replies.{data_reply, reply_bytes}
use Rattle.modbus_replies.specs.Requests.{area_length, writes_within, judged, request_of}
use Rattle.modbus_replies.specs.Replies.{Outcome, read_outcome, outcome_by, outcome_of, write_outcome, modbus_reply}
use Rattle.modbus_server.specs.Values.{are_there, change_by, shown_by, settled, served, AreServed}

-- what was read as a request passed its test
passed : (b : Bool) (v r : Request) → (if b then Ok v else Err IllegalDataValue) ≡ Ok r → (b ≡ true) × (v ≡ r)
passed true v r e = (refl, cc)
passed false v r e = absurd cc

-- each request begins with the code of its function
known : (r : Request) → function_of (slice_index (request_bytes r) 0) ≡ Some (function_by r)
known (ReadBits ReadWrite at count) = refl
known (ReadBits ReadOnly at count) = refl
known (ReadWords ReadWrite at count) = refl
known (ReadWords ReadOnly at count) = refl
known (WriteBit at value) = refl
known (WriteWord at value) = refl
known (WriteBits at values) = refl
known (WriteWords at values) = refl
known (MaskWord at and_mask or_mask) = refl
known (WriteReadWords at count into values) = refl

-- the bytes of a request are lawful, and say what it says
says : AreReadBack → (r : Request) → HasRanges r → is_request r ≡ true → (is_lawful (function_by r) (request_bytes r) ≡ true) × (value_of (function_by r) (request_bytes r) ≡ r)
says back r h l = passed (is_lawful (function_by r) (request_bytes r)) (value_of (function_by r) (request_bytes r)) r (ap (λ (o : Option Function). shaped o (request_bytes r)) (sym (known r)) ∙ back r h l)

-- a lawful request, by the numbers in it
judged_is : (f : Function) (pdu : List ℕ) (at count : ℕ) (w : Bool) → is_lawful f pdu ≡ true → number_at pdu 1 ≡ at → quantity_of f pdu ≡ count → writes_within f pdu ≡ w
    → judged (Some f) pdu ≡ (if not (nat_le (at + count) (area_length f) && w) then Err IllegalDataAddress else Ok (record { function = f; address = at; quantity = count }))
judged_is f pdu at count w l a q e = rw (l, a, q, e) refl

-- both ways of a judgement
either : {A : Type 0} (outcome : A → Outcome) (b : Bool) (fault sound : A) (x y : Outcome) → outcome fault ≡ x → outcome sound ≡ y → outcome (if not b then fault else sound) ≡ (if not b then x else y)
either outcome true fault sound x y e f = f
either outcome false fault sound x y e f = e

-- a request whose numbers are these
record IsAsked (r : Request) (at count : ℕ) (w : Bool) : Type 0 where
  address : number_at (request_bytes r) 1 ≡ at
  quantity : quantity_of (function_by r) (request_bytes r) ≡ count
  writes : writes_within (function_by r) (request_bytes r) ≡ w
  there : (nat_le (at + count) (area_length (function_by r)) && w) ≡ are_there r

served_by : (r : Request) (staged released : Cells) (refused : Bool) (at count : ℕ) (w : Bool) → is_lawful (function_by r) (request_bytes r) ≡ true → IsAsked r at count w
    → outcome_of (request_bytes r) staged released refused (Err IllegalDataAddress) ≡ read_outcome (reply_bytes r (Failed 2))
    → outcome_by (request_bytes r) staged released refused (function_by r) at count ≡ settled r (change_by r) refused (shown_by r staged released)
    → modbus_reply (request_bytes r) staged released refused ≡ served r staged released refused
served_by r staged released refused at count w l n e f =
    let pdu : List ℕ = request_bytes r in
    let is : request_of pdu ≡ (if not (nat_le (at + count) (area_length (function_by r)) && w) then Err IllegalDataAddress else Ok (record { function = function_by r; address = at; quantity = count })) =
    ap (λ (o : Option Function). judged o pdu) (known r) ∙ judged_is (function_by r) pdu at count w l n.address n.quantity n.writes in
    let y : Outcome = settled r (change_by r) refused (shown_by r staged released) in
    ap (outcome_of pdu staged released refused) is
    ∙ (either (outcome_of pdu staged released refused) (nat_le (at + count) (area_length (function_by r)) && w) (Err IllegalDataAddress) (Ok (record { function = function_by r; address = at; quantity = count })) (read_outcome (reply_bytes r (Failed 2))) y e f
    ∙ ap (λ (b : Bool). if not b then read_outcome (reply_bytes r (Failed 2)) else y) n.there)

and_true : (b : Bool) → (b && true) ≡ b
and_true true = refl
and_true false = refl

-- ---- the parts of a request

abbrev address_of : Request → ℕ
address_of (ReadBits table at count) = at
address_of (ReadWords table at count) = at
address_of (WriteBit at value) = at
address_of (WriteWord at value) = at
address_of (WriteBits at values) = at
address_of (WriteWords at values) = at
address_of (MaskWord at and_mask or_mask) = at
address_of (WriteReadWords at count into values) = at

-- how many it reads, or its first mask
abbrev count_of : Request → ℕ
count_of (ReadBits table at count) = count
count_of (ReadWords table at count) = count
count_of (MaskWord at and_mask or_mask) = and_mask
count_of (WriteReadWords at count into values) = count
count_of _ = 0

-- where it writes, or its second mask
abbrev into_of : Request → ℕ
into_of (MaskWord at and_mask or_mask) = or_mask
into_of (WriteReadWords at count into values) = into
into_of _ = 0

abbrev bit_by : Request → Bool
bit_by (WriteBit at value) = value
bit_by _ = false

abbrev word_by : Request → ℤ
word_by (WriteWord at value) = value
word_by _ = pos 0

abbrev bits_by : Request → List Bool
bits_by (WriteBits at values) = values
bits_by _ = []

abbrev words_by : Request → List ℤ
words_by (WriteWords at values) = values.items
words_by (WriteReadWords at count into values) = values.items
words_by _ = []

pub all_served : AreReadBack → AreServed
all_served back (ReadBits table at count) staged released refused h l =
    let r : Request = ReadBits table at count in
    let s = says back r h l in
    served_by r staged released refused at count true s.0 (record { address = ap address_of s.1; quantity = ap count_of s.1; writes = refl; there = and_true (nat_le (at + count) BITS) }) refl refl
all_served back (ReadWords table at count) staged released refused h l =
    let r : Request = ReadWords table at count in
    let s = says back r h l in
    served_by r staged released refused at count true s.0 (record { address = ap address_of s.1; quantity = ap count_of s.1; writes = refl; there = and_true (nat_le (at + count) WORDS) }) refl refl
all_served back (WriteBit at value) staged released refused h l =
    let r : Request = WriteBit at value in
    let pdu : List ℕ = request_bytes r in
    let s = says back r h l in
    let v : (number_at pdu 3 == 65280) ≡ value = ap bit_by s.1 in
    served_by r staged released refused at 1 true s.0 (record { address = ap address_of s.1; quantity = refl; writes = refl; there = and_true (nat_le (at + 1) BITS) }) refl
    (ap (λ (b : Bool). write_outcome refused pdu (bits_at at (b ∷ [])) pdu) v)
all_served back (WriteWord at value) staged released refused h l =
    let r : Request = WriteWord at value in
    let pdu : List ℕ = request_bytes r in
    let s = says back r h l in
    let v : cast_signed w16 (number_at pdu 3) ≡ value = ap word_by s.1 in
    served_by r staged released refused at 1 true s.0 (record { address = ap address_of s.1; quantity = refl; writes = refl; there = and_true (nat_le (at + 1) WORDS) }) refl
    (ap (λ (z : ℤ). write_outcome refused pdu (words_at at (z ∷ [])) pdu) v)
all_served back (WriteBits at values) staged released refused h l =
    let r : Request = WriteBits at values in
    let pdu : List ℕ = request_bytes r in
    let s = says back r h l in
    let v : bits_of_bytes (drop 6 pdu) (number_at pdu 3) ≡ values = ap bits_by s.1 in
    let q : number_at pdu 3 ≡ length values = sym (length-map-range_with_len _ 0 (number_at pdu 3)) ∙ ap (λ (z : List Bool). length z) v in
    let w : bits_of_bytes (drop 6 pdu) (length values) ≡ values = ap (bits_of_bytes (drop 6 pdu)) (sym q) ∙ v in
    served_by r staged released refused at (length values) true s.0 (record { address = ap address_of s.1; quantity = q; writes = refl; there = and_true (nat_le (at + length values) BITS) }) refl
    (ap (λ (z : List Bool). write_outcome refused pdu (bits_at at z) (take 5 pdu)) w)
all_served back (WriteWords at values) staged released refused h l =
    let r : Request = WriteWords at values in
    let pdu : List ℕ = request_bytes r in
    let s = says back r h l in
    let v : words_of_bytes (drop 6 pdu) (number_at pdu 3) ≡ values.items = ap words_by s.1 in
    let q : number_at pdu 3 ≡ length values.items = sym (length-map-range_with_len _ 0 (number_at pdu 3)) ∙ ap (λ (z : List ℤ). length z) v in
    let w : words_of_bytes (drop 6 pdu) (length values.items) ≡ values.items = ap (words_of_bytes (drop 6 pdu)) (sym q) ∙ v in
    served_by r staged released refused at (length values.items) true s.0 (record { address = ap address_of s.1; quantity = q; writes = refl; there = and_true (nat_le (at + length values.items) WORDS) }) refl
    (ap (λ (z : List ℤ). write_outcome refused pdu (words_at at z) (take 5 pdu)) w)
all_served back (MaskWord at and_mask or_mask) staged released refused h l =
    let r : Request = MaskWord at and_mask or_mask in
    let pdu : List ℕ = request_bytes r in
    let s = says back r h l in
    let m : number_at pdu 3 ≡ and_mask = ap count_of s.1 in
    let o : number_at pdu 5 ≡ or_mask = ap into_of s.1 in
    served_by r staged released refused at 1 true s.0 (record { address = ap address_of s.1; quantity = refl; writes = refl; there = and_true (nat_le (at + 1) WORDS) }) refl
    (λ i. write_outcome refused pdu (mask_at at (m i) (o i)) pdu)
all_served back (WriteReadWords at count into values) staged released refused h l =
    let r : Request = WriteReadWords at count into values in
    let pdu : List ℕ = request_bytes r in
    let s = says back r h l in
    let v : words_of_bytes (drop 10 pdu) (number_at pdu 7) ≡ values.items = ap words_by s.1 in
    let p : number_at pdu 7 ≡ length values.items = sym (length-map-range_with_len _ 0 (number_at pdu 7)) ∙ ap (λ (z : List ℤ). length z) v in
    let o : number_at pdu 5 ≡ into = ap into_of s.1 in
    served_by r staged released refused at count (nat_le (into + length values.items) WORDS) s.0
    (record { address = ap address_of s.1; quantity = ap count_of s.1; writes = λ i. nat_le (o i + p i) WORDS; there = refl }) refl
    (λ i. let change : Change = words_at (o i) (v i) in write_outcome refused pdu change (data_reply pdu (bytes_of_words (slice_range (after_change staged change).words at (at + count)))))
