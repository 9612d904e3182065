-- A request is read as what was written.
use Rattle.std.proofs.Common.{◌≡◌, ℕ, ℤ, ◌+◌, ◌*◌, ◌/◌, ◌<◌, ◌≤◌, Bool, true, false, List, [], ◌∷◌, ◌++◌, length, refl, sym, ap, ◌∙◌, arith, Result, Ok, Err}
use Rattle.std.specs.Prelude.{◌==◌, ◌&&◌, nat_le, if◌then◌else◌, slice_index, FitsSigned}
use Rattle.std.specs.Int.{w16, cast_signed, cast_unsigned}
use Rattle.std.specs.List.{AllByRecursion}
use Rattle.std.proofs.lemmas.Bool.Decides.{nat_tests}
use Rattle.modbus_wire.specs.declared.exception.Exception.{Exception}
use Rattle.modbus_wire.specs.declared.exception.Exception.TheVariants.{IllegalDataValue}
use Rattle.modbus_wire.specs.declared.function.Table.TheVariants.{ReadWrite, ReadOnly}
use Rattle.modbus_wire.specs.declared.function.Function.{Function}
use Rattle.modbus_wire.specs.declared.function.Function.TheVariants as functions
use Rattle.modbus_wire.specs.declared.request.Request.{Request}
use Rattle.modbus_wire.specs.declared.request.Request.TheVariants.{ReadBits, ReadWords, WriteBit, WriteWord, WriteBits, WriteWords, MaskWord, WriteReadWords}
use Rattle.modbus_wire.specs.Frames.{number_at}
use Rattle.modbus_wire.specs.Functions.{is_lawful}
use Rattle.modbus_wire.specs.Packing.{bytes_of_bits, bits_of_bytes, bytes_of_words, words_of_bytes}
use Rattle.modbus_wire.specs.Requests.{is_count, request_bytes, value_of, request_of, AreReadBack}
use Rattle.modbus_wire.proofs.Cells.{two_bytes, bits_back, words_back, signed_back, unsigned_small}
use Rattle.modbus_wire.proofs.Lengths.{length_bytes_of_bits, length_bytes_of_words}

-- what passes its test is taken
taken : (b : Bool) (x y : Request) → b ≡ true → x ≡ y → (if b then Ok x else Err IllegalDataValue) ≡ Ok y
taken true x y e h = ap (λ (r : Request). Ok r) h
taken false x y e h = absurd cc

-- a counted request passes
counted_passes : (most n q len c count : ℕ) → is_count most q ≡ true → n ≡ q → c ≡ count → len ≡ 6 + count
    → (nat_le 6 len && (is_count most n && ((c == count) && (len == 6 + count)))) ≡ true
counted_passes most n q len c count h e f g = grind (arith, nat_tests)

-- so does one that writes words and then reads
write_read_passes : (n q m p len c count : ℕ) → (is_count 125 q && is_count 121 p) ≡ true → n ≡ q → m ≡ p → c ≡ count → len ≡ 10 + count
    → (nat_le 10 len && (is_count 125 n && (is_count 121 m && ((c == count) && (len == 10 + count))))) ≡ true
write_read_passes n q m p len c count h e e' f g = grind (arith, nat_tests)

count_small : (most n : ℕ) → is_count most n ≡ true → most < 65536 → n < 65536
count_small most n h k = grind (arith, nat_tests)

both : (a b : Bool) → (a && b) ≡ true → (a ≡ true) × (b ≡ true)
both true true h = (refl, refl)
both true false h = absurd cc
both false b h = absurd cc

pub read_back : AreReadBack
read_back (ReadBits ReadWrite address quantity) h l =
    let pdu : List ℕ = request_bytes (ReadBits ReadWrite address quantity) in
    let a : number_at pdu 1 ≡ address = omega (arith, two_bytes address h.0) in
    let q : number_at pdu 3 ≡ quantity = omega (arith, two_bytes quantity h.1) in
    taken (is_lawful (functions.ReadBits ReadWrite) pdu) (value_of (functions.ReadBits ReadWrite) pdu) (ReadBits ReadWrite address quantity) (ap (is_count 2000) q ∙ l) (λ i. ReadBits ReadWrite (a i) (q i))
read_back (ReadBits ReadOnly address quantity) h l =
    let pdu : List ℕ = request_bytes (ReadBits ReadOnly address quantity) in
    let a : number_at pdu 1 ≡ address = omega (arith, two_bytes address h.0) in
    let q : number_at pdu 3 ≡ quantity = omega (arith, two_bytes quantity h.1) in
    taken (is_lawful (functions.ReadBits ReadOnly) pdu) (value_of (functions.ReadBits ReadOnly) pdu) (ReadBits ReadOnly address quantity) (ap (is_count 2000) q ∙ l) (λ i. ReadBits ReadOnly (a i) (q i))
read_back (ReadWords ReadWrite address quantity) h l =
    let pdu : List ℕ = request_bytes (ReadWords ReadWrite address quantity) in
    let a : number_at pdu 1 ≡ address = omega (arith, two_bytes address h.0) in
    let q : number_at pdu 3 ≡ quantity = omega (arith, two_bytes quantity h.1) in
    taken (is_lawful (functions.ReadWords ReadWrite) pdu) (value_of (functions.ReadWords ReadWrite) pdu) (ReadWords ReadWrite address quantity) (ap (is_count 125) q ∙ l) (λ i. ReadWords ReadWrite (a i) (q i))
read_back (ReadWords ReadOnly address quantity) h l =
    let pdu : List ℕ = request_bytes (ReadWords ReadOnly address quantity) in
    let a : number_at pdu 1 ≡ address = omega (arith, two_bytes address h.0) in
    let q : number_at pdu 3 ≡ quantity = omega (arith, two_bytes quantity h.1) in
    taken (is_lawful (functions.ReadWords ReadOnly) pdu) (value_of (functions.ReadWords ReadOnly) pdu) (ReadWords ReadOnly address quantity) (ap (is_count 125) q ∙ l) (λ i. ReadWords ReadOnly (a i) (q i))
read_back (WriteBit address true) h l =
    let pdu : List ℕ = request_bytes (WriteBit address true) in
    let a : number_at pdu 1 ≡ address = omega (arith, two_bytes address h) in
    taken (is_lawful functions.WriteBit pdu) (value_of functions.WriteBit pdu) (WriteBit address true) refl (λ i. WriteBit (a i) true)
read_back (WriteBit address false) h l =
    let pdu : List ℕ = request_bytes (WriteBit address false) in
    let a : number_at pdu 1 ≡ address = omega (arith, two_bytes address h) in
    taken (is_lawful functions.WriteBit pdu) (value_of functions.WriteBit pdu) (WriteBit address false) refl (λ i. WriteBit (a i) false)
read_back (WriteWord address value) h l =
    let pdu : List ℕ = request_bytes (WriteWord address value) in
    let a : number_at pdu 1 ≡ address = omega (arith, two_bytes address h.0) in
    let n : number_at pdu 3 ≡ cast_unsigned w16 value = omega (arith, two_bytes (cast_unsigned w16 value) (unsigned_small value h.1)) in
    let z : cast_signed w16 (number_at pdu 3) ≡ value = ap (cast_signed w16) n ∙ signed_back value h.1 in
    taken (is_lawful functions.WriteWord pdu) (value_of functions.WriteWord pdu) (WriteWord address value) refl (λ i. WriteWord (a i) (z i))
read_back (WriteBits address values) h l =
    let pdu : List ℕ = request_bytes (WriteBits address values) in
    let bytes : List ℕ = bytes_of_bits values in
    let count : ℕ = length values in
    let a : number_at pdu 1 ≡ address = omega (arith, two_bytes address h) in
    let q : number_at pdu 3 ≡ count = omega (arith, two_bytes count (count_small 1968 count l (omega arith))) in
    let size : length bytes ≡ (number_at pdu 3 + 7) / 8 = length_bytes_of_bits values ∙ ap (λ (n : ℕ). (n + 7) / 8) (sym q) in
    let whole : length pdu ≡ 6 + (number_at pdu 3 + 7) / 8 = omega (arith, size) in
    let v : bits_of_bytes bytes (number_at pdu 3) ≡ values = ap (bits_of_bytes bytes) q ∙ bits_back values in
    taken (is_lawful functions.WriteBits pdu) (value_of functions.WriteBits pdu) (WriteBits address values)
    (counted_passes 1968 (number_at pdu 3) count (length pdu) (length bytes) ((number_at pdu 3 + 7) / 8) l q size whole) (λ i. WriteBits (a i) (v i))
read_back (WriteWords address values) h l =
    let pdu : List ℕ = request_bytes (WriteWords address values) in
    let bytes : List ℕ = bytes_of_words values.items in
    let count : ℕ = length values.items in
    let a : number_at pdu 1 ≡ address = omega (arith, two_bytes address h.0) in
    let q : number_at pdu 3 ≡ count = omega (arith, two_bytes count (count_small 123 count l (omega arith))) in
    let size : length bytes ≡ 2 * number_at pdu 3 = length_bytes_of_words values.items ∙ ap (λ (n : ℕ). 2 * n) (sym q) in
    let whole : length pdu ≡ 6 + 2 * number_at pdu 3 = omega (arith, size) in
    let v : words_of_bytes bytes (number_at pdu 3) ≡ values.items = ap (words_of_bytes bytes) q ∙ words_back values.items h.1 in
    taken (is_lawful functions.WriteWords pdu) (value_of functions.WriteWords pdu) (WriteWords address values)
    (counted_passes 123 (number_at pdu 3) count (length pdu) (length bytes) (2 * number_at pdu 3) l q size whole) (λ i. WriteWords (a i) (record { items = v i }))
read_back (MaskWord address and_mask or_mask) h l =
    let pdu : List ℕ = request_bytes (MaskWord address and_mask or_mask) in
    let a : number_at pdu 1 ≡ address = omega (arith, two_bytes address h.0) in
    let m : number_at pdu 3 ≡ and_mask = omega (arith, two_bytes and_mask h.1) in
    let o : number_at pdu 5 ≡ or_mask = omega (arith, two_bytes or_mask h.2) in
    taken (is_lawful functions.MaskWord pdu) (value_of functions.MaskWord pdu) (MaskWord address and_mask or_mask) refl (λ i. MaskWord (a i) (m i) (o i))
read_back (WriteReadWords address quantity write_address values) h l =
    let pdu : List ℕ = request_bytes (WriteReadWords address quantity write_address values) in
    let bytes : List ℕ = bytes_of_words values.items in
    let count : ℕ = length values.items in
    let few : is_count 121 count ≡ true = (both (is_count 125 quantity) (is_count 121 count) l).1 in
    let a : number_at pdu 1 ≡ address = omega (arith, two_bytes address h.0) in
    let q : number_at pdu 3 ≡ quantity = omega (arith, two_bytes quantity h.1) in
    let w : number_at pdu 5 ≡ write_address = omega (arith, two_bytes write_address h.2) in
    let p : number_at pdu 7 ≡ count = omega (arith, two_bytes count (count_small 121 count few (omega arith))) in
    let size : length bytes ≡ 2 * number_at pdu 7 = length_bytes_of_words values.items ∙ ap (λ (n : ℕ). 2 * n) (sym p) in
    let whole : length pdu ≡ 10 + 2 * number_at pdu 7 = omega (arith, size) in
    let v : words_of_bytes bytes (number_at pdu 7) ≡ values.items = ap (words_of_bytes bytes) p ∙ words_back values.items h.3 in
    taken (is_lawful functions.WriteReadWords pdu) (value_of functions.WriteReadWords pdu) (WriteReadWords address quantity write_address values)
    (write_read_passes (number_at pdu 3) quantity (number_at pdu 7) count (length pdu) (length bytes) (2 * number_at pdu 7) l q p size whole) (λ i. WriteReadWords (a i) (q i) (w i) (record { items = v i }))
