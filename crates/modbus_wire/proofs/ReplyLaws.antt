-- A reply is read as what was written.
use Rattle.std.proofs.Common.{◌≡◌, ℕ, ◌+◌, ◌*◌, ◌/◌, ◌≤◌, Bool, true, false, List, [], ◌∷◌, length, refl, sym, ap, ◌∙◌, arith, Option, Some, None, ◌↔◌}
use Rattle.std.specs.Prelude.{◌==◌, ◌&&◌, bit_or, nat_le, nat_eq, if◌then◌else◌, IsSome, IfSome}
use Rattle.std.specs.Cmp.Lexicographic.{pointwise}
use Rattle.std.proofs.lemmas.Bool.{eqb-true}
use Rattle.std.proofs.lemmas.Bool.Decides.{nat_tests}
use Rattle.std.proofs.lemmas.Cmp.{nat_list_eq_equiv}
use Rattle.modbus_wire.specs.declared.function.Table.TheVariants.{ReadWrite, ReadOnly}
use Rattle.modbus_wire.specs.declared.function.Function.{Function}
use Rattle.modbus_wire.specs.declared.function.Function.TheVariants as functions
use Rattle.modbus_wire.specs.declared.request.Request.{Request}
use Rattle.modbus_wire.specs.declared.request.Request.TheVariants as requests
use Rattle.modbus_wire.specs.declared.reply.Expected.{Expected}
use Rattle.modbus_wire.specs.declared.reply.Expected.TheVariants.{ManyBits, ManyWords, Echo}
use Rattle.modbus_wire.specs.declared.reply.Reply.{Reply}
use Rattle.modbus_wire.specs.declared.reply.Reply.TheVariants.{Bits, Words, Done, Failed}
use Rattle.modbus_wire.specs.Functions.{code_of}
use Rattle.modbus_wire.specs.Packing.{bytes_of_bits, bits_of_bytes, bytes_of_words, words_of_bytes}
use Rattle.modbus_wire.specs.Requests.{is_request, counted, function_by}
use Rattle.arrayvec.specs.ArrayVec.{ArrayVec}
use Rattle.modbus_wire.specs.Replies.{expected, suits_by, bytes_by, code_by, reply_bytes, is_failure, is_shown, done_by, reply_by, reply_of, FitsReply, AreRepliesReadBack}
use Rattle.modbus_wire.proofs.Cells.{bits_back, words_back}
use Rattle.modbus_wire.proofs.Lengths.{length_bytes_of_bits, length_bytes_of_words}

-- what passes its test is taken
taken : (b : Bool) (x : Reply) (y : Reply) → b ≡ true → x ≡ y → (if b then Some x else None) ≡ Some y
taken true x y e h = ap (λ (r : Reply). Some r) h
taken false x y e h = absurd cc

-- what isn't a failure is taken as it's done
other : (b : Bool) (x : Reply) (y z : Option Reply) → b ≡ false → y ≡ z → (if b then Some x else y) ≡ z
other true x y z e h = absurd cc
other false x y z e h = h

-- no function code has bit 7 set
plain : (f : Function) → (code_of f == bit_or (code_of f) 128) ≡ false
plain (functions.ReadBits ReadWrite) = refl
plain (functions.ReadBits ReadOnly) = refl
plain (functions.ReadWords ReadWrite) = refl
plain (functions.ReadWords ReadOnly) = refl
plain functions.WriteBit = refl
plain functions.WriteWord = refl
plain functions.WriteBits = refl
plain functions.WriteWords = refl
plain functions.MaskWord = refl
plain functions.WriteReadWords = refl

same : (n : ℕ) → (n == n) ≡ true
same n = grind (arith, nat_tests)

second : (a b : Bool) → b ≡ false → (a && b) ≡ false
second true b h = h
second false b h = refl

-- what an echo is not
abbrev pub NoFailure : ℕ → Expected → Type 0
NoFailure code (ManyBits quantity) = Unit {0}
NoFailure code (ManyWords quantity) = Unit {0}
NoFailure code (Echo echo) = is_failure code echo.items ≡ false

shown_passes : (len n count code : ℕ) → n ≡ count → len ≡ 2 + count → (nat_le 2 len && ((code == code) && ((n == count) && (len == 2 + count)))) ≡ true
shown_passes len n count code e f = grind (arith, nat_tests)

shown_is : (code count : ℕ) (bytes : List ℕ) → length bytes ≡ count → is_shown code count (code ∷ counted bytes) ≡ true
shown_is code count bytes e = shown_passes (length (code ∷ counted bytes)) (length bytes) count code e (omega (arith, e))

-- what is shown has a code without bit 7
shown_no_failure : (code : ℕ) (bytes : List ℕ) → (code == bit_or code 128) ≡ false → is_failure code (code ∷ counted bytes) ≡ false
shown_no_failure code bytes h = second (length (code ∷ counted bytes) == 2) (code == bit_or code 128) h

failed_is : (code number : ℕ) → is_failure code (bit_or code 128 ∷ number ∷ []) ≡ true
failed_is code number = same (bit_or code 128)

failed_back : (code number : ℕ) (what : Expected) → reply_by code what (bit_or code 128 ∷ number ∷ []) ≡ Some (Failed number)
failed_back code number what = is_taken (is_failure code (bit_or code 128 ∷ number ∷ [])) (done_by code what (bit_or code 128 ∷ number ∷ [])) (failed_is code number)
  where
    is_taken : (b : Bool) (rest : Option Reply) → b ≡ true → (if b then Some (Failed number) else rest) ≡ Some (Failed number)
    is_taken true rest e = refl
    is_taken false rest e = absurd cc

back_by : (code : ℕ) (what : Expected) (reply : Reply) → (code == bit_or code 128) ≡ false → NoFailure code what → FitsReply reply → suits_by what reply ≡ true
    → reply_by code what (bytes_by code what reply) ≡ Some reply
back_by code (ManyBits quantity) (Bits bits) h k fits s =
    let bytes : List ℕ = bytes_of_bits bits in
    let q : length bits ≡ quantity = eqb-true (length bits) quantity s in
    let size : length bytes ≡ (quantity + 7) / 8 = length_bytes_of_bits bits ∙ ap (λ (n : ℕ). (n + 7) / 8) q in
    let v : bits_of_bytes bytes quantity ≡ bits = ap (bits_of_bytes bytes) (sym q) ∙ bits_back bits in
    other (is_failure code (code ∷ counted bytes)) (Failed (length bytes)) (done_by code (ManyBits quantity) (code ∷ counted bytes)) (Some (Bits bits)) (shown_no_failure code bytes h)
    (taken (is_shown code ((quantity + 7) / 8) (code ∷ counted bytes)) (Bits (bits_of_bytes bytes quantity)) (Bits bits) (shown_is code ((quantity + 7) / 8) bytes size) (λ i. Bits (v i)))
back_by code (ManyWords quantity) (Words words) h k fits s =
    let bytes : List ℕ = bytes_of_words words.items in
    let q : length words.items ≡ quantity = eqb-true (length words.items) quantity s in
    let size : length bytes ≡ 2 * quantity = length_bytes_of_words words.items ∙ ap (λ (n : ℕ). 2 * n) q in
    let v : words_of_bytes bytes quantity ≡ words.items = ap (words_of_bytes bytes) (sym q) ∙ words_back words.items fits in
    other (is_failure code (code ∷ counted bytes)) (Failed (length bytes)) (done_by code (ManyWords quantity) (code ∷ counted bytes)) (Some (Words words)) (shown_no_failure code bytes h)
    (taken (is_shown code (2 * quantity) (code ∷ counted bytes)) (Words (record { items = words_of_bytes bytes quantity })) (Words words) (shown_is code (2 * quantity) bytes size) (λ i. Words (record { items = v i })))
back_by code (Echo echo) Done h k fits s =
    other (is_failure code echo.items) (Failed _) (done_by code (Echo echo) echo.items) (Some Done) k
    (taken (pointwise nat_eq echo.items echo.items) Done Done (nat_list_eq_equiv.refl echo.items) refl)
back_by code (ManyBits quantity) (Failed number) h k fits s = failed_back code number (ManyBits quantity)
back_by code (ManyWords quantity) (Failed number) h k fits s = failed_back code number (ManyWords quantity)
back_by code (Echo echo) (Failed number) h k fits s = failed_back code number (Echo echo)
back_by code (ManyBits quantity) (Words words) h k fits s = absurd cc
back_by code (ManyBits quantity) Done h k fits s = absurd cc
back_by code (ManyWords quantity) (Bits bits) h k fits s = absurd cc
back_by code (ManyWords quantity) Done h k fits s = absurd cc
back_by code (Echo echo) (Bits bits) h k fits s = absurd cc
back_by code (Echo echo) (Words words) h k fits s = absurd cc

no_failure : (r : Request) → NoFailure (code_by r) (expected r)
no_failure (requests.ReadBits table address quantity) = tt
no_failure (requests.ReadWords table address quantity) = tt
no_failure (requests.WriteBit address value) = refl
no_failure (requests.WriteWord address value) = refl
no_failure (requests.WriteBits address values) = refl
no_failure (requests.WriteWords address values) = refl
no_failure (requests.MaskWord address and_mask or_mask) = refl
no_failure (requests.WriteReadWords address quantity write_address values) = tt

and_both : (a b : Bool) → (a && b) ≡ true → (a ≡ true) × (b ≡ true)
and_both true b h = (refl, h)
and_both false b h = absurd cc

lawful : (b : Bool) (x y : Option Reply) → b ≡ true → x ≡ y → (if b then x else None) ≡ y
lawful true x y e h = h
lawful false x y e h = absurd cc

pub replies_back : AreRepliesReadBack
replies_back r reply fits s =
    let parts = and_both (is_request r) (suits_by (expected r) reply) s in
    lawful (is_request r) (reply_by (code_by r) (expected r) (bytes_by (code_by r) (expected r) reply)) (Some reply) parts.0
    (back_by (code_by r) (expected r) reply (plain (function_by r)) (no_failure r) fits parts.1)

passes : (a b : Bool) → a ≡ true → b ≡ true → (a && b) ≡ true
passes true b e h = h
passes false b e h = absurd cc

-- what a reply was written as is read as that reply
pub wrote_back : (r : Request) (reply : Reply) (what : Expected) (code : ℕ) (result : Option (ArrayVec ℕ)) → is_request r ≡ true → what ≡ expected r → code ≡ code_by r
    → (IsSome result ↔ (suits_by what reply ≡ true)) → IfSome result (λ pdu. pdu.items ≡ bytes_by code what reply) → IfSome result (λ pdu. FitsReply reply)
    → IfSome result (λ pdu. reply_of r pdu.items ≡ Some reply)
wrote_back r reply what code None l e f suit bytes fits = tt
wrote_back r reply what code (Some pdu) l e f suit bytes fits =
    let is : pdu.items ≡ reply_bytes r reply = bytes ∙ (ap (λ (w : Expected). bytes_by code w reply) e ∙ ap (λ (n : ℕ). bytes_by n (expected r) reply) f) in
    let suits_it : suits_by (expected r) reply ≡ true = ap (λ (w : Expected). suits_by w reply) (sym e) ∙ suit.0 refl in
    ap (reply_of r) is ∙ replies_back r reply fits (passes (is_request r) (suits_by (expected r) reply) l suits_it)
