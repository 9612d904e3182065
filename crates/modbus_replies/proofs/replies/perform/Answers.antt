use Rattle.std.proofs.Common.{◌≡◌, ◌+◌, ◌≤◌, ◌==◌, ℕ, List, [], ◌∷◌, length, take, drop, ap, ◌∙◌, rules, le_refl, slice_range}
use Rattle.std.specs.Int.{w16, cast_signed}
use mir.Val.{SFits, to_z, of_z}
use Rattle.std.proofs.lemmas.Int.{to_z-of_z}
use Rattle.std.proofs.lemmas.Slice.{between_to_end}
use Rattle.io_image.specs.Book.{bits_at, words_at}
use Rattle.modbus_wire.specs.Frames.{number_at}
use Rattle.modbus_wire.specs.Packing.{bytes_of_bits, bytes_of_words, bits_of_bytes, words_of_bytes}
use Rattle.modbus_wire.specs.Replies.{data_reply}
use Rattle.modbus_replies.proofs.Settling.{shown, took, declined}
use Rattle.modbus_replies.proofs.replies.perform.Goals as goal

pub returns-in-ReadBits : goal.returns-in-ReadBits
returns-in-ReadBits g c =
    let at = c.args.request.address in
    let count = c.args.request.quantity in
    rw c.in-ReadBits.is
    (shown c.in-ReadBits.table (g.S.Staging.told c.args.staging.now) (g.S.Staging.told c.cells_of.new.staging) c.args.released.now.image.cells c.cells_of.result (λ cells. data_reply c.args.pdu.now (bytes_of_bits (slice_range cells.bits at (at + count)))) c.shown_bits.result.items c.cells_of.ensures c.shown_bits.ensures)

pub returns-in-ReadWords : goal.returns-in-ReadWords
returns-in-ReadWords g c =
    let at = c.args.request.address in
    let count = c.args.request.quantity in
    rw c.in-ReadWords.is
    (shown c.in-ReadWords.table (g.S.Staging.told c.args.staging.now) (g.S.Staging.told c.cells_of-in-ReadWords.new.staging) c.args.released.now.image.cells c.cells_of-in-ReadWords.result (λ cells. data_reply c.args.pdu.now (bytes_of_words (slice_range cells.words at (at + count)))) c.shown_words.result.items c.cells_of-in-ReadWords.ensures c.shown_words.ensures)

pub returns-in-Ok : goal.returns-in-Ok
returns-in-Ok g c =
    let pdu = c.args.pdu.now in
    let at = c.args.request.address in
    rw (c.in-WriteBit.is, c.pdu_of.ensures) (took (g.S.Staging.told c.args.staging.now) (g.S.Staging.told c.write_bits.new.self) c.in-Ok.field-0 (bits_at at ((number_at pdu 3 == 65280) ∷ [])) (at + 1 ≤ 512) pdu pdu (rw c.number_at.ensures at c.in-Ok.ensures.told))

pub returns-in-Err : goal.returns-in-Err
returns-in-Err g c =
    let pdu = c.args.pdu.now in
    let at = c.args.request.address in
    rw c.in-WriteBit.is (declined (g.S.Staging.told c.args.staging.now) (g.S.Staging.told c.write_bits.new.self) c.in-Err.field-0 (bits_at at ((number_at pdu 3 == 65280) ∷ [])) (at + 1 ≤ 512) pdu c.exception_reply.result.items pdu c.in-Err.ensures.told c.exception_reply.ensures)

pub returns-in-Ok-write_words : goal.returns-in-Ok-write_words
returns-in-Ok-write_words g c =
    let pdu = c.args.pdu.now in
    let at = c.args.request.address in
    let fits : SFits w16 c.cast_signed.result = search rules in
    let v : to_z w16 (of_z w16 c.cast_signed.result) ≡ cast_signed w16 (number_at pdu 3) = to_z-of_z w16 c.cast_signed.result fits ∙ (c.cast_signed.ensures ∙ ap (cast_signed w16) c.number_at-in-WriteWord.ensures) in
    rw (c.in-WriteWord.is, c.pdu_of-in-Ok-write_words.ensures) (took (g.S.Staging.told c.args.staging.now) (g.S.Staging.told c.write_words.new.self) c.in-Ok-write_words.field-0 (words_at at (cast_signed w16 (number_at pdu 3) ∷ [])) (at + 1 ≤ 64) pdu pdu (rw v at c.in-Ok-write_words.ensures.told))

pub returns-in-Err-write_words : goal.returns-in-Err-write_words
returns-in-Err-write_words g c =
    let pdu = c.args.pdu.now in
    let at = c.args.request.address in
    rw c.in-WriteWord.is (declined (g.S.Staging.told c.args.staging.now) (g.S.Staging.told c.write_words.new.self) c.in-Err-write_words.field-0 (words_at at (cast_signed w16 (number_at pdu 3) ∷ [])) (at + 1 ≤ 64) pdu c.exception_reply-in-Err-write_words.result.items pdu c.in-Err-write_words.ensures.told c.exception_reply-in-Err-write_words.ensures)

pub returns-in-Ok-write_bits : goal.returns-in-Ok-write_bits
returns-in-Ok-write_bits g c =
    let pdu : List ℕ = c.args.pdu.now in
    let at = c.args.request.address in
    let count = c.args.request.quantity in
    let v : c.as_slice.result.now ≡ bits_of_bytes (drop 6 pdu) count = c.as_slice.ensures.value ∙ (c.bits_of.ensures ∙ ap (λ (z : List ℕ). bits_of_bytes z count) (between_to_end pdu 6 (length pdu) (le_refl (length pdu)))) in
    rw (c.in-WriteBits.is, c.pdu_of-in-Ok-write_bits.ensures, ← v) (took (g.S.Staging.told c.args.staging.now) (g.S.Staging.told c.write_bits-in-WriteBits.new.self) c.in-Ok-write_bits.field-0 (bits_at at c.as_slice.result.now) (at + length c.as_slice.result.now ≤ 512) pdu (take 5 pdu) c.in-Ok-write_bits.ensures.told)

pub returns-in-Err-write_bits : goal.returns-in-Err-write_bits
returns-in-Err-write_bits g c =
    let pdu : List ℕ = c.args.pdu.now in
    let at = c.args.request.address in
    let count = c.args.request.quantity in
    rw c.in-WriteBits.is (declined (g.S.Staging.told c.args.staging.now) (g.S.Staging.told c.write_bits-in-WriteBits.new.self) c.in-Err-write_bits.field-0 (bits_at at (bits_of_bytes (drop 6 pdu) count)) (at + length c.as_slice.result.now ≤ 512) pdu c.exception_reply-in-Err-write_bits.result.items (take 5 pdu) c.in-Err-write_bits.ensures.told c.exception_reply-in-Err-write_bits.ensures)

pub returns-in-Ok-write_words-2 : goal.returns-in-Ok-write_words-2
returns-in-Ok-write_words-2 g c =
    let pdu : List ℕ = c.args.pdu.now in
    let at = c.args.request.address in
    let count = c.args.request.quantity in
    let v : c.as_slice-in-WriteWords.result.now ≡ words_of_bytes (drop 6 pdu) count = c.as_slice-in-WriteWords.ensures.value ∙ (c.words_of.ensures ∙ ap (λ (z : List ℕ). words_of_bytes z count) (between_to_end pdu 6 (length pdu) (le_refl (length pdu)))) in
    rw (c.in-WriteWords.is, c.pdu_of-in-Ok-write_words-2.ensures, ← v) (took (g.S.Staging.told c.args.staging.now) (g.S.Staging.told c.write_words-in-WriteWords.new.self) c.in-Ok-write_words-2.field-0 (words_at at c.as_slice-in-WriteWords.result.now) (at + length c.as_slice-in-WriteWords.result.now ≤ 64) pdu (take 5 pdu) c.in-Ok-write_words-2.ensures.told)

pub returns-in-Err-write_words-2 : goal.returns-in-Err-write_words-2
returns-in-Err-write_words-2 g c =
    let pdu : List ℕ = c.args.pdu.now in
    let at = c.args.request.address in
    let count = c.args.request.quantity in
    rw c.in-WriteWords.is (declined (g.S.Staging.told c.args.staging.now) (g.S.Staging.told c.write_words-in-WriteWords.new.self) c.in-Err-write_words-2.field-0 (words_at at (words_of_bytes (drop 6 pdu) count)) (at + length c.as_slice-in-WriteWords.result.now ≤ 64) pdu c.exception_reply-in-Err-write_words-2.result.items (take 5 pdu) c.in-Err-write_words-2.ensures.told c.exception_reply-in-Err-write_words-2.ensures)
