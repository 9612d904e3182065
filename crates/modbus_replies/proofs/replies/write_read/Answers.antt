use Rattle.std.proofs.Common.{◌≡◌, ◌+◌, ◌≤◌, ℕ, List, length, ◌∙◌, subst, Option, slice_range}
use Rattle.io_image.specs.Book.{Book, Change, words_at, after_change}
use Rattle.modbus_wire.specs.Packing.{bytes_of_words}
use Rattle.modbus_wire.specs.Replies.{data_reply}
use Rattle.modbus_replies.specs.Replies.{Replies, words_written, write_outcome}
use Rattle.modbus_replies.proofs.Settling.{took_and_read, declined_to_read, written_change}
use Rattle.modbus_replies.proofs.replies.write_read.Goals as goal

-- the reply of a write that shows words
abbrev shows_with : List ℕ → ℕ → ℕ → Option Book → Option Book → List ℕ → Change → Type 0
shows_with pdu at count before after answer change = Replies before after (λ staged refused. write_outcome refused pdu change (data_reply pdu (bytes_of_words (slice_range (after_change staged change).words at (at + count))))) answer

pub returns-in-Ok : goal.returns-in-Ok
returns-in-Ok g c =
    let pdu : List ℕ = c.args.pdu.now in
    let at = c.args.at in
    let count = c.args.count in
    let v : words_at c.from-2.result c.as_slice.result.now ≡ words_written pdu = written_change pdu c.from-2.result c.from.result c.as_slice.result.now (c.from-2.ensures ∙ c.number_at-2.ensures) (c.from.ensures ∙ c.number_at.ensures) (c.as_slice.ensures.value ∙ c.words_of-words.ensures) in
    subst (shows_with pdu at count (g.S.Staging.told c.args.staging.now) (g.S.Staging.told c.write_read.new.self) c.shown_words.result.items) v (took_and_read (g.S.Staging.told c.args.staging.now) (g.S.Staging.told c.write_read.new.self) c.in-Ok.written (words_at c.from-2.result c.as_slice.result.now) (c.from-2.result + length c.as_slice.result.now ≤ 64) pdu
    (λ cells. data_reply pdu (bytes_of_words (slice_range cells.words at (at + count)))) c.shown_words.result.items c.in-Ok.ensures.told c.in-Ok.ensures.shown c.shown_words.ensures)

pub returns-in-Err : goal.returns-in-Err
returns-in-Err g c =
    let pdu : List ℕ = c.args.pdu.now in
    let at = c.args.at in
    let count = c.args.count in
    let v : words_at c.from-2.result c.as_slice.result.now ≡ words_written pdu = written_change pdu c.from-2.result c.from.result c.as_slice.result.now (c.from-2.ensures ∙ c.number_at-2.ensures) (c.from.ensures ∙ c.number_at.ensures) (c.as_slice.ensures.value ∙ c.words_of-words.ensures) in
    subst (shows_with pdu at count (g.S.Staging.told c.args.staging.now) (g.S.Staging.told c.write_read.new.self) c.exception_reply.result.items) v (declined_to_read (g.S.Staging.told c.args.staging.now) (g.S.Staging.told c.write_read.new.self) c.in-Err.field-0 (words_at c.from-2.result c.as_slice.result.now) (c.from-2.result + length c.as_slice.result.now ≤ 64) pdu c.exception_reply.result.items
    (λ cells. data_reply pdu (bytes_of_words (slice_range cells.words at (at + count)))) c.in-Err.ensures.told c.exception_reply.ensures)
