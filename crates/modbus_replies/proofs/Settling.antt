-- Replies over a staging that tells its book, and over one that doesn't.
use Rattle.std.proofs.Common.{◌≡◌, ℕ, ℤ, length, drop, le_refl, slice_range, Bool, true, false, List, [], ◌∷◌, sym, ◌∙◌, ap, refl, Option, Some, None, Result, Ok, Err, IfOk, OnErr, ◌↔◌}
use Rattle.il_model.specs.declared.cells.Cells.{Cells}
use Rattle.il_model.specs.Locations.{clear_cells}
use Rattle.std.proofs.lemmas.List.Sums.{fold-append}
use Rattle.io_image.specs.Book.{Book, Change, words_at, is_full, cells_of, with_change, after_change, Changed}
use Rattle.io_image.specs.Calls.{Does, read_gave, wrote as wrote_call}
use Rattle.io_image.specs.declared.book.Ticket.{Ticket}
use Rattle.io_image.specs.declared.book.Written.{Written}
use Rattle.io_image.specs.declared.book.StageError.{StageError}
use Rattle.io_image.specs.declared.book.StageError.TheVariants.{Full}
use Rattle.modbus_wire.specs.declared.exception.Exception.TheVariants.{ServerDeviceFailure}
use Rattle.modbus_wire.specs.declared.function.Table.{Table}
use Rattle.modbus_wire.specs.declared.function.Table.TheVariants.{ReadWrite, ReadOnly}
use Rattle.std.proofs.lemmas.Slice.{between_to_end}
use Rattle.modbus_wire.specs.Frames.{number_at}
use Rattle.modbus_wire.specs.Packing.{words_of_bytes}
use Rattle.modbus_wire.specs.Replies.{exception_of}
use Rattle.modbus_replies.specs.Requests.{request_of}
use Rattle.modbus_replies.specs.Replies.{Replies, LooksAt, table_cells, read_outcome, write_outcome, words_written, shows_outputs, timely_reply}

-- nothing was asked of the staging
pub untouched : (told : Option Book) (answer : List ℕ) → Replies told told (λ staged refused. read_outcome answer) answer
untouched None answer = (refl, clear_cells, false, refl)
untouched (Some b) answer = (is_full b, λ e. e, refl, refl)

-- outputs that are stale weren't shown
pub withheld : (told : Option Book) (stale : Bool) (pdu : List ℕ) (released : Cells) (answer : List ℕ) → stale ≡ true → shows_outputs (request_of pdu) ≡ true → answer ≡ exception_of pdu ServerDeviceFailure
    → Replies told told (λ staged refused. timely_reply stale pdu staged released refused) answer
withheld told stale pdu released answer is shows e = rw (is, shows, e) (untouched told (exception_of pdu ServerDeviceFailure))

-- its cells were read
pub looked : (before after : Option Book) (f : Cells → List ℕ) (answer : List ℕ) (cells : Cells) → Changed before after (λ b c. Does b (read_gave cells) c) → answer ≡ f cells
    → Replies before after (λ staged refused. read_outcome (f staged)) answer
looked None after f answer cells h e = (h, cells, false, e)
looked (Some b) None f answer cells h e = absurd h
looked (Some b) (Some c) f answer cells h e = (is_full b, λ z. z, h.0, e ∙ ap f h.1)

-- the cells of a table were looked at
pub shown : (table : Table) (before after : Option Book) (released cells : Cells) (f : Cells → List ℕ) (answer : List ℕ) → LooksAt table before after released cells → answer ≡ f cells
    → Replies before after (λ staged refused. read_outcome (f (table_cells table staged released))) answer
shown ReadWrite before after released cells f answer h e = looked before after f answer cells h e
shown ReadOnly before after released cells f answer h e = rw (h.0, e, h.1) (untouched before (f released))

-- what a write tells of its book
abbrev pub Wrote : Change → Type 0 → Result Ticket StageError → Book → Book → Type 0
Wrote change Within r b c = IfOk r (λ t. Does b (wrote_call change t.number) c) × OnErr r (c ≡ b) × ((r ≡ Err Full) ↔ (Within × (is_full b ≡ true)))

not_full : (b : Book) → is_full b ≡ false → is_full b ≡ true → false ≡ true
not_full b e h = sym e ∙ h

-- a write got its ticket
pub took : (before after : Option Book) (t : Ticket) (change : Change) (Within : Type 0) (pdu answer : List ℕ) → Changed before after (Wrote change Within (Ok t))
    → Replies before after (λ staged refused. write_outcome refused pdu change answer) answer
took None after t change Within pdu answer h = (h, clear_cells, false, refl)
took (Some b) None t change Within pdu answer h = absurd h
took (Some b) (Some c) t change Within pdu answer h = (false, not_full b h.0.2, h.0.0, refl)

-- a write was refused
pub declined : (before after : Option Book) (e : StageError) (change : Change) (Within : Type 0) (pdu reply answer : List ℕ) → Changed before after (Wrote change Within (Err e)) → reply ≡ exception_of pdu ServerDeviceFailure
    → Replies before after (λ staged refused. write_outcome refused pdu change answer) reply
declined None after e change Within pdu reply answer h is = (h, clear_cells, true, is)
declined (Some b) None e change Within pdu reply answer h is = absurd h
declined (Some b) (Some c) e change Within pdu reply answer h is = (true, λ _. refl, h.1, is)

-- what a write that shows the cells tells of its book
abbrev pub WroteAndRead : Change → Type 0 → Result Written StageError → Book → Book → Type 0
WroteAndRead change Within r b c = IfOk r (λ w. Does b (wrote_call change w.ticket.number) c × Does c (read_gave w.inputs.cells) c) × OnErr r (c ≡ b) × ((r ≡ Err Full) ↔ (Within × (is_full b ≡ true)))

-- the cells with one write more
with_one : (b : Book) (change : Change) → cells_of (with_change b change) ≡ after_change (cells_of b) change
with_one b change = fold-append after_change b.sample b.changes (change ∷ [])

-- a write got its ticket, and the cells with it were read
pub took_and_read : (before after : Option Book) (w : Written) (change : Change) (Within : Type 0) (pdu : List ℕ) (f : Cells → List ℕ) (answer : List ℕ)
    → Changed before after (WroteAndRead change Within (Ok w)) → (cells : Cells) × (w.inputs.cells ≡ after_change cells change) → answer ≡ f w.inputs.cells
    → Replies before after (λ staged refused. write_outcome refused pdu change (f (after_change staged change))) answer
took_and_read None after w change Within pdu f answer h shown e = (h, shown.0, false, e ∙ ap f shown.1)
took_and_read (Some b) None w change Within pdu f answer h shown e = absurd h
took_and_read (Some b) (Some c) w change Within pdu f answer h shown e =
    let is : w.inputs.cells ≡ after_change (cells_of b) change = h.0.1.1 ∙ (ap (λ (d : Book). cells_of d) h.0.0.0 ∙ with_one b change) in
    (false, not_full b h.0.0.2, h.0.0.0, e ∙ ap f is)

-- such a write was refused
pub declined_to_read : (before after : Option Book) (e : StageError) (change : Change) (Within : Type 0) (pdu reply : List ℕ) (f : Cells → List ℕ) → Changed before after (WroteAndRead change Within (Err e))
    → reply ≡ exception_of pdu ServerDeviceFailure → Replies before after (λ staged refused. write_outcome refused pdu change (f (after_change staged change))) reply
declined_to_read None after e change Within pdu reply f h is = (h, clear_cells, true, is)
declined_to_read (Some b) None e change Within pdu reply f h is = absurd h
declined_to_read (Some b) (Some c) e change Within pdu reply f h is = (true, λ _. refl, h.1, is)

-- the words that 23 writes, by the numbers in it
pub written_change : (pdu : List ℕ) (at count : ℕ) (words : List ℤ) → at ≡ number_at pdu 5 → count ≡ number_at pdu 7 → words ≡ words_of_bytes (slice_range pdu 10 (length pdu)) count → words_at at words ≡ words_written pdu
written_change pdu at count words is_at is_count is =
    let behind : slice_range pdu 10 (length pdu) ≡ drop 10 pdu = between_to_end pdu 10 (length pdu) (le_refl (length pdu)) in
    ap (λ (z : List ℤ). words_at at z) (is ∙ (ap (λ (z : List ℕ). words_of_bytes z count) behind ∙ ap (λ (z : ℕ). words_of_bytes (drop 10 pdu) z) is_count)) ∙ ap (λ (z : ℕ). words_at z (words_of_bytes (drop 10 pdu) (number_at pdu 7))) is_at
