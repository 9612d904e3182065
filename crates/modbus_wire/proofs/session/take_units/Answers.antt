use Rattle.std.proofs.Common.{◌≡◌, ◌+◌, ℕ, List, ◌∷◌, [], ◌++◌, length, take, drop, get_or, ◌∙◌, ap, sym, subst, take-append-drop}
use Rattle.std.proofs.lemmas.List.{take_more}
use Rattle.io_model.specs.Streams.{Rest, Fault, Took}
use Rattle.modbus_wire.specs.Frames.{Adu, header_of, adus}
use Rattle.modbus_wire.proofs.Feeds.{took_unit, took_fault, step_short, step_size, on_err}
use Rattle.modbus_wire.proofs.session.take_units.Goals as goal
use Rattle.modbus_wire.proofs.session.take_units.Goals.{in-Short, in-Size+then-len-size+in_ok-push-in-Size, in-Size+else-len-size}

pub returns-in_err-push-in-Size-clause-err : goal.returns-in_err-push-in-Size-clause-err
returns-in_err-push-in-Size-clause-err c =
    on_err ((more : List Adu) × (c.push-then-len-size.new.self.items ≡ c.args.out.now.items ++ more)) c.from_residual.result
    (c.loop-byte.invariant.items, c.in_err-push-in-Size.ensures.items ∙ c.loop-byte.invariant.added)

pub returns-in-Bad-clause-ok : goal.returns-in-Bad-clause-ok
returns-in-Bad-clause-ok c =
    let i : ℕ = c.loop-byte.byte-index in
    let piece : List ℕ = c.args.piece.now in
    let held : List ℕ = c.loop-byte.held.items in
    let byte : ℕ = get_or piece i 0 in
    let whole : (take i piece ++ byte ∷ []) ++ drop (i + 1) piece ≡ piece = ap (λ (l : List ℕ). l ++ drop (i + 1) piece) (sym (take_more piece i 0 c.loop-byte-test.true)) ∙ take-append-drop (i + 1) piece in
    let bad = ap header_of (sym (c.as_slice.ensures.value ∙ c.push.ensures.items)) ∙ (sym c.header_of.ensures ∙ c.in-Bad.is) in
    subst (λ (l : List ℕ). Took adus (Rest c.args.held.now.items) l (Fault c.in-Bad.fault) c.args.out.now.items c.loop-byte.out.items) whole
    (took_fault c.args.held.now.items held (take i piece) (drop (i + 1) piece) byte c.args.out.now.items c.loop-byte.out.items c.in-Bad.fault c.loop-byte.invariant bad)

pub loop-byte-preserved : goal.loop-byte-preserved
loop-byte-preserved c =
    let i : ℕ = c.loop-byte.byte-index in
    let piece : List ℕ = c.args.piece.now in
    let held : List ℕ = c.loop-byte.held.items in
    let byte : ℕ = get_or piece i 0 in
    let more : take (i + 1) piece ≡ take i piece ++ byte ∷ [] = take_more piece i 0 c.loop-byte-test.true in
    let header : header_of (held ++ byte ∷ []) ≡ c.header_of.result = ap header_of (sym (c.as_slice.ensures.value ∙ c.push.ensures.items)) ∙ sym c.header_of.ensures in
    elim c.match-header_of.branch [
      | in-Short w ↦
          rw (more, w.held-is, w.out-is, c.push.ensures.items)
          (step_short c.args.held.now.items held (take i piece) byte c.args.out.now.items c.loop-byte.out.items c.loop-byte.invariant (header ∙ w.in-Short.is))
      | in-Size+then-len-size+in_ok-push-in-Size w ↦
          rw (more, w.held-is, w.out-is, w.clear.ensures, w.in_ok-push-in-Size.ensures.items)
          (took_unit c.args.held.now.items held (take i piece) byte c.args.out.now.items c.loop-byte.out.items w.adu_of.result c.loop-byte.invariant
          (w.adu_of.ensures.frame ∙ (w.as_slice-then-len-size.ensures.value ∙ c.push.ensures.items)) w.adu_of.ensures.framed)
      | in-Size+else-len-size w ↦
          rw (more, w.held-is, w.out-is, c.push.ensures.items)
          (step_size c.args.held.now.items held (take i piece) byte w.in-Size.size c.args.out.now.items c.loop-byte.out.items c.loop-byte.invariant (header ∙ w.in-Size.is)
          (λ e. w.if-len-size.false (w.len.ensures.value ∙ (ap length c.push.ensures.items ∙ e))))
    ]
