use Rattle.std.proofs.Common.{◌≡◌, ◌+◌, ◌++◌, ◌∷◌, [], ℕ, List, take, drop, get_or, sym, ap, subst, ◌∙◌, take-append-drop, arith}
use Rattle.std.proofs.lemmas.List.{take_more}
use Rattle.io_model.specs.Streams.{Failed}
use Rattle.plc_console.specs.Sessions.{Scene, scene}
use Rattle.plc_console.proofs.Sessions.{PieceStopped, piece_more, piece_stops}
use Rattle.plc_console.proofs.session.serve_piece.Goals as goal

pub returns-in-Err-clause-served : goal.returns-in-Err-clause-served
returns-in-Err-clause-served g c =
    let i : ℕ = c.loop-byte.byte-index in
    let piece : List ℕ = c.args.piece.now in
    let byte : ℕ = get_or piece i 0 in
    let before : Scene = scene (g.D.Submits.answered c.args.desk.now) (g.W.CountedWrite.held c.args.writer.now) c.args.image.now in
    let between : Scene = scene (g.D.Submits.answered c.loop-byte.desk) (g.W.CountedWrite.held c.loop-byte.writer) c.loop-byte.image in
    let after : Scene = scene (g.D.Submits.answered c.take_byte.new.desk) (g.W.CountedWrite.held c.take_byte.new.writer) c.take_byte.new.image in
    let whole : (take i piece ++ byte ∷ []) ++ drop (i + 1) piece ≡ piece = ap (λ (l : List ℕ). l ++ drop (i + 1) piece) (sym (take_more piece i 0 c.loop-byte-test.true)) ∙ take-append-drop (i + 1) piece in
    subst (λ (l : List ℕ). PieceStopped c.in-Err.end l c.args.intake.now (Failed (g.W.CountedWrite.faults c.args.writer.now) (g.W.CountedWrite.faults c.take_byte.new.writer)) before after) whole
    (piece_stops c.in-Err.end (take i piece) (byte ∷ []) (drop (i + 1) piece) c.args.intake.now c.loop-byte.intake
    (g.W.CountedWrite.faults c.args.writer.now) (g.W.CountedWrite.faults c.loop-byte.writer) (g.W.CountedWrite.faults c.take_byte.new.writer)
    before between after c.loop-byte.invariant.counts c.in-Err.ensures.counts c.loop-byte.invariant.served c.in-Err.ensures.served)

pub loop-byte-preserved : goal.loop-byte-preserved
loop-byte-preserved g c =
    let i : ℕ = c.loop-byte.byte-index in
    let piece : List ℕ = c.args.piece.now in
    let byte : ℕ = get_or piece i 0 in
    let before : Scene = scene (g.D.Submits.answered c.args.desk.now) (g.W.CountedWrite.held c.args.writer.now) c.args.image.now in
    let between : Scene = scene (g.D.Submits.answered c.loop-byte.desk) (g.W.CountedWrite.held c.loop-byte.writer) c.loop-byte.image in
    let after : Scene = scene (g.D.Submits.answered c.take_byte.new.desk) (g.W.CountedWrite.held c.take_byte.new.writer) c.take_byte.new.image in
    let more : take (i + 1) piece ≡ take i piece ++ byte ∷ [] = take_more piece i 0 c.loop-byte-test.true in
    record {
      served = rw more (piece_more (take i piece) (byte ∷ []) c.args.intake.now c.loop-byte.intake c.take_byte.new.intake before between after c.loop-byte.invariant.served c.in_default.ensures.served);
      counts = omega (arith, c.loop-byte.invariant.counts, c.in_default.ensures.counts);
    }
