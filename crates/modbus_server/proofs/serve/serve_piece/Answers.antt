use Rattle.std.proofs.Common.{ℕ, List, take, sym, ◌∙◌}
use Rattle.std.specs.Io.KnownBytes.{Appends}
use Rattle.io_model.specs.Streams.{Failed}
use Rattle.modbus_wire.specs.Frames.{Adu}
use Rattle.plc_host.specs.declared.requests.Requests.{Requests}
use Rattle.modbus_server.specs.Sessions.{Images, AnswersSome, Adds}
use Rattle.modbus_server.proofs.Sessions.{fed_starts, silent_after, written_after, err_holds, ok_holds}
use Rattle.modbus_server.proofs.serve.serve_piece.Goals as goal

pub returns-then-is_err-clause-served : goal.returns-then-is_err-clause-served
returns-then-is_err-clause-served g c =
    let from = c.args.buffers.now.session in
    let piece : List ℕ = c.args.piece.now in
    let requests : List Adu = c.feed-fed.new.out.items in
    let before : Images = record { told = g.S.Staging.told c.args.staging.now; seen = c.args.outputs.now.released; limit = c.args.outputs.now.limit; access = c.args.outputs.now.access } in
    let after : Images = record { told = g.S.Staging.told c.answer_all.new.staging; seen = c.answer_all.new.outputs.released; limit = c.answer_all.new.outputs.limit; access = c.answer_all.new.outputs.access } in
    let starts = fed_starts c.feed-fed.result from c.feed-fed.new.self piece c.clear.new.self.items requests c.clear.ensures.items c.requires c.feed-fed.ensures in
    silent_after from piece before after (g.W.CountedWrite.held c.args.writer.now) requests starts
    (err_holds (AnswersSome before requests after) c.answer_all.result (sym c.if-is_err.ensures.value) (rw c.as_slice.ensures.value at c.answer_all.ensures.err))

pub returns-then-is_err-2-clause-served : goal.returns-then-is_err-2-clause-served
returns-then-is_err-2-clause-served g c =
    let from = c.args.buffers.now.session in
    let piece : List ℕ = c.args.piece.now in
    let requests : List Adu = c.feed-fed.new.out.items in
    let out : List ℕ = c.clear-2.new.self.items in
    let out' : List ℕ = c.answer_all.new.out.items in
    let counts : Requests = c.none-counts.result in
    let counts' : Requests = c.answer_all.new.counts in
    let before : Images = record { told = g.S.Staging.told c.args.staging.now; seen = c.args.outputs.now.released; limit = c.args.outputs.now.limit; access = c.args.outputs.now.access } in
    let after : Images = record { told = g.S.Staging.told c.answer_all.new.staging; seen = c.answer_all.new.outputs.released; limit = c.answer_all.new.outputs.limit; access = c.answer_all.new.outputs.access } in
    let held = g.W.CountedWrite.held c.args.writer.now in
    let held' = g.W.CountedWrite.held c.write_all.new.writer in
    let starts = fed_starts c.feed-fed.result from c.feed-fed.new.self piece c.clear.new.self.items requests c.clear.ensures.items c.requires c.feed-fed.ensures in
    let adds = ok_holds (Adds before requests out out' counts counts' after) c.answer_all.result (sym c.is_err.ensures.value ∙ c.if-is_err.false) (rw c.as_slice.ensures.value at c.answer_all.ensures.ok) in
    let wrote = err_holds ((count : ℕ) × Appends held held' (take count out')) c.write_all.result (sym c.if-is_err-2.ensures.value) (rw c.as_slice-2.ensures.value at c.write_all.ensures.err) in (
      err_holds (Failed (g.W.CountedWrite.faults c.args.writer.now) (g.W.CountedWrite.faults c.write_all.new.writer)) c.write_all.result (sym c.if-is_err-2.ensures.value) c.write_all.ensures.device,
      written_after from piece before after held held' requests out out' counts counts' wrote.0 starts c.clear-2.ensures.items adds wrote.1,
    )
