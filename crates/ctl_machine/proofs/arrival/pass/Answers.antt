use Rattle.std.proofs.Common.{◌+◌, Ok, Some, sym, ap, ◌∙◌, length}
use Rattle.il_model.specs.declared.typing.Effect.{Effect}
use Rattle.il_model.specs.declared.fetched.Fetched.{Fetched}
use Rattle.il_model.specs.Program.{Program}
use Rattle.il_model.specs.Typing.{Shape, shape_on_arrival}
use Rattle.il_model.specs.Checking.{top_of, source_kind, shape_after}
use Rattle.il_model.proofs.Room.{row_room}
use Rattle.ctl_machine.proofs.Arrivals.{goes_past, row_again, ok_effect, no_fault}
use Rattle.ctl_machine.proofs.arrival.pass.Goals as goal

pub apply-requires : goal.apply-requires
apply-requires c =
    let sh = c.args.types.now in
    let is = row_again sh c.cr.result c.top.result c.depth-depth.result c.fetched-line.result.now.op c.fetched-line.result.now.modifier c.kind_of-kind.result (source_kind c.args.image.now c.fetched-line.result.now.source) c.cr.ensures c.top.ensures c.depth-depth.ensures (c.kind_of-kind.ensures ∙ ap (λ (Q : Program). source_kind Q c.fetched-line.result.now.source) c.program.ensures) ∙ sym c.row_of.ensures ∙ c.in-Ok.is in
    row_room sh.cr (top_of sh.kept) (length sh.kept) c.fetched-line.result.now.op c.fetched-line.result.now.modifier (source_kind c.args.image.now c.fetched-line.result.now.source) c.in-Ok.effect is

pub unreachable-requires : goal.unreachable-requires
unreachable-requires c =
    let sh = c.args.types.now in
    let past = goes_past c.args.image.now c.know_lawful.ensures.typed c.args.n sh c.fetched-line.result.now c.requires.within c.requires.types (c.at.ensures ∙ ap (λ (f : Fetched). Some f) (sym c.fetched-line.ensures)) in
    let is = row_again sh c.cr.result c.top.result c.depth-depth.result c.fetched-line.result.now.op c.fetched-line.result.now.modifier c.kind_of-kind.result (source_kind c.args.image.now c.fetched-line.result.now.source) c.cr.ensures c.top.ensures c.depth-depth.ensures (c.kind_of-kind.ensures ∙ ap (λ (Q : Program). source_kind Q c.fetched-line.result.now.source) c.program.ensures) ∙ sym c.row_of.ensures ∙ c.in-Err.is in
    no_fault past.effect c.in-Err.field-0 (sym past.row ∙ is)

pub returns : goal.returns
returns c =
    let sh = c.args.types.now in
    let past = goes_past c.args.image.now c.know_lawful.ensures.typed c.args.n sh c.fetched-line.result.now c.requires.within c.requires.types (c.at.ensures ∙ ap (λ (f : Fetched). Some f) (sym c.fetched-line.ensures)) in
    let is = row_again sh c.cr.result c.top.result c.depth-depth.result c.fetched-line.result.now.op c.fetched-line.result.now.modifier c.kind_of-kind.result (source_kind c.args.image.now c.fetched-line.result.now.source) c.cr.ensures c.top.ensures c.depth-depth.ensures (c.kind_of-kind.ensures ∙ ap (λ (Q : Program). source_kind Q c.fetched-line.result.now.source) c.program.ensures) ∙ sym c.row_of.ensures ∙ c.in-Ok.is in
    let same = ok_effect past.effect c.in-Ok.effect (sym past.row ∙ is) in
    past.next ∙ ap (λ (e : Effect). Ok (shape_on_arrival c.args.image.now (c.args.n + 1) (shape_after sh e))) same ∙ sym (ap (λ (s : Shape). Ok (shape_on_arrival c.args.image.now (c.args.n + 1) s)) c.apply.ensures) ∙ sym (ap (λ (s : Shape). Ok s) (c.arrive.ensures ∙ ap (λ (Q : Program). shape_on_arrival Q (c.args.n + 1) c.apply.new.self) c.program-in-Ok.ensures))
