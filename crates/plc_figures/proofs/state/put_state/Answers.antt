use Rattle.std.proofs.Common.{ap, ◌∙◌, decimal}
use Rattle.plc_figures.specs.Readings.{greatest_view}
use Rattle.plc_figures.specs.State.{replicas_json}
use Rattle.plc_figures.proofs.Chains.{equally, then}
use Rattle.plc_figures.proofs.state.put_state.Goals as goal

pub returns : goal.returns
returns c = then c.in_ok-put.ensures (then c.in_ok-put_string.ensures (then c.in_ok-put-2.ensures (then (equally (ap decimal (c.greatest_view.ensures ∙ ap greatest_view c.as_slice.ensures.value)) c.in_ok-put_number.ensures) (then c.in_ok-put-3.ensures (then c.in_ok-put_machine.ensures (then c.in_ok-put-4.ensures (then (equally (ap replicas_json c.as_slice-2.ensures.value) c.in_ok-put_replicas.ensures) (then c.in_ok-put-5.ensures (then c.in_ok-put_scans.ensures (then c.in_ok-put-6.ensures (then c.in_ok-put_clients.ensures (then c.in_ok-put-7.ensures (then c.in_ok-put_process.ensures c.in_ok-put_lists.ensures)))))))))))))
