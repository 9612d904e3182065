use Rattle.std.proofs.Common.{ap}
use Rattle.plc_figures.specs.Metrics.{build_metrics}
use Rattle.field_page.specs.Metrics.{device_metrics, rounds_metrics}
use Rattle.plc_figures.proofs.Chains.{equally, then}
use Rattle.field_page.proofs.metrics.put_metrics.Goals as goal

pub returns : goal.returns
returns c = then (equally (ap build_metrics c.as_slice.ensures.value) c.in_ok-put_build.ensures) (then c.in_ok-put_cycles.ensures (then c.in_ok-put_controller.ensures (then (equally (ap device_metrics c.as_slice-2.ensures.value) c.in_ok-put_devices.ensures) (equally (ap rounds_metrics c.as_slice-3.ensures.value) c.in_ok-put_rounds.ensures))))
