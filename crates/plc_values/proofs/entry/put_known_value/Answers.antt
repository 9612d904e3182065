use Rattle.std.proofs.Common.{ap, ◌∙◌}
use Rattle.il_lister.specs.Listing.{type_name}
use Rattle.plc_figures.proofs.Chains.{equally, then}
use Rattle.plc_values.proofs.entry.put_known_value.Goals as goal

pub returns : goal.returns
returns c = then c.in_ok-put.ensures (then (equally (c.type_name.ensures ∙ ap type_name c.ty.ensures) c.in_ok-put-2.ensures) (then c.in_ok-put-3.ensures c.in_ok-put_value_json.ensures))
