use Rattle.std.proofs.Common.{ℕ, List, ap, ◌∙◌}
use Rattle.std.specs.List.{enumerate_from, flat_map}
use Rattle.il_model.specs.declared.kind.Field.{Field}
use Rattle.plc_figures.specs.Texts.{string_json}
use Rattle.plc_figures.proofs.Chains.{equally, then}
use Rattle.plc_values.specs.Values.{field_json}
use Rattle.plc_values.proofs.listing.put_instance.Goals as goal

pub returns-clause-text : goal.returns-clause-text
returns-clause-text c =
    let fields = ap (λ (n : List ℕ). flat_map (field_json c.args.look.now c.args.number n) (enumerate_from 0 c.fields.result.now)) c.bytes-name.ensures ∙ ap (λ (fs : List Field). flat_map (field_json c.args.look.now c.args.number c.args.instance.now.name) (enumerate_from 0 fs)) c.fields.ensures.fields in
    then c.in_ok-put_comma.ensures (then c.in_ok-put.ensures (then (equally (ap string_json c.bytes-name.ensures) c.in_ok-put_string.ensures) (then c.in_ok-put-2.ensures (then (equally c.name.ensures c.in_ok-put-3.ensures) (then c.in_ok-put-4.ensures (then (equally fields c.in_ok-put_fields.ensures.text) c.in_ok-put-5.ensures))))))
