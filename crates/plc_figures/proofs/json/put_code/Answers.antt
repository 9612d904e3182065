use Rattle.std.proofs.Common.{ℕ, ◌/◌, [], ◌∷◌, ap, ◌∙◌}
use Rattle.plc_figures.specs.Texts.{hex_digit}
use Rattle.plc_figures.proofs.Chains.{equally, then}
use Rattle.plc_figures.proofs.json.put_code.Goals as goal

pub returns : goal.returns
returns c =
    let digits = ap (λ (d : ℕ). d ∷ c.hex_digit-2.result ∷ []) c.hex_digit.ensures ∙ ap (λ (d : ℕ). hex_digit (c.args.byte / 16) ∷ d ∷ []) c.hex_digit-2.ensures in
    then c.in_ok-put.ensures (equally digits c.in_ok-put-2.ensures)
