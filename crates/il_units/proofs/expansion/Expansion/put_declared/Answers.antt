use Rattle.std.proofs.Common.{◌≡◌, ap, ◌∙◌}
use Rattle.std.specs.List.{flat_map}
use Rattle.std.proofs.lemmas.Result.{IfOk-weaker}
use Rattle.il_units.specs.Expansion.{Pieces, with_pieces, kept_pieces, entries_of}
use Rattle.il_units.proofs.Joined.{in_three, three_mapped}
use Rattle.il_units.proofs.expansion.Expansion.put_declared.Goals as goal

pub returns : goal.returns
returns c =
    let unit = c.args.unit.now in
    let kept = kept_pieces c.args.retained in
    IfOk-weaker c.put_entries-3.result (λ (e : Pieces). e ≡ with_pieces c.in_ok-out-2.out (flat_map kept c.declared.result.now)) (λ (e : Pieces). e ≡ with_pieces c.args.self (flat_map kept (entries_of unit)))
    (λ e h. in_three c.args.self c.in_ok-out.out c.in_ok-out-2.out e (flat_map kept unit.shared) (flat_map kept unit.bound) (flat_map kept unit.declared) (rw c.shared.ensures at c.in_ok-out.ensures) (rw c.bound.ensures at c.in_ok-out-2.ensures) (rw c.declared.ensures at h)
    ∙ ap (with_pieces c.args.self) (three_mapped kept unit.shared unit.bound unit.declared))
    c.put_entries-3.ensures
