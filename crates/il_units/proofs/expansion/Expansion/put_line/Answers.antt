use Rattle.std.proofs.Common.{◌≡◌, [], ◌∷◌, map}
use Rattle.std.proofs.lemmas.Result.{IfOk-weaker}
use Rattle.il_units.specs.Expansion.{Pieces, with_pieces, piece_of, line_end, label_pieces, line_pieces}
use Rattle.il_units.proofs.Joined.{in_three}
use Rattle.il_units.proofs.expansion.Expansion.put_line.Goals as goal

pub returns : goal.returns
returns c =
    let line = c.args.line.now in
    IfOk-weaker c.end_line.result (λ (e : Pieces). e ≡ with_pieces c.in_ok-out-2.out (line_end line.left ∷ [])) (λ (e : Pieces). e ≡ with_pieces c.args.self (line_pieces line))
    (λ e h. in_three c.args.self c.in_ok-out.out c.in_ok-out-2.out e (label_pieces line.label) (map piece_of line.words) (line_end line.left ∷ []) c.in_ok-out.ensures (rw c.as_slice.ensures at c.in_ok-out-2.ensures) h)
    c.end_line.ensures
