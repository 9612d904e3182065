use Rattle.std.proofs.Common.{◌≡◌, [], ◌∷◌, codes}
use Rattle.std.proofs.lemmas.Result.{IfOk-weaker}
use Rattle.il_units.specs.Expansion.{Pieces, with_pieces, said_piece, line_end, qualifier_pieces, head_pieces}
use Rattle.il_units.proofs.Joined.{in_three}
use Rattle.il_units.proofs.expansion.Expansion.put_head.Goals as goal

pub returns : goal.returns
returns c =
    let left = c.args.left in
    IfOk-weaker c.end_line.result (λ (e : Pieces). e ≡ with_pieces c.in_ok-out-2.out (line_end left ∷ [])) (λ (e : Pieces). e ≡ with_pieces c.args.self (head_pieces c.args.retained left))
    (λ e h. in_three c.args.self c.in_ok-out.out c.in_ok-out-2.out e (said_piece (codes "VAR_GLOBAL") left ∷ []) (qualifier_pieces c.args.retained left) (line_end left ∷ []) c.in_ok-out.ensures c.in_ok-out-2.ensures h)
    c.end_line.ensures
