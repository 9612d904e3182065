use Rattle.std.proofs.Common.{◌≡◌}
use Rattle.std.specs.List.{flat_map}
use Rattle.std.proofs.lemmas.Result.{IfOk-weaker}
use Rattle.il_units.specs.Expansion.{Pieces, with_pieces, kept_pieces, head_pieces, end_pieces, block_pieces, entries_of}
use Rattle.il_units.proofs.Joined.{in_three}
use Rattle.il_units.proofs.expansion.Expansion.put_block.Goals as goal

pub returns : goal.returns
returns c =
    let es = entries_of c.args.unit.now in
    let retained = c.args.retained in
    let left = c.args.left in
    IfOk-weaker c.put_end.result (λ (e : Pieces). e ≡ with_pieces c.in_ok-out-2.out (end_pieces left)) (λ (e : Pieces). e ≡ with_pieces c.args.self (block_pieces retained left es))
    (λ e h. in_three c.args.self c.in_ok-out.out c.in_ok-out-2.out e (head_pieces retained left) (flat_map (kept_pieces retained) es) (end_pieces left) c.in_ok-out.ensures c.in_ok-out-2.ensures h)
    c.put_end.ensures
