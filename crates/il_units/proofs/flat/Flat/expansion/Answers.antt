use Rattle.std.proofs.Common.{◌≡◌, [], true, false}
use Rattle.std.specs.List.{flat_map}
use Rattle.std.proofs.lemmas.Result.{IfOk-weaker}
use Rattle.il_units.specs.Expansion.{Pieces, with_pieces, block_pieces, line_pieces, first_left, entries_of, expansion_of}
use Rattle.il_units.proofs.Joined.{in_three}
use Rattle.il_units.proofs.flat.Flat.expansion.Goals as goal

abbrev nothing : Pieces
nothing = record { text = []; origins = [] }

pub returns : goal.returns
returns c =
    let u = c.args.self.now in
    let left = first_left u.members in
    IfOk-weaker c.put_lines.result (λ (e : Pieces). e ≡ with_pieces c.in_ok-out-2.out (flat_map line_pieces c.lines.result.now)) (λ (e : Pieces). e ≡ expansion_of u)
    (λ e h. in_three nothing c.in_ok-out.out c.in_ok-out-2.out e (block_pieces false left (entries_of u)) (block_pieces true left (entries_of u)) (flat_map line_pieces u.lines)
    (rw (c.new-out.ensures, c.first_left-left.ensures) at c.in_ok-out.ensures) (rw c.first_left-left.ensures at c.in_ok-out-2.ensures) (rw c.lines.ensures at h))
    c.put_lines.ensures
