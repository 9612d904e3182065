use Rattle.std.proofs.Common.{arith, sym, ◌∙◌}
use Rattle.il_reader.proofs.Tokens.{skips, gives}
use Rattle.il_reader.proofs.lexeme.next.Goals as goal

pub loop-rest-preserved : goal.loop-rest-preserved
loop-rest-preserved c =
    let p = c.piece_at-piece.ensures in
    record {
      same = skips c.args.dialect c.loop-rest.rest.now c.split_at.result.1.now c.piece_at-piece.result p.value p.moves c.in-None.is c.split_at.ensures.back ∙ c.loop-rest.invariant.same;
      shrinks = omega (arith, c.split_at.ensures.back_len, c.loop-rest.invariant.shrinks);
    }

pub returns-in-Some-clause-value : goal.returns-in-Some-clause-value
returns-in-Some-clause-value c =
    let p = c.piece_at-piece.ensures in
    sym c.loop-rest.invariant.same ∙ gives c.args.dialect c.loop-rest.rest.now c.split_at.result.0.now c.split_at.result.1.now c.piece_at-piece.result c.in-Some.class p.value p.moves c.in-Some.is c.split_at.ensures.front c.split_at.ensures.back
