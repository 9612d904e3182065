use Rattle.std.proofs.Common.{rules, arith, ◌≡◌, length, ap, sym, ◌∙◌}
use Rattle.il_model.proofs.Loop.{goes_at, read_line}
use Rattle.il_model.proofs.FaultyWords.{is_arrived, is_before, is_behind, that_fails, that_goes}
use Rattle.il_model.proofs.faulty.faulty_word.Goals as goal

pub returns-then-k-n : goal.returns-then-k-n
returns-then-k-n c =
    let here = read_line c.args.program.now c.code-code.result.now c.loop-k.k c.index-code-k.result c.code-code.ensures.code (search rules) c.index-code-k.is in
    c.faulty_in.ensures ∙ is_arrived c.args.program.now c.args.n c.loop-k.k c.loop-k.types c.index-code-k.result c.if-k-n.true c.loop-k.invariant.arrived here

pub returns-then-is_err : goal.returns-then-is_err
returns-then-is_err c =
    let here = read_line c.args.program.now c.code-code.result.now c.loop-k.k c.index-code-k-in-loop-k.result c.code-code.ensures.code (search rules) c.index-code-k-in-loop-k.is in
    let fault = that_fails c.pass.result _ (sym c.is_err.ensures.value ∙ c.if-is_err.true) c.pass.ensures.err in
    is_before c.args.program.now c.loop-k.k c.args.n c.loop-k.types c.index-code-k-in-loop-k.result fault.0 (omega arith) c.loop-k.invariant.arrived here fault.1

pub loop-k-preserved : goal.loop-k-preserved
loop-k-preserved c =
    let here = read_line c.args.program.now c.code-code.result.now c.loop-k.k c.index-code-k-in-loop-k.result c.code-code.ensures.code (search rules) c.index-code-k-in-loop-k.is in
    let goes = that_goes c.pass.result _ (sym c.is_err.ensures.value ∙ c.if-is_err.false) c.pass.ensures.ok in
    record {
      before = omega arith;
      arrived = goes_at c.args.program.now c.loop-k.k c.loop-k.types c.pass.new.self c.index-code-k-in-loop-k.result c.loop-k.invariant.arrived here goes;
    }

pub returns : goal.returns
returns c =
    let len : length c.code-code.result.now ≡ length c.args.program.now.code = ap length c.code-code.ensures.code in
    is_behind c.args.program.now c.args.n (omega arith)
