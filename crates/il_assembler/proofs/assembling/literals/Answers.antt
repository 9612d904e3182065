use Rattle.std.proofs.Common.{ap, arith, ◌≡◌, length, rules}
use Rattle.il_model.specs.Settled.{settled_text}
use Rattle.il_model.proofs.Loop.{read_line}
use Rattle.il_model.proofs.SettledPrograms.{goes_settled, fails_settled}
use Rattle.il_assembler.proofs.Literals.{one_more, all_found, open_at_end, closed_at_end}
use Rattle.il_assembler.proofs.assembling.literals.Goals as goal

pub returns-in-Err : goal.returns-in-Err
returns-in-Err c =
    let here = read_line c.args.program.now c.code-code.result.now c.loop-n.n c.index-code-n.result c.code-code.ensures.code (search rules) c.index-code-n.is in
    fails_settled c.args.program.now c.loop-n.n c.loop-n.types c.index-code-n.result c.in-Err.fault (search rules) c.loop-n.invariant.types here c.in-Err.ensures.err

pub loop-n-preserved : goal.loop-n-preserved
loop-n-preserved c =
    let here = read_line c.args.program.now c.code-code.result.now c.loop-n.n c.index-code-n.result c.code-code.ensures.code (search rules) c.index-code-n.is in
    record {
      types = goes_settled c.args.program.now c.loop-n.n c.loop-n.types c.settle.new.self c.index-code-n.result c.loop-n.invariant.types here c.in-Ok.ensures.ok;
      literals = one_more c.args.program.now c.loop-n.n c.loop-n.types c.index-code-n.result c.loop-n.found.items c.push.new.self.items c.in-Ok.literal c.loop-n.invariant.types here c.loop-n.invariant.literals c.in-Ok.ensures.literal c.in_ok-push-in-Ok.ensures.items;
    }

pub returns-then-depth-gt0 : goal.returns-then-depth-gt0
returns-then-depth-gt0 c =
    open_at_end c.args.program.now c.loop-n.n (length c.code-code.result.now) c.loop-n.types (omega arith) (ap length c.code-code.ensures.code) c.loop-n.invariant.types (search rules)

pub returns : goal.returns
returns c =
    let len : length c.code-code.result.now ≡ length c.args.program.now.code = ap length c.code-code.ensures.code in (
      settled_text c.args.program.now,
      closed_at_end c.args.program.now c.loop-n.n (length c.code-code.result.now) c.loop-n.types (omega arith) len c.loop-n.invariant.types (search rules),
      all_found c.args.program.now c.loop-n.n (length c.code-code.result.now) c.loop-n.found.items (omega arith) len c.loop-n.invariant.literals,
    )
