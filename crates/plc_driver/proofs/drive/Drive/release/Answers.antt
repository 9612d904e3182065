use Rattle.std.proofs.Common.{rules, arith}
use Rattle.std.proofs.lemmas.Grind.{common_steps}
use Rattle.plc_driver.proofs.Noted.{both, none}
use Rattle.plc_driver.proofs.drive.Drive.release.Goals as goal

pub returns-then-scanned-clause-noted : goal.returns-then-scanned-clause-noted
returns-then-scanned-clause-noted g c =
    let rested = both c.args.self.now.journal c.loop.self.journal c.rest.new.self.journal c.loop.invariant.noted c.rest.ensures.noted in
    let asked = both c.args.self.now.journal c.rest.new.self.journal c.submit.new.self.journal rested (none c.rest.new.self.journal c.submit.new.self.journal c.submit.ensures.same.1) in
    let scanned = both c.args.self.now.journal c.submit.new.self.journal c.await_reply.new.self.journal asked c.await_reply.ensures.noted in
    let halted = both c.args.self.now.journal c.await_reply.new.self.journal c.note_halt.new.self.journal scanned c.note_halt.ensures.changes in
    both c.args.self.now.journal c.note_halt.new.self.journal c.show_scan.new.self.journal halted (none c.note_halt.new.self.journal c.show_scan.new.self.journal c.show_scan.ensures.same.1)

pub loop-preserved : goal.loop-preserved
loop-preserved g c =
    let rested = both c.args.self.now.journal c.loop.self.journal c.rest.new.self.journal c.loop.invariant.noted c.rest.ensures.noted in
    let asked = both c.args.self.now.journal c.rest.new.self.journal c.submit.new.self.journal rested (none c.rest.new.self.journal c.submit.new.self.journal c.submit.ensures.same.1) in
    let scanned = both c.args.self.now.journal c.submit.new.self.journal c.await_reply.new.self.journal asked c.await_reply.ensures.noted in
    let halted = both c.args.self.now.journal c.await_reply.new.self.journal c.note_halt.new.self.journal scanned c.note_halt.ensures.changes in record {
      can_next = tt;
      finite = tt;
      counted = first_of (search rules, grind (arith, common_steps));
      noted = both c.args.self.now.journal c.note_halt.new.self.journal c.show_scan.new.self.journal halted (none c.note_halt.new.self.journal c.show_scan.new.self.journal c.show_scan.ensures.same.1);
    }

pub returns-in_err-scanned-clause-noted : goal.returns-in_err-scanned-clause-noted
returns-in_err-scanned-clause-noted g c =
    let rested = both c.args.self.now.journal c.loop.self.journal c.rest.new.self.journal c.loop.invariant.noted c.rest.ensures.noted in
    let asked = both c.args.self.now.journal c.rest.new.self.journal c.submit.new.self.journal rested (none c.rest.new.self.journal c.submit.new.self.journal c.submit.ensures.same.1) in
    both c.args.self.now.journal c.submit.new.self.journal c.await_reply.new.self.journal asked c.await_reply.ensures.noted
