use Rattle.std.proofs.Common.{◌≡◌}
use Rattle.plc_console.specs.declared.line.Wish.TheVariants as wishes
use Rattle.plc_console.proofs.Sessions.{refused, told_one}
use Rattle.plc_console.proofs.session.take_turn.Goals as goal

pub returns-in-Refuse-clause-took : goal.returns-in-Refuse-clause-took
returns-in-Refuse-clause-took g c =
    let is : c.args.wish ≡ wishes.Refuse = cc in
    refused c.refuse.result c.args.wish _ (g.D.Submits.answered c.args.desk.now) (g.W.CountedWrite.held c.args.writer.now) (g.W.CountedWrite.held c.refuse.new.writer) c.args.image.now is c.refuse.ensures.wrote

pub returns-in-Tell-clause-took : goal.returns-in-Tell-clause-took
returns-in-Tell-clause-took g c =
    let is : c.args.wish ≡ wishes.Tell c.in-Tell.question = cc in
    told_one c.tell.result c.args.wish c.in-Tell.question _ (g.D.Submits.answered c.args.desk.now) (g.D.Submits.answered c.tell.new.desk) (g.W.CountedWrite.held c.args.writer.now) (g.W.CountedWrite.held c.tell.new.writer) c.args.image.now is c.tell.ensures.same c.tell.ensures.told
