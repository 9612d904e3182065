use Rattle.std.proofs.Common.{arith, ap, length}
use Rattle.vr_schedules.proofs.Lists.{found}
use Rattle.vr_schedules.proofs.Delivered.{not_sent, delivered_to_replica, delivered_to_none, delivered_to_client, not_for_client}
use Rattle.vr_schedules.proofs.world.World.deliver.Goals as goal

pub returns-then-replica-len : goal.returns-then-replica-len
returns-then-replica-len g c =
    delivered_to_none g.M.Member.IsSavedAs g.M.Member.StandsFor c.args.self.now c.args.message c.in-Some.sent.now
    (found c.deref.result.now c.args.self.now.trace.sent.items c.args.message c.in-Some.sent.now c.deref.ensures.value c.in-Some.ensures.lookup.3.0 c.in-Some.ensures.lookup.1)
    c.in-Replica.number (omega (arith, c.len.ensures, c.args.self.now.nodes.ok.0)) c.in-Replica.is

pub returns-in_ok-copy-in-Replica : goal.returns-in_ok-copy-in-Replica
returns-in_ok-copy-in-Replica g c =
    delivered_to_replica g.M.Member.IsSavedAs g.M.Member.StandsFor c.args.self.now c.args.message c.in-Some.sent.now
    (found c.deref.result.now c.args.self.now.trace.sent.items c.args.message c.in-Some.sent.now c.deref.ensures.value c.in-Some.ensures.lookup.3.0 c.in-Some.ensures.lookup.1)
    c.act.new.self c.from-replica.result c.in-Replica.number c.in_ok-copy-in-Replica.copy c.act.result
    c.from-replica.ensures (omega (arith, c.len.ensures, c.args.self.now.nodes.ok.0)) c.in-Replica.is c.in_ok-copy-in-Replica.ensures c.act.ensures

pub returns-in-Reply : goal.returns-in-Reply
returns-in-Reply g c =
    delivered_to_client g.M.Member.IsSavedAs g.M.Member.StandsFor c.args.self.now c.args.message c.in-Some.sent.now
    (found c.deref.result.now c.args.self.now.trace.sent.items c.args.message c.in-Some.sent.now c.deref.ensures.value c.in-Some.ensures.lookup.3.0 c.in-Some.ensures.lookup.1)
    c.reply.new.self c.in-Client.client c.in-Reply.view c.in-Reply.number c.in-Reply.answer c.reply.result
    c.in-Client.is c.in-Reply.is c.reply.ensures

pub returns-in_default-body : goal.returns-in_default-body
returns-in_default-body g c =
    not_for_client g.M.Member.IsSavedAs g.M.Member.StandsFor c.args.self.now c.args.message c.in-Some.sent.now
    (found c.deref.result.now c.args.self.now.trace.sent.items c.args.message c.in-Some.sent.now c.deref.ensures.value c.in-Some.ensures.lookup.3.0 c.in-Some.ensures.lookup.1)
    c.in-Client.client c.in-Client.is c.in_default-body.not-Reply

pub returns-in_default : goal.returns-in_default
returns-in_default g c = not_sent g.M.Member.IsSavedAs g.M.Member.StandsFor c.args.self.now c.args.message (omega (arith, ap length c.deref.ensures.value, c.in_default.ensures.lookup))
