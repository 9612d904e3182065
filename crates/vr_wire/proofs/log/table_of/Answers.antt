use Rattle.std.proofs.Common.{sym, ◌∙◌}
use Rattle.vr_wire.specs.MessageReading.{table_of}
use Rattle.vr_wire.proofs.Tables.{table_goes_on, table_done, table_more}
use Rattle.vr_wire.proofs.log.table_of.Goals as goal

pub loop-client-preserved : goal.loop-client-preserved
loop-client-preserved c =
    rw c.in_ok-push.ensures.items (table_goes_on c.loop-client.table.items c.loop-client.client c.loop-client.rest.now c.next_of-executed.result.0 c.next_of-executed.result.1.now (table_of c.args.answers.now) c.loop-client-test.true c.next_of-executed.ensures c.loop-client.invariant)

pub returns-then-not-is_empty : goal.returns-then-not-is_empty
returns-then-not-is_empty c = table_more c.loop-client.table.items c.loop-client.client c.loop-client.rest.now (table_of c.args.answers.now) c.loop-client-test.false (sym c.is_empty.ensures ∙ c.if-not-is_empty.true) c.loop-client.invariant

pub returns : goal.returns
returns c = table_done c.loop-client.table.items c.loop-client.client c.loop-client.rest.now (table_of c.args.answers.now) c.loop-client-test.false (sym c.is_empty.ensures ∙ c.if-not-is_empty.false) c.loop-client.invariant
