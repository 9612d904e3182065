use Rattle.std.proofs.Common.{[], refl}
use Rattle.vr_model.specs.declared.event.Event.TheVariants as event
use Rattle.vr_serving.specs.Serving.{TimedOut, Resent, Received}
use Rattle.vr_ports.specs.declared.link.Input.TheVariants as input
use Rattle.vr_serving.proofs.Runs.{Grows-none, one_run}
use Rattle.vr_serving.proofs.Showing.{shows_still, shows_one}
use Rattle.vr_serving.proofs.serving.turn.Goals as goal

pub returns-in-Timeout-clause-turned : goal.returns-in-Timeout-clause-turned
returns-in-Timeout-clause-turned g c = record {
  turn = TimedOut;
  kind = tt;
  did = record {
    sends = _;
    polled = rw c.act.ensures.ticks c.in-Timeout.ensures;
    received = rw c.act.ensures.inputs (Grows-none _);
    handed = c.act.ensures.did.2;
    ran = one_run _ _ _ _ _ event.Timeout _ _ c.act.ensures.did.0 c.act.ensures.did.1;
  };
}

pub returns-in-Resend-clause-turned : goal.returns-in-Resend-clause-turned
returns-in-Resend-clause-turned g c = record {
  turn = Resent;
  kind = tt;
  did = record {
    sends = _;
    polled = rw c.act-in-Resend.ensures.ticks c.in-Resend.ensures;
    received = rw c.act-in-Resend.ensures.inputs (Grows-none _);
    handed = c.act-in-Resend.ensures.did.2;
    ran = one_run _ _ _ _ _ event.Resend _ _ c.act-in-Resend.ensures.did.0 c.act-in-Resend.ensures.did.1;
  };
}

pub returns-in-Message-clause-turned : goal.returns-in-Message-clause-turned
returns-in-Message-clause-turned g c = record {
  turn = Received (input.Message c.in-Message.message);
  kind = tt;
  did = record {
    sends = _;
    polled = rw c.act-in-Message.ensures.ticks (rw c.heard.ensures c.in-None.ensures);
    received = rw c.act-in-Message.ensures.inputs c.in-Message.ensures.gave;
    handed = rw (← c.in-Message.ensures.same) c.act-in-Message.ensures.did.2;
    ran = one_run _ _ _ _ _ (event.Message c.in-Message.message) _ _ c.act-in-Message.ensures.did.0 c.act-in-Message.ensures.did.1;
  };
}

pub returns-in-Nothing-clause-turned : goal.returns-in-Nothing-clause-turned
returns-in-Nothing-clause-turned g c = record {
  turn = Received input.Nothing;
  kind = tt;
  did = record {
    sends = [];
    polled = c.in-None.ensures;
    received = c.in-Nothing.ensures.gave;
    handed = rw c.in-Nothing.ensures.same (Grows-none _);
    ran = (refl, refl, refl);
  };
}

pub returns-in-Timeout-clause-shown : goal.returns-in-Timeout-clause-shown
returns-in-Timeout-clause-shown g c = shows_one _ _ _ _ _ c.act.ensures.did.3

pub returns-in-Resend-clause-shown : goal.returns-in-Resend-clause-shown
returns-in-Resend-clause-shown g c = shows_one _ _ _ _ _ c.act-in-Resend.ensures.did.3

pub returns-in-Message-clause-shown : goal.returns-in-Message-clause-shown
returns-in-Message-clause-shown g c = shows_one _ _ _ _ _ c.act-in-Message.ensures.did.3

pub returns-in-Nothing-clause-shown : goal.returns-in-Nothing-clause-shown
returns-in-Nothing-clause-shown g c = shows_still _ _

pub returns-in-Closed-clause-shown : goal.returns-in-Closed-clause-shown
returns-in-Closed-clause-shown g c = shows_still _ _
