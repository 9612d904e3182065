use Rattle.vr_model.specs.World.{down}
use Rattle.vr_replica.proofs.Acting.{stands_down}
use Rattle.vr_replica.proofs.state.Replica.crash.Goals as goal

pub returns : goal.returns
returns c = λ m r st. stands_down (record { core = c.crash.new.self }) m (down r) (c.crash.ensures.crashes m r st.member)
