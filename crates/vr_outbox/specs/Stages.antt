-- How far what was put is flushed, behind each call.
use Rattle.vr_outbox.specs.declared.stage.Stage.{Stage}
use Rattle.vr_outbox.specs.declared.stage.Stage.TheVariants.{Flushed, Unflushed, Flushing, Behind}

-- one more was put: no flush under way covers that
abbrev pub behind_put : Stage → Stage
behind_put Flushed = Unflushed
behind_put Unflushed = Unflushed
behind_put Flushing = Behind
behind_put Behind = Behind

-- a flush begins where one is to be made, and none is under way
abbrev pub behind_begin : Stage → Stage
behind_begin Flushed = Flushed
behind_begin Unflushed = Flushing
behind_begin Flushing = Flushing
behind_begin Behind = Behind

-- the flush under way is over
abbrev pub behind_end : Stage → Stage
behind_end Flushed = Flushed
behind_end Unflushed = Unflushed
behind_end Flushing = Flushed
behind_end Behind = Unflushed
