use Rattle.std.proofs.Common.{refl, inl}
use Rattle.ctl_debugger.specs.declared.snap_error.SnapError.TheVariants.{BadShape}
use Rattle.vr_core.proofs.Restoring.{begun_none, not_begun}
use Rattle.vr_core.proofs.state.Core.begun_already.Goals as goal

pub returns-in-Ok-true-clause-begun : goal.returns-in-Ok-true-clause-begun
returns-in-Ok-true-clause-begun c = begun_none c.args.self.now c.args.checkpoint.now c.requires

pub returns-in-Ok-false-clause-begun : goal.returns-in-Ok-false-clause-begun
returns-in-Ok-false-clause-begun c = not_begun c.args.self.now c.args.checkpoint.now BadShape (c.in-Ok-false.ensures.stands c.in-Ok-false.field-0-test)

pub returns-in-Err-clause-begun : goal.returns-in-Err-clause-begun
returns-in-Err-clause-begun c = λ entries. inl refl

pub returns-in-Ok-true-clause-spoilt : goal.returns-in-Ok-true-clause-spoilt
returns-in-Ok-true-clause-spoilt c = c.in-Ok-true.ensures.spoilt c.in-Ok-true.field-0-test
