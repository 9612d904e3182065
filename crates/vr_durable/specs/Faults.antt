-- Why an event wasn't taken up, by what failed.
use Rattle.vr_kept.specs.declared.fault.KeepFault.{KeepFault}
use Rattle.vr_kept.specs.declared.fault.KeepFault.TheVariants as keep
use Rattle.vr_replica.specs.declared.fault.StepFault.{StepFault}
use Rattle.vr_replica.specs.declared.fault.StepFault.TheVariants as step
use Rattle.vr_durable.specs.declared.fault.TakeFault.{TakeFault}
use Rattle.vr_durable.specs.declared.fault.TakeFault.TheVariants.{NotKept, Memory, Down}

abbrev pub of_keep : KeepFault → TakeFault
of_keep keep.NotKept = NotKept
of_keep keep.Memory = Memory

abbrev pub of_step : StepFault → TakeFault
of_step step.Memory = Memory
of_step step.Store = Down
of_step step.Down = Down
