use Rattle.std.proofs.Common.{◌≡◌, inr, refl, arith}
use Rattle.plc_json.specs.Events.{HasSchedule, HasNoSchedule}
use Rattle.il_text.specs.declared.fault.Fault.{Fault}
use Rattle.il_text.specs.declared.fault.Fault.TheVariants as faults
use Rattle.plc_tool.specs.Simulated.{IsToldOf, IsFaultOfSchedule}
use Rattle.plc_tool.proofs.Endings.{wider, told_at_1, refused, first_told, of_events, no_schedule, no_memory, stops_first}
use Rattle.plc_tool.proofs.Inputs.{of_text}
use Rattle.plc_tool.proofs.calls.sim.Goals as goal

pub returns-in-Ok-clause-told : goal.returns-in-Ok-clause-told
returns-in-Ok-clause-told g c =
    let has : HasSchedule c.args.schedule.now c.as_slice.result.now = rw c.as_slice.ensures.value c.in-Ok.ensures.found in
    wider g.E.CountedWrite (IsToldOf c.args.source.now c.args.group.now.config.f c.args.group.now.budget.instructions c.as_slice.result.now) _ _ _
    (IsFaultOfSchedule c.args.source.now c.args.group.now.config.f c.args.group.now.budget.instructions c.args.schedule.now)
    (of_events c.args.source.now c.args.group.now.config.f c.args.group.now.budget.instructions c.args.schedule.now c.as_slice.result.now has) c.sim_events.ensures.told

pub returns-in-Ok-clause-refused : goal.returns-in-Ok-clause-refused
returns-in-Ok-clause-refused g c = λ one.
    refused (IsFaultOfSchedule c.args.source.now c.args.group.now.config.f c.args.group.now.budget.instructions c.args.schedule.now)
    (told_at_1 g.E.CountedWrite _ _ _ _ (returns-in-Ok-clause-told g c) one)

pub returns-in-Err-Shape-clause-told : goal.returns-in-Err-Shape-clause-told
returns-in-Err-Shape-clause-told g c =
    let t = c.sim_without_schedule.ensures.told in
    inr (record {
      fault = t.0;
      answered = t.2;
      is = λ one. no_schedule c.args.source.now c.args.group.now.config.f c.args.group.now.budget.instructions c.args.schedule.now t.0
          (first_told c.args.source.now (λ (f : Fault). (f ≡ faults.Schedule) × HasNoSchedule c.args.schedule.now) faults.Schedule t.0 t.1 (λ s. (refl, c.in-Err-Shape.ensures.refused c.in-Err-Shape.field-0-is)) one);
      line = t.3;
    })

pub returns-in-Err-Shape-clause-refused : goal.returns-in-Err-Shape-clause-refused
returns-in-Err-Shape-clause-refused g c = λ one.
    refused (IsFaultOfSchedule c.args.source.now c.args.group.now.config.f c.args.group.now.budget.instructions c.args.schedule.now)
    (told_at_1 g.E.CountedWrite _ _ _ _ (returns-in-Err-Shape-clause-told g c) one)

pub returns-in-Err-Memory-clause-told : goal.returns-in-Err-Memory-clause-told
returns-in-Err-Memory-clause-told g c =
    let t = c.sim_without_schedule-in-Err-Memory.ensures.told in
    inr (record {
      fault = t.0;
      answered = t.2;
      is = no_memory c.args.source.now c.args.group.now.config.f c.args.group.now.budget.instructions c.args.schedule.now t.0 t.1;
      line = t.3;
    })

pub returns-in-Err-Memory-clause-refused : goal.returns-in-Err-Memory-clause-refused
returns-in-Err-Memory-clause-refused g c = λ one.
    refused (IsFaultOfSchedule c.args.source.now c.args.group.now.config.f c.args.group.now.budget.instructions c.args.schedule.now)
    (told_at_1 g.E.CountedWrite _ _ _ _ (returns-in-Err-Memory-clause-told g c) one)

pub returns-in-Err-Shape-clause-cut : goal.returns-in-Err-Shape-clause-cut
returns-in-Err-Shape-clause-cut g c = λ two.
    let t = c.sim_without_schedule.ensures.told in
    stops_first g.E.CountedWrite _ _ c.args.source.now _ _ faults.Schedule t.0 _ (λ s. absurd (omega (arith, s))) (of_text c.args.source.now) t.1 t.2 t.3 (inr refl) two

pub returns-in-Err-Memory-clause-cut : goal.returns-in-Err-Memory-clause-cut
returns-in-Err-Memory-clause-cut g c = λ two.
    let t = c.sim_without_schedule-in-Err-Memory.ensures.told in
    stops_first g.E.CountedWrite _ _ c.args.source.now _ _ faults.Memory t.0 _ (λ s. refl) (of_text c.args.source.now) t.1 t.2 t.3 (inr refl) two
