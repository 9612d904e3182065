use Rattle.std.proofs.Common.{◌≡◌, inl, inr, refl}
use Rattle.plc_json.specs.Commands.{HasNoCommands}
use Rattle.il_text.specs.declared.fault.Fault.{Fault}
use Rattle.il_text.specs.declared.fault.Fault.TheVariants as faults
use Rattle.il_text.specs.Meaning.{IsTextFault}
use Rattle.plc_tool.specs.Calls.{IsFaultOfRun}
use Rattle.plc_tool.proofs.Endings.{wider, told_at_1, refused, first_told, no_commands, only_memory, of_run, stops_first}
use Rattle.plc_tool.proofs.Inputs.{of_text}
use Rattle.plc_tool.proofs.calls.run.Goals as goal

pub returns-in-Ok-clause-told : goal.returns-in-Ok-clause-told
returns-in-Ok-clause-told g c =
    wider g.E.CountedWrite (IsTextFault c.args.source.now) _ _ _ (IsFaultOfRun c.args.source.now c.args.commands.now) (λ e told. inl told) c.run_commands.ensures.told

pub returns-in-Ok-clause-refused : goal.returns-in-Ok-clause-refused
returns-in-Ok-clause-refused g c = λ one. refused (IsFaultOfRun c.args.source.now c.args.commands.now) (told_at_1 g.E.CountedWrite _ _ _ _ (returns-in-Ok-clause-told g c) one)

pub returns-in-Err-clause-told : goal.returns-in-Err-clause-told
returns-in-Err-clause-told g c =
    let t = c.run_without_commands.ensures.told in
    inr (record {
      fault = t.0;
      answered = t.2;
      is = λ one. of_run c.args.source.now c.args.commands.now t.0
          (first_told c.args.source.now (λ (f : Fault). (f ≡ faults.Commands) × HasNoCommands c.args.commands.now) c.fault_of.result t.0 t.1
          (no_commands c.args.commands.now c.in-Err.fault c.fault_of.result c.fault_of.ensures c.in-Err.ensures.refused) one);
      line = t.3;
    })

pub returns-in-Err-clause-refused : goal.returns-in-Err-clause-refused
returns-in-Err-clause-refused g c = λ one. refused (IsFaultOfRun c.args.source.now c.args.commands.now) (told_at_1 g.E.CountedWrite _ _ _ _ (returns-in-Err-clause-told g c) one)

pub returns-in-Err-clause-cut : goal.returns-in-Err-clause-cut
returns-in-Err-clause-cut g c = λ two.
    let t = c.run_without_commands.ensures.told in
    stops_first g.E.CountedWrite _ _ c.args.source.now _ _ c.fault_of.result t.0 _ (only_memory c.in-Err.fault c.fault_of.result c.fault_of.ensures) (of_text c.args.source.now) t.1 t.2 t.3 (inr refl) two
