use Rattle.std.proofs.Common.{◌∙◌}
use Rattle.plc_figures.proofs.Chains.{equally}
use Rattle.plc_values.proofs.Entries.{entry_of}
use Rattle.plc_values.proofs.listing.put_field.Goals as goal

pub returns-clause-text : goal.returns-clause-text
returns-clause-text c = equally (entry_of c.args.look.now c.args.number (c.as_slice.ensures.value ∙ c.in_ok-name.ensures) c.shown_at-shown.ensures.shown c.slot_of_field.ensures) c.in_ok-put_entry.ensures
