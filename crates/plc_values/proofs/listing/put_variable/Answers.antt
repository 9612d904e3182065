use Rattle.plc_figures.proofs.Chains.{equally}
use Rattle.plc_values.proofs.Entries.{entry_of}
use Rattle.plc_values.proofs.listing.put_variable.Goals as goal

pub returns-clause-text : goal.returns-clause-text
returns-clause-text c = equally (entry_of c.args.look.now c.args.number c.bytes.ensures c.shown_at-shown.ensures.shown c.slot_of_variable.ensures) c.in_ok-put_entry.ensures
