use Rattle.std.proofs.Common.{ℕ, List, string_bytes, ap, sym, ◌∙◌}
use Rattle.il_model.specs.Program.{Program}
use Rattle.ctl_model.specs.Slots.{slot_of}
use Rattle.plc_figures.proofs.Chains.{equally}
use Rattle.plc_values.proofs.Entries.{entry_by}
use Rattle.plc_values.specs.Values.{shown_of}
use Rattle.plc_values.proofs.listing.put_named.Goals as goal

pub returns-clause-text : goal.returns-clause-text
returns-clause-text c =
    let seen = c.shown_of-shown.ensures.shown ∙ ap (λ (n : List ℕ). shown_of c.args.look.now (slot_of c.args.image.now n)) c.as_str.ensures.value ∙ ap (λ (Q : Program). shown_of c.args.look.now (slot_of Q (string_bytes c.args.name.now))) (sym c.requires.program) in
    equally (entry_by c.args.number c.as_bytes.ensures.value seen) c.in_ok-put_entry.ensures
