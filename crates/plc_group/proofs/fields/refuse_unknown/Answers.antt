use Rattle.std.proofs.Common.{Some, sym, ap, ◌∙◌, List, ℕ}
use Rattle.toml.specs.View.{table_view}
use Rattle.plc_group.specs.Faults.{Unknown, is_unknown, keys_in}
use Rattle.plc_group.proofs.Firsts.{first_found, none_found}
use Rattle.plc_group.proofs.fields.refuse_unknown.Goals as goal

pub returns-in_ok-from_str-in-Some : goal.returns-in_ok-from_str-in-Some
returns-in_ok-from_str-in-Some c =
    first_found (Unknown c.args.machine) (is_unknown c.args.known.now) (keys_in (table_view c.args.table.now)) c.in-Some.key.now (sym c.in-Some.ensures)
    ∙ ap (λ (k : List ℕ). Some (Unknown c.args.machine k)) (sym c.in_ok-from_str-in-Some.ensures.ok)

pub returns-in-None : goal.returns-in-None
returns-in-None c = (none_found (Unknown c.args.machine) (is_unknown c.args.known.now) (keys_in (table_view c.args.table.now)) (sym c.in-None.ensures), tt)
