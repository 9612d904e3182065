use Rattle.std.proofs.Common.{refl}
use Rattle.il_lister.specs.Listing.{first_name, last_retained}
use Rattle.il_lister.proofs.Parts.{equally, stop, then}
use Rattle.il_lister.proofs.Sections.{whole}
use Rattle.il_lister.proofs.listing.write_listing.Goals as goal

pub returns-in_err-write_opening : goal.returns-in_err-write_opening
returns-in_err-write_opening g c =
    let Q = c.args.image.now in
    let vs = c.variables-variables.result.now in
    let xs = c.instances-instances.result.now in
    let b = c.first_retained-first.result in
    equally (whole Q vs xs Q.code b c.first_name.result.now (last_retained b vs) c.variables-variables.ensures c.instances-instances.ensures refl c.first_retained-first.ensures c.first_name.ensures refl)
    (stop _ c.from_residual.ensures.0 c.in_err-write_opening.ensures)

pub returns-in_err-write_variables : goal.returns-in_err-write_variables
returns-in_err-write_variables g c =
    let Q = c.args.image.now in
    let vs = c.variables-variables.result.now in
    let xs = c.instances-instances.result.now in
    let b = c.first_retained-first.result in
    equally (whole Q vs xs Q.code b c.first_name.result.now (last_retained b vs) c.variables-variables.ensures c.instances-instances.ensures refl c.first_retained-first.ensures c.first_name.ensures refl)
    (then c.in_ok-write_opening.ensures (stop _ c.from_residual-in_err-write_variables.ensures.0 c.in_err-write_variables.ensures))

pub returns-in_err-write_instances : goal.returns-in_err-write_instances
returns-in_err-write_instances g c =
    let Q = c.args.image.now in
    let vs = c.variables-variables.result.now in
    let xs = c.instances-instances.result.now in
    let b = c.first_retained-first.result in
    equally (whole Q vs xs Q.code b c.first_name.result.now c.last_retained.result c.variables-variables.ensures c.instances-instances.ensures refl c.first_retained-first.ensures c.first_name.ensures c.last_retained.ensures)
    (then c.in_ok-write_opening.ensures (then c.in_ok-write_variables.ensures (stop _ c.from_residual-in_err-write_instances.ensures.0 c.in_err-write_instances.ensures)))

pub returns-in_err-write_text : goal.returns-in_err-write_text
returns-in_err-write_text g c =
    let Q = c.args.image.now in
    let vs = c.variables-variables.result.now in
    let xs = c.instances-instances.result.now in
    let b = c.first_retained-first.result in
    equally (whole Q vs xs Q.code b c.first_name.result.now c.last_retained.result c.variables-variables.ensures c.instances-instances.ensures refl c.first_retained-first.ensures c.first_name.ensures c.last_retained.ensures)
    (then c.in_ok-write_opening.ensures (then c.in_ok-write_variables.ensures (then c.in_ok-write_instances.ensures (stop _ c.from_residual-in_err-write_text.ensures.0 c.in_err-write_text.ensures))))

pub returns : goal.returns
returns g c =
    let Q = c.args.image.now in
    let vs = c.variables-variables.result.now in
    let xs = c.instances-instances.result.now in
    let b = c.first_retained-first.result in
    equally (whole Q vs xs c.code.result.now b c.first_name.result.now c.last_retained.result c.variables-variables.ensures c.instances-instances.ensures c.code.ensures c.first_retained-first.ensures c.first_name.ensures c.last_retained.ensures)
    (then c.in_ok-write_opening.ensures (then c.in_ok-write_variables.ensures (then c.in_ok-write_instances.ensures (then c.in_ok-write_text.ensures c.write_lines.ensures))))
