use Rattle.std.proofs.Common.{◌≡◌, rules, arith, Some}
use Rattle.il_model.specs.Program.{program_of}
use Rattle.il_loader.specs.Tables.{lines_of}
use Rattle.il_loader.proofs.Groups.{program_fits}
use Rattle.il_loader.proofs.loading.program_of.Goals as goal

pub returns-in-Some-clause-words : goal.returns-in-Some-clause-words
returns-in-Some-clause-words c =
    let is : program_of c.args.version c.args.variables c.args.instances (lines_of c.args.instances c.args.words.items) ≡ Some c.in-Some.program = search rules in
    omega (arith, program_fits c.args.version c.args.variables c.args.instances c.args.words.items c.in-Some.program is, c.args.words.small, c.args.words.ok)
