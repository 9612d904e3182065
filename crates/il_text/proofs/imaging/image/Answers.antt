use Rattle.il_text.proofs.Programs.{image_told}
use Rattle.il_text.proofs.imaging.image.Goals as goal

pub returns-clause-refused : goal.returns-clause-refused
returns-clause-refused c = image_told c.args.text.now c.in_ok-program.program c.image_of.result c.in_ok-program.ensures.found c.in_ok-program.ensures.typed c.image_of.ensures.refused
