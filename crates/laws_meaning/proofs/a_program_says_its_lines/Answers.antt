use Rattle.laws_meaning.proofs.Units.{says_its_instructions}
use Rattle.laws_meaning.proofs.a_program_says_its_lines.Goals as goal

pub returns : goal.returns
returns c = says_its_instructions
