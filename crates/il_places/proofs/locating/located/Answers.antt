use Rattle.il_places.proofs.locating.located.Goals as goal

pub returns-in-Err-clause-refused : goal.returns-in-Err-clause-refused
returns-in-Err-clause-refused c = c.refused.ensures c.args.asked
