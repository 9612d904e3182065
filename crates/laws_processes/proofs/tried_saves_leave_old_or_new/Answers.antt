use Rattle.laws_processes.proofs.Saves.{tried, made_last}
use Rattle.laws_processes.proofs.tried_saves_leave_old_or_new.Goals as goal

pub returns-clause-tried : goal.returns-clause-tried
returns-clause-tried g = λ before behind tries view made k saves held new. tried view k tries before behind made saves held new

pub returns-clause-made : goal.returns-clause-made
returns-clause-made g = λ before behind tries view k saves held. made_last view k tries before behind saves held
