use Rattle.plc.proofs.main.Given as goal

abbrev pub ghosts-serve : goal.ghosts-serve
ghosts-serve g a = record { book = a.list }

abbrev pub ghosts-serve-2 : goal.ghosts-serve-2
ghosts-serve-2 g a = record { book = a.list }
