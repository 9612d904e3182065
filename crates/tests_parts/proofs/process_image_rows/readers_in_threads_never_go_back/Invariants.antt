use Rattle.tests_parts.proofs.process_image_rows.readers_in_threads_never_go_back.Given as goal

abbrev pub ghosts-in_readers_threads : goal.ghosts-in_readers_threads
ghosts-in_readers_threads g a = record { book = a.list }
