use Rattle.tests_parts.proofs.process_image_rows.a_reader_reads_4_after_the_publish_of_4.Given as goal

abbrev pub ghosts-in_one_thread : goal.ghosts-in_one_thread
ghosts-in_one_thread g a = record { book = a.list }
