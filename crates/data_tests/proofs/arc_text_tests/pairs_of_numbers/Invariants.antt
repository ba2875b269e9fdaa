use Rattle.data_tests.proofs.arc_text_tests.pairs_of_numbers.Given as goal

abbrev pub ghosts-play_order : goal.ghosts-play_order
ghosts-play_order g a = record { name = a.blank.name; parts = a.blank.parts }
