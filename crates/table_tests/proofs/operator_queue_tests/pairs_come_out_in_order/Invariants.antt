use Rattle.table_tests.proofs.operator_queue_tests.pairs_come_out_in_order.Given as goal

abbrev pub ghosts-play_all : goal.ghosts-play_all
ghosts-play_all g a = record { name = a.blank.name; parts = a.blank.parts }
