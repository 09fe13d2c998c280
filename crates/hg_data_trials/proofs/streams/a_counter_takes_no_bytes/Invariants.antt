use Rattle.hg_data_trials.proofs.streams.a_counter_takes_no_bytes.Given as goal

abbrev pub ghosts-count_twice : goal.ghosts-count_twice
ghosts-count_twice g a = record { name = a.blank.name; parts = a.blank.parts }
