use Rattle.hg_data_trials.proofs.both.sweep_deletion.Given as goal

abbrev pub ghosts-sweep_both : goal.ghosts-sweep_both
ghosts-sweep_both a = record { name = a.blank.name; parts = a.blank.parts }
