use Rattle.hg_collectors.proofs.collectors.sweep_round.Given as goal

abbrev pub ghosts-sweep_intervals : goal.ghosts-sweep_intervals
ghosts-sweep_intervals g a = record { name = a.blank.name; parts = a.blank.parts }
