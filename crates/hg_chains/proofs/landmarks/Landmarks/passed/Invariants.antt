use Rattle.hg_chains.proofs.landmarks.Landmarks.passed.Given as goal

abbrev pub ghosts-passed_by : goal.ghosts-passed_by
ghosts-passed_by a = record { name = a.blank.name; parts = a.blank.parts }
