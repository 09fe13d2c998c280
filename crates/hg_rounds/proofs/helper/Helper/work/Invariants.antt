use Rattle.hg_rounds.proofs.helper.Helper.work.Given as goal

abbrev pub ghosts-sweep_as : goal.ghosts-sweep_as
ghosts-sweep_as g a = record { name = a.blank.name; parts = a.blank.parts }
