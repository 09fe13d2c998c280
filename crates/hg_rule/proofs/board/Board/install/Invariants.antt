use Rattle.hg_rule.proofs.board.Board.install.Given as goal

abbrev pub ghosts-install_as : goal.ghosts-install_as
ghosts-install_as a = record { written_rid = a._rid; image = a._image.value }
