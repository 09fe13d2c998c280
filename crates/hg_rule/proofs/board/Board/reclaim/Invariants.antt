use Rattle.hg_rule.proofs.board.Board.reclaim.Given as goal

abbrev pub ghosts-reclaim_as : goal.ghosts-reclaim_as
ghosts-reclaim_as a = record { removed_rid = a._rid; kind = a._kind }
