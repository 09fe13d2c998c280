use Rattle.hg_rule.proofs.board.Board.stamp.Given as goal

abbrev pub ghosts-stamp_as : goal.ghosts-stamp_as
ghosts-stamp_as a = record { stamped_session = a._session; stamped_rid = a._rid }
