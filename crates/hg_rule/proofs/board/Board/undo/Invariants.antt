use Rattle.hg_rule.proofs.board.Board.undo.Given as goal

abbrev pub ghosts-undo_as : goal.ghosts-undo_as
ghosts-undo_as a = record { rid = a._rid }
