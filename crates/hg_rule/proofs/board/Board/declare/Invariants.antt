use Rattle.hg_rule.proofs.board.Board.declare.Given as goal

abbrev pub ghosts-declare_as : goal.ghosts-declare_as
ghosts-declare_as a = record { scope = a.scope }
