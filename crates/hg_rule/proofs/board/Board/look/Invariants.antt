use Rattle.hg_rule.specs.Seats.{sizes_of}
use Rattle.hg_rule.proofs.board.Board.look.Given as goal

abbrev pub ghosts-look_as_asked : goal.ghosts-look_as_asked
ghosts-look_as_asked a = record { asked_at = sizes_of a.self.now; ask = a._ask.now }
