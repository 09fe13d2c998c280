use Rattle.hg_rule.specs.Seats.{sizes_of}
use Rattle.hg_rule.proofs.board.Board.look_at.Given as goal

abbrev pub ghosts-look_as : goal.ghosts-look_as
ghosts-look_as g a = record { sizes = sizes_of a.self.now }
