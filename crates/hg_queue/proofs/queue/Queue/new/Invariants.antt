use Rattle.hg_rule.specs.Seats.{commit_seat}
use Rattle.hg_queue.proofs.queue.Queue.new.Given as goal

abbrev pub ghosts-new_as : goal.ghosts-new_as
ghosts-new_as a = record { board = (commit_seat a._seat.now).table_id }
