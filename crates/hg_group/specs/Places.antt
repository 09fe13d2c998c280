-- What a committer's seat has.
use Rattle.hg_rule.specs.declared.passes.CommitSeat.{CommitSeat}
use Rattle.hg_rule.specs.declared.view.CommitPart.{CommitPart}
use Rattle.hg_rule.specs.Views.{commit_there, first_in}
use Rattle.hg_rule.specs.Seats.{BoardId, commit_seat, commit_view}

-- the board of the committer's seat
abbrev pub seat_board_id : CommitSeat → BoardId
seat_board_id s = (commit_seat s).table_id

-- the committer's part, in its seat
abbrev pub part_in : CommitSeat → CommitPart
part_in s = commit_there (first_in (commit_view s).parts)
