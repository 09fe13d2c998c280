use Rattle.std.proofs.Common.{rules}
use Rattle.hg_rule.specs.Seats.{board_id}
use Rattle.hg_trials.proofs.batch_tests.opened.Goals as goal

pub returns-clause-engine : goal.returns-clause-engine
returns-clause-engine g c = (
  (c.in-Ok-new.store-1-ensures.0 (board_id c.in-Ok.board) c.in-Ok.board-1-ensures.1.1.0.1, search rules, search rules),
  (c.in-Ok-new-2.groups-1-ensures.0 (board_id c.in-Ok.board) c.in-Ok.board-1-ensures.1.1.1.0, search rules),
)
