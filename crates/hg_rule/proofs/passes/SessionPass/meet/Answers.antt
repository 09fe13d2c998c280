use Rattle.hg_rule.specs.Seats.{sizes_of, session_view}
use Rattle.hg_rule.specs.Moves.{joined}
use Rattle.hg_rule.proofs.Agreements.{met}
use Rattle.hg_rule.proofs.passes.SessionPass.meet.Goals as goal

pub returns-clause-backed : goal.returns-clause-backed
returns-clause-backed c = met (sizes_of c.args.board.now) c.meet.result (joined (session_view c.args.self.now) (session_view c.args.other.now)) c.meet.ensures.backed
