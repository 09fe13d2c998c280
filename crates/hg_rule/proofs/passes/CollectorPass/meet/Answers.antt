use Rattle.hg_rule.specs.Seats.{sizes_of, session_view, pass_view}
use Rattle.hg_rule.specs.Moves.{joined}
use Rattle.hg_rule.proofs.Agreements.{met, met_session}
use Rattle.hg_rule.proofs.passes.CollectorPass.meet.Goals as goal

pub returns-clause-backed : goal.returns-clause-backed
returns-clause-backed c = met (sizes_of c.args.board.now) c.meet.result (joined (pass_view c.args.self.now) (session_view c.args.other.now)) c.meet.ensures.backed

pub returns-clause-agrees : goal.returns-clause-agrees
returns-clause-agrees c = met_session (sizes_of c.args.board.now) (pass_view c.args.self.now) (session_view c.args.other.now) (returns-clause-backed c) c.requires.only
