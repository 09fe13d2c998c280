use Rattle.hg_rule.specs.Seats.{sizes_of, pass_view}
use Rattle.hg_rule.proofs.Agreements.{met}
use Rattle.hg_rule.proofs.passes.CollectorPass.join.Goals as goal

pub returns-clause-backed : goal.returns-clause-backed
returns-clause-backed c = met (sizes_of c.args.board.now) c.take_in.result (pass_view c.take_in.new.pass) c.take_in.ensures.backed
