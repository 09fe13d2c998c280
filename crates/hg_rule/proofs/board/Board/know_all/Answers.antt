use Rattle.std.proofs.Common.{subst}
use Rattle.hg_rule.specs.Rules.{IsBacked}
use Rattle.hg_rule.specs.Seats.{sizes_of, view}
use Rattle.hg_rule.proofs.Found.{owned}
use Rattle.hg_rule.proofs.board.Board.know_all.Goals as goal

pub returns-clause-steady : goal.returns-clause-steady
returns-clause-steady g c =
    let v = view (g.P.Pass.seat_of c.args.pass.now) in
    let b : IsBacked (sizes_of c.args.self.now) c.look_at.result v = subst (IsBacked (sizes_of c.args.self.now) c.look_at.result) c.look_at.ensures.stays c.look_at.ensures.backed in
    (owned (sizes_of c.args.self.now) c.look_at.result v b c.requires.all c.requires.rest).0

pub returns-clause-mark : goal.returns-clause-mark
returns-clause-mark g c =
    let v = view (g.P.Pass.seat_of c.args.pass.now) in
    let b : IsBacked (sizes_of c.args.self.now) c.look_at.result v = subst (IsBacked (sizes_of c.args.self.now) c.look_at.result) c.look_at.ensures.stays c.look_at.ensures.backed in
    (owned (sizes_of c.args.self.now) c.look_at.result v b c.requires.all c.requires.rest).1.0

pub returns-clause-run : goal.returns-clause-run
returns-clause-run g c =
    let v = view (g.P.Pass.seat_of c.args.pass.now) in
    let b : IsBacked (sizes_of c.args.self.now) c.look_at.result v = subst (IsBacked (sizes_of c.args.self.now) c.look_at.result) c.look_at.ensures.stays c.look_at.ensures.backed in
    (owned (sizes_of c.args.self.now) c.look_at.result v b c.requires.all c.requires.rest).1.1
