use Rattle.std.proofs.Common.{rules}
use Rattle.hg_rule.specs.Seats.{view, pass_view}
use Rattle.hg_rule.proofs.Unions.{may_rejoin, may_unite, rejoining, united_pass}
use Rattle.hg_rule.proofs.passes.CollectorPass.unite.Goals as goal

pub join_seat-requires : goal.join_seat-requires
join_seat-requires c = (search rules, search rules, search rules, search rules, may_rejoin _ _ _ _ _)

pub load-requires : goal.load-requires
load-requires c =
    let m = rejoining (pass_view c.args.self.now) (pass_view c.args.other) (view c.join_seat.new.seat) c.requires.own.0.1 c.requires.only (search rules) in
    (search rules, search rules, may_unite _ _ _ _ m.has m.next)

pub returns-clause-view : goal.returns-clause-view
returns-clause-view c =
    let m = rejoining (pass_view c.args.self.now) (pass_view c.args.other) (view c.join_seat.new.seat) c.requires.own.0.1 c.requires.only (search rules) in
    m.unites_as (view c.load.new.seat) (search rules)

pub returns-clause-own : goal.returns-clause-own
returns-clause-own c = (search rules, united_pass (pass_view c.args.self.now) (pass_view c.args.other) (view c.load.new.seat) (returns-clause-view c))
