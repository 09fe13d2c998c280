use Rattle.std.proofs.Common.{◌<◌, length, ◌∙◌, arith}
use Rattle.hg_space.proofs.RosterFacts.{list_set_apart, list_more, set_same, always_err}
use Rattle.hg_space.proofs.roster.append.Goals as goal

pub returns-in_err-push-clause-others : goal.returns-in_err-push-clause-others
returns-in_err-push-clause-others c = λ t apart. list_set_apart c.begin.new.lists.items c.args.table.0 c.push.new.self t apart ∙ c.begin.ensures.same t

pub returns-in_err-push-clause-refused : goal.returns-in_err-push-clause-refused
returns-in_err-push-clause-refused c =
    let there : c.args.table.0 < length c.begin.new.lists.items = omega (arith, c.in_ok-begin.ensures.there) in
    let same = set_same c.begin.new.lists.items c.args.table.0 c.index_mut-list.result.now c.push.new.self there c.index_mut-list.ensures.value c.in_err-push.ensures.items in
    always_err c.from_residual-in_err-push.result _ (λ t. same t ∙ c.begin.ensures.same t)

pub returns-clause-last : goal.returns-clause-last
returns-clause-last c =
    let there : c.args.table.0 < length c.begin.new.lists.items = omega (arith, c.in_ok-begin.ensures.there) in
    list_more c.begin.new.lists.items c.args.lists.now.items c.args.table.0 c.index_mut-list.result.now c.push.new.self c.args.listed there c.index_mut-list.ensures.value
    c.in_ok-push.ensures.items (c.begin.ensures.same c.args.table.0)

pub returns-clause-others : goal.returns-clause-others
returns-clause-others c = λ t apart. list_set_apart c.begin.new.lists.items c.args.table.0 c.push.new.self t apart ∙ c.begin.ensures.same t
