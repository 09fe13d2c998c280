use Rattle.std.proofs.Common.{◌≡◌, ◌+◌, ◌-◌, ◌<◌, suc, Some, refl, subst, arith}
use Rattle.hg_rule.specs.Holding.{commit}
use Rattle.hg_rule.specs.Seats.{pass_view}
use Rattle.hg_group.specs.Contexts.{context_of, AreContexts}
use Rattle.hg_group.specs.Oldest.{PopsBelow}
use Rattle.hg_group.proofs.NextGroup.{contexts_left, pops}
use Rattle.hg_group.proofs.contexts.pop_below.Goals as goal
use Rattle.hg_group.proofs.contexts.pop_below.Goals.{In-Some}

pub overflow_sub-taken : goal.overflow_sub-taken
overflow_sub-taken c =
    let part = commit (pass_view c.args.pass.now) in
    let left = contexts_left part.history.list part.taken c.args.contexts.now.items (omega (arith, c.requires.mark, c.requires.taken)) c.requires.contexts in
    omega (arith, left, c.len.ensures, c.requires.mark)

pub returns-then-taken-bound-clause-popped : goal.returns-then-taken-bound-clause-popped
returns-then-taken-bound-clause-popped c =
    let part = commit (pass_view c.args.pass.now) in
    let left = contexts_left part.history.list part.taken c.args.contexts.now.items (omega (arith, c.requires.mark, c.requires.taken)) c.requires.contexts in
    (omega (arith, left, c.len.ensures, c.requires.mark, c.if-taken-bound.true), refl)

both : (c : In-Some)
    → PopsBelow (pass_view c.args.pass.now) c.args.bound (Some (context_of (suc (commit (pass_view c.args.pass.now)).taken) c.in-Some.records)) (pass_view c.take_group.new.pass)
    × AreContexts (commit (pass_view c.take_group.new.pass)).history.list (commit (pass_view c.take_group.new.pass)).taken c.pop_front.new.self.items
both c =
    let v = pass_view c.args.pass.now in
    let part = commit v in
    let cs = c.args.contexts.now.items in
    let left = contexts_left part.history.list part.taken cs (omega (arith, c.requires.mark, c.requires.taken)) c.requires.contexts in
    let below : part.taken < c.args.bound = omega (arith, left, c.len.ensures, c.requires.mark, c.if-taken-bound.false) in
    pops v (pass_view c.take_group.new.pass) c.args.bound c.take_group.result cs c.pop_front.new.self.items c.in-Some.records c.in-Some.ensures.items below c.requires.contexts
    c.take_group.ensures.step

pub returns-clause-popped : goal.returns-clause-popped
returns-clause-popped c =
    let v = pass_view c.args.pass.now in
    let part = commit v in
    let left = contexts_left part.history.list part.taken c.args.contexts.now.items (omega (arith, c.requires.mark, c.requires.taken)) c.requires.contexts in
    let next : suc part.taken ≡ c.args.mark - c.len.result + 1 = omega (arith, left, c.len.ensures, c.requires.mark) in
    subst (λ n. PopsBelow v c.args.bound (Some (context_of n c.in-Some.records)) (pass_view c.take_group.new.pass)) next (both c).0

pub returns-clause-contexts : goal.returns-clause-contexts
returns-clause-contexts c = (both c).1
