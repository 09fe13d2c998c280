use Rattle.std.proofs.Common.{◌≤◌, length, refl, sym, ap, subst}
use Rattle.hg_rule.specs.declared.view.CommitPart.{CommitPart}
use Rattle.hg_rule.specs.declared.view.View.{View}
use Rattle.hg_rule.specs.Holding.{commit, HasCommit}
use Rattle.hg_rule.specs.Views.{HasPass}
use Rattle.hg_rule.specs.Rules.{IsBacked}
use Rattle.hg_rule.specs.Seats.{sizes_of, pass_view, commit_view}
use Rattle.hg_group.specs.declared.book.Book.{Book}
use Rattle.hg_group.specs.Contexts.{AreContexts}
use Rattle.hg_group.specs.Oldest.{PopsBelow}
use Rattle.hg_group.specs.Places.{part_in}
use Rattle.hg_group.proofs.NextGroup.{in_hand, pass_first, oldest}
use Rattle.hg_group.proofs.list.GroupList.take_oldest.Goals as goal

pub join_commit-mark-requires-clause-own : goal.join_commit-mark-requires-clause-own
join_commit-mark-requires-clause-own g c = (c.requires.own.0, pass_first (pass_view c.args.pass.now) c.requires.own.1)

pub pop_below-context-requires-clause-own : goal.pop_below-context-requires-clause-own
pop_below-context-requires-clause-own g c =
    let seat = c.take-held.result.1 in
    let is = in_hand (sizes_of c.args.board.now) c.join_commit-mark.result (pass_view c.args.pass.now) (commit_view seat) (part_in seat) (pass_view c.join_commit-mark.new.pass)
    c.requires.own.1 c.take-held.ensures.seat.1 c.join_commit-mark.ensures.view in
    (c.join_commit-mark.ensures.own.0, subst HasPass (sym is) refl)

pub pop_below-context-requires-clause-held : goal.pop_below-context-requires-clause-held
pop_below-context-requires-clause-held g c =
    let seat = c.take-held.result.1 in
    let is = in_hand (sizes_of c.args.board.now) c.join_commit-mark.result (pass_view c.args.pass.now) (commit_view seat) (part_in seat) (pass_view c.join_commit-mark.new.pass)
    c.requires.own.1 c.take-held.ensures.seat.1 c.join_commit-mark.ensures.view in
    subst HasCommit (sym is) refl

pub pop_below-context-requires-clause-taken : goal.pop_below-context-requires-clause-taken
pop_below-context-requires-clause-taken g c =
    let seat = c.take-held.result.1 in
    let is = in_hand (sizes_of c.args.board.now) c.join_commit-mark.result (pass_view c.args.pass.now) (commit_view seat) (part_in seat) (pass_view c.join_commit-mark.new.pass)
    c.requires.own.1 c.take-held.ensures.seat.1 c.join_commit-mark.ensures.view in
    subst (λ n. (commit (pass_view c.join_commit-mark.new.pass)).taken ≤ n) c.join_commit-mark.ensures.mark.is_length
    (subst (λ (p : CommitPart). p.taken ≤ length p.history.list) (sym (ap commit is)) c.take-held.ensures.kept.taken)

pub pop_below-context-requires-clause-contexts : goal.pop_below-context-requires-clause-contexts
pop_below-context-requires-clause-contexts g c =
    let seat = c.take-held.result.1 in
    let is = in_hand (sizes_of c.args.board.now) c.join_commit-mark.result (pass_view c.args.pass.now) (commit_view seat) (part_in seat) (pass_view c.join_commit-mark.new.pass)
    c.requires.own.1 c.take-held.ensures.seat.1 c.join_commit-mark.ensures.view in
    subst (λ (x : CommitPart × Book). AreContexts x.0.history.list x.0.taken x.1.contexts.items) (λ i. (sym (ap commit is) i, sym c.deref_mut.ensures.value i)) c.take-held.ensures.kept.contexts_are

pub returns-clause-taken : goal.returns-clause-taken
returns-clause-taken g c =
    let z = sizes_of c.args.board.now in
    let v = pass_view c.args.pass.now in
    let u = pass_view c.join_commit-mark.new.pass in
    let w = pass_view c.pop_below-context.new.pass in
    let seat = c.take-held.result.1 in
    let is = in_hand z c.join_commit-mark.result v (commit_view seat) (part_in seat) u c.requires.own.1 c.take-held.ensures.seat.1 c.join_commit-mark.ensures.view in
    oldest z c.join_commit-mark.result v (commit_view seat) (part_in seat)
    (subst (IsBacked z c.join_commit-mark.result) is c.join_commit-mark.ensures.backed) c.requires.own.1 c.args.bound c.pop_below-context.result w (pass_view c.split_commit-seat.new.pass)
    (subst (λ (x : View). PopsBelow x c.args.bound c.pop_below-context.result w) is c.pop_below-context.ensures.popped) c.split_commit-seat.ensures.view
