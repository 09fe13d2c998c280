use Rattle.std.proofs.Common.{rules, ◌≡◌, ◌++◌, ◌∷◌, [], List, length, refl, sym, ap, subst, arith}
use Rattle.std.specs.Prelude.{vec_capacity}
use Rattle.hg_rule.specs.Seats.{board_id, pass_view}
use Rattle.hg_rounds.specs.declared.draws.Drawn.{Drawn}
use Rattle.hg_rounds.specs.declared.helper.Helper.{Helper}
use Rattle.hg_rounds.specs.Word.{IsFresh}
use Rattle.hg_rounds.specs.Crew.{Unites}
use Rattle.hg_rounds.specs.Seats.{draws_id, drawn_by}
use Rattle.hg_rounds.proofs.Joined.{back_alone, unites_more, last_unites, last_back, last_fits, all_quota}
use Rattle.hg_rounds.proofs.crew.retire.Goals as goal

pub unite-requires-clause-own : goal.unite-requires-clause-own
unite-requires-clause-own c =
    let b = c.requires.back in
    let u = c.loop-helper.invariant.0 b.0 b.1 b.2 in
    let last : c.loop-helper.helpers.items ≡ c.pop.new.self.items ++ c.in-Some.helper ∷ [] = search rules in
    (c.loop-helper.invariant.1, (last_back _ _ _ _ _ _ _ _ _ _ _ u last).own.0)

pub unite-requires-clause-only : goal.unite-requires-clause-only
unite-requires-clause-only c =
    let b = c.requires.back in
    let u = c.loop-helper.invariant.0 b.0 b.1 b.2 in
    let last : c.loop-helper.helpers.items ≡ c.pop.new.self.items ++ c.in-Some.helper ∷ [] = search rules in
    back_alone _ _ _ (length c.args.helpers.now.items) _ _ (last_back _ _ _ _ _ _ _ _ _ _ _ u last)

pub take_back-requires : goal.take_back-requires
take_back-requires c =
    let b = c.requires.back in
    let u = c.loop-helper.invariant.0 b.0 b.1 b.2 in
    let last : c.loop-helper.helpers.items ≡ c.pop.new.self.items ++ c.in-Some.helper ∷ [] = search rules in
    record { own = (c.loop-helper.invariant.2, (last_back _ _ _ _ _ _ _ _ _ _ _ u last).own.1) }

pub overflow_add-removed : goal.overflow_add-removed
overflow_add-removed c =
    let b = c.requires.back in
    let u = c.loop-helper.invariant.0 b.0 b.1 b.2 in
    let last : c.loop-helper.helpers.items ≡ c.pop.new.self.items ++ c.in-Some.helper ∷ [] = search rules in
    let most = last_fits _ _ _ _ _ _ _ _ _ _ _ u last in
    omega (arith, most, c.requires.few)

pub loop-helper-preserved : goal.loop-helper-preserved
loop-helper-preserved c =
    let last : c.loop-helper.helpers.items ≡ c.pop.new.self.items ++ c.in-Some.helper ∷ [] = search rules in
    let room : vec_capacity c.pop.new.self ≡ vec_capacity c.loop-helper.helpers = search rules in (
      λ buckets x first.
          let u = c.loop-helper.invariant.0 buckets x first in
          unites_more _ _ buckets _ x c.in-Some.helper (last_back _ _ _ _ _ _ _ _ _ _ _ u last) c.pop.new.self.items (pass_view c.loop-helper.pass)
          (drawn_by c.loop-helper.drawer) c.loop-helper.removed (last_unites _ _ _ _ _ _ _ _ _ _ _ u last) (pass_view c.unite.new.self) c.unite.ensures.view
          (drawn_by c.take_back.new.drawer) c.take_back.ensures.both,
      c.unite.ensures.own,
      c.take_back.ensures.own,
      omega (arith, room, c.loop-helper.invariant.3),
    )

pub restart-requires-clause-all : goal.restart-requires-clause-all
restart-requires-clause-all c =
    let b = c.requires.back in
    let u = c.loop-helper.invariant.0 b.0 b.1 b.2 in
    let none : c.loop-helper.helpers.items ≡ [] = search rules in
    all_quota _ _ _ _ _ _ _ _ _ u none

pub returns-clause-united : goal.returns-clause-united
returns-clause-united c buckets x first =
    let none : c.loop-helper.helpers.items ≡ [] = search rules in (
      drawn_by c.loop-helper.drawer,
      subst (λ (l : List Helper). Unites (board_id c.args.board.now) (draws_id c.args.draws.now) buckets (length c.args.helpers.now.items) x l
          (pass_view c.loop-helper.pass) (drawn_by c.loop-helper.drawer) c.loop-helper.removed) none (c.loop-helper.invariant.0 buckets x first),
      c.restart.ensures.all,
      ap (λ (v : Drawn). v.before) c.restart.ensures.anew,
    )

pub returns-clause-fresh : goal.returns-clause-fresh
returns-clause-fresh c = subst IsFresh (sym c.restart.ensures.anew) record { left = refl; numbers = refl; joined = refl }
