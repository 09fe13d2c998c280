use Rattle.std.proofs.Common.{rules, ◌≡◌, ℕ, suc, ◌+◌, ◌<◌, ◌++◌, ◌∷◌, [], List, refl, sym, subst, arith}
use Rattle.std.specs.Prelude.{vec_capacity}
use Rattle.hg_rule.specs.Sharing.{MaySplit}
use Rattle.hg_rule.specs.Views.{pass as own_pass}
use Rattle.hg_rule.specs.Seats.{board_id, pass_view}
use Rattle.hg_rounds.specs.declared.helper.Helper.{Helper}
use Rattle.hg_rounds.specs.Crew.{HasHired}
use Rattle.hg_rounds.specs.Seats.{draws_id, drawn_by}
use Rattle.hg_rounds.proofs.Hired.{may_one, kept_share, hired_none, hired_more, left_enough}
use Rattle.hg_rounds.proofs.crew.hire.Goals as goal

pub loop-number-init : goal.loop-number-init
loop-number-init c = (
  subst (λ (l : List Helper). HasHired (board_id c.args.board.now) (draws_id c.args.draws.now) 0 (pass_view c.args.pass.now) l (pass_view c.args.pass.now)
      (drawn_by c.args.drawer.now)) (sym c.requires.none)
      (hired_none (board_id c.args.board.now) (draws_id c.args.draws.now) (pass_view c.args.pass.now) c.requires.own.0.1 (drawn_by c.args.drawer.now) c.requires.fresh),
  (c.args.count, none_more c.args.count, c.requires.may),
  c.requires.own.0,
  c.requires.own.1,
  omega arith,
)
  where
    none_more : (n : ℕ) → n + 0 ≡ n
    none_more n = omega arith

pub split-own-requires-clause-share : goal.split-own-requires-clause-share
split-own-requires-clause-share c = (may_one c.loop-number.invariant.1.0 (own_pass (pass_view c.loop-number.pass)).share (let e = c.loop-number.invariant.1.1 in
    omega (arith, e, c.loop-number-test.true, c.loop-number.auto.number-end)) c.loop-number.invariant.1.2).now

pub hire-other-requires-clause-left : goal.hire-other-requires-clause-left
hire-other-requires-clause-left c = left_enough (board_id c.args.board.now) (draws_id c.args.draws.now) (pass_view c.args.pass.now) c.loop-number.number c.loop-number.helpers.items
    (pass_view c.loop-number.pass) (drawn_by c.loop-number.drawer) c.loop-number.invariant.0
    (omega (arith, c.loop-number-test.true, c.loop-number.auto.number-end, c.requires.few))

pub loop-number-preserved : goal.loop-number-preserved
loop-number-preserved c =
    let t = board_id c.args.board.now in
    let d = draws_id c.args.draws.now in
    let x = pass_view c.args.pass.now in
    let n = c.loop-number.number in
    let i = c.loop-number.invariant in
    let h : Helper = record { number = n + 1; pass = c.split-own.result; drawer = c.hire-other.result; removed = 0 } in
    let few : n < 16 = omega (arith, c.loop-number-test.true, c.loop-number.auto.number-end, c.requires.few) in
    let enough = left_enough t d x n c.loop-number.helpers.items (pass_view c.loop-number.pass) (drawn_by c.loop-number.drawer) i.0 few in
    let more = hired_more t d x n c.loop-number.helpers.items (pass_view c.loop-number.pass) (drawn_by c.loop-number.drawer) i.0
    (pass_view c.split-own.new.self) c.split-own.ensures.view h c.split-own.ensures.branch
    (c.split-own.ensures.own.1, c.hire-other.ensures.own.1) (omega (arith, few)) refl c.hire-other.ensures.hired (drawn_by c.hire-other.new.drawer) c.hire-other.ensures.left enough in
    let next : suc n ≡ n + 1 = omega arith in
    let items : c.push_reserved.new.self.items ≡ c.loop-number.helpers.items ++ h ∷ [] = search rules in
    let may = may_one i.1.0 (own_pass (pass_view c.loop-number.pass)).share (let e = i.1.1 in omega (arith, e, c.loop-number-test.true, c.loop-number.auto.number-end)) i.1.2 in
    let room : vec_capacity c.push_reserved.new.self ≡ vec_capacity c.loop-number.helpers = search rules in (
      subst (λ (k : ℕ). HasHired t d k x c.push_reserved.new.self.items (pass_view c.split-own.new.self) (drawn_by c.hire-other.new.drawer)) next
          (subst (λ (l : List Helper). HasHired t d (suc n) x l (pass_view c.split-own.new.self) (drawn_by c.hire-other.new.drawer)) (sym items) more),
      (
        may.rest.0,
        (let e = i.1.1 in let f = may.rest.1 in omega (arith, e, f)),
        subst (λ s. MaySplit may.rest.0 s)
            (sym (kept_share (pass_view c.loop-number.pass) (pass_view c.split-own.new.self) c.split-own.ensures.view)) may.rest.2,
      ),
      c.split-own.ensures.own.0,
      c.hire-other.ensures.own.0,
      omega (arith, room, i.4),
    )

pub returns-clause-hired : goal.returns-clause-hired
returns-clause-hired c =
    let end : c.loop-number.number ≡ c.args.count = omega (arith, c.loop-number.auto.number-end, c.loop-number-test.false) in
    subst (λ (k : ℕ). HasHired (board_id c.args.board.now) (draws_id c.args.draws.now) k (pass_view c.args.pass.now) c.loop-number.helpers.items (pass_view c.loop-number.pass)
    (drawn_by c.loop-number.drawer)) end c.loop-number.invariant.0
