use Rattle.std.proofs.Common.{◌+◌, sym, ap, ◌∙◌, subst, arith, rules}
use Rattle.std.specs.Prelude.{get_or}
use Rattle.hg_rule.specs.Seats.{session_view, IsAwayOf}
use Rattle.hg_rule.specs.Views.{session, others}
use Rattle.hg_session.specs.Engines.{engine_board_id, engine_sizes}
use Rattle.hg_session.specs.Sessions.{pass_of, view_of, number_of}
use Rattle.hg_session.proofs.Handovers.{back_none, back_more, back_whole, next_is, still}
use Rattle.hg_session.proofs.lending.return_all.Goals as goal

pub loop-k-init : goal.loop-k-init
loop-k-init c = record { back = back_none c.args.engine.now (session_view c.args.holder.now) c.args.list.now c.requires.parts; end = search rules; own = c.requires.holder }

pub take_back-requires-clause-away : goal.take_back-requires-clause-away
take_back-requires-clause-away c =
    let x = c.index-list-k.result in
    subst (λ s. IsAwayOf (engine_board_id c.args.engine.now) (engine_sizes c.args.engine.now) (pass_of s))
    (sym (still x x c.args.list.now c.loop-k.list c.loop-k.k c.loop-k.invariant.back.rest c.loop-k-test.true)) (c.requires.away x c.loop-k.k c.loop-k-test.true)

pub take_back-requires-clause-alone : goal.take_back-requires-clause-alone
take_back-requires-clause-alone c =
    let x = c.index-list-k.result in
    ap (λ s. others (view_of s)) (still x x c.args.list.now c.loop-k.list c.loop-k.k c.loop-k.invariant.back.rest c.loop-k-test.true) ∙ c.requires.alone x c.loop-k.k c.loop-k-test.true

pub take_back-requires-clause-unstamped : goal.take_back-requires-clause-unstamped
take_back-requires-clause-unstamped c =
    let x = c.index-list-k.result in
    ap (λ s. (session (view_of s)).stamped) (still x x c.args.list.now c.loop-k.list c.loop-k.k c.loop-k.invariant.back.rest c.loop-k-test.true) ∙ c.requires.unstamped x c.loop-k.k c.loop-k-test.true

pub take_back-requires-clause-next : goal.take_back-requires-clause-next
take_back-requires-clause-next c =
    let x = c.index-list-k.result in
    let h = c.loop-k.invariant.back in
    next_is c.args.engine.now (session_view c.args.holder.now) (session_view c.loop-k.holder) c.args.list.now c.loop-k.list c.loop-k.k (get_or c.loop-k.list c.loop-k.k x) c.loop-k-test.true
    (λ d. still x d c.args.list.now c.loop-k.list c.loop-k.k h.rest c.loop-k-test.true) h

pub take_back-requires-clause-number : goal.take_back-requires-clause-number
take_back-requires-clause-number c =
    let x = c.index-list-k.result in
    ap number_of (still x x c.args.list.now c.loop-k.list c.loop-k.k c.loop-k.invariant.back.rest c.loop-k-test.true) ∙ c.requires.numbers x c.loop-k.k c.loop-k-test.true

pub loop-k-preserved : goal.loop-k-preserved
loop-k-preserved c =
    let x = c.index-list-k.result in
    let old = c.args.list.now in
    let h = c.loop-k.invariant.back in
    let done = c.take_back.ensures in
    record {
      back = back_more c.args.engine.now (session_view c.args.holder.now) (session_view c.loop-k.holder) (session_view c.take_back.new.holder) old c.loop-k.list c.loop-k.k (c.loop-k.k + 1)
          (get_or c.loop-k.list c.loop-k.k x) c.take_back.new.session (omega arith) c.loop-k-test.true (λ d. still x d old c.loop-k.list c.loop-k.k h.rest c.loop-k-test.true)
          done.back done.parts done.kept h;
      end = c.loop-k.invariant.end;
      own = done.held;
    }

pub returns-clause-back : goal.returns-clause-back
returns-clause-back c d k within = c.loop-k.invariant.back.back d k (let most = c.loop-k-test.false in omega (arith, most, within))

pub returns-clause-parts : goal.returns-clause-parts
returns-clause-parts c =
    back_whole c.args.engine.now (session_view c.args.holder.now) (session_view c.loop-k.holder) c.args.list.now c.loop-k.list c.loop-k.k c.loop-k-test.false c.loop-k.invariant.own.3 c.loop-k.invariant.back
