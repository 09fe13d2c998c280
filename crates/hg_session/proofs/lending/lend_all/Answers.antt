use Rattle.std.proofs.Common.{◌+◌, sym, subst, arith, rules}
use Rattle.std.specs.Prelude.{get_or}
use Rattle.hg_rule.specs.Seats.{session_view}
use Rattle.hg_session.specs.Sessions.{IsOf}
use Rattle.hg_session.proofs.Handovers.{lent_none, lent_more, lent_whole, still}
use Rattle.hg_session.proofs.lending.lend_all.Goals as goal

pub loop-k-init : goal.loop-k-init
loop-k-init c = record { lent = lent_none c.args.engine.now (session_view c.args.holder.now) c.args.list.now; end = search rules; own = c.requires.holder }

pub lend-requires-clause-own : goal.lend-requires-clause-own
lend-requires-clause-own c =
    let x = c.index-list-k.result in
    subst (IsOf c.args.engine.now) (sym (still x x c.args.list.now c.loop-k.list c.loop-k.k c.loop-k.invariant.lent.rest c.loop-k-test.true)) (c.requires.own x c.loop-k.k c.loop-k-test.true)

pub loop-k-preserved : goal.loop-k-preserved
loop-k-preserved c =
    let x = c.index-list-k.result in
    let old = c.args.list.now in
    let h = c.loop-k.invariant.lent in
    let done = c.lend.ensures in
    record {
      lent = lent_more c.args.engine.now (session_view c.args.holder.now) (session_view c.loop-k.holder) (session_view c.lend.new.holder) old c.loop-k.list c.loop-k.k (c.loop-k.k + 1)
          (get_or c.loop-k.list c.loop-k.k x) c.lend.new.session (omega arith) c.loop-k-test.true (λ d. still x d old c.loop-k.list c.loop-k.k h.rest c.loop-k-test.true)
          done.lent done.parts done.kept done.heard h;
      end = c.loop-k.invariant.end;
      own = done.held;
    }

pub returns-clause-lent : goal.returns-clause-lent
returns-clause-lent c d k within = c.loop-k.invariant.lent.lent d k (let most = c.loop-k-test.false in omega (arith, most, within))

pub returns-clause-heard : goal.returns-clause-heard
returns-clause-heard c d k within = c.loop-k.invariant.lent.heard d k (let most = c.loop-k-test.false in omega (arith, most, within))

pub returns-clause-parts : goal.returns-clause-parts
returns-clause-parts c = lent_whole c.args.engine.now (session_view c.args.holder.now) (session_view c.loop-k.holder) c.args.list.now c.loop-k.list c.loop-k.k c.loop-k-test.false c.loop-k.invariant.lent
