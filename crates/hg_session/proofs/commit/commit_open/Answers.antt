use Rattle.std.proofs.Common.{◌≡◌, [], Some, None, refl, sym, ◌∙◌, subst, rules, ap, List}
use Rattle.std.specs.Prelude.{length, ◌<◌, IsSome, is_some}
use Rattle.hg_rule.specs.Views.{number, session}
use Rattle.hg_rule.specs.Holding.{snapshot}
use Rattle.hg_rule.specs.Seats.{session_view, IsSessionOf, board_id, sizes_of}
use Rattle.hg_core.specs.declared.log.LogEntry.TheVariants.{Over}
use Rattle.hg_core.specs.Reading.{close}
use Rattle.hg_core.specs.declared.phase.Phase.TheVariants.{Idle, Live}
use Rattle.hg_rule.specs.Steps.{logging, loaded_in}
use Rattle.hg_rule.specs.Writes.{with_published}
use Rattle.hg_session.specs.Ties.{Ties, phase_at}
use Rattle.hg_session.specs.Engines.{engine_board_id, engine_sizes}
use Rattle.hg_session.proofs.Tying.{ties_committed}
use Rattle.hg_session.proofs.Done.{unwritten, written_some, closed, after, back_gains, back_in, ties_back, none_of}
use Rattle.hg_session.proofs.Placed.{has_place}
use Rattle.hg_session.proofs.Settling.{settled, gained}
use Rattle.hg_core.specs.Phases.{snapshot_in, declared_in}
use Rattle.hg_core.specs.declared.phase.Phase.{Phase}
use Rattle.hg_core.specs.Logs.{open_in}
use Rattle.hg_base.specs.declared.rid.Rid.{Rid}
use Rattle.hg_base.specs.History.{NoneTwice, is_among}
use Rattle.hg_rule.specs.declared.board.Board.{Board}
use Rattle.hg_group.specs.Frames.{AreOfOne}
use Rattle.hg_store.specs.declared.store.Store.{Store}
use Rattle.hg_session.proofs.commit.commit_open.Goals as goal

pub returns-then-is_empty-clause-wrote : goal.returns-then-is_empty-clause-wrote
returns-then-is_empty-clause-wrote g c =
    let none : c.args.session.now.written.list ≡ [] = none_of c.args.session.now.written.list (sym c.is_empty.ensures ∙ c.if-is_empty.true) in
    sym (unwritten c.args.session.now.written.list (session (session_view c.args.session.now.pass)).log c.requires.own.ties.plain c.requires.own.ties.written_is none)

pub returns-in-Ok-clause-wrote : goal.returns-in-Ok-clause-wrote
returns-in-Ok-clause-wrote g c =
    let some : 0 < length c.args.session.now.written.list = search rules in
    sym (written_some c.args.session.now.written.list (session (session_view c.args.session.now.pass)).log c.requires.own.ties.plain c.requires.own.ties.written_is some)

pub returns-in-Ok-clause-after : goal.returns-in-Ok-clause-after
returns-in-Ok-clause-after g c =
    let v = session_view c.args.session.now.pass in
    let at : c.args.snapshot.at ≡ snapshot v = search rules in
    after v (session_view c.commit.new.pass) c.in-Ok.receipt c.args.snapshot.at c.in-Ok.ensures.committed at

pub returns-in-Ok-clause-gains : goal.returns-in-Ok-clause-gains
returns-in-Ok-clause-gains g c =
    let v = session_view c.args.session.now.pass in
    let k = closed v (session_view c.commit.new.pass) (session_view c.end-in-Ok.new.pass) c.in-Ok.receipt c.in-Ok.ensures.committed c.end-in-Ok.ensures.step in
    gained v (session_view c.end-in-Ok.new.pass) _ (close (Some c.in-Ok.receipt.number)) k.alone refl

pub returns-in-Ok-clause-own : goal.returns-in-Ok-clause-own
returns-in-Ok-clause-own g c =
    let v = session_view c.args.session.now.pass in
    let k = closed v (session_view c.commit.new.pass) (session_view c.end-in-Ok.new.pass) c.in-Ok.receipt c.in-Ok.ensures.committed c.end-in-Ok.ensures.step in
    let own : IsSessionOf (engine_board_id c.args.engine.now) (engine_sizes c.args.engine.now) c.end-in-Ok.new.pass = search rules in
    let none : c.replace-records.new.dest.list ≡ [] = search rules in
    let ties = ties_committed (engine_sizes c.args.engine.now).quota c.args.session.now.left 0 0 c.in-Ok.receipt.number _ _ (session v) c.requires.own.ties in
    settled c.args.engine.now 0 0 v _ _ v.sights own k.alone (subst (λ l. Ties (engine_sizes c.args.engine.now).quota None l c.args.session.now.left 0 0
    (logging Over Idle (with_published c.in-Ok.receipt.number (session v)))) (sym none) ties) k.heard c.requires.own.closed

pub returns-in-Err-clause-refused : goal.returns-in-Err-clause-refused
returns-in-Err-clause-refused g c = (back_gains (session_view c.args.session.now.pass) (session_view c.commit.new.pass) c.in-Err.ensures.refused.1, refl)

pub returns-in-Err-clause-own : goal.returns-in-Err-clause-own
returns-in-Err-clause-own g c =
    let v = session_view c.args.session.now.pass in
    let quota = (engine_sizes c.args.engine.now).quota in
    let old = c.args.session.now.written.list in
    let left = c.args.session.now.left in
    let own : IsSessionOf (engine_board_id c.args.engine.now) (engine_sizes c.args.engine.now) c.commit.new.pass = search rules in
    let open_ = subst (λ o. Ties quota o old left 0 0 (session v)) c.requires.opened c.requires.own.ties in
    let ties = ties_back quota left c.args.snapshot old c.in-Err.tx.records.list (number v) (session v) c.in-Err.tx refl c.in-Err.ensures.refused.0 open_ in
    back_in c.args.engine.now v _ own c.in-Err.ensures.refused.1 (subst (λ o. Ties quota o c.in-Err.tx.records.list left 0 0 (session v)) (sym c.requires.opened) ties)
    c.requires.own.heard c.requires.own.closed

pub returns-in-Ok-clause-placed : goal.returns-in-Ok-clause-placed
returns-in-Ok-clause-placed g c = has_place (session_view c.args.session.now.pass) (session_view c.commit.new.pass)
    (session_view c.end-in-Ok.new.pass) c.in-Ok.receipt c.in-Ok.ensures.committed c.end-in-Ok.ensures.step

pub end-requires-clause-unwritten : goal.end-requires-clause-unwritten
end-requires-clause-unwritten g c = none_of c.args.session.now.written.list (sym c.is_empty.ensures ∙ c.if-is_empty.true)

pub returns-then-is_empty-clause-own : goal.returns-then-is_empty-clause-own
returns-then-is_empty-clause-own g c = c.end.ensures.own

pub writer-requires-clause-open : goal.writer-requires-clause-open
writer-requires-clause-open g c = subst (λ (p : Phase). IsSome (snapshot_in p)) (sym (c.requires.own.ties.phase ∙ ap phase_at c.requires.opened)) refl

pub commit-requires-clause-engine : goal.commit-requires-clause-engine
commit-requires-clause-engine g c =
    let s = c.args.engine.now.shared.value in
    let board : AreOfOne c.board.result.now s.store s.groups = subst (λ (b : Board). AreOfOne b s.store s.groups) (sym c.board.ensures)
    ((s.store_is, s.some, s.buckets_are), (s.groups_are, s.sessions_are)) in
    let store : AreOfOne c.board.result.now c.store.result.now s.groups = subst (λ (t : Store). AreOfOne c.board.result.now t s.groups) (sym c.store.ensures) board in
    subst (AreOfOne c.board.result.now c.store.result.now) (sym c.groups.ensures) store

pub commit-requires-clause-own : goal.commit-requires-clause-own
commit-requires-clause-own g c = subst (λ (b : Board). IsSessionOf (board_id b) (sizes_of b) c.args.session.now.pass) (sym c.board.ensures) c.requires.own.pass

pub commit-requires-clause-tx : goal.commit-requires-clause-tx
commit-requires-clause-tx g c =
    let ties = c.requires.own.ties in
    let live : (session (session_view c.args.session.now.pass)).phase ≡ Live c.args.snapshot.at c.args.snapshot.scope = ties.phase ∙ ap phase_at c.requires.opened in
    let same : c.replace-records.result.list ≡ c.args.session.now.written.list = search rules in
    let some : 0 < length c.args.session.now.written.list = search rules in (
      record { live = subst (λ (p : Phase). IsSome (snapshot_in p)) (sym live) refl; plain = ties.plain; unstamped = ties.unstamped },
      record {
        writer_is = λ i. record { session = c.writer.ensures.session i; transaction = c.writer.ensures.transaction i };
        snapshot_is = (sym (ap loaded_in live), sym (ap declared_in live));
        once = subst NoneTwice (sym same) ties.written_is.once;
        exact = λ r. subst (λ (l : List Rid). is_among r l ≡ is_some (open_in r (session (session_view c.args.session.now.pass)).log)) (sym same) (ties.written_is.each r);
      },
      subst (λ (l : List Rid). 0 < length l) (sym same) some,
    )

pub end-requires-in-Ok-clause-own : goal.end-requires-in-Ok-clause-own
end-requires-in-Ok-clause-own g c = subst (λ (b : Board). IsSessionOf (board_id b) (sizes_of b) c.commit.new.pass)
    (c.board.ensures ∙ sym c.board-in-Ok.ensures) c.commit.ensures.own.0
