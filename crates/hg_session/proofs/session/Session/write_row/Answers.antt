use Rattle.std.proofs.Common.{◌≡◌, ◌∷◌, ◌++◌, [], ℕ, List, Option, Some, true, false, refl, sym, ap, ◌∙◌, subst, arith}
use Rattle.std.specs.Prelude.{IsTrue, IsSome, ◌<◌}
use Rattle.hg_base.specs.declared.rid.Rid.{Rid}
use Rattle.hg_base.specs.declared.scope.Snapshot.{Snapshot}
use Rattle.hg_base.specs.Transcript.{has}
use Rattle.hg_core.specs.Logs.{wrotes}
use Rattle.hg_core.specs.Phases.{declared_in, snapshot_in}
use Rattle.hg_core.specs.declared.log.LogEntry.TheVariants.{Wrote}
use Rattle.hg_core.specs.declared.phase.Phase.{Phase}
use Rattle.hg_core.specs.declared.phase.Phase.TheVariants.{Live}
use Rattle.hg_rule.specs.Steps.{loaded_in}
use Rattle.hg_rule.specs.Views.{session}
use Rattle.hg_rule.specs.Seats.{board_id, sizes_of, session_view, IsSessionOf}
use Rattle.hg_rule.specs.Writes.{with_entry}
use Rattle.hg_rule.specs.declared.board.Board.{Board}
use Rattle.hg_rule.specs.declared.view.SessionPart.{SessionPart}
use Rattle.hg_session.specs.Ties.{Ties, phase_at}
use Rattle.hg_session.specs.Sessions.{view_of, written_of}
use Rattle.hg_session.specs.Engines.{engine_sizes}
use Rattle.hg_session.specs.Gains.{IsRefusedBy}
use Rattle.hg_session.proofs.Tying.{with_written, ties_unwritten, ties_refused, ties_wrote}
use Rattle.hg_session.proofs.Settling.{settled, gained}
use Rattle.hg_session.proofs.Storing.{refused_entries}
use Rattle.hg_session.proofs.Firsts.{write_told}
use Rattle.hg_session.proofs.session.Session.write_row.Goals as goal

-- the phase of a session whose open transaction has this snapshot
is_live : (quota left : ℕ) (opened : Option Snapshot) (snapshot : Snapshot) (written : List Rid) (part : SessionPart) → Ties quota opened written left 0 1 part →
    opened ≡ Some snapshot → part.phase ≡ Live snapshot.at snapshot.scope
is_live quota left opened snapshot written part t e = t.phase ∙ ap phase_at e

pub write_one-requires-clause-own : goal.write_one-requires-clause-own
write_one-requires-clause-own g c = subst (λ (b : Board). IsSessionOf (board_id b) (sizes_of b) c.args.self.now.pass) (sym c.tables-tables.ensures.board) c.requires.own.pass

pub write_one-requires-clause-open : goal.write_one-requires-clause-open
write_one-requires-clause-open g c = (subst (λ (p : Phase). IsSome (snapshot_in p)) (sym (is_live _ _ _ c.args.snapshot _ _ c.requires.own.ties c.requires.opened)) refl, c.requires.own.ties.plain, c.requires.own.ties.unstamped)

pub write_one-requires-clause-at : goal.write_one-requires-clause-at
write_one-requires-clause-at g c = sym (ap loaded_in (is_live _ _ _ c.args.snapshot _ _ c.requires.own.ties c.requires.opened))

pub write_one-requires-clause-table : goal.write_one-requires-clause-table
write_one-requires-clause-table g c = (
  subst (λ (p : Phase). IsTrue (has (declared_in p) c.args.rid.table)) (sym (is_live _ _ _ c.args.snapshot _ _ c.requires.own.ties c.requires.opened)) c.requires.table.0,
  subst (λ (b : Board). c.args.rid.table.0 < (sizes_of b).tables) (sym c.tables-tables.ensures.board) c.requires.table.1,
)

pub write_one-requires-clause-room : goal.write_one-requires-clause-room
write_one-requires-clause-room g c =
    let some : wrotes (session (view_of c.args.self.now)).log < (engine_sizes c.args.engine.now).quota = omega (arith, c.requires.own.ties.wrote) in
    subst (λ (b : Board). wrotes (session (view_of c.args.self.now)).log < (sizes_of b).quota) (sym c.tables-tables.ensures.board) some

pub returns-in-Ok-true-clause-gains : goal.returns-in-Ok-true-clause-gains
returns-in-Ok-true-clause-gains g c =
    gained (view_of c.args.self.now) (session_view c.write_one.new.pass) _ (Wrote c.args.rid c.args.image ∷ []) c.in-Ok-true.ensures.written.alone refl

pub returns-in-Ok-true-clause-own : goal.returns-in-Ok-true-clause-own
returns-in-Ok-true-clause-own g c =
    let v = view_of c.args.self.now in
    let quota = (engine_sizes c.args.engine.now).quota in
    let old = written_of c.args.self.now in
    let part = with_entry (Wrote c.args.rid c.args.image) (session v) in
    let own = subst (λ (b : Board). IsSessionOf (board_id b) (sizes_of b) c.write_one.new.pass) c.tables-tables.ensures.board c.in-Ok-true.ensures.own in
    let ties = subst (λ o. Ties quota o (with_written true c.args.rid old) c.args.self.now.left 0 0 part) (sym c.requires.opened)
    (ties_wrote _ _ 0 c.args.snapshot old (session v) c.args.rid c.args.image true (sym c.in-Ok-true.field-0-test ∙ c.in-Ok-true.ensures.added)
    (subst (λ o. Ties quota o old c.args.self.now.left 0 1 (session v)) c.requires.opened c.requires.own.ties)) in
    settled c.args.engine.now 0 0 v _ part v.sights own c.in-Ok-true.ensures.written.alone
    (subst (λ l. Ties quota c.args.self.now.opened l c.args.self.now.left 0 0 part) (sym (c.push_reserved.ensures.pushed ∙ ap (λ l. l ++ c.args.rid ∷ []) c.reserve.ensures.same)) ties)
    c.in-Ok-true.ensures.written.heard c.requires.own.closed

pub returns-in-Ok-false-clause-gains : goal.returns-in-Ok-false-clause-gains
returns-in-Ok-false-clause-gains g c =
    gained (view_of c.args.self.now) (session_view c.write_one.new.pass) _ (Wrote c.args.rid c.args.image ∷ []) c.in-Ok-false.ensures.written.alone refl

pub returns-in-Ok-false-clause-own : goal.returns-in-Ok-false-clause-own
returns-in-Ok-false-clause-own g c =
    let v = view_of c.args.self.now in
    let quota = (engine_sizes c.args.engine.now).quota in
    let old = written_of c.args.self.now in
    let part = with_entry (Wrote c.args.rid c.args.image) (session v) in
    let own = subst (λ (b : Board). IsSessionOf (board_id b) (sizes_of b) c.write_one.new.pass) c.tables-tables.ensures.board c.in-Ok-false.ensures.own in
    let ties = subst (λ o. Ties quota o (with_written false c.args.rid old) c.args.self.now.left 0 0 part) (sym c.requires.opened)
    (ties_wrote _ _ 0 c.args.snapshot old (session v) c.args.rid c.args.image false (sym c.in-Ok-false.field-0-test ∙ c.in-Ok-false.ensures.added)
    (subst (λ o. Ties quota o old c.args.self.now.left 0 1 (session v)) c.requires.opened c.requires.own.ties)) in
    settled c.args.engine.now 0 0 v _ part v.sights own c.in-Ok-false.ensures.written.alone
    (subst (λ l. Ties quota c.args.self.now.opened l c.args.self.now.left 0 0 part) (sym c.reserve.ensures.same) ties)
    c.in-Ok-false.ensures.written.heard c.requires.own.closed

pub returns-in-Err-clause-gains : goal.returns-in-Err-clause-gains
returns-in-Err-clause-gains g c =
    let v = view_of c.args.self.now in
    gained v (session_view c.write_one.new.pass) _ _ c.in-Err.ensures.written.alone (ap (λ es. es ++ (session v).log) (refused_entries c.args.rid c.args.image c.in-Err.refusal))

pub returns-in-Err-clause-refused : goal.returns-in-Err-clause-refused
returns-in-Err-clause-refused g c = subst (λ (b : Board). IsRefusedBy (sizes_of b) (view_of c.args.self.now) c.args.snapshot.at c.in-Err.refusal)
    c.tables-tables.ensures.board c.in-Err.ensures.refused

pub returns-in-Err-clause-first : goal.returns-in-Err-clause-first
returns-in-Err-clause-first g c = write_told (view_of c.args.self.now) (session_view c.write_one.new.pass) c.args.rid c.args.snapshot.at c.in-Err.refusal c.in-Err.ensures.first

pub returns-in-Err-clause-own : goal.returns-in-Err-clause-own
returns-in-Err-clause-own g c =
    let v = view_of c.args.self.now in
    let own = subst (λ (b : Board). IsSessionOf (board_id b) (sizes_of b) c.write_one.new.pass) c.tables-tables.ensures.board c.in-Err.ensures.own in
    let ties = subst (λ l. Ties (engine_sizes c.args.engine.now).quota c.args.self.now.opened l c.args.self.now.left 0 1 (session v)) (sym c.reserve.ensures.same) c.requires.own.ties in
    settled c.args.engine.now 0 0 v _ _ v.sights own c.in-Err.ensures.written.alone
    (ties_unwritten _ _ _ _ _ (ties_refused _ _ 0 1 _ _ (session v) c.args.rid c.args.image c.in-Err.refusal ties)) c.in-Err.ensures.written.heard c.requires.own.closed
