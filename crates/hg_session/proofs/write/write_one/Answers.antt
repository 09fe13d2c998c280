use Rattle.std.proofs.Common.{◌≡◌, refl, sym, ◌∙◌, subst}
use Rattle.std.specs.Prelude.{IfOk, IsTrue, not, is_some, ◌<◌}
use Rattle.hg_base.specs.Transcript.{has}
use Rattle.hg_core.specs.Logs.{open_in, wrotes}
use Rattle.hg_core.specs.Phases.{declared_in}
use Rattle.hg_rule.specs.Views.{number, session}
use Rattle.hg_rule.specs.declared.view.SessionPart.{SessionPart}
use Rattle.hg_rule.specs.Seats.{board_id, sizes_of, session_view}
use Rattle.hg_store.specs.Passes.{IsInTransaction}
use Rattle.hg_cursor.proofs.Trips.{first_session, arrived, snapshot_beside, writer_beside}
use Rattle.hg_session.proofs.Settling.{left_pass}
use Rattle.hg_session.proofs.Storing.{trip_written, told}
use Rattle.hg_session.proofs.Firsts.{write_shown}
use Rattle.hg_session.proofs.write.write_one.Goals as goal

pub write-written-requires-clause-open : goal.write-written-requires-clause-open
write-written-requires-clause-open g c =
    let v = session_view c.args.pass.now in
    let h = arrived v (session_view c.take-held.new.pass) c.bucket_of-bucket.result c.requires.only c.take-held.ensures.view in
    subst IsInTransaction (sym (first_session (session_view c.take-held.new.pass) (number v) (session v) _ h.parts)) c.requires.open

pub write-written-requires-clause-table : goal.write-written-requires-clause-table
write-written-requires-clause-table g c =
    let v = session_view c.args.pass.now in
    let h = arrived v (session_view c.take-held.new.pass) c.bucket_of-bucket.result c.requires.only c.take-held.ensures.view in (
      subst (λ (p : SessionPart). IsTrue (has (declared_in p.phase) c.args.rid.table)) (sym (first_session (session_view c.take-held.new.pass) (number v) (session v) _ h.parts)) c.requires.table.0,
      c.requires.table.1,
    )

pub write-written-requires-clause-room : goal.write-written-requires-clause-room
write-written-requires-clause-room g c =
    let v = session_view c.args.pass.now in
    let h = arrived v (session_view c.take-held.new.pass) c.bucket_of-bucket.result c.requires.only c.take-held.ensures.view in
    subst (λ (p : SessionPart). wrotes p.log < (sizes_of c.args.tables.now.board.now).quota) (sym (first_session (session_view c.take-held.new.pass) (number v) (session v) _ h.parts)) c.requires.room

pub write-written-requires-clause-words : goal.write-written-requires-clause-words
write-written-requires-clause-words g c =
    let v = session_view c.args.pass.now in
    let u = session_view c.take-held.new.pass in
    let b = c.bucket_of-bucket.result in
    let h = arrived v u b c.requires.only c.take-held.ensures.view in (
      writer_beside (number v) b (session v) v.sights u c.writer.result h c.writer.ensures.session c.writer.ensures.transaction,
      c.requires.at ∙ sym (snapshot_beside (number v) b (session v) v.sights u h),
    )

pub returns-clause-written : goal.returns-clause-written
returns-clause-written g c =
    let v = session_view c.args.pass.now in
    let u = session_view c.take-held.new.pass in
    let b = c.bucket_of-bucket.result in
    let h = arrived v u b c.requires.only c.take-held.ensures.view in
    let t = trip_written (number v) b (session v) v.sights c.args.rid c.args.image c.write-written.result u (session_view c.write-written.new.pass)
    (session_view c.give.new.pass) h c.write-written.ensures.step c.give.ensures.view c.write-written.result refl in
    record { alone = t.alone; heard = t.heard }

pub returns-clause-added : goal.returns-clause-added
returns-clause-added g c =
    let v = session_view c.args.pass.now in
    let u = session_view c.take-held.new.pass in
    let h = arrived v u c.bucket_of-bucket.result c.requires.only c.take-held.ensures.view in
    subst (λ (p : SessionPart). IfOk c.write-written.result (λ added. added ≡ not (is_some (open_in c.args.rid p.log)))) (first_session u (number v) (session v) _ h.parts)
    c.write-written.ensures.added

pub returns-clause-refused : goal.returns-clause-refused
returns-clause-refused g c =
    let v = session_view c.args.pass.now in
    let u = session_view c.take-held.new.pass in
    let b = c.bucket_of-bucket.result in
    let h = arrived v u b c.requires.only c.take-held.ensures.view in
    told (number v) b (session v) v.sights c.args.rid c.args.image c.write-written.result u (session_view c.write-written.new.pass) (session_view c.give.new.pass) h
    c.write-written.ensures.step c.give.ensures.view (sizes_of c.args.tables.now.board.now) v c.args.at c.write-written.result refl refl refl
    (c.requires.at ∙ sym (snapshot_beside (number v) b (session v) v.sights u h)) c.write-written.ensures.owner

pub returns-clause-first : goal.returns-clause-first
returns-clause-first g c =
    let v = session_view c.args.pass.now in
    let u = session_view c.take-held.new.pass in
    let b = c.bucket_of-bucket.result in
    let h = arrived v u b c.requires.only c.take-held.ensures.view in
    write_shown v u (session_view c.write-written.new.pass) (session_view c.give.new.pass) b c.args.rid c.args.image c.write-written.result h c.write-written.ensures.step
    c.give.ensures.view c.args.at c.write-written.result (c.requires.at ∙ sym (snapshot_beside (number v) b (session v) v.sights u h)) refl

pub returns-clause-own : goal.returns-clause-own
returns-clause-own g c =
    let v = session_view c.args.pass.now in
    let u = session_view c.take-held.new.pass in
    let b = c.bucket_of-bucket.result in
    let h = arrived v u b c.requires.only c.take-held.ensures.view in
    let t = trip_written (number v) b (session v) v.sights c.args.rid c.args.image c.write-written.result u (session_view c.write-written.new.pass)
    (session_view c.give.new.pass) h c.write-written.ensures.step c.give.ensures.view c.write-written.result refl in
    left_pass (board_id c.args.tables.now.board.now) (sizes_of c.args.tables.now.board.now) c.write-written.new.pass c.give.new.pass (number v) b _ v.sights
    c.write-written.ensures.holds.0.0 t.beside c.give.ensures.own.0 c.give.ensures.own.1 t.alone
