use Rattle.std.proofs.Common.{◌≡◌, ◌++◌, ◌∷◌, [], sym, ap, ◌∙◌, subst, rules, append-nil, append_assoc}
use Rattle.std.specs.Prelude.{IsSome, cond, None}
use Rattle.hg_base.specs.History.{is_among, NoneTwice}
use Rattle.hg_core.specs.Logs.{open_in}
use Rattle.hg_rule.specs.Views.{session}
use Rattle.hg_rule.specs.Seats.{session_view}
use Rattle.hg_session.proofs.Undoing.{undid_none, undone_writer, undone_log, undone_more, open_undone, last_apart, last_among}
use Rattle.hg_session.proofs.Trips.{alone_only}
use Rattle.hg_cursor.proofs.Trips.{first_session}
use Rattle.hg_rule.specs.declared.view.SessionPart.{SessionPart}
use Rattle.hg_session.proofs.rollback.undo_each.Goals as goal

pub loop-rid-init : goal.loop-rid-init
loop-rid-init g c = record { gone = []; all = sym (append-nil c.args.records.now.list); undone = undid_none (session_view c.args.pass.now) c.requires.only; own = c.requires.own }

pub undo_one-requires-clause-by : goal.undo_one-requires-clause-by
undo_one-requires-clause-by g c = c.requires.by ∙ sym (undone_writer (session_view c.args.pass.now) (session_view c.loop-rid.pass) c.loop-rid.invariant.gone c.loop-rid.invariant.undone)

pub undo_one-requires-clause-mine : goal.undo_one-requires-clause-mine
undo_one-requires-clause-mine g c =
    let v = session_view c.args.pass.now in
    let i = c.loop-rid.invariant in
    let r = c.in-Some.rid in
    let last : c.loop-rid.records.list ≡ c.pop.new.self.list ++ r ∷ [] = search rules in
    let all : c.args.records.now.list ≡ (c.pop.new.self.list ++ r ∷ []) ++ i.gone = i.all ∙ ap (λ l. l ++ i.gone) last in
    let apart = last_apart c.pop.new.self.list i.gone r (subst NoneTwice all c.requires.once) in
    let mine = c.requires.mine r (ap (is_among r) all ∙ last_among c.pop.new.self.list i.gone r) in
    let log : open_in r (session (session_view c.loop-rid.pass)).log ≡ open_in r (session v).log = ap (open_in r) (undone_log v (session_view c.loop-rid.pass) i.gone i.undone) ∙
    (open_undone r i.gone (session v).log ∙ ap (λ b. cond b None (open_in r (session v).log)) apart) in
    subst IsSome (sym log) mine

pub loop-rid-preserved : goal.loop-rid-preserved
loop-rid-preserved g c =
    let i = c.loop-rid.invariant in
    let r = c.in-Some.rid in
    let last : c.loop-rid.records.list ≡ c.pop.new.self.list ++ r ∷ [] = search rules in
    record {
      gone = r ∷ i.gone;
      all = i.all ∙ (ap (λ l. l ++ i.gone) last ∙ append_assoc c.pop.new.self.list (r ∷ []) i.gone);
      undone = undone_more (session_view c.args.pass.now) (session_view c.loop-rid.pass) (session_view c.undo_one.new.pass) i.gone r i.undone c.undo_one.ensures.undone;
      own = c.undo_one.ensures.own;
    }

pub undo_one-requires-clause-own : goal.undo_one-requires-clause-own
undo_one-requires-clause-own g c = c.loop-rid.invariant.own

pub undo_one-requires-clause-only : goal.undo_one-requires-clause-only
undo_one-requires-clause-only g c = alone_only (session_view c.loop-rid.pass) _ _ _ c.loop-rid.invariant.undone.alone

pub undo_one-requires-clause-unstamped : goal.undo_one-requires-clause-unstamped
undo_one-requires-clause-unstamped g c =
    ap (λ (p : SessionPart). p.stamped) (first_session (session_view c.loop-rid.pass) _ _ [] c.loop-rid.invariant.undone.alone.parts) ∙ c.requires.unstamped

pub returns-clause-own : goal.returns-clause-own
returns-clause-own g c = c.loop-rid.invariant.own
