use Rattle.std.proofs.Common.{◌≡◌, ℕ, Option, [], ◌∷◌, inr, Ok, Err, refl, sym, ap, ◌∙◌, subst, rules, map}
use Rattle.std.specs.Prelude.{IfSome, IfErr, IfOk, is_some, ⊤}
use Rattle.hg_base.specs.Replies.{is_written}
use Rattle.hg_core.specs.declared.log.LogEntry.TheVariants.{Wrote, Undid, Over}
use Rattle.hg_core.specs.Logs.{own_writes}
use Rattle.hg_core.specs.Reading.{close, UndoesAll}
use Rattle.hg_rule.specs.Views.{session}
use Rattle.hg_session.specs.Engines.{engine_sizes}
use Rattle.hg_session.specs.Sessions.{view_of, written_of}
use Rattle.hg_session.specs.Gains.{Gains, IsAfter, IsRefusedBy, entries_of, receipt_number}
use Rattle.hg_session.specs.Alone.{WritesAlone, IsRefusedAlone}
use Rattle.hg_session.specs.Firsts.{ShowsPut, ShowsWrite}
use Rattle.hg_session.proofs.Replying.{no_writes}
use Rattle.hg_session.proofs.Putting.{nothing_undone, refused_over, refused_bare, committed_alone}
use Rattle.hg_session.proofs.Refusing.{one_undone}
use Rattle.hg_session.proofs.Firsts.{put_told, write_later}
use Rattle.hg_session.proofs.Settling.{gains_on}
use Rattle.hg_session.proofs.session.Session.write_alone.Goals as goal

pub returns-in-Err-clause-refused : goal.returns-in-Err-clause-refused
returns-in-Err-clause-refused g c =
    let z = engine_sizes c.args.engine.now in
    let v = view_of c.args.self.now in
    let m = view_of c.write_row.new.self in
    let w = view_of c.undo_open.new.session in
    let r = c.undo_open.ensures.gains in
    let wrote = subst (λ x. Gains v (entries_of c.args.rid c.args.image x) m) c.in-Err.is c.write_row.ensures.gains in
    let bare = refused_bare v m c.args.rid c.args.image c.in-Err.refusal wrote
    (no_writes (written_of c.args.self.now) (session v).log c.requires.own.ties.plain c.requires.own.ties.written_is c.requires.unwritten) in
    let none = nothing_undone r.0 (subst (λ own. UndoesAll own r.0) bare r.1.0) in
    let over = subst (λ rids. Gains m (Over ∷ map Undid rids) w) none r.1.1 in
    let refused = subst (λ x. IfErr x (IsRefusedBy z v c.args.snapshot.at)) c.in-Err.is c.write_row.ensures.refused in
    subst (IsRefusedAlone z v c.args.rid c.args.image c.args.snapshot.at w) (sym c.refused_at.ensures)
    (refused_over z v m w c.args.rid c.args.image c.args.snapshot.at c.in-Err.refusal wrote over refused)

pub returns-in-Ok-clause-stored : goal.returns-in-Ok-clause-stored
returns-in-Ok-clause-stored g c =
    let v = view_of c.args.self.now in
    let m = view_of c.write_row.new.self in
    let w = view_of c.commit_open.new.session in
    let r = c.in-Ok.receipt in
    let is : c.write_row.result ≡ Ok tt = search rules in
    let wrote = subst (λ x. Gains v (entries_of c.args.rid c.args.image x) m) is c.write_row.ensures.gains in
    let closes : Gains m (close (receipt_number r)) w = subst (λ x. IfOk x (λ receipt. Gains m (close (receipt_number receipt)) w)) c.in-Ok.is c.commit_open.ensures.gains in
    let some : is_some r ≡ is_written (own_writes (session m).log) = subst (λ x. IfOk x (λ receipt. is_some receipt ≡ is_written (own_writes (session m).log))) c.in-Ok.is
    c.commit_open.ensures.wrote in
    let after : IfSome (receipt_number r) (IsAfter m.sights c.args.snapshot.at) = subst
    (λ x. IfOk x (λ receipt. IfSome (receipt_number receipt) (IsAfter m.sights c.args.snapshot.at))) c.in-Ok.is c.commit_open.ensures.after in
    let number : c.map.result ≡ receipt_number r = search rules in
    subst (WritesAlone v c.args.rid c.args.image c.args.snapshot.at w) (sym number) (committed_alone v m w c.args.rid c.args.image c.args.snapshot.at r wrote closes some after)

pub returns-in-Err-commit_open-clause-refused : goal.returns-in-Err-commit_open-clause-refused
returns-in-Err-commit_open-clause-refused g c =
    let v = view_of c.args.self.now in
    let m = view_of c.write_row.new.self in
    let n = view_of c.commit_open.new.session in
    let w = view_of c.undo_open-in-Err-commit_open.new.session in
    let r = c.undo_open-in-Err-commit_open.ensures.gains in
    let stored = Wrote c.args.rid c.args.image ∷ [] in
    let is : c.write_row.result ≡ Ok tt = search rules in
    let wrote = subst (λ x. Gains v (entries_of c.args.rid c.args.image x) m) is c.write_row.ensures.gains in
    let bare = no_writes (written_of c.args.self.now) (session v).log c.requires.own.ties.plain c.requires.own.ties.written_is c.requires.unwritten in
    let back : Gains m [] n = search rules in
    let two = gains_on v m n stored [] wrote back (λ l. refl) in
    let own = ap own_writes two.log ∙ ap (λ ws. record { rid = c.args.rid; image = c.args.image } ∷ ws) bare in
    let undone = one_undone (record { rid = c.args.rid; image = c.args.image }) r.0 (subst (λ ws. UndoesAll ws r.0) own r.1.0) in
    let over = subst (λ rids. Gains n (Over ∷ map Undid rids) w) undone r.1.1 in
    inr (gains_on v n w stored (Over ∷ Undid c.args.rid ∷ []) two over (λ l. refl))

pub returns-in-Err-clause-first : goal.returns-in-Err-clause-first
returns-in-Err-clause-first g c =
    let v = view_of c.args.self.now in
    let m = view_of c.write_row.new.self in
    let w = view_of c.undo_open.new.session in
    let at = c.args.snapshot.at in
    let first = subst (λ x. ShowsWrite v c.args.rid at x m) c.in-Err.is c.write_row.ensures.first in
    subst (λ e. ShowsPut {T = Option ℕ} v c.args.rid at (Err e) w) (sym c.refused_at.ensures)
    (put_told (Option ℕ) v w c.args.rid at c.in-Err.refusal (write_later {T = ⊤} v m w c.args.rid at (Err c.in-Err.refusal) c.undo_open.ensures.gains.1.1.kept first))

pub returns-in-Ok-clause-first : goal.returns-in-Ok-clause-first
returns-in-Ok-clause-first g c =
    let v = view_of c.args.self.now in
    let m = view_of c.write_row.new.self in
    let w = view_of c.commit_open.new.session in
    let r = c.in-Ok.receipt in
    let is : c.write_row.result ≡ Ok tt = search rules in
    let closes : Gains m (close (receipt_number r)) w = subst (λ x. IfOk x (λ receipt. Gains m (close (receipt_number receipt)) w)) c.in-Ok.is c.commit_open.ensures.gains in
    subst (λ x. ShowsWrite v c.args.rid c.args.snapshot.at x w) is (write_later v m w c.args.rid c.args.snapshot.at c.write_row.result closes.kept c.write_row.ensures.first)
