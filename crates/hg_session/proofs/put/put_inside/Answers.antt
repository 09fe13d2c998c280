use Rattle.std.proofs.Common.{◌≡◌, [], ◌∷◌, false, Some, Err, refl, sym, ap, ◌∙◌, subst, append_assoc}
use Rattle.std.specs.Prelude.{IfSome, IfErr, ⊤}
use Rattle.hg_base.specs.declared.statement.Statement.TheVariants as say
use Rattle.hg_base.specs.Transcript.{has}
use Rattle.hg_core.specs.declared.log.LogEntry.TheVariants.{Wrote}
use Rattle.hg_core.specs.Logs.{current, own_writes}
use Rattle.hg_rule.specs.Views.{session}
use Rattle.hg_session.specs.Engines.{engine_sizes}
use Rattle.hg_session.specs.Sessions.{view_of}
use Rattle.hg_session.specs.Gains.{Gains, IsRefusedBy, outside_entries, entries_of}
use Rattle.hg_session.specs.Replies.{inside, refused_at, refused_reply}
use Rattle.hg_session.specs.Firsts.{AnswersWrite, ShowsWrite}
use Rattle.hg_core.specs.Shown.{HasOpen, reads_at}
use Rattle.hg_base.specs.declared.line.Answer.TheVariants as answers
use Rattle.hg_session.proofs.Replying.{nothing_more, undeclared_inside}
use Rattle.hg_session.proofs.Putting.{puts, stored_inside, refused_inside}
use Rattle.hg_session.proofs.Refusing.{looked_before, told_apart}
use Rattle.hg_session.proofs.Settling.{gains_on, refused_before}
use Rattle.hg_session.proofs.Firsts.{both, put_told, refused_first, stored_first, write_back}
use Rattle.hg_session.specs.declared.answers.PutRefusal.TheVariants as refusal
use Rattle.hg_session.proofs.Reading.{inside_scope, outside_scope, not_undeclared, no_more_writes}
use Rattle.hg_session.proofs.put.put_inside.Goals as goal

pub returns-then-is_outside-clause-reply : goal.returns-then-is_outside-clause-reply
returns-then-is_outside-clause-reply g c =
    let z = engine_sizes c.args.engine.now in
    let v = view_of c.args.session.now in
    let opened : current (session v).log ≡ Some c.args.snapshot = c.requires.own.ties.opens ∙ c.requires.opened in
    let gains = subst (λ b. Gains v (outside_entries b c.args.rid.table) (view_of c.is_outside.new.self)) c.if-is_outside.true c.is_outside.ensures.gains in
    record { answers = undeclared_inside z v (view_of c.is_outside.new.self) c.args.snapshot (say.Put c.args.rid c.args.row) c.args.rid.table opened refl refl tt refl gains; first = tt }

pub returns-in-Ok-clause-reply : goal.returns-in-Ok-clause-reply
returns-in-Ok-clause-reply g c =
    let z = engine_sizes c.args.engine.now in
    let v = view_of c.args.session.now in
    let w = view_of c.write_row.new.self in
    let opened : current (session v).log ≡ Some c.args.snapshot = c.requires.own.ties.opens ∙ c.requires.opened in
    let none = subst (λ b. Gains v (outside_entries b c.args.rid.table) (view_of c.is_outside.new.self)) c.if-is_outside.false c.is_outside.ensures.gains in
    let wrote = subst (λ r. Gains (view_of c.is_outside.new.self) (entries_of c.args.rid (record { row = Some c.args.row }) r) w) c.in-Ok.is c.write_row.ensures.gains in
    let all = gains_on v (view_of c.is_outside.new.self) w [] (Wrote c.args.rid (record { row = Some c.args.row }) ∷ []) none wrote (λ l. refl) in
    let first = write_back v (view_of c.is_outside.new.self) w c.args.rid c.args.snapshot.at [] none (subst (λ l. HasOpen l c.args.rid) none.log) c.write_row.result c.write_row.ensures.first in
    record {
      answers = stored_inside z (say.Put c.args.rid c.args.row) nothing_more v w c.args.rid (record { row = Some c.args.row }) [] _
          (puts z nothing_more (own_writes (session v).log) c.args.rid c.args.row) c.args.snapshot opened all;
      first = stored_first v w c.args.rid c.args.snapshot.at (inside answers.Stored) (ap (λ o. reads_at o (inside answers.Stored)) opened)
          (subst (λ r. ShowsWrite v c.args.rid c.args.snapshot.at r w) c.in-Ok.is first);
    }

pub returns-in-Err-clause-reply : goal.returns-in-Err-clause-reply
returns-in-Err-clause-reply g c =
    let z = engine_sizes c.args.engine.now in
    let v = view_of c.args.session.now in
    let m = view_of c.is_outside.new.self in
    let w = view_of c.write_row.new.self in
    let opened : current (session v).log ≡ Some c.args.snapshot = c.requires.own.ties.opens ∙ c.requires.opened in
    let none = subst (λ b. Gains v (outside_entries b c.args.rid.table) m) c.if-is_outside.false c.is_outside.ensures.gains in
    let wrote = subst (λ r. Gains m (entries_of c.args.rid (record { row = Some c.args.row }) r) w) c.in-Err.is c.write_row.ensures.gains in
    let all = gains_on v m w [] (entries_of {T = ⊤} c.args.rid (record { row = Some c.args.row }) (Err c.in-Err.refusal)) none wrote
    (λ l. sym (append_assoc (entries_of {T = ⊤} c.args.rid (record { row = Some c.args.row }) (Err c.in-Err.refusal)) [] l)) in
    let refused = refused_before z v m c.args.snapshot.at c.in-Err.refusal _ none (subst (λ r. IfErr r (IsRefusedBy z m c.args.snapshot.at)) c.in-Err.is c.write_row.ensures.refused) in
    let first = subst (λ r. ShowsWrite v c.args.rid c.args.snapshot.at r w) c.in-Err.is
    (write_back v m w c.args.rid c.args.snapshot.at [] none (subst (λ l. HasOpen l c.args.rid) none.log) c.write_row.result c.write_row.ensures.first) in
    subst (λ e. IfSome (refused_reply false e) (λ reply. AnswersWrite z v (say.Put c.args.rid c.args.row) c.args.rid reply w)) (sym c.refused_at.ensures)
    (both z v w (say.Put c.args.rid c.args.row) c.args.rid (refused_reply false (refused_at c.args.snapshot.at c.in-Err.refusal))
    (refused_inside z (say.Put c.args.rid c.args.row) nothing_more v w c.args.rid (record { row = Some c.args.row }) [] _
    (puts z nothing_more (own_writes (session v).log) c.args.rid c.args.row) c.args.snapshot c.args.snapshot.at c.in-Err.refusal opened all refused)
    (refused_first v w c.args.rid c.args.snapshot.at false (refused_at c.args.snapshot.at c.in-Err.refusal) (put_told ⊤ v w c.args.rid c.args.snapshot.at c.in-Err.refusal first)))

pub returns-in-Err-clause-refused : goal.returns-in-Err-clause-refused
returns-in-Err-clause-refused g c =
    let v = view_of c.args.session.now in
    let m = view_of c.is_outside.new.self in
    let w = view_of c.write_row.new.self in
    let none = subst (λ b. Gains v (outside_entries b c.args.rid.table) m) c.if-is_outside.false c.is_outside.ensures.gains in
    let es = entries_of {T = ⊤} c.args.rid (record { row = Some c.args.row }) (Err c.in-Err.refusal) in
    let wrote = subst (λ r. Gains m (entries_of c.args.rid (record { row = Some c.args.row }) r) w) c.in-Err.is c.write_row.ensures.gains in
    let all = gains_on v m w [] es none wrote (λ l. sym (append_assoc es [] l)) in
    λ same. looked_before v w c.args.rid (record { row = Some c.args.row }) c.args.snapshot.at [] tt c.in-Err.refusal all
    (let k : Err c.refused_at.result ≡ Err refusal.NoMemory = same in sym c.refused_at.ensures ∙ (let q = k in cc))

pub write_row-requires-clause-table : goal.write_row-requires-clause-table
write_row-requires-clause-table g c = (inside_scope (has c.args.snapshot.scope c.args.rid.table) c.is_outside.result c.is_outside.ensures.is c.if-is_outside.false, c.requires.table)

pub returns-in-Ok-clause-kept : goal.returns-in-Ok-clause-kept
returns-in-Ok-clause-kept g c = (
  c.write_row.ensures.kept.0 ∙ c.is_outside.ensures.kept.0,
  c.write_row.ensures.kept.1 ∙ c.is_outside.ensures.kept.2,
  c.write_row.ensures.kept.2 ∙ c.is_outside.ensures.kept.3,
)

pub returns-in-Err-clause-kept : goal.returns-in-Err-clause-kept
returns-in-Err-clause-kept g c = (
  c.write_row.ensures.kept.0 ∙ c.is_outside.ensures.kept.0,
  c.write_row.ensures.kept.1 ∙ c.is_outside.ensures.kept.2,
  c.write_row.ensures.kept.2 ∙ c.is_outside.ensures.kept.3,
)

pub returns-then-is_outside-clause-undeclared : goal.returns-then-is_outside-clause-undeclared
returns-then-is_outside-clause-undeclared g c = (λ _. refl, λ _. outside_scope (has c.args.snapshot.scope c.args.rid.table) c.is_outside.result c.is_outside.ensures.is c.if-is_outside.true)

pub returns-then-is_outside-clause-own : goal.returns-then-is_outside-clause-own
returns-then-is_outside-clause-own g c = no_more_writes c.args.engine.now c.is_outside.new.self c.is_outside.ensures.own

pub returns-in-Ok-clause-undeclared : goal.returns-in-Ok-clause-undeclared
returns-in-Ok-clause-undeclared g c = not_undeclared c.args.snapshot c.args.rid.table _ _ (inside_scope (has c.args.snapshot.scope c.args.rid.table) c.is_outside.result c.is_outside.ensures.is c.if-is_outside.false) (λ is. let k = is in cc)

pub returns-in-Err-clause-undeclared : goal.returns-in-Err-clause-undeclared
returns-in-Err-clause-undeclared g c = not_undeclared c.args.snapshot c.args.rid.table _ _ (inside_scope (has c.args.snapshot.scope c.args.rid.table) c.is_outside.result c.is_outside.ensures.is c.if-is_outside.false)
    (λ is. told_apart c.args.snapshot.at c.in-Err.refusal c.args.rid.table c.refused_at.result c.refused_at.ensures _ refl is)

pub write_row-requires-clause-own : goal.write_row-requires-clause-own
write_row-requires-clause-own g c = c.is_outside.ensures.own

pub returns-in-Ok-clause-own : goal.returns-in-Ok-clause-own
returns-in-Ok-clause-own g c = c.write_row.ensures.own

pub returns-in-Err-clause-own : goal.returns-in-Err-clause-own
returns-in-Err-clause-own g c = c.write_row.ensures.own
