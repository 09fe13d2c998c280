use Rattle.std.proofs.Common.{◌≡◌, [], ◌∷◌, true, false, Some, Err, refl, sym, ap, ◌∙◌, subst, rules, append_assoc}
use Rattle.std.specs.Prelude.{IfSome, IfErr, is_some, ⊤}
use Rattle.hg_base.specs.declared.statement.Statement.TheVariants as say
use Rattle.hg_base.specs.History.{nothing}
use Rattle.hg_base.specs.Transcript.{has}
use Rattle.hg_core.specs.declared.log.LogEntry.TheVariants.{Wrote}
use Rattle.hg_core.specs.Logs.{current, own_writes}
use Rattle.hg_core.specs.Reading.{saw}
use Rattle.hg_rule.specs.Views.{session}
use Rattle.hg_cursor.specs.Keys.{rows_at}
use Rattle.hg_session.specs.Engines.{engine_sizes}
use Rattle.hg_session.specs.Sessions.{view_of}
use Rattle.hg_session.specs.Gains.{Gains, IsRefusedBy, outside_entries, entries_of}
use Rattle.hg_session.specs.Replies.{inside, refused_at, refused_reply}
use Rattle.hg_session.specs.Firsts.{AnswersWrite, ShowsWrite}
use Rattle.hg_core.specs.Shown.{HasOpen, reads_at}
use Rattle.hg_base.specs.declared.line.Answer.TheVariants as answers
use Rattle.hg_session.proofs.Replying.{undeclared_inside}
use Rattle.hg_session.proofs.Putting.{stored_inside, refused_inside}
use Rattle.hg_session.proofs.Reading.{inside_scope, no_more_writes, outside_scope}
use Rattle.hg_session.proofs.Ranged.{dels, with_found, saw_found, found_row, no_row, nothing_inside}
use Rattle.hg_session.proofs.Refusing.{looked_before}
use Rattle.hg_session.proofs.Settling.{gains_on, refused_before}
use Rattle.hg_session.proofs.Firsts.{both, gone_first, put_told, refused_first, write_back}
use Rattle.hg_session.specs.declared.answers.PutRefusal.TheVariants as refusal
use Rattle.hg_session.proofs.del.del_inside.Goals as goal

pub returns-then-is_outside-clause-reply : goal.returns-then-is_outside-clause-reply
returns-then-is_outside-clause-reply g c =
    let z = engine_sizes c.args.engine.now in
    let v = view_of c.args.session.now in
    let opened : current (session v).log ≡ Some c.args.snapshot = c.requires.own.ties.opens ∙ c.requires.opened in
    let gains = subst (λ b. Gains v (outside_entries b c.args.rid.table) (view_of c.is_outside.new.self)) c.if-is_outside.true c.is_outside.ensures.gains in
    record { answers = undeclared_inside z v (view_of c.is_outside.new.self) c.args.snapshot (say.Del c.args.rid) c.args.rid.table opened refl refl tt refl gains; first = tt }

pub returns-then-not-see_there-clause-reply : goal.returns-then-not-see_there-clause-reply
returns-then-not-see_there-clause-reply g c =
    let z = engine_sizes c.args.engine.now in
    let v = view_of c.args.session.now in
    let m = view_of c.is_outside.new.self in
    let w = view_of c.see_there.new.session in
    let opened : current (session v).log ≡ Some c.args.snapshot = c.requires.own.ties.opens ∙ c.requires.opened in
    let none = subst (λ b. Gains v (outside_entries b c.args.rid.table) m) c.if-is_outside.false c.is_outside.ensures.gains in
    let absent : false ≡ is_some c.see_there.ensures.gains.0 = search rules in
    let row = no_row c.see_there.ensures.gains.0 absent in
    let saw_none = subst (λ r. Gains m (saw z.buckets c.args.rid (rows_at c.args.rid.key r) ∷ []) w) row c.see_there.ensures.gains.1.0 in
    record { answers = nothing_inside z v w c.args.snapshot c.args.rid opened (gains_on v m w [] _ none saw_none (λ l. refl)); first = tt }

pub returns-in-Ok-clause-reply : goal.returns-in-Ok-clause-reply
returns-in-Ok-clause-reply g c =
    let z = engine_sizes c.args.engine.now in
    let v = view_of c.args.session.now in
    let m = view_of c.is_outside.new.self in
    let n = view_of c.see_there.new.session in
    let w = view_of c.write_row.new.self in
    let rid = c.args.rid in
    let opened : current (session v).log ≡ Some c.args.snapshot = c.requires.own.ties.opens ∙ c.requires.opened in
    let none = subst (λ b. Gains v (outside_entries b rid.table) m) c.if-is_outside.false c.is_outside.ensures.gains in
    let there : true ≡ is_some c.see_there.ensures.gains.0 = search rules in
    let row = found_row c.see_there.ensures.gains.0 there in
    let seen = subst (λ r. Gains m (saw z.buckets rid (rows_at rid.key r) ∷ []) n) row.1 c.see_there.ensures.gains.1.0 in
    let two = gains_on v m n [] (saw_found z rid row.0) none seen (λ l. refl) in
    let wrote = subst (λ r. Gains n (entries_of rid nothing r) w) c.in-Ok.is c.write_row.ensures.gains in
    let all = gains_on v n w (saw_found z rid row.0) (Wrote rid nothing ∷ []) two wrote (λ l. refl) in
    let first = write_back v n w rid c.args.snapshot.at (saw_found z rid row.0) two (subst (λ l. HasOpen l rid) two.log) c.write_row.result c.write_row.ensures.first in
    record {
      answers = stored_inside z (say.Del rid) (with_found row.0) v w rid nothing (saw_found z rid row.0) _ (dels z (own_writes (session v).log) rid row.0) c.args.snapshot opened all;
      first = gone_first v w rid c.args.snapshot.at (inside answers.Gone) (ap (λ o. reads_at o (inside answers.Gone)) opened) (subst (λ r. ShowsWrite v rid c.args.snapshot.at r w) c.in-Ok.is first);
    }

pub returns-in-Err-clause-reply : goal.returns-in-Err-clause-reply
returns-in-Err-clause-reply g c =
    let z = engine_sizes c.args.engine.now in
    let v = view_of c.args.session.now in
    let m = view_of c.is_outside.new.self in
    let n = view_of c.see_there.new.session in
    let w = view_of c.write_row.new.self in
    let rid = c.args.rid in
    let opened : current (session v).log ≡ Some c.args.snapshot = c.requires.own.ties.opens ∙ c.requires.opened in
    let none = subst (λ b. Gains v (outside_entries b rid.table) m) c.if-is_outside.false c.is_outside.ensures.gains in
    let there : true ≡ is_some c.see_there.ensures.gains.0 = search rules in
    let row = found_row c.see_there.ensures.gains.0 there in
    let seen = subst (λ r. Gains m (saw z.buckets rid (rows_at rid.key r) ∷ []) n) row.1 c.see_there.ensures.gains.1.0 in
    let two = gains_on v m n [] (saw_found z rid row.0) none seen (λ l. refl) in
    let es = entries_of {T = ⊤} rid nothing (Err c.in-Err.refusal) in
    let wrote = subst (λ r. Gains n (entries_of rid nothing r) w) c.in-Err.is c.write_row.ensures.gains in
    let all = gains_on v n w (saw_found z rid row.0) es two wrote (λ l. sym (append_assoc es (saw_found z rid row.0) l)) in
    let refused = refused_before z v n c.args.snapshot.at c.in-Err.refusal _ two (subst (λ r. IfErr r (IsRefusedBy z n c.args.snapshot.at)) c.in-Err.is c.write_row.ensures.refused) in
    let first = subst (λ r. ShowsWrite v rid c.args.snapshot.at r w) c.in-Err.is
    (write_back v n w rid c.args.snapshot.at (saw_found z rid row.0) two (subst (λ l. HasOpen l rid) two.log) c.write_row.result c.write_row.ensures.first) in
    subst (λ e. IfSome (refused_reply false e) (λ reply. AnswersWrite z v (say.Del rid) rid reply w)) (sym c.refused_at.ensures)
    (both z v w (say.Del rid) rid (refused_reply false (refused_at c.args.snapshot.at c.in-Err.refusal))
    (refused_inside z (say.Del rid) (with_found row.0) v w rid nothing (saw_found z rid row.0) _ (dels z (own_writes (session v).log) rid row.0) c.args.snapshot c.args.snapshot.at
    c.in-Err.refusal opened all refused)
    (refused_first v w rid c.args.snapshot.at false (refused_at c.args.snapshot.at c.in-Err.refusal) (put_told ⊤ v w rid c.args.snapshot.at c.in-Err.refusal first)))

pub returns-in-Err-clause-refused : goal.returns-in-Err-clause-refused
returns-in-Err-clause-refused g c =
    let z = engine_sizes c.args.engine.now in
    let v = view_of c.args.session.now in
    let m = view_of c.is_outside.new.self in
    let n = view_of c.see_there.new.session in
    let w = view_of c.write_row.new.self in
    let rid = c.args.rid in
    let none = subst (λ b. Gains v (outside_entries b rid.table) m) c.if-is_outside.false c.is_outside.ensures.gains in
    let seen = saw z.buckets rid (rows_at rid.key c.see_there.ensures.gains.0) ∷ [] in
    let two = gains_on v m n [] seen none c.see_there.ensures.gains.1.0 (λ l. refl) in
    let es = entries_of {T = ⊤} rid nothing (Err c.in-Err.refusal) in
    let wrote = subst (λ r. Gains n (entries_of rid nothing r) w) c.in-Err.is c.write_row.ensures.gains in
    let all = gains_on v n w seen es two wrote (λ l. sym (append_assoc es seen l)) in
    λ same. looked_before v w rid nothing c.args.snapshot.at seen ((refl, (refl, refl)), tt) c.in-Err.refusal all (let k : Err c.refused_at.result ≡ Err refusal.NoMemory = same in
    sym c.refused_at.ensures ∙ (let q = k in cc))

pub returns-then-not-see_there-clause-own : goal.returns-then-not-see_there-clause-own
returns-then-not-see_there-clause-own g c = no_more_writes c.args.engine.now c.see_there.new.session c.see_there.ensures.own

pub write_row-requires-clause-table : goal.write_row-requires-clause-table
write_row-requires-clause-table g c = (inside_scope (has c.args.snapshot.scope c.args.rid.table) c.is_outside.result c.is_outside.ensures.is c.if-is_outside.false, c.requires.table)

pub see_there-requires-clause-table : goal.see_there-requires-clause-table
see_there-requires-clause-table g c = inside_scope (has c.args.snapshot.scope c.args.rid.table) c.is_outside.result c.is_outside.ensures.is c.if-is_outside.false

pub write_row-requires-clause-opened : goal.write_row-requires-clause-opened
write_row-requires-clause-opened g c = c.see_there.ensures.kept.0 ∙ (c.is_outside.ensures.kept.0 ∙ c.requires.opened)

pub returns-then-not-see_there-clause-kept : goal.returns-then-not-see_there-clause-kept
returns-then-not-see_there-clause-kept g c = (
  c.see_there.ensures.kept.0 ∙ c.is_outside.ensures.kept.0,
  c.see_there.ensures.kept.2 ∙ c.is_outside.ensures.kept.2,
  c.see_there.ensures.kept.3 ∙ c.is_outside.ensures.kept.3,
)

pub returns-in-Ok-clause-kept : goal.returns-in-Ok-clause-kept
returns-in-Ok-clause-kept g c = (
  c.write_row.ensures.kept.0 ∙ (c.see_there.ensures.kept.0 ∙ c.is_outside.ensures.kept.0),
  c.write_row.ensures.kept.1 ∙ (c.see_there.ensures.kept.2 ∙ c.is_outside.ensures.kept.2),
  c.write_row.ensures.kept.2 ∙ (c.see_there.ensures.kept.3 ∙ c.is_outside.ensures.kept.3),
)

pub returns-in-Err-clause-kept : goal.returns-in-Err-clause-kept
returns-in-Err-clause-kept g c = (
  c.write_row.ensures.kept.0 ∙ (c.see_there.ensures.kept.0 ∙ c.is_outside.ensures.kept.0),
  c.write_row.ensures.kept.1 ∙ (c.see_there.ensures.kept.2 ∙ c.is_outside.ensures.kept.2),
  c.write_row.ensures.kept.2 ∙ (c.see_there.ensures.kept.3 ∙ c.is_outside.ensures.kept.3),
)

pub returns-then-is_outside-clause-undeclared : goal.returns-then-is_outside-clause-undeclared
returns-then-is_outside-clause-undeclared g c = (λ _. refl, λ _. outside_scope (has c.args.snapshot.scope c.args.rid.table) c.is_outside.result c.is_outside.ensures.is c.if-is_outside.true)

pub returns-then-is_outside-clause-own : goal.returns-then-is_outside-clause-own
returns-then-is_outside-clause-own g c = no_more_writes c.args.engine.now c.is_outside.new.self c.is_outside.ensures.own
