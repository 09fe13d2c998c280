use Rattle.std.proofs.Common.{◌≡◌, [], ◌∷◌, true, false, Some, None, Err, refl, sym, ap, ◌∙◌, subst, rules}
use Rattle.std.specs.Prelude.{IsTrue, IfSome, IfErr, IfOk, is_some}
use Rattle.hg_base.specs.declared.statement.Statement.TheVariants as say
use Rattle.hg_base.specs.History.{nothing}
use Rattle.hg_base.specs.Transcript.{only, has}
use Rattle.hg_core.specs.declared.log.LogEntry.TheVariants.{Began, Over}
use Rattle.hg_core.specs.Logs.{current, own_writes}
use Rattle.hg_core.specs.Reading.{saw}
use Rattle.hg_rule.specs.Views.{session}
use Rattle.hg_cursor.specs.Keys.{rows_at}
use Rattle.hg_session.specs.Engines.{engine_sizes}
use Rattle.hg_session.specs.Sessions.{view_of}
use Rattle.hg_session.specs.Gains.{Gains}
use Rattle.hg_session.specs.Replies.{del_reply, refused_reply}
use Rattle.hg_session.specs.Firsts.{AnswersWrite, ShowsPut}
use Rattle.hg_core.specs.Shown.{HasOpen, reads_at}
use Rattle.hg_base.specs.declared.line.Answer.TheVariants as answers
use Rattle.hg_base.specs.declared.line.Reply.{Reply}
use Rattle.hg_session.specs.Alone.{WritesAlone, IsRefusedAlone}
use Rattle.hg_session.proofs.Cursors.{has_only}
use Rattle.hg_session.proofs.Reading.{no_more_writes}
use Rattle.hg_session.proofs.Putting.{stored_alone, refused_alone}
use Rattle.hg_session.proofs.Refusing.{no_write}
use Rattle.hg_session.proofs.Firsts.{bare, both, gone_first, put_back, refused_first}
use Rattle.hg_session.proofs.Ranged.{dels, with_found, saw_found, found_row, no_row, nothing_alone}
use Rattle.hg_session.proofs.Settling.{gains_on}
use Rattle.hg_session.proofs.del.del_alone.Goals as goal

pub returns-then-not-see_there-clause-reply : goal.returns-then-not-see_there-clause-reply
returns-then-not-see_there-clause-reply g c =
    let z = engine_sizes c.args.engine.now in
    let v = view_of c.args.session.now in
    let m = view_of c.open-snapshot.new.self in
    let n = view_of c.see_there.new.session in
    let w = view_of c.end.new.self in
    let rid = c.args.rid in
    let at = c.open-snapshot.result.at in
    let none : current (session v).log ≡ None = search rules in
    let begun = subst (λ s. Gains v (Began at s ∷ []) m) c.only.ensures.is c.open-snapshot.ensures.gains in
    let absent : false ≡ is_some c.see_there.ensures.gains.0 = search rules in
    let seen = subst (λ r. Gains m (saw z.buckets rid (rows_at rid.key r) ∷ []) n) (no_row c.see_there.ensures.gains.0 absent) c.see_there.ensures.gains.1.0 in
    let two = gains_on v m n _ _ begun seen (λ l. refl) in
    record { answers = nothing_alone z v w at rid none c.open-snapshot.ensures.fresh (gains_on v n w _ (Over ∷ []) two c.end.ensures.gains (λ l. refl)); first = tt }

pub returns-in_err-number-clause-reply : goal.returns-in_err-number-clause-reply
returns-in_err-number-clause-reply g c =
    let z = engine_sizes c.args.engine.now in
    let v = view_of c.args.session.now in
    let m = view_of c.open-snapshot.new.self in
    let n = view_of c.see_there.new.session in
    let w = view_of c.write_alone.new.self in
    let rid = c.args.rid in
    let at = c.open-snapshot.result.at in
    let none : current (session v).log ≡ None = search rules in
    let begun = subst (λ s. Gains v (Began at s ∷ []) m) c.only.ensures.is c.open-snapshot.ensures.gains in
    let there : true ≡ is_some c.see_there.ensures.gains.0 = search rules in
    let row = found_row c.see_there.ensures.gains.0 there in
    let seen = subst (λ r. Gains m (saw z.buckets rid (rows_at rid.key r) ∷ []) n) row.1 c.see_there.ensures.gains.1.0 in
    let two = gains_on v m n (Began at (only (Some rid.table)) ∷ []) (saw_found z rid row.0) begun seen (λ l. refl) in
    let e = c.in_err-number.field-0.0 in
    let why = subst (λ x. IfErr x (IsRefusedAlone z n rid nothing at w)) c.in_err-number.was c.write_alone.ensures.refused in
    let same : c.from_residual.result ≡ Err e = search rules in
    let first = put_back v n w rid at (saw z.buckets rid (rows_at rid.key (Some row.0)) ∷ Began at (only (Some rid.table)) ∷ []) two
    (bare (session n).log (HasOpen (session v).log rid) rid (ap own_writes two.log)) c.write_alone.result c.write_alone.ensures.first in
    subst (λ x. IfSome (del_reply true x) (λ reply. AnswersWrite z v (say.Del rid) rid reply w)) (sym same)
    (both z v w (say.Del rid) rid (refused_reply true e)
    (refused_alone z (say.Del rid) (with_found row.0) v w rid nothing (saw_found z rid row.0) _ (dels z (own_writes (session v).log) rid row.0) n at none c.open-snapshot.ensures.fresh two e why)
    (refused_first v w rid at true e (subst (λ x. ShowsPut v rid at x w) c.in_err-number.was first)))

pub returns-in_err-number-clause-refused : goal.returns-in_err-number-clause-refused
returns-in_err-number-clause-refused g c =
    let z = engine_sizes c.args.engine.now in
    let v = view_of c.args.session.now in
    let m = view_of c.open-snapshot.new.self in
    let n = view_of c.see_there.new.session in
    let w = view_of c.write_alone.new.self in
    let rid = c.args.rid in
    let at = c.open-snapshot.result.at in
    let begun = subst (λ s. Gains v (Began at s ∷ []) m) c.only.ensures.is c.open-snapshot.ensures.gains in
    let there : true ≡ is_some c.see_there.ensures.gains.0 = search rules in
    let row = found_row c.see_there.ensures.gains.0 there in
    let seen = subst (λ r. Gains m (saw z.buckets rid (rows_at rid.key r) ∷ []) n) row.1 c.see_there.ensures.gains.1.0 in
    let two = gains_on v m n (Began at (only (Some rid.table)) ∷ []) (saw_found z rid row.0) begun seen (λ l. refl) in
    let e = c.in_err-number.field-0.0 in
    let why = subst (λ x. IfErr x (IsRefusedAlone z n rid nothing at w)) c.in_err-number.was c.write_alone.ensures.refused in
    let same : c.from_residual.result ≡ Err e = search rules in
    λ h. no_write z v n w rid nothing at (saw_found z rid row.0) ((refl, (refl, refl)), tt) two e why (let k = sym same ∙ h in cc)

pub returns-clause-reply : goal.returns-clause-reply
returns-clause-reply g c =
    let z = engine_sizes c.args.engine.now in
    let v = view_of c.args.session.now in
    let m = view_of c.open-snapshot.new.self in
    let n = view_of c.see_there.new.session in
    let w = view_of c.write_alone.new.self in
    let rid = c.args.rid in
    let at = c.open-snapshot.result.at in
    let none : current (session v).log ≡ None = search rules in
    let begun = subst (λ s. Gains v (Began at s ∷ []) m) c.only.ensures.is c.open-snapshot.ensures.gains in
    let there : true ≡ is_some c.see_there.ensures.gains.0 = search rules in
    let row = found_row c.see_there.ensures.gains.0 there in
    let seen = subst (λ r. Gains m (saw z.buckets rid (rows_at rid.key r) ∷ []) n) row.1 c.see_there.ensures.gains.1.0 in
    let two = gains_on v m n (Began at (only (Some rid.table)) ∷ []) (saw_found z rid row.0) begun seen (λ l. refl) in
    let stored = subst (λ x. IfOk x (WritesAlone n rid nothing at w)) c.in_ok-number.was c.write_alone.ensures.stored in
    let first = put_back v n w rid at (saw z.buckets rid (rows_at rid.key (Some row.0)) ∷ Began at (only (Some rid.table)) ∷ []) two
    (bare (session n).log (HasOpen (session v).log rid) rid (ap own_writes two.log)) c.write_alone.result c.write_alone.ensures.first in
    let reply : Reply = record { at = Some at; answer = answers.Gone; number = c.in_ok-number.number } in
    record {
      answers = stored_alone z (say.Del rid) (with_found row.0) v w rid nothing (saw_found z rid row.0) _
          (dels z (own_writes (session v).log) rid row.0) n at none c.open-snapshot.ensures.fresh two c.in_ok-number.number stored;
      first = gone_first v w rid at reply (ap (λ o. reads_at o reply) none) (subst (λ x. ShowsPut v rid at x w) c.in_ok-number.was first);
    }

-- ---- what each call may rely on

pub see_there-requires-clause-table : goal.see_there-requires-clause-table
see_there-requires-clause-table g c = subst (λ s. IsTrue (has s c.args.rid.table)) (sym (c.open-snapshot.ensures.scope ∙ c.only.ensures.is)) (has_only c.args.rid.table)

pub end-requires-clause-own : goal.end-requires-clause-own
end-requires-clause-own g c = no_more_writes c.args.engine.now c.see_there.new.session c.see_there.ensures.own

pub write_alone-requires-clause-own : goal.write_alone-requires-clause-own
write_alone-requires-clause-own g c = c.see_there.ensures.own

pub write_alone-requires-clause-opened : goal.write_alone-requires-clause-opened
write_alone-requires-clause-opened g c = c.see_there.ensures.kept.0 ∙ c.open-snapshot.ensures.opened.0

pub write_alone-requires-clause-unwritten : goal.write_alone-requires-clause-unwritten
write_alone-requires-clause-unwritten g c = c.see_there.ensures.kept.1 ∙ c.open-snapshot.ensures.opened.1

pub write_alone-requires-clause-table : goal.write_alone-requires-clause-table
write_alone-requires-clause-table g c = (
  subst (λ s. IsTrue (has s c.args.rid.table)) (sym (c.open-snapshot.ensures.scope ∙ c.only.ensures.is)) (has_only c.args.rid.table),
  c.requires.table,
)

-- ---- what each way out leaves

pub returns-then-not-see_there-clause-kept : goal.returns-then-not-see_there-clause-kept
returns-then-not-see_there-clause-kept g c = (
  c.end.ensures.kept.0 ∙ (c.see_there.ensures.kept.2 ∙ c.open-snapshot.ensures.kept.0),
  c.end.ensures.kept.1 ∙ (c.see_there.ensures.kept.3 ∙ c.open-snapshot.ensures.kept.1),
)

pub returns-in_err-number-clause-kept : goal.returns-in_err-number-clause-kept
returns-in_err-number-clause-kept g c = (
  c.write_alone.ensures.kept.0 ∙ (c.see_there.ensures.kept.2 ∙ c.open-snapshot.ensures.kept.0),
  c.write_alone.ensures.kept.1 ∙ (c.see_there.ensures.kept.3 ∙ c.open-snapshot.ensures.kept.1),
)

pub returns-clause-kept : goal.returns-clause-kept
returns-clause-kept g c = (
  c.write_alone.ensures.kept.0 ∙ (c.see_there.ensures.kept.2 ∙ c.open-snapshot.ensures.kept.0),
  c.write_alone.ensures.kept.1 ∙ (c.see_there.ensures.kept.3 ∙ c.open-snapshot.ensures.kept.1),
)
