use Rattle.std.proofs.Common.{◌≡◌, [], ◌∷◌, true, Some, None, Err, sym, ap, ◌∙◌, subst, rules}
use Rattle.std.specs.Prelude.{IfSome, IfErr, IfOk}
use Rattle.hg_base.specs.declared.statement.Statement.TheVariants as say
use Rattle.hg_core.specs.declared.log.LogEntry.TheVariants.{Began}
use Rattle.hg_core.specs.Logs.{current, own_writes}
use Rattle.hg_rule.specs.Views.{session}
use Rattle.hg_session.specs.Engines.{engine_sizes}
use Rattle.hg_session.specs.Sessions.{view_of}
use Rattle.hg_session.specs.Gains.{Gains}
use Rattle.hg_session.specs.Replies.{put_reply, refused_reply}
use Rattle.hg_session.specs.Firsts.{AnswersWrite, ShowsPut}
use Rattle.hg_core.specs.Shown.{HasOpen, reads_at}
use Rattle.hg_base.specs.Transcript.{only}
use Rattle.hg_base.specs.declared.line.Answer.TheVariants as answers
use Rattle.hg_base.specs.declared.line.Reply.{Reply}
use Rattle.hg_session.specs.Alone.{WritesAlone, IsRefusedAlone}
use Rattle.hg_session.proofs.Replying.{nothing_more}
use Rattle.hg_session.proofs.Putting.{puts, stored_alone, refused_alone}
use Rattle.hg_session.proofs.Refusing.{no_write}
use Rattle.hg_session.proofs.Firsts.{bare, both, put_back, refused_first, stored_first}
use Rattle.hg_session.proofs.put.put_alone.Goals as goal

pub returns-in_err-number-clause-reply : goal.returns-in_err-number-clause-reply
returns-in_err-number-clause-reply g c =
    let z = engine_sizes c.args.engine.now in
    let v = view_of c.args.session.now in
    let m = view_of c.open-snapshot.new.self in
    let w = view_of c.write_alone.new.self in
    let at = c.open-snapshot.result.at in
    let none : current (session v).log ≡ None = search rules in
    let begun = subst (λ s. Gains v (Began at s ∷ []) m) c.only.ensures.is c.open-snapshot.ensures.gains in
    let e = c.in_err-number.field-0.0 in
    let why = subst (λ x. IfErr x (IsRefusedAlone z m c.args.rid (record { row = Some c.args.row }) at w)) c.in_err-number.was c.write_alone.ensures.refused in
    let same : c.from_residual.result ≡ Err e = search rules in
    let first = put_back v m w c.args.rid at (Began at (only (Some c.args.rid.table)) ∷ []) begun
    (bare (session m).log (HasOpen (session v).log c.args.rid) c.args.rid (ap own_writes begun.log)) c.write_alone.result c.write_alone.ensures.first in
    subst (λ x. IfSome (put_reply true x) (λ reply. AnswersWrite z v (say.Put c.args.rid c.args.row) c.args.rid reply w)) (sym same)
    (both z v w (say.Put c.args.rid c.args.row) c.args.rid (refused_reply true e)
    (refused_alone z (say.Put c.args.rid c.args.row) nothing_more v w c.args.rid (record { row = Some c.args.row }) [] _
    (puts z nothing_more (own_writes (session v).log) c.args.rid c.args.row) m at none c.open-snapshot.ensures.fresh begun e why)
    (refused_first v w c.args.rid at true e (subst (λ x. ShowsPut v c.args.rid at x w) c.in_err-number.was first)))

pub returns-in_err-number-clause-refused : goal.returns-in_err-number-clause-refused
returns-in_err-number-clause-refused g c =
    let z = engine_sizes c.args.engine.now in
    let v = view_of c.args.session.now in
    let m = view_of c.open-snapshot.new.self in
    let w = view_of c.write_alone.new.self in
    let at = c.open-snapshot.result.at in
    let begun = subst (λ s. Gains v (Began at s ∷ []) m) c.only.ensures.is c.open-snapshot.ensures.gains in
    let e = c.in_err-number.field-0.0 in
    let why = subst (λ x. IfErr x (IsRefusedAlone z m c.args.rid (record { row = Some c.args.row }) at w)) c.in_err-number.was c.write_alone.ensures.refused in
    let same : c.from_residual.result ≡ Err e = search rules in
    λ h. no_write z v m w c.args.rid (record { row = Some c.args.row }) at [] tt begun e why (let k = sym same ∙ h in cc)

pub returns-clause-reply : goal.returns-clause-reply
returns-clause-reply g c =
    let z = engine_sizes c.args.engine.now in
    let v = view_of c.args.session.now in
    let m = view_of c.open-snapshot.new.self in
    let w = view_of c.write_alone.new.self in
    let at = c.open-snapshot.result.at in
    let none : current (session v).log ≡ None = search rules in
    let begun = subst (λ s. Gains v (Began at s ∷ []) m) c.only.ensures.is c.open-snapshot.ensures.gains in
    let stored = subst (λ x. IfOk x (WritesAlone m c.args.rid (record { row = Some c.args.row }) at w)) c.in_ok-number.was c.write_alone.ensures.stored in
    let first = put_back v m w c.args.rid at (Began at (only (Some c.args.rid.table)) ∷ []) begun
    (bare (session m).log (HasOpen (session v).log c.args.rid) c.args.rid (ap own_writes begun.log)) c.write_alone.result c.write_alone.ensures.first in
    let reply : Reply = record { at = Some at; answer = answers.Stored; number = c.in_ok-number.number } in
    record {
      answers = stored_alone z (say.Put c.args.rid c.args.row) nothing_more v w c.args.rid (record { row = Some c.args.row }) [] _
          (puts z nothing_more (own_writes (session v).log) c.args.rid c.args.row) m at none c.open-snapshot.ensures.fresh begun c.in_ok-number.number stored;
      first = stored_first v w c.args.rid at reply (ap (λ o. reads_at o reply) none) (subst (λ x. ShowsPut v c.args.rid at x w) c.in_ok-number.was first);
    }
