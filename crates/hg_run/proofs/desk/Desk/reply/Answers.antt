use Rattle.std.proofs.Common.{◌≡◌, ◌≤◌, length, sym, subst}
use Rattle.hg_base.specs.declared.line.Line.{Line}
use Rattle.hg_base.specs.Transcript.{of_session}
use Rattle.hg_session.specs.Engines.{engine_sizes}
use Rattle.hg_collectors.proofs.Among.{if_ok}
use Rattle.hg_run.specs.Asked.{IsOnTables}
use Rattle.hg_run.proofs.RunningOut.{on_err}
use Rattle.hg_run.proofs.desk.Desk.reply.Goals as goal

pub answer_next-reply-requires-clause-may : goal.answer_next-reply-requires-clause-may
answer_next-reply-requires-clause-may g c ks within =
    let m = c.requires.may in
    let asked = c.args.asked in
    record {
      records = m.records;
      lines = m.lines;
      live = c.tidy.ensures.live m.records m.lines m.live;
      first = m.first;
      most = subst (λ e. asked.session ≤ (engine_sizes e).sessions) (sym c.tidy.ensures.engine) m.most;
      stands = m.stands;
      tables = subst (λ e. IsOnTables (engine_sizes e).tables asked.statement) (sym c.tidy.ensures.engine) m.tables;
    }

pub returns-in-Ok-clause-live : goal.returns-in-Ok-clause-live
returns-in-Ok-clause-live g c =
    if_ok _ _ c.answer_next-reply.result (λ reply next records lines live stands. next records lines (c.tidy.ensures.live records lines live) stands) c.answer_next-reply.ensures.live

pub returns-in-Ok-clause-told : goal.returns-in-Ok-clause-told
returns-in-Ok-clause-told g c =
    if_ok _ _ c.answer_next-reply.result (λ reply next lines told. next lines (c.tidy.ensures.told lines told)) c.answer_next-reply.ensures.told

pub returns-in_default-clause-stopped : goal.returns-in_default-clause-stopped
returns-in_default-clause-stopped g c =
    on_err _ _ c.answer_next-reply.result (λ next records lines live. next records lines (c.tidy.ensures.live records lines live)) c.answer_next-reply.ensures.stopped

pub returns-in_default-clause-spent : goal.returns-in_default-clause-spent
returns-in_default-clause-spent g c why records lines live =
    subst (λ e. (engine_sizes e).quota ≤ length (of_session c.args.asked.session records)) c.tidy.ensures.engine
    (c.answer_next-reply.ensures.spent why records lines (c.tidy.ensures.live records lines live))
