use Rattle.std.proofs.Common.{◌∙◌, sym, ap, subst}
use Rattle.std.specs.Prelude.{Decides, option_map}
use Rattle.hg_base.specs.History.{seen}
use Rattle.hg_base.specs.Transcript.{own_writes, table_of, has}
use Rattle.hg_base.specs.Replies.{IsAnswer, IsGot, IsPut, IsDeleted, IsScanned, IsCommitted, IsUndeclared, is_written}
use Rattle.hg_known.specs.Lines.{rest_of, said_of}
use Rattle.hg_audit.specs.Seen.{look}
use Rattle.hg_audit.proofs.Looking.{decided_within, decided_without}
use Rattle.hg_audit.proofs.reply.is_answer.Goals as goal

pub returns-else-not-is_within : goal.returns-else-not-is_within
returns-else-not-is_within c =
    λ mode h earlier command shows is.
    let now = said_of c.args.now.now in
    let see = seen h (own_writes earlier now) now.at in
    let r = c.in-Get.rid in
    subst (λ s. Decides c.is_got.result (IsAnswer mode see (is_written (own_writes earlier now)) (option_map rest_of c.args.now.now.rest) now s)) (sym c.in-Get.is)
    (decided_within (has now.scope r.table) c.is_got.result (IsGot (see r) now.reply.answer) (IsUndeclared r.table now.reply.answer)
    (sym (c.is_within.ensures (ap table_of c.in-Get.is)) ∙ c.if-not-is_within.false)
    (c.is_got.ensures (see r) (c.see.ensures h earlier shows is)))

pub returns-else-not-is_within-3 : goal.returns-else-not-is_within-3
returns-else-not-is_within-3 c =
    λ mode h earlier command shows is.
    let now = said_of c.args.now.now in
    let see = seen h (own_writes earlier now) now.at in
    let r = c.in-Del.rid in
    subst (λ s. Decides c.is_deleted.result (IsAnswer mode see (is_written (own_writes earlier now)) (option_map rest_of c.args.now.now.rest) now s)) (sym c.in-Del.is)
    (decided_within (has now.scope r.table) c.is_deleted.result (IsDeleted (see r) now.reply.answer) (IsUndeclared r.table now.reply.answer)
    (sym (c.is_within-in-Del.ensures (ap table_of c.in-Del.is)) ∙ c.if-not-is_within-3.false)
    (c.is_deleted.ensures (see r) (c.see-in-Del.ensures h earlier shows is)))

pub returns-else-not-is_within-4 : goal.returns-else-not-is_within-4
returns-else-not-is_within-4 c =
    λ mode h earlier command shows is.
    let now = said_of c.args.now.now in
    let t = c.in-Scan.table in
    subst (λ s. Decides c.is_scan.result (IsAnswer mode (seen h (own_writes earlier now) now.at) (is_written (own_writes earlier now))
    (option_map rest_of c.args.now.now.rest) now s)) (sym c.in-Scan.is)
    (decided_within (has now.scope t) c.is_scan.result (IsScanned (look h earlier now t) c.in-Scan.low c.in-Scan.high now.reply.answer) (IsUndeclared t now.reply.answer)
    (sym (c.is_within-in-Scan.ensures (ap table_of c.in-Scan.is)) ∙ c.if-not-is_within-4.false)
    (c.is_scan.ensures h earlier shows is))

pub returns-in-Fetch : goal.returns-in-Fetch
returns-in-Fetch c =
    λ mode h earlier command shows is.
    let now = said_of c.args.now.now in
    subst (λ s. Decides c.is_fetched.result (IsAnswer mode (seen h (own_writes earlier now) now.at) (is_written (own_writes earlier now))
    (option_map rest_of c.args.now.now.rest) now s)) (sym c.in-Fetch.is)
    (c.is_fetched.ensures h earlier shows is)

pub returns-in-Commit : goal.returns-in-Commit
returns-in-Commit c =
    λ mode h earlier command shows is.
    let now = said_of c.args.now.now in
    subst (λ s. Decides c.is_committed.result (IsAnswer mode (seen h (own_writes earlier now) now.at) (is_written (own_writes earlier now))
    (option_map rest_of c.args.now.now.rest) now s)) (sym c.in-Commit.is)
    (subst (λ b. Decides c.is_committed.result (IsCommitted b now.reply.answer)) (c.wrote.ensures earlier is) c.is_committed.ensures)

pub returns-in-Begin : goal.returns-in-Begin
returns-in-Begin c =
    λ mode h earlier command shows is.
    let now = said_of c.args.now.now in
    subst (λ s. Decides c.is_begun.result (IsAnswer mode (seen h (own_writes earlier now) now.at) (is_written (own_writes earlier now))
    (option_map rest_of c.args.now.now.rest) now s)) (sym c.in-Begin.is) c.is_begun.ensures

pub returns-in-CursorOpen : goal.returns-in-CursorOpen
returns-in-CursorOpen c =
    λ mode h earlier command shows is.
    let now = said_of c.args.now.now in
    subst (λ s. Decides c.is_begun-in-CursorOpen.result (IsAnswer mode (seen h (own_writes earlier now) now.at) (is_written (own_writes earlier now))
    (option_map rest_of c.args.now.now.rest) now s)) (sym c.in-CursorOpen.is) c.is_begun-in-CursorOpen.ensures

pub returns-in-CursorClose : goal.returns-in-CursorClose
returns-in-CursorClose c =
    λ mode h earlier command shows is.
    let now = said_of c.args.now.now in
    subst (λ s. Decides c.is_ended.result (IsAnswer mode (seen h (own_writes earlier now) now.at) (is_written (own_writes earlier now))
    (option_map rest_of c.args.now.now.rest) now s)) (sym c.in-CursorClose.is) c.is_ended.ensures

pub returns-in-Rollback : goal.returns-in-Rollback
returns-in-Rollback c =
    λ mode h earlier command shows is.
    let now = said_of c.args.now.now in
    subst (λ s. Decides c.is_undone.result (IsAnswer mode (seen h (own_writes earlier now) now.at) (is_written (own_writes earlier now))
    (option_map rest_of c.args.now.now.rest) now s)) (sym c.in-Rollback.is) c.is_undone.ensures

pub returns-in-Gc : goal.returns-in-Gc
returns-in-Gc c =
    λ mode h earlier command shows is.
    let now = said_of c.args.now.now in
    subst (λ s. Decides c.is_collected.result (IsAnswer mode (seen h (own_writes earlier now) now.at) (is_written (own_writes earlier now))
    (option_map rest_of c.args.now.now.rest) now s)) (sym c.in-Gc.is) (c.is_collected.ensures mode command)

pub returns-then-not-is_within : goal.returns-then-not-is_within
returns-then-not-is_within c =
    λ mode h earlier command shows is.
    let now = said_of c.args.now.now in
    subst (λ s. Decides c.is_undeclared.result (IsAnswer mode (seen h (own_writes earlier now) now.at) (is_written (own_writes earlier now))
    (option_map rest_of c.args.now.now.rest) now s)) (sym c.in-Get.is)
    (decided_without (has now.scope c.in-Get.rid.table) c.is_undeclared.result
    (IsGot (seen h (own_writes earlier now) now.at c.in-Get.rid) now.reply.answer) (IsUndeclared c.in-Get.rid.table now.reply.answer)
    (sym (c.is_within.ensures (ap table_of c.in-Get.is)) ∙ c.if-not-is_within.true) c.is_undeclared.ensures)

pub returns-then-not-is_within-2 : goal.returns-then-not-is_within-2
returns-then-not-is_within-2 c =
    λ mode h earlier command shows is.
    let now = said_of c.args.now.now in
    subst (λ s. Decides c.is_undeclared-then-not-is_within-2.result (IsAnswer mode (seen h (own_writes earlier now) now.at) (is_written (own_writes earlier now))
    (option_map rest_of c.args.now.now.rest) now s)) (sym c.in-Put.is)
    (decided_without (has now.scope c.in-Put.rid.table) c.is_undeclared-then-not-is_within-2.result (IsPut now.reply.answer) (IsUndeclared c.in-Put.rid.table now.reply.answer)
    (sym (c.is_within-in-Put.ensures (ap table_of c.in-Put.is)) ∙ c.if-not-is_within-2.true) c.is_undeclared-then-not-is_within-2.ensures)

pub returns-then-not-is_within-3 : goal.returns-then-not-is_within-3
returns-then-not-is_within-3 c =
    λ mode h earlier command shows is.
    let now = said_of c.args.now.now in
    subst (λ s. Decides c.is_undeclared-then-not-is_within-3.result (IsAnswer mode (seen h (own_writes earlier now) now.at) (is_written (own_writes earlier now))
    (option_map rest_of c.args.now.now.rest) now s)) (sym c.in-Del.is)
    (decided_without (has now.scope c.in-Del.rid.table) c.is_undeclared-then-not-is_within-3.result
    (IsDeleted (seen h (own_writes earlier now) now.at c.in-Del.rid) now.reply.answer) (IsUndeclared c.in-Del.rid.table now.reply.answer)
    (sym (c.is_within-in-Del.ensures (ap table_of c.in-Del.is)) ∙ c.if-not-is_within-3.true) c.is_undeclared-then-not-is_within-3.ensures)

pub returns-then-not-is_within-4 : goal.returns-then-not-is_within-4
returns-then-not-is_within-4 c =
    λ mode h earlier command shows is.
    let now = said_of c.args.now.now in
    subst (λ s. Decides c.is_undeclared-then-not-is_within-4.result (IsAnswer mode (seen h (own_writes earlier now) now.at) (is_written (own_writes earlier now))
    (option_map rest_of c.args.now.now.rest) now s)) (sym c.in-Scan.is)
    (decided_without (has now.scope c.in-Scan.table) c.is_undeclared-then-not-is_within-4.result
    (IsScanned (look h earlier now c.in-Scan.table) c.in-Scan.low c.in-Scan.high now.reply.answer) (IsUndeclared c.in-Scan.table now.reply.answer)
    (sym (c.is_within-in-Scan.ensures (ap table_of c.in-Scan.is)) ∙ c.if-not-is_within-4.true) c.is_undeclared-then-not-is_within-4.ensures)

pub returns-else-not-is_within-2 : goal.returns-else-not-is_within-2
returns-else-not-is_within-2 c =
    λ mode h earlier command shows is.
    let now = said_of c.args.now.now in
    subst (λ s. Decides c.is_put.result (IsAnswer mode (seen h (own_writes earlier now) now.at) (is_written (own_writes earlier now))
    (option_map rest_of c.args.now.now.rest) now s)) (sym c.in-Put.is)
    (decided_within (has now.scope c.in-Put.rid.table) c.is_put.result (IsPut now.reply.answer) (IsUndeclared c.in-Put.rid.table now.reply.answer)
    (sym (c.is_within-in-Put.ensures (ap table_of c.in-Put.is)) ∙ c.if-not-is_within-2.false) c.is_put.ensures)
