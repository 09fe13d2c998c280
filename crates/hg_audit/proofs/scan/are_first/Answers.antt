use Rattle.std.proofs.Common.{◌≡◌, ◌≤◌, length, subst, arith}
use Rattle.std.specs.Prelude.{Decides}
use Rattle.hg_base.specs.Replies.{AreRows}
use Rattle.hg_base.specs.Transcript.{passed}
use Rattle.hg_known.specs.Lines.{rest_of, said_of}
use Rattle.hg_audit.specs.Seen.{look}
use Rattle.hg_audit.proofs.scan.are_first.Goals as goal

pub returns : goal.returns
returns c =
    λ h earlier shows is.
    let see = look h earlier (said_of c.args.now.now) c.args.rest.table in
    let rows = c.args.rows.now in
    let high = c.args.rest.high in
    let last : c.passed-last.result ≡ passed c.args.most high rows = c.passed-last.ensures in
    let up_to : c.passed-last.result ≤ high = omega (arith, c.if-last-rest.false) in
    let few : length rows ≤ c.args.most = omega (arith, c.if-rows-most.false) in
    let d = subst (λ k. Decides c.is_scanned.result (AreRows see (rest_of c.args.rest).low k rows)) last (c.is_scanned.ensures h earlier shows is) in
    (λ e. record { few = few; within = subst (λ k. k ≤ high) last up_to; all = d.0 e }, λ first. d.1 first.all)
