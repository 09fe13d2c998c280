use Rattle.std.proofs.Common.{sym, subst}
use Rattle.std.specs.Prelude.{Decides}
use Rattle.hg_base.specs.Replies.{IsScanned, AreRows}
use Rattle.hg_known.specs.Lines.{said_of}
use Rattle.hg_audit.specs.Seen.{look}
use Rattle.hg_audit.proofs.reply.is_scan.Goals as goal

pub returns-in-Rows : goal.returns-in-Rows
returns-in-Rows c =
    λ h earlier shows is.
    let see = look h earlier (said_of c.args.now.now) c.args.table in
    subst (λ a. Decides c.is_scanned.result (IsScanned see c.args.low c.args.high a)) (sym c.in-Rows.is)
    (subst (λ rows. Decides c.is_scanned.result (AreRows see c.args.low c.args.high rows)) c.as_slice.ensures (c.is_scanned.ensures h earlier shows is))
