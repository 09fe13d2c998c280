use Rattle.std.proofs.Common.{◌^◌, take, List}
use Rattle.std.specs.Prelude.{unwrap_or}
use Rattle.hg_base.specs.History.{History}
use Rattle.hg_base.specs.Transcript.{Said}
use Rattle.hg_known.specs.Lines.{said_of}
use Rattle.hg_known.specs.Owned.{HasOwn}
use Rattle.hg_known.specs.Written.{IsOfHistory}
use Rattle.hg_audit.specs.Seen.{look}
use Rattle.hg_audit.proofs.Scanned.{Scanning}
use Rattle.hg_audit.proofs.scan.is_scanned.Given as goal

abbrev pub invariant-loop-key : goal.invariant-loop-key
invariant-loop-key l = (h : History) (earlier : List Said) → IsOfHistory h l.writes → HasOwn l.own earlier (said_of l.now) →
    Scanning (look h earlier (said_of l.now) l.table) (unwrap_or l.initial.from (2 ^ 64)) l.high (take l.key-index l.rows) l.from
