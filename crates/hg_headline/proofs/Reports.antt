-- A statement is answered by a report only where it is a `gc`.
use Rattle.std.proofs.Common.{◌≡◌, ℕ, List, Option, Some, None, refl}
use Rattle.hg_base.specs.declared.statement.Statement.{Statement}
use Rattle.hg_base.specs.declared.statement.Statement.TheVariants.{Fetch, Rollback, Gc}
use Rattle.hg_base.specs.declared.report.Sweep.{Sweep}
use Rattle.hg_base.specs.declared.line.Answer.{Answer}
use Rattle.hg_base.specs.declared.line.Answer.TheVariants.{Swept}
use Rattle.hg_base.specs.History.{Write}
use Rattle.hg_base.specs.Transcript.{Rest}
use Rattle.hg_core.specs.Reading.{Unprinted, IsFetchAnswer, FitsAnswer}
use Rattle.hg_headline.specs.Ran.{LeavesGc}

abbrev pub report_in : Answer → Option Sweep
report_in a = elim a [ Swept sweep ↦ Some sweep | _ ↦ None ]

pub no_report : (buckets : ℕ) (u : Unprinted) (own : List Write) (s : Statement) (a : Answer) → LeavesGc s a → FitsAnswer buckets u own s a → report_in a ≡ None
no_report buckets u own (Gc kind) (Swept sweep) e f = absurd e
no_report buckets u own Rollback (Swept sweep) e f = absurd f.0
no_report buckets u own (Fetch n) (Swept sweep) e f = absurd (none_swept u.rest f)
  where
    none_swept : (rest : Option Rest) → IsFetchAnswer buckets n rest u.part u.looked (Swept sweep) → ⊥
    none_swept None g = g
    none_swept (Some rest) g = g
no_report buckets u own _ (Swept sweep) e f = absurd f
no_report buckets u own _ _ e f = refl
