-- What a pass takes from a bucket that it holds, table by table.
use Rattle.std.specs.Prelude.{◌≡◌, ℕ, ◌<◌, ◌≤◌, List, ◌++◌}
use Rattle.hg_base.specs.declared.rid.Rid.{Rid}
use Rattle.hg_base.specs.declared.report.Kind.{Kind}
use Rattle.hg_base.specs.Lists.{Each}
use Rattle.hg_core.specs.declared.version.Version.{Version}
use Rattle.hg_rule.specs.declared.view.Event.{Event}
use Rattle.hg_rule.specs.declared.view.View.{View}
use Rattle.hg_rule.specs.Holding.{held}
use Rattle.hg_rule.specs.Rounds.{IsWork, gone_in}
use Rattle.hg_store.specs.Clearing.{Counts}

-- So many versions went, by these steps, and nothing else is counted.
pub record Removes (kind : Kind) (gone : ℕ) (v w : View) : Type 0 where
  pub counts : Counts v kind gone w
  pub steps : List Event
  pub work : Each IsWork steps
  pub removed : gone_in steps ≡ gone
  pub events : w.events ≡ v.events ++ steps

-- The pass went through the first n tables of the bucket: each record of theirs is as Q has it, and each other one as it was.
pub record ClearsTables (kind : Kind) (Q : Rid → List Version → Type 0) (n gone : ℕ) (v w : View) : Type 0 where
  pub removes : Removes kind gone v w
  pub left : (r : Rid) → r.table.0 < n → Q r (held w r)
  pub rest : (r : Rid) → n ≤ r.table.0 → held w r ≡ held v r
