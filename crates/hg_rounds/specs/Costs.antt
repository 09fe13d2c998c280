-- What visits of buckets cost.
use Rattle.std.specs.Prelude.{ℕ, zero, suc, ◌+◌, ◌<◌, ◌≤◌, List, length, sum_by}
use Rattle.hg_base.specs.declared.rid.Rid.{Rid}
use Rattle.hg_base.specs.Lists.{Each}
use Rattle.hg_base.specs.History.{NoneTwice}
use Rattle.hg_core.specs.Passes.{PassRecord, recorded}
use Rattle.hg_rule.specs.declared.view.View.{View}
use Rattle.hg_rule.specs.declared.view.Sizes.{Sizes}
use Rattle.hg_rule.specs.Holding.{held}
use Rattle.hg_rule.specs.Places.{HoldsBucket}
use Rattle.hg_rule.specs.Rules.{IsBacked}
use Rattle.hg_store.specs.Clearing.{IsLongOf}

-- a record of the bucket that v holds costs its versions, and the snapshots that count for its table
abbrev pub record_cost : PassRecord → View → Rid → ℕ
record_cost p v r = length (held v r) + length (recorded r.table p)

-- A count of steps rose at most by what some records of the first n tables cost, each once, that have more than their oldest
-- image.
pub record SpendsTables (n : ℕ) (p : PassRecord) (v : View) (before after : ℕ) : Type 0 where
  pub looked : List Rid
  pub once : NoneTwice looked
  pub are_below : Each (λ (r : Rid). r.table.0 < n) looked
  pub are_long : Each (λ (r : Rid). IsLongOf r.table v r) looked
  pub few : after ≤ before + sum_by (record_cost p v) looked

-- A visit of bucket b costs what can be shortened there, as the bucket was when it was taken: a state that meets the rule backs it.
pub record VisitCosts (z : Sizes) (p : PassRecord) (b before after : ℕ) : Type 0 where
  pub taken : View
  pub holds : HoldsBucket b taken
  pub mark : ℕ
  pub backed : IsBacked z mark taken
  pub spends : SpendsTables z.tables p taken before after

-- visits of the first n buckets, one after the other
abbrev pub VisitsCost : Sizes → PassRecord → ℕ → ℕ → ℕ → Type 0
VisitsCost z p zero before after = after ≤ before
VisitsCost z p (suc n) before after = (between : ℕ) × VisitsCost z p n before between × VisitCosts z p n between after
