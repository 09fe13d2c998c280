-- A list of entries, as clauses see it.
use Rattle.std.specs.Prelude.{ℕ, List}
use Rattle.hg_base.specs.declared.report.Entry.{Entry}

-- the entries, and for how many in all there is room
pub record Entries : Type 0 where
  pub list : List Entry
  pub room : ℕ
