-- A list of records, as clauses see it.
use Rattle.std.specs.Prelude.{ℕ, List, [], length, max, ◌-◌}
use Rattle.hg_base.specs.declared.rid.Rid.{Rid}

-- the records, and how many more there is room for
pub record Rids : Type 0 where
  pub list : List Rid
  pub room : ℕ

-- no record, and room for one, which takes no memory
abbrev pub no_rids : Rids
no_rids = record { list = []; room = 1 }

-- these records, where a vector has so many places: without a vector one record lies in the list itself
abbrev pub rids_of : List Rid → ℕ → Rids
rids_of rids places = record { list = rids; room = max 1 places - length rids }
