-- The order of records.
use Rattle.std.specs.declared.cmp.Ordering.{Ordering}
use Rattle.std.specs.Ordering.{nat_cmp, ordering_then}
use Rattle.hg_base.specs.declared.rid.Rid.{Rid}

-- records are ordered by table, and then by key
abbrev pub rid_cmp : Rid → Rid → Ordering
rid_cmp a b = ordering_then (nat_cmp a.table.0 b.table.0) (nat_cmp a.key b.key)
