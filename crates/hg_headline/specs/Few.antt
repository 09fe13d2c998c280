-- How few versions a replay holds after an interval round.
use Rattle.std.specs.Prelude.{ℕ, suc, ◌+◌, ◌*◌, ◌≤◌, List, length, filter, filter_map, sum_by}
use Rattle.hg_base.specs.declared.rid.Rid.{Rid}
use Rattle.hg_base.specs.declared.report.Kind.TheVariants as kinds
use Rattle.hg_base.specs.Counts.{first_writes, is_committed, once, removed_by}
use Rattle.hg_base.specs.History.{rids_of}
use Rattle.hg_base.specs.Transcript.{Said, stored}

-- the records that these lines wrote, each once
abbrev pub written : List Said → List Rid
written all = once (rids_of (filter_map stored all))

-- how many versions were committed: one for each record that a transaction with a commit number wrote
abbrev pub committed_versions : List Said → ℕ
committed_versions all = length (filter (is_committed all) (first_writes all))

-- how many versions the reports say were removed
abbrev pub removed_versions : List Said → ℕ
removed_versions all = sum_by (removed_by kinds.Group) all + sum_by (removed_by kinds.Table) all + sum_by (removed_by kinds.Interval) all

-- After these lines, with so many snapshots in use: of the committed versions that were not removed there are, for each record that was
-- written, at most one more than snapshots.
abbrev pub HoldsFew : ℕ → List Said → Type 0
HoldsFew snapshots all = committed_versions all ≤ removed_versions all + length (written all) * suc snapshots
