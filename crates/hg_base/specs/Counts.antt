-- The six totals. Own.
use Rattle.std.specs.Prelude.{◌≡◌, ℕ, ◌+◌, ◌≤◌, List, [], ◌∷◌, length, filter, sum_by, Bool, false, not, if◌then◌else◌, Option, Some, None, is_some, is_none}
use Rattle.std.specs.List.{flat_map, list_any, cons_option}
use Rattle.std.specs.Option.{option_map_or}
use Rattle.hg_base.specs.declared.rid.Rid.{Rid}
use Rattle.hg_base.specs.declared.report.Kind.{Kind}
use Rattle.hg_base.specs.declared.report.Kind.TheVariants as kinds
use Rattle.hg_base.specs.declared.line.Totals.{Totals}
use Rattle.hg_base.specs.History.{History, image_in, same_rid, group_rids, visible}
use Rattle.hg_base.specs.Transcript.{Said, is_of, stored, committed, own_writes}
use Rattle.hg_base.specs.Shape.{same_kind, report_of}

-- the line, if it is the first stored write of its record in its transaction
abbrev pub first_write : List Said → Said → Option Said
first_write earlier now = if option_map_or (λ w. is_none (image_in w.rid (own_writes earlier now))) (stored now) false then Some now else None

-- of these lines, after the earlier ones, each first write of a record by its transaction
abbrev pub first_writes_from : List Said → List Said → List Said
first_writes_from earlier [] = []
first_writes_from earlier (now ∷ later) = cons_option (first_write earlier now) (first_writes_from (now ∷ earlier) later)

-- of all lines, each first write of a record by its transaction
abbrev pub first_writes : List Said → List Said
first_writes all = first_writes_from [] all

-- whether the transaction of `now` has a commit number
abbrev pub is_committed : List Said → Said → Bool
is_committed all now = list_any (λ said. is_some (committed said)) (filter (is_of now.session now.transaction) all)

-- what a line says that a collector of that kind removed
abbrev pub removed_by : Kind → Said → ℕ
removed_by kind said = option_map_or (λ sweep. if same_kind sweep.kind kind then sweep.removed else 0) (report_of said.reply) 0

-- each record once
abbrev pub once : List Rid → List Rid
once [] = []
once (r ∷ rids) = r ∷ filter (λ other. not (same_rid other r)) (once rids)

-- the records that are rows at the end
abbrev pub live : History → List Rid
live h = filter (λ r. is_some (visible h r (length h)).row) (once (flat_map group_rids h))

-- Versions made, undone, removed by each collector, and left: one image for each live record. They balance, so `table`,
-- which has the removals that nothing prints, is fixed too.
pub record AreTotals (all : List Said) (h : History) (totals : Totals) : Type 0 where
  pub made : totals.made ≡ length (first_writes all)
  pub undone : totals.undone ≡ length (filter (λ said. not (is_committed all said)) (first_writes all))
  pub group : totals.group ≡ sum_by (removed_by kinds.Group) all
  pub table : sum_by (removed_by kinds.Table) all ≤ totals.table
  pub interval : totals.interval ≡ sum_by (removed_by kinds.Interval) all
  pub left : totals.left ≡ length (live h)
  pub balance : totals.made ≡ totals.undone + totals.group + totals.table + totals.interval + totals.left
