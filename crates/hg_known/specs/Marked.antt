-- What is kept of reports and of printed snapshots.
use Rattle.std.specs.Prelude.{◌≡◌, ℕ, List, Bool, false, ◌&&◌, ◌==◌, filter_map}
use Rattle.std.specs.List.{list_any}
use Rattle.std.specs.Option.{option_map_or}
use Rattle.std.specs.BTreeSet.{contains}
use Rattle.std.specs.declared.cmp.Ordering.{Ordering}
use Rattle.std.specs.Ordering.{nat_cmp, ordering_then}
use Rattle.hg_base.specs.declared.report.Kind.{Kind}
use Rattle.hg_base.specs.declared.report.Kind.TheVariants as kinds
use Rattle.hg_base.specs.Lists.{greatest}
use Rattle.hg_base.specs.Transcript.{Said}
use Rattle.hg_base.specs.Freshness.{mark_of, snapshot_of, is_declared}
use Rattle.hg_known.specs.declared.before.Marks.{Marks}
use Rattle.hg_known.specs.declared.context.Point.{Point}
use Rattle.hg_known.specs.declared.context.Points.{Points}

-- the mark that is kept of a kind of collector
abbrev pub mark_in : Marks → Kind → ℕ
mark_in marks kinds.Group = marks.group
mark_in marks kinds.Table = marks.table
mark_in marks kinds.Interval = marks.interval

-- of each collector, the greatest mark that it reported, and 0 where it reported none
abbrev pub AreMarks : Marks → List Said → Type 0
AreMarks marks earlier = (kind : Kind) → mark_in marks kind ≡ greatest (filter_map (mark_of kind) earlier)

-- snapshots in the order of their sessions, and then of their numbers
abbrev pub point_cmp : Point → Point → Ordering
point_cmp a b = ordering_then (nat_cmp a.session b.session) (nat_cmp a.number b.number)

-- the snapshot n of session j
abbrev pub point : ℕ → ℕ → Point
point j n = record { session = j; number = n }

-- whether the line prints snapshot n of session j
abbrev pub prints_point : ℕ → ℕ → Said → Bool
prints_point j n said = (said.session == j) && option_map_or (λ s. s == n) (snapshot_of said) false

-- which snapshots lines print is kept, and which of them lines of declared transactions print
pub record ArePoints (points : Points) (lines : List Said) : Type 0 where
  pub printed : (j n : ℕ) → contains point_cmp points.printed (point j n) ≡ list_any (prints_point j n) lines
  pub declared : (j n : ℕ) → contains point_cmp points.declared (point j n) ≡ list_any (λ said. prints_point j n said && is_declared said.scope) lines
