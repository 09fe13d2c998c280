-- What a bucket counts of its versions.
use Rattle.std.specs.Prelude.{◌≡◌, ℕ, ◌+◌, List, [], ◌∷◌, length, Bool, ◌&&◌, ◌==◌, not, if◌then◌else◌, is_some}
use Rattle.hg_base.specs.declared.rid.Rid.{Rid}
use Rattle.hg_base.specs.declared.report.Kind.{Kind}
use Rattle.hg_base.specs.declared.report.Kind.TheVariants.{Group, Table, Interval}
use Rattle.hg_base.specs.History.{image_in}
use Rattle.hg_core.specs.declared.log.LogEntry.{LogEntry}
use Rattle.hg_core.specs.declared.log.LogEntry.TheVariants.{Wrote, Undid}
use Rattle.hg_core.specs.declared.version.Stamp.TheVariants.{Written}
use Rattle.hg_core.specs.declared.version.Version.{Version}
use Rattle.hg_core.specs.declared.visit.Removed.{Removed}
use Rattle.hg_core.specs.declared.visit.Counters.{Counters}
use Rattle.hg_core.specs.declared.visit.Visit.{Visit}
use Rattle.hg_core.specs.Logs.{own_writes}
use Rattle.hg_core.specs.Contents.{Content, bucket_of}
use Rattle.hg_core.specs.Sums.{sum_to, sum_below}

-- ---- how counters grow

-- no version removed, by any kind of collector
abbrev pub none_removed : Removed
none_removed = record { group = 0; table = 0; interval = 0 }

-- counters of a bucket in which nothing was done
abbrev pub no_counters : Counters
no_counters = record { made = 0; undone = 0; removed = none_removed }

-- how many a kind of collector removed
abbrev pub removed_by : Kind → Removed → ℕ
removed_by Group removed = removed.group
removed_by Table removed = removed.table
removed_by Interval removed = removed.interval

-- so many more
abbrev pub removed_more : Kind → ℕ → Removed → Removed
removed_more Group n removed = record removed { group = removed.group + n }
removed_more Table n removed = record removed { table = removed.table + n }
removed_more Interval n removed = record removed { interval = removed.interval + n }

-- how many versions a write adds: none where it takes the place of the open one
abbrev pub added : List Version → ℕ
added [] = 1
added (v ∷ vs) = elim v.stamp [ Written by ↦ 0 | _ ↦ 1 ]

-- ---- what they count

-- how many versions a content has
abbrev pub total : Content → ℕ
total [] = 0
total (e ∷ content) = length e.1 + total content

-- whether a record is of a bucket
abbrev pub is_of : ℕ → ℕ → Rid → Bool
is_of buckets b r = bucket_of buckets r == b

-- how many pairs of a transaction and a record that passes a test have a write in a log: a pair's first write counts
abbrev pub first_writes : (Rid → Bool) → List LogEntry → ℕ
first_writes test [] = 0
first_writes test (Wrote r image ∷ log) = (if test r && not (is_some (image_in r (own_writes log))) then 1 else 0) + first_writes test log
first_writes test (_ ∷ log) = first_writes test log

-- how many writes of records that pass a test were taken back
abbrev pub undos : (Rid → Bool) → List LogEntry → ℕ
undos test [] = 0
undos test (Undid r ∷ log) = (if test r then 1 else 0) + undos test log
undos test (_ ∷ log) = undos test log

-- how many versions a kind of collector removed in a list of visits
abbrev pub removed_all : Kind → List Visit → ℕ
removed_all kind [] = 0
removed_all kind (v ∷ visits) = removed_by kind v.removed + removed_all kind visits

-- and in those of one bucket
abbrev pub removed_in : Kind → ℕ → List Visit → ℕ
removed_in kind b [] = 0
removed_in kind b (v ∷ visits) = (if v.bucket == b then removed_by kind v.removed else 0) + removed_in kind b visits

-- Of each bucket: made is undone, removed and held. What was made and undone is in the logs, and what was removed in the
-- visits.
pub record CountersBalance (sessions buckets passes : ℕ) (log : ℕ → List LogEntry) (bucket : ℕ → Content) (counters : ℕ → Counters) (visits : ℕ → List Visit) : Type 0 where
  pub made : (b : ℕ) → (counters b).made ≡ sum_to sessions (λ j. first_writes (is_of buckets b) (log j))
  pub undone : (b : ℕ) → (counters b).undone ≡ sum_to sessions (λ j. undos (is_of buckets b) (log j))
  pub removed : (kind : Kind) (b : ℕ) → removed_by kind (counters b).removed ≡ sum_below passes (λ p. removed_in kind b (visits p))
  pub balance : (b : ℕ) → (counters b).made ≡ (counters b).undone + (counters b).removed.group + (counters b).removed.table + (counters b).removed.interval + total (bucket b)
