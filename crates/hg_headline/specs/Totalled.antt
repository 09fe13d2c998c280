-- What the counters of one bucket tell, and those of all buckets together, of logs, visits and history alone. So buckets can
-- be counted one after the other, and no state is needed that shows them all at once.
use Rattle.std.specs.Prelude.{◌≡◌, ◌⊎◌, ℕ, ◌+◌, ◌<◌, List, [], ◌∷◌, length, filter, Some}
use Rattle.hg_base.specs.declared.rid.Rid.{Rid}
use Rattle.hg_base.specs.declared.report.Kind.TheVariants.{Group, Table, Interval}
use Rattle.hg_base.specs.declared.line.Totals.{Totals}
use Rattle.hg_base.specs.History.{History}
use Rattle.hg_base.specs.Counts.{live}
use Rattle.hg_core.specs.declared.log.LogEntry.{LogEntry}
use Rattle.hg_core.specs.declared.visit.Counters.{Counters}
use Rattle.hg_core.specs.declared.visit.Visit.{Visit}
use Rattle.hg_core.specs.Contents.{Content, bucket_of, look}
use Rattle.hg_core.specs.Clean.{IsCutAt}
use Rattle.hg_core.specs.Sums.{sum_to, sum_below}
use Rattle.hg_core.specs.Counters.{is_of, first_writes, undos, removed_in, removed_all}
use Rattle.hg_headline.specs.Counted.{made_in, undone_in}

-- ---- what a collector left

-- a visit of bucket b with that mark is over, and gave back each record of the bucket cut at it
pub record LeavesCut (buckets mark b : ℕ) (visit : Visit) : Type 0 where
  pub bucket : visit.bucket ≡ b
  pub mark_is : visit.mark ≡ mark
  pub given : Content
  pub gives : visit.given ≡ Some given
  pub cut : (r : Rid) → bucket_of buckets r ≡ b → IsCutAt mark (look r given)

-- one of a list does
abbrev pub HasCut : ℕ → ℕ → ℕ → List Visit → Type 0
HasCut buckets mark b [] = ⊥
HasCut buckets mark b (visit ∷ visits) = LeavesCut buckets mark b visit ⊎ HasCut buckets mark b visits

-- one of the passes has such a visit
abbrev pub WasLeftCut : ℕ → ℕ → ℕ → (ℕ → List Visit) → ℕ → Type 0
WasLeftCut buckets mark passes visits b = (p : ℕ) × ((p < passes) × HasCut buckets mark b (visits p))

-- ---- one bucket

-- the counts are those of the counters, and what is left is what was made less all that is gone
pub record AreCounts (counters : Counters) (counts : Totals) : Type 0 where
  pub made : counts.made ≡ counters.made
  pub undone : counts.undone ≡ counters.undone
  pub group : counts.group ≡ counters.removed.group
  pub table : counts.table ≡ counters.removed.table
  pub interval : counts.interval ≡ counters.removed.interval
  pub balance : counts.made ≡ counts.undone + counts.group + counts.table + counts.interval + counts.left

-- The counts are what the logs made and took back of the bucket's records, and what the visits of it removed. Where it was
-- left cut at the mark, one version is left for each of its records that is a row at the end.
pub record BucketTells (sessions buckets passes : ℕ) (logs : ℕ → List LogEntry) (visits : ℕ → List Visit) (h : History) (b : ℕ) (counts : Totals) : Type 0 where
  pub made : counts.made ≡ sum_to sessions (λ j. first_writes (is_of buckets b) (logs j))
  pub undone : counts.undone ≡ sum_to sessions (λ j. undos (is_of buckets b) (logs j))
  pub group : counts.group ≡ sum_below passes (λ p. removed_in Group b (visits p))
  pub table : counts.table ≡ sum_below passes (λ p. removed_in Table b (visits p))
  pub interval : counts.interval ≡ sum_below passes (λ p. removed_in Interval b (visits p))
  pub left : WasLeftCut buckets (length h) passes visits b → counts.left ≡ length (filter (is_of buckets b) (live h))
  pub balance : counts.made ≡ counts.undone + counts.group + counts.table + counts.interval + counts.left

-- ---- all buckets

-- the sums are those of the first n buckets
pub record SumTells (sessions buckets passes : ℕ) (logs : ℕ → List LogEntry) (visits : ℕ → List Visit) (h : History) (n : ℕ) (sums : Totals) : Type 0 where
  pub made : sums.made ≡ sum_below n (λ b. sum_to sessions (λ j. first_writes (is_of buckets b) (logs j)))
  pub undone : sums.undone ≡ sum_below n (λ b. sum_to sessions (λ j. undos (is_of buckets b) (logs j)))
  pub group : sums.group ≡ sum_below n (λ b. sum_below passes (λ p. removed_in Group b (visits p)))
  pub table : sums.table ≡ sum_below n (λ b. sum_below passes (λ p. removed_in Table b (visits p)))
  pub interval : sums.interval ≡ sum_below n (λ b. sum_below passes (λ p. removed_in Interval b (visits p)))
  pub left : ((b : ℕ) → b < n → WasLeftCut buckets (length h) passes visits b) → sums.left ≡ sum_below n (λ b. length (filter (is_of buckets b) (live h)))
  pub balance : sums.made ≡ sums.undone + sums.group + sums.table + sums.interval + sums.left

-- The totals are what the logs made and took back, and what the visits removed. Where each bucket was left cut at the mark,
-- one version is left for each record that is a row at the end.
pub record TotalsTell (sessions buckets passes : ℕ) (logs : ℕ → List LogEntry) (visits : ℕ → List Visit) (h : History) (totals : Totals) : Type 0 where
  pub made : totals.made ≡ made_in sessions logs
  pub undone : totals.undone ≡ undone_in sessions logs
  pub group : totals.group ≡ sum_below passes (λ p. removed_all Group (visits p))
  pub table : totals.table ≡ sum_below passes (λ p. removed_all Table (visits p))
  pub interval : totals.interval ≡ sum_below passes (λ p. removed_all Interval (visits p))
  pub left : ((b : ℕ) → b < buckets → WasLeftCut buckets (length h) passes visits b) → totals.left ≡ length (live h)
  pub balance : totals.made ≡ totals.undone + totals.group + totals.table + totals.interval + totals.left

-- ---- sums of counts

-- so many more
abbrev pub plus : Totals → Totals → Totals
plus sums counts = record {
  made = sums.made + counts.made;
  undone = sums.undone + counts.undone;
  group = sums.group + counts.group;
  table = sums.table + counts.table;
  interval = sums.interval + counts.interval;
  left = sums.left + counts.left;
}
