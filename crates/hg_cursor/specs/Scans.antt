-- What a scan reads of each bucket, and what a session's log gains.
use Rattle.std.specs.Prelude.{◌≡◌, ℕ, ◌≤◌, [], ◌∷◌, ◌++◌, map, Result, Ok, Err, OnOk}
use Rattle.hg_base.specs.declared.rid.TableId.{TableId}
use Rattle.hg_base.specs.declared.image.Image.{Image}
use Rattle.hg_base.specs.declared.fault.NoMemory.{NoMemory}
use Rattle.hg_base.specs.Lists.{Each, Ascends}
use Rattle.hg_base.specs.Replies.{AreRows}
use Rattle.hg_core.specs.declared.log.LogEntry.TheVariants.{Saw}
use Rattle.hg_core.specs.Reading.{IsReached, Joins, saws}
use Rattle.hg_rule.specs.declared.view.View.{View}
use Rattle.hg_cursor.specs.Keys.{Rows, IsOwnKey}
use Rattle.hg_cursor.specs.Logs.{Adds}

-- ---- the rows of one bucket

-- the rows of the range were appended to those that were there
pub record AppendsAll (shown : ℕ → Image) (low high : ℕ) (old new : Rows) : Type 0 where
  pub more : Rows
  pub is : new ≡ old ++ more
  pub rows : AreRows shown low high more

-- One look at bucket b, which is logged; and if the answer is Ok, the rows that it showed were appended to those that were
-- there. Their keys ascend, and are the bucket's own.
pub record SeesAll {T : Type 0} (count : ℕ) (old : View) (table : TableId) (low high b : ℕ) (before : Rows) (answer : Result T NoMemory) (new : View) (after : Rows) : Type 0 where
  pub part : Rows
  pub adds : Adds old (Saw table low high b part ∷ []) new
  pub ascend : Ascends (map (λ p. p.0) part)
  pub own : Each (λ p. IsOwnKey count b table p.0) part
  pub added : OnOk answer (after ≡ before ++ part)

-- ---- the rows of all

-- one look at each bucket that can have a key of the range, in ascending order, and the rows that all of them showed, by key
pub record ScansAll (count : ℕ) (old : View) (table : TableId) (low high : ℕ) (rows : Rows) (new : View) : Type 0 where
  pub part : ℕ → Rows
  pub joins : Joins (IsReached count table low high) part rows
  pub adds : Adds old (saws count table low high part count) new

-- one look at each of those among the first buckets
pub record ScansSome (count : ℕ) (old : View) (table : TableId) (low high : ℕ) (new : View) : Type 0 where
  pub seen : ℕ
  pub within : seen ≤ count
  pub part : ℕ → Rows
  pub adds : Adds old (saws count table low high part seen) new

-- what a scan leaves, by its answer
abbrev pub Scans : ℕ → View → TableId → ℕ → ℕ → Result Rows NoMemory → View → Type 0
Scans count old table low high (Ok rows) new = ScansAll count old table low high rows new
Scans count old table low high (Err e) new = ScansSome count old table low high new
