-- What a fetch looks at, and what it returns.
use Rattle.std.specs.Prelude.{◌≡◌, ℕ, ◌+◌, ◌≤◌, [], Option, Some, None, Result, Ok, Err}
use Rattle.hg_base.specs.declared.rid.TableId.{TableId}
use Rattle.hg_base.specs.declared.fault.NoMemory.{NoMemory}
use Rattle.hg_base.specs.declared.image.Image.{Image}
use Rattle.hg_base.specs.History.{History, visible}
use Rattle.hg_base.specs.Transcript.{passed}
use Rattle.hg_core.specs.Reading.{looks, Picks}
use Rattle.hg_bucket.specs.BucketModel.{record_at}
use Rattle.hg_rule.specs.declared.view.View.{View}
use Rattle.hg_cursor.specs.declared.cursor.Cursor.{Cursor}
use Rattle.hg_cursor.specs.Keys.{Rows}
use Rattle.hg_cursor.specs.Logs.{Adds}

-- a cursor's snapshot
abbrev pub at_of : Cursor → ℕ
at_of c = c.at

-- a cursor's table
abbrev pub table_of : Cursor → TableId
table_of c = c.table

-- the last key of a cursor's range
abbrev pub high_of : Cursor → ℕ
high_of c = c.high

-- the first key that a cursor has not passed: none once it is done
abbrev pub rest_of : Cursor → Option ℕ
rest_of c = c.rest

-- ---- looks

-- The log has gained so many looks at a range, and nothing else: one at each of the buckets of the first keys. These are different
-- buckets (`once`), and each can have a key of the range (`reached`).
pub record LooksAt (count : ℕ) (old : View) (table : TableId) (low high : ℕ) (new : View) : Type 0 where
  pub number : ℕ
  pub once : number ≤ count
  pub reached : low + number ≤ high + 1
  pub part : ℕ → Rows
  pub adds : Adds old (looks count table low high part number) new

-- The first n rows of a range, by looks at it. No bucket was looked at whose first key is over the last one passed: so there are no
-- more looks than keys passed.
pub record FetchesRows (count n : ℕ) (old : View) (table : TableId) (low high : ℕ) (rows : Rows) (new : View) : Type 0 where
  pub looked : LooksAt count old table low high new
  pub picks : Picks count n table low high looked.number looked.part rows
  pub needed : low + looked.number ≤ passed n high rows + 1

-- a fetch returns the first n rows of a range by looks at it; where memory ran out, it only looked
abbrev pub Fetches : ℕ → ℕ → View → TableId → ℕ → ℕ → Result Rows NoMemory → View → Type 0
Fetches count n old table low high (Ok rows) new = FetchesRows count n old table low high rows new
Fetches count n old table low high (Err e) new = LooksAt count old table low high new

-- the same of what a cursor has left: where that is nothing, no bucket is taken
abbrev pub FetchesRest : ℕ → ℕ → View → TableId → Option ℕ → ℕ → Result Rows NoMemory → View → Type 0
FetchesRest count n old table None high answer new = (answer ≡ Ok []) × (new ≡ old)
FetchesRest count n old table (Some low) high answer new = Fetches count n old table low high answer new

-- ---- rows

-- what a table that never reclaims shows at a snapshot
abbrev pub shown_at : History → TableId → ℕ → ℕ → Image
shown_at h table at key = visible h (record_at table key) at
