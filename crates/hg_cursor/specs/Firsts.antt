-- The rows that a fetch has copied, and which of them it returns.
use Rattle.std.specs.Prelude.{◌≡◌, ℕ, ◌<◌, List, min, take, nat_le, if◌then◌else◌}
use Rattle.std.specs.List.{filter, sum_by}
use Rattle.std.specs.List.Sorted.{IsPermutation, IsNonDecreasingBy}
use Rattle.hg_base.specs.declared.value.Value.{Value}
use Rattle.hg_base.specs.Transcript.{passed}
use Rattle.hg_cursor.specs.Keys.{Rows}

-- rows that were copied, of which so many at most are to be returned
pub record Copied : Type 0 where
  pub rows : Rows
  pub most : ℕ

-- a row up to a key counts as one
abbrev pub one_upto : ℕ → ℕ × List Value → ℕ
one_upto limit p = if nat_le p.0 limit then 1 else 0

-- how many rows are up to a key
abbrev pub count_upto : ℕ → Rows → ℕ
count_upto limit rows = sum_by (one_upto limit) rows

-- the rows up to a key
abbrev pub rows_upto : ℕ → Rows → Rows
rows_upto limit rows = filter (λ p. nat_le p.0 limit) rows

-- how many keys are up to another one
abbrev pub keys_upto : ℕ → List ℕ → ℕ
keys_upto limit keys = sum_by (λ k. if nat_le k limit then 1 else 0) keys

-- these are the n least keys of rows, or all: however far one counts, there are as many as rows, and n where there are more rows
abbrev pub AreLeast : ℕ → List ℕ → Rows → Type 0
AreLeast n keys rows = (limit : ℕ) → keys_upto limit keys ≡ min n (count_upto limit rows)

-- all rows up to this key are needed: up to each lower one there are fewer than are to be returned
abbrev pub IsNeeded : ℕ → Copied → Type 0
IsNeeded key copied = (k : ℕ) → k < key → count_upto k copied.rows < copied.most

-- the first n rows of several, by key, and the last key that they pass
pub record Keeps (n limit : ℕ) (old new : Rows) (upto : ℕ) : Type 0 where
  pub sorted : Rows
  pub permutes : IsPermutation old sorted
  pub order : IsNonDecreasingBy (λ p. p.0) sorted
  pub is : new ≡ take n sorted
  pub upto_is : upto ≡ passed n limit new
