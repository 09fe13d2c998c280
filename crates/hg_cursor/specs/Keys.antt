-- The keys of a bucket, what a transaction reads of them, and a search for those that have a version.
use Rattle.std.specs.Prelude.{◌≡◌, ℕ, ◌<◌, ◌≤◌, List, [], ◌∷◌, length, Option, Some, None, ⊤}
use Rattle.hg_base.specs.declared.rid.TableId.{TableId}
use Rattle.hg_base.specs.declared.image.Image.{Image}
use Rattle.hg_base.specs.declared.writer.Writer.{Writer}
use Rattle.hg_base.specs.declared.value.Value.{Value}
use Rattle.hg_base.specs.Lists.{Each}
use Rattle.hg_core.specs.Contents.{Content, bucket_of, look}
use Rattle.hg_core.specs.Replies.{read_by}
use Rattle.hg_bucket.specs.BucketModel.{record_at}

-- rows with their keys
abbrev pub Rows : Type 0
Rows = List (ℕ × List Value)

-- a row with its key, if there is one
abbrev pub rows_at : ℕ → Option (List Value) → Rows
rows_at key None = []
rows_at key (Some row) = (key, row) ∷ []

-- the table's record of that key belongs to bucket b
abbrev pub IsOwnKey : ℕ → ℕ → TableId → ℕ → Type 0
IsOwnKey count b table key = bucket_of count (record_at table key) ≡ b

-- all records of a content belong to bucket b
abbrev pub AreOwn : ℕ → ℕ → Content → Type 0
AreOwn count b content = Each (λ e. bucket_of count e.0 ≡ b) content

-- the record of that key has a version
abbrev pub HasVersion : Content → TableId → ℕ → Type 0
HasVersion content table key = 0 < length (look (record_at table key) content)

-- what a transaction reads of each key
abbrev pub read_of : Writer → ℕ → TableId → Content → ℕ → Image
read_of by at table content key = read_by by at (look (record_at table key) content)

-- a key that was found is in the range
abbrev pub IsWithin : ℕ → ℕ → Option ℕ → Type 0
IsWithin from high None = ⊤
IsWithin from high (Some next) = (from ≤ next) × (next ≤ high)

-- A search from a number to `high` passes over none of the keys sought: each is at or over the key that was found, and where none
-- was found there is none.
abbrev pub LeadsOn : (ℕ → Type 0) → ℕ → ℕ → Option ℕ → Type 0
LeadsOn Sought from high None = (k : ℕ) → from ≤ k → k ≤ high → Sought k → ⊥
LeadsOn Sought from high (Some next) = (k : ℕ) → from ≤ k → k ≤ high → Sought k → next ≤ k

-- the least key from `low` to `high` that is bucket b's own
abbrev pub IsFirstOwn : ℕ → ℕ → TableId → ℕ → ℕ → ℕ → Type 0
IsFirstOwn count b table low high key = IsWithin low high (Some key) × IsOwnKey count b table key × LeadsOn (IsOwnKey count b table) low high (Some key)
