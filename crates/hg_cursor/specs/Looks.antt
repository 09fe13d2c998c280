-- What a fetch reads of one bucket.
use Rattle.std.specs.Prelude.{◌≡◌, ◌⊎◌, ℕ, ◌-◌, ◌<◌, ◌≤◌, [], ◌∷◌, ◌++◌, map, Result, IfOk, Contains}
use Rattle.hg_base.specs.declared.rid.TableId.{TableId}
use Rattle.hg_base.specs.declared.image.Image.{Image}
use Rattle.hg_base.specs.declared.writer.Writer.{Writer}
use Rattle.hg_base.specs.declared.fault.NoMemory.{NoMemory}
use Rattle.hg_base.specs.Lists.{Each, Ascends}
use Rattle.hg_base.specs.Replies.{AreRows}
use Rattle.hg_bucket.specs.BucketModel.{record_at}
use Rattle.hg_core.specs.declared.log.LogEntry.TheVariants.{Saw}
use Rattle.hg_core.specs.Contents.{Content, bucket_of}
use Rattle.hg_rule.specs.declared.view.View.{View}
use Rattle.hg_rule.specs.Holding.{bucket}
use Rattle.hg_store.specs.declared.held.Held.{Held}
use Rattle.hg_store.specs.Stores.{Holds}
use Rattle.hg_cursor.specs.declared.looks.Look.{Look}
use Rattle.hg_cursor.specs.Firsts.{Copied, count_upto}
use Rattle.hg_cursor.specs.Keys.{Rows, IsOwnKey, AreOwn, read_of}
use Rattle.hg_cursor.specs.Logs.{Adds}

-- a fact of a bucket that is held and of its number b, where one of its own keys is given
abbrev pub WhereOwn : Held → ℕ → TableId → ℕ → (View → ℕ → Type 0) → Type 0
WhereOwn held count table key Fact = (v : View) (b : ℕ) → Holds v held → AreOwn count b (bucket v).content → IsOwnKey count b table key → Fact v b

-- of the keys from `low` on this is the first one of its bucket
abbrev pub IsFirstKey : ℕ → ℕ → ℕ → Type 0
IsFirstKey count low own = (low ≤ own) × (own - low < count)

-- Rows are appended: those that a range shows up to a key. This is the range's last one, or else n rows are up to it.
pub record Appends (shown : ℕ → Image) (n low high : ℕ) (old new : Rows) (upto : ℕ) : Type 0 where
  pub more : Rows
  pub is : new ≡ old ++ more
  pub within : upto ≤ high
  pub rows : AreRows shown low upto more
  pub enough : (upto ≡ high) ⊎ (n ≤ count_upto upto new)

-- the same of what a transaction reads of a bucket's content, from the first key of a look to its limit
abbrev pub AppendsFirst : Writer → Look → Content → Copied → Copied → ℕ → Type 0
AppendsFirst by look content old new upto = Appends (read_of by look.request.at look.request.table content) old.most look.own look.limit old.rows new.rows upto

-- Rows are appended: those of a logged part up to a key. This is the limit, or else n rows are up to it.
pub record Takes (n limit : ℕ) (part old new : Rows) (upto : ℕ) : Type 0 where
  pub more : Rows
  pub is : new ≡ old ++ more
  pub ascend : Ascends (map (λ p. p.0) more)
  pub each : Each (λ p. Contains part p × (p.0 ≤ upto)) more
  pub every : Each (λ p. p.0 ≤ upto → Contains more p) part
  pub within : upto ≤ limit
  pub enough : (upto ≡ limit) ⊎ (n ≤ count_upto upto new)

-- One look: it logs the rows that its bucket has in the range of the request, and on Ok those up to the new limit are appended.
pub record Sees (count : ℕ) (look : Look) (old : View) (before : Copied) (answer : Result ℕ NoMemory) (new : View) (after : Copied) : Type 0 where
  pub part : Rows
  pub adds : Adds old (Saw look.request.table look.request.low look.request.high (bucket_of count (record_at look.request.table look.own)) part ∷ []) new
  pub within : Each (λ p. (look.request.low ≤ p.0) × (p.0 ≤ look.request.high)) part
  pub own : Each (λ p. IsOwnKey count (bucket_of count (record_at look.request.table look.own)) look.request.table p.0) part
  pub most : after.most ≡ before.most
  pub taken : IfOk answer (Takes before.most look.limit part before.rows after.rows)
