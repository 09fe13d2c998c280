-- Each record is there once, in its own bucket.
use Rattle.std.specs.Prelude.{◌≡◌, ℕ, ◌<◌, map}
use Rattle.hg_base.specs.Lists.{Each}
use Rattle.hg_base.specs.History.{NoneTwice}
use Rattle.hg_core.specs.Contents.{Content, bucket_of}

-- the records of bucket b are its own, each is of a table that is there, and none is there twice
pub record IsPlaced (tables buckets b : ℕ) (content : Content) : Type 0 where
  pub bucket : Each (λ e. bucket_of buckets e.0 ≡ b) content
  pub table : Each (λ e. e.0.table.0 < tables) content
  pub once : NoneTwice (map (λ e. e.0) content)
