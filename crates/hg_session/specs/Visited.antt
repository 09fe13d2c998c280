-- What counting the buckets makes of a pass's view.
use Rattle.std.specs.Prelude.{◌≡◌, ℕ, ◌<◌, List, [], ◌∷◌, ◌++◌, length, Some}
use Rattle.hg_base.specs.declared.line.Totals.{Totals}
use Rattle.hg_base.specs.History.{History}
use Rattle.hg_core.specs.declared.visit.Visit.{Visit}
use Rattle.hg_core.specs.Contents.{Content}
use Rattle.hg_core.specs.Counters.{none_removed}
use Rattle.hg_core.specs.Logs.{newest_of}
use Rattle.hg_rule.specs.declared.board.Board.{Board}
use Rattle.hg_rule.specs.declared.view.Part.TheVariants.{OfPass}
use Rattle.hg_rule.specs.declared.view.View.{View}
use Rattle.hg_rule.specs.declared.view.Sizes.{Sizes}
use Rattle.hg_rule.specs.Facts.{StartsWith}
use Rattle.hg_rule.specs.Rules.{IsBacked}
use Rattle.hg_rule.specs.Views.{number, pass, others}
use Rattle.hg_rule.specs.Holding.{bucket}
use Rattle.hg_rule.specs.Places.{without_bucket}
use Rattle.hg_store.specs.Kept.{AreCountsOf}
use Rattle.hg_rule.specs.Reading.{passes_in}
use Rattle.hg_rule.specs.Seats.{board_id, sizes_of}
use Rattle.hg_store.specs.declared.store.Store.{Store}
use Rattle.hg_store.specs.Stores.{store_board_id, store_buckets, Takes}
use Rattle.hg_headline.specs.Logged.{Logged}
use Rattle.hg_headline.specs.Totalled.{TotalsTell}
use Rattle.hg_session.specs.Ended.{logs_in, visits_in}
use Rattle.hg_session.specs.OneRun.{EndsOneRun}

-- A pass took bucket b, read its counts and gave it back. While it had the bucket, a state that meets the rule backed what it
-- knew.
pub record Counts (z : Sizes) (v : View) (b : ℕ) (counts : Totals) (w : View) : Type 0 where
  pub held : View
  pub takes : Takes v b held
  pub mark : ℕ
  pub backed : IsBacked z mark held
  pub counts_are : AreCountsOf (bucket held).counters counts
  pub after : w ≡ without_bucket held

-- a visit of bucket b that removed nothing, and gave this content back
abbrev pub empty_visit : ℕ → ℕ → ℕ → Content → Visit
empty_visit mark round b content = record { bucket = b; mark = mark; round = round; removed = none_removed; given = Some content }

-- one such visit of each of the first buckets, by their contents; a list of visits has the newest first
abbrev pub empty_visits : ℕ → ℕ → List Content → List Visit
empty_visits mark round [] = []
empty_visits mark round (content ∷ contents) = empty_visit mark round (length contents) content ∷ empty_visits mark round contents

-- The pass gained exactly one visit of each of the first n buckets, in order, none of which removed anything. All else that it has
-- is as before.
pub record HasVisited (v : View) (n : ℕ) (w : View) : Type 0 where
  pub contents : List Content
  pub each : length contents ≡ n
  pub parts : w.parts ≡ OfPass (number v) (record (pass v) { visits = empty_visits (pass v).mark (pass v).round contents ++ (pass v).visits }) ∷ others v
  pub kept : StartsWith w.sights v.sights
  pub events : w.events ≡ v.events

-- these are the buckets of the board, and there are some
abbrev pub AreBucketsOf : Board → Store → Type 0
AreBucketsOf board store = (store_board_id store ≡ board_id board) × (store_buckets store ≡ (sizes_of board).buckets) × (0 < (sizes_of board).buckets)

-- The counts of all buckets, once all sessions and passes are joined to the view, tell of this history. The logs have it, its last
-- number is the greatest that was published, and one list of steps ends so.
abbrev pub TellOf : Sizes → View → History → Totals → Type 0
TellOf z v history totals = TotalsTell z.sessions z.buckets (passes_in v.parts) (logs_in v) (visits_in v) history totals × Logged z.buckets history (logs_in v) ×
    (length history ≡ newest_of z.sessions (logs_in v)) × EndsOneRun z v history totals

-- The counts of all buckets, once all sessions and passes are joined to the view: there is a history of which they tell, which
-- the logs have, whose last number is the greatest that was published, and with which, and with the totals, one list of steps ends.
pub record AreTotals (z : Sizes) (v : View) (totals : Totals) : Type 0 where
  pub history : History
  pub tells : TotalsTell z.sessions z.buckets (passes_in v.parts) (logs_in v) (visits_in v) history totals
  pub logged : Logged z.buckets history (logs_in v)
  pub newest : length history ≡ newest_of z.sessions (logs_in v)
  pub run : EndsOneRun z v history totals
