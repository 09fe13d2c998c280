-- What a helper makes of its pass in a round.
use Rattle.std.specs.Prelude.{◌≡◌, ℕ, suc, ◌+◌, ◌<◌, ◌≤◌, ◌^◌, List, [], ◌∷◌, length, map}
use Rattle.atomic_table.specs.Seated.{TableId}
use Rattle.hg_base.specs.declared.rid.Rid.{Rid}
use Rattle.hg_base.specs.declared.report.Kind.TheVariants.{Interval}
use Rattle.hg_base.specs.Lists.{Each}
use Rattle.hg_core.specs.declared.version.Version.{Version}
use Rattle.hg_core.specs.declared.visit.Visit.{Visit}
use Rattle.hg_core.specs.Counters.{removed_all}
use Rattle.hg_rule.specs.declared.view.View.{View}
use Rattle.hg_rule.specs.Facts.{record_of}
use Rattle.hg_rule.specs.Views.{pass}
use Rattle.hg_rule.specs.Seats.{BoardId, pass_view, IsPassOf}
use Rattle.hg_rounds.specs.Visits.{IsVisitOf, GoesOn}
use Rattle.hg_rounds.specs.Sweeping.{IsCleanBy}
use Rattle.hg_rounds.specs.declared.helper.Helper.{Helper}
use Rattle.hg_rounds.specs.Word.{hired, helper_quota}
use Rattle.hg_rounds.specs.Seats.{drawn_by, IsDrawerOf}

-- its pass is of this board, and it draws from this word
abbrev pub IsHelperOf : BoardId → TableId → Helper → Type 0
IsHelperOf t d h = IsPassOf t h.pass × IsDrawerOf d h.drawer

-- it has drawn nothing, and removed nothing
pub record IsReady (h : Helper) : Type 0 where
  pub few : h.number ≤ 16
  pub fresh : drawn_by h.drawer ≡ hired
  pub none : h.removed ≡ 0

-- the numbers of the buckets that were visited
abbrev pub visited : List Visit → List ℕ
visited visits = map (λ (x : Visit). x.bucket) visits

-- of the numbers that a helper drew, the last one first: that one, at which it ended, is of no bucket
abbrev pub EndsPast : ℕ → List ℕ → Type 0
EndsPast buckets [] = ⊥
EndsPast buckets (past ∷ numbers) = buckets ≤ past

-- and the others are those of its buckets
abbrev pub own_buckets : List ℕ → List ℕ
own_buckets [] = []
own_buckets (past ∷ numbers) = numbers

-- each visit is of a bucket that is there, and gave each of its records back as Q has it
abbrev pub AreVisits : (Rid → List Version → Type 0) → ℕ → ℕ → ℕ → List Visit → Type 0
AreVisits Q mark round buckets visits = Each (λ (x : Visit). (x.bucket < buckets) × IsVisitOf Interval Q mark round x.bucket x) visits

-- The pass of v visited the buckets of these numbers, the last one first, and so many versions went.
pub record Helps (Q : Rid → List Version → Type 0) (buckets : ℕ) (v : View) (numbers : List ℕ) (removed : ℕ) (w : View) : Type 0 where
  pub on : GoesOn Interval v w
  pub gone_is : removed ≡ removed_all Interval on.visits
  pub numbers_are : numbers ≡ visited on.visits
  pub each : AreVisits Q (pass v).mark (pass v).round buckets on.visits

-- The helper visited each bucket whose number it drew, and drew one number more, which no bucket has.
pub record HasHelped (buckets : ℕ) (old new : Helper) : Type 0 where
  pub numbers : List ℕ
  pub past : ℕ
  pub helps : Helps (IsCleanBy (record_of (pass (pass_view old.pass)))) buckets (pass_view old.pass) numbers new.removed (pass_view new.pass)
  pub over : buckets ≤ past
  pub drew : (drawn_by new.drawer).numbers ≡ past ∷ numbers
  pub quota_is : (drawn_by new.drawer).left + suc (length numbers) ≡ helper_quota
  pub few : new.removed ≤ 2 ^ 41
