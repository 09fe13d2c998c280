-- What rounds of a collector note in the journal of its pass, and that its reports are read from there and from its visits.
use Rattle.std.specs.Prelude.{◌≡◌, ℕ, suc, ◌+◌, ◌-◌, ◌^◌, ◌<◌, List, [], ◌∷◌, ◌++◌, length, map, ⊤}
use Rattle.hg_base.specs.declared.report.Kind.{Kind}
use Rattle.hg_base.specs.declared.report.Kind.TheVariants.{Group, Table, Interval}
use Rattle.hg_base.specs.declared.report.Sweep.{Sweep}
use Rattle.hg_base.specs.History.{History}
use Rattle.hg_base.specs.Lists.{Each}
use Rattle.hg_core.specs.declared.journal.PassEntry.{PassEntry}
use Rattle.hg_core.specs.declared.journal.PassEntry.TheVariants.{Marked}
use Rattle.hg_core.specs.declared.visit.Visit.{Visit}
use Rattle.hg_core.specs.State.{CoreState}
use Rattle.hg_headline.specs.OneRun.{Round, up_to_mark, rounds_after, taken_in, visits_of, round_report, pass_of, TriesBy, HasCutGroup, Cleans}
use Rattle.hg_rule.specs.declared.view.Sight.{Sight}
use Rattle.hg_rule.specs.declared.view.Sight.TheVariants.{Saw}
use Rattle.hg_rule.specs.declared.view.View.{View}
use Rattle.hg_rule.specs.Facts.{IsAmong, Known, groups}
use Rattle.hg_rule.specs.Views.{pass}

-- an entry of a journal that is no load of the mark
abbrev pub IsInside : PassEntry → Type 0
IsInside (Marked mark) = ⊥
IsInside _ = ⊤

-- group n of a history that was seen: each record that it writes was cut
abbrev pub SawCut : ℕ → List Sight → Round → List Visit → ℕ → Type 0
SawCut buckets sights round visits n = (h : History) × (IsAmong (Saw (groups h)) sights × HasCutGroup buckets h round visits n)

-- what a round of this kind did by these visits, as far as the history was seen
abbrev pub SawCleans : Kind → ℕ → List Sight → Round → List Visit → Type 0
SawCleans Group buckets sights round visits = Each (SawCut buckets sights round visits) (taken_in round.notes)
SawCleans Table buckets sights round visits = Cleans Table buckets [] round visits
SawCleans Interval buckets sights round visits = Cleans Interval buckets [] round visits

-- One round of the collector of that kind, from v to w, as its pass has it. The journal notes its mark and what follows, and the pass made
-- these visits. From them come the report and the tries, and each bucket or group was left by the rule of the kind.
pub record IsNoted (kind : Kind) (long buckets : ℕ) (v : View) (sweep : Sweep) (w : View) : Type 0 where
  pub round : Round
  pub number : round.number ≡ suc (pass v).round
  pub next : (pass w).round ≡ suc (pass v).round
  pub inside : Each IsInside round.notes
  pub journal : (pass w).journal ≡ (pass v).journal ++ Marked round.mark ∷ round.notes
  pub visits : List Visit
  pub more : (pass w).visits ≡ visits ++ (pass v).visits
  pub now : Each (λ visit. visit.round ≡ round.number) visits
  pub report : round_report kind visits round ≡ sweep
  pub rule : TriesBy kind long round
  pub clean : SawCleans kind buckets w.sights round visits

-- The journal of the pass of v goes on to that of w by the rounds of these reports, in their order, and by no other. Each is as `IsNoted`
-- has it, by those of the visits that have its number.
pub record AreNoted (kind : Kind) (long buckets : ℕ) (v : View) (sweeps : List Sweep) (w : View) : Type 0 where
  pub notes : List PassEntry
  pub begins : up_to_mark notes ≡ []
  pub journal : (pass w).journal ≡ (pass v).journal ++ notes
  pub last : (pass w).round ≡ (pass v).round + length sweeps
  pub visits : List Visit
  pub more : (pass w).visits ≡ visits ++ (pass v).visits
  pub later : Each (λ visit. (pass v).round < visit.round) visits
  pub reports : map (λ round. round_report kind (visits_of round visits) round) (rounds_after (pass v).round notes) ≡ sweeps
  pub rule : Each (TriesBy kind long) (rounds_after (pass v).round notes)
  pub clean : Each (λ round. SawCleans kind buckets w.sights round (visits_of round visits)) (rounds_after (pass v).round notes)

-- A state has the journal and the visits of the pass of that collector, and perhaps those of later rounds besides, which try no snapshot
-- unless it is 2^64 - 1 commit numbers old. What the pass has seen is so there.
pub record HasNoted (kind : Kind) (s : CoreState) (w : View) : Type 0 where
  pub notes : List PassEntry
  pub begins : up_to_mark notes ≡ []
  pub rule : Each (TriesBy kind (2 ^ 64 - 1)) (rounds_after (pass w).round notes)
  pub journal : (s.pass (pass_of kind)).journal ≡ (pass w).journal ++ notes
  pub visits : List Visit
  pub later : Each (λ visit. (pass w).round < visit.round) visits
  pub more : s.visits (pass_of kind) ≡ visits ++ (pass w).visits
  pub seen : Each (Known s) w.sights
